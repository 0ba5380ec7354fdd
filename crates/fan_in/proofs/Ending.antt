-- All desks are closed, from the last one down.
use Rattle.std.proofs.Common.{◌≡◌, ◌≤◌, ◌<◌, ◌+◌, ◌-◌, arith, length-append, ℕ, zero, suc, List, [], ◌∷◌, ◌++◌, length, take, get_or, sym, refl, ap, subst, ◌∙◌, Option}
use Rattle.std.specs.Prelude.{All, Vec}
use Rattle.std.specs.declared.alloc.Global.{Global}
use Rattle.std.proofs.lemmas.List.{get_or_append_left, get_or_push, get_or-take, length-take, take-take}
use Rattle.std.proofs.lemmas.List.Elements.{All-cons, All-take}
use Rattle.stream_base.specs.declared.entry.Entry.{Entry}
use Rattle.shard_core.specs.Shard.{Sharded}
use Rattle.turnstile.specs.declared.keeps.Keeps.{Ghosts}
use Rattle.turnstile.specs.declared.pass.Pass.{Pass}
use Rattle.turnstile.specs.declared.turnstile.Turnstile.{Turnstile}
use Rattle.turnstile.specs.Passes.{born, fixed, made}
use Rattle.fan_in.specs.Closings.{AreClosed, AreStanding, EndAt, IsClosed, IsSettled, LoseLast, MadeOwn, SettlesLast, last_of}
use Rattle.fan_in.specs.Desks.{BookedState}
use Rattle.fan_in.specs.Floors.{IsSeat, IsZero}
use Rattle.fan_in.specs.declared.fixed_part.FixedPart.{FixedPart}

module _ {g : Ghosts BookedState Entry FixedPart} (f : Option FixedPart) (sources n : ℕ) (first : List (Vec (Pass BookedState Entry FixedPart g) Global)) where
  -- the last desks are closed, and the others stand as they did
  pub record IsClosing (desks : List (Turnstile BookedState Entry FixedPart)) (zeros : List (Pass BookedState Entry FixedPart g)) (rows : List (Vec (Pass BookedState Entry FixedPart g) Global)) (shards : List Sharded) : Type 0 where
    pub standing : AreStanding f sources desks zeros rows
    pub count : length desks + length shards ≡ n
    pub rows_first : length first ≡ sources
    pub rest : (i : ℕ) (row : Vec (Pass BookedState Entry FixedPart g) Global) → i < sources → (get_or rows i row).items ≡ take (length desks) (get_or first i row).items
    pub closed : All (IsClosed f) shards
    pub settled : (k i : ℕ) (s : Sharded) (row : Vec (Pass BookedState Entry FixedPart g) Global) (p : Pass BookedState Entry FixedPart g) → k < length shards → i < sources
        → IsSettled (get_or shards k s) i (get_or (get_or first i row).items (length desks + k) p)

  module _ (desk : Turnstile BookedState Entry FixedPart) (pass : Pass BookedState Entry FixedPart g) (desks' desks : List (Turnstile BookedState Entry FixedPart)) (zeros' zeros : List (Pass BookedState Entry FixedPart g)) (rows : List (Vec (Pass BookedState Entry FixedPart g) Global)) (shards : List Sharded)
      (h : IsClosing desks' zeros' rows shards) (d : desks' ≡ desks ++ desk ∷ []) (z : zeros' ≡ zeros ++ pass ∷ []) where
    len : length desks' ≡ length desks + 1
    len = ap length d ∙ (omega (arith, length-append desks (desk ∷ [])))

    zlen : length zeros ≡ length desks
    zlen = let a = ap length z in let b = ((h.standing).zeros_are).many in omega (arith, len, length-append zeros (pass ∷ []))

    zero_last : IsZero desk f sources pass
    zero_last =
        let at = ((h.standing).zeros_are).each (length desks) desk pass (omega (arith, len)) in
        let p : get_or zeros' (length desks) pass ≡ pass = ap (λ (l : List (Pass BookedState Entry FixedPart g)). get_or l (length desks) pass) z ∙ get_or_push zeros pass pass (length desks) zlen in
        let q : get_or desks' (length desks) desk ≡ desk = ap (λ (l : List (Turnstile BookedState Entry FixedPart)). get_or l (length desks) desk) d ∙ get_or_push desks desk desk (length desks) refl in
        subst (λ x. IsZero x f sources pass) q (subst (λ x. IsZero (get_or desks' (length desks) desk) f sources x) p at)

    pub zero_is : IsZero desk (fixed pass) (length rows) pass
    zero_is =
        let at = zero_last in
        record { own = at.own; number_is = at.number_is; fixed_is = refl; made_none = at.made_none; born_are = subst (λ (m : ℕ). All (λ n. (0 < n) × (n ≤ m)) (born pass)) (sym (h.standing).many) at.born_are }

    pub ends_at : EndAt desk (fixed pass) rows
    ends_at i row l =
        let lt : i < sources = let m = (h.standing).many in omega arith in
        let r = (h.standing).rows_are i row lt in
        let long : length (get_or rows i row).items ≡ length desks + 1 = r.many ∙ len in
        let place : length (get_or rows i row).items - 1 ≡ length desks = omega arith in
        record {
          some = omega arith;
          seat = λ p.
              let at = r.each (length desks) desk p (omega (arith, len)) in
              let q : get_or desks' (length desks) desk ≡ desk = ap (λ (l : List (Turnstile BookedState Entry FixedPart)). get_or l (length desks) desk) d ∙ get_or_push desks desk desk (length desks) refl in
              subst (λ (m : ℕ). IsSeat desk (fixed pass) i (get_or (get_or rows i row).items m p)) (sym place)
              (subst (λ x. IsSeat desk x i (get_or (get_or rows i row).items (length desks) p)) (sym zero_last.fixed_is)
              (subst (λ x. IsSeat x f i (get_or (get_or rows i row).items (length desks) p)) q at));
          own = λ p. (h.standing).own i row lt (length (get_or rows i row).items - 1) p (omega arith);
        }

    module _ (shard : Sharded) (rows' : List (Vec (Pass BookedState Entry FixedPart g) Global)) (closes : IsClosed (fixed pass) shard) (settles : SettlesLast shard rows) (lose : LoseLast rows rows') where
      old_long : (i : ℕ) (row : Vec (Pass BookedState Entry FixedPart g) Global) → i < sources → length (get_or rows i row).items ≡ length desks + 1
      old_long i row l = ((h.standing).rows_are i row l).many ∙ len

      cut : (i : ℕ) (row : Vec (Pass BookedState Entry FixedPart g) Global) → i < sources → (get_or rows' i row).items ≡ take (length desks) (get_or rows i row).items
      cut i row l = lose.each i row (let m = (h.standing).many in omega arith) ∙ ap (λ n. take n (get_or rows i row).items) (let o = old_long i row l in omega arith)

      desk_at : (k : ℕ) (d0 : Turnstile BookedState Entry FixedPart) → k < length desks → get_or desks' k d0 ≡ get_or desks k d0
      desk_at k d0 l = ap (λ (x : List (Turnstile BookedState Entry FixedPart)). get_or x k d0) d ∙ get_or_append_left desks (desk ∷ []) d0 k l

      zero_at : (k : ℕ) (p : Pass BookedState Entry FixedPart g) → k < length desks → get_or zeros' k p ≡ get_or zeros k p
      zero_at k p l = ap (λ (x : List (Pass BookedState Entry FixedPart g)). get_or x k p) z ∙ get_or_append_left zeros (pass ∷ []) p k (omega (arith, zlen))

      standing' : AreStanding f sources desks zeros rows'
      standing' = record {
        zeros_are = record {
          many = zlen;
          each = λ k d0 p l.
              subst (λ x. IsZero x f sources (get_or zeros k p)) (desk_at k d0 l) (subst (λ x. IsZero (get_or desks' k d0) f sources x) (zero_at k p l) (((h.standing).zeros_are).each k d0 p (omega (arith, len))));
        };
        many = lose.many ∙ (h.standing).many;
        rows_are = λ i row l. record {
          many = ap length (cut i row l) ∙ (let o = old_long i row l in omega (arith, length-take (length desks) (get_or rows i row).items));
          each = λ k d0 p lk.
              let at = ((h.standing).rows_are i row l).each k d0 p (omega (arith, len)) in
              let is : get_or (get_or rows' i row).items k p ≡ get_or (get_or rows i row).items k p = ap (λ (x : List (Pass BookedState Entry FixedPart g)). get_or x k p) (cut i row l) ∙ get_or-take (length desks) (get_or rows i row).items k p lk in
              subst (λ x. IsSeat x f i (get_or (get_or rows' i row).items k p)) (desk_at k d0 lk) (subst (λ x. IsSeat (get_or desks' k d0) f i x) (sym is) at);
        };
        own = λ i row l. subst (λ (x : List (Pass BookedState Entry FixedPart g)). MadeOwn i x) (sym (cut i row l)) (All-take (λ p. All (λ e. e.source ≡ i) (made p)) (length desks) (get_or rows i row).items ((h.standing).own i row l));
      }

      rest' : (i : ℕ) (row : Vec (Pass BookedState Entry FixedPart g) Global) → i < sources → (get_or rows' i row).items ≡ take (length desks) (get_or first i row).items
      rest' i row l = cut i row l ∙ ap (take (length desks)) (h.rest i row l) ∙ (let w = len in grind (arith, take-take))

      at_last : (i : ℕ) (row : Vec (Pass BookedState Entry FixedPart g) Global) (p : Pass BookedState Entry FixedPart g) → i < sources → last_of (get_or rows i row).items p ≡ get_or (get_or first i row).items (length desks) p
      at_last i row p l =
          ap (λ m. get_or (get_or rows i row).items m p) (let o = old_long i row l in let e : length (get_or rows i row).items - 1 ≡ length desks = omega arith in e)
          ∙ ap (λ (x : List (Pass BookedState Entry FixedPart g)). get_or x (length desks) p) (h.rest i row l)
          ∙ get_or-take (length desks') (get_or first i row).items (length desks) p (omega (arith, len))

      settled' : (k i : ℕ) (s : Sharded) (row : Vec (Pass BookedState Entry FixedPart g) Global) (p : Pass BookedState Entry FixedPart g) → k < length (shard ∷ shards) → i < sources
          → IsSettled (get_or (shard ∷ shards) k s) i (get_or (get_or first i row).items (length desks + k) p)
      settled' zero i s row p lk l =
          subst (λ x. IsSettled shard i x) (at_last i row p l ∙ ap (λ m. get_or (get_or first i row).items m p) (let e : length desks ≡ length desks + 0 = omega arith in e))
          (settles i row p (let m = (h.standing).many in omega arith))
      settled' (suc k) i s row p lk l =
          subst (λ (m : ℕ). IsSettled (get_or shards k s) i (get_or (get_or first i row).items m p)) (let w = len in let e : length desks' + k ≡ length desks + suc k = omega arith in e)
          (h.settled k i s row p (let b : suc k < suc (length shards) = lk in omega arith) l)

      pub next_closed : (shards' : List Sharded) → shards' ≡ shard ∷ shards → IsClosing desks zeros rows' shards'
      next_closed shards' e = subst (λ s. IsClosing desks zeros rows' s) (sym e) (record {
        standing = standing';
        count = let c = h.count in let w = len in let b : length (shard ∷ shards) ≡ suc (length shards) = refl in omega arith;
        rows_first = h.rows_first;
        rest = rest';
        closed = All-cons (IsClosed f) shard shards (subst (λ x. IsClosed x shard) zero_last.fixed_is closes) h.closed;
        settled = settled';
      })

  -- no desk is left
  pub all_closed : (desks : List (Turnstile BookedState Entry FixedPart)) (zeros : List (Pass BookedState Entry FixedPart g)) (rows : List (Vec (Pass BookedState Entry FixedPart g) Global)) (shards : List Sharded)
      → IsClosing desks zeros rows shards → length desks ≡ 0 → AreClosed f first shards
  all_closed desks zeros rows shards h e = record {
    closed = h.closed;
    settled = λ k i s row p lk l. subst (λ (m : ℕ). IsSettled (get_or shards k s) i (get_or (get_or first i row).items m p)) (let w : length desks + k ≡ k = omega arith in w)
        (h.settled k i s row p lk (let m = h.rows_first in omega arith));
  }
