-- Copies, joins and comparisons keep the rule of the lock.
use Rattle.std.proofs.Common.{◌≡◌, ◌≢◌, ℕ, ◌+◌, ◌<◌, ◌≤◌, Bool, true, false, cond, leb, List, [], ◌∷◌, ◌++◌, length, append-nil, append_assoc, Option, None, set, refl, sym, ap, ◌∙◌, subst, arith, ⊎_elim, leb-true, leb-false}
use Rattle.std.specs.Prelude.{IfSome}
use Rattle.std.proofs.lemmas.List.{set-get_or}
use mathlib.Core.Option.{some, none}
use mathlib.Core.Logic.{dite}
use native.Mathlib.Decide.{ℕ_discrete}
use lib.ListN.{get_elem?}
use Rattle.atomic_table.specs.Table.{State, Me, step, keeps, Allows, Splits, Joins}
use Rattle.atomic_table.proofs.Lists.{at_set, at_snoc, set_again, set_else}
use Rattle.turnstile.specs.declared.view.Stage.TheVariants.{Idle}
use Rattle.turnstile.specs.declared.view.Part.{Part}
use Rattle.turnstile.specs.declared.view.View.{View}
use Rattle.turnstile.specs.History.{BeginsWith, longer}
use Rattle.turnstile.specs.Rule.{total, Each, one_if_some, one_if, births_of, parts, times, rights, in_line, waits, Facts, PartOk, ViewOk, Holds, Rule}
use Rattle.turnstile.specs.Steps.{copy_of, joined, spent, ComparesWith, compared}
use Rattle.turnstile.proofs.Totals.{total-set, total-push, total-append, total-two}
use Rattle.turnstile.proofs.Moves.{changed, same_counts}

module _ {X : Type 0} where
  same_head : (x y : X) (xs ys : List X) → x ∷ xs ≡ y ∷ ys → x ≡ y
  same_head x y xs ys e = cc

  same_tail : (x y : X) (xs ys : List X) → x ∷ xs ≡ y ∷ ys → xs ≡ ys
  same_tail x y xs ys e = cc

  -- of two beginnings of one list the longer begins with the shorter
  pub begins_shorter : (log a b : List X) → BeginsWith log a → BeginsWith log b → length a ≤ length b → BeginsWith b a
  begins_shorter log [] b p q le = (b, refl)
  begins_shorter log (x ∷ xs) [] p q le = absurd (omega arith)
  begins_shorter log (x ∷ xs) (y ∷ ys) p q le =
      let e : x ∷ (xs ++ p.0) ≡ y ∷ (ys ++ q.0) = sym p.1 ∙ q.1 in
      let t = begins_shorter (xs ++ p.0) xs ys (p.0, refl) (q.0, same_tail x y (xs ++ p.0) (ys ++ q.0) e) (omega arith) in
      (t.0, (λ i. sym (same_head x y (xs ++ p.0) (ys ++ q.0) e) i ∷ t.1 i))

  pub begins_itself : (l : List X) → BeginsWith l l
  begins_itself l = ([], sym (append-nil l))

  longer_by : (log a b : List X) → BeginsWith log a → BeginsWith log b → (r : Bool) → leb (length a) (length b) ≡ r → BeginsWith log (cond r b a) × BeginsWith (cond r b a) a × BeginsWith (cond r b a) b
  longer_by log a b p q true is = (q, begins_shorter log a b p q (leb-true (length a) (length b) is), begins_itself b)
  longer_by log a b p q false is = (p, begins_itself a, begins_shorter log b a q p (let lt : length b < length a = leb-false (length a) (length b) is in omega arith))

  -- the longer of two beginnings is one too, and begins with both
  pub longer_begins : (log a b : List X) → BeginsWith log a → BeginsWith log b → BeginsWith log (longer a b) × BeginsWith (longer a b) a × BeginsWith (longer a b) b
  longer_begins log a b p q = longer_by log a b p q (leb (length a) (length b)) refl

module _ {I F : Type 0} where
  births-append : (l m : List (Part I F)) → births_of (l ++ m) ≡ births_of l ++ births_of m
  births-append [] m = refl
  births-append (p ∷ ps) m = ap (λ z. p.born ++ z) (births-append ps m) ∙ sym (append_assoc p.born (births_of ps) (births_of m))

nil_parts : (a b : List ℕ) → a ++ b ≡ [] → (a ≡ []) × (b ≡ [])
nil_parts [] b e = (refl, e)
nil_parts (x ∷ xs) b e = absurd (cc)

module _ {A : Type 0} where
  each-append : (P : A → Type 0) (l m : List A) → Each P l → Each P m → Each P (l ++ m)
  each-append P [] m a b = b
  each-append P (x ∷ xs) m a b = (a.0, each-append P xs m a.1 b)

module _ {T I F : Type 0} (items : T → List (ℕ × I)) (fixed : T → F) where
  -- a view without numbers comes to be beside the others
  pub added : (s : State T (View I F)) (h : Facts I F) → Holds items fixed s h → (w : View I F) → waits w ≡ 0 → rights w ≡ 0 → ((n : ℕ) → times n w ≡ 0) → ((i : ℕ) → ViewOk h i w)
      → Holds items fixed (record { words = s.words; homes = s.homes; views = s.views ++ w ∷ [] }) h
  added s h o w no_wait no_right no_number ok = record {
    words = o.words;
    slot = o.slot;
    line = let p = total-push waits s.views w in let l = o.line in omega arith;
    in_turn = o.in_turn;
    rights = let p = total-push rights s.views w in let l = o.rights in omega arith;
    apart = λ n. let p = total-push (times n) s.views w in let a = o.apart n in let z = no_number n in omega arith;
    drawn = λ n le. let p = total-push (times n) s.views w in let a = o.drawn n le in let z = no_number n in omega arith;
    past = o.past;
    each = λ i u e. ⊎_elim (o.each i u) (λ (t : w ≡ u). subst (ViewOk h i) t (ok i)) (at_snoc s.views w u i e);
  }

  pub copies : (id : ℕ) (v : View I F) → Splits (Rule items fixed) id v v (copy_of v)
  copies id v s r at = let h = r.0 in let o = r.1 in let ok = o.each id v at in let w : View I F = copy_of v in
      let here : set s.views id v ≡ s.views = set_again s.views id v at in
      subst (λ l. Rule items fixed (record { words = s.words; homes = s.homes; views = l ++ w ∷ [] })) (sym here) (
        h,
        added s h o w refl refl (λ n. refl) (λ i. record {
          stage = tt;
          each = (record { seen = ok.each.0.seen; own = tt }, tt);
          line = omega arith;
          zero = λ some_zero. absurd (omega arith);
          other = λ _. record { room = refl; pending = refl; born = refl };
        }),
      )

  -- one view has what the other had, and the other has nothing
  both_ok : (s : State T (View I F)) (h : Facts I F) → Holds items fixed s h → (id other : ℕ) (v w : View I F) → other ≢ id → get_elem? s.views id ≡ some v → get_elem? s.views other ≡ some w
      → v.stage ≡ Idle → v.pending ≡ None → w.pending ≡ None → ViewOk h id (joined v w)
  both_ok s h o id other v w apart at there idle none_v none_w =
      let a = o.each id v at in let b = o.each other w there in let idle_line : waits v ≡ 0 = ap in_line idle in
      let two = total-two (times 0) s.views id other v w apart at there in let one = o.apart 0 in
      let zero_v : one_if 0 v.pending ≡ 0 = ap (one_if 0) none_v in let zero_w : one_if 0 w.pending ≡ 0 = ap (one_if 0) none_w in
      let sum = total-append (λ (p : Part I F). one_if 0 p.number) (parts w) v.others in
      let all : times 0 (joined v w) ≡ times 0 v + times 0 w = omega arith in
      let out_v : one_if_some v.pending ≡ 0 = ap one_if_some none_v in let out_w : one_if_some w.pending ≡ 0 = ap one_if_some none_w in
      let births : births_of (parts (joined v w)) ≡ v.main.born ++ (births_of (parts w) ++ births_of v.others) = ap (λ z. v.main.born ++ z) (births-append (parts w) v.others) in
      record {
        stage = a.stage;
        each = (a.each.0, each-append (PartOk h) (parts w) v.others b.each a.each.1);
        line = omega arith;
        zero = λ some_zero. dite (ℕ_discrete (times 0 v) 0)
            (λ lacks. let x = a.other lacks in let y = b.zero (omega arith) in let xr = x.room in let yd = y.drawn in let yl = y.left in record {
              drawn = omega arith;
              left = omega arith;
              pending = subst (λ (q : Option ℕ). IfSome q (λ n. n ≡ h.handed)) (sym none_v) tt;
              born = let none = nil_parts v.main.born (births_of v.others) x.born in births ∙ ((λ i. none.0 i ++ (births_of (parts w) ++ none.1 i)) ∙ (append-nil (births_of (parts w)) ∙ y.born));
            })
            (λ has. let x = a.zero (omega arith) in let y = b.other (omega arith) in let xd = x.drawn in let xl = x.left in let yr = y.room in record {
              drawn = x.drawn;
              left = omega arith;
              pending = x.pending;
              born = births ∙ ((λ i. v.main.born ++ (y.born i ++ births_of v.others)) ∙ x.born);
            });
        other = λ no_zero. let x = a.other (omega arith) in let y = b.other (omega arith) in let xr = x.room in let yr = y.room in record {
          room = omega arith;
          pending = none_v;
          born = let none = nil_parts v.main.born (births_of v.others) x.born in births ∙ (λ i. none.0 i ++ (y.born i ++ none.1 i));
        };
      }

  pub joins : (id : ℕ) (v : View I F) (other : ℕ) (w : View I F) → v.stage ≡ Idle → w.stage ≡ Idle → v.pending ≡ None → w.pending ≡ None → Joins (Rule items fixed) id v other w (joined v w) spent
  joins id v other w idle rests none_v none_w s r at apart there' =
      let h = r.0 in let o = r.1 in let both : View I F = joined v w in let there : get_elem? s.views other ≡ some w = sym (set_else s.views id other both apart) ∙ there' in
      let idle_v : waits v ≡ 0 = ap in_line idle in let idle_w : waits w ≡ 0 = ap in_line rests in
      let out_v : one_if_some v.pending ≡ 0 = ap one_if_some none_v in let out_w : one_if_some w.pending ≡ 0 = ap one_if_some none_w in
      let l : List (View I F) = set s.views id both in
      let same_times : (n : ℕ) → total (times n) (set l other spent) ≡ total (times n) s.views = λ n.
      let a = total-set (times n) s.views id v both at in let b = total-set (times n) l other w spent there' in
      let sum = total-append (λ (p : Part I F). one_if n p.number) (parts w) v.others in
      let zero_v : one_if n v.pending ≡ 0 = ap (one_if n) none_v in let zero_w : one_if n w.pending ≡ 0 = ap (one_if n) none_w in omega arith in (
        h,
        record {
          words = o.words;
          slot = o.slot;
          line = let a = total-set waits s.views id v both at in let b = total-set waits l other w spent there' in let c = o.line in omega arith;
          in_turn = o.in_turn;
          rights = let a = total-set rights s.views id v both at in let b = total-set rights l other w spent there' in let c = o.rights in
              let sum = total-append (λ (p : Part I F). one_if_some p.number) (parts w) v.others in omega arith;
          apart = λ n. let e = same_times n in let a = o.apart n in omega arith;
          drawn = λ n le. same_times n ∙ o.drawn n le;
          past = o.past;
          each = λ i u e. ⊎_elim (λ (k : (i ≡ other) × (spent ≡ u)). subst (ViewOk h i) k.1 record {
            stage = tt;
            each = (record { seen = (h.log, refl); own = tt }, tt);
            line = omega arith;
            zero = λ some_zero. absurd (omega arith);
            other = λ _. record { room = refl; pending = refl; born = refl };
          }) (λ (k : (i ≢ other) × (get_elem? l i ≡ some u)). ⊎_elim
              (λ (m : (i ≡ id) × (both ≡ u)). subst (λ (x : ℕ × View I F). ViewOk h x.0 x.1) (λ b. (sym m.0 b, m.1 b)) (both_ok s h o id other v w apart at there idle none_v none_w))
              (λ (m : (i ≢ id) × (get_elem? s.views i ≡ some u)). o.each i u m.1) (at_set s.views id i both u k.1)) (at_set l other i spent u e);
        },
      )

  pub compares : (slots id : ℕ) (me : Me T (View I F)) (c : Part I F) → me.0.others ≡ c ∷ [] → c.number ≡ None → c.born ≡ [] → Allows (Rule items fixed) slots id me 0 (λ n. n) (compared (step slots 0 0 0 none) me)
  compares slots id me c others none_c no_births s r deep at small =
      let h = r.0 in let o = r.1 in let v = me.0 in let ok = o.each id v at in let list : List (ℕ × I) = longer v.main.seen c.seen in
      let w : View I F = record v { main = record v.main { seen = list }; others = [] } in
      let c_ok : PartOk h c = (subst (Each (PartOk h)) others ok.each.1).0 in
      let begins = longer_begins h.log v.main.seen c.seen ok.each.0.seen c_ok.seen in
      let births : births_of (parts v) ≡ v.main.born ++ [] = ap (λ l. v.main.born ++ births_of l) others ∙ ap (λ l. v.main.born ++ (l ++ [])) no_births in
      let same_times : (n : ℕ) → times n w ≡ times n v = λ n. let e : total (λ (p : Part I F). one_if n p.number) v.others ≡ 0 = ap (total (λ (p : Part I F). one_if n p.number)) others ∙ ap (λ q. one_if n q + 0) none_c in omega arith in
      let same_rights : rights w ≡ rights v = let e : total (λ (p : Part I F). one_if_some p.number) v.others ≡ 0 = ap (total (λ (p : Part I F). one_if_some p.number)) others ∙ ap (λ q. one_if_some q + 0) none_c in omega arith in
      let line = ok.line in let zeros = same_times 0 in (
        w,
        keeps,
        tt,
        (
          h,
          changed items fixed s h h o id v w at _ s.homes record {
            words = set-get_or s.words 0 0 ∙ o.words;
            slot = o.slot;
            line = refl;
            in_turn = o.in_turn;
            rights_same = same_rights;
            counts = same_counts items fixed h h v w refl same_times;
            past = o.past;
            mine = record {
              stage = ok.stage;
              each = (record { seen = begins.0; own = ok.each.0.own }, tt);
              line = omega arith;
              zero = λ some_zero. let z = ok.zero (omega arith) in record { drawn = z.drawn; left = z.left; pending = z.pending; born = sym births ∙ z.born };
              other = λ no_zero. let z = ok.other (omega arith) in record { room = z.room; pending = z.pending; born = sym births ∙ z.born };
            };
            others = λ j u ne there okay. okay;
          },
        ),
        subst (ComparesWith me (w, me.1)) (sym others) (refl, begins.1, begins.2),
      )
