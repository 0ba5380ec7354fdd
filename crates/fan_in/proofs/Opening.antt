-- The desks are opened one by one, each with a pass for each source.
use Rattle.std.proofs.Common.{◌≡◌, ◌≤◌, ◌<◌, ◌+◌, ◌-◌, ◌^◌, arith, length-append, ℕ, List, [], ◌∷◌, ◌++◌, length, get_or, set, sym, ap, subst, ◌∙◌, Option, Some}
use Rattle.std.specs.Prelude.{All, Vec}
use Rattle.std.specs.declared.alloc.Global.{Global}
use Rattle.std.proofs.lemmas.List.{get_or-set_other, length-set}
use Rattle.fan_in.proofs.Lists.{place_more, push_at}
use Rattle.std.proofs.lemmas.List.Elements.{All-push, All-weaker}
use Rattle.stream_base.specs.declared.entry.Entry.{Entry}
use Rattle.turnstile.specs.declared.keeps.Keeps.{Ghosts}
use Rattle.turnstile.specs.declared.pass.Pass.{Pass}
use Rattle.turnstile.specs.declared.turnstile.Turnstile.{Turnstile}
use Rattle.turnstile.specs.Passes.{number, fixed, made, born, room, IsPassOf}
use Rattle.stream_base.specs.Limits.{Definitions}
use Rattle.shard_core.specs.Shard.{Sharded}
use Rattle.fan_in.specs.Desks.{BookedState, fixed_of}
use Rattle.fan_in.specs.declared.fixed_part.FixedPart.{FixedPart}
use Rattle.fan_in.specs.Floors.{GainsSeat, GainSeats, IsFloor, IsSeat, IsZero}

-- the fixed part of a new desk's value
pub part_of : (d e : Definitions) (sources : ℕ) (shard : Sharded) {booked : BookedState} → booked ≡ record { shard = shard; numbers = [] } → shard ≡ record { defs = e; sources = sources; journal = [] } → e ≡ d
    → (let o : Option FixedPart = Some (fixed_of booked) in o) ≡ Some (record { defs = d; sources = sources })
part_of d e sources shard b s c = cc

module _ {g : Ghosts BookedState Entry FixedPart} where
  -- the first rows got their passes of a desk, which pass zero gave their numbers
  pub record IsHanding (desk : Turnstile BookedState Entry FixedPart) (first : Pass BookedState Entry FixedPart g) (i : ℕ) (zero : Pass BookedState Entry FixedPart g) (old now : List (Vec (Pass BookedState Entry FixedPart g) Global)) : Type 0 where
    pub own : IsPassOf desk zero
    pub number_is : number zero ≡ 0
    pub fixed_is : fixed zero ≡ fixed first
    pub made_none : made zero ≡ []
    pub room_left : room zero + i ≡ 2 ^ 62 - 1
    pub born_are : All (λ n. (0 < n) × (n ≤ i)) (born zero)
    pub many : length now ≡ length old
    pub rest : (k : ℕ) (row : Vec (Pass BookedState Entry FixedPart g) Global) → i ≤ k → get_or now k row ≡ get_or old k row
    pub gained : (k : ℕ) (row : Vec (Pass BookedState Entry FixedPart g) Global) → k < i → GainsSeat desk (fixed first) k (get_or old k row).items (get_or now k row).items

  -- one desk more, with its pass zero and a pass in each row
  pub one_desk_more : (f : Option FixedPart) (sources : ℕ) (desks : List (Turnstile BookedState Entry FixedPart)) (zeros : List (Pass BookedState Entry FixedPart g)) (old new : List (Vec (Pass BookedState Entry FixedPart g) Global))
      (desk : Turnstile BookedState Entry FixedPart) (zero : Pass BookedState Entry FixedPart g)
      → IsFloor f sources desks zeros old → IsZero desk f sources zero → length new ≡ length old → GainSeats desk f old new → IsFloor f sources (desks ++ desk ∷ []) (zeros ++ zero ∷ []) new
  one_desk_more f sources desks zeros old new desk zero h z n gain = record {
    zeros_are = record {
      many = let m = (h.zeros_are).many in omega (arith, length-append zeros (zero ∷ []), length-append desks (desk ∷ []));
      each = λ k d p l. push_at (λ (d : Turnstile BookedState Entry FixedPart) (p : Pass BookedState Entry FixedPart g). IsZero d f sources p) desks zeros desk zero (h.zeros_are).many (h.zeros_are).each z k d p (omega (arith, length-append desks (desk ∷ [])));
    };
    many = n ∙ h.many;
    rows_are = λ i row l. let r = h.rows_are i row l in let a = gain i row (let m = h.many in omega arith) in record {
      many = ap length a.adds ∙ (let m = r.many in omega (arith, length-append (get_or old i row).items (a.pass ∷ []), length-append desks (desk ∷ [])));
      each = λ k d p lt. subst (λ (ps : List (Pass BookedState Entry FixedPart g)). IsSeat (get_or (desks ++ desk ∷ []) k d) f i (get_or ps k p)) (sym a.adds) (push_at (λ (d : Turnstile BookedState Entry FixedPart) (p : Pass BookedState Entry FixedPart g). IsSeat d f i p) desks (get_or old i row).items desk a.pass r.many r.each a.seat k d p (omega (arith, length-append desks (desk ∷ []))));
    };
    blank = λ i row l. let a = gain i row (let m = h.many in omega arith) in
        subst (λ (ps : List (Pass BookedState Entry FixedPart g)). All (λ p. made p ≡ []) ps) (sym a.adds) (All-push (λ (p : Pass BookedState Entry FixedPart g). made p ≡ []) (get_or old i row).items a.pass (h.blank i row l) a.made_none);
  }

  -- one row more got its pass
  pub hand_more : (desk : Turnstile BookedState Entry FixedPart) (first : Pass BookedState Entry FixedPart g) (i : ℕ) (zero zero' pass : Pass BookedState Entry FixedPart g) (old now : List (Vec (Pass BookedState Entry FixedPart g) Global))
      (row row' : Vec (Pass BookedState Entry FixedPart g) Global) → IsHanding desk first i zero old now → i < length old → row'.items ≡ (get_or now i row).items ++ pass ∷ []
      → IsPassOf desk zero' × IsPassOf desk pass → number pass + room zero ≡ 2 ^ 62 → fixed pass ≡ fixed zero → (made pass ≡ []) × (born pass ≡ []) → born zero' ≡ born zero ++ number pass ∷ [] → room zero' + 1 ≡ room zero
      → (number zero' ≡ number zero) × (fixed zero' ≡ fixed zero) × (made zero' ≡ made zero) → IsHanding desk first (i + 1) zero' old (set now i row')
  hand_more desk first i zero zero' pass old now row row' h lo adds own n f none b r same =
      let number_is : number pass ≡ i + 1 = (let a = h.room_left in omega arith) in
      record {
        own = own.0;
        number_is = same.0 ∙ h.number_is;
        fixed_is = same.1 ∙ h.fixed_is;
        made_none = same.2 ∙ h.made_none;
        room_left = let a = h.room_left in omega arith;
        born_are = subst (λ (ns : List ℕ). All (λ n. (0 < n) × (n ≤ i + 1)) ns) (sym b)
            (All-push (λ n. (0 < n) × (n ≤ i + 1)) (born zero) (number pass) (All-weaker (λ n. (0 < n) × (n ≤ i)) (λ n. (0 < n) × (n ≤ i + 1)) (λ n a. (a.0, omega arith)) (born zero) h.born_are) (omega arith, omega arith));
        many = length-set now i row' ∙ h.many;
        rest = λ k ro lt. get_or-set_other now i k row' ro (λ e. omega arith) ∙ h.rest k ro (omega arith);
        gained = place_more (λ k (a b : Vec (Pass BookedState Entry FixedPart g) Global). GainsSeat desk (fixed first) k a.items b.items) i old now row row' h.many lo h.rest h.gained (record {
          pass = pass;
          adds = adds;
          seat = record { own = own.1; number_is = number_is; fixed_is = f ∙ h.fixed_is; born_none = none.1 };
          made_none = none.0;
        });
      }
