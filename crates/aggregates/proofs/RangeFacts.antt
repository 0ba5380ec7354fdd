-- The least and the greatest of the values of both.
use Rattle.std.proofs.Common.{◌≡◌, ◌∙◌, ℤ, pos, negsuc, Bool, true, false, None, Some, ap, sym, refl, subst, arith, cond}
use Rattle.std.specs.Prelude.{FitsSigned, int_lt, if◌then◌else◌}
use Rattle.std.specs.Int.{w64, int_min, int_max}
use Rattle.std.proofs.lemmas.Bool.{false≢true}
use Rattle.std.proofs.lemmas.Int.{ints}
use Rattle.stream_base.specs.Model.Functions.{either_or}
use Rattle.aggregates.specs.declared.extremes.Extremes.TheInside.{Inside}
use Rattle.aggregates.specs.Ranges.{AreExtremes, picked, range_of}

above_all : (x : ℤ) → FitsSigned w64 x → int_min (pos 9223372036854775807) x ≡ x
above_all x h = grind (arith, ints)

below_all : (x : ℤ) → FitsSigned w64 x → int_max (negsuc 9223372036854775807) x ≡ x
below_all x h = grind (arith, ints)

all_above : (x : ℤ) → FitsSigned w64 x → int_min x (pos 9223372036854775807) ≡ x
all_above x h = grind (arith, ints)

all_below : (x : ℤ) → FitsSigned w64 x → int_max x (negsuc 9223372036854775807) ≡ x
all_below x h = grind (arith, ints)

apart : (al am bl bm : ℤ) → int_lt am al ≡ false → int_lt bm bl ≡ false → int_lt (int_max am bm) (int_min al bl) ≡ false
apart al am bl bm h k = grind (arith, ints)

min_closed : (x y : ℤ) → FitsSigned w64 x → FitsSigned w64 y → FitsSigned w64 (int_min x y)
min_closed x y hx hy = elim (int_lt y x) as (λ b. FitsSigned w64 (cond b y x)) [ true ↦ hy | false ↦ hx ]

max_closed : (x y : ℤ) → FitsSigned w64 x → FitsSigned w64 y → FitsSigned w64 (int_max x y)
max_closed x y hx hy = elim (int_lt y x) as (λ b. FitsSigned w64 (cond b x y)) [ true ↦ hx | false ↦ hy ]

-- of both together
abbrev both : Inside → Inside → Inside
both a b = record { least = int_min a.least b.least; most = int_max a.most b.most }

-- what is picked where the test is known
chosen : (b : Bool) (a : Inside) (value : ℤ) → int_lt a.most a.least ≡ b → picked a value ≡ (if b then None else Some value)
chosen b a value e = ap (λ t. if t then None else Some value) e

module _ (a b : Inside) (ha : AreExtremes a) (hb : AreExtremes b) where
  -- the two ranges joined, by which of the two have values
  joined : (p q : Bool) → int_lt a.most a.least ≡ p → int_lt b.most b.least ≡ q → (range_of (both a b) ≡ (either_or int_min (picked a a.least) (picked b b.least), either_or int_max (picked a a.most) (picked b b.most))) × (int_lt (int_max a.most b.most) (int_min a.least b.least) ≡ true → (int_min a.least b.least ≡ pos 9223372036854775807) × (int_max a.most b.most ≡ negsuc 9223372036854775807))
  joined true q ep eq =
      let least : int_min a.least b.least ≡ b.least = ap (λ v. int_min v b.least) (ha.none ep).0 ∙ above_all b.least hb.least in
      let most : int_max a.most b.most ≡ b.most = ap (λ v. int_max v b.most) (ha.none ep).1 ∙ below_all b.most hb.most in
      let low : either_or int_min (picked a a.least) (picked b b.least) ≡ picked b b.least = ap (λ o. either_or int_min o (picked b b.least)) (chosen true a a.least ep) in
      let high : either_or int_max (picked a a.most) (picked b b.most) ≡ picked b b.most = ap (λ o. either_or int_max o (picked b b.most)) (chosen true a a.most ep) in (
        (λ i. range_of (record { least = least i; most = most i })) ∙ sym (λ i. (low i, high i)),
        (λ e. let h = hb.none (sym (λ i. int_lt (most i) (least i)) ∙ e) in (least ∙ h.0, most ∙ h.1)),
      )
  joined false true ep eq =
      let least : int_min a.least b.least ≡ a.least = ap (int_min a.least) (hb.none eq).0 ∙ all_above a.least ha.least in
      let most : int_max a.most b.most ≡ a.most = ap (int_max a.most) (hb.none eq).1 ∙ all_below a.most ha.most in
      let low : either_or int_min (picked a a.least) (picked b b.least) ≡ picked a a.least = (λ i. either_or int_min (chosen false a a.least ep i) (chosen true b b.least eq i)) ∙ sym (chosen false a a.least ep) in
      let high : either_or int_max (picked a a.most) (picked b b.most) ≡ picked a a.most = (λ i. either_or int_max (chosen false a a.most ep i) (chosen true b b.most eq i)) ∙ sym (chosen false a a.most ep) in (
        (λ i. range_of (record { least = least i; most = most i })) ∙ sym (λ i. (low i, high i)),
        (λ e. let h = ha.none (sym (λ i. int_lt (most i) (least i)) ∙ e) in (least ∙ h.0, most ∙ h.1)),
      )
  joined false false ep eq =
      let none : int_lt (int_max a.most b.most) (int_min a.least b.least) ≡ false = apart a.least a.most b.least b.most ep eq in
      let low : either_or int_min (picked a a.least) (picked b b.least) ≡ Some (int_min a.least b.least) = λ i. either_or int_min (chosen false a a.least ep i) (chosen false b b.least eq i) in
      let high : either_or int_max (picked a a.most) (picked b b.most) ≡ Some (int_max a.most b.most) = λ i. either_or int_max (chosen false a a.most ep i) (chosen false b b.most eq i) in (
        (λ i. (chosen false (both a b) (int_min a.least b.least) none i, chosen false (both a b) (int_max a.most b.most) none i)) ∙ sym (λ i. (low i, high i)),
        (λ e. absurd (false≢true (sym none ∙ e))),
      )

  pub range_of_both : (r : Inside) → r.least ≡ int_min a.least b.least → r.most ≡ int_max a.most b.most → range_of r ≡ (either_or int_min (picked a a.least) (picked b b.least), either_or int_max (picked a a.most) (picked b b.most))
  range_of_both r el em = (λ i. range_of (record { least = el i; most = em i })) ∙ (joined (int_lt a.most a.least) (int_lt b.most b.least) refl refl).0

  pub are_extremes : (r : Inside) → r.least ≡ int_min a.least b.least → r.most ≡ int_max a.most b.most → AreExtremes r
  are_extremes r el em = record {
    least = subst (FitsSigned w64) (sym el) (min_closed a.least b.least ha.least hb.least);
    most = subst (FitsSigned w64) (sym em) (max_closed a.most b.most ha.most hb.most);
    none = λ e. let h = (joined (int_lt a.most a.least) (int_lt b.most b.least) refl refl).1 ((λ i. int_lt (sym em i) (sym el i)) ∙ e) in (el ∙ h.0, em ∙ h.1);
  }
