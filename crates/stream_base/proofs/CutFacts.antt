-- The cuts of windows and marks between two times.
use Rattle.std.proofs.Common.{[], ◌∷◌, ap, ◌≡◌, ◌≤◌, ◌<◌, ◌↔◌, ◌||◌, ◌&&◌, ℕ, Bool, true, false, IsTrue, List, length, get_or, inl, inr, arith, refl}
use Rattle.std.proofs.lemmas.Bool.{or_cases, or_left, or_right, ltb-true, lt-ltb, leb-true, le-leb, and_parts, and_from, false≢true}
use Rattle.std.proofs.lemmas.Bool.Decides.{nat_tests}
use Rattle.std.proofs.lemmas.List.Folds.{Any-from_list_any, list_any-from_Any}
use Rattle.std.specs.List.{All, Any, list_any}
use Rattle.std.specs.Prelude.{nat_le, nat_lt}
use Rattle.stream_base.specs.declared.def.Def.{Def}
use Rattle.stream_base.specs.Kinds.{CutsBetween, IsKindWithin, cuts_between}
use Rattle.stream_base.specs.Model.Cuts.{HasCut, has_cut}
use Rattle.stream_base.proofs.KindFacts.{cuts_found, cuts_stay, cuts_tested}

kind_at : (windows : List Def) (k : ℕ) (w : Def) → All (λ x. IsKindWithin x.kind) windows → k < length windows → get_or windows k w ≡ w → IsKindWithin w.kind
kind_at windows k w within lt at = rw at at (within k w lt)

-- some window cuts where the computed test finds one, and only there
pub any_decides : (windows : List Def) (low high : ℕ) → All (λ w. IsKindWithin w.kind) windows
    → IsTrue (list_any (λ w. cuts_between w.kind low high) windows) ↔ Any (λ w. CutsBetween w.kind low high) windows
any_decides windows low high within = (
  λ h. let (k, w, lt, at, passes) = Any-from_list_any (λ (x : Def). cuts_between x.kind low high) windows h in
      (k, w, lt, at, cuts_found w.kind low high (kind_at windows k w within lt at) passes),
  λ (k, w, lt, at, cuts). list_any-from_Any (λ (x : Def). cuts_between x.kind low high) windows
      (k, w, lt, at, cuts_tested w.kind low high (kind_at windows k w within lt at) cuts),
)

-- some mark lies after low and at or before high where the computed test finds one, and only there
marks_decide : (marks : List ℕ) (low high : ℕ) → (list_any (λ m. nat_lt low m && nat_le m high) marks ≡ true) ↔ Any (λ m. (low < m) × (m ≤ high)) marks
marks_decide marks low high = (
  λ h. let (k, m, lt, at, passes) = Any-from_list_any (λ m. nat_lt low m && nat_le m high) marks h in
      let both = and_parts (nat_lt low m) (nat_le m high) passes in
      (k, m, lt, at, (ltb-true low m both.0, leb-true m high both.1)),
  λ (k, m, lt, at, within). list_any-from_Any (λ m. nat_lt low m && nat_le m high) marks
      (k, m, lt, at, and_from (nat_lt low m) (nat_le m high) (lt-ltb low m within.0) (le-leb m high within.1)),
)

-- the computed test of all windows and marks is true where there is a cut, and only there
pub cut_decides : (windows : List Def) (marks : List ℕ) (low high : ℕ) → All (λ w. IsKindWithin w.kind) windows → (has_cut windows marks low high ≡ true) ↔ HasCut windows marks low high
cut_decides windows marks low high within =
    let by_windows = list_any (λ (w : Def). cuts_between w.kind low high) windows in
    let by_marks = list_any (λ m. nat_lt low m && nat_le m high) marks in (
      λ h. elim (or_cases by_windows by_marks h) [ inl w ↦ inl ((any_decides windows low high within).0 w) | inr m ↦ inr ((marks_decide marks low high).0 m) ],
      λ cut. elim cut [
        | inl w ↦ or_left by_windows by_marks ((any_decides windows low high within).1 w)
        | inr m ↦ or_right by_windows by_marks ((marks_decide marks low high).1 m)
      ],
    )

any_more : {X : Type 0} (p q : X → Bool) (xs : List X) → ((x : X) → p x ≡ true → q x ≡ true) → list_any p xs ≡ true → list_any q xs ≡ true
any_more p q [] h e = absurd (false≢true e)
any_more p q (x ∷ xs) h e = by (p x) refl (any_more p q xs h) e
  where
    by : (b : Bool) → p x ≡ b → (list_any p xs ≡ true → list_any q xs ≡ true) → (b || list_any p xs) ≡ true → (q x || list_any q xs) ≡ true
    by true is later g = ap (λ c. c || list_any q xs) (h x is)
    by false is later g = or_right (q x) (list_any q xs) (later g)

-- a cut stays where the times move apart
pub cut_stays : (windows : List Def) (marks : List ℕ) (low high below above : ℕ) → below ≤ low → high ≤ above → has_cut windows marks low high ≡ true → has_cut windows marks below above ≡ true
cut_stays windows marks low high below above a b h =
    let by_windows = λ (low high : ℕ). list_any (λ (w : Def). cuts_between w.kind low high) windows in
    let by_marks = λ (low high : ℕ). list_any (λ m. nat_lt low m && nat_le m high) marks in
    elim (or_cases (by_windows low high) (by_marks low high) h) [
      | inl w ↦ or_left (by_windows below above) (by_marks below above)
          (any_more (λ (w : Def). cuts_between w.kind low high) (λ w. cuts_between w.kind below above) windows (λ w. cuts_stay w.kind low high below above a b) w)
      | inr m ↦ or_right (by_windows below above) (by_marks below above)
          (any_more (λ m. nat_lt low m && nat_le m high) (λ m. nat_lt below m && nat_le m above) marks (λ m c. grind (arith, nat_tests)) m)
    ]
