-- The slices of a store are those of the key.
use Rattle.std.proofs.Common.{◌≡◌, ℕ, zero, suc, ◌+◌, ◌<◌, ◌≤◌, true, List, [], ◌∷◌, ◌++◌, length, get_or, arith, inl, inr}
use Rattle.std.specs.Prelude.{◌⊎◌, ◌&&◌, nat_le, nat_lt}
use Rattle.std.specs.List.{All, Contains, list_any}
use Rattle.std.proofs.lemmas.Bool.{and_parts, cases_lt, ltb-true}
use Rattle.std.proofs.lemmas.List.Elements.{All-cons, All-head, All-nil, All-weaker}
use Rattle.std.proofs.lemmas.List.Folds.{Any-from_list_any}
use Rattle.stream_base.specs.declared.kept.Kept.{Kept}
use Rattle.stream_base.specs.Limits.{Definitions}
use Rattle.stream_base.specs.Model.Changes.{Moment}
use Rattle.stream_base.specs.Model.Slices.{runs_of}
use Rattle.stream_base.specs.Model.Windows.{first_time, last_time}
use Rattle.stream_base.proofs.ChangeFacts.{any_from_member}
use Rattle.stream_base.specs.Places.{IsPlaceOf}
use Rattle.slice_lists.specs.Runs.{AreInOrder}
use Rattle.slice_lists.proofs.Order.{All-split, runs_behind}
use Rattle.slice_lists.specs.Slices.{joined}
use Rattle.agg_store.specs.Stored.{IsStore, Stored, tuples_of}
use Rattle.slice_lists.proofs.LeaveFacts.{left_sliced}
use Rattle.slice_lists.proofs.SliceOrder.{IsApart, IsNear, first_below_last}
use Rattle.key_parts.specs.Held.{IsHeld}
use Rattle.held_laws.proofs.AlikeFacts.{same_truth}

-- ---- where slices begin
pub begin_behind : (time : ℕ) (runs : List (List Kept)) → AreInOrder runs → All (λ (x : Kept). time ≤ x.time) (joined runs) → All (λ run. time ≤ first_time run) runs
begin_behind time [] o a = All-nil (λ run. time ≤ first_time run)
begin_behind time ([] ∷ runs) o a = absurd o.0
begin_behind time ((x ∷ xs) ∷ runs) o a =
    All-cons (λ run. time ≤ first_time run) (x ∷ xs) runs (All-head (λ (x : Kept). time ≤ x.time) x (xs ++ joined runs) a)
    (begin_behind time runs o.2 (All-split (λ (x : Kept). time ≤ x.time) (x ∷ xs) (joined runs) a).1)

-- so many slices begin before a time
pub place_among : (time : ℕ) (runs : List (List Kept)) → AreInOrder runs → (count : ℕ) × IsPlaceOf first_time runs time count
place_among time [] o = (0, record { within = omega arith; before = λ k d l h. absurd (omega arith); behind = λ k d l h. absurd (omega arith) })
place_among time (run ∷ runs) o = by (cases_lt (first_time run) time) (place_among time runs o.2)
  where
    by : (first_time run < time) ⊎ (time ≤ first_time run) → (count : ℕ) × IsPlaceOf first_time runs time count → (count : ℕ) × IsPlaceOf first_time (run ∷ runs) time count
    by (inl l) p = (suc p.0, record { within = omega (arith, p.1.within); before = before; behind = behind })
      where
        before : (k : ℕ) (d : List Kept) → 0 ≤ k → k < suc p.0 → first_time (get_or (run ∷ runs) k d) < time
        before zero d b h = l
        before (suc k) d b h = p.1.before k d (omega arith) (omega arith)

        behind : (k : ℕ) (d : List Kept) → suc p.0 ≤ k → k < suc (length runs) → time ≤ first_time (get_or (run ∷ runs) k d)
        behind zero d b h = absurd (omega arith)
        behind (suc k) d b h = p.1.behind k d (omega arith) (omega arith)
    by (inr g) p = (0, record { within = omega arith; before = λ k d l h. absurd (omega arith); behind = λ k d l h. all k d h })
      where
        all : All (λ q. time ≤ first_time q) (run ∷ runs)
        all =
            All-cons (λ q. time ≤ first_time q) run runs g
            (All-weaker (λ q. (last_time run + 0 ≤ first_time q) × (first_time q ≤ last_time q)) (λ q. time ≤ first_time q) (λ q h. omega (arith, h.0, ends)) runs (runs_behind IsNear IsApart 0 (λ a b h. h) (λ a b h. omega (arith, h)) run runs o))
          where
            ends : first_time run ≤ last_time run
            ends = first_below_last run o.0

-- ---- the marks behind what was dropped
module _ (d : Definitions) (m : Moment) (n : ℕ) (s : Stored) (h : IsHeld d m n s) where
  any_of : (these those : List ℕ) → ((mark : ℕ) → s.dropped < mark → Contains these mark → Contains those mark) → (a b : ℕ) → s.dropped ≤ a → list_any (λ k. nat_lt a k && nat_le k b) these ≡ true → list_any (λ k. nat_lt a k && nat_le k b) those ≡ true
  any_of these those f a b l e =
      let (k, mark, lt, at, passes) = Any-from_list_any (λ k. nat_lt a k && nat_le k b) these e in
      let p : (nat_lt a mark ≡ true) × (nat_le mark b ≡ true) = and_parts (nat_lt a mark) (nat_le mark b) passes in
      any_from_member (λ k. nat_lt a k && nat_le k b) those mark (f mark (omega (arith, ltb-true a mark p.0)) (k, lt, at)) passes

  pub same_marks : (a b : ℕ) → s.dropped ≤ a → list_any (λ k. nat_lt a k && nat_le k b) m.marks ≡ list_any (λ k. nat_lt a k && nat_le k b) s.marks
  same_marks a b l = same_truth _ _ (any_of m.marks s.marks (h.marks).back a b l) (any_of s.marks m.marks (h.marks).there a b l)

  module _ (o : IsStore s) where
    pub begin_from_dropped : All (λ run. s.dropped ≤ first_time run) s.slices
    begin_from_dropped = begin_behind s.dropped s.slices (o.slices).ordered h.behind

    pub slices_by_key : s.slices ≡ runs_of d.windows m.marks (tuples_of s)
    slices_by_key =
        left_sliced d.windows s.marks m.marks s.slices s.dropped 0
        (record { within = omega arith; before = λ k d l h. absurd (omega arith); behind = λ k d l h. begin_from_dropped k d h })
        (o.slices).ordered (λ k d l. inr (begin_from_dropped k d l)) same_marks h.sliced

pub slices_of_key : (d : Definitions) (m : Moment) (n : ℕ) (s : Stored) → IsHeld d m n s → IsStore s → s.slices ≡ runs_of d.windows m.marks (tuples_of s)
slices_of_key d m n s h o = slices_by_key d m n s h o
