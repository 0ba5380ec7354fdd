-- What a run of tuples comes to, also where one tuple of it is left out.
use Rattle.std.proofs.Common.{◌≡◌, ◌∙◌, ℕ, ◌+◌, ◌-◌, ◌*◌, ◌<◌, ◌≤◌, List, ◌++◌, length, get_or, take, drop, map, ap, sym, arith, ⊎_elim}
use Rattle.std.specs.Prelude.{ℤ, max}
use Rattle.std.specs.List.{remove, between}
use Rattle.std.proofs.lemmas.Bool.{cases_lt}
use Rattle.std.proofs.lemmas.List.{same_lists, length-append, length-take, length-drop, get_or-take, get_or-drop, get_or_append_left, get_or-append_right}
use Rattle.std.proofs.lemmas.List.Edits.{length-remove, get_or-remove_below, get_or-remove_above, length-between, get_or-between}
use Rattle.std.proofs.lemmas.List.Folds.{fold-map}
use Rattle.std.proofs.lemmas.List.Sums.{fold-append}
use Rattle.stream_base.specs.declared.func.Func.{Func}
use Rattle.stream_base.specs.declared.kept.Kept.{Kept}
use Rattle.stream_base.specs.declared.shown.Shown.{Shown}
use Rattle.stream_base.specs.Model.Changes.{row_of, former_of}
use Rattle.stream_base.specs.Model.Functions.{shown_of}
use Rattle.stream_base.specs.Model.Windows.{ranks}
use Rattle.aggregates.specs.Bundled.{Bundled, bundle_of, bundle_of_number, bundles_combined, empty_bundle}
use Rattle.aggregates.specs.BundleLaws.{total_of_bundles}
use Rattle.count_shift.specs.Counting.{ranks_behind}
use Rattle.count_shift.specs.Folded.{folded_onto}
use Rattle.count_shift.proofs.Standing.{next_run, length_of_run}

-- a run folded from nothing is the bundle of its values
pub folded_run : (run : List Kept) → folded_onto empty_bundle run ≡ bundle_of (map (λ x. x.value) run)
folded_run run =
    sym (fold-map (λ b v. bundles_combined b (bundle_of_number v)) (λ (x : Kept). x.value) empty_bundle run)
    ∙ sym (fold-map bundles_combined bundle_of_number empty_bundle (map (λ x. x.value) run))
    ∙ total_of_bundles (map (λ x. x.value) run)

-- two runs, one folded onto the other
pub folded_both : (bundle : Bundled) (front back : List Kept) → folded_onto (folded_onto bundle front) back ≡ folded_onto bundle (front ++ back)
folded_both bundle front back = sym (fold-append (λ b (x : Kept). bundles_combined b (bundle_of_number x.value)) bundle front back)

-- a run of a list that one element was taken out of, at it or before it: the run of the list without that element, one place on behind it
pub run_without : (items : List Kept) (rank low n : ℕ) → rank < low + n → low + n < length items
    → take n (drop low (remove items rank)) ≡ between low (max low rank) items ++ between (max low rank + 1) (low + n + 1) items
run_without items rank low n behind room = same_lists (take n (drop low (remove items rank))) (between low (max low rank) items ++ between (max low rank + 1) (low + n + 1) items) lengths each
  where
    left : length (take n (drop low (remove items rank))) ≡ n
    left = simp (length-take, length-drop) (omega (arith, length-remove items rank (omega arith)))

    front : length (between low (max low rank) items) ≡ max low rank - low
    front = length-between items low (max low rank) (omega arith)

    back : length (between (max low rank + 1) (low + n + 1) items) ≡ low + n + 1 - (max low rank + 1)
    back = length-between items (max low rank + 1) (low + n + 1) (omega arith)

    lengths : length (take n (drop low (remove items rank))) ≡ length (between low (max low rank) items ++ between (max low rank + 1) (low + n + 1) items)
    lengths = omega (arith, left, front, back, length-append (between low (max low rank) items) (between (max low rank + 1) (low + n + 1) items))

    each : (k : ℕ) (d : Kept) → k < length (take n (drop low (remove items rank))) → get_or (take n (drop low (remove items rank))) k d ≡ get_or (between low (max low rank) items ++ between (max low rank + 1) (low + n + 1) items) k d
    each k d l =
        get_or-take n (drop low (remove items rank)) k d (omega (arith, left))
        ∙ get_or-drop low (remove items rank) k d
        ∙ ⊎_elim before after (cases_lt (low + k) rank)
      where
        before : low + k < rank → get_or (remove items rank) (low + k) d ≡ get_or (between low (max low rank) items ++ between (max low rank + 1) (low + n + 1) items) k d
        before lt =
            get_or-remove_below items rank d (low + k) lt (omega arith)
            ∙ sym (get_or-between items low (max low rank) k d (omega arith))
            ∙ sym (get_or_append_left (between low (max low rank) items) (between (max low rank + 1) (low + n + 1) items) d k (omega (arith, front)))

        after : rank ≤ low + k → get_or (remove items rank) (low + k) d ≡ get_or (between low (max low rank) items ++ between (max low rank + 1) (low + n + 1) items) k d
        after ge =
            let place : low + k + 1 ≡ max low rank + 1 + (k - (max low rank - low)) = omega arith in
            get_or-remove_above items rank d (low + k) ge (omega arith)
            ∙ ap (λ j. get_or items j d) place
            ∙ sym (get_or-between items (max low rank + 1) (low + n + 1) (k - (max low rank - low)) d (omega (arith, left)))
            ∙ sym (get_or-append_right (between low (max low rank) items) (between (max low rank + 1) (low + n + 1) items) (max low rank - low) k d front (omega arith))

pub run_without_at : (items : List Kept) (rank i n : ℕ) → rank < (i + 1) * n → (i + 1) * n < length items
    → take n (drop (i * n) (remove items rank)) ≡ between (i * n) (max (i * n) rank) items ++ between (max (i * n) rank + 1) (i * n + n + 1) items
run_without_at items rank i n behind room = run_without items rank (i * n) n (omega (arith, next_run i n)) (omega (arith, next_run i n))

-- the row of an instance that is all there, from what its run shows
pub row_is : (gone window : ℕ) (key : List ℕ) (func : Func) (count : ℕ) (items : List Kept) (i : ℕ) (bundle : Bundled) (shown : Shown) → (i + 1) * count ≤ length items
    → bundle ≡ folded_onto empty_bundle (take (i * count + count - i * count) (drop (i * count) items)) → ((values : List ℤ) → bundle ≡ bundle_of values → shown ≡ shown_of func values)
    → record { window = window; key = key; low = gone + i * count; high = gone + (i * count + count); number = count; shown = shown } ≡ row_of window key func (ranks_behind gone count items i)
row_is gone window key func count items i bundle shown room folded shows =
    let all : i * count + count - i * count ≡ count = omega arith in
    let run : bundle ≡ bundle_of (map (λ x. x.value) (take count (drop (i * count) items))) = folded ∙ ap (λ n. folded_onto empty_bundle (take n (drop (i * count) items))) all ∙ folded_run (take count (drop (i * count) items)) in
    λ j. record {
      window = window;
      key = key;
      low = gone + i * count;
      high = gone + sym (next_run i count) j;
      number = sym (length_of_run items i count room) j;
      shown = shows (map (λ x. x.value) (take count (drop (i * count) items))) run j;
    }

-- what an instance was before the tuple at a rank came, from what the two parts of its run show
pub former_is : (func : Func) (count : ℕ) (items : List Kept) (rank i left_out : ℕ) (front bundle : Bundled) (shown : Shown) → rank < (i + 1) * count → (i + 1) * count < length items → left_out ≡ max (i * count) rank
    → front ≡ folded_onto empty_bundle (between (i * count) left_out items) → bundle ≡ folded_onto front (between (left_out + 1) (i * count + count + 1) items)
    → ((values : List ℤ) → bundle ≡ bundle_of values → shown ≡ shown_of func values)
    → record { number = count; shown = shown } ≡ former_of func (ranks count (remove items rank) i)
former_is func count items rank i left_out front bundle shown behind room at first then shows =
    let run : bundle ≡ bundle_of (map (λ x. x.value) (take count (drop (i * count) (remove items rank)))) =
    then
    ∙ ap (λ b. folded_onto b (between (left_out + 1) (i * count + count + 1) items)) first
    ∙ folded_both empty_bundle (between (i * count) left_out items) (between (left_out + 1) (i * count + count + 1) items)
    ∙ ap (λ m. folded_onto empty_bundle (between (i * count) m items ++ between (m + 1) (i * count + count + 1) items)) at
    ∙ ap (folded_onto empty_bundle) (sym (run_without_at items rank i count behind room))
    ∙ folded_run (take count (drop (i * count) (remove items rank))) in
    λ j. record {
      number = sym (length_of_run (remove items rank) i count (omega (arith, length-remove items rank (omega arith)))) j;
      shown = shows (map (λ x. x.value) (take count (drop (i * count) (remove items rank)))) run j;
    }
