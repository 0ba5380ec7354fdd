-- How many steps an entry takes at most.
use Rattle.std.proofs.Common.{Bool, true, false, cond, ◌≡◌, ◌∙◌, ◌≤◌, ◌<◌, ◌+◌, ◌-◌, ◌*◌, ℕ, List, [], ◌∷◌, length, get_or, take, ap, arith, subst, sym}
use Rattle.std.specs.Prelude.{nat_lt, nat_le, filter, sum_by}
use Rattle.std.specs.List.{enumerate_from, flat_map}
use Rattle.std.proofs.Math.Nat.{mul-le-mul_left}
use Rattle.std.proofs.lemmas.List.Concat.{length-flat_map}
use Rattle.std.proofs.lemmas.List.Filters.{length-filter_both}
use Rattle.std.proofs.lemmas.List.Sums.{sum_by-cons}
use Rattle.stream_base.specs.Limits.{Definitions}
use Rattle.stream_base.specs.declared.change.Change.{Change}
use Rattle.stream_base.specs.declared.def.Def.{Def}
use Rattle.stream_base.specs.declared.kept.Kept.{Kept}
use Rattle.stream_base.specs.declared.kind.Kind.{Kind}
use Rattle.stream_base.specs.Laws.{completions}
use Rattle.stream_base.specs.Model.Changes.{Moment, changes_between}
use Rattle.stream_base.specs.Model.Cuts.{has_cut}
use Rattle.stream_base.specs.Model.Windows.{first_time}
use Rattle.slice_lists.specs.Runs.{parted_at}
use Rattle.partials.specs.Apart.{IsReachOver}
use Rattle.slice_lists.specs.Touched.{is_across, is_near, slices_from}
use Rattle.agg_store.specs.Entered.{slices_near}
use Rattle.slice_lists.specs.Slices.{joined}
use Rattle.agg_store.specs.Stored.{IsStore, Stored}
use Rattle.key_windows.specs.Calls.{slices_at}
use Rattle.key_parts.specs.Held.{IsHeld}
use Rattle.key_parts.specs.Work.{change_work, most_moved}
use Rattle.held_laws.specs.Settling.{NoneSettled}
use Rattle.held_laws.proofs.OpenFacts.{near_under_all_marks, unsettled_slices_are_held}
use Rattle.key_slicer.specs.Parts.{turns}
use Rattle.key_slicer.specs.Work.{bounds_mark, bounds_move, bounds_put, counting_work, entry_work, mark_over, mark_work, move_over, put_work, slices_gone, turn_work, turns_work, walk_work}
use Rattle.stream_base.specs.Kinds.{events_in, is_events}
use Rattle.key_slicer.proofs.Loops.{summed_more}
use Rattle.key_slicer.proofs.SortFacts.{as_many_turns}

-- ---- the changes of windows
-- those of one window take as much as that many folds, and what counting takes
one_turn : (kind : Kind) (reach n : ℕ) → change_work kind reach * n ≤ 64 * (reach + 2) * n + 2 * events_in kind * n
one_turn kind reach n = by (is_events kind)
  where
    by : (counts : Bool) → cond counts (2 * events_in kind) (64 * (reach + 2)) * n ≤ 64 * (reach + 2) * n + 2 * events_in kind * n
    by true = omega arith
    by false = omega arith

-- and so do those of all windows
all_turns : (reach : ℕ) (changes : ℕ × Def → List Change) (ws : List (ℕ × Def))
    → sum_by (λ w. change_work (w.1).kind reach * length (changes w)) ws ≤ 64 * (reach + 2) * sum_by (λ w. length (changes w)) ws + sum_by (λ w. 2 * events_in (w.1).kind * length (changes w)) ws
all_turns reach changes [] = omega arith
all_turns reach changes (w ∷ ws) =
    let f = λ (w : ℕ × Def). change_work (w.1).kind reach * length (changes w) in
    let g = λ (w : ℕ × Def). length (changes w) in
    let h = λ (w : ℕ × Def). 2 * events_in (w.1).kind * length (changes w) in
    added (sum_by f (w ∷ ws)) (f w) (sum_by f ws) (sum_by g (w ∷ ws)) (g w) (sum_by g ws) (sum_by h (w ∷ ws)) (h w) (sum_by h ws) (64 * (reach + 2)) (sum_by-cons f w ws) (sum_by-cons g w ws) (sum_by-cons h w ws) (one_turn (w.1).kind reach (g w)) (all_turns reach changes ws)
  where
    added : (a b c d e f g h i n : ℕ) → a ≡ b + c → d ≡ e + f → g ≡ h + i → b ≤ n * e + h → c ≤ n * f + i → a ≤ n * d + g
    added a b c d e f g h i n p q r s t = let whole : n * d ≡ n * e + n * f = ap (λ k. n * k) q ∙ spread n e f in omega arith
      where
        spread : (n e f : ℕ) → n * (e + f) ≡ n * e + n * f
        spread n e f = grind arith

-- what one window more takes
pub turned_more : (key : List ℕ) (old new : Moment) (reach : ℕ) (windows : List Def) (i : ℕ) (d : Def) (n s t u : ℕ) → i < length windows
    → t ≤ s + sum_by (turn_work key old new reach) (enumerate_from 0 (take i windows)) → n ≡ length (turns key old new (i, get_or windows i d))
    → u ≤ t + change_work (get_or windows i d).kind reach * n → u ≤ s + sum_by (turn_work key old new reach) (enumerate_from 0 (take (i + 1) windows))
turned_more key old new reach windows i d n s t u l so_far many cost =
    let same : change_work (get_or windows i d).kind reach * n ≡ turn_work key old new reach (i, get_or windows i d) = ap (λ k. change_work (get_or windows i d).kind reach * k) many in
    let whole : sum_by (turn_work key old new reach) (enumerate_from 0 (take (i + 1) windows)) ≡ sum_by (turn_work key old new reach) (enumerate_from 0 (take i windows)) + turn_work key old new reach (i, get_or windows i d) = summed_more (turn_work key old new reach) windows i d l in
    omega (arith, same, whole, so_far, cost)

-- what one window more takes of a move
pub walked_more : (key : List ℕ) (old : Moment) (new slices reach : ℕ) (windows : List Def) (i : ℕ) (d : Def) (n s t u : ℕ) → i < length windows
    → t ≤ s + sum_by (walk_work key old new slices reach) (enumerate_from 0 (take i windows)) → n ≡ length (completions key old new (i, get_or windows i d))
    → u ≤ t + most_moved (get_or windows i d).kind slices reach n → u ≤ s + sum_by (walk_work key old new slices reach) (enumerate_from 0 (take (i + 1) windows))
walked_more key old new slices reach windows i d n s t u l so_far many cost =
    let same : most_moved (get_or windows i d).kind slices reach n ≡ walk_work key old new slices reach (i, get_or windows i d) = ap (λ k. most_moved (get_or windows i d).kind slices reach k) many in
    let whole : sum_by (walk_work key old new slices reach) (enumerate_from 0 (take (i + 1) windows)) ≡ sum_by (walk_work key old new slices reach) (enumerate_from 0 (take i windows)) + walk_work key old new slices reach (i, get_or windows i d) = summed_more (walk_work key old new slices reach) windows i d l in
    omega (arith, same, whole, so_far, cost)

pub turns_cost : (d : Definitions) (key : List ℕ) (old new : Moment) (reach : ℕ) → turns_work d key old new reach ≤ 64 * (reach + 2) * length (changes_between d.windows key old new) + counting_work d key old new
turns_cost d key old new reach =
    let e : length (changes_between d.windows key old new) ≡ sum_by (λ w. length (turns key old new w)) (enumerate_from 0 d.windows) = as_many_turns key old new d.windows ∙ length-flat_map (turns key old new) (enumerate_from 0 d.windows) in
    let same : 64 * (reach + 2) * length (changes_between d.windows key old new) ≡ 64 * (reach + 2) * sum_by (λ w. length (turns key old new w)) (enumerate_from 0 d.windows) = ap (λ k. 64 * (reach + 2) * k) e in
    omega (arith, same, all_turns reach (turns key old new) (enumerate_from 0 d.windows))

-- ---- slices that leave
-- those that do not begin from a time on are before it
pub left : (time : ℕ) (slices : List (List Kept)) → length (filter (λ run. nat_lt (first_time run) time) slices) + length (slices_from time slices) ≡ length slices
left time slices = length-filter_both (λ run. nat_lt (first_time run) time) (λ run. nat_le time (first_time run)) (λ run. search arith) slices

-- ---- a tuple and a mark
-- before, in the store, and in the windows
pub put_steps : (r s o k c work turned a b e f : ℕ) → b ≤ a + 64 * (r + 2) * o → e ≤ b + (128 * (r + 3) + c) → f ≤ e + turned → turned ≤ 64 * (s + 2) * k + work → o ≤ k → s ≤ r + 1
    → f ≤ a + (64 * (r + 3) * (4 + 2 * k) + c + work)
put_steps r s o k c work turned a b e f asked entered took cost owed reach =
    let few : r * o ≤ r * k = mul-le-mul_left r owed in
    let near : k * s ≤ k * (r + 1) = mul-le-mul_left k reach in
    omega arith

-- in the store, in the windows, and where slices leave
pub mark_steps : (r s k l c work a b e f : ℕ) → b ≤ a + (128 * (r + 3) + c) → e ≤ b + 64 * (s + 2) * k → f ≤ e + 64 * (s + 2) * l → s ≤ r + 1
    → f ≤ a + (64 * (r + 3) * (4 + 2 * k) + c + work + 64 * (r + 3) * l)
mark_steps r s k l c work a b e f split took left reach =
    let near : k * s ≤ k * (r + 1) = mul-le-mul_left k reach in
    let by : l * s ≤ l * (r + 1) = mul-le-mul_left l reach in
    omega arith

-- where so many changes are put together as it leads to
pub put_cost : (d : Definitions) (key : List ℕ) (old new : Moment) (time : ℕ) (s : Stored) (reach owed n a b e f : ℕ)
    → b ≤ a + 64 * (s.reach + 2) * owed → e ≤ b + (128 * (s.reach + 3) + length (joined (slices_near d.windows time s))) → f ≤ e + turns_work d key old new reach
    → owed ≤ n → reach ≤ s.reach + 1 → n ≡ length (changes_between d.windows key old new) → f ≤ a + put_work d key old new time s
put_cost d key old new time s reach owed n a b e f asked entered took kept near many =
    put_steps s.reach reach owed (length (changes_between d.windows key old new)) (length (joined (slices_near d.windows time s))) (counting_work d key old new) (turns_work d key old new reach) a b e f asked entered took
    (turns_cost d key old new reach) (omega (arith, kept, many)) near

pub mark_cost : (d : Definitions) (key : List ℕ) (old new : Moment) (time : ℕ) (s marked after : Stored) (n a b e f : ℕ)
    → b ≤ a + (128 * (s.reach + 3) + length (joined (filter (is_across time) s.slices))) → e ≤ b + 64 * (marked.reach + 2) * n
    → f ≤ e + 64 * (marked.reach + 2) * (length marked.slices - length after.slices) → marked.reach ≤ s.reach + 1
    → n ≡ length (changes_between d.windows key old new) → marked.slices ≡ flat_map (parted_at time) s.slices → f ≤ a + mark_work d key old new time s after
mark_cost d key old new time s marked after n a b e f split took gone near many parted =
    let w = 64 * (marked.reach + 2) in
    let same : w * n ≡ w * length (changes_between d.windows key old new) = ap (λ k. w * k) many in
    let left : w * (length marked.slices - length after.slices) ≡ w * slices_gone time s.slices after.slices = ap (λ ss. w * (length ss - length after.slices)) parted in
    mark_steps s.reach marked.reach (length (changes_between d.windows key old new)) (slices_gone time s.slices after.slices) (length (joined (filter (is_across time) s.slices))) (counting_work d key old new) a b e f split
    (omega (arith, took, same)) (omega (arith, gone, left)) near

-- ---- the same, told by the key alone
module _ (bounded : ℕ → ℕ → Type 0) (d : Definitions) (key : List ℕ) (m : Moment) (n time : ℕ) (s : Stored) (held : IsHeld d m n s) (store : IsStore s) (open_ : NoneSettled d m s) (reach : IsReachOver bounded (length s.slices) s.reach) where
  slices_are : slices_at d m ≡ s.slices
  slices_are = unsettled_slices_are_held d m n s held store open_

  reached : IsReachOver bounded (length (slices_at d m)) s.reach
  reached = subst (λ ss. IsReachOver bounded (length ss) s.reach) (sym slices_are) reach

  -- the unsettled tuples have the slices of the store, and a tuple enters the same ones under all marks
  pub put_is_bounded : (new : Moment) → m.water ≤ time + d.lateness → bounds_put bounded d key m new time (put_work d key m new time s)
  put_is_bounded new l = (
    s.reach,
    reached,
    ap (λ near. entry_work d key m new s.reach (length (joined near))) (near_under_all_marks d m n time s held store l ∙ ap (filter (is_near (has_cut d.windows m.marks) time)) (sym slices_are)),
  )

  pub mark_is_bounded : (new : Moment) (more : ℕ) (after : Stored) → IsHeld d new more after → IsStore after → NoneSettled d new after → bounds_mark bounded d key m new time (mark_work d key m new time s after)
  mark_is_bounded new more after held_then store_then open_then = (
    s.reach,
    reached,
    λ i. mark_over d key m new time (sym slices_are i) (sym (unsettled_slices_are_held d new more after held_then store_then open_then) i) s.reach,
  )

-- the same of a move, after which the store has the slices of what isn't settled then
module _ (bounded : ℕ → ℕ → Type 0) (d : Definitions) (key : List ℕ) (m : Moment) (n : ℕ) (s : Stored) (held : IsHeld d m n s) (store : IsStore s) (open_ : NoneSettled d m s) (reach : IsReachOver bounded (length s.slices) s.reach) where
  pub move_is_bounded : (new : Moment) (more : ℕ) (after : Stored) → IsHeld d new more after → IsStore after → NoneSettled d new after → bounds_move bounded d key m new (move_over d key m new s.slices after.slices s.reach)
  move_is_bounded new more after held_then store_then open_then = (
    s.reach,
    reached bounded d key m n 0 s held store open_ reach,
    λ i. move_over d key m new (sym (unsettled_slices_are_held d m n s held store open_) i) (sym (unsettled_slices_are_held d new more after held_then store_then open_then) i) s.reach,
  )
