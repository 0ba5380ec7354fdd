-- The walk of a lane.
use Rattle.std.proofs.Common.{◌≡◌, ◌∙◌, ℕ, ℤ, ◌+◌, ◌-◌, ◌*◌, ◌/◌, ◌<◌, ◌≤◌, max, cond, List, [], ◌∷◌, ◌++◌, length, map, ap, sym, refl, subst, arith, inl, inr, append_assoc}
use Rattle.std.specs.Prelude.{◌⊎◌}
use Rattle.std.proofs.lemmas.Bool.{cases_lt, le-ltb}
use Rattle.std.proofs.lemmas.Nat.{le-div}
use Rattle.stream_base.specs.declared.kept.Kept.{Kept}
use Rattle.stream_base.specs.Model.Windows.{within}
use Rattle.aggregates.specs.Partial.{IsPartial}
use Rattle.agg_laws.specs.Laws.{total}
use Rattle.slice_lists.specs.Runs.{AreInOrder, IsAligned, runs_within}
use Rattle.window_laws.specs.Walk.{next_start}
use Rattle.slice_lists.specs.Slices.{AreSlices, joined, values_of}
use Rattle.time_lanes.specs.Held.{partials_of}
use Rattle.slice_lists.proofs.SliceOrder.{times_of_order}
use Rattle.time_lanes.specs.Spans.{ArePartedAt, last_end}
use Rattle.time_lanes.proofs.HeldFacts.{fold_of_held}
use Rattle.time_lanes.proofs.Ranges.{fewer_from, in_two, none_turned, number_in_two}

pub times_mono : (a b c : ℕ) → a ≤ b → a * c ≤ b * c
times_mono a b c h = grind arith

pub one_time_more : (k s : ℕ) → (k + 1) * s ≡ k * s + s
one_time_more k s = grind arith

-- ---- ends and starts
-- an interval that ends at or before a time ends at or before the last that does
pub end_by : (length slide k new : ℕ) → 1 ≤ slide → k * slide + length ≤ new → k * slide + length ≤ last_end length slide new
end_by length slide k new moves h =
    let q : k ≤ (new - length) / slide = le-div k (new - length) slide moves (omega arith) in
    let t : k * slide ≤ (new - length) / slide * slide = times_mono k ((new - length) / slide) slide q in
    subst (λ n. k * slide + length ≤ n) (sym (ap (λ b. cond b 0 ((new - length) / slide * slide + length)) (le-ltb new length (omega arith)))) (omega arith)

-- the one behind it starts at or before the next start
pub start_behind : (length slide k new : ℕ) → 1 ≤ slide → k * slide + length ≤ new → k * slide + slide ≤ next_start length slide new
start_behind length slide k new moves h =
    let e : (k + 1) * slide ≡ k * slide + slide = one_time_more k slide in
    let q : k + 1 ≤ (new + slide - length) / slide = le-div (k + 1) (new + slide - length) slide moves (omega arith) in
    let t : (k + 1) * slide ≤ (new + slide - length) / slide * slide = times_mono (k + 1) ((new + slide - length) / slide) slide q in
    omega arith

-- ---- slices that are taken up
-- those that an interval takes up, and those that are left then, are among those that were left
pub taken_in_part : (span slide low start to last : ℕ) (slices : List (List Kept)) → slide ≤ span → start ≤ low → low + span ≤ last → AreInOrder slices
    → length (runs_within (max low to) (low + span) slices) + length (runs_within (max (low + slide) (max to (low + span))) last slices) ≤ length (runs_within (max start to) last slices)
taken_in_part span slide low start to last slices overlaps onward ends o = by (cases_lt to (low + span))
  where
    by : (to < low + span) ⊎ (low + span ≤ to) → length (runs_within (max low to) (low + span) slices) + length (runs_within (max (low + slide) (max to (low + span))) last slices) ≤ length (runs_within (max start to) last slices)
    by (inl l) =
        let e : max (low + slide) (max to (low + span)) ≡ low + span = omega arith in
        let m = number_in_two (max low to) (low + span) last slices (omega arith) ends o in
        let f = fewer_from (max start to) (max low to) last slices (omega arith) o in
        omega (arith, m, f, ap (λ n. length (runs_within n last slices)) e)
    by (inr l) =
        let e : max (low + slide) (max to (low + span)) ≡ max low to = omega arith in
        let n = none_turned (max low to) (low + span) slices (omega arith) in
        let f = fewer_from (max start to) (max low to) last slices (omega arith) o in
        omega (arith, ap length n, f, ap (λ n. length (runs_within n last slices)) e)

-- so there is room for them
pub room_in_part : (span slide low start to last spare : ℕ) (slices : List (List Kept)) → slide ≤ span → start ≤ low → low + span ≤ last → AreInOrder slices → length (runs_within (max start to) last slices) ≤ spare → length (runs_within (max low to) (low + span) slices) ≤ spare
room_in_part span slide low start to last spare slices overlaps onward ends o h = omega (arith, taken_in_part span slide low start to last slices overlaps onward ends o, h)

none_of_none : (xs ys : List (List Kept)) → xs ++ ys ≡ [] → xs ≡ []
none_of_none [] ys e = refl
none_of_none (x ∷ xs) ys e = absurd (let n : length (x ∷ xs ++ ys) ≡ 0 = ap length e in omega arith)

-- what is held from a start on is held from a later one, where no slice begins between
pub held_onward : {M : Type 0} (of_values : List ℤ → M) (start low to : ℕ) (slices : List (List Kept)) (partials : List M) → AreInOrder slices → start ≤ low → runs_within start low slices ≡ [] → partials ≡ partials_of of_values (runs_within start to slices) → partials ≡ partials_of of_values (runs_within low to slices)
held_onward of_values start low to slices partials o l none h = h ∙ ap (partials_of of_values) (by (cases_lt to low))
  where
    by : (to < low) ⊎ (low ≤ to) → runs_within start to slices ≡ runs_within low to slices
    by (inr m) = in_two start low to slices l m o ∙ ap (λ q. q ++ runs_within low to slices) none
    by (inl m) = by_start (cases_lt to start)
      where
        by_start : (to < start) ⊎ (start ≤ to) → runs_within start to slices ≡ runs_within low to slices
        by_start (inl k) = none_turned start to slices (omega arith) ∙ sym (none_turned low to slices (omega arith))
        by_start (inr k) = none_of_none (runs_within start to slices) (runs_within to low slices) (sym (in_two start to low slices k (omega arith) o) ∙ none) ∙ sym (none_turned low to slices (omega arith))

-- what an interval shows whose slices are held
pub shown_of_held : {M : Type 0} {IsValue : M → Type 0} {empty : M} {op : M → M → M} {of_number : ℤ → M} {of_values : List ℤ → M} → IsPartial IsValue empty op of_number of_values → (span slide low k to : ℕ) (slices : List (List Kept)) (partials : List M) (partial : M) → AreSlices slices → ArePartedAt span slide slices → low ≡ k * slide → to ≡ low + span → partials ≡ partials_of of_values (runs_within low to slices) → partial ≡ total empty op partials → partial ≡ of_values (values_of (within low (low + span) (joined slices)))
shown_of_held {M} {IsValue} {empty} {op} {of_number} {of_values} p span slide low k to slices partials partial o parted e t h b =
    b
    ∙ ap (total empty op) (h ∙ ap (λ n. partials_of of_values (runs_within low n slices)) t)
    ∙ fold_of_held p low (low + span) slices o (subst (IsAligned slices) (sym e) (parted.starts (times_of_order slices o.ordered) k)) (subst (λ n. IsAligned slices (n + span)) (sym e) (parted.ends (times_of_order slices o.ordered) k))

-- told one after another
pub told_on : {X : Type 0} (f : ℕ → X) (before after : List X) (low : ℕ) (left rest all : List ℕ) (old : List X) → before ++ map f left ≡ old ++ map f all → left ≡ low ∷ rest → after ≡ before ++ f low ∷ [] → after ++ map f rest ≡ old ++ map f all
told_on f before after low left rest all old h e a =
    ap (λ l. l ++ map f rest) a ∙ append_assoc before (f low ∷ []) (map f rest) ∙ ap (λ l. before ++ map f l) (sym e) ∙ h
