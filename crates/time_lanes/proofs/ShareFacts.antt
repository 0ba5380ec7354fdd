-- Folds of neighbouring parts of the slices.
use Rattle.std.proofs.Common.{◌≡◌, ◌∙◌, ℕ, zero, suc, max, ℤ, ◌+◌, ◌-◌, ◌*◌, ◌≤◌, ◌<◌, List, ◌++◌, length, get_or, ap, sym, subst, arith, inl, inr}
use Rattle.std.specs.Prelude.{◌⊎◌, FitsSigned, min, slice_set}
use Rattle.std.specs.Int.{w64}
use Rattle.std.specs.List.{All}
use Rattle.std.proofs.lemmas.Bool.{cases_lt}
use Rattle.std.proofs.lemmas.Grind.{get_or-set_at}
use Rattle.std.proofs.lemmas.List.{get_or-set_other, map-append}
use Rattle.std.proofs.lemmas.List.Concat.{flat_map-append}
use Rattle.std.proofs.lemmas.List.Elements.{All-filter}
use Rattle.stream_base.specs.declared.kept.Kept.{Kept}
use Rattle.stream_base.specs.Model.Windows.{is_within, within}
use Rattle.aggregates.specs.Partial.{IsPartial}
use Rattle.aggregates.proofs.Partials.{of_values-append, of_values-none}
use Rattle.slice_lists.specs.Runs.{IsAligned, runs_within}
use Rattle.slice_lists.proofs.Order.{All-map_of}
use Rattle.slice_lists.specs.Slices.{AreSlices, joined, values_of}
use Rattle.slice_lists.proofs.WithinFacts.{within_aligned}
use Rattle.time_lanes.specs.declared.late.Complete.{Complete}
use Rattle.time_lanes.specs.declared.span.Span.{Span}
use Rattle.time_lanes.specs.Folds.{AreClose, IsShared, slices_under}
use Rattle.time_lanes.proofs.Ranges.{in_two, none_turned}
use Rattle.time_lanes.proofs.WalkFacts.{one_time_more, times_mono}

module _ (slices : List (List Kept)) (h : AreSlices slices) where
  fits : (low high : ℕ) → All (FitsSigned w64) (values_of (within low high (joined slices)))
  fits low high = All-map_of (FitsSigned w64) (λ (x : Kept). x.value) (within low high (joined slices)) (All-filter (is_within low high) (λ (x : Kept). FitsSigned w64 x.value) (joined slices) h.values)

  -- the tuples of an interval are those of its two parts, where no slice has tuples on both sides of a bound
  within_two : (a b c : ℕ) → a ≤ b → b ≤ c → IsAligned slices a → IsAligned slices b → IsAligned slices c → within a c (joined slices) ≡ within a b (joined slices) ++ within b c (joined slices)
  within_two a b c l m pa pb pc =
      within_aligned a c slices h.ordered pa pc
      ∙ ap joined (in_two a b c slices l m h.ordered)
      ∙ flat_map-append (λ (r : List Kept). r) (runs_within a b slices) (runs_within b c slices)
      ∙ sym (λ i. within_aligned a b slices h.ordered pa pb i ++ within_aligned b c slices h.ordered pb pc i)

module _ {M : Type 0} {IsValue : M → Type 0} {empty : M} {op : M → M → M} {of_number : ℤ → M} {of_values : List ℤ → M} (p : IsPartial IsValue empty op of_number of_values) (slices : List (List Kept)) (h : AreSlices slices) where
  -- and so their folds combine to its fold
  pub folds_joined : (a b c : ℕ) → a ≤ b → b ≤ c → IsAligned slices a → IsAligned slices b → IsAligned slices c → op (of_values (values_of (within a b (joined slices)))) (of_values (values_of (within b c (joined slices)))) ≡ of_values (values_of (within a c (joined slices)))
  folds_joined a b c l m pa pb pc =
      of_values-append p (values_of (within a b (joined slices))) (values_of (within b c (joined slices))) (fits slices h a b) (fits slices h b c)
      ∙ ap of_values (sym (map-append (λ (x : Kept). x.value) (within a b (joined slices)) (within b c (joined slices))))
      ∙ ap (λ q. of_values (values_of q)) (sym (within_two slices h a b c l m pa pb pc))

  -- from a time up to itself there is nothing
  pub nothing_folded : (a : ℕ) → IsAligned slices a → empty ≡ of_values (values_of (within a a (joined slices)))
  nothing_folded a e = sym (of_values-none p) ∙ ap (λ q. of_values (values_of q)) (sym (within_aligned a a slices h.ordered e e ∙ ap joined (none_turned a a slices (omega arith))))

-- ---- what stands at its place
-- one more stands behind those that stand
pub one_behind : {X : Type 0} (shown : List X) (at : ℕ) (x : X) (F : ℕ → X) → at < length shown → x ≡ F at → ((k : ℕ) → k < at → (d : X) → get_or shown k d ≡ F k) → (k : ℕ) → k < at + 1 → (d : X) → get_or (slice_set shown at x) k d ≡ F k
one_behind shown at x F w e h k l d = by (cases_lt k at)
  where
    by : (k < at) ⊎ (at ≤ k) → get_or (slice_set shown at x) k d ≡ F k
    by (inl b) = get_or-set_other shown at k x d (λ s. absurd (omega arith)) ∙ h k b d
    by (inr b) = let s : k ≡ at = omega arith in get_or-set_at shown at k x d s w ∙ e ∙ ap F (sym s)

-- ---- numbers
-- of one interval alone the slices are its own
pub one_alone : (slices : List (List Kept)) (first count k slide len : ℕ) → count ≤ 1 → k < count → runs_within ((first + k) * slide) ((first + k) * slide + len) slices ≡ runs_within (first * slide) ((first + (count - 1)) * slide + len) slices
one_alone slices first count k slide len one below =
    let e : first + k ≡ first = omega arith in
    let f : first + k ≡ first + (count - 1) = omega arith in
    λ i. runs_within (e i * slide) (f i * slide + len) slices

-- behind the end of the first interval, an interval goes on from the end of the one before it
pub goes_on_from : (first at slide len : ℕ) → slide ≤ len → max (first * slide + len) ((first + at) * slide + len - slide) ≡ (first + (at - 1)) * slide + len
goes_on_from first zero slide len l =
    let e : (first + 0) * slide ≡ first * slide = ap (λ n. n * slide) (omega arith) in
    let f : (first + (0 - 1)) * slide ≡ first * slide = ap (λ n. n * slide) (omega arith) in
    omega (arith, e, f)
goes_on_from first (suc at) slide len l =
    let e : (first + suc at) * slide ≡ (first + at) * slide + slide = ap (λ n. n * slide) (omega arith) ∙ one_time_more (first + at) slide in
    let f : (first + (suc at - 1)) * slide ≡ (first + at) * slide = ap (λ n. n * slide) (omega arith) in
    omega (arith, e, f, times_mono first (first + at) slide (omega arith))

-- a few steps for each interval are no more than a fold for each
pub within_folds : (n count reach : ℕ) → n ≤ 32 * count → n + 4 * count ≤ 64 * (reach + 2) * count
within_folds n count reach h = omega (arith, times_mono 36 (64 * (reach + 2)) count (omega arith))

-- where all are told at once, they are the first group
pub one_group : (span : Span) (slices : List (List Kept)) (complete group : Complete) (done steps before later : ℕ) → done ≡ 0 → group.first ≡ complete.first + done → group.count ≡ min (complete.count - done) 64 → before ≤ steps → IsShared span slices group before later → IsShared span slices complete steps later
one_group span slices complete group done steps before later none first count onward shared close =
    let f : complete.first ≡ group.first = omega arith in
    let n : complete.count ≡ group.count = omega (arith, close.at_most) in
    let same : complete ≡ group = λ i. record { first = f i; count = n i } in
    let r : later ≤ before + length (slices_under span slices complete) + 4 * complete.count = subst (λ (c : Complete). later ≤ before + length (slices_under span slices c) + 4 * c.count) (sym same) (shared (subst (AreClose span slices) same close)) in
    omega (arith, r)

pub first_group : (count done : ℕ) → (done ≡ 0) ⊎ ((64 ≤ done) ⊎ (done ≡ count)) → done < count → count ≤ 64 → done ≡ 0
first_group count done (inl z) l m = z
first_group count done (inr (inl b)) l m = absurd (omega arith)
first_group count done (inr (inr b)) l m = absurd (omega arith)

pub next_group : (count done n : ℕ) → done < count → n ≡ min (count - done) 64 → (done + n ≡ 0) ⊎ ((64 ≤ done + n) ⊎ (done + n ≡ count))
next_group count done n l e = by (cases_lt 64 (count - done))
  where
    by : (64 < count - done) ⊎ (count - done ≤ 64) → (done + n ≡ 0) ⊎ ((64 ≤ done + n) ⊎ (done + n ≡ count))
    by (inl m) = inr (inl (omega arith))
    by (inr m) = inr (inr (omega arith))
