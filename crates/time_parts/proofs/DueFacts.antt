-- What becomes complete at the bound of the first instance that isn't, and what where there is none.
use Rattle.std.proofs.Common.{◌≡◌, ◌≢◌, ◌∙◌, ℕ, Bool, ◌+◌, ◌-◌, ◌*◌, ◌/◌, ◌<◌, ◌≤◌, true, false, cond, Some, List, [], ◌∷◌, length, get_or, map, ap, sym, refl, subst, arith, inl, inr}
use Rattle.std.specs.Prelude.{◌&&◌, ◌⊎◌, find, nat_le, nat_lt}
use Rattle.std.specs.List.{All, Contains, filter, range_with_len}
use Rattle.std.specs.Option.{option_map_or}
use Rattle.std.proofs.lemmas.Bool.{and_from, cases_Bool, le-leb, ltb-true}
use Rattle.std.proofs.lemmas.List.{length-map}
use Rattle.std.proofs.lemmas.List.Elements.{All-contains, All-get_or, All-head, All-tail}
use Rattle.stream_base.specs.declared.change.Change.TheVariants.{New}
use Rattle.stream_base.specs.declared.def.Def.{Def}
use Rattle.stream_base.specs.declared.kept.Kept.{Kept}
use Rattle.stream_base.specs.declared.kind.Kind.{Kind}
use Rattle.stream_base.specs.declared.kind.Kind.TheVariants.{Events}
use Rattle.stream_base.specs.declared.limits.TheConstants.{FINAL, TIME_MAX}
use Rattle.stream_base.specs.Laws.{becomes_complete, completions}
use Rattle.stream_base.specs.Kinds.{length_of, slide_of, IsKindWithin, is_timed}
use Rattle.stream_base.specs.Model.Changes.{Moment, row_of}
use Rattle.stream_base.specs.Model.Windows.{Instance, counted, instances_of, interval, ranks, spans, starts_of}
use Rattle.stream_base.proofs.Distinct.{All_from_members}
use Rattle.stream_base.proofs.KindFacts.{timed_instances, timed_within}
use Rattle.stream_base.proofs.Members.{map_members, range_members}
use Rattle.stream_base.proofs.Spans.{starts_of_members}
use Rattle.window_laws.specs.Due.{first_open}
use Rattle.window_laws.proofs.CountFacts.{none_of}
use Rattle.window_laws.proofs.InstanceFacts.{in_counts, ranks_bound}

-- the bound of the first of some instances that isn't complete, and the final time where all are
abbrev open_bound : ℕ → List Instance → ℕ
open_bound water is = option_map_or (λ (i : Instance). i.bound) (find (λ (i : Instance). nat_lt water i.bound) is) FINAL

-- the same, once the first is looked at
abbrev looked : ℕ → Instance → List Instance → Bool → ℕ
looked water i is b = option_map_or (λ (i : Instance). i.bound) (cond b (Some i) (find (λ (i : Instance). nat_lt water i.bound) is)) FINAL

-- it becomes complete there
some_at : (water end : ℕ) (is : List Instance) → open_bound water is ≡ end → end < FINAL → (water < end) × (1 ≤ length (filter (becomes_complete water end) is))
some_at water end [] e l = absurd (omega arith)
some_at water end (i ∷ is) e l = by (cases_Bool (nat_lt water i.bound)) (some_at water end is)
  where
    by : (nat_lt water i.bound ≡ true) ⊎ (nat_lt water i.bound ≡ false) → (open_bound water is ≡ end → end < FINAL → (water < end) × (1 ≤ length (filter (becomes_complete water end) is))) → (water < end) × (1 ≤ length (filter (becomes_complete water end) (i ∷ is)))
    by (inl t) rest =
        let ends : i.bound ≡ end = subst (λ b. looked water i is b ≡ end) t e in
        let after : water < i.bound = ltb-true water i.bound t in
        (omega arith, subst (λ b. 1 ≤ length (cond b (i ∷ filter (becomes_complete water end) is) (filter (becomes_complete water end) is))) (sym (and_from (nat_lt water i.bound) (nat_le i.bound end) t (le-leb i.bound end (omega arith)))) (omega arith))
    by (inr f) rest =
        let later = rest (subst (λ b. looked water i is b ≡ end) f e) l in
        (later.0, subst (λ b. 1 ≤ length (cond (b && nat_le i.bound end) (i ∷ filter (becomes_complete water end) is) (filter (becomes_complete water end) is))) (sym f) later.1)

-- where each bound lies before the final time and none is open, nothing ever becomes complete
none_at_all : (water new : ℕ) (is : List Instance) → All (λ (i : Instance). i.bound < FINAL) is → FINAL ≤ open_bound water is → filter (becomes_complete water new) is ≡ []
none_at_all water new [] a l = refl
none_at_all water new (i ∷ is) a l = by (cases_Bool (nat_lt water i.bound)) (none_at_all water new is (All-tail (λ (i : Instance). i.bound < FINAL) i is a))
  where
    by : (nat_lt water i.bound ≡ true) ⊎ (nat_lt water i.bound ≡ false) → (FINAL ≤ open_bound water is → filter (becomes_complete water new) is ≡ []) → filter (becomes_complete water new) (i ∷ is) ≡ []
    by (inl t) rest =
        let late : FINAL ≤ i.bound = subst (λ b. FINAL ≤ looked water i is b) t l in
        let early : i.bound < FINAL = All-head (λ (i : Instance). i.bound < FINAL) i is a in
        absurd (omega arith)
    by (inr f) rest =
        ap (λ b. cond (b && nat_le i.bound new) (i ∷ filter (becomes_complete water new) is) (filter (becomes_complete water new) is)) f
        ∙ rest (subst (λ b. FINAL ≤ looked water i is b) f l)

-- ---- of a window
pub due_at : (window : ℕ) (key : List ℕ) (w : Def) (m : Moment) (end : ℕ) → end ≡ first_open m w → end < FINAL → (m.water < end) × (completions key m end (window, w) ≢ [])
due_at window key w m end is l =
    let due = some_at m.water end (instances_of w.kind m.kept m.marks) (sym is) l in (
      due.0,
      λ none.
          let many : length (completions key m end (window, w)) ≡ 0 = ap length none in
          let same = length-map (filter (becomes_complete m.water end) (instances_of w.kind m.kept m.marks)) (λ i. New (row_of window key w.func i)) in
          omega (arith, due.1),
    )

pub none_ever : (window : ℕ) (key : List ℕ) (w : Def) (m : Moment) (new : ℕ) → All (λ (i : Instance). i.bound < FINAL) (instances_of w.kind m.kept m.marks) → FINAL ≤ first_open m w → completions key m new (window, w) ≡ []
none_ever window key w m new early l =
    ap (map (λ i. New (row_of window key w.func i))) (none_at_all m.water new (instances_of w.kind m.kept m.marks) early l)

-- ---- each bound lies before the final time
spans_early : (length slide : ℕ) (kept : List Kept) → 1 ≤ slide → slide ≤ length → length ≤ TIME_MAX → All (λ x. x.time ≤ TIME_MAX) kept → All (λ (i : Instance). i.bound < FINAL) (spans length slide kept)
spans_early length slide kept moves overlaps short times =
    All_from_members (λ (i : Instance). i.bound < FINAL) (spans length slide kept)
    (λ i c.
    let g : (a : ℕ) × Contains (starts_of length slide kept) a × (interval a (a + length) kept ≡ i) = map_members (λ low. interval low (low + length) kept) (starts_of length slide kept) i c in
    let h : (k : ℕ) × (x : Kept) × Contains kept x × (g.0 ≡ k * slide) × (g.0 ≤ x.time) × (x.time < g.0 + length) = starts_of_members length slide moves overlaps kept g.0 g.1 in
    let t : (h.1).time ≤ TIME_MAX = All-contains (λ (x : Kept). x.time ≤ TIME_MAX) kept h.1 times h.2 in
    let fits : TIME_MAX + TIME_MAX < FINAL = omega arith in
    let low : g.0 ≤ (h.1).time = h.4 in
    subst (λ (i : Instance). i.bound < FINAL) g.2 (omega arith))

pub timed_early : (kind : Kind) (kept : List Kept) (marks : List ℕ) → is_timed kind ≡ true → IsKindWithin kind → All (λ x. x.time ≤ TIME_MAX) kept → All (λ (i : Instance). i.bound < FINAL) (instances_of kind kept marks)
timed_early kind kept marks t k times =
    let w = timed_within kind t k in
    subst (All (λ (i : Instance). i.bound < FINAL)) (sym (timed_instances kind kept marks t)) (spans_early (length_of kind) (slide_of kind) kept w.0 w.1 w.2 times)

pub counts_early : (kind : Kind) (count : ℕ) (kept : List Kept) (marks : List ℕ) → kind ≡ Events count → 1 ≤ count → All (λ x. x.time < FINAL) kept → All (λ (i : Instance). i.bound < FINAL) (instances_of kind kept marks)
unfolding instances_of
counts_early kind count kept marks e some times =
    subst (λ k. All (λ (i : Instance). i.bound < FINAL) (instances_of k kept marks)) (sym e)
    (All_from_members (λ (i : Instance). i.bound < FINAL) (counted count kept)
    (λ j c.
    let g : (i : ℕ) × Contains (range_with_len 0 (length kept / count)) i × (ranks count kept i ≡ j) = map_members (ranks count kept) (range_with_len 0 (length kept / count)) j c in
    let r : (0 ≤ g.0) × (g.0 < 0 + length kept / count) = range_members 0 (length kept / count) g.0 g.1 in
    let room : (g.0 + 1) * count ≤ length kept = in_counts g.0 count (length kept) (omega (arith, r.1)) in
    let full : 1 ≤ (g.0 + 1) * count = some_product g.0 count some in
    let bound = ranks_bound count kept g.0 none_of some room in
    let early : (get_or kept ((g.0 + 1) * count - 1) none_of).time < FINAL = All-get_or (λ (x : Kept). x.time < FINAL) kept ((g.0 + 1) * count - 1) none_of (omega arith) times in
    subst (λ (i : Instance). i.bound < FINAL) g.2 (subst (λ b. b < FINAL) (sym bound) early)))
  where
    some_product : (a c : ℕ) → 1 ≤ c → 1 ≤ (a + 1) * c
    some_product a c s = grind arith
