-- From which time on tuples aren't settled in a window whose instances lie apart.
use Rattle.std.proofs.Common.{◌≡◌, ◌∙◌, ℕ, ◌+◌, ◌-◌, ◌<◌, ◌≤◌, true, false, List, drop, map, ap, sym, subst, arith, inl, inr}
use Rattle.std.specs.Prelude.{◌↔◌, nat_lt}
use Rattle.std.specs.List.{All, Contains, filter}
use Rattle.std.proofs.lemmas.Bool.{cases_Bool, le-ltb}
use Rattle.std.proofs.lemmas.List.Elements.{All-contains}
use Rattle.stream_base.specs.declared.def.Def.{Def}
use Rattle.stream_base.specs.declared.kept.Kept.{Kept}
use Rattle.stream_base.specs.declared.limits.TheConstants.{FINAL, TIME_MAX}
use Rattle.stream_base.specs.Limits.{Definitions}
use Rattle.stream_base.specs.Kinds.{IsKindWithin, is_events}
use Rattle.stream_base.specs.Model.Changes.{Moment}
use Rattle.stream_base.specs.Model.Slices.{is_settled_in}
use Rattle.stream_base.specs.Model.Windows.{Instance, instances_of}
use Rattle.stream_base.proofs.Members.{filter_map_of, map_has}
use Rattle.window_laws.specs.After.{at_water}
use Rattle.window_laws.specs.Positions.{AreKept}
use Rattle.window_laws.specs.Settled.{IsSettledAt, MayLeave, without_first}
use Rattle.window_laws.proofs.SettledFacts.{told_by_times}
use Rattle.window_laws.proofs.KindFacts.{holding}
use Rattle.window_spans.specs.declared.span.Span.{Span}
use Rattle.window_spans.specs.Ahead.{start_after}
use Rattle.window_spans.specs.Spans.{AreApart, span_of}
use Rattle.window_spans.proofs.Parts.{filter_twice}
use Rattle.context_windows.proofs.Following.{only_later}
use Rattle.key_parts.specs.Moves.{SettlesUpTo}
use Rattle.context_windows.proofs.Rest.{left_over, open_alike, rest_is_kept}
use Rattle.context_windows.proofs.Starts.{ends_early, ends_late, later, low_first, starts_with}

module _ (d : Definitions) (m : Moment) (n water : ℕ) (w : Def) (may : MayLeave d m n) (c : Contains d.windows w) (e : is_events w.kind ≡ false) (rises : m.water ≤ water) (times : All (λ (x : Kept). x.time ≤ TIME_MAX) m.kept) (forgotten : ℕ) (le : forgotten ≤ m.water - d.lateness) (spans : List Span) (is : spans ≡ map span_of (filter (λ (i : Instance). nat_lt forgotten i.high) (instances_of w.kind m.kept m.marks))) (apart : AreApart (map span_of (instances_of w.kind (drop n m.kept) m.marks))) where
  rest : AreKept (drop n m.kept)
  rest = rest_is_kept n m.kept may.kept

  is_within_limits : IsKindWithin w.kind
  is_within_limits = All-contains (λ w. IsKindWithin w.kind) d.windows w may.kinds c

  open_spans : later (water - d.lateness) spans ≡ later (water - d.lateness) (map span_of (instances_of w.kind (drop n m.kept) m.marks))
  open_spans =
      ap (later (water - d.lateness)) is
      ∙ filter_map_of (λ (s : Span). nat_lt (water - d.lateness) s.high) span_of (filter (λ (i : Instance). nat_lt forgotten i.high) (instances_of w.kind m.kept m.marks))
      ∙ ap (map span_of)
      (filter_twice (λ (i : Instance). nat_lt (water - d.lateness) i.high) (λ (i : Instance). nat_lt forgotten i.high) (λ (i : Instance). nat_lt (water - d.lateness) i.high)
      (λ i. only_later forgotten i.high (nat_lt (water - d.lateness) i.high) (λ l. le-ltb (water - d.lateness) i.high (omega (arith, l, le, rises)))) (instances_of w.kind m.kept m.marks)
      ∙ open_alike d m n may w c e (water - d.lateness) (omega (arith, rises)))
      ∙ sym (filter_map_of (λ (s : Span). nat_lt (water - d.lateness) s.high) span_of (instances_of w.kind (drop n m.kept) m.marks))

  start_is : start_after (water - d.lateness) spans ≡ low_first (later (water - d.lateness) (map span_of (instances_of w.kind (drop n m.kept) m.marks)))
  start_is = starts_with (water - d.lateness) spans ∙ ap low_first open_spans

  told : (x : Kept) → Contains (drop n m.kept) x → (is_settled_in d.lateness (at_water (without_first n m) water) x w ≡ true) ↔ IsSettledAt d.lateness w.kind (at_water (without_first n m) water) x.time
  told x f = told_by_times d.lateness (at_water (without_first n m) water) x w rest is_within_limits e f

  -- before the start of the first open instance all are settled
  settled_before : (x : Kept) → Contains (drop n m.kept) x → x.time < start_after (water - d.lateness) spans → is_settled_in d.lateness (at_water (without_first n m) water) x w ≡ true
  settled_before x f l =
      (told x f).1 (λ i g low high.
      let ends : i.high ≤ water - d.lateness = ends_early (water - d.lateness) (map span_of (instances_of w.kind (drop n m.kept) m.marks)) (span_of i) x.time apart (map_has span_of (instances_of w.kind (drop n m.kept) m.marks) i g) low (subst (λ t. x.time < t) start_is l) in
      omega (arith, ends, high))

  -- and from it on none
  open_behind : (x : Kept) → Contains (drop n m.kept) x → start_after (water - d.lateness) spans ≤ x.time → is_settled_in d.lateness (at_water (without_first n m) water) x w ≡ true → ⊥
  open_behind x f l s =
      let i = holding w.kind (drop n m.kept) m.marks x is_within_limits e rest.in_order (All-contains (λ (z : Kept). z.time < FINAL) (drop n m.kept) x rest.early f) f in
      let t : x.time ≤ TIME_MAX = All-contains (λ (z : Kept). z.time ≤ TIME_MAX) m.kept x times (left_over n m.kept x f) in
      let ends : (i.0).high + d.lateness ≤ water = (told x f).0 s i.0 i.1 i.2 i.3 in
      let later_ : water - d.lateness < (i.0).high = ends_late (water - d.lateness) (map span_of (instances_of w.kind (drop n m.kept) m.marks)) (span_of i.0) x.time apart (map_has span_of (instances_of w.kind (drop n m.kept) m.marks) i.0 i.1) i.3 (omega (arith, t)) (subst (λ t. t ≤ x.time) start_is l) in
      omega (arith, ends, later_)

  pub settles_up_to : SettlesUpTo d.lateness (at_water (without_first n m) water) w (start_after (water - d.lateness) spans)
  settles_up_to = record {
    before = settled_before;
    behind = λ x f l. elim (cases_Bool (is_settled_in d.lateness (at_water (without_first n m) water) x w)) [
      | inl s ↦ absurd (open_behind x f l s)
      | inr s ↦ s
    ];
  }
