-- The interval that the mark parts goes, and its parts come.
use Rattle.std.proofs.Common.{◌≡◌, ◌∙◌, ◌<◌, ◌+◌, ◌*◌, ◌∷◌, [], ◌++◌, length, take, drop, None, Some, ap, refl, sym, subst, arith, rules}
use Rattle.std.specs.Prelude.{nat_le, nat_lt, option_to_list, vec_len}
use Rattle.std.specs.BTreeSet.{insert_key}
use Rattle.std.specs.List.{All, filter}
use Rattle.std.specs.Ordering.{nat_cmp}
use Rattle.std.proofs.lemmas.List.{append-nil}
use Rattle.std.proofs.lemmas.List.Elements.{All-head, All-tail}
use Rattle.stream_base.specs.declared.limits.TheConstants.{FINAL}
use Rattle.stream_base.specs.Model.Windows.{within}
use Rattle.agg_store.specs.Stored.{tuples_of}
use Rattle.window_laws.proofs.StretchFacts.{stretches_after_mark}
use Rattle.slice_lists.proofs.PlaceFacts.{marks_do_not_fall}
use Rattle.window_spans.specs.declared.span.Span.{Span}
use Rattle.window_spans.specs.Held.{IsAlignedWith}
use Rattle.window_spans.specs.Parted.{back_of, front_of, part_if}
use Rattle.context_windows.specs.Marked.{AreIntervals, Marked, parted_of, with_parts}
use Rattle.context_windows.proofs.Intervals.{intervals_marked, intervals_parted}
use Rattle.context_windows.proofs.Marking.{mark_follows, mark_leaves, mark_tells, mark_tells_none, three_costs}
use Rattle.context_windows.proofs.mark_windows.MarkWindows.mark.Goals as goal

pub add_mark-requires-clause-in_order : goal.add_mark-requires-clause-in_order
add_mark-requires-clause-in_order g c = marks_do_not_fall c.self.inside.marks.items c.self.invariant.rising

pub tell_part-requires-clause-aligned : goal.tell_part-requires-clause-aligned
tell_part-requires-clause-aligned g c =
    let span = c.in-Some.span in
    let parted : parted_of c.args.time c.args.self.now.spans ≡ Some span = search rules in
    let all = subst (λ o. All (IsAlignedWith (g.S.AggStore.stored c.args.store.now).slices) (with_parts c.args.time o)) parted c.requires.aligned in
    subst (IsAlignedWith (g.S.AggStore.stored c.args.store.now).slices) (sym c.front_of-in-Some-2.ensures)
    (All-head (IsAlignedWith (g.S.AggStore.stored c.args.store.now).slices) (front_of c.args.time span) (back_of c.args.time span ∷ []) (All-tail (IsAlignedWith (g.S.AggStore.stored c.args.store.now).slices) span (front_of c.args.time span ∷ back_of c.args.time span ∷ []) all))

pub tell_part-requires-in-Some-clause-aligned : goal.tell_part-requires-in-Some-clause-aligned
tell_part-requires-in-Some-clause-aligned g c =
    let span = c.in-Some.span in
    let parted : parted_of c.args.time c.args.self.now.spans ≡ Some span = search rules in
    let all = subst (λ o. All (IsAlignedWith (g.S.AggStore.stored c.args.store.now).slices) (with_parts c.args.time o)) parted c.requires.aligned in
    subst (IsAlignedWith (g.S.AggStore.stored c.args.store.now).slices) (sym c.back_of-in-Some-2.ensures)
    (All-head (IsAlignedWith (g.S.AggStore.stored c.args.store.now).slices) (back_of c.args.time span) [] (All-tail (IsAlignedWith (g.S.AggStore.stored c.args.store.now).slices) (front_of c.args.time span) (back_of c.args.time span ∷ []) (All-tail (IsAlignedWith (g.S.AggStore.stored c.args.store.now).slices) span (front_of c.args.time span ∷ back_of c.args.time span ∷ []) all)))

pub invariant_of-self : goal.invariant_of-self
invariant_of-self g c =
    let spans = c.self.inside.spans.items in
    let time = c.args.time in
    let span = c.in-Some.span in
    let ff = c.is_filled-front.result in
    let bf = c.is_filled-back.result in
    let forgotten = c.self.inside.forgotten in
    let parted : parted_of time spans ≡ Some span = search rules in
    let front : filter (λ (s : Span). nat_le s.high time) spans ≡ take c.near-places.result.from spans = search rules in
    let back : filter (λ (s : Span). nat_le (time + 1) s.low) spans ≡ drop c.near-places.result.to spans = subst (λ l. filter (λ (s : Span). nat_le (time + 1) s.low) l ≡ drop c.near-places.result.to l) c.deref.ensures.value c.near-places.ensures.places.back in
    let first : c.part_if-first.result ≡ part_if ff forgotten (front_of time span) = c.part_if-first.ensures ∙ ap (part_if ff forgotten) c.front_of-in-Some.ensures in
    let second : c.part_if-second.result ≡ part_if bf forgotten (back_of time span) = c.part_if-second.ensures ∙ ap (part_if bf forgotten) c.back_of-in-Some.ensures in
    let is : c.part.new.spans.items ≡ filter (λ (s : Span). nat_le s.high time) spans ++ ((option_to_list (part_if ff forgotten (front_of time span)) ++ option_to_list (part_if bf forgotten (back_of time span))) ++ filter (λ (s : Span). nat_le (time + 1) s.low) spans) =
    c.part.ensures.items ∙ (λ i. sym front i ++ ((option_to_list (first i) ++ option_to_list (second i)) ++ sym back i)) in
    subst (λ l. AreIntervals l c.add_mark.new.marks.items) (sym is)
    (subst (λ ms. AreIntervals (filter (λ (s : Span). nat_le s.high time) spans ++ ((option_to_list (part_if ff forgotten (front_of time span)) ++ option_to_list (part_if bf forgotten (back_of time span))) ++ filter (λ (s : Span). nat_le (time + 1) s.low) spans)) ms) (sym c.add_mark.ensures.added)
    (intervals_parted spans c.self.inside.marks.items time c.self.invariant c.requires.takes.time span parted ff bf forgotten))

pub invariant_of-self-in_default : goal.invariant_of-self-in_default
invariant_of-self-in_default g c =
    subst (λ ms. AreIntervals c.self.inside.spans.items ms) (sym c.add_mark.ensures.added) (intervals_marked c.self.inside.spans.items c.self.inside.marks.items c.args.time c.self.invariant c.requires.takes.time (search rules))

pub returns-in-Some-clause-follows : goal.returns-in-Some-clause-follows
returns-in-Some-clause-follows g c = λ marks kept f le held.
    let s = c.args.self.now in
    let spans = c.self.inside.spans.items in
    let time = c.args.time in
    let span = c.in-Some.span in
    let ff = c.is_filled-front.result in
    let bf = c.is_filled-back.result in
    let early : time < FINAL = omega (arith, c.requires.takes.time) in
    let forgotten : c.self.inside.forgotten ≡ s.forgotten = ap (λ (v : Marked). v.forgotten) c.self.view_is in
    let parted : parted_of time s.spans ≡ Some span = search rules in
    let front : filter (λ (s : Span). nat_le s.high time) spans ≡ take c.near-places.result.from spans = search rules in
    let back : filter (λ (s : Span). nat_le (time + 1) s.low) spans ≡ drop c.near-places.result.to spans = subst (λ l. filter (λ (s : Span). nat_le (time + 1) s.low) l ≡ drop c.near-places.result.to l) c.deref.ensures.value c.near-places.ensures.places.back in
    let first : c.part_if-first.result ≡ part_if ff s.forgotten (front_of time span) = c.part_if-first.ensures ∙ (λ i. part_if ff (forgotten i) (c.front_of-in-Some.ensures i)) in
    let second : c.part_if-second.result ≡ part_if bf s.forgotten (back_of time span) = c.part_if-second.ensures ∙ (λ i. part_if bf (forgotten i) (c.back_of-in-Some.ensures i)) in
    let ffi : ff ≡ nat_lt 0 (length (within (front_of time span).low (front_of time span).high (tuples_of (g.S.AggStore.stored c.args.store.now)))) = c.is_filled-front.ensures ∙ ap (λ (k : Span). nat_lt 0 (length (within k.low k.high (tuples_of (g.S.AggStore.stored c.args.store.now))))) c.front_of.ensures in
    let bfi : bf ≡ nat_lt 0 (length (within (back_of time span).low (back_of time span).high (tuples_of (g.S.AggStore.stored c.args.store.now)))) = c.is_filled-back.ensures ∙ ap (λ (k : Span). nat_lt 0 (length (within k.low k.high (tuples_of (g.S.AggStore.stored c.args.store.now))))) c.back_of.ensures in
    mark_follows marks kept time s f le (stretches_after_mark marks kept time early) (g.S.AggStore.stored c.args.store.now) held span parted _ (front_of time span) (back_of time span) refl refl ff bf ffi bfi
    (c.part.ensures.items ∙ (λ i. sym front i ++ ((option_to_list (first i) ++ option_to_list (second i)) ++ sym back i))
    ∙ ap (λ (v : Marked). filter (λ (t : Span). nat_le t.high time) v.spans ++ ((option_to_list (part_if ff s.forgotten (front_of time span)) ++ option_to_list (part_if bf s.forgotten (back_of time span))) ++ filter (λ (t : Span). nat_le (time + 1) t.low) v.spans)) c.self.view_is)
    (c.add_mark.ensures.added ∙ ap (λ (v : Marked). insert_key nat_cmp v.marks time) c.self.view_is) forgotten

pub returns-in-Some-clause-changes : goal.returns-in-Some-clause-changes
returns-in-Some-clause-changes g c = λ m f le water held.
    let s = c.args.self.now in
    let time = c.args.time in
    let span = c.in-Some.span in
    let early : time < FINAL = omega (arith, c.requires.takes.time) in
    let parted : parted_of time s.spans ≡ Some span = search rules in
    let ff = c.is_filled-front.result in
    let bf = c.is_filled-back.result in
    let ffi : ff ≡ nat_lt 0 (length (within c.front_of-in-Some-2.result.low c.front_of-in-Some-2.result.high (tuples_of (g.S.AggStore.stored c.args.store.now)))) = c.is_filled-front.ensures ∙ ap (λ (k : Span). nat_lt 0 (length (within k.low k.high (tuples_of (g.S.AggStore.stored c.args.store.now))))) (c.front_of.ensures ∙ sym c.front_of-in-Some-2.ensures) in
    let bfi : bf ≡ nat_lt 0 (length (within c.back_of-in-Some-2.result.low c.back_of-in-Some-2.result.high (tuples_of (g.S.AggStore.stored c.args.store.now)))) = c.is_filled-back.ensures ∙ ap (λ (k : Span). nat_lt 0 (length (within k.low k.high (tuples_of (g.S.AggStore.stored c.args.store.now))))) (c.back_of.ensures ∙ sym c.back_of-in-Some-2.ensures) in
    mark_tells c.args.window c.args.func c.args.key.now m time s early f le c.args.water (g.S.AggStore.stored c.args.store.now) water held span parted c.front_of-in-Some-2.result c.back_of-in-Some-2.result c.front_of-in-Some-2.ensures c.back_of-in-Some-2.ensures ff bf ffi bfi
    c.args.out.now.items c.tell_taken.new.out.items c.tell_part.new.out.items c.tell_part-in-Some.new.out.items
    (λ i h b. c.tell_taken.ensures.told i h b ∙ search rules) (λ i h. c.tell_part.ensures.told i h ∙ search rules) (λ i h. c.tell_part-in-Some.ensures.told i h ∙ search rules)

pub returns-in-Some-clause-tells : goal.returns-in-Some-clause-tells
returns-in-Some-clause-tells g c = record {
  number = omega (arith, c.tell_taken.ensures.tells.number, c.tell_part.ensures.tells.number, c.tell_part-in-Some.ensures.tells.number);
  capacity = search rules;
  cost = three_costs (64 * ((g.S.AggStore.stored c.args.store.now).reach + 2)) (vec_len c.args.out.now) (vec_len c.tell_taken.new.out) (vec_len c.tell_part.new.out) (vec_len c.tell_part-in-Some.new.out) c.args.steps.now c.tell_taken.new.steps c.tell_part.new.steps c.tell_part-in-Some.new.steps
      c.tell_taken.ensures.tells.cost c.tell_part.ensures.tells.cost c.tell_part-in-Some.ensures.tells.cost (omega (arith, c.tell_taken.ensures.tells.number)) (omega (arith, c.tell_part.ensures.tells.number)) (omega (arith, c.tell_part-in-Some.ensures.tells.number));
}

pub returns-in_default-clause-follows : goal.returns-in_default-clause-follows
returns-in_default-clause-follows g c = λ marks kept f le held.
    let s = c.args.self.now in
    let early : c.args.time < FINAL = omega (arith, c.requires.takes.time) in
    let parted : parted_of c.args.time s.spans ≡ None = search rules in
    mark_leaves marks kept c.args.time s f le (stretches_after_mark marks kept c.args.time early) parted _ (ap (λ (v : Marked). v.spans) c.self.view_is)
    (c.add_mark.ensures.added ∙ ap (λ (v : Marked). insert_key nat_cmp v.marks c.args.time) c.self.view_is) (ap (λ (v : Marked). v.forgotten) c.self.view_is)

pub returns-in_default-clause-changes : goal.returns-in_default-clause-changes
returns-in_default-clause-changes g c = λ m f le water held.
    let s = c.args.self.now in
    let early : c.args.time < FINAL = omega (arith, c.requires.takes.time) in
    let parted : parted_of c.args.time s.spans ≡ None = search rules in
    sym (ap (λ l. c.args.out.now.items ++ l) (mark_tells_none c.args.window c.args.func c.args.key.now m c.args.time s early f le parted) ∙ append-nil c.args.out.now.items)
