-- The interval that holds the tuple has one, and is told where it stands.
use Rattle.std.proofs.Common.{◌≡◌, ◌∙◌, ◌≤◌, ◌<◌, ◌+◌, ◌∷◌, ◌++◌, take, drop, ap, sym, subst, arith, rules}
use Rattle.std.specs.Prelude.{nat_le, option_to_list}
use Rattle.std.specs.List.{filter}
use Rattle.stream_base.specs.declared.limits.TheConstants.{FINAL}
use Rattle.stream_base.specs.Model.Journal.{put_in_order}
use Rattle.window_spans.specs.declared.span.Span.{Span}
use Rattle.context_windows.specs.Marked.{AreIntervals, HoldsStretches, Marked, RemembersHolder, holder_in}
use Rattle.context_windows.proofs.Intervals.{intervals_with}
use Rattle.context_windows.proofs.Marking.{marks_put_told}
use Rattle.context_windows.proofs.Owed.{holder_is_told}
use Rattle.context_windows.proofs.Stretching.{marks_put_follows}
use Rattle.context_windows.proofs.mark_windows.MarkWindows.put.Goals as goal

pub invariant_of-self : goal.invariant_of-self
invariant_of-self g c =
    let spans = c.self.inside.spans.items in
    let marks = c.self.inside.marks.items in
    let time = c.args.time in
    let front : filter (λ (s : Span). nat_le s.high time) spans ≡ take c.near-places.result.from spans = search rules in
    let back : filter (λ (s : Span). nat_le (time + 1) s.low) spans ≡ drop c.near-places.result.to spans = subst (λ l. filter (λ (s : Span). nat_le (time + 1) s.low) l ≡ drop c.near-places.result.to l) c.deref.ensures.value c.near-places.ensures.places.back in
    let over : c.first_or-span.result ≡ holder_in time spans marks = search rules in
    let is : c.replace.new.spans.items ≡ filter (λ (s : Span). nat_le s.high time) spans ++ holder_in time spans marks ∷ filter (λ (s : Span). nat_le (time + 1) s.low) spans = c.replace.ensures.items ∙ (λ i. sym front i ++ over i ∷ sym back i) in
    subst (λ l. AreIntervals l marks) (sym is) (intervals_with spans marks time c.self.invariant c.requires.takes.time)

pub returns-clause-follows : goal.returns-clause-follows
returns-clause-follows g c = λ marks kept x f le at.
    let s = c.args.self.now in
    let spans = c.self.inside.spans.items in
    let time = c.args.time in
    let front : filter (λ (s : Span). nat_le s.high time) spans ≡ take c.near-places.result.from spans = search rules in
    let back : filter (λ (s : Span). nat_le (time + 1) s.low) spans ≡ drop c.near-places.result.to spans = subst (λ l. filter (λ (s : Span). nat_le (time + 1) s.low) l ≡ drop c.near-places.result.to l) c.deref.ensures.value c.near-places.ensures.places.back in
    let over : c.first_or-span.result ≡ holder_in time spans c.self.inside.marks.items = search rules in
    let is : c.replace.new.spans.items ≡ filter (λ (t : Span). nat_le t.high time) s.spans ++ holder_in time s.spans s.marks ∷ filter (λ (t : Span). nat_le (time + 1) t.low) s.spans =
    c.replace.ensures.items ∙ (λ i. sym front i ++ over i ∷ sym back i)
    ∙ ap (λ (v : Marked). filter (λ (t : Span). nat_le t.high time) v.spans ++ holder_in time v.spans v.marks ∷ filter (λ (t : Span). nat_le (time + 1) t.low) v.spans) c.self.view_is in
    let early : x.time < FINAL = omega (arith, c.requires.takes.time) in
    marks_put_follows marks kept x s early f (subst (λ t. s.forgotten ≤ t) (sym at) le) _
    (is ∙ ap (λ n. filter (λ (t : Span). nat_le t.high n) s.spans ++ holder_in n s.spans s.marks ∷ filter (λ (t : Span). nat_le (n + 1) t.low) s.spans) (sym at)) (ap (λ (v : Marked). v.marks) c.self.view_is) (ap (λ (v : Marked). v.forgotten) c.self.view_is)

pub returns-clause-changes : goal.returns-clause-changes
returns-clause-changes g c = λ m x f le at water r held.
    let s = c.args.self.now in
    let early : x.time < FINAL = omega (arith, c.requires.takes.time) in
    let within : c.first_or-span.result ≡ holder_in c.args.time c.self.inside.spans.items c.self.inside.marks.items = search rules in
    let over : c.first_or-span.result ≡ holder_in c.args.time s.spans s.marks = within ∙ ap (λ (v : Marked). holder_in c.args.time v.spans v.marks) c.self.view_is in
    let stood : option_to_list c.self.inside.stood ≡ s.stood = ap (λ (v : Marked). v.stood) c.self.view_is in
    marks_put_told c.args.window c.args.func c.args.key.now m x s early f (subst (λ t. s.forgotten ≤ t) (sym at) le) c.args.water (g.S.AggStore.stored c.args.store.now) water
    (subst (λ t. RemembersHolder c.args.func t c.args.water m.marks m.kept s) (sym at) r) (subst (λ t. HoldsStretches t m.marks (put_in_order m.kept x) (g.S.AggStore.stored c.args.store.now)) (sym at) held)
    c.first_or-span.result (over ∙ ap (λ t. holder_in t s.spans s.marks) (sym at)) c.self.inside.stood stood c.args.out.now.items c.tell_joined.new.out.items (λ i h. c.tell_joined.ensures.told i h ∙ search rules)

pub returns-clause-tells : goal.returns-clause-tells
returns-clause-tells g c = record { number = search rules; capacity = search rules; cost = search rules }

pub returns-clause-owed : goal.returns-clause-owed
returns-clause-owed g c = λ marks kept f le r.
    omega (arith, holder_is_told c.args.func c.args.time c.args.water marks kept c.args.self.now (omega (arith, c.requires.takes.time)) f le r, (returns-clause-tells g c).number)
