-- The sessions near the tuple are one with it, and what is told is what that changes.
use Rattle.std.proofs.Common.{◌≡◌, ◌∙◌, ◌≤◌, ◌++◌, [], length, ap, sym, subst, arith, rules}
use Rattle.std.specs.Prelude.{option_to_list}
use Rattle.std.proofs.lemmas.List.{length-map}
use Rattle.stream_base.specs.Model.Journal.{put_in_order}
use Rattle.key_parts.specs.Calls.{window_at}
use Rattle.window_spans.specs.declared.standing.Standing.{Standing}
use Rattle.window_spans.specs.Spans.{AreApart, asked_of, joined_span, near_of, spans_with}
use Rattle.window_spans.proofs.Apart.{apart_with}
use Rattle.context_windows.specs.Spanned.{HoldsSessions, Remembers, Spanned, gap_at}
use Rattle.context_windows.proofs.Changing.{put_follows, put_told}
use Rattle.context_windows.proofs.Owed.{asked_are_told}
use Rattle.context_windows.proofs.sessions.Sessions.put.Goals as goal

pub invariant_of-self : goal.invariant_of-self
invariant_of-self g c =
    let is : c.replace.new.spans.items ≡ spans_with c.gap_of-gap.result c.args.time c.self.inside.spans.items = search rules in
    subst AreApart (sym is) (apart_with c.gap_of-gap.result c.args.time c.gap_of-gap.ensures.some c.self.inside.spans.items c.self.invariant)

pub returns-clause-spans : goal.returns-clause-spans
returns-clause-spans g c = search rules

pub returns-clause-follows : goal.returns-clause-follows
returns-clause-follows g c = λ kept x f le at.
    let is : c.replace.new.spans.items ≡ spans_with (gap_at c.args.defs.now c.args.window) x.time c.args.self.now.spans = returns-clause-spans g c ∙ ap (λ t. spans_with (gap_at c.args.defs.now c.args.window) t c.args.self.now.spans) (sym at) in
    put_follows c.args.window (window_at c.args.defs.now c.args.window) c.args.key.now (record { kept = kept; marks = []; water = 0 }) x c.args.self.now c.requires.session.session f (subst (λ t. c.args.self.now.forgotten ≤ t) (sym at) le) _ is (search rules)

pub returns-clause-changes : goal.returns-clause-changes
returns-clause-changes g c = λ m x f le at water r held.
    let def = window_at c.args.defs.now c.args.window in
    let over : c.joined-span.result ≡ joined_span (gap_at c.args.defs.now c.args.window) c.args.time (near_of (gap_at c.args.defs.now c.args.window) c.args.time c.args.self.now.spans) = search rules in
    let stood : option_to_list c.self.inside.first ++ option_to_list c.self.inside.second ≡ c.args.self.now.stood = ap (λ (v : Spanned). v.stood) c.self.view_is in
    put_told c.args.window def c.args.key.now m x c.args.self.now c.requires.session.session f (subst (λ t. c.args.self.now.forgotten ≤ t) (sym at) le)
    c.args.water (g.S.AggStore.stored c.args.store.now) water (subst (λ t. Remembers def t c.args.water m.kept c.args.self.now) (sym at) r) (subst (λ t. HoldsSessions (gap_at c.args.defs.now c.args.window) t (put_in_order m.kept x) (g.S.AggStore.stored c.args.store.now)) (sym at) held)
    c.joined-span.result (over ∙ ap (λ t. joined_span (gap_at c.args.defs.now c.args.window) t (near_of (gap_at c.args.defs.now c.args.window) t c.args.self.now.spans)) (sym at))
    c.self.inside.first c.self.inside.second stood c.args.out.now.items c.tell_gone.new.out.items c.tell_gone-2.new.out.items c.tell_joined.new.out.items
    c.tell_gone.ensures.items c.tell_gone-2.ensures.items (λ i h. c.tell_joined.ensures.told i h ∙ search rules)

pub returns-clause-adds : goal.returns-clause-adds
returns-clause-adds g c = record { number = search rules; capacity = search rules }

pub returns-clause-owed : goal.returns-clause-owed
returns-clause-owed g c =
    let s = c.args.self.now in
    let gap = gap_at c.args.defs.now c.args.window in
    let apart : AreApart s.spans = subst (λ (v : Spanned). AreApart v.spans) c.self.view_is c.self.invariant in
    let few : length s.stood ≡ length (asked_of gap c.args.time c.args.water s.spans) = sym (length-map s.stood (λ (x : Standing). x.span)) ∙ ap length c.requires.asked.spans in
    omega (arith, few, asked_are_told gap c.args.time c.args.water s.spans apart, (returns-clause-adds g c).number)
