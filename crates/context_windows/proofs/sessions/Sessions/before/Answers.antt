-- What is kept are the sessions that stand of those near the time.
use Rattle.std.proofs.Common.{◌≡◌, ◌∙◌, ◌++◌, refl, sym, subst, rules}
use Rattle.std.specs.Prelude.{option_to_list}
use Rattle.std.specs.List.{All}
use Rattle.key_parts.specs.Calls.{window_at}
use Rattle.slice_lists.proofs.Order.{All-split}
use Rattle.window_spans.specs.Held.{IsAlignedWith}
use Rattle.window_spans.specs.Spans.{asked_of}
use Rattle.context_windows.specs.Spanned.{gap_at}
use Rattle.context_windows.proofs.Changing.{remembered}
use Rattle.context_windows.proofs.sessions.Sessions.before.Goals as goal

pub ask-self-inside-requires-clause-aligned : goal.ask-self-inside-requires-clause-aligned
ask-self-inside-requires-clause-aligned g c =
    let is : option_to_list c.standing_near-first.result.0 ++ option_to_list c.standing_near-first.result.1 ≡ asked_of (gap_at c.args.defs.now c.args.window) c.args.time c.args.water c.args.self.now.spans = search rules in
    (All-split (IsAlignedWith (g.S.AggStore.stored c.args.store.now).slices) (option_to_list c.standing_near-first.result.0) (option_to_list c.standing_near-first.result.1) (subst (All (IsAlignedWith (g.S.AggStore.stored c.args.store.now).slices)) (sym is) c.requires.aligned)).0

pub ask-self-inside-requires-2-clause-aligned : goal.ask-self-inside-requires-2-clause-aligned
ask-self-inside-requires-2-clause-aligned g c =
    let is : option_to_list c.standing_near-first.result.0 ++ option_to_list c.standing_near-first.result.1 ≡ asked_of (gap_at c.args.defs.now c.args.window) c.args.time c.args.water c.args.self.now.spans = search rules in
    (All-split (IsAlignedWith (g.S.AggStore.stored c.args.store.now).slices) (option_to_list c.standing_near-first.result.0) (option_to_list c.standing_near-first.result.1) (subst (All (IsAlignedWith (g.S.AggStore.stored c.args.store.now).slices)) (sym is) c.requires.aligned)).1

pub returns-clause-remembers : goal.returns-clause-remembers
returns-clause-remembers g c = λ kept f le held.
    let is : option_to_list c.standing_near-first.result.0 ++ option_to_list c.standing_near-first.result.1 ≡ asked_of (gap_at c.args.defs.now c.args.window) c.args.time c.args.water c.args.self.now.spans = search rules in
    remembered (window_at c.args.defs.now c.args.window) c.args.time c.args.water kept c.args.self.now _ (g.S.AggStore.stored c.args.store.now) c.requires.comes.session.session f le held c.standing_near-first.result.0 c.standing_near-first.result.1 is c.ask-self-inside.result c.ask-self-inside-2.result refl (λ is h. c.ask-self-inside.ensures.value is h ∙ search rules) (λ is h. c.ask-self-inside-2.ensures.value is h ∙ search rules)
