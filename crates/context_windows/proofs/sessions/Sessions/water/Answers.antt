-- The sessions that are due are told.
use Rattle.std.proofs.Common.{◌≡◌, ◌∙◌, sym, subst, rules}
use Rattle.std.specs.List.{All}
use Rattle.key_parts.specs.Calls.{window_at}
use Rattle.window_spans.specs.Held.{IsAlignedWith}
use Rattle.window_spans.specs.Spans.{due_of}
use Rattle.context_windows.proofs.Changing.{move_told}
use Rattle.context_windows.proofs.sessions.Sessions.water.Goals as goal

pub tell_all-requires-clause-aligned : goal.tell_all-requires-clause-aligned
tell_all-requires-clause-aligned g c =
    let is : due_of c.args.old c.args.new c.args.self.now.spans ≡ c.between-sessions.result.now = search rules in
    subst (All (IsAlignedWith (g.S.AggStore.stored c.args.store.now).slices)) is c.requires.aligned

pub returns-clause-changes : goal.returns-clause-changes
returns-clause-changes g c = λ m f le at held.
    let is : due_of c.args.old c.args.new c.args.self.now.spans ≡ c.between-sessions.result.now = search rules in
    move_told c.args.window (window_at c.args.defs.now c.args.window) c.args.key.now m c.args.old c.args.new c.args.self.now (g.S.AggStore.stored c.args.store.now) c.requires.session.session f le at held c.between-sessions.result.now (sym is) c.args.out.now.items c.tell_all.new.out.items (λ is h. c.tell_all.ensures.told is h ∙ search rules)
