-- The intervals that are due are told.
use Rattle.std.proofs.Common.{◌≡◌, ◌∙◌, sym, subst, rules}
use Rattle.std.specs.List.{All}
use Rattle.window_spans.specs.Held.{IsAlignedWith}
use Rattle.window_spans.specs.Spans.{due_of}
use Rattle.context_windows.proofs.Stretching.{marks_move_told}
use Rattle.context_windows.proofs.mark_windows.MarkWindows.water.Goals as goal

pub tell_all-requires-clause-aligned : goal.tell_all-requires-clause-aligned
tell_all-requires-clause-aligned g c =
    let is : due_of c.args.old c.args.new c.args.self.now.spans ≡ c.between.result.now = search rules in
    subst (All (IsAlignedWith (g.S.AggStore.stored c.args.store.now).slices)) is c.requires.aligned

pub returns-clause-changes : goal.returns-clause-changes
returns-clause-changes g c = λ m f le at held.
    let is : due_of c.args.old c.args.new c.args.self.now.spans ≡ c.between.result.now = search rules in
    marks_move_told c.args.window c.args.func c.args.key.now m c.args.old c.args.new c.args.self.now (g.S.AggStore.stored c.args.store.now) f le at held c.between.result.now (sym is) c.args.out.now.items c.tell_all.new.out.items (λ is h. c.tell_all.ensures.told is h ∙ search rules)
