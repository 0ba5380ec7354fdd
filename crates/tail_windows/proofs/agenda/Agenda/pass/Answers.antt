-- The first end leaves, which is reached.
use Rattle.std.proofs.Common.{rules, subst, sym}
use Rattle.tail_windows.specs.Noted.{IsNoted, IsReached}
use Rattle.tail_windows.proofs.Noting.{popped}
use Rattle.tail_windows.proofs.agenda.Agenda.pass.Goals as goal

pub loop-self-preserved-in-loop-self : goal.loop-self-preserved-in-loop-self
loop-self-preserved-in-loop-self c at k d later =
    let reached : IsReached c.loop-self.self c.args.water = search rules in
    popped (c.self.inside.batches).entries (c.pop_first.new.self).entries c.args.water c.pop_first.result (subst (λ l. IsReached l c.args.water) (sym c.self.view_is) reached)
    c.pop_first.ensures.removal c.pop_first.ensures.unchanged at k (subst (λ l. IsNoted l at k) (sym c.self.view_is) (c.loop-self.invariant at k d later)) later
