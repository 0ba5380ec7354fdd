-- One instance more is told behind those so far.
use Rattle.std.proofs.Common.{◌≡◌, ◌≤◌, [], ◌∷◌, ◌++◌, ap, arith, rules}
use Rattle.stream_base.specs.declared.change.Change.TheVariants.{New}
use Rattle.count_shift.specs.Counting.{new_behind}
use Rattle.count_shift.proofs.Telling.{told_more, steps_more}
use Rattle.count_shift.proofs.events_window.EventsWindow.append_new.Goals as goal

pub loop-i-preserved : goal.loop-i-preserved
loop-i-preserved g c =
    let w = c.args.self.now in
    let so_far : c.args.from ≤ c.loop-i.i = c.loop-i.auto.i in
    let pushed : c.push_reserved.new.self.items ≡ c.loop-i.out.items ++ New c.row-row.result ∷ [] = search rules in
    record {
      told = told_more (new_behind w.gone w.window w.key.now w.func w.count c.args.items.now) c.args.out.now.items c.loop-i.out.items c.push_reserved.new.self.items c.args.from c.loop-i.i (New c.row-row.result) so_far c.loop-i.invariant.told (ap New c.row-row.ensures.value) pushed;
      number = search rules;
      capacity = search rules;
      cost = omega (arith, steps_more w.count c.args.from c.loop-i.i so_far);
      none = λ h. omega arith;
    }
