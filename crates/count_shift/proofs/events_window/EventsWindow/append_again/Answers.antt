-- One instance more is told behind those so far.
use Rattle.std.proofs.Common.{◌≡◌, ◌≤◌, ◌*◌, [], ◌∷◌, ◌++◌, arith, rules}
use Rattle.std.specs.List.{remove}
use Rattle.stream_base.specs.declared.change.Change.TheVariants.{Again}
use Rattle.count_shift.specs.Counting.{again_behind}
use Rattle.count_shift.proofs.Telling.{told_more, steps_more}
use Rattle.count_shift.proofs.events_window.EventsWindow.append_again.Goals as goal

pub loop-i-preserved : goal.loop-i-preserved
loop-i-preserved g c =
    let w = c.args.self.now in
    let so_far : c.args.from ≤ c.loop-i.i = c.loop-i.auto.i in
    let pushed : c.push_reserved.new.self.items ≡ c.loop-i.out.items ++ Again c.row-row.result c.former-former.result ∷ [] = search rules in
    record {
      told = told_more (again_behind w.gone w.window w.key.now w.func w.count (remove c.args.items.now c.args.rank) c.args.items.now) c.args.out.now.items c.loop-i.out.items c.push_reserved.new.self.items c.args.from c.loop-i.i (Again c.row-row.result c.former-former.result) so_far c.loop-i.invariant.told (λ j. Again (c.row-row.ensures.value j) (c.former-former.ensures.value j)) pushed;
      number = search rules;
      capacity = search rules;
      cost = omega (arith, steps_more (2 * w.count) c.args.from c.loop-i.i so_far);
      none = λ h. omega arith;
    }
