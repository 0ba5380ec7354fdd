-- What is told are the completions of the move.
use Rattle.std.proofs.Common.{◌≡◌, ap, rules, subst}
use Rattle.std.specs.Prelude.{◌++◌, ◌-◌, ◌/◌, map}
use Rattle.std.specs.List.{range_with_len}
use Rattle.count_shift.specs.Lane.{Laned}
use Rattle.count_shift.specs.Counting.{new_behind, upper}
use Rattle.count_shift.proofs.Puts.{move_told}
use Rattle.count_shift.proofs.count_lane.CountLane.rows.Goals as goal

pub returns-clause-changes : goal.returns-clause-changes
returns-clause-changes g c = λ kept marks f.
    let lane = c.args.self.now in
    let count = c.count_of.result in
    let stood : c.upper.result ≡ upper lane.kept c.args.old = search rules in
    let stand : c.upper-2.result ≡ upper lane.kept c.args.new = search rules in
    move_told c.args.window c.args.def.now c.args.key.now lane c.args.old c.args.new count c.self.inside.gone c.upper.result c.upper-2.result c.requires.events c.count_of.ensures.value (ap (λ (l : Laned). l.gone) c.self.view_is) stood stand kept marks c.args.out.now.items c.append_new.new.out.items f
    (subst (λ l. c.append_new.new.out.items ≡ c.args.out.now.items ++ map (new_behind c.self.inside.gone c.args.window c.args.key.now c.args.def.now.func count l) (range_with_len (c.upper.result / count) (c.upper-2.result / count - c.upper.result / count))) (ap (λ (l : Laned). l.kept) c.self.view_is)
    (rw c.deref-3.ensures.value at c.append_new.ensures.told))
