-- A place in the range is one in the log.
use Rattle.std.proofs.Common.{◌∙◌, ◌<◌, ◌-◌, arith}
use Rattle.compact_log.proofs.Ranges.{get_in_part, length_of_part}
use Rattle.compact_log.proofs.change_range.ChangeRange.get.Goals as goal

pub overflow_add-self-inside : goal.overflow_add-self-inside
overflow_add-self-inside c =
    let r = c.self.inside in
    let asked = rw (← c.self.view_is) at c.requires in
    let within : c.args.at < r.to - r.from = omega (arith, asked, length_of_part r.log.now.items r.from r.to c.self.invariant.rises c.self.invariant.inside) in
    omega (arith, within)

pub returns : goal.returns
returns c =
    let r = c.self.inside in
    let asked = rw (← c.self.view_is) at c.requires in
    let within : c.args.at < r.to - r.from = omega (arith, asked, length_of_part r.log.now.items r.from r.to c.self.invariant.rises c.self.invariant.inside) in
    rw (← c.self.view_is) (get_in_part r.log.now.items r.from r.to c.args.at within ∙ c.get.ensures)
