-- The tuple of the source's own index.
use Rattle.std.proofs.Common.{◌≤◌, arith, ap}
use Rattle.source_feed.specs.declared.generator.Generator.{Generator}
use Rattle.source_feed.proofs.Dealing.{took_tuple, tuples_few}
use Rattle.source_feed.proofs.generator.Generator.make.Goals as goal

pub overflow_add-self : goal.overflow_add-self
overflow_add-self c =
    let g = c.args.self.now in
    let few : g.tuples ≤ g.index = tuples_few g c.requires.course in
    let same = ap (λ (g : Generator). g.tuples) c.step.ensures in
    omega (arith, few, same, c.requires.more, c.requires.course.few)

pub returns : goal.returns
returns c =
    rw (c.made-made.ensures.value, c.mark_by-event.ensures, c.max-self.ensures, c.tuple_by.ensures, c.time_by-time.ensures.value, c.key_by-key.ensures, c.step.ensures)
    (took_tuple c.args.self.now c.drawn_from-drawn.result c.requires (rw c.step.ensures at c.drawn_from-drawn.ensures) (rw c.time_by-time.ensures.value at c.time_by-time.ensures.within))
