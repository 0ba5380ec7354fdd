-- Behind the last index nothing is left.
use Rattle.std.proofs.Common.{◌∙◌, sym}
use Rattle.source_feed.proofs.Dealing.{none_left}
use Rattle.source_feed.proofs.generator.Generator.take.Goals as goal

pub returns-then-self : goal.returns-then-self
returns-then-self c =
    let all = c.seek.ensures.all in
    let none = none_left c.seek.new.self c.if-self.true in
    (all.source, all.course, sym all.left ∙ none, none)
