-- The line is the one behind the common front.
use Rattle.std.proofs.Common.{◌∙◌, take, ap}
use Rattle.report_check.specs.Apart.{line_behind}
use Rattle.report_check.proofs.Parting.{front_is_taken}
use Rattle.report_check.proofs.apart.line_apart.Goals as goal

pub returns : goal.returns
returns c =
    c.line_behind.ensures
    ∙ ap (λ count. line_behind (take count c.args.text.now)) c.common_len.ensures.value
    ∙ ap line_behind (front_is_taken c.args.text.now c.args.other.now)
