-- Where there is none, all bytes stand in front.
use Rattle.std.proofs.Common.{◌∙◌, ◌==◌, length, ap}
use Rattle.std.specs.Option.{unwrap_or}
use Rattle.report_lines.proofs.Fronts.{first_or_end}
use Rattle.report_lines.proofs.words.place_of.Goals as goal

pub returns-clause-value : goal.returns-clause-value
returns-clause-value c =
    c.unwrap_or.ensures ∙ ap (λ place. unwrap_or place (length c.args.text.now)) c.first_of.ensures ∙ first_or_end (λ byte. byte == c.args.end) c.args.text.now
