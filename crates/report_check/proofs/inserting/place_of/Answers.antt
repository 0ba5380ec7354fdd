-- Where there is none, all tuples stand in front.
use Rattle.std.proofs.Common.{◌∙◌, length, ap}
use Rattle.std.specs.Prelude.{nat_lt}
use Rattle.std.specs.Option.{unwrap_or}
use Rattle.stream_base.specs.declared.kept.Kept.{Kept}
use Rattle.report_lines.proofs.Fronts.{first_or_end}
use Rattle.report_check.proofs.inserting.place_of.Goals as goal

pub returns-clause-value : goal.returns-clause-value
returns-clause-value c =
    c.unwrap_or.ensures ∙ ap (λ place. unwrap_or place (length c.args.kept.now)) c.first_after.ensures ∙ first_or_end (λ (y : Kept). nat_lt c.args.time y.time) c.args.kept.now
