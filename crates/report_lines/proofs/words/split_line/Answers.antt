-- The line is what stands in front of the first line feed.
use Rattle.std.proofs.Common.{◌∙◌, ◌∷◌, ◌+◌, length, drop, ap, sym}
use Rattle.stream_base.specs.Model.Journals.{lines_of}
use Rattle.report_lines.proofs.Fronts.{by_first_line, front}
use Rattle.report_lines.proofs.words.split_line.Goals as goal

pub returns-clause-lines : goal.returns-clause-lines
returns-clause-lines c =
    by_first_line c.args.text.now c.requires
    ∙ ap (λ line. line ∷ lines_of (drop (length (front c.args.text.now) + 1) c.args.text.now)) (sym c.split_at.ensures.front)
    ∙ ap (λ rest. c.split_at.result.0.now ∷ lines_of rest) (sym c.split_at.ensures.behind)
