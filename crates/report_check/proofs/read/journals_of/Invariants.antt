-- The journals so far, and then the lines that are left, give the journals of the text.
use Rattle.std.proofs.Common.{◌≡◌, [], length}
use Rattle.std.specs.List.{fold}
use Rattle.stream_base.specs.Model.Journals.{after_line, lines_of}
use Rattle.report_check.proofs.read.journals_of.Given as goal

abbrev pub invariant-loop-rest : goal.invariant-loop-rest
invariant-loop-rest l =
    fold after_line l.journals.items (lines_of l.rest) ≡ fold after_line [] (lines_of l.text)

abbrev pub decreases-loop-rest : goal.decreases-loop-rest
decreases-loop-rest l = length l.rest
