-- What is pending, and then the lines of the entries that are left, is what is left of all.
use Rattle.std.proofs.Common.{◌++◌, map}
use Rattle.emission_text.specs.Sending.{AppendsPrefix}
use Rattle.tail_text.specs.Texts.{journal_with}
use Rattle.tail_text.proofs.TextFacts.{lines_from}
use Rattle.tail_text.proofs.report.put_journal.Given as goal

abbrev pub invariant-loop-position : goal.invariant-loop-position
invariant-loop-position g l =
    AppendsPrefix g.K.Sink.taken g.K.Sink.faults (l.fn.out ++ journal_with l.shard.journal (map (λ v. v.items) l.lists)) (l.out ++ lines_from l.shard.journal (map (λ v. v.items) l.lists) l.position) l.fn.sink l.sink
