-- No entry is told yet.
use Rattle.std.proofs.Common.{refl}
use Rattle.report_check.proofs.by_lists.ByListsTeller.put_journal.Goals as goal

pub loop-place-init : goal.loop-place-init
loop-place-init g c = record { ledger_is = c.new-ledger.ensures c.args.defs.now; told = refl }
