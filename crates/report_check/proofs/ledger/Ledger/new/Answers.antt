-- No key yet.
use Rattle.std.proofs.Common.{rules}
use Rattle.report_check.proofs.Following.{empty_ledger}
use Rattle.report_check.proofs.ledger.Ledger.new.Goals as goal

pub returns : goal.returns
returns c = λ d. search (rules, empty_ledger)
