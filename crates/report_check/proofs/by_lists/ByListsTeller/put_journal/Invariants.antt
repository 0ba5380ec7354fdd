-- The ledger is that of the entries so far, and their lines, with those that are left, are all.
use Rattle.std.proofs.Common.{◌≡◌, ◌++◌, ℕ, List, [], take, drop}
use Rattle.stream_base.specs.declared.entry.Entry.{Entry}
use Rattle.stream_base.specs.Limits.{Definitions}
use Rattle.stream_base.specs.Model.Text.{Form, changes_under, journal_lines}
use Rattle.report_check.specs.Ledgers.{IsLedger}
use Rattle.report_lines.specs.Forms.{form_of}
use Rattle.report_check.specs.declared.ledger.Ledger.{Ledger}
use Rattle.report_check.proofs.by_lists.ByListsTeller.put_journal.Given as goal

pub record IsToldUpTo (form : Form) (d : Definitions) (sources : ℕ) (journal : List Entry) (before out : List ℕ) (l : Ledger) (place : ℕ) : Type 0 where
  pub ledger_is : IsLedger d sources (take place journal) l
  pub told : out ++ journal_lines (changes_under form d sources) (take place journal) (drop place journal) ≡ before ++ journal_lines (changes_under form d sources) [] journal

abbrev pub invariant-loop-place : goal.invariant-loop-place
invariant-loop-place g l = IsToldUpTo (form_of l.form) l.defs l.sources l.journal l.fn.out.items l.out.items l.ledger l.place
