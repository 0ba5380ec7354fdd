-- The list is empty where the journal is.
use Rattle.std.proofs.Common.{◌≡◌, ◌∙◌, ap, length, not, rules}
use Rattle.std.specs.Prelude.{nat_eq}
use Rattle.row_laws.specs.Told.{has_entry}
use Rattle.report_rows.specs.EntryLogs.{entries_in}
use Rattle.report_rows.proofs.SourceFacts.{entry_there}
use Rattle.report_rows.proofs.sources.Sources.has_entry.Goals as goal

pub returns : goal.returns
returns c =
    let many : c.len.result ≡ length (c.self.inside.spoken).items = search rules in
    ap (λ n. not (nat_eq n 0)) many
    ∙ entry_there (entries_in c.self.inside.said) (c.self.inside.spoken).items (c.self.inside.ended).items c.self.invariant
    ∙ ap has_entry c.self.view_is
