-- The lists tell what the journal does.
use Rattle.std.proofs.Common.{◌≡◌, ◌∙◌, ap, not, rules}
use Rattle.std.specs.Prelude.{◌==◌}
use Rattle.std.specs.List.{list_any}
use Rattle.report_rows.specs.Closed.{is_closed}
use Rattle.report_rows.specs.EntryLogs.{entries_in}
use Rattle.report_rows.proofs.SourceFacts.{closed_by}
use Rattle.report_rows.proofs.sources.Sources.are_closed.Goals as goal

pub returns : goal.returns
returns c =
    let found : c.lacks_any.result ≡ list_any (λ s. not (list_any (λ x. x == s) (c.self.inside.ended).items)) (c.self.inside.spoken).items = search rules in
    ap not found
    ∙ closed_by (entries_in c.self.inside.said) (c.self.inside.spoken).items (c.self.inside.ended).items c.self.invariant
    ∙ ap is_closed c.self.view_is
