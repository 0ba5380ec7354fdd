-- The changes that are kept are those of the journal, and lead to what stands behind it.
use Rattle.std.proofs.Common.{◌≡◌, ◌∙◌, [], ap}
use Rattle.std.proofs.lemmas.Result.{IfOk-weaker}
use Rattle.stream_base.specs.Model.Changes.{standing_rows}
use Rattle.model_laws.specs.Rows.{rows_after}
use Rattle.shard_core.proofs.StandingFacts.{changes_lead_there}
use Rattle.shard_core.proofs.shard.KeyedShard.standing.Goals as goal

pub returns : goal.returns
returns g c =
    let past = c.self.inside.past in
    let behind : c.in_ok-rows.rows ≡ standing_rows past.defs past.sources past.journal =
    c.in_ok-rows.ensures ∙ ap (rows_after []) c.self.invariant.0.changes_are ∙ changes_lead_there past.defs past.sources c.self.invariant.0.limits past.journal in
    rw (← c.self.view_is) (IfOk-weaker c.rows-2.result (λ rows. rows.items ≡ c.in_ok-rows.rows) (λ rows. rows.items ≡ standing_rows past.defs past.sources past.journal) (λ rows are. are ∙ behind) c.rows-2.ensures)
