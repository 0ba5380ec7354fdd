-- The place is among the entries where a row of it stands.
use Rattle.std.proofs.Common.{◌∙◌, refl}
use Rattle.std.specs.List.{list_any}
use Rattle.model_laws.specs.Rows.{is_at_place}
use Rattle.stream_base.specs.declared.row.Row.{Row}
use Rattle.standing_rows.specs.Placed.{row_at}
use Rattle.standing_rows.proofs.MapRows.{looked_up}
use Rattle.standing_rows.proofs.standing.StandingRows.has.Goals as goal

pub returns : goal.returns
returns c =
    let row : Row = row_at (c.of.result, record { number = c.args.row.now.number; shown = c.args.row.now.shown }) in
    c.contains_key.ensures
    ∙ looked_up _ row (λ e. refl) (c.self.inside.rows).entries
    ∙ (λ i. list_any
    (is_at_place (record {
      window = c.of.ensures.window i;
      key = c.of.ensures.key i;
      low = c.of.ensures.low i;
      high = c.of.ensures.high i;
      number = c.args.row.now.number;
      shown = c.args.row.now.shown;
    }))
    (c.self.view_is i))
