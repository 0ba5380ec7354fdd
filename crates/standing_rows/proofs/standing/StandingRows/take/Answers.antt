-- The row of a place is taken out.
use Rattle.std.proofs.Common.{◌≡◌, ◌∙◌, [], ◌∷◌, ap, refl, sym, subst}
use Rattle.std.specs.List.Sorted.{IsStrictlySortedBy}
use Rattle.stream_base.specs.declared.change.Change.TheVariants.{Gone}
use Rattle.stream_base.specs.declared.row.Row.{Row}
use Rattle.stream_base.specs.Laws.{by_row}
use Rattle.model_laws.specs.Rows.{without}
use Rattle.model_laws.proofs.Places.{sorted_rows}
use Rattle.standing_rows.specs.Placed.{row_at, rows_of}
use Rattle.standing_rows.proofs.MapRows.{removed}
use Rattle.standing_rows.proofs.standing.StandingRows.take.Goals as goal

pub invariant_of-self : goal.invariant_of-self
invariant_of-self c =
    let row : Row = row_at (c.of.result, record { number = c.args.row.now.number; shown = c.args.row.now.shown }) in
    let taken : rows_of c.remove.new.self.entries ≡ without (rows_of (c.self.inside.rows).entries) row
    = ap rows_of c.remove.ensures.entries ∙ removed _ row (λ e. refl) (c.self.inside.rows).entries c.self.invariant in
    subst (IsStrictlySortedBy by_row) (sym taken) (sorted_rows (Gone row ∷ []) (rows_of (c.self.inside.rows).entries) c.self.invariant)

pub returns : goal.returns
returns c =
    let row : Row = row_at (c.of.result, record { number = c.args.row.now.number; shown = c.args.row.now.shown }) in
    let taken : rows_of c.remove.new.self.entries ≡ without (rows_of (c.self.inside.rows).entries) row
    = ap rows_of c.remove.ensures.entries ∙ removed _ row (λ e. refl) (c.self.inside.rows).entries c.self.invariant in
    taken
    ∙ (λ i. without (c.self.view_is i) (record {
      window = c.of.ensures.window i;
      key = c.of.ensures.key i;
      low = c.of.ensures.low i;
      high = c.of.ensures.high i;
      number = c.args.row.now.number;
      shown = c.args.row.now.shown;
    }))
