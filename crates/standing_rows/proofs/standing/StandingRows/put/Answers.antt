-- A row is put at its place.
use Rattle.std.proofs.Common.{◌≡◌, ◌∙◌, [], ◌∷◌, ap, refl, sym, subst}
use Rattle.std.specs.List.Sorted.{IsStrictlySortedBy}
use Rattle.stream_base.specs.declared.change.Change.TheVariants.{New}
use Rattle.stream_base.specs.declared.row.Row.{Row}
use Rattle.stream_base.specs.Laws.{by_row}
use Rattle.model_laws.specs.Rows.{with_row}
use Rattle.model_laws.proofs.Places.{sorted_rows}
use Rattle.standing_rows.specs.Placed.{row_at, rows_of}
use Rattle.standing_rows.specs.declared.seen.Seen.{Seen}
use Rattle.standing_rows.proofs.MapRows.{inserted}
use Rattle.standing_rows.proofs.standing.StandingRows.put.Goals as goal

pub invariant_of-self-2 : goal.invariant_of-self-2
invariant_of-self-2 c =
    let seen : Seen = record { number = c.args.row.now.number; shown = c.args.row.now.shown } in
    let row : Row = row_at (c.of.result, seen) in
    let put : rows_of c.insert.new.self.entries ≡ with_row (rows_of (c.self.inside.rows).entries) row
    = ap rows_of c.in_ok-insert.ensures.entries ∙ inserted _ (λ p q s t. refl) (c.self.inside.rows).entries c.of.result seen c.self.invariant in
    subst (IsStrictlySortedBy by_row) (sym put) (sorted_rows (New row ∷ []) (rows_of (c.self.inside.rows).entries) c.self.invariant)

pub returns-clause-ok : goal.returns-clause-ok
returns-clause-ok c =
    let seen : Seen = record { number = c.args.row.now.number; shown = c.args.row.now.shown } in
    let row : Row = row_at (c.of.result, seen) in
    let put : rows_of c.insert.new.self.entries ≡ with_row (rows_of (c.self.inside.rows).entries) row
    = ap rows_of c.in_ok-insert.ensures.entries ∙ inserted _ (λ p q s t. refl) (c.self.inside.rows).entries c.of.result seen c.self.invariant in
    put
    ∙ (λ i. with_row (c.self.view_is i) (record {
      window = c.of.ensures.window i;
      key = c.of.ensures.key i;
      low = c.of.ensures.low i;
      high = c.of.ensures.high i;
      number = c.args.row.now.number;
      shown = c.args.row.now.shown;
    }))
