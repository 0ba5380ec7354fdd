-- The place of a line, as the definition has it.
use Rattle.row_laws.specs.Told.{Place as Where, behind, first, inside}
use Rattle.report_rows.specs.declared.place.Place.{Place}
use Rattle.report_rows.specs.declared.place.Place.TheVariants.{First, Inside, Behind}

abbrev pub where_of : Place → Where
where_of First = first
where_of (Inside full) = inside full
where_of Behind = behind
