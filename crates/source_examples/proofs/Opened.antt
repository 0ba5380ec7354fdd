-- All that computes what bytes or a seed spell, opened at once: an example says `unfolding sources_opened`, or one of the others.
use Rattle.std.specs.Fmt.{digits}
use Rattle.std.specs.Str.{is_utf8, chars}
use Rattle.csv.specs.Machine.{next_record}
use Rattle.csv.specs.Reading.{records_from, strip_bom}
use Rattle.csv.specs.Records.{field_at}
use Rattle.toml.proofs.OnLiterals.{toml_on_literals}
use Rattle.source_feed.specs.Events.{events_from, with_watermarks}
use Rattle.source_feed.specs.Generated.{state_after, told_of_indices}
use Rattle.window_defs.specs.Reading.{reading_of, reading_of_top}
use Rattle.window_defs.specs.Windows.{raw_window_of}

unfoldable pub sources_opened : Unit {0}
unfolding next_record records_from strip_bom field_at events_from with_watermarks
sources_opened = tt

unfoldable pub definitions_opened : Unit {0}
unfolding toml_on_literals is_utf8 chars raw_window_of reading_of_top reading_of
definitions_opened = tt

unfoldable pub generated_opened : Unit {0}
unfolding state_after told_of_indices digits
generated_opened = tt
