-- All that computes a report, opened at once: an example says `unfolding all_opened`.
use Rattle.stream_base.specs.Model.Watermark.{source_water, is_idle, least_water, water_of}
use Rattle.stream_base.specs.Model.Journal.{on_time_after, kept_of, marks_of, keys_of}
use Rattle.stream_base.specs.Model.Windows.{instances_of}
use Rattle.stream_base.specs.Model.Changes.{changes_between, changes_after, standing_rows}
use Rattle.stream_base.specs.Model.Text.{report_of}
use Rattle.stream_base.specs.Model.Journals.{journals_of}
use Rattle.stream_base.specs.Model.Final.{final_rows, summary_of}
use Rattle.std.specs.Fmt.{digits}

unfoldable pub all_opened : Unit {0}
unfolding source_water is_idle least_water water_of on_time_after kept_of marks_of keys_of instances_of changes_between changes_after standing_rows report_of journals_of final_rows summary_of digits
all_opened = tt
