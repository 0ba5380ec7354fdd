-- So far each entry is of the source, within its limits, and no end.
use Rattle.std.proofs.Common.{◌≡◌, true, false}
use Rattle.std.specs.Prelude.{All}
use Rattle.stream_base.specs.Model.Journals.{is_entry_within}
use Rattle.stream_base.specs.Model.What.{is_end}
use Rattle.board_tests.proofs.boards.source_of.Given as goal

abbrev pub invariant-says : goal.invariant-says
invariant-says g l =
    All (λ e. e.source ≡ l.source) l.entries.items × All (λ e. is_entry_within e ≡ true) l.entries.items × All (λ e. is_end e.what ≡ false) l.entries.items
