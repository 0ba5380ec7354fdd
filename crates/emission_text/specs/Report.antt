-- The report of shards, each with definitions and sources of its own.
use Rattle.std.specs.Prelude.{◌≡◌, ◌+◌, ◌++◌, ℕ, List, [], ◌∷◌, All, codes, slice_get}
use Rattle.std.specs.Option.{option_map_or}
use Rattle.stream_base.specs.Limits.{Definitions}
use Rattle.stream_base.specs.Model.Changes.{changes_at}
use Rattle.stream_base.specs.Model.Text.{Form, change_lines, changes_under, entry_line, journal_lines}
use Rattle.report_lines.specs.Lines.{header_line}
use Rattle.shard_core.specs.Shard.{Sharded}

-- the lines at a position of a shard's journal, in a form: the entry's own, and those of the changes under it
unfoldable pub lines_at : Form → Sharded → ℕ → List ℕ
lines_at form s position =
    option_map_or entry_line (slice_get s.journal position) []
    ++ change_lines form (changes_at s.defs s.sources s.journal position)

-- the lines of a shard's journal
abbrev pub lines_of : Form → Sharded → List ℕ
lines_of form s = journal_lines (changes_under form s.defs s.sources) [] s.journal

-- the lines of shards from number k on: each shard's header, and the lines of its journal
abbrev pub lines_from : Form → ℕ → List Sharded → List ℕ
lines_from form k [] = []
lines_from form k (s ∷ shards) = (header_line k ++ lines_of form s) ++ lines_from form (k + 1) shards

-- the lines of all shards, and the last line
unfoldable pub shards_text : Form → List Sharded → List ℕ
shards_text form shards = lines_from form 0 shards ++ codes "end\n"

-- the report of shards in a form
abbrev pub report_text : Form → List Sharded → List ℕ
report_text form shards = form.front ++ shards_text form shards

-- all shards have these definitions and this number of sources
abbrev pub AreAlike : Definitions → ℕ → List Sharded → Type 0
AreAlike d sources shards = All (λ s. (s.defs ≡ d) × (s.sources ≡ sources)) shards
