-- The text of journals with changes that stand beside their entries.
use Rattle.std.specs.Prelude.{◌≡◌, ◌+◌, ◌++◌, ℕ, List, Vec, [], ◌∷◌, codes, length, map}
use Rattle.std.specs.List.{flat_map, zip}
use Rattle.stream_base.specs.declared.entry.Entry.{Entry}
use Rattle.stream_base.specs.Model.Text.{entry_line}
use Rattle.report_lines.specs.Lines.{header_line}
use Rattle.tail_windows.specs.Report.{tail_line}
use Rattle.tail_windows.specs.Tails.{tail_changes_after}
use Rattle.tail_windows.specs.declared.def.TailDef.{TailDef}
use Rattle.tail_windows.specs.declared.change.TailChange.{TailChange}

-- the changes for each position of a journal
abbrev pub ByPosition : Type 0
ByPosition = List (List TailChange)

-- those that the vectors of one journal hold
abbrev pub in_lists : {Y : Type 0} → List (Vec TailChange Y) → ByPosition
in_lists lists = map (λ changes. changes.items) lists

-- and those of several journals
abbrev pub in_vectors : {Y Z : Type 0} → List (Vec (Vec TailChange Y) Z) → List ByPosition
in_vectors tails = map (λ t. in_lists t.items) tails

-- there are changes for each position of each journal
abbrev pub AreAsLong : List (List Entry) → List ByPosition → Type 0
AreAsLong journals tails = map length tails ≡ map length journals

-- the lines of an entry, and of the changes under it
abbrev pub lines_with : Entry → List TailChange → List ℕ
lines_with e changes = entry_line e ++ flat_map tail_line changes

-- the lines of a journal, each entry with its changes
abbrev pub journal_with : List Entry → ByPosition → List ℕ
journal_with journal lists = flat_map (λ p. lines_with p.0 p.1) (zip journal lists)

-- the lines of shards from number k on: each shard's header, and its journal
abbrev pub shards_with : ℕ → List (List Entry × ByPosition) → List ℕ
shards_with k [] = []
shards_with k (shard ∷ shards) = (header_line k ++ journal_with shard.0 shard.1) ++ shards_with (k + 1) shards

-- the text of journals with the changes for each of their positions
unfoldable pub tails_text : List (List Entry) → List ByPosition → List ℕ
tails_text journals tails = shards_with 0 (zip journals tails) ++ codes "end\n"

-- the changes under each of the entries behind `before`
abbrev pub tail_changes_behind : TailDef → ℕ → ℕ → List Entry → List Entry → ByPosition
tail_changes_behind def lateness sources before [] = []
tail_changes_behind def lateness sources before (e ∷ es) =
    tail_changes_after def lateness sources before e ∷ tail_changes_behind def lateness sources (before ++ e ∷ []) es

-- the changes for each position of a journal, by the definitions
abbrev pub tail_changes_in : TailDef → ℕ → ℕ → List Entry → ByPosition
tail_changes_in def lateness sources journal = tail_changes_behind def lateness sources [] journal
