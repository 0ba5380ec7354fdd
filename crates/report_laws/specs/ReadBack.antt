-- When the journals in a text can be read back from it.
use Rattle.std.specs.Prelude.{◌≡◌, ◌^◌, ◌<◌, ◌==◌, ◌&&◌, ℕ, Bool, true, not, List, [], ◌∷◌, ◌++◌, length, All}
use Rattle.stream_base.specs.declared.change.Change.{Change}
use Rattle.stream_base.specs.declared.change.Change.TheVariants.{Gone, New, Again, Dropped}
use Rattle.stream_base.specs.declared.entry.Entry.{Entry}
use Rattle.stream_base.specs.Key.{is_key}
use Rattle.stream_base.specs.Model.Journals.{AreEntriesWithin, lines_of}
use Rattle.stream_base.specs.Model.Text.{Form}

-- journals whose numbers are below 2^64, of entries within their limits
pub record AreWithin (journals : List (List Entry)) : Type 0 where
  pub few : length journals < 2 ^ 64
  pub entries : All AreEntriesWithin journals

-- a text is empty, or a line feed ends it
abbrev pub is_whole : List ℕ → Bool
is_whole [] = true
is_whole (byte ∷ []) = byte == 10
is_whole (byte ∷ next ∷ text) = is_whole (next ∷ text)

-- a line begins neither as a header, with `s`, nor as an entry's line, with `j`
abbrev pub is_other_line : List ℕ → Bool
is_other_line [] = true
is_other_line (byte ∷ line) = not (byte == 115) && not (byte == 106)

-- whole lines, none of which is a header's or an entry's
pub record AreOtherLines (text : List ℕ) : Type 0 where
  pub whole : is_whole text ≡ true
  pub other : All (λ line. is_other_line line ≡ true) (lines_of text)

-- under each of the entries behind `before` stand other lines
abbrev pub AreOtherLinesUnder : (List Entry → Entry → List ℕ) → List Entry → List Entry → Type 0
AreOtherLinesUnder under before [] = Unit {0}
AreOtherLinesUnder under before (e ∷ es) = AreOtherLines (under before e) × AreOtherLinesUnder under (before ++ e ∷ []) es

-- the key of a change, where it has one, is a key
abbrev pub is_change_within : Change → Bool
is_change_within (Gone row) = is_key row.key
is_change_within (New row) = is_key row.key
is_change_within (Again row former) = is_key row.key
is_change_within Dropped = true

-- a form of the report whose own lines are other lines, so that its journals can be told from the rest
pub record IsToldFromJournals (form : Form) : Type 0 where
  pub front : AreOtherLines form.front
  pub lines : (change : Change) → is_change_within change ≡ true → AreOtherLines (form.line change)
