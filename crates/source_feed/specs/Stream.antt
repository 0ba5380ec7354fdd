-- The stream of a source: its entries, and the refusal that ends them, if one does.
use Rattle.std.specs.Prelude.{◌≡◌, ◌++◌, ℕ, Bool, true, false, not, List, [], ◌∷◌, Option, None, Some, ⊤, MatchOption}
use Rattle.std.specs.List.{list_all}
use Rattle.stream_base.specs.declared.entry.Entry.{Entry}
use Rattle.stream_base.specs.declared.what.What.{What}
use Rattle.stream_base.specs.declared.what.What.TheVariants.{End}
use Rattle.stream_base.specs.Model.What.{is_end}
use Rattle.source_feed.specs.declared.row_why.RowWhy.{RowWhy}

-- why a source is refused: it has too many bytes, or the record of this number has this first fault
pub data Refusal : Type 0 where
  too_long : Refusal
  bad_record : ℕ → RowWhy → Refusal

-- the entries that a source has left, in order, and the refusal that comes after them, if one does
pub record Stream : Type 0 where
  pub entries : List Entry
  pub refusal : Option Refusal

-- no entry is left, and no refusal comes
abbrev pub nothing_left : Stream
nothing_left = record { entries = []; refusal = None }

-- no entry is left, and this refusal comes
abbrev pub only_refused : Refusal → Stream
only_refused refusal = record { entries = []; refusal = Some refusal }

-- the same, with one more entry in front
abbrev pub with_first : Entry → Stream → Stream
with_first entry stream = record stream { entries = entry ∷ stream.entries }

-- a stream that is told stays told, as this; of one that isn't told, nothing is said
abbrev pub StaysTold : Option Stream → Option Stream → Type 0
StaysTold None new = ⊤
StaysTold (Some stream) new = new ≡ Some stream

-- an event of a source, as an entry
abbrev pub entry_of : ℕ → What → Entry
entry_of source what = record { source = source; what = what }

-- an entry that isn't an end
abbrev pub is_inner : Entry → Bool
is_inner entry = not (is_end entry.what)

-- the entries close with the end of their source, the only end among them
pub record ClosesWithEnd (source : ℕ) (entries : List Entry) : Type 0 where
  pub before : List Entry
  pub closes : entries ≡ before ++ entry_of source End ∷ []
  pub only : list_all is_inner before ≡ true

-- before the end was given the stream closes with it, or a refusal comes; then nothing is left
abbrev pub IsWhole : ℕ → Bool → Stream → Type 0
IsWhole source true stream = stream ≡ nothing_left
IsWhole source false stream =
    MatchOption stream.refusal
    (ClosesWithEnd source stream.entries)
    (λ refusal. list_all is_inner stream.entries ≡ true)
