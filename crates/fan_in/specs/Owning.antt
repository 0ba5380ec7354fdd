-- What the owner of a shard made of the entries that it got from its lane.
use Rattle.std.specs.Prelude.{◌≡◌, ◌≢◌, ◌≤◌, ◌<◌, ◌⊎◌, ◌++◌, ℕ, true, false, List, [], ◌∷◌, length, map, All, Bool, slice_index_or}
use Rattle.stream_base.specs.Limits.{Definitions}
use Rattle.stream_base.specs.declared.entry.Entry.{Entry}
use Rattle.stream_base.specs.declared.limits.TheConstants.{JOURNAL_MAX}
use Rattle.stream_base.specs.Model.Routes.{entries_from}
use Rattle.stream_base.specs.Model.Watermark.{has_ended}
use Rattle.mail_lane.specs.declared.letter.Letter.{Letter}
use Rattle.fan_in.specs.declared.outcome.Outcome.{Outcome}
use Rattle.fan_in.specs.declared.outcome.Outcome.TheVariants.{Done, Full}
use Rattle.fan_in.specs.declared.mail.owner.Owner.{Owner}
use Rattle.fan_in.specs.Ports.{IsAbout}

-- the note on a source: `Done` where none of its entries was refused or left
abbrev pub note_of : ℕ → List Outcome → Outcome
note_of source notes = slice_index_or notes source Done

-- why an entry is none that a feed sends behind these entries: it is of another source, or its source has ended
abbrev pub StraysBehind : ℕ → List Entry → Entry → Type 0
StraysBehind sources before entry = (sources ≤ entry.source) ⊎ (has_ended entry.source before ≡ true)

-- among these entries is one that no feed sends
pub record HasStray (sources : ℕ) (got : List Entry) : Type 0 where
  pub before : List Entry
  pub entry : Entry
  pub after : List Entry
  pub parts : got ≡ before ++ entry ∷ after
  pub cause : StraysBehind sources before entry

-- the first entries that an owner got are its journal, and the sources of the others are noted
pub record HasNoted (k : ℕ) (got journal : List Entry) (notes : List Outcome) (stopped : Bool) : Type 0 where
  pub rest : List Entry
  pub parts : got ≡ journal ++ rest
  pub noted : All (λ e. note_of e.source notes ≢ Done) rest
  pub about : (source : ℕ) → IsAbout k (note_of source notes)
  pub full : (source : ℕ) → note_of source notes ≡ Full k → (length journal ≡ JOURNAL_MAX) × (0 < length (entries_from source rest))
  pub open_or_full : stopped ≡ false → (rest ≡ []) ⊎ (length journal ≡ JOURNAL_MAX)

-- an owner after it got these entries
pub record OwnsAfter (d : Definitions) (sources k : ℕ) (got : List Entry) (o : Owner) : Type 0 where
  pub number_is : o.number ≡ k
  pub sources_are : o.sources ≡ sources
  pub defs_are : (o.shard).defs ≡ d
  pub strayed : o.stray ≡ true → HasStray sources got
  pub noted : o.stray ≡ false → HasNoted k got (o.shard).journal o.notes o.stopped

-- the entries in letters
abbrev pub entries_in : List (Letter Entry) → List Entry
entries_in letters = map (λ x. x.message) letters
