-- One offer of an entry to a desk: a turn that applies it.
use Rattle.std.specs.Prelude.{◌≡◌, ◌≢◌, ◌<◌, ℕ, true, false, List, [], ◌∷◌, ◌++◌, length, IfSome, IfOk, OnOk, IfErr, OnErr, All, ⊤}
use Rattle.std.specs.declared.result.Result.{Result}
use Rattle.stream_base.specs.declared.limits.TheConstants.{JOURNAL_MAX}
use Rattle.stream_base.specs.declared.entry.Entry.{Entry}
use Rattle.stream_base.specs.Model.Changes.{changes_after}
use Rattle.stream_base.specs.Model.Watermark.{has_ended}
use Rattle.stream_base.specs.Model.Journals.{is_entry_within}
use Rattle.shard_core.specs.declared.applied.Applied.{Applied}
use Rattle.shard_core.specs.declared.applied.ApplyFault.{ApplyFault}
use Rattle.shard_core.specs.declared.applied.ApplyFault.TheVariants.{Ended, Full, NoMemory}
use Rattle.turnstile.specs.declared.keeps.Keeps.{Ghosts}
use Rattle.turnstile.specs.declared.pass.Pass.{Pass}
use Rattle.turnstile.specs.History.{BeginsWith, of_number}
use Rattle.turnstile.specs.Passes.{number, fixed, seen, made, IsSamePass}
use Rattle.fan_in.specs.Desks.{BookedState, booked_with, entries_of}
use Rattle.fan_in.specs.declared.fixed_part.FixedPart.{FixedPart}

-- an entry may be offered: it is within the limits, and its source is one of the desk's
pub record MayOffer (entry : Entry) (fixed : FixedPart) : Type 0 where
  pub source : entry.source < fixed.sources
  pub within : is_entry_within entry ≡ true

-- a journal takes an entry of a source: it hasn't the source's end, and isn't full
pub record IsOpen (source : ℕ) (journal : List Entry) : Type 0 where
  pub running : has_ended source journal ≡ false
  pub short : length journal ≢ JOURNAL_MAX

-- why a journal refuses an entry of a source: it has the source's end; or it hasn't, and is full; want of memory has no cause to hold
abbrev pub HoldsCause : ℕ → List Entry → ApplyFault → Type 0
HoldsCause source journal Ended = has_ended source journal ≡ true
HoldsCause source journal Full = (has_ended source journal ≡ false) × (length journal ≡ JOURNAL_MAX)
HoldsCause source journal NoMemory = ⊤

-- what an offer's turn does to the shard that it finds, and what it answers
pub record Books (entry : Entry) (before after : BookedState) (number : ℕ) (reply : Result Applied ApplyFault) : Type 0 where
  pub numbered : length before.numbers ≡ length (before.shard).journal
  pub booked : OnOk reply (after ≡ booked_with before number entry)
  pub position : IfOk reply (λ applied. applied.position ≡ length (before.shard).journal)
  pub changes : IfOk reply (λ applied. applied.changes ≡ length (changes_after (before.shard).defs (before.shard).sources (before.shard).journal entry))
  pub takes : OnOk reply (IsOpen entry.source (before.shard).journal)
  pub cause : IfErr reply (HoldsCause entry.source (before.shard).journal)
  pub refused : OnErr reply (after ≡ before)

module _ {g : Ghosts BookedState Entry FixedPart} where
  -- an entry was taken: behind the list that the turn found, which begins with what the pass had seen, it stands last, under the pass's number, and its changes are those behind that list
  pub record IsOffered (entry : Entry) (old new : Pass BookedState Entry FixedPart g) (applied : Applied) : Type 0 where
    pub before : List (ℕ × Entry)
    pub begins : BeginsWith before (seen old)
    pub sees : seen new ≡ before ++ (number old, entry) ∷ []
    pub takes : IsOpen entry.source (entries_of before)
    pub position : applied.position ≡ length before
    pub changes : IfSome (fixed old) (λ f. applied.changes ≡ length (changes_after f.defs f.sources (entries_of before) entry))
    pub makes : made new ≡ made old ++ entry ∷ []

  -- an entry was refused: the pass has seen the list that the turn found, and the cause holds of it
  pub record IsRefused (entry : Entry) (old new : Pass BookedState Entry FixedPart g) (fault : ApplyFault) : Type 0 where
    pub begins : BeginsWith (seen new) (seen old)
    pub makes_nothing : made new ≡ made old
    pub cause : HoldsCause entry.source (entries_of (seen new)) fault

  -- an offer was answered: the pass is the same, and the entry was taken or refused
  pub record IsAnswered (entry : Entry) (old new : Pass BookedState Entry FixedPart g) (reply : Result Applied ApplyFault) : Type 0 where
    pub same : IsSamePass old new
    pub offered : IfOk reply (IsOffered entry old new)
    pub refused : IfErr reply (IsRefused entry old new)

  -- an offer of an entry whose source has ended found its end: the items there had numbers that they may have, and under the pass's number stood what the pass had made
  pub record FoundEnded (may : ℕ → Entry → Type 0) (entry : Entry) (old : Pass BookedState Entry FixedPart g) : Type 0 where
    pub found : List (ℕ × Entry)
    pub made_by : All (λ item. may item.0 item.1) found
    pub own : of_number (number old) found ≡ made old
    pub ended : has_ended entry.source (entries_of found) ≡ true
