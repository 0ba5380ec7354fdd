-- What comes of gathering the feeds of several sources into the journals of several shards.
use Rattle.std.specs.Prelude.{◌≡◌, ◌≢◌, ◌<◌, ◌⊎◌, ℕ, true, false, List, [], length, None, Some, IfSome, ⊤, slice_index_or}
use Rattle.stream_base.specs.Limits.{Definitions}
use Rattle.outside.specs.Outside.{Rose}
use Rattle.stream_base.specs.declared.entry.Entry.{Entry}
use Rattle.stream_base.specs.declared.limits.TheConstants.{JOURNAL_MAX}
use Rattle.stream_base.specs.Model.Routes.{entries_from, routed}
use Rattle.shard_core.specs.Shard.{IsJournal, Sharded}
use Rattle.source_feed.specs.FeedFault.{refusal_of}
use Rattle.source_feed.specs.FeedView.{FeedView, given_then}
use Rattle.source_feed.specs.Stream.{StaysTold}
use Rattle.source_feed.specs.declared.feed_fault.FeedFault.TheVariants.{Read, NoMemory}
use Rattle.turnstile.specs.History.{BeginsWith}
use Rattle.fan_in.specs.declared.gathered.FeedEnd.{FeedEnd}
use Rattle.fan_in.specs.declared.outcome.Outcome.{Outcome}
use Rattle.fan_in.specs.declared.outcome.Outcome.TheVariants.{Done, Fault, Full}

-- a feed that was not read yet: of this source, with no entry and no end given, and no fault answered
pub record IsFresh (source : ℕ) (feed : FeedView) : Type 0 where
  pub of_source : feed.source ≡ source
  pub running : feed.ended ≡ false
  pub unanswered : feed.answered ≡ None
  pub blank : feed.gave ≡ []

-- a feed that was handed back shows its outcome: it has given its end; or it has answered that fault, unless memory ran out
abbrev pub Shows : FeedView → Outcome → Type 0
Shows back Done = (back.ended ≡ true) × (back.answered ≡ None)
Shows back (Full shard) = (back.ended ≡ true) × (back.answered ≡ None)
Shows back (Fault fault) = (back.answered ≡ Some fault) ⊎ (fault ≡ NoMemory)

-- the outcome is a fault
abbrev pub IsFault : Outcome → Type 0
IsFault Done = ⊥
IsFault (Full shard) = ⊥
IsFault (Fault fault) = ⊤

-- an outcome that names a shard names one of so many
abbrev pub NamesOneOf : ℕ → Outcome → Type 0
NamesOneOf shards Done = ⊤
NamesOneOf shards (Full shard) = shard < shards
NamesOneOf shards (Fault fault) = ⊤

-- what a feed gave that was handed back with this outcome is the stream of its source, with no refusal, or with the one that the fault shows, if it shows one
abbrev pub GaveStream : FeedView → Outcome → Type 0
GaveStream back Done = back.whole ≡ Some (given_then back.gave None)
GaveStream back (Full shard) = back.whole ≡ Some (given_then back.gave None)
GaveStream back (Fault fault) = IfSome (refusal_of fault) (λ refusal. back.whole ≡ Some (given_then back.gave (Some refusal)))

-- how a feed was handed in and back, with its outcome and its counts of failed reads
pub record FeedEnded (start back : FeedView) (outcome : Outcome) (old new : ℕ) : Type 0 where
  pub of_source : back.source ≡ start.source
  pub shows : Shows back outcome
  pub origin : back.origin ≡ start.origin
  pub seen : StaysTold start.whole back.whole
  pub gave_stream : GaveStream back outcome
  pub read : outcome ≡ Fault Read → Rose old new
  pub quiet : outcome ≢ Fault Read → new ≡ old

-- of these entries of a source that are routed to a shard, its journal holds the first ones, in order: all of them where the outcome is `Done`, and not all where this shard was full for them, which it then is
pub record HoldsFirst (shards k : ℕ) (source : ℕ) (entries : List Entry) (outcome : Outcome) (journal : List Entry) : Type 0 where
  pub prefix : BeginsWith (routed shards k entries) (entries_from source journal)
  pub whole : outcome ≡ Done → entries_from source journal ≡ routed shards k entries
  pub full : outcome ≡ Full k → length journal ≡ JOURNAL_MAX
  pub lacks : outcome ≡ Full k → length (entries_from source journal) < length (routed shards k entries)

-- a shard that was gathered: it has the definitions and the number of sources, and a journal of that many sources
pub record IsGathered (d : Definitions) (sources : ℕ) (shard : Sharded) : Type 0 where
  pub defs : shard.defs ≡ d
  pub sources_are : shard.sources ≡ sources
  pub journal : IsJournal sources shard.journal

-- the same feeds in the same order, whatever their outcomes
pub record AreSameFeeds {F : Type 0} (old new : List (FeedEnd F)) : Type 0 where
  pub many : length new ≡ length old
  pub feeds : (i : ℕ) (e : FeedEnd F) → i < length old → (slice_index_or new i e).feed ≡ (slice_index_or old i e).feed

-- `state` and `faults` are those of the feeds
module _ {F : Type 0} (state : F → FeedView) where
  -- feeds that weren't read yet, one for each source, in the order of the sources
  pub record AreFreshFeeds (sources : ℕ) (feeds : List F) : Type 0 where
    pub one_each : length feeds ≡ sources
    pub fresh : (i : ℕ) (f : F) → i < length feeds → IsFresh i (state (slice_index_or feeds i f))

  module _ (faults : F → ℕ) where
    -- what became of feeds that were gathered into shards: each came back with its outcome, and each shard that was handed out holds of each feed what the outcome says; where none was, each outcome is a fault
    pub record AreGathered (d : Definitions) (sources shards : ℕ) (feeds : List F) (handed : List Sharded) (ends : List (FeedEnd F)) : Type 0 where
      pub many_ends : length ends ≡ sources
      pub back : (i : ℕ) (f : F) (e : FeedEnd F) → i < sources → let start = slice_index_or feeds i f in let end = slice_index_or ends i e in
          FeedEnded (state start) (state end.feed) end.outcome (faults start) (faults end.feed)
      pub named : (i : ℕ) (e : FeedEnd F) → i < sources → NamesOneOf shards (slice_index_or ends i e).outcome
      pub many_shards : (handed ≡ []) ⊎ (length handed ≡ shards)
      pub none : handed ≡ [] → (i : ℕ) (e : FeedEnd F) → i < sources → IsFault (slice_index_or ends i e).outcome
      pub alike : (k : ℕ) (s : Sharded) → k < length handed → IsGathered d sources (slice_index_or handed k s)
      pub parts : (k i : ℕ) (s : Sharded) (e : FeedEnd F) → k < length handed → i < sources
          → (let end = slice_index_or ends i e in HoldsFirst shards k i (state end.feed).gave end.outcome (slice_index_or handed k s).journal)
