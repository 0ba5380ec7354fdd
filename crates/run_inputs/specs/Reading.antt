-- Feeds that are read one after another, each to its end.
use Rattle.std.specs.Prelude.{◌≡◌, ◌<◌, ℕ, false, List, [], length, Option, None, Some, IfSome, slice_index_or}
use Rattle.outside.specs.Outside.{Reads, Rose}
use Rattle.stream_base.specs.declared.entry.Entry.{Entry}
use Rattle.source_feed.specs.FeedFault.{refusal_of}
use Rattle.source_feed.specs.FeedView.{FeedView, given_then}
use Rattle.source_feed.specs.FileFeedState.{FileFeedState, feed_view}
use Rattle.source_feed.specs.declared.feed_fault.FeedFault.{FeedFault}
use Rattle.source_feed.specs.declared.feed_fault.FeedFault.TheVariants.{Read as FeedRead, TooLong as FeedTooLong, Row as FeedRow, NoMemory as FeedMemory}
use Rattle.emission_text.specs.declared.fault.Fault.{Fault}
use Rattle.emission_text.specs.declared.fault.Fault.TheVariants.{Row, Read, FullSource, NoMemory}
use Rattle.live_board.specs.Watched.{AreEntriesOf}

-- the fault of a run for that of the feed of this source
abbrev pub fault_of : ℕ → FeedFault → Fault
fault_of source FeedRead = Read (Some source)
fault_of source FeedTooLong = FullSource source
fault_of source (FeedRow number why) = Row source number why
fault_of source FeedMemory = NoMemory

-- a feed that gave nothing yet, neither its end nor a fault
pub record IsFresh (feed : FeedView) : Type 0 where
  pub running : feed.ended ≡ false
  pub unanswered : feed.answered ≡ None
  pub blank : feed.gave ≡ []

-- a feed was read to its end: these are the entries of its source, which isn't refused
abbrev pub IsDrained : FeedView → List Entry → Type 0
IsDrained feed entries = feed.whole ≡ Some (given_then entries None)

-- a feed was read up to a fault, which shows the refusal of its source, if it shows one
abbrev pub IsStuck : FeedView → FeedFault → Type 0
IsStuck feed fault = IfSome (refusal_of fault) (λ refusal. (entries : List Entry) × (feed.whole ≡ Some (given_then entries (Some refusal))))

-- a feed that was read further is one of the same source
pub record IsSameFeed (old new : FeedView) : Type 0 where
  pub source : new.source ≡ old.source
  pub origin : new.origin ≡ old.origin

-- entries of sources, in their order: each list is of its own source, with each entry within its limits, and closed by the end
abbrev pub AreEntries : List (List Entry) → Type 0
AreEntries all = (i : ℕ) → i < length all → AreEntriesOf i (slice_index_or all i [])

-- the entries of feeds, in their order: each list is of its feed's source, with each entry within its limits, and closed by the end
abbrev pub AreEntriesFrom : {S : Type 0} → List (FileFeedState S) → List (List Entry) → Type 0
AreEntriesFrom {S = S} feeds all = (i : ℕ) (f : FileFeedState S) → i < length all → AreEntriesOf (slice_index_or feeds i f).source (slice_index_or all i [])

module _ {S : Type 0} (reads : S → Reads) (word : S → Option (List ℕ)) where
  -- each feed is fresh
  abbrev pub AreFresh : List (FileFeedState S) → Type 0
  AreFresh feeds = (i : ℕ) (f : FileFeedState S) → i < length feeds → IsFresh (feed_view reads word (slice_index_or feeds i f))

  -- the same feeds, read further
  pub record AreSameFeeds (old new : List (FileFeedState S)) : Type 0 where
    pub many : length new ≡ length old
    pub each : (i : ℕ) (f : FileFeedState S) → i < length old → IsSameFeed (feed_view reads word (slice_index_or old i f)) (feed_view reads word (slice_index_or new i f))

  -- a feed was read to its end, and no read failed
  pub record IsReadOn (old new : FileFeedState S) (entries : List Entry) : Type 0 where
    pub drained : IsDrained (feed_view reads word new) entries
    pub quiet : (reads new.from).faults ≡ (reads old.from).faults

  -- the feed at a place was, and these are its entries
  abbrev pub IsReadAt : List (FileFeedState S) → List (FileFeedState S) → ℕ → List Entry → Type 0
  IsReadAt old new i entries = (f : FileFeedState S) → IsReadOn (slice_index_or old i f) (slice_index_or new i f) entries

  -- these are the entries of the first feeds, in their order
  abbrev pub AreDrained : List (FileFeedState S) → List (FileFeedState S) → List (List Entry) → Type 0
  AreDrained old new all = (i : ℕ) → i < length all → IsReadAt old new i (slice_index_or all i [])

  -- the fault is that of the first feed that has one; a failed read of it was counted
  pub record IsFirstTrouble (old new : List (FileFeedState S)) (fault : Fault) : Type 0 where
    pub source : ℕ
    pub inside : source < length old
    pub cause : FeedFault
    pub answered : fault ≡ fault_of source cause
    pub below : (i : ℕ) → i < source → (entries : List Entry) × IsReadAt old new i entries
    pub stuck : (f : FileFeedState S) → IsStuck (feed_view reads word (slice_index_or new source f)) cause
    pub failed : (f : FileFeedState S) → cause ≡ FeedRead → Rose (reads (slice_index_or old source f).from).faults (reads (slice_index_or new source f).from).faults
