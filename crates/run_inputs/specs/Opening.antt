-- The feeds of sources that were opened, and not read yet.
use Rattle.std.specs.Prelude.{◌≡◌, ◌<◌, ◌+◌, ◌++◌, ◌⊎◌, ℕ, List, [], length, Option, Some, slice_index_or}
use Rattle.stream_base.specs.Limits.{Definitions}
use Rattle.outside.specs.Outside.{Came, Reads, nothing_read}
use Rattle.source_feed.specs.FileFeedState.{FileFeedState, unread_feed}
use Rattle.emission_text.specs.declared.fault.Fault.{Fault}
use Rattle.emission_text.specs.declared.fault.Fault.TheVariants.{Unopened, NoMemory}
use Rattle.run_inputs.specs.Causes.{IsUnopened}
use Rattle.run_inputs.specs.Outside.{Opens, Telling}

module _ {S : Type 0} (reads : S → Reads) (word : S → Option (List ℕ)) where
  -- the feed of the source of this number, which came from the open of this place: nothing of it was read, and it tells what its file does
  pub record IsUnread (place : ℕ) (told : Option (List ℕ)) (source : ℕ) (d : Definitions) (feed : FileFeedState S) : Type 0 where
    pub feed_is : feed ≡ unread_feed feed.from source d
    pub fresh : reads feed.from ≡ nothing_read place
    pub content : word feed.from ≡ told

  -- the feeds of the first sources of these names, in their order, from opens in a row, of which the first has this number
  abbrev pub AreUnread : ℕ → Telling → List (List ℕ) → Definitions → List (FileFeedState S) → Type 0
  AreUnread base told names d feeds =
      (i : ℕ) (f : FileFeedState S) → i < length feeds → IsUnread (base + i) (told (slice_index_or names i [])) i d (slice_index_or feeds i f)

  module _ {F : Type 0} (asked : F → List (List ℕ)) (came : F → ℕ → Came) (told : F → Telling) where
    -- all these names were opened, and nothing was read; the opens of before are as they were, and so is what is told
    pub record AreOpened (names : List (List ℕ)) (d : Definitions) (old new : F) (feeds : List (FileFeedState S)) : Type 0 where
      pub many : length feeds ≡ length names
      pub in_order : asked new ≡ asked old ++ names
      pub unread : AreUnread (length (asked old)) (told old) names d feeds
      pub earlier : (i : ℕ) → i < length (asked old) → came new i ≡ came old i
      pub same : (which : List ℕ) → told new which ≡ told old which

-- why the opening of the sources of these names stops a run: one can't be opened, or memory ran out
abbrev pub StopsAtOpening : List (List ℕ) → Opens → Fault → Type 0
StopsAtOpening names opens fault = ((source : ℕ) × (fault ≡ Unopened (Some source)) × IsUnopened names opens source) ⊎ (fault ≡ NoMemory)
