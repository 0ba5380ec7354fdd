-- The feed of a source by its fields.
use Rattle.std.specs.Prelude.{◌≡◌, ℕ, ⊤}
use Rattle.source_feed.specs.FileFeedState.{FileFeedState, Reading, unread, giving, unreadable}
use Rattle.source_feed.specs.EntryLogs.{entries_in}
use Rattle.source_feed.specs.declared.file_feed.State.{State}
use Rattle.source_feed.specs.declared.file_feed.State.TheVariants.{Unread, Open, Stopped}
use Rattle.source_feed.specs.declared.file_feed.FileFeed.TheInside.{Inside}

abbrev pub reading_of : State → Reading
reading_of Unread = unread
reading_of (Open rows) = giving rows.value
reading_of (Stopped fault) = unreadable fault

abbrev pub file_feed_state : {S : Type 0} → Inside S → FileFeedState S
file_feed_state a =
    record {
      from = a.source;
      source = a.index;
      every = a.every;
      disorder = a.disorder;
      reading = reading_of a.state;
      gave = entries_in a.gave;
    }
