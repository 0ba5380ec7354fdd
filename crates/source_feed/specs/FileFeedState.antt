-- What the feed of a source is in contracts.
use Rattle.std.specs.Prelude.{◌≡◌, ◌≤◌, ◌++◌, ◌⊎◌, ℕ, Bool, true, false, List, [], length, Option, None, Some, IfSome, option_map, if◌then◌else◌, nat_le, nat_lt}
use Rattle.stream_base.specs.Limits.{Definitions}
use Rattle.stream_base.specs.declared.entry.Entry.{Entry}
use Rattle.outside.specs.Outside.{Reads}
use Rattle.source_feed.specs.Events.{stream_of}
use Rattle.source_feed.specs.FeedFault.{feed_fault, refusal_of}
use Rattle.source_feed.specs.FeedState.{FeedState}
use Rattle.source_feed.specs.FeedView.{FeedView, given_then}
use Rattle.source_feed.specs.Stream.{Stream, only_refused, too_long}
use Rattle.source_feed.specs.declared.feed_fault.FeedFault.{FeedFault}
use Rattle.source_feed.specs.declared.row_fault.RowFault.{RowFault}
use Rattle.source_feed.specs.declared.row_fault.RowFault.TheVariants.{NoMemory}
use Rattle.source_feed.specs.declared.whole.TheConstants.{SOURCE_MAX}

-- how far the reading is: the source wasn't read, its rows are given, or it couldn't be read
pub data Reading : Type 0 where
  unread : Reading
  giving : FeedState RowFault → Reading
  unreadable : FeedFault → Reading

-- the source itself, its number, when its watermarks are made, and how far the reading is
pub record FileFeedState (S : Type 0) : Type 0 where
  pub from : S
  pub source : ℕ
  pub every : ℕ
  pub disorder : ℕ
  pub reading : Reading
  pub gave : List Entry

-- the feed of a source of this number that wasn't read yet
abbrev pub unread_feed : {S : Type 0} → S → ℕ → Definitions → FileFeedState S
unread_feed from source defs =
    record {
      from = from;
      source = source;
      every = defs.every;
      disorder = defs.disorder;
      reading = unread;
      gave = [];
    }

-- the stream of a source with these bytes, where they aren't too many
abbrev pub source_stream : ℕ → ℕ → ℕ → List ℕ → Stream
source_stream source every disorder bytes =
    if nat_le (length bytes) SOURCE_MAX
    then stream_of source every disorder bytes
    else only_refused too_long

-- the rows of a source, as a feed
abbrev pub state_of_rows : FeedState RowFault → FeedState FeedFault
state_of_rows rows =
    record {
      source = rows.source;
      ended = rows.ended;
      answered = option_map feed_fault rows.answered;
      rest = rows.rest;
    }

-- the stream of the source of this number, as soon as what was read of it decides it: it gave too many bytes, or its end was seen
abbrev pub stream_seen : ℕ → ℕ → ℕ → Reads → Option Stream
stream_seen source every disorder reads =
    if nat_lt SOURCE_MAX (length reads.given)
    then Some (only_refused too_long)
    else if reads.ended then Some (stream_of source every disorder reads.given) else None

module _ {S : Type 0} (reads : S → Reads) (told : S → Option (List ℕ)) where
  -- the feed of a source, as a feed
  abbrev pub feed_view : FileFeedState S → FeedView
  feed_view feed = record {
    source = feed.source;
    origin = record { place = (reads feed.from).place; told = told feed.from; every = feed.every; disorder = feed.disorder };
    ended = ended_at feed.reading;
    answered = answered_at feed.reading;
    gave = feed.gave;
    whole = stream_seen feed.source feed.every feed.disorder (reads feed.from);
  }
    where
      ended_at : Reading → Bool
      ended_at unread = false
      ended_at (giving rows) = rows.ended
      ended_at (unreadable fault) = false

      answered_at : Reading → Option FeedFault
      answered_at unread = None
      answered_at (giving rows) = option_map feed_fault rows.answered
      answered_at (unreadable fault) = Some fault

-- the entries given and those that rows have left are the stream of these bytes, unless memory ran out
pub record GivesOn (source every disorder : ℕ) (bytes : List ℕ) (gave : List Entry) (rows : FeedState RowFault) : Type 0 where
  pub source_is : rows.source ≡ source
  pub known : (rows.answered ≡ Some NoMemory)
      ⊎ ((left : Stream) × (rows.rest ≡ Some left) × (stream_of source every disorder bytes ≡ given_then (gave ++ left.entries) left.refusal))

-- what was read of a source, at each point of the reading
abbrev pub IsAt : ℕ → ℕ → ℕ → Reads → List Entry → Reading → Type 0
IsAt source every disorder reads gave unread = (reads.given ≡ []) × (reads.ended ≡ false) × (gave ≡ [])
IsAt source every disorder reads gave (giving rows) =
    (reads.ended ≡ true) × (length reads.given ≤ SOURCE_MAX) × GivesOn source every disorder reads.given gave rows
IsAt source every disorder reads gave (unreadable fault) =
    (gave ≡ []) × IfSome (refusal_of fault) (λ refusal. stream_seen source every disorder reads ≡ Some (only_refused refusal))
