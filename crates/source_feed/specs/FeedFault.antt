-- What a feed's fault says of the stream that it told.
use Rattle.std.specs.Prelude.{◌≡◌, Option, None, Some, ⊤}
use Rattle.source_feed.specs.Stream.{Refusal, Stream, bad_record, only_refused, too_long}
use Rattle.source_feed.specs.declared.feed_fault.FeedFault.{FeedFault}
use Rattle.source_feed.specs.declared.feed_fault.FeedFault.TheVariants.{Read, TooLong, Row, NoMemory}
use Rattle.source_feed.specs.declared.row_fault.RowFault.{RowFault}
use Rattle.source_feed.specs.declared.row_fault.RowFault.TheVariants.{Refused, NoMemory as MemoryFault}
use Rattle.source_feed.specs.declared.whole_fault.WholeFault.{WholeFault}
use Rattle.source_feed.specs.declared.whole_fault.WholeFault.TheVariants.{Read as WholeRead, TooLong as WholeTooLong, NoMemory as WholeMemory}

-- the refusal that a fault shows, if it shows one
abbrev pub refusal_of : FeedFault → Option Refusal
refusal_of Read = None
refusal_of TooLong = Some too_long
refusal_of (Row number why) = Some (bad_record number why)
refusal_of NoMemory = None

-- the same, of a fault of rows
abbrev pub row_refusal_of : RowFault → Option Refusal
row_refusal_of (Refused number why) = Some (bad_record number why)
row_refusal_of MemoryFault = None

-- a refusal that is shown is all that a told stream has left, and that stays told
abbrev pub Ends : Option Refusal → Option Stream → Option Stream → Type 0
Ends None old new = ⊤
Ends (Some refusal) None new = ⊤
Ends (Some refusal) (Some stream) new = (stream ≡ only_refused refusal) × (new ≡ Some stream)

-- the fault of a feed for one of its rows
abbrev pub feed_fault : RowFault → FeedFault
feed_fault (Refused number why) = Row number why
feed_fault MemoryFault = NoMemory

-- the fault of a feed whose source wasn't read whole
abbrev pub whole_fault : WholeFault → FeedFault
whole_fault WholeRead = Read
whole_fault WholeTooLong = TooLong
whole_fault WholeMemory = NoMemory
