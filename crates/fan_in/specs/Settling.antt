-- The lanes are settled one by one, and the notes of their owners go into the outcomes of the feeds.
use Rattle.std.specs.Prelude.{◌≡◌, ◌≤◌, ◌<◌, ◌⊎◌, ℕ, List, [], length, slice_index_or, Vec}
use Rattle.std.specs.declared.alloc.Global.{Global}
use Rattle.stream_base.specs.Limits.{Definitions}
use Rattle.stream_base.specs.declared.entry.Entry.{Entry}
use Rattle.stream_base.specs.declared.limits.TheConstants.{JOURNAL_MAX}
use Rattle.stream_base.specs.Model.Routes.{entries_from}
use Rattle.shard_core.specs.Shard.{Sharded}
use Rattle.mail_lane.specs.Lane.{Lane, SenderState, IsReceiverOf, IsSenderOf, sent_by, with_back}
use Rattle.turnstile.specs.History.{BeginsWith}
use Rattle.source_feed.specs.declared.feed_fault.FeedFault.TheVariants.{NoMemory}
use Rattle.fan_in.specs.declared.gathered.FeedEnd.{FeedEnd}
use Rattle.fan_in.specs.declared.outcome.Outcome.{Outcome}
use Rattle.fan_in.specs.declared.outcome.Outcome.TheVariants.{Done, Fault, Full}
use Rattle.fan_in.specs.Gathering.{IsGathered}
use Rattle.fan_in.specs.declared.mail.owner_job.OwnerJob.{OwnerJob}
use Rattle.fan_in.specs.Owning.{OwnsAfter, entries_in}
use Rattle.fan_in.specs.Posts.{AreBoxesOf}
use Rattle.fan_in.specs.Ports.{IsHalfway}
use Rattle.fan_in.specs.Reading.{AreFrom}

-- an outcome that takes in a further note: a fault stays or comes, and else the first full shard
abbrev pub worse : Outcome → Outcome → Outcome
worse Done note = note
worse (Full shard) Done = Full shard
worse (Full shard) (Full other) = Full shard
worse (Full shard) (Fault fault) = Fault fault
worse (Fault fault) note = Fault fault

-- an outcome that came of the reader's own and of the notes of so many owners
abbrev pub Follows : ℕ → Outcome → Outcome → Type 0
Follows shards Done outcome = IsHalfway shards outcome
Follows shards (Full shard) outcome = (outcome ≡ Full shard) ⊎ (outcome ≡ Fault NoMemory)
Follows shards (Fault fault) outcome = outcome ≡ Fault fault

-- of what was sent to a shard of a source, its journal holds the first ones, in order: all of them where the outcome is `Done`, and not all where this shard was full, which it then is
pub record HoldsSent (k source : ℕ) (sent : List Entry) (outcome : Outcome) (journal : List Entry) : Type 0 where
  pub prefix : BeginsWith sent (entries_from source journal)
  pub whole : outcome ≡ Done → entries_from source journal ≡ sent
  pub full : outcome ≡ Full k → length journal ≡ JOURNAL_MAX
  pub lacks : outcome ≡ Full k → length (entries_from source journal) < length sent

-- a shard whose lane was settled
pub record IsSettledShard (d : Definitions) (sources : ℕ) (shard : Sharded) : Type 0 where
  pub gathered : IsGathered d sources shard
  pub short : length shard.journal ≤ JOURNAL_MAX

-- each owner has the receiver of its lane, which took no sender back yet
pub record AreUnsettled (lanes : List Lane) (owners : List OwnerJob) : Type 0 where
  pub many : length owners ≡ length lanes
  pub own : (k : ℕ) (l : Lane) (o : OwnerJob) → k < length lanes → IsReceiverOf (slice_index_or lanes k l) (slice_index_or owners k o).receiver
  pub none : (k : ℕ) (o : OwnerJob) → k < length lanes → ((slice_index_or owners k o).receiver).back ≡ []

-- the receiver of a lane may take this sender back
pub record MayTakeBack (lane : Lane) (job : OwnerJob) (sender : SenderState Entry) : Type 0 where
  pub own : IsReceiverOf lane job.receiver
  pub of_lane : IsSenderOf lane sender
  pub next : sender.number ≡ length (job.receiver).back

-- the receiver took a sender back that had sent this, and the owner is as before
pub record TookBack (sent : List Entry) (old new : OwnerJob) : Type 0 where
  pub receiver : new.receiver ≡ with_back old.receiver sent
  pub owner : new.owner ≡ old.owner

-- the receiver of lane `k` took back the senders that stand there in the first `i` rows, and the owner is as before
pub record HasBack (i k : ℕ) (rows : List (Vec (SenderState Entry) Global)) (old new : OwnerJob) : Type 0 where
  pub lane : (new.receiver).lane ≡ (old.receiver).lane
  pub senders : (new.receiver).senders ≡ (old.receiver).senders
  pub taken : (new.receiver).taken ≡ (old.receiver).taken
  pub owner : new.owner ≡ old.owner
  pub many : length (new.receiver).back ≡ i
  pub back : (j : ℕ) (row : Vec (SenderState Entry) Global) (s : SenderState Entry) → j < i → sent_by j (new.receiver).back ≡ (slice_index_or (slice_index_or rows j row).items k s).sent

-- the owner of a lane made of all that it took what it should, and has the senders of all sources back, each of which sent entries of its source
pub record IsAllBack (d : Definitions) (sources k : ℕ) (lane : Lane) (job : OwnerJob) : Type 0 where
  pub senders : lane.senders ≡ sources
  pub own : IsReceiverOf lane job.receiver
  pub many : length (job.receiver).back ≡ sources
  pub from : (i : ℕ) → i < sources → AreFrom i (sent_by i (job.receiver).back)
  pub after : OwnsAfter d sources k (entries_in (job.receiver).taken) job.owner

-- so does the owner of each lane
pub record AreAllBack (d : Definitions) (sources : ℕ) (lanes : List Lane) (owners : List OwnerJob) : Type 0 where
  pub many : length owners ≡ length lanes
  pub each : (k : ℕ) (l : Lane) (o : OwnerJob) → k < length lanes → IsAllBack d sources k (slice_index_or lanes k l) (slice_index_or owners k o)

-- the senders of all sources, one of each lane, and each sent entries of its source
pub record AreSentRows (sources : ℕ) (lanes : List Lane) (rows : List (Vec (SenderState Entry) Global)) : Type 0 where
  pub many : length rows ≡ sources
  pub boxes : (i : ℕ) (row : Vec (SenderState Entry) Global) → i < sources → AreBoxesOf i lanes (slice_index_or rows i row).items
  pub from : (i k : ℕ) (row : Vec (SenderState Entry) Global) (s : SenderState Entry) → i < sources → k < length lanes → AreFrom i (slice_index_or (slice_index_or rows i row).items k s).sent

module _ {F : Type 0} where
  -- where a reader's outcome names a full shard, the sender of its row on that lane sent more than a journal holds
  abbrev pub SentOver : List (Vec (SenderState Entry) Global) → List (FeedEnd F) → Type 0
  SentOver rows ends = (i k : ℕ) (row : Vec (SenderState Entry) Global) (s : SenderState Entry) (e : FeedEnd F) → i < length ends → (slice_index_or ends i e).outcome ≡ Full k
      → JOURNAL_MAX < length (slice_index_or (slice_index_or rows i row).items k s).sent

  -- of what the senders of these rows sent on so many lanes, the journal of each lane's shard holds what it should by the new outcomes of their feeds
  abbrev pub SentIsHeld : ℕ → List (Vec (SenderState Entry) Global) → List (FeedEnd F) → List (FeedEnd F) → List Sharded → Type 0
  SentIsHeld many rows old new shards = (k i : ℕ) (row : Vec (SenderState Entry) Global) (b : SenderState Entry) (e : FeedEnd F) (s : Sharded) → k < many → i < length old
      → HoldsSent k i (slice_index_or (slice_index_or rows i row).items k b).sent (slice_index_or new i e).outcome (slice_index_or shards k s).journal

  -- the same of the senders that came back
  abbrev pub BackOver : List Lane → List OwnerJob → List (FeedEnd F) → Type 0
  BackOver lanes owners ends = (i k : ℕ) (o : OwnerJob) (e : FeedEnd F) → i < length ends → k < length lanes → (slice_index_or ends i e).outcome ≡ Full k
      → JOURNAL_MAX < length (sent_by i ((slice_index_or owners k o).receiver).back)

  -- and of what these sent
  abbrev pub BackIsHeld : ℕ → List OwnerJob → List (FeedEnd F) → List (FeedEnd F) → List Sharded → Type 0
  BackIsHeld many owners old new shards = (k i : ℕ) (o : OwnerJob) (e : FeedEnd F) (s : Sharded) → k < many → i < length old
      → HoldsSent k i (sent_by i ((slice_index_or owners k o).receiver).back) (slice_index_or new i e).outcome (slice_index_or shards k s).journal
