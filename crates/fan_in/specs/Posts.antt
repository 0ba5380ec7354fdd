-- The lanes of all shards, the owner of each, and for each source a row of senders, one of each lane.
use Rattle.std.specs.Prelude.{◌≡◌, ◌<◌, ◌++◌, ℕ, List, [], ◌∷◌, length, All, slice_index_or, Vec}
use Rattle.std.specs.declared.alloc.Global.{Global}
use Rattle.stream_base.specs.Limits.{Definitions}
use Rattle.stream_base.specs.declared.entry.Entry.{Entry}
use Rattle.mail_lane.specs.Lane.{Lane, SenderState, IsReceiverOf}
use Rattle.fan_in.specs.declared.mail.owner_job.OwnerJob.{OwnerJob}
use Rattle.fan_in.specs.declared.plan.Plan.{Plan}
use Rattle.fan_in.specs.declared.mail.post.Post.{Post}
use Rattle.fan_in.specs.Owning.{OwnsAfter, entries_in}

-- the owner of a shard made of all that it took from its lane what it should
pub record OwnsLane (d : Definitions) (sources k : ℕ) (lane : Lane) (job : OwnerJob) : Type 0 where
  pub own : IsReceiverOf lane job.receiver
  pub back_none : (job.receiver).back ≡ []
  pub after : OwnsAfter d sources k (entries_in (job.receiver).taken) job.owner

-- the lane's sender of this source
pub record IsBoxOf (lane : Lane) (source : ℕ) (sender : SenderState Entry) : Type 0 where
  pub lane_is : sender.lane ≡ lane.id
  pub number_is : sender.number ≡ source

-- the senders of one source, one of each lane
pub record AreBoxesOf (source : ℕ) (lanes : List Lane) (row : List (SenderState Entry)) : Type 0 where
  pub many : length row ≡ length lanes
  pub each : (k : ℕ) (l : Lane) (s : SenderState Entry) → k < length lanes → IsBoxOf (slice_index_or lanes k l) source (slice_index_or row k s)

-- a row got the sender of its source on one lane more, which sent nothing yet
pub record GainsBox (lane : Lane) (source : ℕ) (old new : List (SenderState Entry)) : Type 0 where
  pub sender : SenderState Entry
  pub adds : new ≡ old ++ sender ∷ []
  pub box : IsBoxOf lane source sender
  pub sent_none : sender.sent ≡ []

-- each row got the sender of its source
abbrev pub GainBoxes : Lane → List (Vec (SenderState Entry) Global) → List (Vec (SenderState Entry) Global) → Type 0
GainBoxes lane old new = (i : ℕ) (row : Vec (SenderState Entry) Global) → i < length old → GainsBox lane i (slice_index_or old i row).items (slice_index_or new i row).items

-- each lane has a sender for each source, and its owner
pub record AreOwned (d : Definitions) (sources : ℕ) (lanes : List Lane) (owners : List OwnerJob) : Type 0 where
  pub many : length owners ≡ length lanes
  pub senders : (k : ℕ) (l : Lane) → k < length lanes → (slice_index_or lanes k l).senders ≡ sources
  pub owned : (k : ℕ) (l : Lane) (o : OwnerJob) → k < length lanes → OwnsLane d sources k (slice_index_or lanes k l) (slice_index_or owners k o)

-- all lanes that were opened so far, with their owners and with the senders of so many sources
pub record IsPost (d : Definitions) (sources : ℕ) (lanes : List Lane) (owners : List OwnerJob) (rows : List (Vec (SenderState Entry) Global)) : Type 0 where
  pub owners_are : AreOwned d sources lanes owners
  pub many : length rows ≡ sources
  pub rows_are : (i : ℕ) (row : Vec (SenderState Entry) Global) → i < sources → AreBoxesOf i lanes (slice_index_or rows i row).items
  pub blank : (i : ℕ) (row : Vec (SenderState Entry) Global) → i < sources → All (λ s. s.sent ≡ []) (slice_index_or rows i row).items

-- a post of this plan, of the lanes of so many shards that were opened so far, and the rows of their senders
abbrev pub IsPostOf : Plan → ℕ → Post → List (Vec (SenderState Entry) Global) → Type 0
IsPostOf plan shards post rows = (length post.lanes.items ≡ shards) × IsPost plan.defs plan.sources post.lanes.items post.owners.items rows
