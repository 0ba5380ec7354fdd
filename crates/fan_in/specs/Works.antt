-- Room for the readers of all feeds, and their outcomes where no shard can be handed out.
use Rattle.std.specs.Prelude.{◌≡◌, ◌<◌, ◌+◌, ℕ, List, [], length, slice_index_or, Vec}
use Rattle.std.specs.Vec.{vec_capacity}
use Rattle.std.specs.declared.alloc.Global.{Global}
use Rattle.source_feed.specs.declared.feed_fault.FeedFault.TheVariants.{NoMemory}
use Rattle.fan_in.specs.declared.outcome.Outcome.{Outcome}
use Rattle.fan_in.specs.declared.outcome.Outcome.TheVariants.{Done, Fault, Full}
use Rattle.fan_in.specs.declared.gathered.FeedEnd.{FeedEnd}
use Rattle.fan_in.specs.declared.reader.Reader.{Reader}
use Rattle.fan_in.specs.declared.work.Work.{Work}

-- nothing yet, and room for so many
pub record IsReserved {X : Type 0} (n : ℕ) (v : Vec X Global) : Type 0 where
  pub none : v.items ≡ []
  pub room : vec_capacity v ≡ n

-- room for the readers of so many feeds, and for what comes of them
pub record HasRoom {F P : Type 0} (n : ℕ) (work : Work F P) : Type 0 where
  pub readers : IsReserved n work.readers
  pub ends : IsReserved n work.ends
  pub rows : IsReserved n work.rows

-- an outcome where no shard can be handed out: a fault stays, and else memory ran out
abbrev pub without_shards : Outcome → Outcome
without_shards Done = Fault NoMemory
without_shards (Full shard) = Fault NoMemory
without_shards (Fault fault) = Fault fault

-- the outcomes of all feeds are changed so
abbrev pub OutcomesAre : {F : Type 0} → (Outcome → Outcome) → List (FeedEnd F) → List (FeedEnd F) → Type 0
OutcomesAre {F} change old new = (i : ℕ) (e : FeedEnd F) → i < length old → (slice_index_or new i e).outcome ≡ change (slice_index_or old i e).outcome

-- they stay as they were
abbrev pub AreSameOutcomes : {F : Type 0} → List (FeedEnd F) → List (FeedEnd F) → Type 0
AreSameOutcomes old new = OutcomesAre (λ outcome. outcome) old new

-- of each feed there is a reader with its row of ports, the last feed's first, which hasn't read yet
abbrev pub AreNewReaders : {F P : Type 0} → List F → List (Vec P Global) → List (Reader F P) → Type 0
AreNewReaders {F} {P} feeds rows readers = (i j : ℕ) (f : F) (row : Vec P Global) (r : Reader F P) → i + j + 1 ≡ length feeds
    → slice_index_or readers i r ≡ record { feed = slice_index_or feeds j f; outcome = Done; ports = slice_index_or rows j row }

-- and this came of each of them
abbrev pub AreTakenApart : {F P : Type 0} → List (Reader F P) → List (FeedEnd F) → List (Vec P Global) → Type 0
AreTakenApart {F} {P} readers ends rows = (i j : ℕ) (e : FeedEnd F) (row : Vec P Global) (r : Reader F P) → i + j + 1 ≡ length readers
    → slice_index_or readers i r ≡ record { feed = (slice_index_or ends j e).feed; outcome = (slice_index_or ends j e).outcome; ports = slice_index_or rows j row }
