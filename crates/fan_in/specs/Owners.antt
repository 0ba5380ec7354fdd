-- The owners of the lanes, before and after they applied what came.
use Rattle.std.specs.Prelude.{◌≡◌, ◌<◌, ℕ, List, length, slice_index_or}
use Rattle.stream_base.specs.Limits.{Definitions}
use Rattle.mail_lane.specs.Lane.{Lane}
use Rattle.fan_in.specs.Posts.{OwnsLane}
use Rattle.fan_in.specs.declared.mail.owner_job.OwnerJob.{OwnerJob}

module _ (d : Definitions) (sources : ℕ) (lanes : List Lane) where
  -- an owner has one of these lanes, by its number
  abbrev pub MayOwn : OwnerJob → Type 0
  MayOwn job = ((job.owner).number < length lanes) × ((l : Lane) → OwnsLane d sources (job.owner).number (slice_index_or lanes (job.owner).number l) job)

  -- an owner has the lane still, and made of all that it took what it should
  abbrev pub HasOwned : OwnerJob → OwnerJob → Type 0
  HasOwned old new = (l : Lane) → OwnsLane d sources (old.owner).number (slice_index_or lanes (old.owner).number l) new

  -- so has each of these
  pub record HaveOwned (old new : List OwnerJob) : Type 0 where
    pub many : length new ≡ length old
    pub owned : (k : ℕ) (o : OwnerJob) → k < length old → HasOwned (slice_index_or old k o) (slice_index_or new k o)
