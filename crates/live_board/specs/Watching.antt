-- What readers keep.
use Rattle.std.specs.Prelude.{◌≡◌, ◌≤◌, ◌+◌, ℕ, List, [], length, All, IfSome, Vec}
use Rattle.std.specs.List.Sorted.{IsNonDecreasingBy}
use Rattle.std.specs.Vec.{vec_capacity}
use Rattle.std.specs.declared.alloc.Global.{Global}
use Rattle.left_right.specs.Sides.{view}
use Rattle.live_board.specs.Rule.{HasRead, IsTallyIn}
use Rattle.live_board.specs.declared.course.Course.{Course}
use Rattle.live_board.specs.declared.watcher.Watcher.{Watcher}
use Rattle.live_board.specs.declared.tally.Tally.{Tally}

-- the reads are tallies of a course, and none counts fewer entries than the one before it
pub record AreReads (c : Course) (reads : List Tally) : Type 0 where
  pub each : All (λ t. IsTallyIn c t) reads
  pub rise : IsNonDecreasingBy (λ t. t.entries) reads

-- a watcher may read so often and once more: it has read nothing, it has room, and its reader has seen a board of the course
pub record IsReady (c : Course) (many : ℕ) (w : Watcher) : Type 0 where
  pub nothing : w.reads.items ≡ []
  pub room : many + 1 ≤ vec_capacity w.reads
  pub known : IfSome w.reader (λ r. HasRead c (view r.place) [])

-- a watcher has read, so often at most
pub record HasWatched (c : Course) (many : ℕ) (old new : Watcher) : Type 0 where
  pub reads : AreReads c new.reads.items
  pub few : length new.reads.items ≤ many
  pub room : vec_capacity new.reads ≡ vec_capacity old.reads

-- reads that may be brought to so many and one: they are reads of a course, no more than these, and there is room
pub record MayEnd (c : Course) (many : ℕ) (reads : Vec Tally Global) : Type 0 where
  pub reads_are : AreReads c reads.items
  pub few : length reads.items ≤ many
  pub room : many + 1 ≤ vec_capacity reads
