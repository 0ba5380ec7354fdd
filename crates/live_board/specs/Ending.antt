-- The end: all entries are shown, and each reader reads them.
use Rattle.std.specs.Prelude.{◌≡◌, ℕ, List, Option, length}
use Rattle.left_right.specs.declared.Absorb.{Ghosts}
use Rattle.left_right.specs.declared.writer.Writer.{Writer}
use Rattle.live_board.specs.Rule.{sources_of}
use Rattle.live_board.specs.Tallies.{turns}
use Rattle.live_board.specs.Watched.{AreReadsOf}
use Rattle.live_board.specs.Writing.{IsAt, shown_by}
use Rattle.live_board.specs.declared.board.Board.{Board}
use Rattle.live_board.specs.declared.course.Course.{Course}
use Rattle.live_board.specs.declared.tally.Tally.{Tally}

-- so many reads of a course and one, of which the last counts all its entries
abbrev pub AreReadsIn : Course → ℕ → List Tally → Type 0
AreReadsIn c = AreReadsOf (c.defs).now (length (c.sources).now) (turns (sources_of c))

module _ {O P A S : Type 0} {g : Ghosts Board O S} where
  -- the writer shows a tally of all entries of a course
  pub record HasShownAll (c : Course) (w : Writer Board O (Option Board) P A S g) : Type 0 where
    pub at : IsAt (shown_by w) w
    pub course : (shown_by w).course ≡ c
    pub all : ((shown_by w).tally).entries ≡ length (turns (sources_of c))
