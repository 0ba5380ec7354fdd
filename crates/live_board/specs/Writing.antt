-- What the writer of a board keeps.
use Rattle.std.specs.Prelude.{◌≡◌, ◌≤◌, [], drop, Option, Some}
use Rattle.left_right.specs.Sides.{view}
use Rattle.left_right.specs.declared.Absorb.{Ghosts}
use Rattle.left_right.specs.declared.writer.Writer.{Writer}
use Rattle.live_board.specs.Rule.{IsTallyIn}
use Rattle.live_board.specs.declared.board.Board.{Board}
use Rattle.live_board.specs.declared.course.Course.{Course}
use Rattle.live_board.specs.declared.tally.Tally.{Tally}

abbrev pub board_of : Course → Tally → Board
board_of c t = record { course = c; tally = t }

module _ {O P A S : Type 0} {g : Ghosts Board O S} where
  -- the board that a writer shows
  abbrev pub shown_by : Writer Board O (Option Board) P A S g → Board
  shown_by w = w.desk.shown.value

  -- the writer shows this board, a tally of its course; it has seen that, and nothing waits to be shown
  pub record IsAt (b : Board) (w : Writer Board O (Option Board) P A S g) : Type 0 where
    pub shown : shown_by w ≡ b
    pub seen : view w.desk.place ≡ Some b
    pub idle : drop w.behind w.log.items ≡ []
    pub tally : IsTallyIn b.course b.tally

  -- a writer may show a tally next: it is one of its course, and counts no less than what is shown
  pub record MayShow (t : Tally) (w : Writer Board O (Option Board) P A S g) : Type 0 where
    pub at : IsAt (shown_by w) w
    pub tally : IsTallyIn (shown_by w).course t
    pub no_less : ((shown_by w).tally).entries ≤ t.entries
