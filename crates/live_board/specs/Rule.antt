-- The rule of the board: what it shows, and what each seat has seen of it.
use Rattle.std.specs.Prelude.{◌≡◌, ◌≤◌, ℕ, List, length, map, All, Option, Some}
use Rattle.std.specs.List.Sorted.{IsNonDecreasingBy}
use mathlib.Core.Option.{some}
use lib.ListN.{get_elem?}
use Rattle.stream_base.specs.declared.entry.Entry.{Entry}
use Rattle.live_board.specs.Tallies.{IsTallyOf, turns}
use Rattle.live_board.specs.declared.board.Board.{Board}
use Rattle.live_board.specs.declared.course.Course.{Course}
use Rattle.live_board.specs.declared.tally.Tally.{Tally}

-- the lists of entries of a course
abbrev pub sources_of : Course → List (List Entry)
sources_of c = map (λ v. v.items) (c.sources).now

-- a tally of a course: of its entries, taken in turn
abbrev pub IsTallyIn : Course → Tally → Type 0
IsTallyIn c t = IsTallyOf (c.defs).now (length (c.sources).now) (turns (sources_of c)) t

-- a board with another tally
abbrev pub with_tally : Board → Tally → Board
with_tally b t = record { course = b.course; tally = t }

-- a board is of the same course as another, and counts no less
pub record IsLater (old new : Board) : Type 0 where
  pub same : new.course ≡ old.course
  pub no_less : (old.tally).entries ≤ (new.tally).entries

-- the board shows a tally of its course, and is later than each that a seat has seen
pub record IsShown (b : Board) (views : List (Option Board)) : Type 0 where
  pub tally : IsTallyIn b.course b.tally
  pub seen : (seat : ℕ) (old : Board) → get_elem? views seat ≡ some (Some old) → IsLater old b

-- what a seat takes or publishes shows a tally of its course, the seat has seen it now, and it is later than what it had seen
pub record IsSeen (before : Option Board) (old new : Board) (behind : Option Board) : Type 0 where
  pub tally : IsTallyIn new.course new.tally
  pub seen : behind ≡ Some new
  pub later : (b : Board) → before ≡ Some b → IsLater b new

-- the reads are tallies of a course, none counts less than the one before it, and none more than this
pub record AreReadsUpTo (c : Course) (most : ℕ) (reads : List Tally) : Type 0 where
  pub each : All (λ t. IsTallyIn c t) reads
  pub few : All (λ t. t.entries ≤ most) reads
  pub rise : IsNonDecreasingBy (λ t. t.entries) reads

-- the seat has seen a board of the course, and the reads came no later
pub record HasRead (c : Course) (seen : Option Board) (reads : List Tally) : Type 0 where
  pub board : Board
  pub seen_is : seen ≡ Some board
  pub course : board.course ≡ c
  pub reads_are : AreReadsUpTo c (board.tally).entries reads
