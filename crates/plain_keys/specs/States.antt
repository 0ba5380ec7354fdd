-- What a `PlainKey` keeps, and for which call it has room.
use Rattle.std.specs.Prelude.{◌≡◌, ◌≤◌, ◌<◌, ◌+◌, ◌-◌, ◌^◌, ℕ, pos, List, Result, IfOk, OnOk, length, All}
use Rattle.std.specs.BTreeSet.{insert_key}
use Rattle.std.specs.List.Sorted.{IsStrictlyIncreasing}
use Rattle.std.specs.Ordering.{nat_cmp}
use Rattle.stream_base.specs.declared.change.Change.{Change}
use Rattle.stream_base.specs.declared.def.Def.{Def}
use Rattle.stream_base.specs.declared.kept.Kept.{Kept}
use Rattle.stream_base.specs.declared.limits.TheConstants.{JOURNAL_MAX, TIME_MAX}
use Rattle.stream_base.specs.Laws.{TimesDoNotFall}
use Rattle.stream_base.specs.Limits.{Definitions}
use Rattle.stream_base.specs.Model.Changes.{changes_between}
use Rattle.stream_base.specs.Model.Journal.{put_in_order}
use Rattle.stream_base.specs.Model.Moments.{kept_at, moment}
use Rattle.window_laws.specs.Positions.{HaveDistinctPositions}
use Rattle.plain_windows.specs.Changing.{IsDue}
use Rattle.plain_windows.specs.Extents.{AreKeyLists}
use Rattle.key_windows.specs.Calls.{Call, changes_by_mark, changes_by_move, changes_by_put}
use Rattle.key_windows.specs.Calls.Call.{Put, Mark, Move}

-- what contracts see: the key and its lists, the position that the next tuple has at least, the first watermark at which something becomes complete, what was promised to the call to come, and the drafts of its lists and room for one more in each
pub record State : Type 0 where
  pub key : List ℕ
  pub kept : List Kept
  pub marks : List ℕ
  pub next : ℕ
  pub due : ℕ
  pub promise : ℕ
  pub next_kept : List Kept
  pub next_marks : List ℕ
  pub kept_spare : ℕ
  pub marks_spare : ℕ

-- the lists are a key's, of so few tuples, each at a position of its own below the next one
pub record IsState (kept : List Kept) (marks : List ℕ) (next : ℕ) : Type 0 where
  pub lists : AreKeyLists kept marks
  pub distinct : HaveDistinctPositions kept
  pub below : All (λ x. x.position < next) kept
  pub few : length kept ≤ next
  pub most : next ≤ JOURNAL_MAX

-- a tuple in the place of one to come at a time: no kept tuple has its position
abbrev pub stand_in : ℕ → Kept
stand_in time = kept_at (2 ^ 64 - 1) time (pos 0)

-- the greatest number of steps that a counter shows
abbrev pub most_steps : ℕ
most_steps = 2 ^ 64 - 1

-- its kept tuples and marks are these, and its due number is their least bound above the watermark
abbrev pub Fits : Definitions → List Kept → List ℕ → ℕ → State → Type 0
Fits d kept marks water s = (s.kept ≡ kept) × (s.marks ≡ marks) × IsDue d.windows kept marks water s.due

-- a tuple to come after the watermark has a place left; for an earlier one the list is drawn, with a stand-in, and as many changes promised as that causes
pub record IsReadyToPut (d : Definitions) (time water : ℕ) (s : State) : Type 0 where
  pub ahead : water < time → 1 ≤ s.kept_spare
  pub drawn : time ≤ water → s.next < JOURNAL_MAX → s.next_kept ≡ put_in_order s.kept (stand_in time)
  pub promised : time ≤ water → s.next < JOURNAL_MAX → (key : List ℕ) → s.promise ≡ length (changes_by_put d key s.kept s.marks water (stand_in time))

-- and so for a mark
pub record IsReadyToMark (d : Definitions) (time water : ℕ) (s : State) : Type 0 where
  pub ahead : water < time → 1 ≤ s.marks_spare
  pub drawn : time ≤ water → s.next_marks ≡ insert_key nat_cmp s.marks time
  pub promised : time ≤ water → (key : List ℕ) → s.promise ≡ length (changes_by_mark d key s.kept s.marks water time)

-- as many changes are promised as a move that reaches the due number causes
pub record IsReadyToMove (d : Definitions) (old new : ℕ) (s : State) : Type 0 where
  pub promised : s.due ≤ new → (key : List ℕ) → s.promise ≡ length (changes_by_move d key s.kept s.marks old new)

abbrev pub IsReady : Definitions → Call → State → Type 0
IsReady d (Put time water) s = IsReadyToPut d time water s
IsReady d (Mark time water) s = IsReadyToMark d time water s
IsReady d (Move old new) s = IsReadyToMove d old new s

-- what one tuple more changes of a state under a watermark
abbrev pub by_tuple : List Def → List ℕ → State → ℕ → Kept → List Change
by_tuple windows key s water x = changes_between windows key (moment s.kept s.marks water) (moment (put_in_order s.kept x) s.marks water)

-- and one mark more
abbrev pub by_one_mark : List Def → List ℕ → State → ℕ → ℕ → List Change
by_one_mark windows key s water m = changes_between windows key (moment s.kept s.marks water) (moment s.kept (insert_key nat_cmp s.marks m) water)

-- the key, its lists and the next position stay
pub record IsOfSame (old new : State) : Type 0 where
  pub key : new.key ≡ old.key
  pub kept : new.kept ≡ old.kept
  pub marks : new.marks ≡ old.marks
  pub next : new.next ≡ old.next

-- and the due number
pub record Stays (old new : State) : Type 0 where
  pub key : new.key ≡ old.key
  pub kept : new.kept ≡ old.kept
  pub marks : new.marks ≡ old.marks
  pub next : new.next ≡ old.next
  pub due : new.due ≡ old.due

-- where a tuple at a time after the watermark is the last that came, and the due number is that of the lists without it, the new due number is that of the lists with it
abbrev pub CatchesUp : List Def → ℕ → ℕ → State → State → Type 0
CatchesUp windows time water old new = (kept : List Kept) (x : Kept) → x.time ≡ time → old.kept ≡ put_in_order kept x → water < time → IsDue windows kept old.marks water old.due → IsDue windows new.kept new.marks water new.due

-- a call to come is made ready: but for drafts, room and the promise the state stays, as many changes are promised as it answers, and it holds what the call needs
pub record Prepares {E : Type 0} (ready : State → Type 0) (old new : State) (answer : Result ℕ E) : Type 0 where
  pub stays : Stays old new
  pub promised : IfOk answer (λ n. new.promise ≡ n)
  pub done : OnOk answer (ready new)

-- the kept tuples are drawn with a stand-in, and as many changes promised as that causes of any key
pub record HasDrawnTuple (windows : List Def) (old : State) (water time : ℕ) (new : State) : Type 0 where
  pub drawn : new.next_kept ≡ put_in_order old.kept (stand_in time)
  pub counted : (key : List ℕ) → new.promise ≡ length (by_tuple windows key old water (stand_in time))

-- and so the marks with one more
pub record HasDrawnMark (windows : List Def) (old : State) (water time : ℕ) (new : State) : Type 0 where
  pub drawn : new.next_marks ≡ insert_key nat_cmp old.marks time
  pub counted : (key : List ℕ) → new.promise ≡ length (by_one_mark windows key old water time)

-- a tuple is within the limits, and has the next position or a later one
pub record MayPut (old : State) (x : Kept) : Type 0 where
  pub time : x.time ≤ TIME_MAX
  pub position : old.next ≤ x.position
  pub few : x.position < JOURNAL_MAX

-- a tuple at a time within the limits has a place among others in event order
pub record HasPlace (kept : List Kept) (time : ℕ) : Type 0 where
  pub in_order : TimesDoNotFall kept
  pub within : time ≤ TIME_MAX

-- a mark within the limits may come among rising ones
pub record MayMark (marks : List ℕ) (mark : ℕ) : Type 0 where
  pub rising : IsStrictlyIncreasing marks
  pub within : mark ≤ TIME_MAX

-- one tuple more is kept
pub record HasOneMore (old : State) (x : Kept) (new : State) : Type 0 where
  pub key : new.key ≡ old.key
  pub kept : new.kept ≡ put_in_order old.kept x
  pub marks : new.marks ≡ old.marks
  pub next : new.next ≡ x.position + 1
  pub due : new.due ≡ old.due

-- one mark more is known
pub record IsMarked (old : State) (mark : ℕ) (new : State) : Type 0 where
  pub key : new.key ≡ old.key
  pub kept : new.kept ≡ old.kept
  pub marks : new.marks ≡ insert_key nat_cmp old.marks mark
  pub next : new.next ≡ old.next
  pub due : new.due ≡ old.due
