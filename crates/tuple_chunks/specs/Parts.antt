-- Tuples in order, kept in parts one behind another.
use Rattle.std.specs.Prelude.{◌≡◌, ◌≢◌, ◌≤◌, ◌<◌, ◌+◌, ◌++◌, ◌^◌, ◌⊎◌, ℕ, Bool, true, List, [], Option, None, Some, Result, All, IfOk, IfSome, OnOk, OnErr, length, take, slice_index_or}
use Rattle.std.specs.List.{flat_map}
use Rattle.stream_base.specs.declared.kept.Kept.{Kept}
use Rattle.stream_base.specs.Laws.{TimesDoNotFall}
use Rattle.stream_base.specs.Model.Windows.{last_time}
use Rattle.aggregates.specs.Bundled.{Bundled}
use Rattle.tuple_chunks.specs.Sums.{IsKeptSum}

-- no part is empty, and times don't fall over all of them
pub record AreParts {P : Type 0} (tuples_of : P → List Kept) (parts : List P) : Type 0 where
  pub some : All (λ p. 0 < length (tuples_of p)) parts
  pub ordered : TimesDoNotFall (flat_map tuples_of parts)

-- each part but one has room for a tuple more
abbrev pub HaveRoomBut : {P : Type 0} → (P → ℕ) → List P → ℕ → Type 0
HaveRoomBut {P} spare_of parts at = (k : ℕ) (d : P) → k < length parts → k ≢ at → 1 ≤ spare_of (slice_index_or parts k d)

-- each part has room for a tuple more, and one tuple more can be counted
pub record IsReady {P : Type 0} (spare_of : P → ℕ) (parts : List P) (number : ℕ) : Type 0 where
  pub rooms : All (λ p. 1 ≤ spare_of p) parts
  pub counts : number + 1 < 2 ^ 64

-- how a row keeps its parts: their tuples are counted, each part but that entered last has room, and so has that one where the row is ready, and a sum that is kept is that of all
pub record IsRow {P : Type 0} (tuples_of : P → List Kept) (spare_of : P → ℕ) (parts : List P) (number entered : ℕ) (ready : Bool) (sum : Option Bundled) : Type 0 where
  pub holds : AreParts tuples_of parts
  pub some : entered < length parts
  pub counted : number ≡ length (flat_map tuples_of parts)
  pub fits : number < 2 ^ 64
  pub rooms : HaveRoomBut spare_of parts entered
  pub roomy : ready ≡ true → IsReady spare_of parts number
  pub summed : IsKeptSum sum (flat_map tuples_of parts)

-- where a tuple of a time enters: no tuple before that part is of a later time, and it has a tuple of a later time or is the last
pub record IsEntry {P : Type 0} (tuples_of : P → List Kept) (parts : List P) (time at : ℕ) : Type 0 where
  pub within : at < length parts
  pub before : All (λ y. y.time ≤ time) (flat_map tuples_of (take at parts))
  pub behind : (d : P) → (time < last_time (tuples_of (slice_index_or parts at d))) ⊎ (at + 1 ≡ length parts)

-- the tuples of a part that there may be
abbrev pub tuples_in : {P : Type 0} → (P → List Kept) → Option P → List Kept
tuples_in tuples_of None = []
tuples_in tuples_of (Some p) = tuples_of p

-- a part has room for a tuple more: the tuples behind may have gone into a part of their own, which then has room as well
pub record IsSettled {P E : Type 0} (tuples_of : P → List Kept) (spare_of : P → ℕ) (answer : Result (Option P) E) (old new : P) : Type 0 where
  pub whole : IfOk answer (λ back. tuples_of old ≡ tuples_of new ++ tuples_in tuples_of back)
  pub back : IfOk answer (λ back. IfSome back (λ p. (0 < length (tuples_of p)) × (1 ≤ spare_of p)))
  pub room : OnOk answer (1 ≤ spare_of new)
  pub some : 0 < length (tuples_of new)
  pub kept : OnErr answer (tuples_of new ≡ tuples_of old)
