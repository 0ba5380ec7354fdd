-- Windows: which instances each kind has, and which of them stand.
use Rattle.std.specs.Prelude.{◌+◌, ◌-◌, ◌*◌, ◌/◌, ◌&&◌, ℕ, Bool, List, [], ◌∷◌, ◌++◌, length, take, drop, map, filter, if◌then◌else◌, nat_lt, nat_le}
use Rattle.std.specs.List.{flat_map, range_with_len}
use Rattle.std.specs.Ordering.{nat_cmp}
use Rattle.stream_base.specs.declared.limits.TheConstants.{FINAL}
use Rattle.stream_base.specs.declared.kept.Kept.{Kept}
use Rattle.stream_base.specs.declared.kind.Kind.{Kind}
use Rattle.stream_base.specs.declared.kind.Kind.TheVariants.{Tumbling, Sliding, Session, Marks, Events}
use Rattle.stream_base.specs.Model.Journal.{rising}

-- an instance of a window: its start and end, the bound that the watermark must reach, and the tuples that it selects, in event order
pub record Instance : Type 0 where
  pub low : ℕ
  pub high : ℕ
  pub bound : ℕ
  pub chosen : List Kept

-- a time lies from the start up to the end, which is not in it
abbrev pub is_within : ℕ → ℕ → Kept → Bool
is_within low high x = nat_le low x.time && nat_lt x.time high

-- the tuples whose times lie in an interval
abbrev pub within : ℕ → ℕ → List Kept → List Kept
within low high kept = filter (is_within low high) kept

-- the instance over an interval
abbrev pub interval : ℕ → ℕ → List Kept → Instance
interval low high kept = record { low = low; high = high; bound = high; chosen = within low high kept }

-- the multiples of the slide whose intervals of this length hold the time
abbrev pub starts_holding : ℕ → ℕ → ℕ → List ℕ
starts_holding length slide time =
    let first = (time + slide - length) / slide in
    map (λ k. k * slide) (range_with_len first (time / slide + 1 - first))

-- the starts of the intervals that hold a kept tuple, each once, rising
abbrev pub starts_of : ℕ → ℕ → List Kept → List ℕ
starts_of length slide kept = rising nat_cmp (flat_map (λ x. starts_holding length slide x.time) kept)

-- the intervals of a tumbling or sliding window that hold a kept tuple
abbrev pub spans : ℕ → ℕ → List Kept → List Instance
spans length slide kept = map (λ low. interval low (low + length) kept) (starts_of length slide kept)

-- a piece that begins with this element, in front of the other pieces: the element joins the first of them unless there is a cut between the two
abbrev pub glued : {X : Type 0} → (X → X → Bool) → X → List (List X) → List (List X)
glued cut x [] = (x ∷ []) ∷ []
glued cut x ([] ∷ pieces) = (x ∷ []) ∷ pieces
glued cut x ((y ∷ ys) ∷ pieces) = if cut x y then (x ∷ []) ∷ (y ∷ ys) ∷ pieces else (x ∷ y ∷ ys) ∷ pieces

-- the maximal pieces of a list with no cut between neighbours
abbrev pub pieces_of : {X : Type 0} → (X → X → Bool) → List X → List (List X)
pieces_of cut [] = []
pieces_of cut (x ∷ xs) = glued cut x (pieces_of cut xs)

-- the time of the first tuple, and of the last
abbrev pub first_time : List Kept → ℕ
first_time [] = 0
first_time (x ∷ xs) = x.time

abbrev pub last_time : List Kept → ℕ
last_time [] = 0
last_time (x ∷ []) = x.time
last_time (x ∷ y ∷ ys) = last_time (y ∷ ys)

-- the session of a run of tuples: from its first time to the gap behind its last
abbrev pub session : ℕ → List Kept → Instance
session gap run = record { low = first_time run; high = last_time run + gap; bound = last_time run + gap; chosen = run }

-- the sessions: kept is cut where neighbours are at least the gap apart
abbrev pub sessions : ℕ → List Kept → List Instance
sessions gap kept = map (session gap) (pieces_of (λ x y. nat_le gap (y.time - x.time)) kept)

-- an interval is an instance where it selects a tuple
abbrev pub is_selecting : Instance → Bool
is_selecting i = nat_lt 0 (length i.chosen)

-- the intervals between successive times
abbrev pub between_times : List ℕ → List Kept → List Instance
between_times [] kept = []
between_times (a ∷ []) kept = []
between_times (a ∷ b ∷ times) kept = interval a b kept ∷ between_times (b ∷ times) kept

-- the intervals between successive times of 0, the marks and the final time, that select a tuple
abbrev pub stretches : List ℕ → List Kept → List Instance
stretches marks kept = filter is_selecting (between_times (rising nat_cmp (0 ∷ marks ++ FINAL ∷ [])) kept)

-- the i-th run of so many tuples: its start and end are ranks, and its bound is the time of its last tuple
abbrev pub ranks : ℕ → List Kept → ℕ → Instance
ranks count kept i =
    let run = take count (drop (i * count) kept) in
    record { low = i * count; high = (i + 1) * count; bound = last_time run; chosen = run }

-- the runs of so many tuples that are all there
abbrev pub counted : ℕ → List Kept → List Instance
counted count kept = map (ranks count kept) (range_with_len 0 (length kept / count))

-- the instances of a window of one key, given what is kept of the key and its marks
unfoldable pub instances_of : Kind → List Kept → List ℕ → List Instance
instances_of (Tumbling length) kept marks = spans length length kept
instances_of (Sliding length slide) kept marks = spans length slide kept
instances_of (Session gap) kept marks = sessions gap kept
instances_of Marks kept marks = stretches marks kept
instances_of (Events count) kept marks = counted count kept

-- an instance is complete where the watermark has reached its bound
abbrev pub is_complete : ℕ → Instance → Bool
is_complete water i = nat_le i.bound water

-- the instances that stand: those that are complete
abbrev pub standing_of : Kind → List Kept → List ℕ → ℕ → List Instance
standing_of kind kept marks water = filter (is_complete water) (instances_of kind kept marks)
