-- What becomes of slices where a tuple comes.
use Rattle.std.specs.Prelude.{All, ◌≡◌, ◌≤◌, ◌<◌, ◌++◌, ◌⊎◌, ◌&&◌, ℕ, Bool, filter, nat_le, nat_lt, if◌then◌else◌, true, false, List, [], ◌∷◌}
use Rattle.stream_base.specs.declared.kept.Kept.{Kept}
use Rattle.stream_base.specs.Model.Journal.{put_in_order}
use Rattle.stream_base.specs.Model.Windows.{first_time, last_time}

-- the tuple becomes a slice of its own
pub record IsAdded (old : List (List Kept)) (x : Kept) (new : List (List Kept)) : Type 0 where
  pub before : List (List Kept)
  pub behind : List (List Kept)
  pub was : old ≡ before ++ behind
  pub is : new ≡ before ++ (x ∷ []) ∷ behind

-- the tuple enters one slice, at its place in event order
pub record IsEntered (old : List (List Kept)) (x : Kept) (new : List (List Kept)) : Type 0 where
  pub before : List (List Kept)
  pub run : List Kept
  pub behind : List (List Kept)
  pub was : old ≡ before ++ run ∷ behind
  pub is : new ≡ before ++ put_in_order run x ∷ behind

-- the tuple stands between two neighbouring slices and joins them
pub record IsMerged (old : List (List Kept)) (x : Kept) (new : List (List Kept)) : Type 0 where
  pub before : List (List Kept)
  pub run : List Kept
  pub next : List Kept
  pub behind : List (List Kept)
  pub was : old ≡ before ++ run ∷ next ∷ behind
  pub is : new ≡ before ++ (run ++ x ∷ next) ∷ behind

-- the tuple is added, enters a slice, or merges two
abbrev pub IsPutInRuns : List (List Kept) → Kept → List (List Kept) → Type 0
IsPutInRuns old x new = IsAdded old x new ⊎ (IsEntered old x new ⊎ IsMerged old x new)

-- a list of tuples, of which any two neighbours are near, told by their times
abbrev pub IsRun : (ℕ → ℕ → Type 0) → List Kept → Type 0
IsRun near [] = ⊥
IsRun near (x ∷ []) = Unit {0}
IsRun near (x ∷ y ∷ ys) = near x.time y.time × IsRun near (y ∷ ys)

-- the last tuple of a run and the first of the next run, if there is one, are apart
abbrev pub IsPartFrom : (ℕ → ℕ → Type 0) → List Kept → List (List Kept) → Type 0
IsPartFrom apart run [] = Unit {0}
IsPartFrom apart run (next ∷ runs) = apart (last_time run) (first_time next)

-- neighbours are near inside each run, and apart from one run to the next
abbrev pub AreParted : (ℕ → ℕ → Type 0) → (ℕ → ℕ → Type 0) → List (List Kept) → Type 0
AreParted near apart [] = Unit {0}
AreParted near apart (run ∷ runs) =
    IsRun near run × IsPartFrom apart run runs × AreParted near apart runs

-- the last of some runs and the first of others are apart
abbrev pub ArePartFrom : (ℕ → ℕ → Type 0) → List (List Kept) → List (List Kept) → Type 0
ArePartFrom apart [] others = Unit {0}
ArePartFrom apart (run ∷ []) others = IsPartFrom apart run others
ArePartFrom apart (run ∷ next ∷ runs) others = ArePartFrom apart (next ∷ runs) others

-- there is no cut inside a slice, and a cut behind each but the last
abbrev pub AreRuns : (ℕ → ℕ → Bool) → List (List Kept) → Type 0
AreRuns cut slices = AreParted (λ a b. cut a b ≡ false) (λ a b. cut a b ≡ true) slices

-- times don't fall inside a slice, and rise from one slice to the next
abbrev pub AreInOrder : List (List Kept) → Type 0
AreInOrder slices = AreParted (λ a b. a ≤ b) (λ a b. a < b) slices

-- a run in two parts where it has tuples before a time and from it on, and else whole
abbrev pub parted_at : ℕ → List Kept → List (List Kept)
parted_at time run =
    if nat_lt (first_time run) time && nat_le time (last_time run)
    then filter (λ x. nat_lt x.time time) run ∷ filter (λ x. nat_le time x.time) run ∷ []
    else run ∷ []

-- the runs that begin in an interval
abbrev pub runs_within : ℕ → ℕ → List (List Kept) → List (List Kept)
runs_within low high runs =
    filter (λ run. nat_le low (first_time run) && nat_lt (first_time run) high) runs

-- no run has tuples on both sides of a time
abbrev pub IsAligned : List (List Kept) → ℕ → Type 0
IsAligned runs time = All (λ run. (last_time run < time) ⊎ (time ≤ first_time run)) runs
