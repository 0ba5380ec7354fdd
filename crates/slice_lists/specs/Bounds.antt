-- How slices show after an edit.
use Rattle.std.specs.Prelude.{◌+◌, ◌-◌, ◌++◌, ℕ, List, [], ◌∷◌, min, max, take, drop}
use Rattle.slice_lists.specs.declared.slice.Slice.{Slice}

-- as a slice of one tuple shows
abbrev pub shown_alone : ℕ → Slice
shown_alone time = record { low = time; high = time; number = 1 }

-- as a slice shows with a tuple more
abbrev pub widened : Slice → ℕ → Slice
widened s time = record { low = min s.low time; high = max s.high time; number = s.number + 1 }

-- as two neighbours show together
abbrev pub both_of : Slice → Slice → Slice
both_of s t = record { low = s.low; high = t.high; number = s.number + t.number }

-- as slices show that have become one with a tuple more: none, one, or two
abbrev pub entered_of : List Slice → ℕ → Slice
entered_of [] time = shown_alone time
entered_of (s ∷ []) time = widened s time
entered_of (s ∷ t ∷ ss) time = widened (both_of s t) time

-- the slices from one place up to another have become one
abbrev pub entered_bounds : ℕ → ℕ → ℕ → List Slice → List Slice
entered_bounds from to time bounds =
    take from bounds ++ entered_of (take (to - from) (drop from bounds)) time ∷ drop to bounds
