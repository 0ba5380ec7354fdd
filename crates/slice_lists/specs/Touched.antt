-- Which slices a tuple, a mark or a purge touches, and which marks are left.
use Rattle.std.specs.Prelude.{◌||◌, ◌&&◌, ℕ, Bool, not, List, filter, nat_lt, nat_le, if◌then◌else◌}
use Rattle.std.specs.List.{list_any}
use Rattle.stream_base.specs.declared.kept.Kept.{Kept}
use Rattle.stream_base.specs.Model.Windows.{first_time, last_time}

-- a time lies inside a slice, or there is no cut between them
abbrev pub is_near : (ℕ → ℕ → Bool) → ℕ → List Kept → Bool
is_near cut time run =
    if nat_lt time (first_time run) then not (cut time (first_time run)) else nat_lt time (last_time run) || not (cut (last_time run) time)

-- a slice has tuples before a time and from it on
abbrev pub is_across : ℕ → List Kept → Bool
is_across time run = nat_lt (first_time run) time && nat_le time (last_time run)

-- the marks that are left when slices before a time are dropped: a mark goes where another one follows it at or before that time
abbrev pub marks_left : ℕ → List ℕ → List ℕ
marks_left time marks = filter (λ m. not (list_any (λ n. nat_lt m n && nat_le n time) marks)) marks

-- the slices that begin at a time or later
abbrev pub slices_from : ℕ → List (List Kept) → List (List Kept)
slices_from time slices = filter (λ run. nat_le time (first_time run)) slices
