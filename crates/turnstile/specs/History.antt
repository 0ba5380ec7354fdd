-- Lists of items that several passes make, each item with the number of its pass.
use Rattle.std.specs.Prelude.{◌≡◌, ◌==◌, ◌≤◌, ℕ, List, ◌++◌, length, map, nat_le, if◌then◌else◌}
use Rattle.std.specs.List.{filter}

-- the items of one number, in order
abbrev pub of_number : {I : Type 0} → ℕ → List (ℕ × I) → List I
of_number n list = map (λ e. e.1) (filter (λ e. e.0 == n) list)

-- these items, each with this number
abbrev pub by_number : {I : Type 0} → ℕ → List I → List (ℕ × I)
by_number n xs = map (λ x. (n, x)) xs

-- the list begins with what was seen
abbrev pub BeginsWith : {X : Type 0} → List X → List X → Type 0
BeginsWith list seen = (rest : List _) × (list ≡ seen ++ rest)

-- the longer of two lists
abbrev pub longer : {X : Type 0} → List X → List X → List X
longer a b = if nat_le (length a) (length b) then b else a

-- at most one item is added, at the end and with this number
abbrev pub AddsAtMostOne : {I : Type 0} → ℕ → List (ℕ × I) → List (ℕ × I) → Type 0
AddsAtMostOne {I} number before after =
    (added : List I) × (length added ≤ 1) × (after ≡ before ++ by_number number added)
