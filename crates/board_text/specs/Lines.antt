-- The parts of a read's line.
use Rattle.std.specs.Prelude.{◌++◌, ℕ, List, ◌∷◌, codes, decimal}
use Rattle.std.specs.List.{flat_map}

-- its front: the reader, and the number of entries
abbrev pub read_front : ℕ → ℕ → List ℕ
read_front reader entries = codes "b" ++ (32 ∷ (decimal reader ++ (32 ∷ decimal entries)))

-- counts, each with a space in front of it
abbrev pub counts_text : List ℕ → List ℕ
counts_text counts = flat_map (λ n. 32 ∷ decimal n) counts
