-- The changes under the entries so far, and those that wait.
use Rattle.std.specs.Prelude.{◌≡◌, ℕ, [], min, vec_capacity}
use Rattle.shard_core.specs.declared.told.Told.{Told}

-- no change waits
abbrev pub IsSettled : Told → Type 0
IsSettled told = told.waiting.items ≡ []

-- for how many changes there is room, also while they wait
abbrev pub spare_of : Told → ℕ
spare_of told = min told.log.spare (vec_capacity told.waiting)
