-- The names that a log holds.
use Rattle.std.specs.Prelude.{◌++◌, ℕ, List, [], ◌∷◌}
use Rattle.outside.specs.declared.name_log.NameLog.{NameLog}
use Rattle.outside.specs.declared.name_log.NameLog.TheVariants.{Start, After'}

-- the names, oldest first
abbrev pub names_in : NameLog → List (List ℕ)
names_in Start = []
names_in (After' m before name) = names_in before ++ name.bytes ∷ []
