-- The numbers that a log holds.
use Rattle.std.specs.Prelude.{◌++◌, ℕ, List, [], ◌∷◌}
use Rattle.fan_in.specs.declared.number_log.NumberLog.{NumberLog}
use Rattle.fan_in.specs.declared.number_log.NumberLog.TheVariants.{Start, After'}

-- the numbers, oldest first
abbrev pub numbers_in : NumberLog → List ℕ
numbers_in Start = []
numbers_in (After' m before number) = numbers_in before ++ number.value ∷ []
