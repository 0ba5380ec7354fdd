-- The values of tuples.
use Rattle.std.specs.Prelude.{ℤ, List, map}
use Rattle.stream_base.specs.declared.kept.Kept.{Kept}

-- the values of tuples
abbrev pub values_of : List Kept → List ℤ
values_of kept = map (λ x. x.value) kept
