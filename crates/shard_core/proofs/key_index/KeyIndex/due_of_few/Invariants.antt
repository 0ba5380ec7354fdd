-- The places so far, with those that are left, are all that are due.
use Rattle.std.proofs.Common.{◌≡◌, ◌++◌, get_or}
use Rattle.std.specs.Prelude.{nat_le}
use Rattle.std.specs.List.{filter}
use Rattle.std.specs.Map.{values_of}
use Rattle.shard_core.proofs.key_index.KeyIndex.due_of_few.Given as goal

abbrev pub invariant-loop-place : goal.invariant-loop-place
invariant-loop-place l = l.places.items ++ l.place-iterator ≡ filter (λ p. nat_le (get_or l.dues.items p 0) l.water) (values_of l.self)
