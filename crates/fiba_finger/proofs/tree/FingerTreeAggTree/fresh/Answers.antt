-- A tree without nodes.
use Rattle.fiba_nodes.specs.Trees.{plain}
use Rattle.fiba_nodes.proofs.Fullness.{full_none}
use Rattle.fiba_nodes.proofs.Opened.{no_pairs}
use Rattle.std.proofs.Common.{true, arith, refl}
use Rattle.fiba_nodes.proofs.Tops.{arena_fresh}
use Rattle.fiba_finger.proofs.tree.FingerTreeAggTree.fresh.Goals as goal

pub invariant_of-result : goal.invariant_of-result
invariant_of-result g c = record { arena = arena_fresh g.M.Monoid.is_value g.M.Monoid.empty g.M.Monoid.op true true c.new.result c.new.ensures; first = λ b e. absurd (omega arith); last = λ b e. absurd (omega arith) }

pub returns-clause-empty : goal.returns-clause-empty
returns-clause-empty g c = no_pairs (plain c.new.result) 0 0 refl

pub returns-clause-full : goal.returns-clause-full
returns-clause-full g c = full_none c.new.result c.new.ensures
