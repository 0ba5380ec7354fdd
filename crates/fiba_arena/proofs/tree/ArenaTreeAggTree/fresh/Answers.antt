-- A tree without nodes.
use Rattle.fiba_nodes.specs.Trees.{plain}
use Rattle.fiba_nodes.proofs.Opened.{no_pairs}
use Rattle.std.proofs.Common.{false, refl}
use Rattle.fiba_nodes.proofs.Tops.{arena_fresh}
use Rattle.fiba_arena.proofs.tree.ArenaTreeAggTree.fresh.Goals as goal

pub invariant_of-result : goal.invariant_of-result
invariant_of-result g c = arena_fresh g.M.Monoid.is_value g.M.Monoid.empty g.M.Monoid.op false false c.new.result c.new.ensures

pub returns-clause-empty : goal.returns-clause-empty
returns-clause-empty g c = no_pairs (plain c.new.result) 0 0 refl
