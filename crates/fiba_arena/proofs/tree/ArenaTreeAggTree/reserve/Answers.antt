-- The nodes stay, and there is room for more.
use Rattle.std.proofs.Common.{false, arith}
use Rattle.fiba_nodes.proofs.Tops.{arena_roomier, size_kept}
use Rattle.fiba_arena.proofs.tree.ArenaTreeAggTree.reserve.Goals as goal

pub invariant_of-self : goal.invariant_of-self
invariant_of-self g c =
    let m = g.M.Monoid in
    let a = c.self.invariant in
    let s = size_kept m.is_value m.empty m.op false false c.self.inside.nodes c.reserve.new.self c.self.inside.root c.reserve.ensures.kept in
    arena_roomier m.is_value m.empty m.op false false c.self.inside.nodes c.reserve.new.self c.self.inside.root c.self.inside.count c.self.inside.limit c.self.inside.limit c.reserve.ensures.kept a a.within (omega (arith, s, a.room, c.reserve.ensures.spare)) (omega (arith, c.self.ranges))

pub invariant_of-self-then-self-limit : goal.invariant_of-self-then-self-limit
invariant_of-self-then-self-limit g c =
    let m = g.M.Monoid in
    let a = c.self.invariant in
    arena_roomier m.is_value m.empty m.op false false c.self.inside.nodes c.reserve.new.self c.self.inside.root c.self.inside.count c.self.inside.limit c.in-Some.limit c.reserve.ensures.kept a (omega (arith, a.within, c.if-self-limit.true)) (omega (arith, c.in_ok-reserve.ensures.room)) (omega (arith, c.self.ranges))

pub invariant_of-self-else-self-limit : goal.invariant_of-self-else-self-limit
invariant_of-self-else-self-limit g c =
    let m = g.M.Monoid in
    let a = c.self.invariant in
    let s = size_kept m.is_value m.empty m.op false false c.self.inside.nodes c.reserve.new.self c.self.inside.root c.reserve.ensures.kept in
    arena_roomier m.is_value m.empty m.op false false c.self.inside.nodes c.reserve.new.self c.self.inside.root c.self.inside.count c.self.inside.limit c.self.inside.limit c.reserve.ensures.kept a a.within (omega (arith, s, a.room, c.reserve.ensures.spare)) (omega (arith, c.self.ranges))
