-- The nodes stay, and there is room for more.
use Rattle.std.proofs.Common.{true, arith, ap, sym, ◌∙◌}
use Rattle.fiba_nodes.specs.Trees.{plain}
use Rattle.fiba_finger.specs.Edges.{edge, left_edge}
use Rattle.fiba_nodes.proofs.Fullness.{full_kept}
use Rattle.fiba_nodes.proofs.Tops.{arena_roomier, size_kept}
use Rattle.fiba_finger.proofs.tree.FingerTreeAggTree.reserve.Goals as goal

pub invariant_of-self : goal.invariant_of-self
invariant_of-self g c =
    let m = g.M.Monoid in
    let a = c.self.invariant.arena in
    let s = size_kept m.is_value m.empty m.op true true c.self.inside.nodes c.reserve.new.self c.self.inside.root c.reserve.ensures.kept in
    record { arena = arena_roomier m.is_value m.empty m.op true true c.self.inside.nodes c.reserve.new.self c.self.inside.root c.self.inside.count c.self.inside.limit c.self.inside.limit c.reserve.ensures.kept a a.within (omega (arith, s, a.room, c.reserve.ensures.spare)) (omega (arith, c.self.ranges)); first = λ b e. c.self.invariant.first b e ∙ ap (λ cs. left_edge (plain (record { cells = cs; spare = c.self.inside.nodes.spare })) b c.self.inside.root.at) (sym c.reserve.ensures.kept); last = λ b e. c.self.invariant.last b e ∙ ap (λ cs. edge (plain (record { cells = cs; spare = c.self.inside.nodes.spare })) b c.self.inside.root.at) (sym c.reserve.ensures.kept) }

pub invariant_of-self-then-self-limit : goal.invariant_of-self-then-self-limit
invariant_of-self-then-self-limit g c =
    let m = g.M.Monoid in
    let a = c.self.invariant.arena in
    record { arena = arena_roomier m.is_value m.empty m.op true true c.self.inside.nodes c.reserve.new.self c.self.inside.root c.self.inside.count c.self.inside.limit c.in-Some.limit c.reserve.ensures.kept a (omega (arith, a.within, c.if-self-limit.true)) (omega (arith, c.in_ok-reserve.ensures.room)) (omega (arith, c.self.ranges)); first = λ b e. c.self.invariant.first b e ∙ ap (λ cs. left_edge (plain (record { cells = cs; spare = c.self.inside.nodes.spare })) b c.self.inside.root.at) (sym c.reserve.ensures.kept); last = λ b e. c.self.invariant.last b e ∙ ap (λ cs. edge (plain (record { cells = cs; spare = c.self.inside.nodes.spare })) b c.self.inside.root.at) (sym c.reserve.ensures.kept) }

pub invariant_of-self-else-self-limit : goal.invariant_of-self-else-self-limit
invariant_of-self-else-self-limit g c =
    let m = g.M.Monoid in
    let a = c.self.invariant.arena in
    let s = size_kept m.is_value m.empty m.op true true c.self.inside.nodes c.reserve.new.self c.self.inside.root c.reserve.ensures.kept in
    record { arena = arena_roomier m.is_value m.empty m.op true true c.self.inside.nodes c.reserve.new.self c.self.inside.root c.self.inside.count c.self.inside.limit c.self.inside.limit c.reserve.ensures.kept a a.within (omega (arith, s, a.room, c.reserve.ensures.spare)) (omega (arith, c.self.ranges)); first = λ b e. c.self.invariant.first b e ∙ ap (λ cs. left_edge (plain (record { cells = cs; spare = c.self.inside.nodes.spare })) b c.self.inside.root.at) (sym c.reserve.ensures.kept); last = λ b e. c.self.invariant.last b e ∙ ap (λ cs. edge (plain (record { cells = cs; spare = c.self.inside.nodes.spare })) b c.self.inside.root.at) (sym c.reserve.ensures.kept) }

pub returns-in_err-reserve-clause-full : goal.returns-in_err-reserve-clause-full
returns-in_err-reserve-clause-full g c =
    full_kept c.self.inside.nodes c.reserve.new.self c.reserve.ensures.kept ∙ ap (λ v. v.full) c.self.view_is

pub returns-then-self-limit-clause-full : goal.returns-then-self-limit-clause-full
returns-then-self-limit-clause-full g c =
    full_kept c.self.inside.nodes c.reserve.new.self c.reserve.ensures.kept ∙ ap (λ v. v.full) c.self.view_is

pub returns-else-self-limit-clause-full : goal.returns-else-self-limit-clause-full
returns-else-self-limit-clause-full g c =
    full_kept c.self.inside.nodes c.reserve.new.self c.reserve.ensures.kept ∙ ap (λ v. v.full) c.self.view_is
