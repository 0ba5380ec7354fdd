-- The first child settles, and then the node is as after a change of its first child.
use Rattle.std.proofs.Common.{◌≡◌, ◌+◌, ◌-◌, true, suc, [], Some, IsSome, length, refl, arith, sym, ap, subst, ◌∙◌}
use Rattle.fiba_nodes.specs.declared.change.Change.TheVariants.{First}
use Rattle.fiba_nodes.specs.Rows.{last_of, listed, slots_of}
use Rattle.fiba_nodes.specs.Stores.{held, look}
use Rattle.fiba_nodes.specs.Trees.{Moves, only, plain, row_times, times}
use Rattle.fiba_nodes.specs.Kids.{kid_of}
use Rattle.fiba_nodes.proofs.Opened.{is_there}
use Rattle.fiba_nodes.proofs.Fullness.{held_is}
use Rattle.fiba_nodes.proofs.Below.{descended_at, kid_nested_at, node_is}
use Rattle.fiba_finger.specs.Pulls.{IsBare, IsDrained}
use Rattle.fiba_finger.proofs.Pulling.{above_stays, closed, drained, first_done, full_less, none_map, passed_first, rank_first, some_map}
use Rattle.fiba_finger.proofs.draining.mend.Goals as goal

pub peek-requires : goal.peek-requires
peek-requires g c =
    let m = g.M.Monoid in
    let now = c.args.nodes.now in
    let at = c.args.at in
    let old = c.requires.hung.0 in
    let h = c.requires.hung.1 in
    let lower : c.args.below ≡ suc (c.args.below - 1) = let i = h.inner in omega arith in
    let node = h.node in
    let kid = kid_of (slots_of node) (last_of node) 0 in
    let d = h.drained in
    let stays : look now at ≡ look old at = above_stays m.is_value m.empty m.op old now at c.args.below c.args.right node kid (c.args.below - 1) (λ k. only k kid + row_times k (plain now) (c.args.below - 1) [] c.args.last) lower refl h.can h.found (subst (λ b. Moves (look old) (look now) (λ k. times k (plain old) b kid) (λ k. only k kid + row_times k (plain now) (c.args.below - 1) [] c.args.last)) (sym lower) d.applied.moves) in
    subst (λ o. IsSome o) (sym stays) (is_there m.is_value m.empty m.op old (suc c.args.below) true c.args.right at (omega arith) h.can.sound)

pub settle-open-requires-clause-nested : goal.settle-open-requires-clause-nested
settle-open-requires-clause-nested g c =
    let m = g.M.Monoid in
    let now = c.args.nodes.now in
    let at = c.args.at in
    let old = c.requires.hung.0 in
    let h = c.requires.hung.1 in
    let lower : c.args.below ≡ suc (c.args.below - 1) = let i = h.inner in omega arith in
    let node = h.node in
    let kid = kid_of (slots_of node) (last_of node) 0 in
    let d = h.drained in
    let stays : look now at ≡ look old at = above_stays m.is_value m.empty m.op old now at c.args.below c.args.right node kid (c.args.below - 1) (λ k. only k kid + row_times k (plain now) (c.args.below - 1) [] c.args.last) lower refl h.can h.found (subst (λ b. Moves (look old) (look now) (λ k. times k (plain old) b kid) (λ k. only k kid + row_times k (plain now) (c.args.below - 1) [] c.args.last)) (sym lower) d.applied.moves) in
    let slots = listed c.opened.result.slots in
    let last = c.opened.result.last in
    let node2 = c.peek.result.now in
    let found : look old at ≡ Some node2 = sym stays ∙ c.peek.ensures.found in
    let same : node ≡ node2 = let e : Some node ≡ Some node2 = sym h.found ∙ found in cc in
    let read = node_is old at node2 slots last found c.opened.ensures.slots c.opened.ensures.last in
    let fits = c.opened.ensures.few in
    let done = first_done m.is_value m.empty m.op old now (c.args.below - 1) c.args.right node2 slots last kid d.taken c.args.last c.opened.ensures.slots (ap (λ n. kid_of (slots_of n) (last_of n) 0) same) d.applied in
    kid_nested_at m.is_value m.empty m.op old at c.args.below (c.args.below - 1) true c.args.right First slots last node2.agg node2.leaf lower h.can read fits 0 now First d.taken [] c.args.last (omega arith) done (omega arith)

pub keep-requires-clause-opened : goal.keep-requires-clause-opened
keep-requires-clause-opened g c =
    let m = g.M.Monoid in
    let now = c.args.nodes.now in
    let at = c.args.at in
    let old = c.requires.hung.0 in
    let h = c.requires.hung.1 in
    let lower : c.args.below ≡ suc (c.args.below - 1) = let i = h.inner in omega arith in
    let node = h.node in
    let kid = kid_of (slots_of node) (last_of node) 0 in
    let d = h.drained in
    let stays : look now at ≡ look old at = above_stays m.is_value m.empty m.op old now at c.args.below c.args.right node kid (c.args.below - 1) (λ k. only k kid + row_times k (plain now) (c.args.below - 1) [] c.args.last) lower refl h.can h.found (subst (λ b. Moves (look old) (look now) (λ k. times k (plain old) b kid) (λ k. only k kid + row_times k (plain now) (c.args.below - 1) [] c.args.last)) (sym lower) d.applied.moves) in
    let slots = listed c.opened.result.slots in
    let last = c.opened.result.last in
    let node2 = c.peek.result.now in
    let found : look old at ≡ Some node2 = sym stays ∙ c.peek.ensures.found in
    let same : node ≡ node2 = let e : Some node ≡ Some node2 = sym h.found ∙ found in cc in
    let read = node_is old at node2 slots last found c.opened.ensures.slots c.opened.ensures.last in
    let fits = c.opened.ensures.few in
    let done = first_done m.is_value m.empty m.op old now (c.args.below - 1) c.args.right node2 slots last kid d.taken c.args.last c.opened.ensures.slots (ap (λ n. kid_of (slots_of n) (last_of n) 0) same) d.applied in
    let a = descended_at m.is_value m.empty m.op old at c.args.below (c.args.below - 1) true c.args.right First slots last node2.agg node2.leaf lower h.can read fits 0 now c.settle-open.new.nodes d.taken [] c.args.last (listed c.settle-open.result.slots) c.settle-open.result.last (rank_first slots) (passed_first slots) done c.settle-open.ensures.settled in
    a.opened

pub keep-requires-clause-there : goal.keep-requires-clause-there
keep-requires-clause-there g c =
    let m = g.M.Monoid in
    let now = c.args.nodes.now in
    let at = c.args.at in
    let old = c.requires.hung.0 in
    let h = c.requires.hung.1 in
    let lower : c.args.below ≡ suc (c.args.below - 1) = let i = h.inner in omega arith in
    let node = h.node in
    let kid = kid_of (slots_of node) (last_of node) 0 in
    let d = h.drained in
    let stays : look now at ≡ look old at = above_stays m.is_value m.empty m.op old now at c.args.below c.args.right node kid (c.args.below - 1) (λ k. only k kid + row_times k (plain now) (c.args.below - 1) [] c.args.last) lower refl h.can h.found (subst (λ b. Moves (look old) (look now) (λ k. times k (plain old) b kid) (λ k. only k kid + row_times k (plain now) (c.args.below - 1) [] c.args.last)) (sym lower) d.applied.moves) in
    let slots = listed c.opened.result.slots in
    let last = c.opened.result.last in
    let node2 = c.peek.result.now in
    let found : look old at ≡ Some node2 = sym stays ∙ c.peek.ensures.found in
    let same : node ≡ node2 = let e : Some node ≡ Some node2 = sym h.found ∙ found in cc in
    let read = node_is old at node2 slots last found c.opened.ensures.slots c.opened.ensures.last in
    let fits = c.opened.ensures.few in
    let done = first_done m.is_value m.empty m.op old now (c.args.below - 1) c.args.right node2 slots last kid d.taken c.args.last c.opened.ensures.slots (ap (λ n. kid_of (slots_of n) (last_of n) 0) same) d.applied in
    let a = descended_at m.is_value m.empty m.op old at c.args.below (c.args.below - 1) true c.args.right First slots last node2.agg node2.leaf lower h.can read fits 0 now c.settle-open.new.nodes d.taken [] c.args.last (listed c.settle-open.result.slots) c.settle-open.result.last (rank_first slots) (passed_first slots) done c.settle-open.ensures.settled in
    subst (λ o. IsSome o) (sym a.stays) (is_there m.is_value m.empty m.op old (suc c.args.below) true c.args.right at (omega arith) h.can.sound)

pub returns-clause-pulls : goal.returns-clause-pulls
returns-clause-pulls g c old h =
    let m = g.M.Monoid in
    let now = c.args.nodes.now in
    let at = c.args.at in
    let lower : c.args.below ≡ suc (c.args.below - 1) = let i = h.inner in omega arith in
    let node = h.node in
    let kid = kid_of (slots_of node) (last_of node) 0 in
    let d = h.drained in
    let stays : look now at ≡ look old at = above_stays m.is_value m.empty m.op old now at c.args.below c.args.right node kid (c.args.below - 1) (λ k. only k kid + row_times k (plain now) (c.args.below - 1) [] c.args.last) lower refl h.can h.found (subst (λ b. Moves (look old) (look now) (λ k. times k (plain old) b kid) (λ k. only k kid + row_times k (plain now) (c.args.below - 1) [] c.args.last)) (sym lower) d.applied.moves) in
    let slots = listed c.opened.result.slots in
    let last = c.opened.result.last in
    let node2 = c.peek.result.now in
    let found : look old at ≡ Some node2 = sym stays ∙ c.peek.ensures.found in
    let same : node ≡ node2 = let e : Some node ≡ Some node2 = sym h.found ∙ found in cc in
    let read = node_is old at node2 slots last found c.opened.ensures.slots c.opened.ensures.last in
    let fits = c.opened.ensures.few in
    let done = first_done m.is_value m.empty m.op old now (c.args.below - 1) c.args.right node2 slots last kid d.taken c.args.last c.opened.ensures.slots (ap (λ n. kid_of (slots_of n) (last_of n) 0) same) d.applied in
    let a = descended_at m.is_value m.empty m.op old at c.args.below (c.args.below - 1) true c.args.right First slots last node2.agg node2.leaf lower h.can read fits 0 now c.settle-open.new.nodes d.taken [] c.args.last (listed c.settle-open.result.slots) c.settle-open.result.last (rank_first slots) (passed_first slots) done c.settle-open.ensures.settled in
    record {
      whole = none_map c.keep.result (closed m.is_value m.empty m.op old c.settle-open.new.nodes c.keep.new.nodes at c.args.below c.args.right d.taken (listed c.settle-open.result.slots) c.settle-open.result.last a) c.keep.ensures.kept;
      drained = some_map (λ kid. IsBare c.settle-open.new.nodes c.keep.new.nodes (listed c.settle-open.result.slots) c.settle-open.result.last kid) (λ kid. IsDrained m.is_value m.empty m.op old c.keep.new.nodes at c.args.below c.args.right kid) c.keep.result (drained m.is_value m.empty m.op old c.settle-open.new.nodes c.keep.new.nodes at c.args.below c.args.right d.taken (listed c.settle-open.result.slots) c.settle-open.result.last a) c.keep.ensures.bare;
    }

pub returns-clause-full : goal.returns-clause-full
returns-clause-full g c =
    let m = g.M.Monoid in
    let now = c.args.nodes.now in
    let at = c.args.at in
    let old = c.requires.hung.0 in
    let h = c.requires.hung.1 in
    let lower : c.args.below ≡ suc (c.args.below - 1) = let i = h.inner in omega arith in
    let node = h.node in
    let kid = kid_of (slots_of node) (last_of node) 0 in
    let d = h.drained in
    let stays : look now at ≡ look old at = above_stays m.is_value m.empty m.op old now at c.args.below c.args.right node kid (c.args.below - 1) (λ k. only k kid + row_times k (plain now) (c.args.below - 1) [] c.args.last) lower refl h.can h.found (subst (λ b. Moves (look old) (look now) (λ k. times k (plain old) b kid) (λ k. only k kid + row_times k (plain now) (c.args.below - 1) [] c.args.last)) (sym lower) d.applied.moves) in
    let slots = listed c.opened.result.slots in
    let last = c.opened.result.last in
    let node2 = c.peek.result.now in
    let found : look old at ≡ Some node2 = sym stays ∙ c.peek.ensures.found in
    let same : node ≡ node2 = let e : Some node ≡ Some node2 = sym h.found ∙ found in cc in
    let read = node_is old at node2 slots last found c.opened.ensures.slots c.opened.ensures.last in
    let fits = c.opened.ensures.few in
    let done = first_done m.is_value m.empty m.op old now (c.args.below - 1) c.args.right node2 slots last kid d.taken c.args.last c.opened.ensures.slots (ap (λ n. kid_of (slots_of n) (last_of n) 0) same) d.applied in
    let a = descended_at m.is_value m.empty m.op old at c.args.below (c.args.below - 1) true c.args.right First slots last node2.agg node2.leaf lower h.can read fits 0 now c.settle-open.new.nodes d.taken [] c.args.last (listed c.settle-open.result.slots) c.settle-open.result.last (rank_first slots) (passed_first slots) done c.settle-open.ensures.settled in
    let own : held (look c.settle-open.new.nodes at) ≡ length slots = held_is (look c.settle-open.new.nodes at) node2 slots (a.stays ∙ found) c.opened.ensures.slots in
    let f = full_less m.is_value m.empty m.op c.settle-open.new.nodes c.keep.new.nodes at c.args.below true c.args.right (listed c.settle-open.result.slots) c.settle-open.result.last c.keep.result c.keep.ensures.kept c.keep.ensures.bare (omega (arith, c.settle-open.ensures.settled.fits)) in
    omega (arith, f, c.settle-open.ensures.full)
