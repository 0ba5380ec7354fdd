-- The leaf is written without its first item, if it has another one.
use Rattle.std.proofs.Common.{◌≡◌, drop, suc, Some, length, true, ap, ◌∙◌, arith}
use Rattle.fiba_nodes.specs.Rows.{listed, more_slots}
use Rattle.fiba_nodes.specs.Stores.{held, look}
use Rattle.fiba_nodes.proofs.Opened.{is_there}
use Rattle.fiba_finger.specs.Pulls.{IsBare, IsDrained}
use Rattle.fiba_finger.proofs.Pulling.{closed, drained, full_less, leaf_first, none_map, some_map}
use Rattle.fiba_finger.proofs.draining.pull_leaf.Goals as goal

pub peek-requires : goal.peek-requires
peek-requires g c =
    let m = g.M.Monoid in
    is_there m.is_value m.empty m.op c.args.nodes.now 1 true c.args.right c.args.at (omega arith) c.requires.sound

pub keep-requires-clause-opened : goal.keep-requires-clause-opened
keep-requires-clause-opened g c =
    let m = g.M.Monoid in
    let node = c.peek.result.now in
    let row : listed c.rest.result ≡ more_slots node.second node.third node.kids = c.rest.ensures ∙ ap (λ xs. drop 1 xs) c.slots.ensures.slots in
    let a = leaf_first m.is_value m.empty m.op c.args.nodes.now c.args.at c.args.right node (listed c.rest.result) 0 c.requires c.peek.ensures.found row in
    a.opened

pub keep-requires-clause-there : goal.keep-requires-clause-there
keep-requires-clause-there g c =
    let m = g.M.Monoid in
    is_there m.is_value m.empty m.op c.args.nodes.now 1 true c.args.right c.args.at (omega arith) c.requires.sound

pub returns-clause-pulls : goal.returns-clause-pulls
returns-clause-pulls g c =
    let m = g.M.Monoid in
    let node = c.peek.result.now in
    let row : listed c.rest.result ≡ more_slots node.second node.third node.kids = c.rest.ensures ∙ ap (λ xs. drop 1 xs) c.slots.ensures.slots in
    let a = leaf_first m.is_value m.empty m.op c.args.nodes.now c.args.at c.args.right node (listed c.rest.result) 0 c.requires c.peek.ensures.found row in
    record {
      whole = none_map c.keep.result (closed m.is_value m.empty m.op c.args.nodes.now c.args.nodes.now c.keep.new.nodes c.args.at 0 c.args.right (Some node.first) (listed c.rest.result) 0 a) c.keep.ensures.kept;
      drained = some_map (λ kid. IsBare c.args.nodes.now c.keep.new.nodes (listed c.rest.result) 0 kid) (λ kid. IsDrained m.is_value m.empty m.op c.args.nodes.now c.keep.new.nodes c.args.at 0 c.args.right kid) c.keep.result (drained m.is_value m.empty m.op c.args.nodes.now c.args.nodes.now c.keep.new.nodes c.args.at 0 c.args.right (Some node.first) (listed c.rest.result) 0 a) c.keep.ensures.bare;
    }

pub returns-clause-full : goal.returns-clause-full
returns-clause-full g c =
    let m = g.M.Monoid in
    let node = c.peek.result.now in
    let row : listed c.rest.result ≡ more_slots node.second node.third node.kids = c.rest.ensures ∙ ap (λ xs. drop 1 xs) c.slots.ensures.slots in
    let a = leaf_first m.is_value m.empty m.op c.args.nodes.now c.args.at c.args.right node (listed c.rest.result) 0 c.requires c.peek.ensures.found row in
    let own : held (look c.args.nodes.now c.args.at) ≡ suc (length (more_slots node.second node.third node.kids)) = ap held c.peek.ensures.found in
    let few = ap length row in
    full_less m.is_value m.empty m.op c.args.nodes.now c.keep.new.nodes c.args.at 0 true c.args.right (listed c.rest.result) 0 c.keep.result c.keep.ensures.kept c.keep.ensures.bare (omega arith)
