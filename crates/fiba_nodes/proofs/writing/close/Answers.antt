-- The last item is a node of its own, the one before it goes up, and the others stay.
use Rattle.std.proofs.Common.{◌≡◌, ◌-◌, ◌++◌, ◌∷◌, subst}
use Rattle.fiba_nodes.specs.Rows.{listed}
use Rattle.fiba_nodes.specs.Trees.{IsOpened}
use Rattle.fiba_nodes.proofs.Lists.{parts_of}
use Rattle.fiba_nodes.proofs.Writes.{back_loose, front_opened, closed_in_two}
use Rattle.fiba_nodes.proofs.writing.close.Goals as goal

pub create-last-requires-clause-loose : goal.create-last-requires-clause-loose
create-last-requires-clause-loose g c =
    let m = g.M.Monoid in
    let slots = listed c.args.open.now.slots in
    let xs = listed c.first.result in
    let s = c.get-middle.result in
    let ys = listed c.rest.result in
    let parts : slots ≡ xs ++ s ∷ ys = parts_of slots xs (c.len-cut.result - 2) s ys c.get-middle.ensures c.first.ensures c.rest.ensures in
    let opened : IsOpened m.is_value m.empty m.op c.args.nodes.now c.args.at c.args.height c.args.place.left c.args.place.right (xs ++ s ∷ ys) c.args.open.now.last = subst (λ l. IsOpened m.is_value m.empty m.op c.args.nodes.now c.args.at c.args.height c.args.place.left c.args.place.right l c.args.open.now.last) parts c.requires.opened in
    rw c.back.ensures (back_loose m.is_value m.empty m.op c.args.nodes.now c.args.at c.args.height c.args.place.left c.args.place.right xs s ys c.args.open.now.last opened)

pub write-requires-2-clause-opened : goal.write-requires-2-clause-opened
write-requires-2-clause-opened g c =
    let m = g.M.Monoid in
    let slots = listed c.args.open.now.slots in
    let xs = listed c.first.result in
    let s = c.get-middle.result in
    let ys = listed c.rest.result in
    let parts : slots ≡ xs ++ s ∷ ys = parts_of slots xs (c.len-cut.result - 2) s ys c.get-middle.ensures c.first.ensures c.rest.ensures in
    let opened : IsOpened m.is_value m.empty m.op c.args.nodes.now c.args.at c.args.height c.args.place.left c.args.place.right (xs ++ s ∷ ys) c.args.open.now.last = subst (λ l. IsOpened m.is_value m.empty m.op c.args.nodes.now c.args.at c.args.height c.args.place.left c.args.place.right l c.args.open.now.last) parts c.requires.opened in
    rw c.front.ensures (front_opened m.is_value m.empty m.op c.args.nodes.now c.args.at c.args.height c.args.place.left c.args.place.right xs s ys c.args.open.now.last opened c.create-last.new.nodes c.create-last.result c.create-last.ensures.moves)

pub returns-clause-closed : goal.returns-clause-closed
returns-clause-closed g c =
    let m = g.M.Monoid in
    let slots = listed c.args.open.now.slots in
    let xs = listed c.first.result in
    let s = c.get-middle.result in
    let ys = listed c.rest.result in
    let parts : slots ≡ xs ++ s ∷ ys = parts_of slots xs (c.len-cut.result - 2) s ys c.get-middle.ensures c.first.ensures c.rest.ensures in
    let opened : IsOpened m.is_value m.empty m.op c.args.nodes.now c.args.at c.args.height c.args.place.left c.args.place.right (xs ++ s ∷ ys) c.args.open.now.last = subst (λ l. IsOpened m.is_value m.empty m.op c.args.nodes.now c.args.at c.args.height c.args.place.left c.args.place.right l c.args.open.now.last) parts c.requires.opened in
    let back = rw c.back.ensures at c.create-last.ensures.written in
    let front = rw c.front.ensures at c.write-2.ensures.written in
    rw parts (closed_in_two m.is_value m.empty m.op c.args.nodes.now c.args.at c.args.height c.args.place.left c.args.place.right xs s ys c.args.open.now.last opened c.create-last.new.nodes c.create-last.result c.create-last.ensures.moves c.write-2.new.nodes back front c.write-2.ensures.moves c.create-last.ensures.spare c.write-2.ensures.spare)
