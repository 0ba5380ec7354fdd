-- What the cells told they tell still, and the new one tells the change.
use Rattle.std.proofs.Common.{◌≡◌, ◌∙◌, ℕ, List, [], ◌∷◌, map, ap, arith, subst, ◌++◌, min}
use Rattle.stream_base.specs.Vectors.{room}
use Rattle.stream_base.specs.declared.change.Change.{Change}
use Rattle.compact_log.specs.Logs.{Log}
use Rattle.compact_log.specs.ChangeCells.{change_of}
use Rattle.compact_log.proofs.ChangeTold.{told_still}
use Rattle.compact_log.proofs.Cells.{itself, told_more}
use Rattle.compact_log.proofs.changes.Changes.push.Goals as goal

pub returns : goal.returns
returns c =
    let was = c.self.inside in
    let cells = was.cells.items in
    let keys = was.keys.items in
    let whole = c.cell_for-cell.new.whole.items in
    let cell = c.cell_for-cell.result in
    let change = c.args.change.now in
    let tells : change_of keys whole cell ≡ change = subst (λ (ks : List (List ℕ)). change_of ks whole cell ≡ change) c.deref.ensures.value c.cell_for-cell.ensures.told in
    let still = told_still cells keys keys was.whole.items whole (itself keys) c.cell_for-cell.ensures.grows.keeps c.self.invariant in
    let told = told_more (change_of keys was.whole.items) (change_of keys whole) cells cell change still tells in
    let spare : min (room was.cells) (room was.whole) ≡ c.args.self.now.spare = ap (λ (l : Log Change). l.spare) c.self.view_is in
    record {
      items = ap (map (change_of keys whole)) c.push_reserved.ensures.items ∙ told ∙ ap (λ (l : Log Change). l.items ++ change ∷ []) c.self.view_is;
      spare = omega arith;
    }
