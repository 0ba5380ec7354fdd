-- One key more changes nothing that a cell tells.
use Rattle.std.proofs.Common.{◌∙◌, List, ap, min}
use Rattle.stream_base.specs.Vectors.{room}
use Rattle.stream_base.specs.declared.change.Change.{Change}
use Rattle.compact_log.specs.Logs.{Log}
use Rattle.compact_log.specs.ChangeCells.{change_of}
use Rattle.compact_log.proofs.ChangeTold.{told_still}
use Rattle.compact_log.proofs.Cells.{itself, told_alike}
use Rattle.compact_log.proofs.changes.Changes.add_key.Goals as goal

pub returns : goal.returns
returns c =
    let was = c.self.inside in
    let cells = was.cells.items in
    let keys = was.keys.items in
    let more = c.hold_key.new.keys.items in
    let whole = was.whole.items in
    let still = told_still cells keys more whole whole c.hold_key.ensures (itself whole) c.self.invariant in
    let told = told_alike (change_of keys whole) (change_of more whole) cells still in
    let spare = min (room was.cells) (room was.whole) in
    let with_items : List Change → Log Change = λ (items : List Change). record { items = items; spare = spare } in
    ap with_items told ∙ c.self.view_is
