-- What the cells told they tell still, and the new one tells the entry.
use Rattle.std.proofs.Common.{◌≡◌, ◌∙◌, ℕ, List, [], ◌∷◌, map, ap, arith, subst, ◌++◌, min}
use Rattle.stream_base.specs.Vectors.{room}
use Rattle.stream_base.specs.declared.entry.Entry.{Entry}
use Rattle.compact_log.specs.Logs.{Log}
use Rattle.compact_log.specs.EntryCells.{entry_of}
use Rattle.compact_log.proofs.EntryTold.{told_still}
use Rattle.compact_log.proofs.Cells.{told_more}
use Rattle.compact_log.proofs.entries.Entries.push.Goals as goal

pub returns : goal.returns
returns c =
    let was = c.self.inside in
    let cells = was.cells.items in
    let keys = c.hold_key.new.keys.items in
    let whole = c.cell_for-cell.new.whole.items in
    let cell = c.cell_for-cell.result in
    let entry = c.args.entry.now in
    let tells : entry_of keys whole cell ≡ entry = subst (λ (ks : List (List ℕ)). entry_of ks whole cell ≡ entry) c.deref.ensures.value c.cell_for-cell.ensures.told in
    let still = told_still cells was.keys.items keys was.whole.items whole c.hold_key.ensures.keeps c.cell_for-cell.ensures.grows.keeps c.self.invariant in
    let told = told_more (entry_of was.keys.items was.whole.items) (entry_of keys whole) cells cell entry still tells in
    let spare : min (room was.keys) (min (room was.cells) (room was.whole)) ≡ c.args.self.now.spare = ap (λ (l : Log Entry). l.spare) c.self.view_is in
    record {
      items = ap (map (entry_of keys whole)) c.push_reserved.ensures.items ∙ told ∙ ap (λ (l : Log Entry). l.items ++ entry ∷ []) c.self.view_is;
      spare = omega arith;
    }
