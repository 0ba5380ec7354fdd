-- The key of a tuple or mark is put in its place.
use Rattle.std.proofs.Common.{◌≡◌, true, Some, refl, rules}
use Rattle.stream_base.specs.Model.What.{is_progress, key_in}
use Rattle.report_check.proofs.Following.{ready_by_key, ready_by_progress}
use Rattle.report_check.proofs.ledger.Ledger.add.Goals as goal

pub returns-in_ok-add_key-in-Tuple-clause-ready : goal.returns-in_ok-add_key-in-Tuple-clause-ready
returns-in_ok-add_key-in-Tuple-clause-ready c =
    let l = c.args.self.now in
    let it : key_in (c.args.entry.now).what ≡ Some c.in-Tuple.key = search rules in
    ready_by_key c.args.defs.now l.sources c.args.past.now c.args.entry.now c.in-Tuple.key l (record { alloc = l.alloc; sources = l.sources; water = l.water; keys = c.add_key.new.keys }) c.requires it refl refl c.in_ok-add_key-in-Tuple.ensures

pub returns-in_ok-add_key-in-Mark-clause-ready : goal.returns-in_ok-add_key-in-Mark-clause-ready
returns-in_ok-add_key-in-Mark-clause-ready c =
    let l = c.args.self.now in
    let it : key_in (c.args.entry.now).what ≡ Some c.in-Mark.key = search rules in
    ready_by_key c.args.defs.now l.sources c.args.past.now c.args.entry.now c.in-Mark.key l (record { alloc = l.alloc; sources = l.sources; water = l.water; keys = c.add_key-in-Mark.new.keys }) c.requires it refl refl c.in_ok-add_key-in-Mark.ensures

pub returns-in-Water : goal.returns-in-Water
returns-in-Water c =
    let it : is_progress (c.args.entry.now).what ≡ true = search rules in
    record { sources = refl; ready = ready_by_progress c.args.defs.now c.args.self.now.sources c.args.past.now c.args.entry.now c.args.self.now c.requires it }
