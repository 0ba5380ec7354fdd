-- A tuple or mark leaves the watermarks.
use Rattle.std.proofs.Common.{ap, ⊎_elim}
use Rattle.stream_base.specs.Model.What.{key_in}
use Rattle.watermark_table.proofs.Tables.{stands_behind_keyed}
use Rattle.shard_core.proofs.past.note.Goals as goal

pub returns-in-Tuple-clause-stands : goal.returns-in-Tuple-clause-stands
returns-in-Tuple-clause-stands c journal s =
    ⊎_elim
    (λ t. stands_behind_keyed c.args.waters.now journal (record { source = c.args.source; what = c.args.what.now }) t.0 (ap key_in t.3) s)
    (λ m. stands_behind_keyed c.args.waters.now journal (record { source = c.args.source; what = c.args.what.now }) m.0 (ap key_in m.2) s)
    c.in-Tuple.is
