-- A late entry is dropped, and no key changes.
use Rattle.std.proofs.Common.{◌≡◌, ◌∙◌, ◌++◌, ◌∷◌, [], ℤ, ap, of_z, rules, sym, to_z, true, w64}
use Rattle.std.proofs.lemmas.Result.{on_ok_weaker}
use Rattle.stream_base.specs.declared.change.Change.TheVariants.{Dropped}
use Rattle.stream_base.specs.declared.what.What.TheVariants.{Tuple, Mark}
use Rattle.stream_base.specs.Model.Watermark.{water_of}
use Rattle.stream_base.specs.Model.What.{is_late}
use Rattle.model_laws.proofs.ChangesAfter.{late_is_dropped}
use Rattle.shard_core.specs.Flat.{sharded}
use Rattle.shard_core.specs.Work.{IsTakenWithin}
use Rattle.shard_core.proofs.Advance.{late_leaves_water, late_stays, none_is_due, still_table}
use Rattle.shard_core.proofs.Entries.{mark_alike, tuple_alike}
use Rattle.shard_core.proofs.keys.KeyTable.take_in.Goals as goal

pub returns-then-is_late-clause-taken : goal.returns-then-is_late-clause-taken
returns-then-is_late-clause-taken g c =
    let past = c.args.past.now in
    let e = c.args.entry.now in
    let late : is_late past.defs.lateness (water_of past.sources past.journal) e.what ≡ true = sym c.is_late.ensures ∙ c.if-is_late.true in
    record {
      taken = still_table g.K.KeyWindows.key_of g.K.KeyWindows.fits g.K.KeyWindows.next_position past.defs past.sources past.journal c.args.self.now e (late_stays past.defs past.sources past.journal e late) (late_leaves_water past.defs.lateness past.sources past.journal e late) c.requires.comes.current;
      changes = c.push.ensures.items ∙ (λ i. c.reserve.ensures.items i ++ Dropped ∷ []) ∙ ap (λ ys. c.args.told.now.log.items ++ ys) (sym (late_is_dropped past.defs past.sources past.journal e late));
      refused = tt;
      nothing = tt;
      no_step = tt;
    }

pub returns-in-Tuple-clause-taken : goal.returns-in-Tuple-clause-taken
returns-in-Tuple-clause-taken g c = c.put.ensures.taken c.args.entry.now (search rules)

pub returns-in-Mark-clause-taken : goal.returns-in-Mark-clause-taken
returns-in-Mark-clause-taken g c = c.mark.ensures.taken c.args.entry.now (search rules)

pub returns-in-Tuple-clause-tuple_work : goal.returns-in-Tuple-clause-tuple_work
returns-in-Tuple-clause-tuple_work g c =
    let s = sharded c.args.past.now in
    let e = c.args.entry.now in
    let bounds = g.K.KeyWindows.bounds_put in
    let value : ℤ = to_z w64 (of_z w64 c.in-Tuple.value) in
    let is : e.what ≡ Tuple c.in-Tuple.key c.in-Tuple.time value = search rules in
    on_ok_weaker c.put.result
    (λ (w : IsTakenWithin bounds s e c.in-Tuple.key c.in-Tuple.time c.args.steps.now c.put.new.steps) key time more so on_time.
    tuple_alike bounds s e c.in-Tuple.key key c.in-Tuple.time time value more c.args.steps.now c.put.new.steps is so w)
    (c.put.ensures.work e is)

pub returns-in-Mark-clause-mark_work : goal.returns-in-Mark-clause-mark_work
returns-in-Mark-clause-mark_work g c =
    let s = sharded c.args.past.now in
    let e = c.args.entry.now in
    let bounds = g.K.KeyWindows.bounds_mark in
    let is : e.what ≡ Mark c.in-Mark.key c.in-Mark.time = search rules in
    on_ok_weaker c.mark.result
    (λ (w : IsTakenWithin bounds s e c.in-Mark.key c.in-Mark.time c.args.steps.now c.mark.new.steps) key time so on_time.
    mark_alike bounds s e c.in-Mark.key key c.in-Mark.time time c.args.steps.now c.mark.new.steps is so w)
    (c.mark.ensures.work e is)

-- a late entry, a tuple and a mark say no word on progress
pub returns-then-is_late-clause-move_work : goal.returns-then-is_late-clause-move_work
returns-then-is_late-clause-move_work g c = λ progress. none_is_due g.K.KeyWindows.bounds_move (sharded c.args.past.now) c.args.entry.now c.args.steps.now
