-- Where the watermark stays, nothing changes.
use Rattle.std.proofs.Common.{◌≡◌, ◌∙◌, ◌++◌, ◌∷◌, [], ap, sym}
use Rattle.std.proofs.lemmas.List.{append-nil}
use Rattle.stream_base.specs.Model.Watermark.{water_of}
use Rattle.model_laws.proofs.ChangesAfter.{no_news_no_changes}
use Rattle.shard_core.specs.Flat.{sharded}
use Rattle.shard_core.proofs.Advance.{none_is_due, progress_stays, still_table}
use Rattle.shard_core.proofs.keys.KeyTable.progress.Goals as goal

pub returns-then-new-water-clause-taken : goal.returns-then-new-water-clause-taken
returns-then-new-water-clause-taken g c =
    let past = c.args.past.now in
    let e = c.args.entry.now in
    let stays : water_of past.sources (past.journal ++ e ∷ []) ≡ water_of past.sources past.journal = sym c.water_after-new.ensures.value ∙ c.if-new-water.true ∙ c.water.ensures.value in
    record {
      taken = still_table g.K.KeyWindows.key_of g.K.KeyWindows.fits g.K.KeyWindows.next_position past.defs past.sources past.journal c.args.self.now e (progress_stays past.defs past.sources past.journal e c.requires.progress) stays c.requires.comes.current;
      changes = sym (append-nil c.args.told.now.log.items) ∙ ap (λ ys. c.args.told.now.log.items ++ ys) (sym (no_news_no_changes past.defs past.sources past.journal e c.water.ensures.limits c.requires.progress stays));
      refused = tt;
      nothing = tt;
      no_step = tt;
    }

pub returns-then-new-water-clause-move_work : goal.returns-then-new-water-clause-move_work
returns-then-new-water-clause-move_work g c = none_is_due g.K.KeyWindows.bounds_move (sharded c.args.past.now) c.args.entry.now c.args.steps.now

pub advance-requires-clause-water : goal.advance-requires-clause-water
advance-requires-clause-water g c = c.water_after-new.ensures.is_water

pub returns-clause-taken : goal.returns-clause-taken
returns-clause-taken g c = let t = c.in_ok-advance.ensures.taken in record {
  taken = t.taken;
  changes = t.changes;
  refused = tt;
  nothing = tt;
  no_step = tt;
}
