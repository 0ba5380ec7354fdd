-- A mark after the watermark changes nothing.
use Rattle.std.proofs.Common.{◌≡◌, ◌∙◌, ◌++◌, [], ap, refl, sym, append-nil}
use Rattle.key_windows.specs.Calls.{changes_by_mark}
use Rattle.plain_keys.proofs.Keeps.{fits_mark, mark_nothing}
use Rattle.plain_keys.proofs.plain_key.PlainKeyKeyWindows.mark.Goals as goal

pub returns-then-water-time-clause-taken : goal.returns-then-water-time-clause-taken
returns-then-water-time-clause-taken g c =
    let d = c.args.defs.now in
    let s = c.args.self.now in
    record {
      key = c.look_ahead.ensures.same.key ∙ c.mark_ahead.ensures.key;
      next = c.look_ahead.ensures.same.next ∙ c.mark_ahead.ensures.next;
      changes = λ kept marks fits.
          let none : changes_by_mark d s.key kept marks c.args.water c.args.time ≡ [] =
          (λ i. changes_by_mark d s.key (sym fits.0 i) (sym fits.1 i) c.args.water c.args.time)
          ∙ mark_nothing d s.key s.kept s.marks c.args.water c.args.time c.windows-windows.ensures.limits c.vouch.ensures.lists c.requires.in_time.within c.if-water-time.true in
          sym (append-nil c.args.out.now.items) ∙ ap (λ cs. c.args.out.now.items ++ cs) (sym none);
      capacity = refl;
      fits = λ kept marks fits. fits_mark d kept marks c.args.water c.args.time s c.mark_ahead.new.self c.look_ahead.new.self fits c.mark_ahead.ensures c.look_ahead.ensures.same c.look_ahead.ensures.ahead;
    }

pub returns-else-water-time-clause-taken : goal.returns-else-water-time-clause-taken
returns-else-water-time-clause-taken g c =
    let d = c.args.defs.now in
    let s = c.args.self.now in
    let look = c.look_ahead-else-water-time in
    record {
      key = look.ensures.same.key ∙ c.mark_late.ensures.marked.key;
      next = look.ensures.same.next ∙ c.mark_late.ensures.marked.next;
      changes = λ kept marks fits.
          c.mark_late.ensures.changes.items
          ∙ (λ i. c.args.out.now.items ++ changes_by_mark d s.key (fits.0 i) (fits.1 i) c.args.water c.args.time);
      capacity = c.mark_late.ensures.changes.capacity;
      fits = λ kept marks fits. fits_mark d kept marks c.args.water c.args.time s c.mark_late.new.self look.new.self fits c.mark_late.ensures.marked look.ensures.same look.ensures.ahead;
    }
