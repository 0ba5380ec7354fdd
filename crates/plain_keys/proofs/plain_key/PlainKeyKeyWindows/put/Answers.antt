-- A tuple after the watermark changes nothing, and an earlier one as much as its stand-in.
use Rattle.std.proofs.Common.{◌≡◌, ◌∙◌, ◌++◌, ◌-◌, ◌<◌, ◌≤◌, [], length, vec_len, ap, refl, sym, subst, append-nil, arith}
use Rattle.std.specs.Prelude.{vec_capacity}
use Rattle.stream_base.specs.declared.limits.TheConstants.{JOURNAL_MAX}
use Rattle.stream_base.specs.Model.Changes.{changes_between}
use Rattle.stream_base.specs.Model.Journal.{put_in_order}
use Rattle.stream_base.specs.Model.Moments.{moment}
use Rattle.key_windows.specs.Calls.{changes_by_put}
use Rattle.plain_keys.proofs.Keeps.{due_same, fits_put, put_count, put_nothing}
use Rattle.plain_keys.proofs.plain_key.PlainKeyKeyWindows.put.Goals as goal

pub put_late-requires-clause-spare : goal.put_late-requires-clause-spare
put_late-requires-clause-spare g c =
    let d = c.args.defs.now in
    let s = c.args.self.now in
    let x = c.args.x in
    let few : s.next < JOURNAL_MAX = omega (arith, c.requires.position, c.requires.few) in
    let counted : length (changes_between d.windows s.key (moment s.kept s.marks c.args.water) (moment (put_in_order s.kept x) s.marks c.args.water)) ≡ s.promise =
    put_count d s.key s.kept s.marks s.next x.position x.time x.value c.args.water c.vouch.ensures c.requires.position c.requires.few
    ∙ sym (c.requires.comes.ready.promised c.if-water-x.false few s.key) in
    subst (λ n. n ≤ vec_capacity c.args.out.now - vec_len c.args.out.now) (sym counted) c.requires.comes.spare

pub returns-then-water-x-clause-taken : goal.returns-then-water-x-clause-taken
returns-then-water-x-clause-taken g c =
    let d = c.args.defs.now in
    let s = c.args.self.now in
    let x = c.args.x in
    record {
      key = c.look_behind.ensures.same.key ∙ c.put_ahead.ensures.key;
      next = c.look_behind.ensures.same.next ∙ c.put_ahead.ensures.next;
      changes = λ kept marks fits.
          let none : changes_by_put d s.key kept marks c.args.water x ≡ [] =
          (λ i. changes_by_put d s.key (sym fits.0 i) (sym fits.1 i) c.args.water x)
          ∙ put_nothing d s.key s.kept s.marks c.args.water x c.windows-windows.ensures.limits c.vouch.ensures.lists c.requires.comes.in_time.within c.if-water-x.true in
          sym (append-nil c.args.out.now.items) ∙ ap (λ cs. c.args.out.now.items ++ cs) (sym none);
      capacity = refl;
      fits = λ kept marks fits.
          fits_put d kept marks c.args.water x.time s c.put_ahead.new.self c.look_behind.new.self x x fits c.put_ahead.ensures c.look_behind.ensures.same refl
          refl (λ k z at put. c.look_behind.ensures.ahead k z at put c.if-water-x.true);
    }

pub returns-else-water-x-clause-taken : goal.returns-else-water-x-clause-taken
returns-else-water-x-clause-taken g c =
    let d = c.args.defs.now in
    let s = c.args.self.now in
    let x = c.args.x in
    let new = c.look_ahead.new.self in
    let same = c.look_ahead.ensures.same in
    let put = c.put_late.ensures.put in
    record {
      key = same.key ∙ put.key;
      next = same.next ∙ put.next;
      changes = λ kept marks fits.
          c.put_late.ensures.changes.items
          ∙ (λ i. c.args.out.now.items ++ changes_between d.windows s.key (moment (fits.0 i) (fits.1 i) c.args.water) (moment (put_in_order (fits.0 i) x) (fits.1 i) c.args.water));
      capacity = c.put_late.ensures.changes.capacity;
      fits = λ kept marks fits.
          let ks : new.kept ≡ put_in_order kept x = same.kept ∙ put.kept ∙ (λ i. put_in_order (fits.0 i) x) in
          let ms : new.marks ≡ marks = same.marks ∙ put.marks ∙ fits.1 in
          (ks, ms, due_same d.windows new.kept (put_in_order kept x) new.marks marks c.args.water new.due new.due (sym ks) (sym ms) refl c.look_ahead.ensures.ahead);
    }
