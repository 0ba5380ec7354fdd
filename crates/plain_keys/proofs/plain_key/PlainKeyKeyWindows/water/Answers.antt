-- A move of the watermark brings the completions.
use Rattle.std.proofs.Common.{◌≡◌, ◌∙◌, ◌++◌, ◌+◌, ◌-◌, ◌≤◌, ◌<◌, [], append-nil, length, vec_len, ap, refl, sym, subst, arith}
use Rattle.std.proofs.lemmas.List.{length-append}
use Rattle.std.specs.Prelude.{vec_capacity}
use Rattle.stream_base.specs.Model.Changes.{Moment}
use Rattle.key_windows.specs.Calls.{changes_by_move}
use Rattle.plain_windows.specs.Changing.{all_completions}
use Rattle.plain_keys.specs.States.{State}
use Rattle.plain_keys.proofs.Keeps.{as_promised, due_same, move_is, not_due, still_fits}
use Rattle.plain_keys.proofs.plain_key.PlainKeyKeyWindows.water.Goals as goal

pub append_completions-requires : goal.append_completions-requires
append_completions-requires g c =
    let v = c.self.inside in
    let s = c.args.self.now in
    let d = c.args.defs.now in
    let counted : length (all_completions d.windows v.key c.view-view.result c.args.new) ≡ s.promise =
    ap (λ (m : Moment). length (all_completions d.windows v.key m c.args.new)) c.view-view.ensures
    ∙ as_promised d s c.args.old c.args.new d.windows v.key s.kept s.marks c.windows-windows.ensures.limits c.vouch.ensures.lists c.requires.in_time.rises refl
    (ap (λ (t : State). t.key) c.self.view_is) refl refl c.requires.ready (subst (λ (t : State). t.due ≤ c.args.new) c.self.view_is c.if-new-self.false) in
    record { spare = subst (λ n. n ≤ vec_capacity c.args.out.now - vec_len c.args.out.now) (sym counted) c.requires.spare }

pub returns-then-new-self-clause-taken : goal.returns-then-new-self-clause-taken
returns-then-new-self-clause-taken g c =
    let d = c.args.defs.now in
    let s = c.args.self.now in
    let early : c.args.new < s.due = subst (λ (t : State). c.args.new < t.due) c.self.view_is c.if-new-self.true in
    record {
      key = refl;
      next = refl;
      changes = λ kept marks fits.
          let none : changes_by_move d s.key kept marks c.args.old c.args.new ≡ [] =
          not_due d s.key s kept marks c.args.old c.args.new c.windows-windows.ensures.limits c.vouch.ensures.lists fits c.requires.in_time.rises early in
          sym (append-nil c.args.out.now.items) ∙ ap (λ cs. c.args.out.now.items ++ cs) (sym none);
      capacity = refl;
      fits = λ kept marks fits. still_fits d s kept marks c.args.old c.args.new fits c.requires.in_time.rises early;
    }

pub returns-clause-room : goal.returns-clause-room
returns-clause-room g c =
    let v = c.self.inside in
    let s = c.args.self.now in
    let d = c.args.defs.now in
    let counted : length (all_completions d.windows v.key c.view-view.result c.args.new) ≡ s.promise =
    ap (λ (m : Moment). length (all_completions d.windows v.key m c.args.new)) c.view-view.ensures
    ∙ as_promised d s c.args.old c.args.new d.windows v.key s.kept s.marks c.windows-windows.ensures.limits c.vouch.ensures.lists c.requires.in_time.rises refl
    (ap (λ (t : State). t.key) c.self.view_is) refl refl c.requires.ready (subst (λ (t : State). t.due ≤ c.args.new) c.self.view_is c.if-new-self.false) in
    let all : length c.append_completions.new.out.items ≡ length c.args.out.now.items + s.promise =
    ap length c.append_completions.ensures.items
    ∙ length-append c.args.out.now.items (all_completions d.windows v.key c.view-view.result c.args.new)
    ∙ ap (λ n. length c.args.out.now.items + n) counted in
    omega (arith, all, c.append_completions.new.out.ok.0, c.args.out.now.ok.0)

pub returns-clause-taken : goal.returns-clause-taken
returns-clause-taken g c =
    let v = c.self.inside in
    let s = c.args.self.now in
    let d = c.args.defs.now in
    let new = c.look_ahead.new.self in
    let same = c.look_ahead.ensures.same in
    let key : v.key ≡ s.key = ap (λ (t : State). t.key) c.self.view_is in
    record {
      key = same.key;
      next = same.next;
      changes = λ kept marks fits.
          c.append_completions.ensures.items
          ∙ ap (λ cs. c.args.out.now.items ++ cs)
          (ap (λ (m : Moment). all_completions d.windows v.key m c.args.new) c.view-view.ensures
          ∙ sym (move_is d v.key s.kept s.marks c.args.old c.args.new c.windows-windows.ensures.limits c.vouch.ensures.lists c.requires.in_time.rises)
          ∙ (λ i. changes_by_move d (key i) (fits.0 i) (fits.1 i) c.args.old c.args.new));
      capacity = c.append_completions.ensures.capacity;
      fits = λ kept marks fits.
          let ks : new.kept ≡ kept = same.kept ∙ fits.0 in
          let ms : new.marks ≡ marks = same.marks ∙ fits.1 in
          (ks, ms, due_same d.windows new.kept kept new.marks marks c.args.new new.due new.due (sym ks) (sym ms) refl c.look_ahead.ensures.ahead);
    }
