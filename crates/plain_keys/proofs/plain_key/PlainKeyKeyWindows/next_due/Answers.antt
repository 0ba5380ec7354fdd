-- No bound lies below the due number, and it is one.
use Rattle.std.proofs.Common.{◌≡◌, ◌≤◌, ◌<◌, ap, inl, subst, sym}
use Rattle.stream_base.specs.declared.limits.TheConstants.{FINAL}
use Rattle.key_windows.specs.Calls.{BringsMore}
use Rattle.key_windows.specs.Dues.{IsExact}
use Rattle.plain_keys.specs.States.{State}
use Rattle.plain_keys.proofs.Keeps.{is_due, is_exact, not_due, still_fits}
use Rattle.plain_keys.proofs.plain_key.PlainKeyKeyWindows.next_due.Goals as goal

pub returns-clause-none_before : goal.returns-clause-none_before
returns-clause-none_before c = λ kept marks new fits le lt.
    let s = c.args.self.now in
    let due : c.self.inside.due ≡ s.due = ap (λ (t : State). t.due) c.self.view_is in
    not_due c.args.defs.now s.key s kept marks c.args.water new c.windows-windows.ensures.limits c.vouch.ensures.lists fits le (subst (λ n. new < n) due lt)

pub returns-clause-waits : goal.returns-clause-waits
returns-clause-waits c = λ kept marks new fits le lt water.
    let s = c.args.self.now in
    let due : c.self.inside.due ≡ s.due = ap (λ (t : State). t.due) c.self.view_is in
    still_fits c.args.defs.now s kept marks c.args.water new fits le (subst (λ n. new < n) due lt)

pub returns-clause-some_at : goal.returns-clause-some_at
returns-clause-some_at c = λ kept marks fits final.
    let s = c.args.self.now in
    let d = c.args.defs.now in
    let due : s.due ≡ c.self.inside.due = ap (λ (t : State). t.due) (sym c.self.view_is) in
    subst (λ n. n ≤ FINAL → (c.args.water < n) × BringsMore d s.key kept marks c.args.water n) due
    (λ final. let at = is_due d s.key s kept marks c.args.water c.windows-windows.ensures.limits c.vouch.ensures.lists fits final in (at.0, inl at.1)) final

pub returns-clause-exact : goal.returns-clause-exact
returns-clause-exact c = λ kept marks fits.
    let s = c.args.self.now in
    let due : s.due ≡ c.self.inside.due = ap (λ (t : State). t.due) (sym c.self.view_is) in
    subst (IsExact c.args.defs.now s.key kept marks c.args.water) due (is_exact c.args.defs.now s.key s kept marks c.args.water c.windows-windows.ensures.limits c.vouch.ensures.lists fits)
