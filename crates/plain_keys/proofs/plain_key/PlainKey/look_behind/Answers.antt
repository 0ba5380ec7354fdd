-- The less of the due number and the bounds that the tuple brings is a due number.
use Rattle.std.proofs.Common.{◌≡◌, ◌∙◌, ap, min}
use Rattle.stream_base.specs.Model.Journal.{put_in_order}
use Rattle.plain_windows.specs.Changing.{IsDue}
use Rattle.plain_keys.specs.States.{State}
use Rattle.plain_keys.proofs.Keeps.{due_same}
use Rattle.plain_keys.proofs.plain_key.PlainKey.look_behind.Goals as goal

pub returns-in-Some-clause-ahead : goal.returns-in-Some-clause-ahead
returns-in-Some-clause-ahead c kept x at put late ahead =
    let s = c.args.self.now in
    let new = c.wait_for-in-Some.new.self in
    let same = c.wait_for-in-Some.ensures.same in
    let windows = (c.args.defs.now).windows in
    let bound = c.in-Some.bound in
    let due : new.due ≡ min s.due bound = c.wait_for-in-Some.ensures.due ∙ c.min.ensures ∙ ap (λ (t : State). min t.due bound) c.wait_for.view_is in
    let there : IsDue windows (put_in_order kept x) s.marks c.args.water (min s.due bound) = c.in-Some.ensures.due kept s.marks x c.args.water s.due at late ahead in
    due_same windows (put_in_order kept x) new.kept s.marks new.marks c.args.water (min s.due bound) new.due (same.kept ∙ put) same.marks due there
