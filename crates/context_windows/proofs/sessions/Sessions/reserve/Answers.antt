-- The sessions near the time are apart as all are. Where the watermark isn't behind the time nothing is told.
use Rattle.std.proofs.Common.{◌≡◌, ◌∙◌, ap, subst, sym, rules}
use Rattle.window_spans.specs.Spans.{AreApart, is_near, put_changes}
use Rattle.window_spans.proofs.Apart.{apart_filter}
use Rattle.context_windows.specs.Spanned.{gap_at}
use Rattle.context_windows.proofs.Untold.{none_told}
use Rattle.context_windows.proofs.sessions.Sessions.reserve.Goals as goal

pub first_standing-first-requires : goal.first_standing-first-requires
first_standing-first-requires c = subst AreApart (search rules) (apart_filter (is_near c.gap_of-gap.result c.args.time) c.self.inside.spans.items c.self.invariant)

pub returns-then-water-time-clause-promises : goal.returns-then-water-time-clause-promises
returns-then-water-time-clause-promises c =
    let gap : c.gap_of-gap.result ≡ gap_at c.args.defs.now c.args.window = search rules in
    let none : put_changes c.gap_of-gap.result c.args.time c.args.water c.args.self.now.spans ≡ 0 = none_told c.gap_of-gap.result c.args.time c.args.water c.if-water-time.true c.args.self.now.spans c.gap_of-gap.ensures.some in
    record {
      number = sym none ∙ ap (λ g. put_changes g c.args.time c.args.water c.args.self.now.spans) gap;
      room = search rules;
    }
