-- What is due ends after the watermark, and so at the first end behind it or later.
use Rattle.std.proofs.Common.{◌≡◌, ◌<◌, subst, rules}
use Rattle.window_spans.specs.Ahead.{end_after}
use Rattle.window_spans.specs.Spans.{AreApart, EndInTurn}
use Rattle.window_spans.proofs.Apart.{highs_rise}
use Rattle.window_spans.proofs.Firsts.{none_due}
use Rattle.context_windows.specs.Marked.{Marked}
use Rattle.context_windows.proofs.mark_windows.MarkWindows.next_end.Goals as goal

pub end_after-requires : goal.end_after-requires
end_after-requires c = subst EndInTurn (search rules) (highs_rise c.self.inside.spans.items c.self.invariant.apart)

pub returns-clause-none_due : goal.returns-clause-none_due
returns-clause-none_due c = λ new l.
    let is : c.end_after.result ≡ end_after c.args.water c.args.self.now.spans = search rules in
    none_due c.args.water new c.args.self.now.spans (subst (λ (v : Marked). AreApart v.spans) c.self.view_is c.self.invariant.apart) (subst (λ e. new < e) is l)
