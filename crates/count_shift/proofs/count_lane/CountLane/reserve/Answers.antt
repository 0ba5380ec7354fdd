-- The changes of a tuple at the time are as many as their numbers.
use Rattle.std.proofs.Common.{◌≡◌, ◌∙◌, ap, arith, rules, subst, sym}
use Rattle.std.specs.Prelude.{min}
use Rattle.stream_base.specs.Laws.{TimesDoNotFall}
use Rattle.count_shift.specs.Lane.{Laned}
use Rattle.count_shift.specs.Counting.{events, put_changes}
use Rattle.count_shift.proofs.Behind.{same_puts}
use Rattle.count_shift.proofs.Shift.{length_of_put, none_changed}
use Rattle.count_shift.proofs.count_lane.CountLane.reserve.Goals as goal

pub returns-clause-changes : goal.returns-clause-changes
returns-clause-changes c = λ window func key marks kept x at f n.
    let number : c.saturating_sub.result ≡ put_changes c.args.count c.args.self.now.kept c.args.time c.args.water = search rules in
    number
    ∙ same_puts c.args.count (min c.args.time c.args.water) kept c.args.self.now f c.requires.0 c.args.time c.args.water (omega arith) (omega arith)
    ∙ ap (λ time. put_changes c.args.count kept time c.args.water) (sym at)
    ∙ sym (length_of_put window (events c.args.count func) key kept marks c.requires f.ordered x c.args.water n)

pub returns-then-water-time-clause-number : goal.returns-then-water-time-clause-number
returns-then-water-time-clause-number c =
    none_changed c.args.count c.args.self.now.kept c.args.time c.args.water c.requires.0 (subst TimesDoNotFall (ap (λ (l : Laned). l.kept) c.self.view_is) c.self.invariant.ordered) c.if-water-time.true

pub returns-then-water-time-clause-changes : goal.returns-then-water-time-clause-changes
returns-then-water-time-clause-changes c = λ window func key marks kept x at f n.
    none_changed c.args.count kept c.args.time c.args.water c.requires.0 f.ordered c.if-water-time.true
    ∙ ap (λ time. put_changes c.args.count kept time c.args.water) (sym at)
    ∙ sym (length_of_put window (events c.args.count func) key kept marks c.requires f.ordered x c.args.water n)
