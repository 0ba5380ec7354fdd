-- The marks from the last one up to the time on are left.
use Rattle.std.proofs.Common.{◌≡◌, ◌∙◌, ap, arith, rules, subst, sym}
use Rattle.std.specs.Prelude.{◌&&◌, nat_le, nat_lt}
use Rattle.std.specs.List.{filter, list_any}
use Rattle.std.specs.List.Sorted.{IsStrictlyIncreasing}
use Rattle.std.proofs.lemmas.Fn.{filter_same}
use Rattle.std.proofs.lemmas.List.Kept.{IsStrictlyIncreasing-filter}
use Rattle.slice_lists.proofs.LeaveFacts.{cuts_left, last_left, last_read_is, none_to_leave}
use Rattle.slice_runs.proofs.marks.Marks.keep_last.Goals as goal

pub returns-then-count-gt0-clause-left : goal.returns-then-count-gt0-clause-left
returns-then-count-gt0-clause-left c =
    let marks = c.self.inside.times.items in
    let last = c.index.result.now in
    let left : c.retain.new.self.items ≡ filter (λ m. nat_le last m) marks = filter_same _ (λ m. nat_le last m) _ (λ x b f' k. search rules) _ _ c.retain.ensures.filtered in
    let place = rw (← c.self.view_is) at c.up_to-count.ensures in
    rw (← c.self.view_is)
    (left ∙ last_left marks c.args.time c.up_to-count.result place c.self.invariant c.if-count-gt0.true last (last_read_is marks c.up_to-count.result last (omega (arith, place.within)) c.index.ensures))

pub invariant_of-self : goal.invariant_of-self
invariant_of-self c =
    let marks = c.self.inside.times.items in
    let last = c.index.result.now in
    let left : c.retain.new.self.items ≡ filter (λ m. nat_le last m) marks = filter_same _ (λ m. nat_le last m) _ (λ x b f' k. search rules) _ _ c.retain.ensures.filtered in
    subst IsStrictlyIncreasing (sym left) (IsStrictlyIncreasing-filter (λ m. nat_le last m) marks c.self.invariant)

pub returns-then-count-gt0-clause-rising : goal.returns-then-count-gt0-clause-rising
returns-then-count-gt0-clause-rising c =
    let marks = c.self.inside.times.items in
    let last = c.index.result.now in
    let left : c.retain.new.self.items ≡ filter (λ m. nat_le last m) marks = filter_same _ (λ m. nat_le last m) _ (λ x b f' k. search rules) _ _ c.retain.ensures.filtered in
    subst IsStrictlyIncreasing (sym left) (IsStrictlyIncreasing-filter (λ m. nat_le last m) marks c.self.invariant)

pub returns-then-count-gt0-clause-cuts : goal.returns-then-count-gt0-clause-cuts
returns-then-count-gt0-clause-cuts c =
    let marks = c.self.inside.times.items in
    let last = c.index.result.now in
    let left : c.retain.new.self.items ≡ filter (λ m. nat_le last m) marks = filter_same _ (λ m. nat_le last m) _ (λ x b f' k. search rules) _ _ c.retain.ensures.filtered in
    let place = rw (← c.self.view_is) at c.up_to-count.ensures in
    rw (← c.self.view_is)
    (λ a b l. ap (list_any (λ m. nat_lt a m && nat_le m b)) left ∙ cuts_left marks c.args.time c.up_to-count.result place c.self.invariant c.if-count-gt0.true last (last_read_is marks c.up_to-count.result last (omega (arith, place.within)) c.index.ensures) a b l)

pub returns-else-count-gt0-clause-left : goal.returns-else-count-gt0-clause-left
returns-else-count-gt0-clause-left c =
    let place = rw (← c.self.view_is) at c.up_to-count.ensures in
    rw (← c.self.view_is)
    (none_to_leave c.self.inside.times.items c.args.time c.up_to-count.result place c.self.invariant (omega (arith, c.if-count-gt0.false)))
