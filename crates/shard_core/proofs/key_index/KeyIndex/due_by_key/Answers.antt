-- The next place that is due comes to those found so far, and none that lies between is due.
use Rattle.std.proofs.Common.{rules, ◌≡◌, ◌∙◌, ℕ, List, Some, ap, arith, cond, get_or, length, sym}
use Rattle.std.specs.Prelude.{nat_le}
use Rattle.std.specs.BTreeMap.{is_at}
use Rattle.std.specs.Cmp.Lexicographic.{slice_cmp}
use Rattle.std.specs.List.{filter}
use Rattle.std.specs.Ordering.{nat_cmp}
use Rattle.shard_core.specs.Placed.{place_in}
use Rattle.shard_core.specs.Reached.{IsNextReached, NoneReached}
use Rattle.shard_core.proofs.Placing.{AreDueBefore, all_due, due_passed, due_taken, none_due}
use Rattle.shard_core.proofs.key_index.KeyIndex.due_by_key.Goals as goal

pub loop-place-init : goal.loop-place-init
loop-place-init c = (none_due (c.self.inside.index).entries c.args.dues.now.items c.args.water (c.new-due.result).entries c.new-due.ensures.empty, c.new-due.ensures.ordered, omega arith)

pub loop-place-preserved : goal.loop-place-preserved
loop-place-preserved c =
    let entries = (c.self.inside.index).entries in
    let keys = c.self.inside.keys.items in
    let dues = c.args.dues.now.items in
    let water = c.args.water in
    let from = c.loop-place.from in
    let place = c.in-Some.place in
    let due = (c.loop-place.due).entries in
    let as_many : length keys ≡ length dues = c.self.invariant.as_many ∙ ap length c.self.view_is ∙ sym c.requires in
    let next : IsNextReached dues water from place = c.in-Some.ensures.found in
    let passed : AreDueBefore entries dues water place due = due_passed entries dues water keys c.self.invariant from due c.loop-place.invariant.0 place next.behind as_many next.none_before in (
      due_taken entries dues water keys c.self.invariant place due passed (c.insert.new.self).entries c.index.result.now
          (omega (arith, next.within, as_many)) next.reached
          (λ q. c.in_ok-insert.ensures.updates.0 q ∙ ap (λ (k : List ℕ). cond (is_at (slice_cmp nat_cmp k) q) (Some place) (place_in due q)) c.index.ensures),
      c.insert.ensures.ordered,
      omega (arith, next.within),
    )

pub returns : goal.returns
returns c =
    let entries = (c.self.inside.index).entries in
    let keys = c.self.inside.keys.items in
    let dues = c.args.dues.now.items in
    let water = c.args.water in
    let as_many : length keys ≡ length dues = c.self.invariant.as_many ∙ ap length c.self.view_is ∙ sym c.requires in
    let none : NoneReached dues water c.loop-place.from (length dues) = search rules in
    let passed : AreDueBefore entries dues water (length dues) (c.loop-place.due).entries = due_passed entries dues water keys c.self.invariant c.loop-place.from (c.loop-place.due).entries c.loop-place.invariant.0 (length dues) c.loop-place.invariant.2 as_many none in
    all_due entries dues water keys c.self.invariant (length dues) (c.loop-place.due).entries passed (omega (arith, as_many)) c.loop-place.invariant.1
    ∙ ap (filter (λ (e : List ℕ × ℕ). nat_le (get_or dues e.1 0) water)) c.self.view_is
