-- The tuple is put at its rank, and what is told from there on are the window's changes.
use Rattle.std.proofs.Common.{◌≡◌, ◌∙◌, ◌+◌, ◌-◌, ◌*◌, ◌/◌, ◌≤◌, ap, arith, rules, subst, sym}
use Rattle.std.specs.Prelude.{min, vec_len}
use Rattle.stream_base.specs.Laws.{TimesDoNotFall}
use Rattle.count_shift.specs.Lane.{Laned}
use Rattle.count_shift.specs.Counting.{count_of}
use Rattle.count_shift.proofs.Behind.{follows_put, reached}
use Rattle.count_shift.proofs.Puts.{IsPutAt, items_are, items_in_order, next_of_items, number_of_put, put_stands, put_told_by}
use Rattle.count_shift.proofs.Shift.{put_retracts_none}
use Rattle.count_shift.proofs.Telling.{steps_told}
use Rattle.count_shift.proofs.count_lane.CountLane.put.Given as given
use Rattle.count_shift.proofs.count_lane.CountLane.put.Goals as goal

-- there is room left for what is new
pub append_new-requires-clause-spare : goal.append_new-requires-clause-spare
append_new-requires-clause-spare g c =
    let x = c.args.x in
    let known : IsPutAt c.args.def.now c.args.self.now c.insert.new.self.items x c.args.water c.count_of.result c.self.inside.gone c.upper-rank.result c.upper-reached.result c.upper_after.result = record {
      events = c.requires.events;
      ordered = subst TimesDoNotFall (ap (λ (l : Laned). l.kept) c.self.view_is) c.self.invariant.ordered;
      gone_is = ap (λ (l : Laned). l.gone) c.self.view_is;
      count_is = c.count_of.ensures.value;
      rank_is = search rules;
      reached_is = search rules;
      after_is = search rules;
      put = search rules;
    } in
    let all = number_of_put c.args.window c.args.def.now c.args.key.now c.args.self.now c.insert.new.self.items x c.args.water c.count_of.result c.self.inside.gone c.upper-rank.result c.upper-reached.result c.upper_after.result known in
    omega (arith, all, c.append_again.ensures.adds.number, c.append_again.ensures.adds.capacity, c.requires.spare)

-- what is known once all is told
known : (g : given.Over) (c : goal.After-append_new g) → IsPutAt c.args.def.now c.args.self.now c.insert.new.self.items c.args.x c.args.water c.count_of.result c.self.inside.gone c.upper-rank.result c.upper-reached.result c.upper_after.result
known g c = record {
  events = c.requires.events;
  ordered = subst TimesDoNotFall (ap (λ (l : Laned). l.kept) c.self.view_is) c.self.invariant.ordered;
  gone_is = ap (λ (l : Laned). l.gone) c.self.view_is;
  count_is = c.count_of.ensures.value;
  rank_is = search rules;
  reached_is = search rules;
  after_is = search rules;
  put = search rules;
}

pub invariant_of-self : goal.invariant_of-self
invariant_of-self g c = record {
  ordered = items_in_order c.args.window c.args.def.now c.args.key.now c.args.self.now c.insert.new.self.items c.args.x c.args.water c.count_of.result c.self.inside.gone c.upper-rank.result c.upper-reached.result c.upper_after.result (known g c);
  counted = search rules;
}

pub returns-clause-rank : goal.returns-clause-rank
returns-clause-rank g c = λ kept f.
    (λ j. (known g c).gone_is j + (known g c).rank_is j)
    ∙ sym (reached (count_of c.args.def.now.kind) (min c.args.x.time c.args.water) kept c.args.self.now f c.args.x.time (omega arith))

pub returns-clause-stands : goal.returns-clause-stands
returns-clause-stands g c =
    let rank : c.self.inside.gone + c.upper-rank.result - c.args.self.now.gone ≡ c.upper-rank.result = omega (arith, (known g c).gone_is) in
    put_stands c.args.window c.args.def.now c.args.key.now c.args.self.now c.insert.new.self.items c.args.x c.args.water c.count_of.result c.self.inside.gone c.upper-rank.result c.upper-reached.result c.upper_after.result (known g c) (c.self.inside.gone + c.upper-rank.result - c.args.self.now.gone) rank

pub returns-clause-takes : goal.returns-clause-takes
returns-clause-takes g c = record {
  gone = (known g c).gone_is;
  kept = items_are c.args.window c.args.def.now c.args.key.now c.args.self.now c.insert.new.self.items c.args.x c.args.water c.count_of.result c.self.inside.gone c.upper-rank.result c.upper-reached.result c.upper_after.result (known g c);
  ordered = (invariant_of-self g c).ordered;
  spare = search rules;
}

pub returns-clause-follows : goal.returns-clause-follows
returns-clause-follows g c = λ kept from early f.
    follows_put (count_of c.args.def.now.kind) from kept c.args.x c.args.self.now _ early f (returns-clause-takes g c)

pub returns-clause-next : goal.returns-clause-next
returns-clause-next g c =
    next_of_items c.args.window c.args.def.now c.args.key.now c.args.self.now c.insert.new.self.items c.args.x c.args.water c.count_of.result c.self.inside.gone c.upper-rank.result c.upper-reached.result c.upper_after.result (known g c)

pub returns-clause-none_gone : goal.returns-clause-none_gone
returns-clause-none_gone g c = λ kept marks f.
    put_retracts_none c.args.window c.args.def.now c.args.key.now kept marks c.requires.events f.ordered c.args.x c.args.water

pub returns-clause-changes : goal.returns-clause-changes
returns-clause-changes g c = λ kept marks f n.
    put_told_by c.args.window c.args.def.now c.args.key.now c.args.self.now c.insert.new.self.items c.args.x c.args.water c.count_of.result c.self.inside.gone c.upper-rank.result c.upper-reached.result c.upper_after.result (known g c) kept marks c.args.out.now.items c.append_again.new.out.items c.append_new.new.out.items f n
    (rw c.deref-4.ensures.value at c.append_again.ensures.told) (rw c.deref-5.ensures.value at c.append_new.ensures.told)

pub returns-clause-adds : goal.returns-clause-adds
returns-clause-adds g c =
    let all = number_of_put c.args.window c.args.def.now c.args.key.now c.args.self.now c.insert.new.self.items c.args.x c.args.water c.count_of.result c.self.inside.gone c.upper-rank.result c.upper-reached.result c.upper_after.result (known g c) in
    record {
      number = omega (arith, all, c.append_again.ensures.adds.number, c.append_new.ensures.adds.number);
      capacity = c.append_new.ensures.adds.capacity ∙ c.append_again.ensures.adds.capacity;
    }

pub returns-clause-cost : goal.returns-clause-cost
returns-clause-cost g c =
    let again = c.upper-reached.result / c.count_of.result - c.upper-rank.result / c.count_of.result in
    let new = c.upper_after.result / c.count_of.result - c.upper-reached.result / c.count_of.result in
    let told : again + new ≡ vec_len c.append_new.new.out - vec_len c.args.out.now = omega (arith, c.append_again.ensures.adds.number, c.append_new.ensures.adds.number) in
    let within : c.append_new.new.steps ≤ c.args.steps.now + 2 * c.count_of.result * (again + new) = steps_told c.count_of.result again new c.args.steps.now c.append_again.new.steps c.append_new.new.steps c.append_again.ensures.cost c.append_new.ensures.cost in
    rw (← c.count_of.ensures.value, ← told) within
