-- The tuples from the time on are left, in the one list or in the rows, and where none is the one list is empty.
use Rattle.std.proofs.Common.{◌≡◌, ◌∙◌, ◌-◌, ◌<◌, ◌≤◌, arith, rules, subst, sym, vec_capacity, vec_len}
use Rattle.std.specs.Prelude.{nat_le}
use Rattle.std.specs.List.{filter}
use Rattle.std.proofs.lemmas.Fn.{filter_same}
use Rattle.std.proofs.lemmas.List.Kept.{IsNonDecreasingBy-filter}
use Rattle.stream_base.specs.declared.kept.Kept.{Kept}
use Rattle.stream_base.specs.Laws.{TimesDoNotFall}
use Rattle.stream_base.specs.Model.Windows.{last_time}
use Rattle.tuple_chunks.proofs.HeldFacts.{few_held, few_left, rows_drop, rows_leave}
use Rattle.tuple_chunks.proofs.tuples.Tuples.drop_before.Goals as goal

pub invariant_of-self : goal.invariant_of-self
invariant_of-self c =
    let few = c.self.inside.few in
    let new = c.retain.new.self in
    let left : new.items ≡ filter (λ (x : Kept). nat_le c.args.time x.time) few.items = filter_same _ (λ (x : Kept). nat_le c.args.time x.time) _ (λ x b f' k. search rules) _ _ c.retain.ensures.filtered in
    let more : vec_capacity few ≤ vec_capacity new = omega (arith, c.retain.ensures.capacity) in
    few_held few.items new.items (vec_capacity few) (vec_capacity new) c.self.inside.rows c.self.invariant
    (subst TimesDoNotFall (sym left) (IsNonDecreasingBy-filter (λ (x : Kept). x.time) (λ (x : Kept). nat_le c.args.time x.time) few.items c.self.invariant.ordered))
    more

pub returns-in_default-clause-tuples : goal.returns-in_default-clause-tuples
returns-in_default-clause-tuples c =
    let few = c.self.inside.few in
    let new = c.retain.new.self in
    let left : new.items ≡ filter (λ (x : Kept). nat_le c.args.time x.time) few.items = filter_same _ (λ (x : Kept). nat_le c.args.time x.time) _ (λ x b f' k. search rules) _ _ c.retain.ensures.filtered in
    rw (← c.self.view_is)
    (few_left c.args.time c.self.inside.rows few.items new.items (vec_capacity few - vec_len few) (vec_capacity new - vec_len new) c.in_default.not-Some left)

pub invariant_of-self-then-time-last_time : goal.invariant_of-self-then-time-last_time
invariant_of-self-then-time-last_time c =
    let few = c.self.inside.few in
    let rows = c.in-Some.rows in
    let late : c.args.time ≤ last_time rows.tuples = omega (arith, c.if-time-last_time.true, c.last_time.ensures) in
    rows_drop few.items (vec_capacity few) c.self.inside.rows rows c.drop_before.new.self c.args.time c.in-Some.is c.self.invariant late c.drop_before.ensures.tuples

pub returns-clause-tuples : goal.returns-clause-tuples
returns-clause-tuples c =
    let few = c.self.inside.few in
    let rows = c.in-Some.rows in
    let early : last_time rows.tuples < c.args.time = omega (arith, c.if-time-last_time.false, c.last_time.ensures) in
    rw (← c.self.view_is)
    (c.clear.ensures.items ∙ sym (rows_leave c.args.time c.self.inside.rows rows few.items (vec_capacity few - vec_len few) (vec_capacity few) c.in-Some.is c.self.invariant early))
