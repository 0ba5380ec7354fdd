-- The tuples from the time on are left.
use Rattle.std.proofs.Common.{◌≡◌, ◌≤◌, arith, rules, subst, sym}
use Rattle.std.specs.Prelude.{nat_le}
use Rattle.std.specs.List.{All, filter}
use Rattle.std.proofs.lemmas.Fn.{filter_same}
use Rattle.std.proofs.lemmas.List.Elements.{All-weaker}
use Rattle.std.proofs.lemmas.List.Kept.{IsNonDecreasingBy-filter}
use Rattle.stream_base.specs.declared.kept.Kept.{Kept}
use Rattle.stream_base.specs.Laws.{TimesDoNotFall}
use Rattle.stream_base.specs.Model.Windows.{first_time}
use Rattle.tuple_chunks.proofs.TimeFacts.{above_first, stay_all}
use Rattle.tuple_chunks.proofs.chunk.ChunkPart.drop_before.Goals as goal

pub returns-then-time-first_time-clause-tuples : goal.returns-then-time-first_time-clause-tuples
returns-then-time-first_time-clause-tuples c =
    let kept = c.self.inside.tuples.items in
    let first : c.args.time ≤ first_time kept = grind arith in
    let all : All (λ (y : Kept). c.args.time ≤ y.time) kept = All-weaker (λ (y : Kept). first_time kept ≤ y.time) (λ y. c.args.time ≤ y.time) (λ y m. omega (arith, first, m)) kept (above_first kept c.self.invariant.0) in
    rw (← c.self.view_is) (sym (stay_all c.args.time kept all))

pub invariant_of-self : goal.invariant_of-self
invariant_of-self c =
    let kept = c.self.inside.tuples.items in
    let left : c.retain.new.self.items ≡ filter (λ (x : Kept). nat_le c.args.time x.time) kept = filter_same _ (λ (x : Kept). nat_le c.args.time x.time) _ (λ x b f' k. search rules) _ _ c.retain.ensures.filtered in
    (subst TimesDoNotFall (sym left) (IsNonDecreasingBy-filter (λ (x : Kept). x.time) (λ (x : Kept). nat_le c.args.time x.time) kept c.self.invariant.0), tt)

pub returns-clause-tuples : goal.returns-clause-tuples
returns-clause-tuples c =
    let kept = c.self.inside.tuples.items in
    let left : c.retain.new.self.items ≡ filter (λ (x : Kept). nat_le c.args.time x.time) kept = filter_same _ (λ (x : Kept). nat_le c.args.time x.time) _ (λ x b f' k. search rules) _ _ c.retain.ensures.filtered in
    rw (← c.self.view_is) left
