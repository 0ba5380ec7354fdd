-- A range that covers all tuples asks for their sum, which may be kept.
use Rattle.std.proofs.Common.{◌≡◌, ◌∙◌, true, ap, arith, length, sym, subst}
use Rattle.std.specs.Prelude.{◌&&◌, nat_le, nat_lt}
use Rattle.stream_base.specs.Model.Windows.{first_time, last_time, within}
use Rattle.tuple_chunks.specs.Sums.{IsSum}
use Rattle.tuple_chunks.proofs.SumFacts.{kept_is_sum}
use Rattle.tuple_chunks.proofs.TimeFacts.{covered}
use Rattle.tuple_chunks.proofs.chunk.ChunkPart.fold.Goals as goal

pub returns-then-is_some-clause-sum : goal.returns-then-is_some-clause-sum
returns-then-is_some-clause-sum g c =
    let tuples = c.self.inside.tuples.items in
    let low = c.args.low in
    let high = c.args.high in
    let first : first_time tuples ≡ c.first_time.result = sym (c.first_time.ensures ∙ ap first_time c.deref.ensures.value) in
    let last : last_time tuples ≡ c.last_time.result = sym (c.last_time.ensures ∙ ap last_time c.deref-2.ensures.value) in
    let test : (nat_le low (first_time tuples) && nat_lt (last_time tuples) high) ≡ true = (λ i. nat_le low (first i) && nat_lt (last i) high) ∙ sym c.covers.ensures ∙ c.if-not-covers.false in
    let all : within low high tuples ≡ tuples = covered low high tuples c.self.invariant.0 test in
    rw (← c.self.view_is)
    (subst (IsSum c.self.inside.sum) (sym all) (kept_is_sum c.self.inside.sum tuples (sym c.is_some.ensures ∙ c.if-is_some.true) c.self.invariant.1))

pub returns-clause-sum : goal.returns-clause-sum
returns-clause-sum g c =
    let tuples = c.self.inside.tuples.items in
    let low = c.args.low in
    let high = c.args.high in
    let first : first_time tuples ≡ c.first_time.result = sym (c.first_time.ensures ∙ ap first_time c.deref.ensures.value) in
    let last : last_time tuples ≡ c.last_time.result = sym (c.last_time.ensures ∙ ap last_time c.deref-2.ensures.value) in
    let test : (nat_le low (first_time tuples) && nat_lt (last_time tuples) high) ≡ true = (λ i. nat_le low (first i) && nat_lt (last i) high) ∙ sym c.covers.ensures ∙ c.if-not-covers.false in
    let all : within low high tuples ≡ tuples = covered low high tuples c.self.invariant.0 test in
    rw (← c.self.view_is)
    (subst (IsSum c.sum_of-self-inside.result) (c.deref-3.ensures.value ∙ sym all) c.sum_of-self-inside.ensures.sum)

pub returns-clause-cost : goal.returns-clause-cost
returns-clause-cost g c =
    let tuples = c.self.inside.tuples.items in
    let low = c.args.low in
    let high = c.args.high in
    let first : first_time tuples ≡ c.first_time.result = sym (c.first_time.ensures ∙ ap first_time c.deref.ensures.value) in
    let last : last_time tuples ≡ c.last_time.result = sym (c.last_time.ensures ∙ ap last_time c.deref-2.ensures.value) in
    let test : (nat_le low (first_time tuples) && nat_lt (last_time tuples) high) ≡ true = (λ i. nat_le low (first i) && nat_lt (last i) high) ∙ sym c.covers.ensures ∙ c.if-not-covers.false in
    let all : within low high tuples ≡ tuples = covered low high tuples c.self.invariant.0 test in
    rw (← c.self.view_is)
    (omega (arith, c.sum_of-self-inside.ensures.cost, ap length (c.deref-3.ensures.value ∙ sym all)))
