-- None, all or some of the tuples are in the range, and the sum of all may be kept.
use Rattle.std.proofs.Common.{◌≡◌, ◌∙◌, true, ap, arith, length, sym, subst}
use Rattle.std.specs.Prelude.{◌&&◌, ◌||◌, nat_le, nat_lt}
use Rattle.std.specs.List.{flat_map}
use Rattle.stream_base.specs.Laws.{TimesDoNotFall}
use Rattle.stream_base.specs.Model.Windows.{first_time, last_time, within}
use Rattle.tuple_chunks.specs.Held.{Held}
use Rattle.tuple_chunks.specs.Parts.{IsRow}
use Rattle.tuple_chunks.specs.Sums.{IsSum}
use Rattle.tuple_chunks.proofs.RowFacts.{row_summed, same_list}
use Rattle.tuple_chunks.proofs.SumFacts.{kept_is_sum, no_sum}
use Rattle.tuple_chunks.proofs.TimeFacts.{covered, missed}
use Rattle.tuple_chunks.proofs.row.RowPart.fold.Goals as goal

pub returns-then-misses-clause-sum : goal.returns-then-misses-clause-sum
returns-then-misses-clause-sum g c =
    let low = c.args.low in
    let high = c.args.high in
    let tuples = c.args.self.now.tuples in
    let ordered = subst (λ (h : Held). TimesDoNotFall h.tuples) c.self.view_is c.self.invariant.holds.ordered in
    let test : (nat_lt (last_time tuples) low || nat_le high (first_time tuples)) ≡ true =
    (λ i. nat_lt (sym c.last_time-last.ensures i) low || nat_le high (sym c.first_time-first.ensures i)) ∙ sym c.misses.ensures ∙ c.if-misses.true in
    no_sum (within low high tuples) (missed low high tuples ordered test)

pub returns-then-is_some-clause-sum : goal.returns-then-is_some-clause-sum
returns-then-is_some-clause-sum g c =
    let f = g.P.Part.tuples in
    let low = c.args.low in
    let high = c.args.high in
    let tuples = c.args.self.now.tuples in
    let sum = c.self.inside.sum in
    let row = c.self.invariant in
    let ordered = subst (λ (h : Held). TimesDoNotFall h.tuples) c.self.view_is row.holds.ordered in
    let test : (nat_le low (first_time tuples) && nat_lt (last_time tuples) high) ≡ true =
    (λ i. nat_le low (sym c.first_time-first.ensures i) && nat_lt (sym c.last_time-last.ensures i) high) ∙ sym c.covers.ensures ∙ c.if-not-covers.false in
    let all = covered low high tuples ordered test in
    let own = kept_is_sum sum (flat_map f c.self.inside.parts.items) (sym c.is_some.ensures ∙ c.if-is_some.true) row.summed in
    subst (IsSum sum) (sym all) (subst (λ (h : Held). IsSum sum h.tuples) c.self.view_is own)

pub invariant_of-self-2 : goal.invariant_of-self-2
invariant_of-self-2 g c =
    let f = g.P.Part.tuples in
    let s = g.P.Part.spare in
    let low = c.args.low in
    let high = c.args.high in
    let tuples = c.args.self.now.tuples in
    let parts = c.self.inside.parts.items in
    let inside = c.self.inside in
    let row = c.self.invariant in
    let folded = c.fold_parts-self-inside in
    let ordered = subst (λ (h : Held). TimesDoNotFall h.tuples) c.self.view_is row.holds.ordered in
    let test : (nat_le low (first_time tuples) && nat_lt (last_time tuples) high) ≡ true =
    (λ i. nat_le low (sym c.first_time-first.ensures i) && nat_lt (sym c.last_time-last.ensures i) high) ∙ sym c.covers.ensures ∙ c.if-not-covers.false in
    let all = subst (λ (h : Held). within low high h.tuples ≡ h.tuples) (sym c.self.view_is) (covered low high tuples ordered test) in
    let len : inside.parts.len ≡ length parts = omega arith in
    let same = same_list inside.parts.len parts folded.new.parts (folded.ensures.kept ∙ c.deref_mut-2.ensures.value) len in
    let own = subst (IsSum folded.result) (ap (λ l. within low high (flat_map f l)) c.deref_mut-2.ensures.value ∙ all) folded.ensures.sum in
    subst (λ l. IsRow f s l inside.number inside.entered inside.ready folded.result) (sym same)
    (row_summed f s parts inside.number inside.entered inside.ready inside.sum folded.result row own)
