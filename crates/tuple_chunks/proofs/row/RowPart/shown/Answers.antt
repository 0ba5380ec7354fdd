-- None, all or some of the tuples are in the range.
use Rattle.std.proofs.Common.{◌≡◌, ◌∙◌, ◌<◌, true, Some, ap, arith, length, sym, subst}
use Rattle.std.specs.Prelude.{◌&&◌, ◌||◌, nat_le, nat_lt}
use Rattle.std.specs.List.{flat_map}
use Rattle.stream_base.specs.Model.Windows.{first_time, last_time}
use Rattle.stream_base.specs.Laws.{TimesDoNotFall}
use Rattle.tuple_chunks.specs.Held.{Held}
use Rattle.tuple_chunks.specs.Sums.{shown_of}
use Rattle.tuple_chunks.proofs.PartFacts.{first_some}
use Rattle.tuple_chunks.proofs.SumFacts.{some_shown}
use Rattle.tuple_chunks.proofs.TimeFacts.{covered, missed}
use Rattle.tuple_chunks.proofs.row.RowPart.shown.Goals as goal

pub shown_parts-requires : goal.shown_parts-requires
shown_parts-requires g c = omega (arith, ap (λ l. length (flat_map g.P.Part.tuples l)) c.deref.ensures.value, c.self.invariant.counted, c.self.invariant.fits)

pub returns-then-misses : goal.returns-then-misses
returns-then-misses g c =
    let low = c.args.low in
    let high = c.args.high in
    let tuples = c.args.self.now.tuples in
    let ordered = subst (λ (h : Held). TimesDoNotFall h.tuples) c.self.view_is c.self.invariant.holds.ordered in
    let test : (nat_lt (last_time tuples) low || nat_le high (first_time tuples)) ≡ true =
    (λ i. nat_lt (sym c.last_time-last.ensures i) low || nat_le high (sym c.first_time-first.ensures i)) ∙ sym c.misses.ensures ∙ c.if-misses.true in
    sym (ap shown_of (missed low high tuples ordered test))

pub returns-then-covers : goal.returns-then-covers
returns-then-covers g c =
    let low = c.args.low in
    let high = c.args.high in
    let tuples = c.args.self.now.tuples in
    let f = g.P.Part.tuples in
    let row = c.self.invariant in
    let ordered = subst (λ (h : Held). TimesDoNotFall h.tuples) c.self.view_is row.holds.ordered in
    let some = subst (λ (h : Held). 0 < length h.tuples) c.self.view_is (first_some f c.self.inside.parts.items row.holds (omega (arith, row.some))) in
    let number = row.counted ∙ ap (λ (h : Held). length h.tuples) c.self.view_is in
    let test : (nat_le low (first_time tuples) && nat_lt (last_time tuples) high) ≡ true =
    (λ i. nat_le low (sym c.first_time-first.ensures i) && nat_lt (sym c.last_time-last.ensures i) high) ∙ sym c.covers.ensures ∙ c.if-covers.true in
    (λ i. Some (record { low = c.first_time-first.ensures i; high = c.last_time-last.ensures i; number = number i }))
    ∙ sym (some_shown tuples some)
    ∙ ap shown_of (sym (covered low high tuples ordered test))
