-- A part whose last tuple is before the time leaves whole, and the next one loses what is before it.
use Rattle.std.proofs.Common.{◌≡◌, ◌∙◌, ◌<◌, ◌≤◌, ap, arith, length, subst, sym}
use Rattle.std.specs.Prelude.{nat_le, remove}
use Rattle.std.specs.List.{filter, flat_map}
use Rattle.std.proofs.lemmas.List.{get_or_default}
use Rattle.stream_base.specs.declared.kept.Kept.{Kept}
use Rattle.stream_base.specs.Model.Windows.{last_time}
use Rattle.tuple_chunks.specs.Parts.{AreParts}
use Rattle.tuple_chunks.proofs.PartFacts.{IsLeft, first_leaves, trimmed, trimmed_parts}
use Rattle.tuple_chunks.proofs.RowFacts.{remove_drop}
use Rattle.tuple_chunks.proofs.row.drop_parts.Goals as goal

pub loop-parts-preserved : goal.loop-parts-preserved
loop-parts-preserved g c =
    let f = g.P.Part.tuples in
    let time = c.args.time in
    let loop = c.loop-parts in
    let now = loop.parts.items in
    let o = c.index.result.now in
    let some : 0 < length now = omega (arith, loop.invariant.some) in
    let early : last_time (f o) < time = omega (arith, c.last_time.ensures, c.loop-parts-test.true) in
    let left : IsLeft f time now (remove now 0) = first_leaves f now time o loop.invariant.holds some c.index.ensures early loop.invariant.stays in
    let is : c.remove.new.self.items ≡ remove now 0 = c.remove.ensures.items in
    record {
      rest = is ∙ remove_drop loop.gone c.args.parts.now.items now loop.invariant.rest (omega (arith, loop.invariant.len, loop.invariant.some));
      len = omega (arith, c.remove.ensures.len, loop.invariant.len);
      some = omega (arith, ap length is, left.some);
      holds = subst (AreParts f) (sym is) left.holds;
      same = loop.invariant.same ∙ left.same ∙ ap (λ l. filter (λ (x : Kept). nat_le time x.time) (flat_map f l)) (sym is);
      stays = subst (λ l. time ≤ last_time (flat_map f l)) (sym is) left.stays;
    }

pub returns-clause-tuples : goal.returns-clause-tuples
returns-clause-tuples g c =
    let f = g.P.Part.tuples in
    let time = c.args.time in
    let loop = c.loop-parts in
    let now = loop.parts.items in
    let o = c.index_mut-first.result.now in
    let some : 0 < length now = omega (arith, loop.invariant.some) in
    let same : c.index.result.now ≡ o = c.index.ensures ∙ get_or_default now 0 c.index.result.now o some ∙ sym c.index_mut-first.ensures.value in
    let late : time ≤ last_time (f o) = omega (arith, c.last_time.ensures, c.loop-parts-test.false, ap (λ q. last_time (f q)) same) in
    trimmed f now time o c.drop_before.new.self loop.invariant.holds some c.index_mut-first.ensures.value late c.drop_before.ensures.tuples ∙ sym loop.invariant.same

pub returns-clause-parts : goal.returns-clause-parts
returns-clause-parts g c =
    let f = g.P.Part.tuples in
    let time = c.args.time in
    let loop = c.loop-parts in
    let now = loop.parts.items in
    let o = c.index_mut-first.result.now in
    let some : 0 < length now = omega (arith, loop.invariant.some) in
    let same : c.index.result.now ≡ o = c.index.ensures ∙ get_or_default now 0 c.index.result.now o some ∙ sym c.index_mut-first.ensures.value in
    let late : time ≤ last_time (f o) = omega (arith, c.last_time.ensures, c.loop-parts-test.false, ap (λ q. last_time (f q)) same) in
    trimmed_parts f now time o c.drop_before.new.self loop.invariant.holds some c.index_mut-first.ensures.value late c.drop_before.ensures.tuples
