-- The tuples from the time on are left, in the last parts.
use Rattle.std.proofs.Common.{◌≡◌, ◌∙◌, ℕ, ◌+◌, ◌<◌, None, ap, arith, length, subst, sym}
use Rattle.std.specs.List.{flat_map}
use Rattle.tuple_chunks.specs.Parts.{IsRow}
use Rattle.tuple_chunks.proofs.RowFacts.{dropped_fits, dropped_row, none_leaves}
use Rattle.tuple_chunks.proofs.row.RowPart.drop_before.Goals as goal

pub returns-then-time-first_time-clause-tuples : goal.returns-then-time-first_time-clause-tuples
returns-then-time-first_time-clause-tuples g c =
    let row = c.self.invariant in
    rw (← c.self.view_is) (none_leaves g.P.Part.tuples g.P.Part.spare c.self.inside.parts.items c.args.time c.index.result.now row.holds (omega (arith, row.some)) c.index.ensures (omega (arith, c.if-time-first_time.true, c.first_time.ensures)))

pub numbers-self-inside-requires : goal.numbers-self-inside-requires
numbers-self-inside-requires g c =
    let row = c.self.invariant in
    let fits = dropped_fits g.P.Part.tuples g.P.Part.spare c.self.inside.parts.items c.drop_parts-gone.new.parts.items c.args.time c.self.inside.number row.counted row.fits c.drop_parts-gone.ensures.tuples in
    omega (arith, fits, ap (λ l. length (flat_map g.P.Part.tuples l)) c.deref.ensures.value)

pub invariant_of-self : goal.invariant_of-self
invariant_of-self g c =
    let row = c.self.invariant in
    let gone = c.drop_parts-gone in
    let len : length gone.new.parts.items + gone.result ≡ length c.self.inside.parts.items = omega (arith, gone.ensures.len) in
    let some : 0 < length gone.new.parts.items = omega (arith, gone.ensures.some) in
    let keeps = λ (k : ℕ) (d : g.row.P.Denot) (l : k < length gone.new.parts.items). gone.ensures.spare k d (omega (arith, l)) in
    subst (λ n. IsRow g.P.Part.tuples g.P.Part.spare gone.new.parts.items c.numbers-self-inside.result n c.self.inside.ready None) (sym c.saturating_sub-self-inside.ensures)
    (dropped_row g.P.Part.tuples g.P.Part.spare c.self.inside.parts.items gone.new.parts.items c.args.time gone.result c.self.inside.number c.numbers-self-inside.result c.self.inside.entered c.self.inside.ready c.self.inside.sum row gone.ensures.tuples gone.ensures.parts len some keeps
    (c.numbers-self-inside.ensures ∙ ap (λ l. length (flat_map g.P.Part.tuples l)) c.deref.ensures.value))
