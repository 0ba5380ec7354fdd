-- The last part has the last tuple.
use Rattle.std.proofs.Common.{◌≡◌, ◌∙◌, ◌-◌, arith, get_or, length, subst}
use Rattle.tuple_chunks.proofs.RowFacts.{last_of_parts}
use Rattle.tuple_chunks.proofs.row.RowPart.last_time.Goals as goal

pub returns : goal.returns
returns g c =
    let parts = c.self.inside.parts.items in
    let o = c.index.result.now in
    let len : c.len.result ≡ length parts = omega (arith, c.len.ensures) in
    let is = subst (λ n. o ≡ get_or parts (n - 1) o) len c.index.ensures in
    rw (← c.self.view_is) (c.last_time.ensures ∙ last_of_parts g.P.Part.tuples g.P.Part.spare parts o c.self.invariant.holds (omega (arith, c.self.invariant.some)) is)
