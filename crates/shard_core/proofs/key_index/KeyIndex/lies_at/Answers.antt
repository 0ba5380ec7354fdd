-- A key that lies at a place has it.
use Rattle.std.proofs.Common.{◌≡◌, ◌∙◌, ℕ, List, Some, ap, arith, get_or, subst, sym}
use Rattle.std.specs.Cmp.Lexicographic.{bytes_decides}
use Rattle.shard_core.specs.Placed.{place_in}
use Rattle.shard_core.proofs.key_index.KeyIndex.lies_at.Goals as goal

pub returns-then-place-len : goal.returns-then-place-len
returns-then-place-len c found =
    let entries = (c.self.inside.index).entries in
    let keys = c.self.inside.keys.items in
    let key = c.args.key.now in
    let there = c.index.result.now in
    let here : get_or keys c.args.place there ≡ key = sym c.index.ensures ∙ (bytes_decides there key).0 (sym c.eq.ensures ∙ found) in
    subst (λ (es : List (List ℕ × ℕ)). place_in es key ≡ Some c.args.place) c.self.view_is
    (ap (place_in entries) (sym here) ∙ c.self.invariant.found c.args.place there (omega arith))
