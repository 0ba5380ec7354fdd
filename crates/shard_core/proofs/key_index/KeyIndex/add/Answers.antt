-- The key has the next place.
use Rattle.std.proofs.Common.{◌≡◌, ◌∙◌, ◌+◌, ◌++◌, ◌∷◌, [], ℕ, List, None, Some, ap, arith, cond, length, subst, sym}
use Rattle.std.specs.Prelude.{is_some, if◌then◌else◌}
use Rattle.std.specs.BTreeMap.{is_at}
use Rattle.std.specs.Cmp.Lexicographic.{slice_cmp}
use Rattle.std.specs.Ordering.{nat_cmp}
use Rattle.shard_core.specs.Placed.{ArePlaced, place_in}
use Rattle.shard_core.proofs.Placing.{placed_more}
use Rattle.shard_core.proofs.key_index.KeyIndex.add.Goals as goal

pub invariant_of-self-2 : goal.invariant_of-self-2
invariant_of-self-2 c =
    let entries = (c.self.inside.index).entries in
    let keys = c.self.inside.keys.items in
    let key = c.args.key.now in
    let absent : place_in entries key ≡ None = subst (λ (es : List (List ℕ × ℕ)). place_in es key ≡ None) (sym c.self.view_is) c.requires in
    let at : c.len-place.result ≡ length keys = omega arith in
    subst (λ (ks : List (List ℕ)). ArePlaced (c.insert.new.self).entries ks) (sym (c.push_reserved.ensures.items ∙ ap (λ l. l ++ key ∷ []) c.reserve-2.ensures.items))
    (placed_more entries (c.insert.new.self).entries keys key c.self.invariant absent
    (λ q. c.in_ok-insert.ensures.updates.0 q ∙ ap (λ n. cond (is_at (slice_cmp nat_cmp key) q) (Some n) (place_in entries q)) at)
    c.insert.ensures.ordered
    (c.in_ok-insert.ensures.len ∙ ap (λ o. length entries + (if is_some o then 0 else 1)) (c.in_ok-insert.ensures.old ∙ absent)))
