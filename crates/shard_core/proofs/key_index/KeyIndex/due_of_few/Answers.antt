-- The places of the entries that are due, in their order.
use Rattle.std.proofs.Common.{◌≡◌, ◌∙◌, ◌++◌, ◌∷◌, [], ℕ, List, ap, append_assoc, get_or, sym}
use Rattle.std.specs.Prelude.{nat_le}
use Rattle.std.specs.Map.{values_of}
use Rattle.std.specs.Map.Iter.{deref}
use Rattle.std.proofs.lemmas.List.{append-nil}
use Rattle.std.proofs.lemmas.Map.Iter.{rest_more}
use Rattle.shard_core.proofs.Advance.{filter_of_map}
use Rattle.shard_core.proofs.key_index.KeyIndex.due_of_few.Goals as goal

pub loop-place-init : goal.loop-place-init
loop-place-init c =
    let all : c.into_iter-place-iterator.result ≡ values_of (c.in_ok-due.due).entries = c.into_iter-place-iterator.ensures.into_iter_gives ∙ c.values-place-items.ensures.rest in
    (λ i. c.new-places.ensures.items i ++ all i)
    ∙ ap values_of c.in_ok-due.ensures
    ∙ sym (filter_of_map (λ (e : List ℕ × ℕ). e.1) (λ p. nat_le (get_or c.args.dues.now.items p 0) c.args.water) c.args.self.now)

pub loop-place-preserved : goal.loop-place-preserved
loop-place-preserved c =
    let e : c.loop-place.place-iterator ≡ c.in-Some.place.now ∷ c.next.new.self = rest_more deref c.loop-place.place-iterator c.next.new.self c.next.result c.in-Some.place c.in-Some.is c.next.ensures.steps in
    ap (λ l. l ++ c.next.new.self) c.in_ok-push.ensures.items
    ∙ append_assoc c.loop-place.places.items (c.in-Some.place.now ∷ []) c.next.new.self
    ∙ (rw e at c.loop-place.invariant)

pub returns : goal.returns
returns c =
    sym (append-nil c.loop-place.places.items)
    ∙ ap (λ es. c.loop-place.places.items ++ es) (sym c.in-None.ensures.steps.0)
    ∙ c.loop-place.invariant
