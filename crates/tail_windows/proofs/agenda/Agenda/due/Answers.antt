-- Each turn adds the keys of one batch.
use Rattle.std.proofs.Common.{◌≡◌, ◌∙◌, ◌∷◌, ℕ, List, inl, inr, sym, subst, ⊎_elim}
use Rattle.std.specs.BTreeMap.Range.{entries_between, range_contains}
use Rattle.std.specs.List.{Contains}
use Rattle.std.specs.Map.Iter.{deref_pair}
use Rattle.std.specs.Ordering.{nat_cmp}
use Rattle.std.specs.declared.ops.Bound.TheVariants.{Included, Unbounded}
use Rattle.std.proofs.lemmas.Map.Iter.{rest_all, rest_more}
use Rattle.stream_base.proofs.Members.{filter_has}
use Rattle.stream_base.proofs.Rising.{none_in_nil, Contains-cons_cases}
use Rattle.tail_windows.specs.Noted.{IsNoted}
use Rattle.tail_windows.proofs.Noting.{in_reach, noted_entry}
use Rattle.tail_windows.proofs.agenda.Agenda.due.Goals as goal

pub loop-batch-init : goal.loop-batch-init
loop-batch-init c at k d reached =
    let batches = (c.self.inside.batches).entries in
    let (b, there, among) = noted_entry batches at k (subst (λ l. IsNoted l at k) (sym c.self.view_is) d) in
    let left : c.into_iter-batch-iterator.result ≡ entries_between nat_cmp Unbounded (Included c.args.water) batches = c.into_iter-batch-iterator.ensures.into_iter_gives ∙ c.range-batch-items.ensures.between tt in
    inr (b, subst (λ l. Contains l (at, b)) (sym left) (filter_has (λ (e : ℕ × List (List ℕ)). range_contains nat_cmp Unbounded (Included c.args.water) e.0) batches (at, b) there (in_reach at c.args.water reached)), among)

pub loop-batch-preserved : goal.loop-batch-preserved
loop-batch-preserved c at k d reached =
    let first : ℕ × List (List ℕ) = (c.in-Some.field-0-0.now, c.in-Some.batch.now) in
    let left : c.loop-batch.batch-iterator ≡ first ∷ c.next.new.self =
    rest_more deref_pair c.loop-batch.batch-iterator c.next.new.self c.next.result (c.in-Some.field-0-0, c.in-Some.batch) c.in-Some.is c.next.ensures.steps in
    ⊎_elim
    (λ there. inl (c.add_to.ensures.kept k there))
    (λ (b, later, among). ⊎_elim
    (λ (same : first ≡ (at, b)). inl (c.in_ok-add_to.ensures.added k (subst (λ (e : ℕ × List (List ℕ)). Contains e.1 k) (sym same) among)))
    (λ f. inr (b, f, among))
    (Contains-cons_cases first c.next.new.self (at, b) (subst (λ l. Contains l (at, b)) left later)))
    (c.loop-batch.invariant at k d reached)

pub returns : goal.returns
returns c at k d reached = ⊎_elim
    (λ there. there)
    (λ (b, later, among). absurd (none_in_nil (at, b) (subst (λ l. Contains l (at, b)) (rest_all deref_pair c.loop-batch.batch-iterator c.next.new.self c.next.result c.in-None.is c.next.ensures.steps) later)))
    (c.loop-batch.invariant at k d reached)
