-- Each turn puts one key in.
use Rattle.std.proofs.Common.{◌≡◌, ◌∷◌, ℕ, List, inl, inr, sym, subst, ⊎_elim}
use Rattle.std.specs.BTreeSet.{insert_key}
use Rattle.std.specs.Cmp.Lexicographic.{slice_cmp}
use Rattle.std.specs.List.{Contains}
use Rattle.std.specs.Ordering.{nat_cmp}
use Rattle.std.specs.Map.Iter.{deref}
use Rattle.std.proofs.lemmas.Map.Iter.{rest_all, rest_more}
use Rattle.std.proofs.lemmas.Map.Lookups.{exact_bytes}
use Rattle.stream_base.proofs.Rising.{none_in_nil, Contains-cons_cases, Contains-insert_key, Contains-insert_key_self}
use Rattle.tail_windows.proofs.batch.Batch.add_to.Goals as goal

pub loop-key-preserved : goal.loop-key-preserved
loop-key-preserved c =
    let due = c.loop-key.due.keys in
    let key = c.in-Some.key.now in
    let put : c.insert.new.self.keys ≡ insert_key (slice_cmp nat_cmp) due key = c.in_ok-insert.ensures.keys in
    let left : c.loop-key.key-iterator ≡ key ∷ c.next.new.self = rest_more deref c.loop-key.key-iterator c.next.new.self c.next.result c.in-Some.key c.in-Some.is c.next.ensures.steps in
    let stays : (k : List ℕ) → Contains due k → Contains c.insert.new.self.keys k = λ k d. subst (λ l. Contains l k) (sym put) (Contains-insert_key (slice_cmp nat_cmp) key due k d) in (
      λ k d. stays k (c.loop-key.invariant.0 k d),
      λ k d. ⊎_elim
          (λ there. inl (stays k there))
          (λ later. ⊎_elim
          (λ (e : key ≡ k). inl (subst (λ l. Contains l k) (sym put) (subst (λ q. Contains (insert_key (slice_cmp nat_cmp) due key) q) e (Contains-insert_key_self (slice_cmp nat_cmp) exact_bytes key due))))
          (λ f. inr f)
          (Contains-cons_cases key c.next.new.self k (subst (λ l. Contains l k) left later)))
          (c.loop-key.invariant.1 k d),
    )

pub returns-clause-added : goal.returns-clause-added
returns-clause-added c k d = ⊎_elim
    (λ there. there)
    (λ later. absurd (none_in_nil k (subst (λ l. Contains l k) (rest_all deref c.loop-key.key-iterator c.next.new.self c.next.result c.in-None.is c.next.ensures.steps) later)))
    (c.loop-key.invariant.1 k d)

pub returns-in_err-insert-clause-kept : goal.returns-in_err-insert-clause-kept
returns-in_err-insert-clause-kept c k d = subst (λ l. Contains l k) (sym c.in_err-insert.ensures.err) (c.loop-key.invariant.0 k d)
