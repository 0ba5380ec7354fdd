-- A split takes a full node away, which pays for it.
use Rattle.std.proofs.Common.{◌≡◌, ◌≤◌, ◌+◌, ◌-◌, ◌++◌, ℕ, true, List, Option, None, Some, length, refl, ap, ◌∙◌, arith, length-append, inl, inr}
use Rattle.std.proofs.lemmas.Bool.{cases_lt}
use Rattle.fiba_nodes.specs.declared.item.Item.{Item}
use Rattle.fiba_nodes.specs.declared.change.Change.{Change}
use Rattle.fiba_nodes.specs.declared.change.Change.TheVariants.{Insert, Set, Remove, First}
use Rattle.fiba_nodes.specs.Stores.{fullness}
use Rattle.fiba_nodes.specs.Changes.{Applies, IsPaid, growth, incoming, is_set, item_of, pairs_of}
use Rattle.fiba_nodes.proofs.Changing.{grown}
use Rattle.fiba_nodes.proofs.Fullness.{fullness_few, fullness_many}

module _ {M : Type 0} where
  growth_small : (change : Change M) → growth change ≤ 1
  growth_small (Insert item) = omega arith
  growth_small (Set item) = omega arith
  growth_small (Remove at) = omega arith
  growth_small First = omega arith

  set_even : (change : Change M) (taken : Option (Item M)) → is_set change ≡ true → length (pairs_of (incoming change taken)) ≡ length (pairs_of taken)
  set_even (Insert item) taken e = cc
  set_even (Set item) None e = refl
  set_even (Set item) (Some old) e = refl
  set_even (Remove at) taken e = cc
  set_even First taken e = cc

  -- no node changes, and the open node has as many items
  pub paid_same : (change : Change M) (full spare held count : ℕ) → count ≡ held → IsPaid change full full spare spare held count
  paid_same change full spare held count same = record {
    longer = omega arith;
    grows = λ g. omega arith;
    shrinks = λ g. omega arith;
    kept = λ e. (refl, same);
  }

  -- no node changes, and the open node is a leaf
  pub paid_leaf : (change : Change M) (taken : Option (Item M)) (old new : List (ℕ × M)) (full spare held count : ℕ) → Applies change taken old new → held ≡ length old → count ≡ length new → IsPaid change full full spare spare held count
  paid_leaf change taken old new full spare held count a is will =
      let more = grown change taken old new a in
      let small = growth_small change in
      record {
        longer = omega arith;
        grows = λ g. omega arith;
        shrinks = λ g. omega arith;
        kept = λ e.
            let x = ap length a.was ∙ length-append (a.front ++ pairs_of taken) a.back in
            let y = ap length a.is ∙ length-append (a.front ++ pairs_of (incoming change taken)) a.back in
            let z = length-append a.front (pairs_of taken) in
            let w = length-append a.front (pairs_of (incoming change taken)) in
            let s = set_even change taken e in
            (refl, omega arith);
      }

  set_grows : (change : Change M) → is_set change ≡ true → growth change ≡ 0
  set_grows (Insert item) e = cc
  set_grows (Set item) e = refl
  set_grows (Remove at) e = cc
  set_grows First e = cc

  -- the change went through a child of the open node, and the child is closed again
  module _ (change : Change M) (full mid left spare more rest old child held count was : ℕ) (p : IsPaid change full mid spare more old child) (same : was ≡ old) (few : old ≤ 3) where
    pub paid_below : 1 ≤ old → (1 ≤ growth change → 1 ≤ child) → left + fullness was ≤ mid + fullness child → (1 ≤ child → left + fullness was ≡ mid + fullness child) → count ≤ held + (child - 3) → (1 ≤ child → held ≤ count) → (1 ≤ child → rest + (child - 3) ≡ more) → IsPaid change full left spare rest held count
    paid_below some grows closed even fits kept taken =
        let small = growth_small change in
        let longer = p.longer in
        let w = fullness_few was (omega arith) in
        record {
          longer = omega arith;
          grows = λ g.
              let c = grows g in
              let e = even c in
              let t = taken c in
              let q = p.grows g in
              elim (cases_lt 3 child) [
                | inl gt ↦ let f = fullness_many child (omega arith) in omega arith
                | inr le ↦ let f = fullness_few child le in omega arith
              ];
          shrinks = λ g. let q = p.shrinks g in let f = fullness_few child (omega arith) in omega arith;
          kept = λ s.
              let q = p.kept s in
              let a : mid ≡ full = q.0 in
              let b : child ≡ old = q.1 in
              let e = even (omega arith) in
              let k = kept (omega arith) in
              let f = fullness_few child (omega arith) in
              (omega arith, omega arith);
        }

    -- the open node is closed
    pub paid_closed : (1 ≤ growth change → more ≤ spare) → left + fullness was ≡ mid + fullness child → (left ≤ full + growth change) × (is_set change ≡ true → left ≡ full)
    paid_closed grows closed =
        let small = growth_small change in
        let longer = p.longer in
        let w = fullness_few was (omega arith) in (
          elim (cases_lt 0 (growth change)) [
            | inl g ↦
                let q = p.grows (omega arith) in
                let m = grows (omega arith) in
                elim (cases_lt 3 child) [
                  | inl gt ↦ let f = fullness_many child (omega arith) in omega arith
                  | inr le ↦ let f = fullness_few child le in omega arith
                ]
            | inr z ↦ let q = p.shrinks (omega arith) in let f = fullness_few child (omega arith) in omega arith
          ],
          λ s.
              let q = p.kept s in
              let a : mid ≡ full = q.0 in
              let b : child ≡ old = q.1 in
              let f = fullness_few child (omega arith) in
              omega arith,
        )

    -- and so many nodes were split
    pub paid_splits : (splits : ℕ) → 1 ≤ growth change → more + splits ≡ spare → left + fullness was ≡ mid + fullness child → left + (splits + (child - 3)) ≤ full + 1
    paid_splits splits g taken closed =
        let small = growth_small change in
        let longer = p.longer in
        let w = fullness_few was (omega arith) in
        let q = p.grows g in
        elim (cases_lt 3 child) [
          | inl gt ↦ let f = fullness_many child (omega arith) in omega arith
          | inr le ↦ let f = fullness_few child le in omega arith
        ]

  -- the first item of a child of the open node came in the place of the one that goes
  pub paid_out : (change : Change M) (full mid left spare more rest old child held count was : ℕ) → item_of change ≡ None → IsPaid {M = M} First full mid spare more old child → was ≡ old → old ≤ 3 → left + fullness was ≤ mid + fullness child → count ≤ held + (child - 3) → IsPaid change full left spare rest held count
  paid_out change full mid left spare more rest old child held count was none p same few closed fits =
      let z : growth change ≡ 0 = elim change as (λ c. item_of c ≡ None → growth c ≡ 0) [ Insert x ↦ λ e. cc | Set x ↦ λ e. refl | Remove x ↦ λ e. refl | First ↦ λ e. refl ] none in
      let longer = p.longer in
      let q = p.shrinks refl in
      let w = fullness_few was (omega arith) in
      let f = fullness_few child (omega arith) in
      record {
        longer = omega arith;
        grows = λ g. absurd (omega arith);
        shrinks = λ g. omega arith;
        kept = λ s. absurd (elim change as (λ c. item_of c ≡ None → is_set c ≡ true → ⊥) [ Insert x ↦ λ e t. cc | Set x ↦ λ e t. cc | Remove x ↦ λ e t. cc | First ↦ λ e t. cc ] none s);
      }
