-- How many nodes of a store are full, where one node is put or taken out.
use Rattle.std.proofs.Common.{◌≡◌, ◌≢◌, ◌≤◌, ◌==◌, ◌+◌, ◌-◌, ℕ, zero, suc, true, false, List, [], ◌∷◌, Option, None, Some, IsSome, length, refl, sym, ap, ◌∙◌, arith, inl, inr}
use Rattle.std.specs.Prelude.{slice_index_or}
use Rattle.std.specs.Option.{option_map}
use Rattle.std.proofs.lemmas.Bool.{cases_eq}
use Rattle.std.proofs.lemmas.Bool.Decides.{nat_tests}
use Rattle.fiba_nodes.specs.declared.slot.Slot.{Slot}
use Rattle.fiba_nodes.specs.declared.node.Node.{Node}
use Rattle.fiba_nodes.specs.Rows.{Plain, plain_node, slots_of}
use Rattle.fiba_nodes.specs.Stores.{Puts, Store, full_in, full_nodes, fullness, held, look}
use Rattle.fiba_nodes.specs.Trees.{plain}
use Rattle.fiba_nodes.proofs.Nesting.{few_slots}

pub fullness_few : (n : ℕ) → n ≤ 3 → fullness n ≡ n - 2
fullness_few n le =
    elim (cases_eq n 3) [
      | inl e ↦ let t : (n == 3) ≡ true = grind (arith, nat_tests) in rw t (omega arith)
      | inr ne ↦ let t : (n == 3) ≡ false = grind (arith, nat_tests) in rw t (omega arith)
    ]

pub fullness_many : (n : ℕ) → 4 ≤ n → fullness n ≡ 0
fullness_many n le = let t : (n == 3) ≡ false = grind (arith, nat_tests) in rw t refl

module _ {M : Type 0} where
  -- a node has one item at least, and three at most
  pub held_few : (o : Option (Node M)) → held o ≤ 3
  held_few None = omega arith
  held_few (Some n) = few_slots n

  pub held_some : (o : Option (Node M)) → IsSome o → 1 ≤ held o
  held_some None s = let e : false ≡ true = s in cc
  held_some (Some n) s = omega arith

  -- the items of a node that was opened
  pub held_is : (o : Option (Node M)) (n : Node M) (slots : List (Slot M)) → o ≡ Some n → slots ≡ slots_of n → held o ≡ length slots
  held_is o n slots is are = ap held is ∙ sym (ap length are)

  abbrev plain_held : Option (Plain M) → ℕ
  plain_held None = 0
  plain_held (Some n) = length n.slots

  held_plain : (o : Option (Node M)) → held o ≡ plain_held (option_map plain_node o)
  held_plain None = refl
  held_plain (Some n) = refl

  full_same : (xs ys : List (Option (Node M))) → ((k : ℕ) → held (slice_index_or ys k None) ≡ held (slice_index_or xs k None)) → full_in ys ≡ full_in xs
  full_same [] [] same = refl
  full_same [] (y ∷ ys) same =
      let a : fullness (held y) ≡ 0 = ap fullness (same 0) in
      let rest = full_same [] ys (λ k. same (suc k)) in
      omega arith
  full_same (x ∷ xs) [] same =
      let a : 0 ≡ fullness (held x) = ap fullness (same 0) in
      let rest = full_same xs [] (λ k. same (suc k)) in
      omega arith
  full_same (x ∷ xs) (y ∷ ys) same =
      let a : fullness (held y) ≡ fullness (held x) = ap fullness (same 0) in
      let rest = full_same xs ys (λ k. same (suc k)) in
      omega arith

  full_but : (xs ys : List (Option (Node M))) (at : ℕ) → ((k : ℕ) → k ≢ at → held (slice_index_or ys k None) ≡ held (slice_index_or xs k None)) → full_in ys + fullness (held (slice_index_or xs at None)) ≡ full_in xs + fullness (held (slice_index_or ys at None))
  full_but [] [] at other = omega arith
  full_but [] (y ∷ ys) zero other = let rest = full_same [] ys (λ k. other (suc k) (λ e. omega arith)) in omega arith
  full_but (x ∷ xs) [] zero other = let rest = full_same xs [] (λ k. other (suc k) (λ e. omega arith)) in omega arith
  full_but (x ∷ xs) (y ∷ ys) zero other =
      let rest = full_same xs ys (λ k. other (suc k) (λ e. omega arith)) in omega arith
  full_but [] (y ∷ ys) (suc at) other =
      let a : fullness (held y) ≡ 0 = ap fullness (other 0 (λ e. omega arith)) in
      let rest = full_but [] ys at (λ k ne. other (suc k) (λ e. ne (omega arith))) in
      omega arith
  full_but (x ∷ xs) [] (suc at) other =
      let a : 0 ≡ fullness (held x) = ap fullness (other 0 (λ e. omega arith)) in
      let rest = full_but xs [] at (λ k ne. other (suc k) (λ e. ne (omega arith))) in
      omega arith
  full_but (x ∷ xs) (y ∷ ys) (suc at) other =
      let a : fullness (held y) ≡ fullness (held x) = ap fullness (other 0 (λ e. omega arith)) in
      let rest = full_but xs ys at (λ k ne. other (suc k) (λ e. ne (omega arith))) in
      omega arith

  pub full_kept : (old new : Store M) → new.cells ≡ old.cells → full_nodes new ≡ full_nodes old
  unfolding full_nodes
  full_kept old new kept = ap full_in kept

  pub full_none : (s : Store M) → ((k : ℕ) → look s k ≡ None) → full_nodes s ≡ 0
  unfolding full_nodes
  full_none s none = full_same [] s.cells (λ k. ap held (none k))

  -- the parents of nodes don't count
  full_plain : (old new : Store M) → ((k : ℕ) → plain new k ≡ plain old k) → full_nodes new ≡ full_nodes old
  unfolding full_nodes
  full_plain old new same =
      full_same old.cells new.cells (λ k. held_plain (look new k) ∙ ap plain_held (same k) ∙ sym (held_plain (look old k)))

  -- a node comes in the place of another, or goes
  pub full_puts : (old new : Store M) (at : ℕ) (node : Option (Node M)) → Puts old new at node → full_nodes new + fullness (held (look old at)) ≡ full_nodes old + fullness (held node)
  unfolding full_nodes
  full_puts old new at node put =
      let e = full_but old.cells new.cells at (λ k ne. ap held (put.others k ne)) in
      let h : fullness (held (look new at)) ≡ fullness (held node) = ap (λ o. fullness (held o)) put.here in
      omega arith

  pub full_written : (old now new : Store M) (at : ℕ) (node : Node M) (slots : List (Slot M)) → ((k : ℕ) → plain now k ≡ plain old k) → Puts now new at (Some node) → slots_of node ≡ slots → full_nodes new + fullness (held (look old at)) ≡ full_nodes old + fullness (length slots)
  full_written old now new at node slots same put are =
      let a = full_plain old now same in
      let b = full_puts now new at (Some node) put in
      let h : fullness (held (look now at)) ≡ fullness (held (look old at)) = ap fullness (held_plain (look now at) ∙ ap plain_held (same at) ∙ sym (held_plain (look old at))) in
      let l : fullness (length (slots_of node)) ≡ fullness (length slots) = ap (λ xs. fullness (length xs)) are in
      omega arith

  pub full_created : (old mid new : Store M) (at : ℕ) (node : Node M) (slots : List (Slot M)) → look old at ≡ None → Puts old mid at (Some node) → slots_of node ≡ slots → full_nodes new + fullness (held (look mid at)) ≡ full_nodes mid + fullness (length slots) → full_nodes new ≡ full_nodes old + fullness (length slots)
  full_created old mid new at node slots free put are written =
      let a = full_puts old mid at (Some node) put in
      let z : fullness (held (look old at)) ≡ 0 = ap (λ o. fullness (held o)) free in
      let h : fullness (held (look mid at)) ≡ fullness (length slots) = ap (λ o. fullness (held o)) put.here ∙ ap (λ xs. fullness (length xs)) are in
      let l : fullness (length (slots_of node)) ≡ fullness (length slots) = ap (λ xs. fullness (length xs)) are in
      omega arith
