-- The keys that came stand before the next one's place, so no key comes twice.
use Rattle.std.proofs.Common.{◌≡◌, ◌<◌, ◌+◌, ℕ, false, List, arith}
use Rattle.agg_laws.specs.Pairs.{has_key, inserted}
use Rattle.tree_times.specs.declared.order.Order.{Order}
use Rattle.tree_times.specs.Orders.{rank_of}
use Rattle.tree_times.proofs.Keys.{KeysAre, none_yet, one_more}

-- the keys of these pairs stand before a place
abbrev pub AreBefore : {M : Type 0} → Order → ℕ → List (ℕ × M) → Type 0
AreBefore order i pairs = KeysAre (λ key. rank_of order key < i) pairs

module _ {M : Type 0} where
  pub none_at : (order : Order) (i key : ℕ) (ps : List (ℕ × M)) → AreBefore order i ps → rank_of order key ≡ i → has_key key ps ≡ false
  none_at order i key ps before e = none_yet (λ k. rank_of order k < i) key ps before (λ lt. omega (arith, lt, e))

  pub next_at : (order : Order) (i key : ℕ) (value : M) (ps : List (ℕ × M)) → AreBefore order i ps → rank_of order key ≡ i → AreBefore order (i + 1) (inserted key value ps)
  next_at order i key value ps before e = one_more (λ k. rank_of order k < i + 1) key value ps (λ k h. let lt = before k h in omega (arith, lt)) (omega (arith, e))
