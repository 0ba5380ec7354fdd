-- Pairs in a tree, and the newest ones in a row beside it.
use Rattle.std.specs.Prelude.{◌≡◌, ◌≤◌, ◌<◌, ◌+◌, ◌-◌, ◌*◌, ◌/◌, ◌^◌, ◌||◌, ℕ, Bool, List, Some, length, max, min, nat_le, nat_lt, if◌then◌else◌, All}
use Rattle.agg_laws.specs.Pairs.{distance, value_at}

-- pairs of the time of a slice's first tuple and the slice's partial, for how many more there is room, what the bounds on steps go by, and from which time on partials stand in the row
pub record Sums (M : Type 0) : Type 0 where
  pub pairs : List (ℕ × M)
  pub spare : ℕ
  pub reach : ℕ
  pub edge : ℕ

-- no room was used, the reach didn't grow, and the row begins where it did
pub record KeepsRoom {M : Type 0} (old new : Sums M) : Type 0 where
  pub spare : old.spare ≤ new.spare
  pub reach : new.reach ≤ old.reach
  pub edge : new.edge ≡ old.edge

-- a partial changed that has so many behind it: in the row it took no level of a tree, and else no more than are near where no more lie behind; the steps go by the levels, and so many come on top
pub record SpendsNear (Near : ℕ → ℕ → Type 0) (behind reach more made makes : ℕ) : Type 0 where
  pub levels : ℕ
  pub pairs : ℕ
  pub fewer : pairs ≤ behind
  pub near : 1 ≤ levels → Near levels pairs
  pub within : levels ≤ reach
  pub cost : makes ≤ made + (64 * (levels + 2) + more)

-- a partial that stood in the row stands there still, and one that came from where the row began stands there now, unless 256 lie behind it
abbrev pub KeepsRow : {M : Type 0} → Sums M → Sums M → Type 0
KeepsRow old new = (time : ℕ) → old.edge ≤ time → distance time new.pairs < 256 → new.edge ≤ time

-- the partial under a time is read, in one step at most
pub record Reads {M : Type 0} (IsValue : M → Type 0) (low : ℕ) (pairs : List (ℕ × M)) (read : M) (made makes : ℕ) : Type 0 where
  pub value : (b : M) → IsValue b → value_at low pairs ≡ Some b → read ≡ b
  pub cost : makes ≤ made + 1

-- all keys are below an edge
abbrev pub AreBelow : {M : Type 0} → ℕ → List (ℕ × M) → Type 0
AreBelow edge pairs = All (λ p. p.0 < edge) pairs

-- none is
abbrev pub AreFrom : {M : Type 0} → ℕ → List (ℕ × M) → Type 0
AreFrom edge pairs = All (λ p. edge ≤ p.0) pairs

-- the keys in a tree are below an edge, and those in the row beside it aren't, of which there are at most 256
pub record AreApart {M : Type 0} (inside near : List (ℕ × M)) (edge : ℕ) : Type 0 where
  pub below : AreBelow edge inside
  pub from : AreFrom edge near
  pub few : length near ≤ 256

-- the reach of a tree that folds as fast as a row of so many pairs
abbrev pub row_reach : ℕ → ℕ
row_reach pairs = pairs / 32 - 1

-- a reach is that of a tree over at most so many slices, or that of a row of them, whichever is greater
pub record IsReachOver (bounded : ℕ → ℕ → Type 0) (slices reach : ℕ) : Type 0 where
  pub of_tree : ℕ
  pub pairs : ℕ
  pub few : pairs ≤ slices
  pub tree : bounded of_tree pairs
  pub of_row : ℕ
  pub row : 2 ^ of_row ≤ slices + 1
  pub is : reach ≡ max of_tree of_row

-- one pair more may go into the tree: another one did before, or there are as many pairs as the row takes
abbrev pub may_need_tree : ℕ → ℕ → Bool
may_need_tree edge pairs = nat_lt 0 edge || nat_le 256 pairs

-- for how many pairs more there is room, one at most: in the row, and also in the tree where one may go there
abbrev pub room_for : Bool → ℕ → ℕ → ℕ
room_for needs_tree tree row = min 1 (if needs_tree then min tree row else row)
