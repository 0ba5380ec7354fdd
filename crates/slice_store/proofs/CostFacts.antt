-- What a change of a partial costs, by how many lie behind it.
use Rattle.std.proofs.Common.{ℕ, ◌+◌, ◌≤◌, arith}
use Rattle.partials.specs.Apart.{SpendsNear}

-- more steps before a change, and more slices behind it
pub spends_more : (Near : ℕ → ℕ → Type 0) (behind far reach more most begun made makes : ℕ) → SpendsNear Near behind reach more begun makes → behind ≤ far → begun + more ≤ made + most → SpendsNear Near far reach most made makes
spends_more Near behind far reach more most begun made makes s farther before = record {
  levels = s.levels;
  pairs = s.pairs;
  fewer = omega (arith, s.fewer);
  near = s.near;
  within = s.within;
  cost = omega (arith, s.cost);
}
