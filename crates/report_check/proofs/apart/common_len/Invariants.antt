-- The bytes so far are common, and then those that are common behind them.
use Rattle.std.proofs.Common.{◌≡◌, ◌+◌, ◌≤◌, ◌-◌, ℕ, List, length, drop}
use Rattle.report_check.specs.Apart.{common_front}
use Rattle.report_check.proofs.apart.common_len.Given as goal

pub record AreCommon (text other : List ℕ) (count : ℕ) : Type 0 where
  pub all : count + length (common_front (drop count text) (drop count other)) ≡ length (common_front text other)
  pub within : count ≤ length text

abbrev pub invariant-loop-count : goal.invariant-loop-count
invariant-loop-count l = AreCommon l.text l.other l.count

abbrev pub decreases-loop-count : goal.decreases-loop-count
decreases-loop-count l = length l.text - l.count
