-- The line feeds so far, and those that are left.
use Rattle.std.proofs.Common.{◌≡◌, ◌==◌, ◌+◌, ◌≤◌, ℕ, List, length, drop, filter}
use Rattle.report_check.proofs.apart.line_behind.Given as goal

pub record AreCounted (bytes : List ℕ) (place line : ℕ) : Type 0 where
  pub all : line + length (filter (λ byte. byte == 10) (drop place bytes)) ≡ length (filter (λ byte. byte == 10) bytes) + 1
  pub few : line ≤ place + 1

abbrev pub invariant-loop-byte : goal.invariant-loop-byte
invariant-loop-byte l = AreCounted l.bytes l.byte-index l.line
