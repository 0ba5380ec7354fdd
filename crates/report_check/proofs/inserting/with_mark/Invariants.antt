-- What is in front of the place stays, and the mark goes in behind it.
use Rattle.std.proofs.Common.{◌≡◌, ◌++◌, ℕ, List, take, drop}
use Rattle.std.specs.BTreeSet.{insert_key}
use Rattle.std.specs.Ordering.{nat_cmp}
use Rattle.report_check.proofs.inserting.with_mark.Given as goal

pub record GoesBehind (marks out : List ℕ) (time place : ℕ) : Type 0 where
  pub same : out ≡ marks
  pub all : take place marks ++ insert_key nat_cmp (drop place marks) time ≡ insert_key nat_cmp marks time

abbrev pub invariant-loop-place : goal.invariant-loop-place
invariant-loop-place l = GoesBehind l.marks l.out.items l.time l.place
