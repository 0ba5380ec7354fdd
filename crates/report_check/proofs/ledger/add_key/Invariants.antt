-- What is in front of the place stays, and the key goes in behind it.
use Rattle.std.proofs.Common.{◌≡◌, ◌++◌, ℕ, List, take, drop}
use Rattle.std.specs.BTreeSet.{insert_key}
use Rattle.report_check.specs.Held.{Held}
use Rattle.report_check.specs.Ledgers.{by_key, nothing_of}
use Rattle.report_check.proofs.ledger.add_key.Given as goal

pub record GoesBehind (old keys : List Held) (key : List ℕ) (place : ℕ) : Type 0 where
  pub same : keys ≡ old
  pub all : take place old ++ insert_key by_key (drop place old) (nothing_of key) ≡ insert_key by_key old (nothing_of key)

abbrev pub invariant-loop-place : goal.invariant-loop-place
invariant-loop-place l = GoesBehind l.fn.keys.items l.keys.items l.key l.place
