-- The shard has taken the entries so far.
use Rattle.std.proofs.Common.{◌≡◌, take}
use Rattle.report_replay.proofs.replay.replayed.Given as goal

abbrev pub invariant-loop-entry : goal.invariant-loop-entry
invariant-loop-entry g l = l.shard ≡ record { defs = l.defs; sources = l.sources; journal = take l.entry-index l.journal }
