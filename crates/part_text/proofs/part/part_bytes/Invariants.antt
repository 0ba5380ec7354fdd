-- What is written, and the part of the entries that are left, is the part of all.
use Rattle.std.proofs.Common.{◌≡◌, ◌++◌, drop}
use Rattle.part_laws.specs.Parts.{part_text}
use Rattle.part_text.proofs.part.part_bytes.Given as goal

abbrev pub invariant-loop-entry : goal.invariant-loop-entry
invariant-loop-entry l = l.bytes.items ++ part_text l.shards l.shard (drop l.entry-index l.entries) ≡ part_text l.shards l.shard l.entries
