-- The first reports were read, and there is room for the others.
use Rattle.std.proofs.Common.{◌≡◌, length, map, string_bytes}
use Rattle.std.specs.Vec.{vec_capacity}
use Rattle.report_check.specs.Findings.{lists_of}
use Rattle.part_run.proofs.ReadTexts.{AreReadTo}
use Rattle.part_run.proofs.reports.read_reports.Given as goal

abbrev pub invariant-loop-i : goal.invariant-loop-i
invariant-loop-i g l = record {
  room : vec_capacity l.texts ≡ length l.names;
  read : AreReadTo g.F.Files.asked g.F.Files.came g.F.Files.told (map string_bytes l.names) l.i l.initial.files l.files (lists_of l.texts.items);
}
