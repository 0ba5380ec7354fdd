-- To end after the watermark is to start at or after the last edge up to it.
use Rattle.std.proofs.Common.{◌∙◌, sym, arith}
use Rattle.plain_windows.proofs.EdgeFacts.{no_stretch_above, stretch_above}
use Rattle.plain_windows.proofs.Telling.{tells_none}
use Rattle.plain_windows.proofs.stretches.first_above.Goals as goal

pub returns-then-water-ge-FINAL : goal.returns-then-water-ge-FINAL
returns-then-water-ge-FINAL c =
    tells_none _ _ (no_stretch_above c.args.view.now.marks c.args.view.now.kept c.args.water c.vouch.ensures.mark_times (omega arith))

pub first_behind-requires : goal.first_behind-requires
first_behind-requires c = c.edge_up_to.ensures.edge

pub returns : goal.returns
returns c = record {
  found =
      c.first_behind.ensures.found
      ∙ sym (stretch_above c.args.view.now.marks c.args.view.now.kept c.args.water c.edge_up_to.result c.edge_up_to.ensures.edge c.edge_up_to.ensures.up_to c.edge_up_to.ensures.last);
  inside = c.first_behind.ensures.inside;
}
