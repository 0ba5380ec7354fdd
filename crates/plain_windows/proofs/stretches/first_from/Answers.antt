-- To start at or after a time is to start at or after the first edge from it on.
use Rattle.std.proofs.Common.{◌∙◌, sym, arith}
use Rattle.plain_windows.proofs.EdgeFacts.{zero_is_edge, no_stretch_beyond, stretch_from}
use Rattle.plain_windows.proofs.Telling.{tells_none}
use Rattle.plain_windows.proofs.stretches.first_from.Goals as goal

pub first_behind-requires : goal.first_behind-requires
first_behind-requires c = zero_is_edge c.args.view.now.marks

pub first_behind-requires-2 : goal.first_behind-requires-2
first_behind-requires-2 c = c.edge_after.ensures.edge

pub returns-then-from-gt-FINAL : goal.returns-then-from-gt-FINAL
returns-then-from-gt-FINAL c =
    tells_none _ _ (no_stretch_beyond c.args.view.now.marks c.args.view.now.kept c.args.from c.vouch.ensures.mark_times (omega arith))

pub returns : goal.returns
returns c = record {
  found =
      c.first_behind-2.ensures.found
      ∙ sym (stretch_from c.args.view.now.marks c.args.view.now.kept c.args.from c.edge_after.result (omega (arith, c.edge_after.ensures.after)) (λ e on le. c.edge_after.ensures.first e on (omega arith)));
  inside = c.first_behind-2.ensures.inside;
}
