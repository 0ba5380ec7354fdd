-- A slice begins within the limits.
use Rattle.std.proofs.Common.{◌<◌, ap, arith, length}
use Rattle.slice_lists.specs.declared.slice.Slice.{Slice}
use Rattle.slice_lists.proofs.SliceFacts.{ends_in_time}
use Rattle.slice_runs.proofs.cuts.last_entered.Goals as goal

pub has_cut-requires : goal.has_cut-requires
has_cut-requires c =
    let l : c.args.at < length c.args.runs.now.slices = omega arith in
    record {
      kinds = c.requires.kinds;
      times = record {
        ordered = omega (arith, ap (λ (s : Slice). s.low) c.slice.ensures.shown, c.requires.later l);
        in_time = omega (arith, ap (λ (s : Slice). s.low) c.slice.ensures.shown, (ends_in_time c.args.runs.now.slices c.args.at l c.slice.ensures.holds).0);
      };
    }
