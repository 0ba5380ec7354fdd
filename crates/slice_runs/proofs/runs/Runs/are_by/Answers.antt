-- The tuples of all slices are those that are held.
use Rattle.std.proofs.Common.{◌∙◌, ap, sym}
use Rattle.std.specs.Prelude.{nat_le}
use Rattle.stream_base.specs.Model.Windows.{last_time}
use Rattle.slice_runs.proofs.runs.Runs.are_by.Goals as goal

pub returns : goal.returns
returns c =
    rw (← c.self.view_is)
    (c.are_by.ensures ∙ ap (λ l. nat_le (last_time l) c.args.time) (sym c.self.invariant.parted.together))
