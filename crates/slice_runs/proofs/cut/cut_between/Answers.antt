-- The computed test and the one of the definitions agree within the limits.
use Rattle.std.proofs.Common.{◌≡◌, ◌∙◌, [], ap}
use Rattle.std.specs.List.{list_any}
use Rattle.std.proofs.Math.Bool.{or-false}
use Rattle.stream_base.specs.Model.Cuts.{has_cut}
use Rattle.stream_base.specs.Kinds.{cuts_between}
use Rattle.stream_base.proofs.CutFacts.{any_decides}
use Rattle.slice_runs.proofs.cut.cut_between.Goals as goal

pub returns-clause-computed : goal.returns-clause-computed
returns-clause-computed c = c.have_cut.ensures ∙ ap (λ ws. has_cut ws [] c.args.low c.args.high) c.windows.ensures.value

pub returns-clause-exactly : goal.returns-clause-exactly
returns-clause-exactly c =
    let any : c.have_cut.result ≡ list_any (λ w. cuts_between w.kind c.args.low c.args.high) c.args.defs.now.windows = returns-clause-computed c ∙ or-false _ in
    rw any (any_decides c.args.defs.now.windows c.args.low c.args.high c.windows.ensures.limits.kinds)
