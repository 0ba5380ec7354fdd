-- The iteration finds a window that cuts by the computed test.
use Rattle.std.proofs.Common.{◌∙◌, sym, rules, tests}
use Rattle.std.proofs.Math.Bool.{or-false}
use Rattle.std.proofs.lemmas.Iterator.{YieldsList-from_slice}
use Rattle.std.proofs.lemmas.Iterator.Search.{any_from_yields_List}
use Rattle.stream_base.specs.declared.def.Def.{Def}
use Rattle.stream_base.specs.Kinds.{cuts_between}
use Rattle.slice_runs.proofs.cut.have_cut.Goals as goal

pub returns : goal.returns
returns c =
    let windows = c.args.windows.now in
    any_from_yields_List (λ (w : Def). cuts_between w.kind c.args.low c.args.high) _ _ c.any.result c.any.ensures.ran (YieldsList-from_slice windows cc) (λ x b q k. search (rules, tests)) ∙ sym (or-false _)
