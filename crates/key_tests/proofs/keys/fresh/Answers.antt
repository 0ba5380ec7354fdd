-- The engine can show all functions, and stands for no tuple and no mark.
use Rattle.std.proofs.Common.{ℕ, List, []}
use Rattle.std.proofs.lemmas.Result.{IfOk-weaker}
use Rattle.stream_base.specs.declared.kept.Kept.{Kept}
use Rattle.key_tests.proofs.keys.fresh.Goals as goal

pub fresh-requires : goal.fresh-requires
fresh-requires g c = g.met.K.AnyKey.serves_all c.args.defs.now

pub returns-clause-stands : goal.returns-clause-stands
returns-clause-stands g c =
    IfOk-weaker c.fresh.result (λ state. g.K.KeyWindows.fits c.args.defs.now [] [] c.args.water state) (λ state. (kept : List Kept) × (marks : List ℕ) × g.K.KeyWindows.fits c.args.defs.now kept marks c.args.water state) (λ state fits. ([], [], fits)) (c.fresh.ensures.empty c.args.water)
