-- What ended by the old watermark lies in front.
use Rattle.std.proofs.Common.{◌≡◌, arith, inl, inr, ⊎_elim}
use Rattle.std.specs.Prelude.{max}
use Rattle.std.proofs.lemmas.Bool.{cases_lt}
use Rattle.window_spans.proofs.Apart.{highs_rise}
use Rattle.window_spans.proofs.Searches.{due_at}
use Rattle.window_spans.proofs.searching.due.Goals as goal

pub ended_by-from-requires : goal.ended_by-from-requires
ended_by-from-requires c = highs_rise c.args.spans.now c.requires.apart

pub ended_by-to-requires : goal.ended_by-to-requires
ended_by-to-requires c = highs_rise c.args.spans.now c.requires.apart

pub returns-clause-due : goal.returns-clause-due
returns-clause-due c =
    let from = c.ended_by-from.result in
    let to = c.ended_by-to.result in
    let most = c.max.result in
    let is : most ≡ max to from = c.max.ensures in
    due_at c.args.old c.args.new c.args.spans.now from to most c.ended_by-from.ensures c.ended_by-to.ensures (omega arith) (omega arith)
    (⊎_elim (λ l. inl (omega arith)) (λ l. inr (omega arith)) (cases_lt to from))
