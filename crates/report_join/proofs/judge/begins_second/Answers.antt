-- The text has the front, or it hasn't.
use Rattle.std.proofs.Common.{codes, drop, rules}
use Rattle.std.specs.contracts.prelude.U8PartialEq.TheImpl as bytes
use Rattle.std.proofs.lemmas.Slice.Eq.{starts_is}
use Rattle.report_join.proofs.judge.begins_second.Goals as goal

pub returns : goal.returns
returns c =
    let h = starts_is {E = (bytes.ghosts).eq} (λ a b. search rules) c.args.text.now (codes "report 2\nshard 0\n") c.starts_with.result c.starts_with.ensures.value in
    (λ t. (drop 17 c.args.text.now, h.0 t), λ later. h.1 later.0 later.1)
