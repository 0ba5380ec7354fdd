-- The text has the last line, behind another line's end, or it hasn't.
use Rattle.std.proofs.Common.{◌-◌, codes, length, rules, take}
use Rattle.std.specs.contracts.prelude.U8PartialEq.TheImpl as bytes
use Rattle.std.proofs.lemmas.Slice.Eq.{ends_is}
use Rattle.report_join.proofs.judge.ends.Goals as goal

pub returns : goal.returns
returns c =
    let h = ends_is {E = (bytes.ghosts).eq} (λ a b. search rules) c.args.text.now (codes "\nend\n") c.ends_with.result c.ends_with.ensures.value in
    (λ t. (take (length c.args.text.now - 5) c.args.text.now, h.0 t), λ before. h.1 before.0 before.1)
