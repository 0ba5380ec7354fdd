-- What stood of the interval, if it selects a tuple.
use Rattle.std.proofs.Common.{◌∙◌, Some, None, cond, length, ap, sym, arith}
use Rattle.std.proofs.lemmas.Bool.{lt-ltb, le-ltb}
use Rattle.stream_base.specs.declared.former.Former.{Former}
use Rattle.stream_base.specs.Model.Changes.{former_of}
use Rattle.time_lanes.proofs.owner.former.Goals as goal

pub returns-then-shown-eq0 : goal.returns-then-shown-eq0
returns-then-shown-eq0 c = λ func i e.
    let number = ap (λ (f : Former). f.number) e in
    sym (ap (λ b. cond b (Some (former_of func i)) None) (le-ltb 0 (length i.chosen) (omega (arith, number, c.if-shown-eq0.true))))

pub returns : goal.returns
returns c = λ func i e.
    let number = ap (λ (f : Former). f.number) e in
    ap Some e ∙ sym (ap (λ b. cond b (Some (former_of func i)) None) (lt-ltb 0 (length i.chosen) (omega (arith, number, c.if-shown-eq0.false))))
