-- The first form has no line of its own.
use Rattle.std.proofs.Common.{◌++◌, Bool, subst, sym}
use Rattle.report_join.specs.ShardReports.{form_told}
use Rattle.emission_text.specs.Sending.{AppendsPrefix, Puts}
use Rattle.emission_text.proofs.Sent.{puts_nothing}
use Rattle.part_run.proofs.join.put_front.Goals as goal

pub returns-then-second : goal.returns-then-second
returns-then-second g c =
    let k = g.K.Sink in
    subst (λ (b : Bool). Puts k.taken k.faults (form_told b).front c.args.out.now c.put_pieces.new.out c.args.sink.now c.put_pieces.new.sink c.put_pieces.result) (sym c.if-second.true) c.put_pieces.ensures

pub returns-else-second : goal.returns-else-second
returns-else-second g c =
    let k = g.K.Sink in
    subst (λ (b : Bool). AppendsPrefix k.taken k.faults (c.args.out.now ++ (form_told b).front) c.args.out.now c.args.sink.now c.args.sink.now) (sym c.if-second.false) (puts_nothing c.args.out.now c.args.sink.now)
