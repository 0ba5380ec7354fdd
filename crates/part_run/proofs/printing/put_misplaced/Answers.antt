-- The two numbers stand in the line.
use Rattle.std.proofs.Common.{◌≡◌, ◌∙◌, ◌++◌, ℕ, List, codes, decimal, subst}
use Rattle.emission_text.specs.Sending.{Puts}
use Rattle.part_run.proofs.printing.put_misplaced.Goals as goal

pub returns : goal.returns
returns g c =
    let k = g.K.Sink in
    let report : c.as_bytes-report.result.now ≡ decimal c.args.report = c.as_bytes-report.ensures.value ∙ c.format.ensures.text in
    let number : c.as_bytes-number.result.now ≡ decimal c.args.number = c.as_bytes-number.ensures.value ∙ c.format-2.ensures.text in
    subst (λ (r : List ℕ). Puts k.taken k.faults (codes "fault entry " ++ (r ++ (codes " " ++ (decimal c.args.number ++ codes "\n")))) c.args.out.now c.put_pieces.new.out c.args.sink.now c.put_pieces.new.sink c.put_pieces.result) report
    (subst (λ (n : List ℕ). Puts k.taken k.faults (codes "fault entry " ++ (c.as_bytes-report.result.now ++ (codes " " ++ (n ++ codes "\n")))) c.args.out.now c.put_pieces.new.out c.args.sink.now c.put_pieces.new.sink c.put_pieces.result) number c.put_pieces.ensures)
