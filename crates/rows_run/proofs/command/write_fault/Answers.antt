-- Each line is that of its fault.
use Rattle.std.proofs.Common.{◌≡◌, ◌++◌, ◌∷◌, [], ℕ, List, rules, subst, sym}
use Rattle.std.specs.Prelude.{codes, decimal}
use Rattle.rows_run.specs.Sending.{Writes}
use Rattle.rows_run.specs.Statuses.{fault_line}
use Rattle.rows_run.specs.declared.fault.RowsFault.{RowsFault}
use Rattle.rows_run.specs.declared.fault.RowsFault.TheVariants.{Line}
use Rattle.rows_run.proofs.command.write_fault.Goals as goal

pub returns-in-Open : goal.returns-in-Open
returns-in-Open g c =
    subst (λ (f : RowsFault). Writes g.K.Sink.taken g.K.Sink.faults (fault_line f) c.args.sink.now c.write_all-in-Open.new.sink c.write_all-in-Open.result) (sym c.in-Open.is) c.write_all-in-Open.ensures

pub returns-in-Read : goal.returns-in-Read
returns-in-Read g c =
    subst (λ (f : RowsFault). Writes g.K.Sink.taken g.K.Sink.faults (fault_line f) c.args.sink.now c.write_all-in-Read.new.sink c.write_all-in-Read.result) (sym c.in-Read.is) c.write_all-in-Read.ensures

pub returns-in-NoMemory : goal.returns-in-NoMemory
returns-in-NoMemory g c =
    subst (λ (f : RowsFault). Writes g.K.Sink.taken g.K.Sink.faults (fault_line f) c.args.sink.now c.write_all-in-NoMemory.new.sink c.write_all-in-NoMemory.result) (sym c.in-NoMemory.is) c.write_all-in-NoMemory.ensures

pub returns-in-Line : goal.returns-in-Line
returns-in-Line g c =
    let number : c.as_bytes-number.result.now ≡ decimal c.in-Line.number = search rules in
    let told : Writes g.K.Sink.taken g.K.Sink.faults (fault_line (Line c.in-Line.number)) c.args.sink.now c.write_three.new.sink c.write_three.result
    = subst (λ (digits : List ℕ). Writes g.K.Sink.taken g.K.Sink.faults (codes "fault line " ++ (digits ++ 10 ∷ [])) c.args.sink.now c.write_three.new.sink c.write_three.result) number c.write_three.ensures in
    subst (λ (f : RowsFault). Writes g.K.Sink.taken g.K.Sink.faults (fault_line f) c.args.sink.now c.write_three.new.sink c.write_three.result) (sym c.in-Line.is) told
