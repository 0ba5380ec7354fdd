-- One text behind the other.
use Rattle.rows_run.proofs.Sent.{both_written, first_failed}
use Rattle.rows_run.proofs.sending.write_two.Goals as goal

pub returns-in-Ok : goal.returns-in-Ok
returns-in-Ok g c = both_written c.args.first.now c.args.second.now c.write_all-in-Ok.new.sink c.write_all-in-Ok.result c.in-Ok.ensures c.write_all-in-Ok.ensures

pub returns-in-Err : goal.returns-in-Err
returns-in-Err g c = first_failed c.args.first.now c.args.second.now c.in-Err.ensures
