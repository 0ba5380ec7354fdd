-- One text behind the other.
use Rattle.std.proofs.Common.{◌++◌}
use Rattle.rows_run.proofs.Sent.{both_written, first_failed}
use Rattle.rows_run.proofs.sending.write_three.Goals as goal

pub returns-in-Ok : goal.returns-in-Ok
returns-in-Ok g c = both_written c.args.first.now (c.args.second.now ++ c.args.third.now) c.write_two.new.sink c.write_two.result c.in-Ok.ensures c.write_two.ensures

pub returns-in-Err : goal.returns-in-Err
returns-in-Err g c = first_failed c.args.first.now (c.args.second.now ++ c.args.third.now) c.in-Err.ensures
