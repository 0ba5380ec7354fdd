-- Lists of different lengths differ.
use Rattle.std.proofs.Common.{sym}
use Rattle.plain_windows.proofs.Looking.{same_tuples_lengths}
use Rattle.plain_windows.proofs.fate.are_same_tuples.Goals as goal

pub returns-then-before-now : goal.returns-then-before-now
returns-then-before-now c = sym (same_tuples_lengths c.args.before.now c.args.now.now c.if-before-now.true)
