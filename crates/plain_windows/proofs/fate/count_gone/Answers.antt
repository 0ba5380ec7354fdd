-- One is gone where none is found in its place.
use Rattle.std.proofs.Common.{length, ap, sym}
use Rattle.plain_windows.specs.Extents.{instance_in}
use Rattle.plain_windows.proofs.Fates.{goes, stays}
use Rattle.plain_windows.proofs.fate.count_gone.Goals as goal

pub returns-in-Some-clause-value : goal.returns-in-Some-clause-value
returns-in-Some-clause-value c = λ window key.
    ap length (sym (stays key c.args.new.now window c.args.window.now c.args.old.now.kept c.args.extent.now (instance_in c.args.new.now.kept c.in-Some.field-0) c.in-Some.ensures.found))

pub returns-in-None-clause-value : goal.returns-in-None-clause-value
returns-in-None-clause-value c = λ window key.
    ap length (sym (goes key c.args.new.now window c.args.window.now c.args.old.now.kept c.args.extent.now c.in-None.ensures.found))
