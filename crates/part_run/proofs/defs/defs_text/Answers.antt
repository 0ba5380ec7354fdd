-- The definitions of the file are spelled, or it stops the command.
use Rattle.run_inputs.specs.Outside.{opens_of}
use Rattle.part_run.proofs.Parting.{defs_of_file, defs_stopped}
use Rattle.part_run.proofs.defs.defs_text.Goals as goal

pub returns-in-Ok-clause-spelled : goal.returns-in-Ok-clause-spelled
returns-in-Ok-clause-spelled g c =
    let opens = opens_of g.F.Files.asked g.F.Files.came c.args.files.now c.read_definitions.new.files in
    defs_of_file opens c.in-Ok.defs c.in-Ok.ensures.ends.ok c.spell.result c.spell.ensures.spelled

pub returns-in-Ok-clause-stopped : goal.returns-in-Ok-clause-stopped
returns-in-Ok-clause-stopped g c =
    let opens = opens_of g.F.Files.asked g.F.Files.came c.args.files.now c.read_definitions.new.files in
    defs_stopped c.args.name.now opens c.in-Ok.defs c.in-Ok.ensures.ends.ok c.spell.result c.spell.ensures.stopped
