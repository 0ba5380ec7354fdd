-- The windows are those of the definitions.
use Rattle.part_text.proofs.DefinitionsTold.{same_along}
use Rattle.part_text.proofs.defs_text.have_same_windows.Goals as goal

pub returns : goal.returns
returns c =
    same_along c.windows.result.now c.windows-2.result.now c.args.read.now.windows c.args.defs.now.windows c.are_all_same.result c.windows.ensures.value c.windows-2.ensures.value c.are_all_same.ensures
