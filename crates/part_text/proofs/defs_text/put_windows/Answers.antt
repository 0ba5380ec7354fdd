-- The text of one window more.
use Rattle.part_text.specs.DefinitionsText.{window_text}
use Rattle.part_text.proofs.TextParts.{element_more}
use Rattle.part_text.proofs.defs_text.put_windows.Goals as goal

pub loop-window-preserved : goal.loop-window-preserved
loop-window-preserved c =
    element_more window_text c.args.windows.now c.loop-window.window-index _ c.loop-window.text.items c.put_window.new.text.items _ c.loop-window-test.true c.loop-window.invariant c.in_ok-put_window.ensures
