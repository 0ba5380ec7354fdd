-- Each window is one part more.
use Rattle.std.proofs.Common.{◌+◌, ◌-◌}
use Rattle.std.specs.List.{flat_map, range_with_len}
use Rattle.stream_base.specs.Model.Final.{window_lines}
use Rattle.emission_text.specs.Summary.{windows_lines}
use Rattle.emission_text.proofs.Sent.{part_failed, part_put, put_failed}
use Rattle.emission_text.proofs.Tallies.{windows_more}
use Rattle.emission_text.proofs.summary.put_windows.Goals as goal

pub returns-in_err-put_window : goal.returns-in_err-put_window
returns-in_err-put_window g c =
    put_failed (windows_lines c.args.windows c.args.rows.now) c.args.out.now c.put_window.new.out c.put_window.new.sink c.from_residual.result c.from_residual.ensures.0
    (part_failed c.loop-window.out (window_lines c.args.rows.now c.loop-window.window) (flat_map (window_lines c.args.rows.now) (range_with_len (c.loop-window.window + 1) (c.args.windows - (c.loop-window.window + 1))))
    (windows_more c.args.rows.now c.loop-window.window c.args.windows c.loop-window-test.true) c.loop-window.invariant c.in_err-put_window.ensures)

pub loop-window-preserved : goal.loop-window-preserved
loop-window-preserved g c =
    part_put c.loop-window.out (window_lines c.args.rows.now c.loop-window.window) (flat_map (window_lines c.args.rows.now) (range_with_len (c.loop-window.window + 1) (c.args.windows - (c.loop-window.window + 1))))
    (windows_more c.args.rows.now c.loop-window.window c.args.windows c.loop-window-test.true) c.loop-window.invariant c.in_ok-put_window.ensures
