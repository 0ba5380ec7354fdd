-- What is pending, and then the lines of the windows that are left, is what is left of all.
use Rattle.std.proofs.Common.{◌++◌, ◌-◌}
use Rattle.std.specs.List.{flat_map, range_with_len}
use Rattle.stream_base.specs.Model.Final.{window_lines}
use Rattle.emission_text.specs.Sending.{AppendsPrefix}
use Rattle.emission_text.specs.Summary.{windows_lines}
use Rattle.emission_text.proofs.summary.put_windows.Given as goal

abbrev pub invariant-loop-window : goal.invariant-loop-window
invariant-loop-window g l =
    AppendsPrefix g.K.Sink.taken g.K.Sink.faults (l.fn.out ++ windows_lines l.windows l.rows) (l.out ++ flat_map (window_lines l.rows) (range_with_len l.window (l.windows - l.window))) l.fn.sink l.sink
