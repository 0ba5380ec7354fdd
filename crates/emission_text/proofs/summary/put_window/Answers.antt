-- What the rows come to, and then the last of them.
use Rattle.std.proofs.Common.{◌++◌}
use Rattle.emission_text.specs.Summary.{last_line, tally_line}
use Rattle.emission_text.proofs.Sent.{both_put, first_failed, put_failed}
use Rattle.emission_text.proofs.Tallies.{tally-lines}
use Rattle.emission_text.proofs.summary.put_window.Goals as goal

pub returns-in_err-put_counts : goal.returns-in_err-put_counts
returns-in_err-put_counts g c =
    let t = c.of_window-tally.result in
    rw (← tally-lines c.args.window c.args.rows.now t c.of_window-tally.ensures)
    (put_failed (tally_line c.args.window t.rows t.numbers ++ last_line t.last) c.args.out.now c.put_counts.new.out c.put_counts.new.sink c.from_residual.result c.from_residual.ensures.0
    (first_failed c.args.out.now (tally_line c.args.window t.rows t.numbers) (last_line t.last) c.in_err-put_counts.ensures))

pub returns : goal.returns
returns g c =
    let t = c.of_window-tally.result in
    rw (← tally-lines c.args.window c.args.rows.now t c.of_window-tally.ensures)
    (both_put c.args.out.now (tally_line c.args.window t.rows t.numbers) (last_line t.last) c.put_last.new.out c.put_last.new.sink c.put_last.result c.in_ok-put_counts.ensures c.put_last.ensures)
