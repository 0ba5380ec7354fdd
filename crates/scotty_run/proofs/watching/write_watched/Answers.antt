-- The report goes out, and behind it the reads.
use Rattle.std.proofs.Common.{◌≡◌, ◌∙◌, ◌++◌, List, [], ◌∷◌, ap, map, subst, sym, length}
use Rattle.stream_base.specs.Limits.{Definitions}
use Rattle.stream_base.specs.Model.Text.{report_1}
use Rattle.shard_core.specs.Shard.{Sharded}
use Rattle.board_text.specs.Reads.{reads_text}
use Rattle.emission_text.specs.Report.{report_text}
use Rattle.emission_text.specs.Sending.{Appends, Fails, Writes}
use Rattle.emission_text.proofs.Sent.{appends_all, appends_before, fails_before, put_then_flushed, write_failed}
use Rattle.scotty_run.proofs.watching.write_watched.Goals as goal

pub returns-in_err-write_form : goal.returns-in_err-write_form
returns-in_err-write_form g c =
    let k = g.K.Sink in
    let watched = c.args.watched.now in
    let shard = watched.shard in
    let reads = reads_text (length shard.defs.windows) (map (λ v. v.items) watched.reads.items) in
    let failed = subst (λ (shards : List Sharded). Fails k.taken k.faults (report_text report_1 shards) c.args.sink.now c.write_form.new.sink) c.from_ref.ensures.value c.in_err-write_form.ensures in
    write_failed (report_text report_1 (shard ∷ []) ++ reads) c.write_form.new.sink c.from_residual.result c.from_residual.ensures.0 (fails_before reads failed)

pub returns : goal.returns
returns g c =
    let k = g.K.Sink in
    let watched = c.args.watched.now in
    let shard = watched.shard in
    let reads = reads_text (length shard.defs.windows) (map (λ v. v.items) watched.reads.items) in
    let went = subst (λ (shards : List Sharded). Appends k.taken k.faults (report_text report_1 shards) c.args.sink.now c.write_form.new.sink) c.from_ref.ensures.value c.in_ok-write_form.ensures in
    let windows : length c.windows.result.now ≡ length shard.defs.windows = ap length (c.windows.ensures.value) ∙ ap (λ (d : Definitions). length d.windows) c.defs.ensures.value in
    let told : reads_text (length c.windows.result.now) (map (λ v. v.items) c.deref.result.now) ≡ reads =
    ap (λ n. reads_text n (map (λ v. v.items) c.deref.result.now)) windows ∙ ap (λ (lists : List _). reads_text (length shard.defs.windows) (map (λ v. v.items) lists)) c.deref.ensures.value in
    put_then_flushed c.write_reads.new.sink c.write_reads.result (appends_before reads (appends_all went))
    (subst (λ text. Writes k.taken k.faults text c.write_form.new.sink c.write_reads.new.sink c.write_reads.result) told c.write_reads.ensures)
