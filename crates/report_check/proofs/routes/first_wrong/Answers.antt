-- One shard more is right.
use Rattle.std.proofs.Common.{◌≡◌, ◌∙◌, [], length, get_or, subst}
use Rattle.std.proofs.lemmas.List.{get_or_default}
use Rattle.report_check.specs.Findings.{IsJudged, IsRight, lists_of}
use Rattle.report_check.proofs.Judging.{one_more}
use Rattle.report_check.proofs.routes.first_wrong.Goals as goal

pub loop-place-preserved : goal.loop-place-preserved
loop-place-preserved c =
    let shards = length c.args.journals.now in
    let sources = lists_of c.args.sources.now in
    let judged : IsRight shards sources c.loop-place.place c.entries-journal.result.now = subst (λ found. IsJudged shards sources c.loop-place.place c.entries-journal.result.now found) c.in-None.is c.in_ok-source.ensures in
    let there : c.entries-journal.result.now ≡ get_or c.args.journals.now c.loop-place.place c.index-journals-place.result = c.entries-journal.ensures.value ∙ c.index-journals-place.is in
    let same : c.entries-journal.result.now ≡ get_or c.args.journals.now c.loop-place.place [] = there ∙ get_or_default c.args.journals.now c.loop-place.place c.index-journals-place.result [] c.loop-place-test.true in
    one_more (λ k. IsRight shards sources k (get_or c.args.journals.now k [])) c.loop-place.place c.loop-place.invariant
    (subst (λ journal. IsRight shards sources c.loop-place.place journal) same judged)
