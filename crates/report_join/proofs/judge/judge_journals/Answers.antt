-- The text holds one journal.
use Rattle.std.proofs.Common.{◌≡◌, ◌∙◌, ◌∷◌, [], List, ap, sym}
use Rattle.stream_base.specs.declared.entry.Entry.{Entry}
use Rattle.stream_base.specs.Model.Journals.{journals_of}
use Rattle.report_join.specs.ShardReports.{form_told}
use Rattle.report_join.proofs.OneShard.{judged_one, one_item}
use Rattle.report_join.proofs.judge.judge_journals.Goals as goal

pub returns-in-len1 : goal.returns-in-len1
returns-in-len1 c =
    let text = c.args.text.now in
    let journal = c.entries.result.now in
    let items : journals_of text ≡ c.as_slice.result.now = sym (c.as_slice.ensures.value ∙ c.in_ok-journals.ensures) in
    let one : c.as_slice.result.now ≡ c.journal-item.result ∷ [] = one_item c.as_slice.result.now c.journal-item.result c.in-len1.len_at_least c.in-len1.len_below c.journal-item.is in
    let holds : journals_of text ≡ journal ∷ [] = items ∙ one ∙ ap (λ (j : List Entry). j ∷ []) (sym c.entries.ensures.value) in
    judged_one (form_told c.args.second) c.args.shards c.args.shard text journal c.misplaced.result record { ends = c.requires.ends; holds = holds } c.misplaced.ensures.some c.misplaced.ensures.none
