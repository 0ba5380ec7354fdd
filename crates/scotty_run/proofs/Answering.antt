-- The answer to a run, by what became of its files.
use Rattle.std.proofs.Common.{◌≡◌, ◌∙◌, ◌<◌, ◌≤◌, ℕ, List, [], ◌∷◌, All, length, map, get_or, ap, sym, subst, arith}
use Rattle.std.proofs.lemmas.List.{get_or-map, length-map, get_or_default}
use Rattle.std.proofs.lemmas.List.Elements.{All-map}
use Rattle.stream_base.specs.Model.Journals.{AreEntriesWithin, journals_of}
use Rattle.report_laws.specs.ReadBack.{AreWithin, IsToldFromJournals}
use Rattle.stream_base.specs.declared.entry.Entry.{Entry}
use Rattle.stream_base.specs.declared.limits.TheConstants.{JOURNAL_MAX}
use Rattle.stream_base.specs.Model.Routes.{IsLawful, entries_from, routed}
use Rattle.stream_base.specs.Model.Text.{report_of}
use Rattle.report_laws.proofs.ReadBack.{journals_of-report_of}
use Rattle.report_laws.proofs.ReadBackChanges.{report_1-told, report_2-told}
use Rattle.shard_core.specs.Shard.{IsJournal, Sharded}
use Rattle.emission_text.specs.Report.{report_text}
use Rattle.report_lines.specs.Forms.{form_of}
use Rattle.report_lines.specs.declared.report_form.ReportForm.{ReportForm}
use Rattle.report_lines.specs.declared.report_form.ReportForm.TheVariants.{One, Two}
use Rattle.emission_text.proofs.Reports.{report_text-alike}
use Rattle.scotty_run.specs.Answer.{IsReportOfFiles}
use Rattle.run_inputs.specs.Causes.{AreShardsOfFiles, count_routed}
use Rattle.run_inputs.specs.Outside.{Opens}
use Rattle.command_words.specs.Words.{Run}
use Rattle.scotty_run.proofs.Counting.{sum_within}

-- ---- the report
form_told : (form : ReportForm) → IsToldFromJournals (form_of form)
form_told One = report_1-told
form_told Two = report_2-told

-- every shard's journal is within the limits
abbrev pub AreJournals : List Sharded → Type 0
AreJournals shards = All (λ s. IsJournal s.sources s.journal) shards

pub within : (shards : List Sharded) → length shards ≤ 16 → AreJournals shards → AreWithin (map (λ s. s.journal) shards)
within shards few vouched = record {
  few = let n = length-map shards (λ (s : Sharded). s.journal) in omega (arith, few, n);
  entries = All-map AreEntriesWithin (λ s. s.journal) shards (λ k s l. ((vouched k s l).known).within);
}

-- where the journals are lawful, no shard is full
pub few_routed : (shards : List Sharded) → AreJournals shards → (many : ℕ) (all : List (List Entry)) → IsLawful many all (map (λ s. s.journal) shards) → (k : ℕ) → k < many → count_routed many all k ≤ JOURNAL_MAX
few_routed shards vouched many all lawful k l =
    let inside : k < length (map (λ (s : Sharded). s.journal) shards) = let n = lawful.count in omega (arith, l, n) in
    let there : k < length shards = let n = length-map shards (λ (s : Sharded). s.journal) in omega (arith, inside, n) in
    let s = some_shard shards there in
    let at : get_or (map (λ (s : Sharded). s.journal) shards) k [] ≡ (get_or shards k s).journal =
    get_or_default (map (λ (s : Sharded). s.journal) shards) k [] s.journal inside ∙ get_or-map (λ (x : Sharded). x.journal) shards k s s.journal there in
    let journal = (get_or shards k s).journal in
    let short : length journal ≤ JOURNAL_MAX = (vouched k s there).short in
    let sum = sum_within (λ es. length (routed many k es)) journal all
    (λ i m. let held = lawful.held k i inside m in let sizes : length (entries_from i journal) ≡ length (routed many k (get_or all i [])) = ap (λ (j : List Entry). length (entries_from i j)) (sym at) ∙ ap length held in omega (arith, sizes)) in
    omega (arith, short, sum)
  where
    some_shard : (xs : List Sharded) → k < length xs → Sharded
    some_shard [] l = absurd (let no : ⊥ = omega (arith, l) in no)
    some_shard (x ∷ xs) l = x

-- the report of the shards of a run's files is one of what these gave
pub text_is : (run : Run) (opens : Opens) (shards : List Sharded) → AreShardsOfFiles run opens shards → IsReportOfFiles run opens (report_text (form_of run.form) shards)
text_is run opens shards files = record {
  d = files.d;
  definitions = files.definitions;
  all = (files.filled).all;
  sources = (files.filled).sources;
  few = few_routed shards (files.filled).journals run.shards (files.filled).all (files.filled).lawful;
  written = record {
    report_is = alike ∙ ap (report_of (form_of run.form) files.d (length run.sources)) (sym read_back);
    lawful = subst (λ (js : List (List Entry)). IsLawful run.shards (files.filled).all js) (sym read_back) (files.filled).lawful;
  };
}
  where
    journals : List (List Entry)
    journals = map (λ s. s.journal) shards

    alike : report_text (form_of run.form) shards ≡ report_of (form_of run.form) files.d (length run.sources) journals
    alike = report_text-alike (form_of run.form) files.d (length run.sources) shards (files.filled).alike

    -- the journals that stand in the text are the shards'
    read_back : journals_of (report_text (form_of run.form) shards) ≡ journals
    read_back = ap journals_of alike ∙ journals_of-report_of (form_of run.form) files.d (length run.sources) journals (form_told run.form) (within shards (files.filled).few (files.filled).journals)
