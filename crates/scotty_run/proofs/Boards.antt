-- What is watched of files, and the text that is written of it.
use Rattle.std.proofs.Common.{◌≡◌, ◌∙◌, ◌<◌, ◌≤◌, ◌+◌, ◌++◌, ◌==◌, ℕ, Bool, true, List, [], ◌∷◌, All, length, map, filter, Option, Some, None, Result, Ok, Err, ap, sym, subst, refl, arith, inl, inr, cond}
use Rattle.std.specs.Prelude.{◌%◌, sum}
use Rattle.std.specs.Option.{option_map_or}
use Rattle.std.proofs.lemmas.List.Elements.{All-nil, All-push}
use Rattle.stream_base.specs.Limits.{Definitions}
use Rattle.stream_base.specs.Model.Routes.{goes_to, number_of, routed, shard_of}
use Rattle.stream_base.specs.Model.Text.{report_1, report_of}
use Rattle.stream_base.specs.Model.What.{key_in}
use Rattle.stream_base.specs.declared.entry.Entry.{Entry}
use Rattle.stream_base.specs.declared.limits.TheConstants.{JOURNAL_MAX}
use Rattle.stream_base.specs.declared.what.What.{What}
use Rattle.shard_core.specs.Shard.{Sharded}
use Rattle.live_board.specs.Tallies.{turns}
use Rattle.live_board.specs.Watched.{entries_in}
use Rattle.live_board.specs.declared.tally.Tally.{Tally}
use Rattle.live_board.specs.declared.watched.Watched.{Watched}
use Rattle.board_text.specs.Reads.{reads_text}
use Rattle.emission_text.specs.Report.{AreAlike, report_text}
use Rattle.emission_text.proofs.Reports.{report_text-alike}
use Rattle.emission_text.specs.declared.fault.Fault.{Fault}
use Rattle.emission_text.specs.declared.fault.Fault.TheVariants.{Usage, Defs, Unopened, Row, Read, FullSource, FullShard, ReportOpen, ReportRead, ReportFull, NoMemory}
use Rattle.scotty_run.specs.Answer.{IsTextOfFiles}
use Rattle.run_inputs.specs.Causes.{AreAllRead, IsOverfull, StopsAtSources, count_routed}
use Rattle.command_words.specs.Jobs.{job_of_watch}
use Rattle.run_inputs.specs.Outside.{Opens}
use Rattle.scotty_run.specs.Watching.{IsBoardOf, IsFullBoard, IsWatchedOfFiles, watched_text}
use Rattle.command_words.specs.Words.{Watch}

-- ---- one shard gets all entries
all_go : (what : What) → goes_to 1 0 what ≡ true
all_go what = by (key_in what)
  where
    same : (n : ℕ) → n % 1 ≡ 0
    same n = omega arith

    at : (m : ℕ) → m ≡ 0 → (m == 0) ≡ true
    at m e = ap (λ (k : ℕ). k == 0) e

    by : (key : Option (List ℕ)) → option_map_or (λ k. shard_of k 1 == 0) key true ≡ true
    by None = refl
    by (Some key) = at (number_of key % 1) (same (number_of key))

all_routed : (entries : List Entry) → routed 1 0 entries ≡ entries
all_routed [] = refl
all_routed (e ∷ es) = ap (λ (b : Bool). cond b (e ∷ routed 1 0 es) (routed 1 0 es)) (all_go e.what) ∙ ap (λ (rest : List Entry). e ∷ rest) (all_routed es)

all_counted : (all : List (List Entry)) → count_routed 1 all 0 ≡ entries_in all
all_counted all = ap sum (by all)
  where
    by : (lists : List (List Entry)) → map (λ entries. length (routed 1 0 entries)) lists ≡ map length lists
    by [] = refl
    by (es ∷ lists) = ap (λ (n : ℕ). n ∷ map (λ entries. length (routed 1 0 entries)) lists) (ap length (all_routed es)) ∙ ap (λ (ns : List ℕ). length es ∷ ns) (by lists)

few_counted : (all : List (List Entry)) → entries_in all ≤ JOURNAL_MAX → (k : ℕ) → k < 1 → count_routed 1 all k ≤ JOURNAL_MAX
few_counted all few k l =
    let first : 0 ≡ k = omega (arith, l) in
    subst (λ (n : ℕ). count_routed 1 all n ≤ JOURNAL_MAX) first (omega (arith, few, all_counted all))

-- ---- faults
-- what stops sources of no shard stops those of any
pub stops_among : (names : List (List ℕ)) (shards : ℕ) (d : Definitions) (opens : Opens) (fault : Fault) → StopsAtSources names 0 d opens fault → StopsAtSources names shards d opens fault
stops_among names shards d opens Usage h = h
stops_among names shards d opens (Defs cause) h = h
stops_among names shards d opens (Unopened None) h = h
stops_among names shards d opens (Unopened (Some source)) h = h
stops_among names shards d opens (Row source number why) h = h
stops_among names shards d opens (Read None) h = h
stops_among names shards d opens (Read (Some source)) h = h
stops_among names shards d opens (FullSource source) h = h
stops_among names shards d opens (FullShard k) h = let inside = h.inside in absurd (let no : ⊥ = omega (arith, inside) in no)
stops_among names shards d opens ReportOpen h = h
stops_among names shards d opens ReportRead h = h
stops_among names shards d opens ReportFull h = h
stops_among names shards d opens NoMemory h = h

-- too many entries stop the one shard
pub board_stops : (names : List (List ℕ)) (d : Definitions) (opens : Opens) (all : List (List Entry)) → AreAllRead names d opens all → (fault : Fault) → IsFullBoard all fault → StopsAtSources names 1 d opens fault
board_stops names d opens all read fault (inl (is, many)) =
    subst (StopsAtSources names 1 d opens) (sym is) record {
      inside = omega arith;
      all = all;
      sources = read;
      many = omega (arith, many, all_counted all);
    }
board_stops names d opens all read fault (inr is) = subst (StopsAtSources names 1 d opens) (sym is) tt

-- ---- the text
pub board_text : (w : Watch) (opens : Opens) (watched : Watched) → IsWatchedOfFiles w opens watched → IsTextOfFiles (job_of_watch w) (IsBoardOf w) opens (watched_text watched)
board_text w opens watched files =
    let inner = files.in_sources in
    let own = (inner.watched_of).is_watched in
    let shard = watched.shard in
    let lists = map (λ v. v.items) watched.reads.items in
    let d = files.d in
    let all = inner.all in
    let alike : AreAlike d (length all) (shard ∷ []) = All-push (λ (s : Sharded). (s.defs ≡ d) × (s.sources ≡ length all)) [] shard (All-nil (λ (s : Sharded). (s.defs ≡ d) × (s.sources ≡ length all))) (own.defs, own.sources_are) in
    let report : report_text report_1 (shard ∷ []) ≡ report_of report_1 d (length all) (turns all ∷ []) =
    report_text-alike report_1 d (length all) (shard ∷ []) alike ∙ ap (λ (j : List Entry). report_of report_1 d (length all) (j ∷ [])) own.journal in
    record {
      d = d;
      definitions = files.definitions;
      all = all;
      sources = inner.sources;
      few = few_counted all (inner.watched_of).few;
      written = record {
        lists = lists;
        one_each = own.one_each;
        reads_are = own.reads_are;
        text_is = ap (λ (text : List ℕ). text ++ reads_text (length shard.defs.windows) lists) report
            ∙ ap (λ (defs : Definitions). report_of report_1 d (length all) (turns all ∷ []) ++ reads_text (length defs.windows) lists) own.defs;
      };
    }
