-- The tails of files, and the text that is written of them.
use Rattle.std.proofs.Common.{◌≡◌, ◌∙◌, ◌++◌, ◌<◌, ◌≤◌, ℕ, List, [], ◌∷◌, All, length, map, get_or, append-nil, ap, ap₂, refl, inr, sym, subst, arith}
use Rattle.stream_base.specs.Limits.{Definitions}
use Rattle.stream_base.specs.declared.entry.Entry.{Entry}
use Rattle.stream_base.specs.Model.Journals.{journals_of}
use Rattle.stream_base.specs.Model.Routes.{IsLawful}
use Rattle.shard_core.specs.Shard.{Sharded}
use Rattle.emission_text.specs.declared.fault.Fault.{Fault}
use Rattle.tail_windows.specs.Report.{tail_report_of}
use Rattle.tail_text.specs.Texts.{AreAsLong, ByPosition, tail_changes_in, tails_text}
use Rattle.tail_text.proofs.FollowingFacts.{length_behind}
use Rattle.tail_text.proofs.TextFacts.{tails_text-is_report}
use Rattle.tail_text.proofs.TailLines.{journals_of-tail_report_of}
use Rattle.scotty_run.specs.Answer.{IsTextOfFiles}
use Rattle.outside.specs.Outside.{Came}
use Rattle.run_inputs.specs.Causes.{AreAllRead, AreShardsOf, StopsAtSources}
use Rattle.command_words.specs.LastWords.{LastRun, job_of_last, last_definitions}
use Rattle.run_inputs.specs.Outside.{Opens, OpensInOrder, Telling, behind}
use Rattle.scotty_run.specs.Tailing.{AreOfSources, AreShardsOfLast, AreTailsOf, IsTailReportOf, StopsAtLast}
use Rattle.scotty_run.proofs.Answering.{few_routed, within}

-- behind no opens stand all of them
behind_none : (opens : Opens) → behind [] opens ≡ opens
behind_none opens = ap (λ (before : List (List ℕ)). record { before = before; after = opens.after; came = opens.came }) (append-nil opens.before)

-- what stops the sources stops the run of tails, whose words tell its definitions
pub sources_stop : (l : LastRun) (opens : Opens) (fault : Fault) → StopsAtSources l.sources l.shards (last_definitions l) opens fault → StopsAtLast l opens fault
sources_stop l opens fault cause =
    inr record {
      d = last_definitions l;
      definitions = refl;
      cause = subst (λ (os : Opens). StopsAtSources l.sources l.shards (last_definitions l) os fault) (sym (behind_none opens)) cause;
    }

-- the text of the shards of its files is one that it may write
pub last_text : (l : LastRun) (opens : Opens) (shards : List Sharded) (tails : List ByPosition) → AreShardsOfLast l opens shards → AreTailsOf l shards tails
    → IsTextOfFiles (job_of_last l) (IsTailReportOf l) opens (tails_text (map (λ s. s.journal) shards) tails)
last_text l opens shards tails filled followed = record {
  d = last_definitions l;
  definitions = refl;
  all = filled.all;
  sources = subst (λ (os : Opens). AreAllRead l.sources (last_definitions l) os filled.all) (sym (behind_none opens)) filled.sources;
  few = few_routed shards filled.journals l.shards filled.all filled.lawful;
  written = record {
    report_is = told ∙ ap (tail_report_of l.tail l.lateness (length l.sources)) (sym read_back);
    lawful = subst (λ (js : List (List Entry)). IsLawful l.shards filled.all js) (sym read_back) filled.lawful;
  };
}
  where
    journals : List (List Entry)
    journals = map (λ s. s.journal) shards

    -- the changes of shards are those of their journals
    alongside : (xs : List Sharded) → map (λ s. tail_changes_in l.tail l.lateness (length l.sources) s.journal) xs ≡ map (tail_changes_in l.tail l.lateness (length l.sources)) (map (λ s. s.journal) xs)
    alongside [] = refl
    alongside (x ∷ xs) = ap (λ (rest : List ByPosition). tail_changes_in l.tail l.lateness (length l.sources) x.journal ∷ rest) (alongside xs)

    told : tails_text journals tails ≡ tail_report_of l.tail l.lateness (length l.sources) journals
    told = ap (tails_text journals) (followed ∙ alongside shards) ∙ tails_text-is_report l.tail l.lateness (length l.sources) journals

    -- the journals that stand in the text are the shards'
    read_back : journals_of (tails_text journals tails) ≡ journals
    read_back = ap journals_of told ∙ journals_of-tail_report_of l.tail l.lateness (length l.sources) journals (within shards filled.few filled.journals)

-- its entries are of its sources
pub of_sources : (l : LastRun) (opens : Opens) (shards : List Sharded) → AreShardsOfLast l opens shards → AreOfSources (length l.sources) shards
of_sources l opens shards filled k s inside =
    subst (λ n. All (λ (e : Entry). e.source < n) (get_or shards k s).journal) (filled.alike k s inside).1 ((filled.journals k s inside).known).known_sources

-- the tails are as long as the journals
pub as_long : (l : LastRun) (shards : List Sharded) (tails : List ByPosition) → AreTailsOf l shards tails → AreAsLong (map (λ s. s.journal) shards) tails
as_long l shards tails followed = ap (map length) followed ∙ by shards
  where
    by : (xs : List Sharded) → map length (map (λ s. tail_changes_in l.tail l.lateness (length l.sources) s.journal) xs) ≡ map length (map (λ s. s.journal) xs)
    by [] = refl
    by (x ∷ xs) = ap₂ (λ (n : ℕ) (ns : List ℕ). n ∷ ns) (length_behind l.tail l.lateness (length l.sources) [] x.journal) (by xs)

-- the shards of the words' own numbers and names are those of the run
pub shards_as : (l : LastRun) (names : List (List ℕ)) (many : ℕ) (d : Definitions) (opens : Opens) (shards : List Sharded) → names ≡ l.sources → many ≡ l.shards → d ≡ last_definitions l
    → AreShardsOf names many d opens shards → AreShardsOfLast l opens shards
shards_as l names many d opens shards n m e h =
    subst (λ x. AreShardsOf x l.shards (last_definitions l) opens shards) n
    (subst (λ x. AreShardsOf names x (last_definitions l) opens shards) m
    (subst (λ x. AreShardsOf names many x opens shards) e h))

pub stops_as : (l : LastRun) (names : List (List ℕ)) (many : ℕ) (d : Definitions) (opens : Opens) (fault : Fault) → names ≡ l.sources → many ≡ l.shards → d ≡ last_definitions l
    → StopsAtSources names many d opens fault → StopsAtLast l opens fault
stops_as l names many d opens fault n m e h =
    sources_stop l opens fault
    (subst (λ x. StopsAtSources x l.shards (last_definitions l) opens fault) n
    (subst (λ x. StopsAtSources names x (last_definitions l) opens fault) m
    (subst (λ x. StopsAtSources names many x opens fault) e h)))

-- where nothing is opened, the files are as they were
module _ {F : Type 0} (asked : F → List (List ℕ)) (came : F → ℕ → Came) (told : F → Telling) where
  pub none_opened : (names : List (List ℕ)) (old : F) → OpensInOrder asked came told names old old
  none_opened names old = record {
    count = 0;
    in_order = sym (append-nil (asked old));
    over = λ i least within. absurd (let no : ⊥ = omega (arith, least, within) in no);
    earlier = λ i less. refl;
    same = λ which. refl;
  }
