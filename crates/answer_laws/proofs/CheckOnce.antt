-- Two answers to a check of told files, where nothing failed.
use Rattle.std.proofs.Common.{◌≡◌, ◌≢◌, ◌∙◌, ◌≤◌, ◌<◌, ◌+◌, ◌++◌, ◌⊎◌, inl, inr, ℕ, List, [], ◌∷◌, length, ap, sym, subst, refl, arith, length-append, Ok}
use Rattle.std.proofs.lemmas.List.{append_cancel_left}
use Rattle.stream_base.specs.Limits.{Definitions}
use Rattle.stream_base.specs.declared.entry.Entry.{Entry}
use Rattle.source_feed.specs.declared.whole.TheConstants.{SOURCE_MAX}
use Rattle.window_defs.specs.Reading.{reading_of}
use Rattle.report_check.specs.Findings.{IsFinding}
use Rattle.report_check.specs.declared.finding.Finding.{Finding}
use Rattle.emission_text.specs.Faults.{fault_line}
use Rattle.emission_text.specs.Findings.{finding_line}
use Rattle.emission_text.specs.declared.fault.Fault.{Fault}
use Rattle.emission_text.specs.declared.fault.Fault.TheVariants.{Usage as FUsage, Defs, Unopened, Row, Read, FullSource, FullShard, ReportOpen, ReportRead, ReportFull, NoMemory as FNoMemory}
use Rattle.scotty_run.specs.Answer.{IsCheckAnswer, IsFound, IsStopped, Says}
use Rattle.run_inputs.specs.Causes.{AreDefinitionsRead}
use Rattle.run_inputs.specs.Judging.{IsFindingOfFiles, IsReportRead, StopsAtCheck, StopsAtReport, StopsBehindDefs}
use Rattle.scotty_run.specs.InMemory.{Tells}
use Rattle.run_inputs.specs.Outside.{Asks, Opens, Telling, behind, came_at}
use Rattle.run_inputs.specs.Statuses.{finding_status, status_of}
use Rattle.command_words.specs.Words.{Check}
use Rattle.run_inputs.specs.declared.status.Status.{Status}
use Rattle.run_inputs.specs.declared.status.Status.TheVariants.{Done, Usage, BadDefs, OpenFault, BadRow, ReadFault, Full, NoMemory, WriteFault, Unlawful}
use Rattle.answer_laws.specs.Once.{AreWell, Wrote}
use Rattle.answer_laws.proofs.Causes.{AreToldAll, IsEarly, IsFullOf, IsTroubled, all_of_read, all_once, all_or_troubled, asked_by, defs_stop, definitions_once, early_once, early_or_read, sources_stop, trouble_once}
use Rattle.answer_laws.proofs.Told.{asked_first, definitions_told, tells_both, well_at, well_back, well_behind, well_is_quiet, well_is_unrefused, well_whole}

-- a text's own law
abbrev pub OneFinding : Type 0
OneFinding = (d : Definitions) (shards : ℕ) (sources : List (List Entry)) (text : List ℕ) (found other : Finding) → IsFinding d shards sources text found → IsFinding d shards sources text other → found ≡ other

module _ (told : Telling) (c : Check) where
  -- the report isn't too long, or it is, and that stops the check
  abbrev pub IsShort : Type 0
  IsShort = Tells told c.report (λ bytes. length bytes ≤ SOURCE_MAX)

  abbrev pub IsLong : Fault → Type 0
  IsLong fault = (fault ≡ ReportFull) × Tells told c.report (λ bytes. SOURCE_MAX < length bytes)

  abbrev pub Follows : Definitions → Fault → Type 0
  Follows d fault = IsLong fault ⊎ (IsShort × IsTroubled told d c.sources fault)

  -- why the told bytes stop the check
  abbrev pub IsStopOf : Fault → Type 0
  IsStopOf fault = IsEarly told c.defs fault ⊎ ((d : Definitions) × Tells told c.defs (λ bytes. reading_of bytes ≡ Ok d) × Follows d fault)

  -- what the told bytes are found to be
  pub record IsToldFinding (finding : Finding) : Type 0 where
    pub d : Definitions
    pub definitions : Tells told c.defs (λ bytes. reading_of bytes ≡ Ok d)
    pub text : List ℕ
    pub report : Tells told c.report (λ bytes. bytes ≡ text)
    pub short : length text ≤ SOURCE_MAX
    pub all : List (List Entry)
    pub sources : AreToldAll told d c.sources all
    pub found : IsFinding d c.shards all text finding

  pub record IsJudgedSo (status : Status) (text : List ℕ) : Type 0 where
    pub finding : Finding
    pub status_is : finding_status finding ≡ status
    pub text_is : text ≡ finding_line finding
    pub finding_is : IsToldFinding finding

  pub record IsHeld (status : Status) (text : List ℕ) : Type 0 where
    pub fault : Fault
    pub status_is : status_of fault ≡ status
    pub text_is : text ≡ fault_line fault
    pub stop : IsStopOf fault

  module _ (opens : Opens) (well : AreWell told opens) where
    abbrev pub rest : Opens
    rest = behind (c.defs ∷ []) opens

    abbrev pub last : Opens
    last = behind (c.report ∷ []) rest

    rest_well : AreWell told rest
    rest_well = well_behind told opens well (c.defs ∷ [])

    last_well : AreWell told last
    last_well = well_behind told rest rest_well (c.report ∷ [])

    defs_of : (d : Definitions) (later : List (List ℕ)) → Asks later rest → AreDefinitionsRead opens d → Tells told c.defs (λ bytes. reading_of bytes ≡ Ok d)
    defs_of d later asked h = definitions_told told opens well c.defs later d (asked_first opens c.defs later asked) h

    -- the report that was read
    report_of : (text : List ℕ) (later : List (List ℕ)) → Asks later last → IsReportRead rest text → Tells told c.report (λ bytes. bytes ≡ text)
    report_of text later asked h =
        well_whole told c.report (came_at rest 0) (length rest.before + 0) text (λ bytes. bytes ≡ text)
        (well_at told rest rest_well (c.report ∷ later) (asked_first rest c.report later asked) 0 (omega arith)) h.whole refl

    report_stop : (fault : Fault) → status_of fault ≢ NoMemory → StopsAtReport c.report rest fault → (later : List (List ℕ)) × Asks later rest × IsLong fault
    report_stop FUsage served h = absurd h
    report_stop (Defs cause) served h = absurd h
    report_stop (Unopened place) served h = absurd h
    report_stop (Row source number why) served h = absurd h
    report_stop (Read place) served h = absurd h
    report_stop (FullSource source) served h = absurd h
    report_stop (FullShard shard) served h = absurd h
    report_stop ReportOpen served h = absurd (well_is_unrefused (told c.report) (came_at rest 0) (well_at told rest rest_well (c.report ∷ []) h.0 0 (omega arith)) h.1)
    report_stop ReportRead served h =
        let (reads, came, failed) = h.1 in
        absurd (well_is_quiet (told c.report) (came_at rest 0) reads (well_at told rest rest_well (c.report ∷ []) h.0 0 (omega arith)) came failed)
    report_stop ReportFull served h =
        let (reads, came, many) = h.1 in
        let t = well_back told c.report (came_at rest 0) reads (well_at told rest rest_well (c.report ∷ []) h.0 0 (omega arith)) came in
        (c.report ∷ [], h.0, (refl, (t.0, t.1, more reads.given t.0 (t.2).left (t.2).parts many)))
      where
        more : (given bytes left : List ℕ) → bytes ≡ given ++ left → SOURCE_MAX < length given → SOURCE_MAX < length bytes
        more given bytes left e l = let n = ap length e ∙ length-append given left in omega (arith, n, l)
    report_stop FNoMemory served h = absurd (served refl)

    -- no shard is asked for, so none is full
    troubled : (d : Definitions) (fault : Fault) → IsTroubled told d c.sources fault ⊎ IsFullOf told d c.sources 0 fault → IsTroubled told d c.sources fault
    troubled d fault (inl p) = p
    troubled d fault (inr (k, is, full)) = let none : k < 0 = full.inside in absurd (omega (arith, none))

    stop_of : (fault : Fault) → status_of fault ≢ NoMemory → StopsAtCheck c opens fault → IsStopOf fault
    stop_of fault served (inl h) = inl (defs_stop told opens well c.defs fault served h)
    stop_of fault served (inr h) = inr (by h.cause)
      where
        by : StopsBehindDefs c h.d rest fault → (d : Definitions) × Tells told c.defs (λ bytes. reading_of bytes ≡ Ok d) × Follows d fault
        by (inl x) = let (later, asked, long) = report_stop fault served x in (h.d, defs_of h.d later asked h.definitions, inl long)
        by (inr x) =
            let (some, asked) = asked_by c.sources 0 h.d last fault served x.cause in
            let (bytes, tells, is) = report_of x.text some asked x.report in (
              h.d,
              defs_of h.d (c.report ∷ some) (asked_first rest c.report some asked) h.definitions,
              inr (
                (bytes, tells, subst (λ (b : List ℕ). length b ≤ SOURCE_MAX) (sym is) (x.report).short),
                troubled h.d fault (sources_stop told last last_well c.sources 0 h.d fault served x.cause),
              ),
            )

    finding_of : (finding : Finding) → IsFindingOfFiles c opens finding → IsToldFinding finding
    finding_of finding h =
        let inner = h.found_behind in
        let found = inner.found_in in
        let asked = (found.sources).asked in
        record {
          d = h.d;
          definitions = defs_of h.d (c.report ∷ c.sources) (asked_first rest c.report c.sources asked) h.definitions;
          text = inner.text;
          report = report_of inner.text c.sources asked inner.report;
          short = (inner.report).short;
          all = found.all;
          sources = all_of_read told last last_well c.sources h.d found.all found.sources;
          found = found.found;
        }

    module _ {K : Type 0} (taken : K → List ℕ) (faults : K → ℕ) (old new : K) (text : List ℕ) where
      held : (status : Status) → IsStopped taken faults (StopsAtCheck c opens) status old new → Wrote taken faults status text old new → IsHeld status text
      held status h w = record {
        fault = h.answered;
        status_is = h.status_is;
        text_is = said h.said;
        stop = stop_of h.answered (λ e. w.served (sym h.status_is ∙ e)) h.cause_is;
      }
        where
          said : Says taken faults h.answered old new → text ≡ fault_line h.answered
          said (inl out) = append_cancel_left (taken old) text (fault_line h.answered) (sym w.appended ∙ out.appended)
          said (inr fails) = absurd (w.quiet fails.failed)

      judged : (status : Status) → IsFound taken faults c opens status old new → Wrote taken faults status text old new → IsJudgedSo status text
      judged status h w = record {
        finding = h.finding;
        status_is = h.status_is;
        text_is = append_cancel_left (taken old) text (finding_line h.finding) (sym w.appended ∙ (h.went_out).appended);
        finding_is = finding_of h.finding h.finding_is;
      }

      pub ended : (status : Status) → IsCheckAnswer taken faults c opens old new status → Wrote taken faults status text old new → IsJudgedSo status text ⊎ IsHeld status text
      ended Done h w = inl (judged Done h w)
      ended Unlawful h w = inl (judged Unlawful h w)
      ended WriteFault h w = absurd (w.quiet (h.failed).failed)
      ended BadDefs h w = inr (held BadDefs h w)
      ended BadRow h w = inr (held BadRow h w)
      ended Full h w = inr (held Full h w)
      ended OpenFault h w = inr (held OpenFault h w)
      ended ReadFault h w = inr (held ReadFault h w)
      ended NoMemory h w = absurd (w.served refl)
      ended Usage h w = absurd h

  long_or_short : (fault : Fault) → IsLong fault → IsShort → ⊥
  long_or_short fault (is, long) short =
      let (bytes, more, few) = tells_both told c.report (λ bytes. SOURCE_MAX < length bytes) (λ bytes. length bytes ≤ SOURCE_MAX) long short in
      omega (arith, more, few)

  stop_once : (a b : Fault) → IsStopOf a → IsStopOf b → a ≡ b
  stop_once a b (inl p) (inl q) = early_once told c.defs a b p q
  stop_once a b (inl p) (inr q) = absurd (early_or_read told c.defs a q.0 p q.1)
  stop_once a b (inr p) (inl q) = absurd (early_or_read told c.defs b p.0 q p.1)
  stop_once a b (inr (d, defs, p)) (inr (e, others, q)) = by p (subst (λ (x : Definitions). Follows x b) (sym (definitions_once told c.defs d e defs others)) q)
    where
      by : Follows d a → Follows d b → a ≡ b
      by (inl p) (inl q) = p.0 ∙ sym q.0
      by (inl p) (inr q) = absurd (long_or_short a p q.0)
      by (inr p) (inl q) = absurd (long_or_short b q p.0)
      by (inr p) (inr q) = trouble_once told d c.sources a b p.1 q.1

  short_of : (finding : Finding) → IsToldFinding finding → IsShort
  short_of finding f = let (bytes, tells, is) = f.report in (bytes, tells, subst (λ (b : List ℕ). length b ≤ SOURCE_MAX) (sym is) f.short)

  found_or_held : (finding : Finding) (fault : Fault) → IsToldFinding finding → IsStopOf fault → ⊥
  found_or_held finding fault f (inl p) = early_or_read told c.defs fault f.d p f.definitions
  found_or_held finding fault f (inr (d, defs, p)) = by (subst (λ (x : Definitions). Follows x fault) (definitions_once told c.defs d f.d defs f.definitions) p)
    where
      by : Follows f.d fault → ⊥
      by (inl long) = long_or_short fault long (short_of finding f)
      by (inr (short, p)) = all_or_troubled told f.d c.sources f.all fault f.sources p

  found_once : OneFinding → (x y : Finding) → IsToldFinding x → IsToldFinding y → x ≡ y
  found_once law x y p q =
      let d_same = definitions_once told c.defs p.d q.d p.definitions q.definitions in
      let (bytes, is, are) = tells_both told c.report (λ b. b ≡ p.text) (λ b. b ≡ q.text) p.report q.report in
      let all_same = all_once told p.d c.sources p.all q.all p.sources (subst (λ (d : Definitions). AreToldAll told d c.sources q.all) (sym d_same) q.sources) in
      let found =
      subst (λ (t : List ℕ). IsFinding p.d c.shards p.all t y) (sym are ∙ is)
      (subst (λ (a : List (List Entry)). IsFinding p.d c.shards a q.text y) (sym all_same)
      (subst (λ (d : Definitions). IsFinding d c.shards q.all q.text y) (sym d_same) q.found)) in
      law p.d c.shards p.all p.text x y p.found found

  pub one_finding : OneFinding → (a b : Opens) → AreWell told a → AreWell told b → {K : Type 0} (taken : K → List ℕ) (faults : K → ℕ) (old new first last : K) (status other : Status) (text written : List ℕ)
      → IsCheckAnswer taken faults c a old new status → IsCheckAnswer taken faults c b first last other
      → Wrote taken faults status text old new → Wrote taken faults other written first last
      → (status ≡ other) × (text ≡ written)
  one_finding law a b well others taken faults old new first last status other text written h g w v = by (ended a well taken faults old new text status h w) (ended b others taken faults first last written other g v)
    where
      by : IsJudgedSo status text ⊎ IsHeld status text → IsJudgedSo other written ⊎ IsHeld other written → (status ≡ other) × (text ≡ written)
      by (inl p) (inl q) =
          let same = found_once law p.finding q.finding p.finding_is q.finding_is in
          (sym p.status_is ∙ ap finding_status same ∙ q.status_is, p.text_is ∙ ap finding_line same ∙ sym q.text_is)
      by (inl p) (inr q) = absurd (found_or_held p.finding q.fault p.finding_is q.stop)
      by (inr p) (inl q) = absurd (found_or_held q.finding p.fault q.finding_is p.stop)
      by (inr p) (inr q) =
          let same = stop_once p.fault q.fault p.stop q.stop in
          (sym p.status_is ∙ ap status_of same ∙ q.status_is, p.text_is ∙ ap fault_line same ∙ sym q.text_is)
