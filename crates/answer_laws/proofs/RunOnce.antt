-- Two answers to a run of told files, where nothing failed.
use Rattle.std.proofs.Common.{◌≡◌, ◌≢◌, ◌∙◌, ◌≤◌, ◌<◌, ◌++◌, ◌⊎◌, ◌↔◌, inl, inr, ℕ, Bool, true, false, List, [], ◌∷◌, length, get_or, ap, sym, subst, refl, arith, cond, All, Ok}
use Rattle.std.proofs.lemmas.List.{append_cancel_left}
use Rattle.std.proofs.lemmas.Bool.{cases_eq}
use Rattle.std.proofs.lemmas.List.Elements.{All-from_get_or, All-map, All-nil}
use Rattle.std.specs.Prelude.{nat_le}
use Rattle.stream_base.specs.Laws.{journals_of_one}
use Rattle.stream_base.specs.Limits.{Definitions}
use Rattle.stream_base.specs.declared.entry.Entry.{Entry}
use Rattle.stream_base.specs.declared.limits.TheConstants.{JOURNAL_MAX}
use Rattle.stream_base.specs.Model.Journals.{journals_of}
use Rattle.stream_base.specs.Model.Routes.{IsLawful}
use Rattle.stream_base.specs.Model.Text.{report_of}
use Rattle.csv.specs.Reading.{default_config, records, strip_bom}
use Rattle.stream_base.specs.declared.what.What.{What}
use Rattle.stream_base.specs.declared.what.What.TheVariants.{End}
use Rattle.source_feed.specs.Events.{ending, events_of, stream_of, with_watermarks}
use Rattle.source_feed.specs.Stream.{Stream, entry_of, only_refused, too_long}
use Rattle.source_feed.specs.declared.whole.TheConstants.{SOURCE_MAX}
use Rattle.window_defs.specs.Reading.{reading_of}
use Rattle.emission_text.specs.Faults.{fault_line}
use Rattle.report_lines.specs.Forms.{form_of}
use Rattle.emission_text.specs.declared.fault.Fault.{Fault}
use Rattle.emission_text.specs.declared.fault.Fault.TheVariants.{FullShard}
use Rattle.scotty_run.specs.Answer.{IsAnswer, IsReportOf, IsReportOfFiles, IsStopped, Says}
use Rattle.run_inputs.specs.Causes.{StopsAtFiles, count_routed, stream_at}
use Rattle.scotty_run.specs.InMemory.{Tells}
use Rattle.run_inputs.specs.Outside.{Opens, Telling, behind}
use Rattle.run_inputs.specs.Statuses.{status_of}
use Rattle.command_words.specs.Words.{Run}
use Rattle.run_inputs.specs.declared.status.Status.{Status}
use Rattle.run_inputs.specs.declared.status.Status.TheVariants.{Done, Usage, BadDefs, OpenFault, BadRow, ReadFault, Full, NoMemory, WriteFault, Unlawful}
use Rattle.answer_laws.specs.Once.{AreWell, MayDiffer, Wrote}
use Rattle.answer_laws.proofs.Causes.{AreToldAll, IsEarly, IsFullOf, IsTroubled, all_of_read, all_once, all_or_troubled, asked_by, defs_stop, definitions_once, early_once, early_or_read, sources_stop, trouble_once}
use Rattle.answer_laws.proofs.Told.{asked_first, definitions_told, well_behind}

-- one source's own law
abbrev pub OneSource : Type 0
OneSource = (shards : ℕ) (entries : List Entry) (journals : List (List Entry)) → All (λ e. e.source ≡ 0) entries → IsLawful shards (entries ∷ []) journals ↔ (journals ≡ journals_of_one shards entries)

module _ (told : Telling) (run : Run) where
  -- why the told bytes stop the run
  abbrev pub IsStopOf : Fault → Type 0
  IsStopOf fault =
      IsEarly told run.defs fault
      ⊎ ((d : Definitions) × Tells told run.defs (λ bytes. reading_of bytes ≡ Ok d)
      × (IsTroubled told d run.sources fault ⊎ IsFullOf told d run.sources run.shards fault))

  -- the text is a report of the told bytes
  pub record IsToldReport (text : List ℕ) : Type 0 where
    pub d : Definitions
    pub definitions : Tells told run.defs (λ bytes. reading_of bytes ≡ Ok d)
    pub all : List (List Entry)
    pub sources : AreToldAll told d run.sources all
    pub few : (k : ℕ) → k < run.shards → count_routed run.shards all k ≤ JOURNAL_MAX
    pub report : IsReportOf run d all text

  -- how the run ends
  pub record IsDone (status : Status) (text : List ℕ) : Type 0 where
    pub status_is : status ≡ Done
    pub report_is : IsToldReport text

  pub record IsHeld (status : Status) (text : List ℕ) : Type 0 where
    pub fault : Fault
    pub status_is : status_of fault ≡ status
    pub text_is : text ≡ fault_line fault
    pub stop : IsStopOf fault

  module _ (opens : Opens) (well : AreWell told opens) where
    stop_of : (fault : Fault) → status_of fault ≢ NoMemory → StopsAtFiles run opens fault → IsStopOf fault
    stop_of fault served (inl h) = inl (defs_stop told opens well run.defs fault served h)
    stop_of fault served (inr h) =
        let rest = behind (run.defs ∷ []) opens in
        let (some, asked) = asked_by run.sources run.shards h.d rest fault served h.cause in
        inr (
          h.d,
          definitions_told told opens well run.defs some h.d (asked_first opens run.defs some asked) h.definitions,
          sources_stop told rest (well_behind told opens well (run.defs ∷ [])) run.sources run.shards h.d fault served h.cause,
        )

    report_of_told : (text : List ℕ) → IsReportOfFiles run opens text → IsToldReport text
    report_of_told text h =
        let rest = behind (run.defs ∷ []) opens in
        record {
          d = h.d;
          definitions = definitions_told told opens well run.defs run.sources h.d (asked_first opens run.defs run.sources (h.sources).asked) h.definitions;
          all = h.all;
          sources = all_of_read told rest (well_behind told opens well (run.defs ∷ [])) run.sources h.d h.all h.sources;
          few = h.few;
          report = h.written;
        }

    module _ {K : Type 0} (taken : K → List ℕ) (faults : K → ℕ) (old new : K) (text : List ℕ) where
      held : (status : Status) → IsStopped taken faults (StopsAtFiles run opens) status old new → Wrote taken faults status text old new → IsHeld status text
      held status h w = record {
        fault = h.answered;
        status_is = h.status_is;
        text_is = said h.said;
        stop = stop_of h.answered (λ e. w.served (sym h.status_is ∙ e)) h.cause_is;
      }
        where
          said : Says taken faults h.answered old new → text ≡ fault_line h.answered
          said (inl out) = append_cancel_left (taken old) text (fault_line h.answered) (sym w.appended ∙ out.appended)
          said (inr fails) = absurd (w.quiet fails.failed)

      pub ended : (status : Status) → IsAnswer taken faults run opens old new status → Wrote taken faults status text old new → IsDone status text ⊎ IsHeld status text
      ended Done h w =
          inl record {
            status_is = refl;
            report_is = subst IsToldReport (sym (append_cancel_left (taken old) text h.text (sym w.appended ∙ (h.went_out).appended))) (report_of_told h.text h.text_is);
          }
      ended WriteFault h w = absurd (w.quiet (h.failed).failed)
      ended BadDefs h w = inr (held BadDefs h w)
      ended BadRow h w = inr (held BadRow h w)
      ended Full h w = inr (held Full h w)
      ended OpenFault h w = inr (held OpenFault h w)
      ended ReadFault h w = inr (held ReadFault h w)
      ended NoMemory h w = absurd (w.served refl)
      ended Usage h w = absurd h
      ended Unlawful h w = absurd h

  -- two faults are one, or both name a shard
  abbrev pub BothName : Fault → Fault → Type 0
  BothName a b = (shard other : ℕ) × (a ≡ FullShard shard) × (b ≡ FullShard other)

  stop_once : (a b : Fault) → IsStopOf a → IsStopOf b → (a ≡ b) ⊎ BothName a b
  stop_once a b (inl p) (inl q) = inl (early_once told run.defs a b p q)
  stop_once a b (inl p) (inr q) = absurd (early_or_read told run.defs a q.0 p q.1)
  stop_once a b (inr p) (inl q) = absurd (early_or_read told run.defs b p.0 q p.1)
  stop_once a b (inr (d, defs, p)) (inr (e, others, q)) = by p (subst (λ (x : Definitions). IsTroubled told x run.sources b ⊎ IsFullOf told x run.sources run.shards b) (sym (definitions_once told run.defs d e defs others)) q)
    where
      by : IsTroubled told d run.sources a ⊎ IsFullOf told d run.sources run.shards a → IsTroubled told d run.sources b ⊎ IsFullOf told d run.sources run.shards b → (a ≡ b) ⊎ BothName a b
      by (inl p) (inl q) = inl (trouble_once told d run.sources a b p q)
      by (inl p) (inr (k, is, full)) = absurd (all_or_troubled told d run.sources full.all a full.sources p)
      by (inr (k, is, full)) (inl q) = absurd (all_or_troubled told d run.sources full.all b full.sources q)
      by (inr (k, is, full)) (inr (l, are, more)) = inr (k, l, is, are)

  done_or_held : (text : List ℕ) (fault : Fault) → IsToldReport text → IsStopOf fault → ⊥
  done_or_held text fault r (inl p) = early_or_read told run.defs fault r.d p r.definitions
  done_or_held text fault r (inr (d, defs, p)) = by (subst (λ (x : Definitions). IsTroubled told x run.sources fault ⊎ IsFullOf told x run.sources run.shards fault) (definitions_once told run.defs d r.d defs r.definitions) p)
    where
      by : IsTroubled told r.d run.sources fault ⊎ IsFullOf told r.d run.sources run.shards fault → ⊥
      by (inl p) = all_or_troubled told r.d run.sources r.all fault r.sources p
      by (inr (k, is, full)) =
          let same = all_once told r.d run.sources full.all r.all full.sources r.sources in
          let few = r.few k full.inside in
          let many = subst (λ (x : List (List Entry)). JOURNAL_MAX < count_routed run.shards x k) same full.many in
          omega (arith, few, many)

  -- what the stream of a source tells
  abbrev pub told_events : Definitions → List ℕ → List What
  told_events d bytes =
      let s = events_of (records default_config (strip_bom bytes)) in
      with_watermarks d.every d.disorder [] s.events ++ ending s.refusal

  -- entries of one source have its number
  own_number : (d : Definitions) (bytes : List ℕ) → All (λ e. e.source ≡ 0) (stream_at d 0 bytes).entries
  own_number d bytes = by (nat_le (length bytes) SOURCE_MAX)
    where
      by : (b : Bool) → All (λ e. e.source ≡ 0) (let s : Stream = cond b (stream_of 0 d.every d.disorder bytes) (only_refused too_long) in s.entries)
      by true = All-map (λ e. e.source ≡ 0) (entry_of 0) (told_events d bytes) (All-from_get_or (λ (what : What). (entry_of 0 what).source ≡ 0) (told_events d bytes) End (λ i l. refl))
      by false = All-nil (λ (e : Entry). e.source ≡ 0)

  -- with one source there is one report
  report_once : OneSource → length run.sources ≡ 1 → (x y : List ℕ) → IsToldReport x → IsToldReport y → x ≡ y
  report_once law one x y p q =
      let d_same = definitions_once told run.defs p.d q.d p.definitions q.definitions in
      let others = subst (λ (d : Definitions). AreToldAll told d run.sources q.all) (sym d_same) q.sources in
      let all_same = all_once told p.d run.sources p.all q.all p.sources others in
      let entries = get_or p.all 0 [] in
      let single : p.all ≡ entries ∷ [] = single_is p.all ((p.sources).many ∙ one) in
      let (bytes, is, spelled) = (p.sources).each 0 (omega (arith, one)) in
      let own = subst (λ (s : Stream). All (λ e. e.source ≡ 0) s.entries) spelled (own_number p.d bytes) in
      let lawful = λ (text : List ℕ) (h : IsLawful run.shards p.all (journals_of text)). (law run.shards entries (journals_of text) own).0 (subst (λ (a : List (List Entry)). IsLawful run.shards a (journals_of text)) single h) in
      let left = lawful x (p.report).lawful in
      let right = lawful y (subst (λ (a : List (List Entry)). IsLawful run.shards a (journals_of y)) (sym all_same) (q.report).lawful) in
      (p.report).report_is
      ∙ ap (λ (d : Definitions). report_of (form_of run.form) d (length run.sources) (journals_of x)) d_same
      ∙ ap (report_of (form_of run.form) q.d (length run.sources)) (left ∙ sym right)
      ∙ sym (q.report).report_is
    where
      single_is : (l : List (List Entry)) → length l ≡ 1 → l ≡ get_or l 0 [] ∷ []
      single_is [] h = cc
      single_is (e ∷ []) h = refl
      single_is (e ∷ f ∷ l) h = cc

  pub one_answer : OneSource → (a b : Opens) → AreWell told a → AreWell told b → {K : Type 0} (taken : K → List ℕ) (faults : K → ℕ) (old new first last : K) (status other : Status) (text written : List ℕ)
      → IsAnswer taken faults run a old new status → IsAnswer taken faults run b first last other
      → Wrote taken faults status text old new → Wrote taken faults other written first last
      → (status ≡ other) × ((text ≡ written) ⊎ MayDiffer run status text written)
  one_answer law a b well others taken faults old new first last status other text written h g w v = by (ended a well taken faults old new text status h w) (ended b others taken faults first last written other g v)
    where
      reports : IsDone status text → IsDone other written → (length run.sources ≡ 1) ⊎ ((length run.sources ≡ 1) → ⊥) → (text ≡ written) ⊎ MayDiffer run status text written
      reports p q (inl one) = inl (report_once law one text written p.report_is q.report_is)
      reports p q (inr more) = inr (inl (p.status_is, more))

      stops : (p : IsHeld status text) → (q : IsHeld other written) → (p.fault ≡ q.fault) ⊎ BothName p.fault q.fault → (status ≡ other) × ((text ≡ written) ⊎ MayDiffer run status text written)
      stops p q (inl same) = (sym p.status_is ∙ ap status_of same ∙ q.status_is, inl (p.text_is ∙ ap fault_line same ∙ sym q.text_is))
      stops p q (inr (k, l, is, are)) = (
        sym p.status_is ∙ ap status_of is ∙ sym (ap status_of are) ∙ q.status_is,
        inr (inr (k, l, p.text_is ∙ ap fault_line is, q.text_is ∙ ap fault_line are)),
      )

      by : IsDone status text ⊎ IsHeld status text → IsDone other written ⊎ IsHeld other written → (status ≡ other) × ((text ≡ written) ⊎ MayDiffer run status text written)
      by (inl p) (inl q) = (p.status_is ∙ sym q.status_is, reports p q (cases_eq (length run.sources) 1))
      by (inl p) (inr q) = absurd (done_or_held text q.fault p.report_is q.stop)
      by (inr p) (inl q) = absurd (done_or_held written p.fault q.report_is p.stop)
      by (inr p) (inr q) = stops p q (stop_once p.fault q.fault p.stop q.stop)
