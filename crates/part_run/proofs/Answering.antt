-- The answer to a command, by what became of its files.
use Rattle.std.proofs.Common.{◌≡◌, ◌⊎◌, ℕ, List, sym, subst, refl, inl, inr}
use Rattle.window_defs.specs.declared.defs_fault.DefsFault.TheVariants.{Long, Toml, Shape, Limit, Many, NoMemory as NoRoom}
use Rattle.emission_text.specs.Sending.{Appends, Fails}
use Rattle.emission_text.specs.declared.fault.Fault.TheVariants.{Usage, Defs, Unopened, Row, Read, FullSource, FullShard, ReportOpen, ReportRead, ReportFull, NoMemory}
use Rattle.run_inputs.specs.declared.status.Status.{Status}
use Rattle.run_inputs.specs.declared.status.Status.TheVariants as status
use Rattle.part_run.specs.Answer.{IsAnswer, IsStopped}
use Rattle.part_run.specs.Faults.{SaysPart, part_status}
use Rattle.part_run.specs.declared.part_fault.PartFault.{PartFault}
use Rattle.part_run.specs.declared.part_fault.PartFault.TheVariants.{Run, LongPart, UnreadDefs, NotReport, Misplaced}

module _ {K : Type 0} (taken : K → List ℕ) (faults : K → ℕ) (IsText : List ℕ → Type 0) (Stops : PartFault → Type 0) (old new : K) where
  Answered : Status → Type 0
  Answered s = IsAnswer taken faults IsText Stops old new s

  stopped : (answered : PartFault) (s : Status) → part_status answered ≡ s → Stops answered → SaysPart taken faults answered old new
      → IsStopped taken faults IsText Stops s old new
  stopped answered s is cause said = record { answered = answered; status_is = is; cause_is = cause; said = said }

  by_fault : (f : PartFault) → (Stops (Run Usage) → ⊥) → Stops f → SaysPart taken faults f old new → IsAnswer taken faults IsText Stops old new (part_status f)
  by_fault (Run Usage) unsaid h said = absurd (unsaid h)
  by_fault (Run (Defs Long)) unsaid h said = stopped (Run (Defs Long)) status.BadDefs refl h said
  by_fault (Run (Defs Toml)) unsaid h said = stopped (Run (Defs Toml)) status.BadDefs refl h said
  by_fault (Run (Defs (Shape w))) unsaid h said = stopped (Run (Defs (Shape w))) status.BadDefs refl h said
  by_fault (Run (Defs (Limit w))) unsaid h said = stopped (Run (Defs (Limit w))) status.BadDefs refl h said
  by_fault (Run (Defs Many)) unsaid h said = stopped (Run (Defs Many)) status.BadDefs refl h said
  by_fault (Run (Defs NoRoom)) unsaid h said = said
  by_fault (Run (Unopened place)) unsaid h said = stopped (Run (Unopened place)) status.OpenFault refl h said
  by_fault (Run (Row s number why)) unsaid h said = stopped (Run (Row s number why)) status.BadRow refl h said
  by_fault (Run (Read place)) unsaid h said = stopped (Run (Read place)) status.ReadFault refl h said
  by_fault (Run (FullSource s)) unsaid h said = stopped (Run (FullSource s)) status.Full refl h said
  by_fault (Run (FullShard k)) unsaid h said = stopped (Run (FullShard k)) status.Full refl h said
  by_fault (Run ReportOpen) unsaid h said = stopped (Run ReportOpen) status.OpenFault refl h said
  by_fault (Run ReportRead) unsaid h said = stopped (Run ReportRead) status.ReadFault refl h said
  by_fault (Run ReportFull) unsaid h said = stopped (Run ReportFull) status.Full refl h said
  by_fault (Run NoMemory) unsaid h said = said
  by_fault LongPart unsaid h said = stopped LongPart status.Full refl h said
  by_fault UnreadDefs unsaid h said = stopped UnreadDefs status.BadDefs refl h said
  by_fault (NotReport report) unsaid h said = stopped (NotReport report) status.Unlawful refl h said
  by_fault (Misplaced report number) unsaid h said = stopped (Misplaced report number) status.Unlawful refl h said

  -- a fault whose cause holds is the answer of a command whose words are its own
  pub stops : (f : PartFault) (s : Status) → s ≡ part_status f → (Stops (Run Usage) → ⊥) → Stops f → SaysPart taken faults f old new → IsAnswer taken faults IsText Stops old new s
  unfolding Answered
  stops f s is unsaid h said = subst Answered (sym is) (by_fault f unsaid h said)

  -- and so is a text that was written, or whose write failed
  pub writes : (text : List ℕ) (s : Status) → IsText text → (s ≡ status.Done) ⊎ (s ≡ status.WriteFault) → (s ≡ status.Done → Appends taken faults text old new) → (s ≡ status.WriteFault → Fails taken faults text old new)
      → IsAnswer taken faults IsText Stops old new s
  unfolding Answered
  writes text s is (inl e) done failed = subst Answered (sym e) record { text = text; text_is = is; went_out = done e }
  writes text s is (inr e) done failed = subst Answered (sym e) record { text = text; text_is = is; failed = failed e }

-- an answer by one text and one cause is one by others that follow from them
module _ {K : Type 0} (taken : K → List ℕ) (faults : K → ℕ) (IsText IsOther : List ℕ → Type 0) (Stops StopsElse : PartFault → Type 0)
    (texts : (text : List ℕ) → IsText text → IsOther text) (causes : (fault : PartFault) → Stops fault → StopsElse fault) (old new : K) where
  other_stop : (s : Status) → IsStopped taken faults IsText Stops s old new → IsStopped taken faults IsOther StopsElse s old new
  other_stop s h = record { answered = h.answered; status_is = h.status_is; cause_is = causes h.answered h.cause_is; said = h.said }

  pub answers_as : (s : Status) → IsAnswer taken faults IsText Stops old new s → IsAnswer taken faults IsOther StopsElse old new s
  answers_as status.Done h = record { text = h.text; text_is = texts h.text h.text_is; went_out = h.went_out }
  answers_as status.WriteFault h = record { text = h.text; text_is = texts h.text h.text_is; failed = h.failed }
  answers_as status.NoMemory h = h
  answers_as status.Usage h = h
  answers_as status.BadDefs h = other_stop status.BadDefs h
  answers_as status.OpenFault h = other_stop status.OpenFault h
  answers_as status.BadRow h = other_stop status.BadRow h
  answers_as status.ReadFault h = other_stop status.ReadFault h
  answers_as status.Full h = other_stop status.Full h
  answers_as status.Unlawful h = other_stop status.Unlawful h
