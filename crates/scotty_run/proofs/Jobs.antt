-- The answer to a job, by what became of its files.
use Rattle.std.proofs.Common.{◌≡◌, ◌⊎◌, ℕ, List, sym, subst, refl, inl, inr}
use Rattle.stream_base.specs.Limits.{Definitions}
use Rattle.stream_base.specs.declared.entry.Entry.{Entry}
use Rattle.window_defs.specs.declared.defs_fault.DefsFault.TheVariants.{Long, Toml, Shape, Limit, Many, NoMemory as NoRoom}
use Rattle.emission_text.specs.Sending.{Appends, Fails}
use Rattle.emission_text.specs.declared.fault.Fault.{Fault}
use Rattle.emission_text.specs.declared.fault.Fault.TheVariants.{Usage, Defs, Unopened, Row, Read, FullSource, FullShard, ReportOpen, ReportRead, ReportFull, NoMemory}
use Rattle.scotty_run.specs.Answer.{IsJobAnswer, IsStopped, IsTextOfFiles, Says}
use Rattle.run_inputs.specs.Causes.{StopsAtJob, StopsAtOrigin}
use Rattle.command_words.specs.Jobs.{DefsOrigin, Job, of_file, of_words}
use Rattle.run_inputs.specs.Outside.{Opens}
use Rattle.run_inputs.specs.Statuses.{status_of}
use Rattle.run_inputs.specs.declared.status.Status.{Status}
use Rattle.run_inputs.specs.declared.status.Status.TheVariants as status

no_usage_at : (defs : DefsOrigin) (opens : Opens) → StopsAtOrigin defs opens Usage → ⊥
no_usage_at (of_file name) opens h = h
no_usage_at (of_words told) opens h = h

no_usage : (job : Job) (opens : Opens) → StopsAtJob job opens Usage → ⊥
no_usage job opens (inl h) = no_usage_at job.defs opens h
no_usage job opens (inr h) = h.cause

module _ {K : Type 0} (taken : K → List ℕ) (faults : K → ℕ) (job : Job) (may : Definitions → List (List Entry) → List ℕ → Type 0) (opens : Opens) (old new : K) where
  Answered : Status → Type 0
  Answered s = IsJobAnswer taken faults job may opens old new s

  stopped : (answered : Fault) (s : Status) → status_of answered ≡ s → StopsAtJob job opens answered → Says taken faults answered old new
      → IsStopped taken faults (StopsAtJob job opens) s old new
  stopped answered s is cause said = record { answered = answered; status_is = is; cause_is = cause; said = said }

  -- a fault that stops a job is its answer
  pub stops : (f : Fault) → StopsAtJob job opens f → Says taken faults f old new → IsJobAnswer taken faults job may opens old new (status_of f)
  stops Usage h said = absurd (no_usage job opens h)
  stops (Defs Long) h said = stopped (Defs Long) status.BadDefs refl h said
  stops (Defs Toml) h said = stopped (Defs Toml) status.BadDefs refl h said
  stops (Defs (Shape w)) h said = stopped (Defs (Shape w)) status.BadDefs refl h said
  stops (Defs (Limit w)) h said = stopped (Defs (Limit w)) status.BadDefs refl h said
  stops (Defs Many) h said = stopped (Defs Many) status.BadDefs refl h said
  stops (Defs NoRoom) h said = said
  stops (Unopened place) h said = stopped (Unopened place) status.OpenFault refl h said
  stops (Row s number why) h said = stopped (Row s number why) status.BadRow refl h said
  stops (Read place) h said = stopped (Read place) status.ReadFault refl h said
  stops (FullSource s) h said = stopped (FullSource s) status.Full refl h said
  stops (FullShard k) h said = stopped (FullShard k) status.Full refl h said
  stops ReportOpen h said = stopped ReportOpen status.OpenFault refl h said
  stops ReportRead h said = stopped ReportRead status.ReadFault refl h said
  stops ReportFull h said = stopped ReportFull status.Full refl h said
  stops NoMemory h said = said

  -- a text that it may write, written or cut off, is the answer
  pub writes : (text : List ℕ) → IsTextOfFiles job may opens text → (s : Status) → (s ≡ status.Done) ⊎ (s ≡ status.WriteFault)
      → (s ≡ status.Done → Appends taken faults text old new) → (s ≡ status.WriteFault → Fails taken faults text old new)
      → IsJobAnswer taken faults job may opens old new s
  unfolding Answered
  writes text is s (inl e) done failed = subst Answered (sym e) record { text = text; text_is = is; went_out = done e }
  writes text is s (inr e) done failed = subst Answered (sym e) record { text = text; text_is = is; failed = failed e }
