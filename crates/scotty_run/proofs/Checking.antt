-- The answer to a check, by what became of its files.
use Rattle.std.proofs.Common.{◌≡◌, ◌⊎◌, ℕ, List, [], ◌∷◌, sym, subst, refl, inl, inr}
use Rattle.stream_base.specs.Limits.{Definitions}
use Rattle.window_defs.specs.declared.defs_fault.DefsFault.TheVariants.{Long, Toml, Shape, Limit, Many, NoMemory as NoRoom}
use Rattle.report_check.specs.declared.finding.Finding.{Finding}
use Rattle.report_check.specs.declared.finding.Finding.TheVariants as found
use Rattle.emission_text.specs.Findings.{finding_line}
use Rattle.emission_text.specs.Sending.{Appends, Fails}
use Rattle.emission_text.specs.declared.fault.Fault.{Fault}
use Rattle.emission_text.specs.declared.fault.Fault.TheVariants.{Usage, Defs, Unopened, Row, Read, FullSource, FullShard, ReportOpen, ReportRead, ReportFull, NoMemory}
use Rattle.scotty_run.specs.Answer.{IsCheckAnswer, IsStopped, Says}
use Rattle.run_inputs.specs.Judging.{IsFindingOfFiles, StopsAtCheck, StopsBehindDefs}
use Rattle.run_inputs.specs.Outside.{Opens, behind}
use Rattle.run_inputs.specs.Statuses.{finding_status, status_of}
use Rattle.command_words.specs.Words.{Check}
use Rattle.run_inputs.specs.declared.status.Status.{Status}
use Rattle.run_inputs.specs.declared.status.Status.TheVariants as status

no_usage_behind : (c : Check) (d : Definitions) (opens : Opens) → StopsBehindDefs c d opens Usage → ⊥
no_usage_behind c d opens (inl h) = h
no_usage_behind c d opens (inr h) = h.cause

no_usage : (c : Check) (opens : Opens) → StopsAtCheck c opens Usage → ⊥
no_usage c opens (inl h) = h
no_usage c opens (inr h) = no_usage_behind c h.d (behind (c.defs ∷ []) opens) h.cause

module _ {K : Type 0} (taken : K → List ℕ) (faults : K → ℕ) (c : Check) (opens : Opens) (old new : K) where
  Answered : Status → Type 0
  Answered s = IsCheckAnswer taken faults c opens old new s

  stopped : (answered : Fault) (s : Status) → status_of answered ≡ s → StopsAtCheck c opens answered → Says taken faults answered old new
      → IsStopped taken faults (StopsAtCheck c opens) s old new
  stopped answered s is cause said = record { answered = answered; status_is = is; cause_is = cause; said = said }

  -- a fault that stops the files of a check is its answer
  pub check_stops : (f : Fault) → StopsAtCheck c opens f → Says taken faults f old new → IsCheckAnswer taken faults c opens old new (status_of f)
  check_stops Usage h said = absurd (no_usage c opens h)
  check_stops (Defs Long) h said = stopped (Defs Long) status.BadDefs refl h said
  check_stops (Defs Toml) h said = stopped (Defs Toml) status.BadDefs refl h said
  check_stops (Defs (Shape w)) h said = stopped (Defs (Shape w)) status.BadDefs refl h said
  check_stops (Defs (Limit w)) h said = stopped (Defs (Limit w)) status.BadDefs refl h said
  check_stops (Defs Many) h said = stopped (Defs Many) status.BadDefs refl h said
  check_stops (Defs NoRoom) h said = said
  check_stops (Unopened place) h said = stopped (Unopened place) status.OpenFault refl h said
  check_stops (Row s number why) h said = stopped (Row s number why) status.BadRow refl h said
  check_stops (Read place) h said = stopped (Read place) status.ReadFault refl h said
  check_stops (FullSource s) h said = stopped (FullSource s) status.Full refl h said
  check_stops (FullShard k) h said = stopped (FullShard k) status.Full refl h said
  check_stops ReportOpen h said = stopped ReportOpen status.OpenFault refl h said
  check_stops ReportRead h said = stopped ReportRead status.ReadFault refl h said
  check_stops ReportFull h said = stopped ReportFull status.Full refl h said
  check_stops NoMemory h said = said

  by_finding : (finding : Finding) → IsFindingOfFiles c opens finding → Appends taken faults (finding_line finding) old new → Answered (finding_status finding)
  unfolding Answered
  by_finding found.Lawful is out = record { finding = found.Lawful; finding_is = is; status_is = refl; went_out = out }
  by_finding (found.Text line) is out = record { finding = found.Text line; finding_is = is; status_is = refl; went_out = out }
  by_finding (found.Shards n) is out = record { finding = found.Shards n; finding_is = is; status_is = refl; went_out = out }
  by_finding (found.Journal shard source) is out = record { finding = found.Journal shard source; finding_is = is; status_is = refl; went_out = out }

  -- a finding whose line was written, or whose write failed, is the answer of the check
  pub check_finds : (finding : Finding) → IsFindingOfFiles c opens finding → (s : Status)
      → ((s ≡ finding_status finding) × Appends taken faults (finding_line finding) old new) ⊎ ((s ≡ status.WriteFault) × Fails taken faults (finding_line finding) old new)
      → IsCheckAnswer taken faults c opens old new s
  unfolding Answered
  check_finds finding files s (inl (is, out)) = subst Answered (sym is) (by_finding finding files out)
  check_finds finding files s (inr (is, failed)) = subst Answered (sym is) record { finding = finding; finding_is = files; failed = failed }
