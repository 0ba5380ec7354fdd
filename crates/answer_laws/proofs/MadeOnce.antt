-- Two answers to a made run.
use Rattle.std.proofs.Common.{◌≡◌, ◌∙◌, ℕ, List, sym, refl}
use Rattle.std.proofs.lemmas.List.{append_cancel_left}
use Rattle.scotty_run.specs.Answer.{IsMadeAnswer, made_summary}
use Rattle.command_words.specs.Words.{Made}
use Rattle.run_inputs.specs.declared.status.Status.{Status}
use Rattle.run_inputs.specs.declared.status.Status.TheVariants.{Done, Usage, BadDefs, OpenFault, BadRow, ReadFault, Full, NoMemory, WriteFault, Unlawful}
use Rattle.answer_laws.specs.Once.{Wrote}

module _ {K : Type 0} (taken : K → List ℕ) (faults : K → ℕ) (m : Made) where
  -- the summary is all that can have been written
  is_summary : (old new : K) (status : Status) (text : List ℕ) → IsMadeAnswer taken faults m old new status → Wrote taken faults status text old new → (status ≡ Done) × (text ≡ made_summary m)
  is_summary old new Done text h w = (refl, append_cancel_left (taken old) text (made_summary m) (sym w.appended ∙ h.appended))
  is_summary old new WriteFault text h w = absurd (w.quiet h.failed)
  is_summary old new NoMemory text h w = absurd (w.served refl)
  is_summary old new Usage text h w = absurd h
  is_summary old new BadDefs text h w = absurd h
  is_summary old new OpenFault text h w = absurd h
  is_summary old new BadRow text h w = absurd h
  is_summary old new ReadFault text h w = absurd h
  is_summary old new Full text h w = absurd h
  is_summary old new Unlawful text h w = absurd h

  pub one_summary : (old new first last : K) (status other : Status) (text written : List ℕ)
      → IsMadeAnswer taken faults m old new status → IsMadeAnswer taken faults m first last other
      → Wrote taken faults status text old new → Wrote taken faults other written first last
      → (status ≡ other) × (text ≡ written)
  one_summary old new first last status other text written h g w v =
      let (done, is) = is_summary old new status text h w in
      let (too, are) = is_summary first last other written g v in
      (done ∙ sym too, is ∙ sym are)
