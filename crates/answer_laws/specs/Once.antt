-- When an answer is decided by the files alone: they tell their bytes, no call fails, and memory is there.
use Rattle.std.specs.Prelude.{◌≡◌, ◌≢◌, ◌≤◌, ◌<◌, ◌++◌, ◌⊎◌, ℕ, List, [], length, Option, Some, slice_index_or}
use Rattle.outside.specs.Outside.{Came, KeepsWord, Reads, Rose, back}
use Rattle.emission_text.specs.Faults.{fault_line}
use Rattle.emission_text.specs.declared.fault.Fault.TheVariants.{FullShard}
use Rattle.scotty_run.specs.Answer.{IsAnswer, IsCheckAnswer, IsMadeAnswer}
use Rattle.run_inputs.specs.Outside.{Opens, Telling}
use Rattle.command_words.specs.Words.{Check, Made, Run}
use Rattle.run_inputs.specs.declared.status.Status.{Status}
use Rattle.run_inputs.specs.declared.status.Status.TheVariants.{Done, NoMemory}

-- the source of an open came back, from a file that tells its bytes; no read of it failed, and it gave how these begin, and all of them where its end was seen
pub record IsWell (told : Option (List ℕ)) (came : Came) : Type 0 where
  pub bytes : List ℕ
  pub tells : told ≡ Some bytes
  pub reads : Reads
  pub came_back : came ≡ back reads
  pub quiet : reads.faults ≡ 0
  pub word : KeepsWord reads bytes

-- so it is with each open of a call
abbrev pub AreWell : Telling → Opens → Type 0
AreWell told opens =
    (i : ℕ) → length opens.before ≤ i → i < length opens.after → IsWell (told (slice_index_or opens.after i [])) (opens.came i)

-- a call wrote this text and no write failed, and its status isn't that memory ran out
pub record Wrote {K : Type 0} (taken : K → List ℕ) (faults : K → ℕ) (status : Status) (text : List ℕ) (old new : K) : Type 0 where
  pub served : status ≢ NoMemory
  pub appended : taken new ≡ taken old ++ text
  pub quiet : ¬ (Rose (faults old) (faults new))

-- what a schedule may decide of a text: the order in which entries of several sources came, and which shard is named of those that too many entries go to
abbrev pub MayDiffer : Run → Status → List ℕ → List ℕ → Type 0
MayDiffer run status text written =
    ((status ≡ Done) × (length run.sources ≢ 1))
    ⊎ ((shard other : ℕ) × (text ≡ fault_line (FullShard shard)) × (written ≡ fault_line (FullShard other)))

-- two ends of the same words are one: one status, and one text
abbrev pub EndOnce : {W : Type 0} → (W → Status → List ℕ → Type 0) → Type 0
EndOnce {W} may_end = (words : W) (status other : Status) (text written : List ℕ) → may_end words status text → may_end words other written → (status ≡ other) × (text ≡ written)

-- or they have one status, and texts that may differ so
abbrev pub EndOnceButFor : {W : Type 0} → (W → Status → List ℕ → List ℕ → Type 0) → (W → Status → List ℕ → Type 0) → Type 0
EndOnceButFor {W} may_differ may_end = (words : W) (status other : Status) (text written : List ℕ) → may_end words status text → may_end words other written
    → (status ≡ other) × ((text ≡ written) ⊎ may_differ words status text written)

module _ {K : Type 0} (taken : K → List ℕ) (faults : K → ℕ) (told : Telling) where
  -- a run of told files, of which no call failed, may end with this status and this text
  pub record RunMayEnd (run : Run) (status : Status) (text : List ℕ) : Type 0 where
    pub opens : Opens
    pub well : AreWell told opens
    pub old : K
    pub new : K
    pub answer : IsAnswer taken faults run opens old new status
    pub wrote : Wrote taken faults status text old new

  -- and so may a check
  pub record CheckMayEnd (c : Check) (status : Status) (text : List ℕ) : Type 0 where
    pub opens : Opens
    pub well : AreWell told opens
    pub old : K
    pub new : K
    pub answer : IsCheckAnswer taken faults c opens old new status
    pub wrote : Wrote taken faults status text old new

-- and so may a made run, which opens no file
pub record MadeMayEnd {K : Type 0} (taken : K → List ℕ) (faults : K → ℕ) (m : Made) (status : Status) (text : List ℕ) : Type 0 where
  pub old : K
  pub new : K
  pub answer : IsMadeAnswer taken faults m old new status
  pub wrote : Wrote taken faults status text old new
