-- What a run makes of what became of its sources.
use Rattle.std.specs.Prelude.{◌≡◌, ◌≤◌, ◌<◌, ◌⊎◌, ℕ, List, length, min, All, Contains, Option, Some, None, slice_index_or}
use Rattle.source_feed.specs.declared.feed_fault.FeedFault.{FeedFault}
use Rattle.emission_text.specs.declared.fault.Fault.{Fault}
use Rattle.emission_text.specs.declared.fault.Fault.TheVariants.{FullShard}
use Rattle.fan_in.specs.declared.outcome.Outcome.{Outcome}
use Rattle.fan_in.specs.declared.outcome.Outcome.TheVariants as outcome
use Rattle.fan_in.specs.Gathering.{IsFault}
use Rattle.run_inputs.specs.Reading.{fault_of}

-- the fault is that of the first source whose outcome is one
pub record IsFirstFault (outcomes : List Outcome) (fault : Fault) : Type 0 where
  pub source : ℕ
  pub inside : source < length outcomes
  pub cause : FeedFault
  pub met : (o : Outcome) → slice_index_or outcomes source o ≡ outcome.Fault cause
  pub answered : fault ≡ fault_of source cause
  pub below : (i : ℕ) (o : Outcome) → i < source → ¬ (IsFault (slice_index_or outcomes i o))

-- no outcome is a fault
abbrev pub AreNoFaults : List Outcome → Type 0
AreNoFaults outcomes = All (λ o. ¬ (IsFault o)) outcomes

-- the least shard that outcomes name as full, if one does
abbrev pub IsLeastFull : List Outcome → Option ℕ → Type 0
IsLeastFull outcomes None = All (λ o. (k : ℕ) → ¬ (o ≡ outcome.Full k)) outcomes
IsLeastFull outcomes (Some least) = Contains outcomes (outcome.Full least) × All (λ o. (k : ℕ) → o ≡ outcome.Full k → least ≤ k) outcomes

-- the lesser of the least full shard so far and that which one outcome more names, if it names one
abbrev pub least_with : Option ℕ → Outcome → Option ℕ
least_with least outcome.Done = least
least_with least (outcome.Fault cause) = least
least_with None (outcome.Full k) = Some k
least_with (Some least) (outcome.Full k) = Some (min least k)

-- no outcome is a fault, and the shard is the least that one names as full
pub record IsFirstFull (outcomes : List Outcome) (fault : Fault) : Type 0 where
  pub no_faults : AreNoFaults outcomes
  pub shard : ℕ
  pub least : IsLeastFull outcomes (Some shard)
  pub answered : fault ≡ FullShard shard

-- what the outcomes are answered with: the fault of the first source that has one, and else the least full shard
abbrev pub IsTrouble : List Outcome → Fault → Type 0
IsTrouble outcomes fault = IsFirstFault outcomes fault ⊎ IsFirstFull outcomes fault
