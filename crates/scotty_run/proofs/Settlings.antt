-- The first fault and the least full shard among outcomes, one outcome more.
use Rattle.std.proofs.Common.{◌≡◌, ◌∙◌, ◌<◌, ◌≤◌, ◌+◌, ◌++◌, ℕ, List, [], ◌∷◌, Contains, length, map, take, get_or, Option, None, Some, min, sym, subst, ap, refl, arith, ⊎_elim}
use Rattle.std.proofs.lemmas.Bool.{cases_lt}
use Rattle.std.proofs.lemmas.List.{get_or-map, map-append, take_more}
use Rattle.std.proofs.lemmas.List.Elements.{All-push, All-weaker, Contains-append_left, Contains-append_right}
use Rattle.source_feed.specs.declared.feed_fault.FeedFault.{FeedFault}
use Rattle.fan_in.specs.declared.gathered.FeedEnd.{FeedEnd}
use Rattle.fan_in.specs.declared.outcome.Outcome.{Outcome}
use Rattle.fan_in.specs.declared.outcome.Outcome.TheVariants.{Done, Fault, Full}
use Rattle.fan_in.specs.Gathering.{IsFault}
use Rattle.scotty_run.specs.Settling.{IsLeastFull, least_with}

full_inj : {a b : ℕ} → Full a ≡ Full b → a ≡ b
full_inj h = cc

last_of : (os : List Outcome) (o : Outcome) → Contains (os ++ o ∷ []) o
last_of os o = Contains-append_right os (o ∷ []) o (0, omega arith, refl)

-- an outcome that names no shard changes nothing
pub least_same : (os : List Outcome) (least : Option ℕ) (o : Outcome) → ((k : ℕ) → o ≡ Full k → ⊥) → IsLeastFull os least → IsLeastFull (os ++ o ∷ []) least
least_same os None o other h = All-push (λ x. (k : ℕ) → ¬ (x ≡ Full k)) os o h other
least_same os (Some least) o other h = (
  Contains-append_left os (o ∷ []) (Full least) h.0,
  All-push (λ x. (k : ℕ) → x ≡ Full k → least ≤ k) os o h.1 (λ k is. absurd (other k is)),
)

-- the first that names one names the least
pub least_first : (os : List Outcome) (shard : ℕ) → IsLeastFull os None → IsLeastFull (os ++ Full shard ∷ []) (Some shard)
least_first os shard h = (
  last_of os (Full shard),
  All-push (λ x. (k : ℕ) → x ≡ Full k → shard ≤ k) os (Full shard)
      (All-weaker (λ x. (k : ℕ) → ¬ (x ≡ Full k)) (λ x. (k : ℕ) → x ≡ Full k → shard ≤ k) (λ x none k is. absurd (none k is)) os h)
      (λ k is. let same : shard ≡ k = full_inj is in omega (arith, same)),
)

-- of two the less
pub least_of_two : (os : List Outcome) (least shard : ℕ) → IsLeastFull os (Some least) → IsLeastFull (os ++ Full shard ∷ []) (Some (min least shard))
least_of_two os least shard h = (
  ⊎_elim
      (λ (less : least < shard). let is : least ≡ min least shard = omega (arith, less) in subst (λ (k : ℕ). Contains (os ++ Full shard ∷ []) (Full k)) is (Contains-append_left os (Full shard ∷ []) (Full least) h.0))
      (λ ge. let is : shard ≡ min least shard = omega (arith, ge) in subst (λ (k : ℕ). Contains (os ++ Full shard ∷ []) (Full k)) is (last_of os (Full shard)))
      (cases_lt least shard),
  All-push (λ x. (k : ℕ) → x ≡ Full k → min least shard ≤ k) os (Full shard)
      (All-weaker (λ x. (k : ℕ) → x ≡ Full k → least ≤ k) (λ x. (k : ℕ) → x ≡ Full k → min least shard ≤ k) (λ x most k is. let m = most k is in omega (arith, m)) os h.1)
      (λ k is. let same : shard ≡ k = full_inj is in omega (arith, same)),
)

not_full_done : (k : ℕ) → Done ≡ Full k → ⊥
not_full_done k h = absurd cc

pub not_full_fault : (f : FeedFault) (k : ℕ) → Fault f ≡ Full k → ⊥
not_full_fault f k h = absurd cc

-- the least full shard, by one outcome more
pub least_more : (os : List Outcome) (least : Option ℕ) (o : Outcome) → IsLeastFull os least → IsLeastFull (os ++ o ∷ []) (least_with least o)
least_more os least Done h = least_same os least Done not_full_done h
least_more os least (Fault f) h = least_same os least (Fault f) (not_full_fault f) h
least_more os None (Full k) h = least_first os k h
least_more os (Some least) (Full k) h = least_of_two os least k h

-- the outcomes of the first ends, by one more
pub outcomes_more : {F : Type 0} (ends : List (FeedEnd F)) (i : ℕ) (d : FeedEnd F) → i < length ends → map (λ e. e.outcome) (take (i + 1) ends) ≡ map (λ e. e.outcome) (take i ends) ++ (get_or ends i d).outcome ∷ []
outcomes_more ends i d l = ap (map (λ e. e.outcome)) (take_more ends i d l) ∙ map-append (λ e. e.outcome) (take i ends) (get_or ends i d ∷ [])

-- one outcome more that is no fault
pub below_more : {F : Type 0} (ends : List (FeedEnd F)) (i : ℕ) (d : FeedEnd F) → i < length ends → ((x : FeedFault) → (get_or ends i d).outcome ≡ Fault x → ⊥)
    → ((j : ℕ) (o : Outcome) → j < i → ¬ (IsFault (get_or (map (λ e. e.outcome) ends) j o)))
    → (j : ℕ) (o : Outcome) → j < i + 1 → ¬ (IsFault (get_or (map (λ e. e.outcome) ends) j o))
below_more ends i d within none below j o l =
    ⊎_elim (λ (less : j < i). below j o less)
    (λ ge.
    let same : i ≡ j = omega (arith, ge, l) in
    subst (λ k. ¬ (IsFault (get_or (map (λ e. e.outcome) ends) k o))) same
    (subst (λ x. ¬ (IsFault x)) (sym (get_or-map (λ e. e.outcome) ends i d o within)) (no_fault (get_or ends i d).outcome none)))
    (cases_lt j i)
  where
    no_fault : (x : Outcome) → ((f : FeedFault) → x ≡ Fault f → ⊥) → ¬ (IsFault x)
    no_fault Done h faulty = faulty
    no_fault (Full k) h faulty = faulty
    no_fault (Fault f) h faulty = h f refl
