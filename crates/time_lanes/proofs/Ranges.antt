-- The slices that begin in an interval.
use Rattle.std.proofs.Common.{◌≡◌, ◌∙◌, ℕ, ◌+◌, ◌<◌, ◌≤◌, Bool, true, false, cond, not, List, [], ◌∷◌, ◌++◌, length, ap, sym, refl, arith, inl, inr}
use Rattle.std.specs.Prelude.{◌⊎◌, ◌&&◌, nat_le, nat_lt}
use Rattle.std.specs.List.{All}
use Rattle.std.proofs.lemmas.Bool.{and_from, and_left, and_right, cases_lt, le-leb, le-ltb, lt-leb, lt-ltb}
use Rattle.std.proofs.lemmas.List.{length-append}
use Rattle.std.proofs.lemmas.List.Filters.{length-filter_both}
use Rattle.std.proofs.lemmas.List.Elements.{All-cons, All-nil, All-weaker}
use Rattle.stream_base.specs.declared.kept.Kept.{Kept}
use Rattle.stream_base.specs.Model.Windows.{first_time, last_time}
use Rattle.slice_lists.specs.Runs.{AreInOrder, IsPartFrom, runs_within}
use Rattle.stream_base.proofs.Filters.{filter_none}
use Rattle.slice_lists.proofs.SliceOrder.{IsApart, first_below_last, reach}

abbrev pub begins_in : ℕ → ℕ → List Kept → Bool
begins_in low high run = nat_le low (first_time run) && nat_lt (first_time run) high

pub in_it : (low high t : ℕ) → low ≤ t → t < high → (nat_le low t && nat_lt t high) ≡ true
in_it low high t l h = and_from (nat_le low t) (nat_lt t high) (le-leb low t l) (lt-ltb t high h)

pub before_it : (low high t : ℕ) → t < low → (nat_le low t && nat_lt t high) ≡ false
before_it low high t l = and_left (nat_le low t) (nat_lt t high) (lt-leb low t l)

pub behind_it : (low high t : ℕ) → high ≤ t → (nat_le low t && nat_lt t high) ≡ false
behind_it low high t h = and_right (nat_le low t) (nat_lt t high) (le-ltb t high h)

-- one slice in front
pub skipped : (low high : ℕ) (run : List Kept) (runs : List (List Kept)) → begins_in low high run ≡ false → runs_within low high (run ∷ runs) ≡ runs_within low high runs
skipped low high run runs e = ap (λ b. cond b (run ∷ runs_within low high runs) (runs_within low high runs)) e

pub passed : (low high : ℕ) (run : List Kept) (runs : List (List Kept)) → begins_in low high run ≡ true → runs_within low high (run ∷ runs) ≡ run ∷ runs_within low high runs
passed low high run runs e = ap (λ b. cond b (run ∷ runs_within low high runs) (runs_within low high runs)) e

-- slices behind one begin behind its last time, and those before it end before its first
pub above : (run : List Kept) (behind : List (List Kept)) → IsPartFrom IsApart run behind → AreInOrder behind → All (λ r. last_time run < first_time r) behind
above run [] p a = All-nil (λ r. last_time run < first_time r)
above run (next ∷ behind) p a =
    let f : first_time next ≤ last_time next = first_below_last next a.0 in
    let g : last_time run < first_time next = p in
    All-cons (λ r. last_time run < first_time r) next behind g
    (All-weaker (λ (r : List Kept). last_time next < first_time r) (λ r. last_time run < first_time r) (λ r l. omega arith) behind (above next behind a.1 a.2))

pub below : (before : List (List Kept)) (q : List Kept) (behind : List (List Kept)) → AreInOrder (before ++ q ∷ behind) → All (λ r. last_time r < first_time q) before
below [] q behind a = All-nil (λ r. last_time r < first_time q)
below (run ∷ before) q behind a = All-cons (λ r. last_time r < first_time q) run before (reach run before q behind a.1 a.2) (below before q behind a.2)

-- and begin before it
pub begin_below : (before : List (List Kept)) (q : List Kept) (behind : List (List Kept)) → AreInOrder (before ++ q ∷ behind) → All (λ r. first_time r < first_time q) before
begin_below [] q behind a = All-nil (λ r. first_time r < first_time q)
begin_below (run ∷ before) q behind a =
    let f : first_time run ≤ last_time run = first_below_last run a.0 in
    let g : last_time run < first_time q = reach run before q behind a.1 a.2 in
    All-cons (λ r. first_time r < first_time q) run before (omega arith) (begin_below before q behind a.2)

-- none begins in an interval
pub none_from_on : (low high : ℕ) (runs : List (List Kept)) → All (λ r. high ≤ first_time r) runs → runs_within low high runs ≡ []
none_from_on low high runs h = filter_none (begins_in low high) runs (All-weaker (λ (r : List Kept). high ≤ first_time r) (λ r. begins_in low high r ≡ false) (λ r l. behind_it low high (first_time r) l) runs h)

pub none_up_to : (low high : ℕ) (runs : List (List Kept)) → All (λ r. first_time r < low) runs → runs_within low high runs ≡ []
none_up_to low high runs h = filter_none (begins_in low high) runs (All-weaker (λ (r : List Kept). first_time r < low) (λ r. begins_in low high r ≡ false) (λ r l. before_it low high (first_time r) l) runs h)

pub none_turned : (low high : ℕ) (runs : List (List Kept)) → high ≤ low → runs_within low high runs ≡ []
none_turned low high [] h = refl
none_turned low high (run ∷ runs) h = skipped low high run runs (out (cases_lt (first_time run) low)) ∙ none_turned low high runs h
  where
    out : (first_time run < low) ⊎ (low ≤ first_time run) → begins_in low high run ≡ false
    out (inl l) = before_it low high (first_time run) l
    out (inr l) = behind_it low high (first_time run) (omega arith)

-- an interval in two parts
pub in_two : (a b c : ℕ) (runs : List (List Kept)) → a ≤ b → b ≤ c → AreInOrder runs → runs_within a c runs ≡ runs_within a b runs ++ runs_within b c runs
in_two a b c [] l m o = refl
in_two a b c (run ∷ runs) l m o = by (in_two a b c runs l m o.2) (cases_lt (first_time run) a) (cases_lt (first_time run) b) (cases_lt (first_time run) c)
  where
    span : first_time run ≤ last_time run
    span = first_below_last run o.0

    by : runs_within a c runs ≡ runs_within a b runs ++ runs_within b c runs → (first_time run < a) ⊎ (a ≤ first_time run) → (first_time run < b) ⊎ (b ≤ first_time run) → (first_time run < c) ⊎ (c ≤ first_time run) → runs_within a c (run ∷ runs) ≡ runs_within a b (run ∷ runs) ++ runs_within b c (run ∷ runs)
    by rest (inl p) q r =
        skipped a c run runs (before_it a c (first_time run) p) ∙ rest
        ∙ sym (λ i. skipped a b run runs (before_it a b (first_time run) p) i ++ skipped b c run runs (before_it b c (first_time run) (omega arith)) i)
    by rest (inr p) (inl q) r =
        passed a c run runs (in_it a c (first_time run) p (omega arith)) ∙ ap (λ l. run ∷ l) rest
        ∙ sym (λ i. passed a b run runs (in_it a b (first_time run) p q) i ++ skipped b c run runs (before_it b c (first_time run) q) i)
    by rest (inr p) (inr q) (inl r) =
        let none : runs_within a b runs ≡ [] = none_from_on a b runs (All-weaker (λ (x : List Kept). last_time run < first_time x) (λ x. b ≤ first_time x) (λ x h. omega (arith, span)) runs (above run runs o.1 o.2)) in
        passed a c run runs (in_it a c (first_time run) p r) ∙ ap (λ l. run ∷ l) (rest ∙ ap (λ l. l ++ runs_within b c runs) none)
        ∙ sym ((λ i. skipped a b run runs (behind_it a b (first_time run) q) i ++ passed b c run runs (in_it b c (first_time run) q r) i) ∙ ap (λ l. l ++ run ∷ runs_within b c runs) none)
    by rest (inr p) (inr q) (inr r) =
        skipped a c run runs (behind_it a c (first_time run) r) ∙ rest
        ∙ sym (λ i. skipped a b run runs (behind_it a b (first_time run) q) i ++ skipped b c run runs (behind_it b c (first_time run) r) i)

-- their numbers
pub number_in_two : (a b c : ℕ) (runs : List (List Kept)) → a ≤ b → b ≤ c → AreInOrder runs → length (runs_within a c runs) ≡ length (runs_within a b runs) + length (runs_within b c runs)
number_in_two a b c runs l m o = ap length (in_two a b c runs l m o) ∙ length-append (runs_within a b runs) (runs_within b c runs)

-- they are among all
pub fewer_within : (low high : ℕ) (runs : List (List Kept)) → length (runs_within low high runs) ≤ length runs
fewer_within low high runs = omega (arith, length-filter_both (begins_in low high) (λ run. not (begins_in low high run)) (λ run. refl) runs)

-- from later on there are no more
pub fewer_from : (a b c : ℕ) (runs : List (List Kept)) → a ≤ b → AreInOrder runs → length (runs_within b c runs) ≤ length (runs_within a c runs)
fewer_from a b c runs l o = by (cases_lt c b)
  where
    by : (c < b) ⊎ (b ≤ c) → length (runs_within b c runs) ≤ length (runs_within a c runs)
    by (inl h) = omega (arith, ap length (none_turned b c runs (omega arith)))
    by (inr h) = omega (arith, number_in_two a b c runs l h o)
