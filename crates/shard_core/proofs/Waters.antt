-- The watermark of a journal within its limits is a time or the final one.
use Rattle.std.proofs.Common.{◌≡◌, ◌≤◌, ℕ, Bool, true, false, cond, max, min, List, [], ◌∷◌, ◌++◌, filter, arith, refl, sym, subst, inl, inr, ⊎_elim}
use Rattle.std.specs.Prelude.{◌==◌, fold}
use Rattle.std.specs.List.{All, range_with_len}
use Rattle.std.proofs.lemmas.Bool.Decides.{nat_tests}
use Rattle.std.proofs.lemmas.List.Elements.{All-head, All-map, All-tail}
use Rattle.stream_base.specs.declared.limits.TheConstants.{FINAL, TIME_MAX}
use Rattle.stream_base.specs.declared.entry.Entry.{Entry}
use Rattle.stream_base.specs.declared.what.What.{What}
use Rattle.stream_base.specs.declared.what.What.TheVariants.{Tuple, Mark, Water, Idle, End}
use Rattle.stream_base.specs.Model.Journals.{is_entry_within}
use Rattle.stream_base.specs.Model.What.{water_time}
use Rattle.stream_base.specs.Model.Watermark.{all_ended, awake_waters, has_ended, is_awake, latest_water, least_or_zero, least_water, source_water, water_of}
use Rattle.stream_base.proofs.EventOrder.{from_the_front}
use Rattle.stream_base.specs.Model.Moments.{IsWater}
use Rattle.model_laws.proofs.Fronts.{All_front}
use Rattle.model_laws.proofs.WatermarkFacts.{water_of_nil, water_of_push}

abbrev AreWithin : List Entry → Type 0
AreWithin journal = All (λ e. is_entry_within e ≡ true) journal

-- ---- two watermarks
pub greater_is_water : (a b : ℕ) → IsWater a → IsWater b → IsWater (max a b)
greater_is_water a b h k =
    ⊎_elim
    (λ s. ⊎_elim (λ t. inl (omega arith)) (λ t. inr (omega arith)) k)
    (λ s. ⊎_elim (λ t. inr (omega arith)) (λ t. inr (omega arith)) k)
    h

lesser_is_water : (a b : ℕ) → IsWater a → IsWater b → IsWater (min a b)
lesser_is_water a b h k =
    ⊎_elim
    (λ s. ⊎_elim (λ t. inl (omega arith)) (λ t. inl (omega arith)) k)
    (λ s. ⊎_elim (λ t. inl (omega arith)) (λ t. inr (omega arith)) k)
    h

-- ---- one source
pub time_within : (e : Entry) → is_entry_within e ≡ true → water_time e.what ≤ TIME_MAX
time_within e h = by e.what h
  where
    by : (w : What) → is_entry_within (record { source = e.source; what = w }) ≡ true → water_time w ≤ TIME_MAX
    by (Tuple key time value) h = omega arith
    by (Mark key time) h = omega arith
    by (Water time) h = grind (arith, nat_tests)
    by Idle h = omega arith
    by End h = omega arith

latest_from : (s start : ℕ) (journal : List Entry) → start ≤ TIME_MAX → AreWithin journal → fold (λ latest (e : Entry). cond (e.source == s) (max latest (water_time e.what)) latest) start journal ≤ TIME_MAX
latest_from s start [] low h = low
latest_from s start (e ∷ es) low h = latest_from s (cond (e.source == s) (max start (water_time e.what)) start) es (by (e.source == s)) (All-tail (λ x. is_entry_within x ≡ true) e es h)
  where
    by : (b : Bool) → cond b (max start (water_time e.what)) start ≤ TIME_MAX
    by true = let first : water_time e.what ≤ TIME_MAX = time_within e (All-head (λ (x : Entry). is_entry_within x ≡ true) e es h) in omega arith
    by false = low

source_is_water : (s : ℕ) (journal : List Entry) → AreWithin journal → IsWater (source_water s journal)
unfolding source_water
source_is_water s journal h = by (has_ended s journal)
  where
    by : (b : Bool) → IsWater (cond b FINAL (latest_water s journal))
    by true = inr refl
    by false = inl (latest_from s 0 journal (omega arith) h)

-- ---- all sources
least_from : (n : ℕ) (ns : List ℕ) → IsWater n → All IsWater ns → IsWater (fold min n ns)
least_from n [] h hs = h
least_from n (m ∷ ns) h hs = least_from (min n m) ns (lesser_is_water n m h (All-head IsWater m ns hs)) (All-tail IsWater m ns hs)

least_of_waters : (ns : List ℕ) → All IsWater ns → IsWater (least_or_zero ns)
least_of_waters [] hs = inl (omega arith)
least_of_waters (n ∷ ns) hs = least_from n ns (All-head IsWater n ns hs) (All-tail IsWater n ns hs)

least_is_water : (sources : ℕ) (journal : List Entry) → AreWithin journal → IsWater (least_water sources journal)
unfolding least_water
least_is_water sources journal h = by (all_ended sources journal)
  where
    by : (b : Bool) → IsWater (cond b FINAL (least_or_zero (awake_waters sources journal)))
    by true = inr refl
    by false = least_of_waters (awake_waters sources journal) (All-map IsWater (λ s. source_water s journal) (filter (is_awake journal) (range_with_len 0 sources)) (λ k d l. source_is_water _ journal h))

pub water_is_water : (sources : ℕ) (journal : List Entry) → All (λ e. is_entry_within e ≡ true) journal → IsWater (water_of sources journal)
water_is_water sources = from_the_front (λ j. AreWithin j → IsWater (water_of sources j))
    (λ h. subst IsWater (sym (water_of_nil sources)) (least_is_water sources [] h))
    (λ j e before h. subst IsWater (sym (water_of_push sources j e))
    (greater_is_water (water_of sources j) (least_water sources (j ++ e ∷ [])) (before (All_front (λ (x : Entry). is_entry_within x ≡ true) j (e ∷ []) h)) (least_is_water sources (j ++ e ∷ []) h)))
