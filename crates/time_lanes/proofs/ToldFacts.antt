-- The complete intervals that hold a time, one after another.
use Rattle.std.proofs.Common.{◌≡◌, ◌∙◌, ℕ, zero, suc, ◌+◌, ◌-◌, ◌*◌, ◌/◌, ◌<◌, ◌≤◌, false, cond, Option, List, [], ◌∷◌, ◌++◌, length, drop, take, get_or, map, ap, sym, refl, subst, arith, inl, inr, append_assoc}
use Rattle.std.specs.Prelude.{◌⊎◌, min, nat_le, nat_lt}
use Rattle.std.specs.List.{filter, range_with_len}
use Rattle.std.proofs.lemmas.Bool.{cases_lt, le-leb, le-ltb, lt-leb, lt-ltb}
use Rattle.std.proofs.lemmas.List.{length-drop, length-map, map-append, take_all}
use Rattle.std.proofs.lemmas.List.FromFn.{map-range_with_len_more}
use Rattle.std.proofs.lemmas.Nat.{le-div}
use Rattle.std.proofs.Math.Nat.{div-mul-le_self, lt-div-mul-add}
use Rattle.stream_base.specs.declared.change.Change.{Change}
use Rattle.stream_base.specs.declared.former.Former.{Former}
use Rattle.stream_base.specs.Model.Windows.{starts_holding}
use Rattle.stream_base.proofs.Distinct.{All_from_members}
use Rattle.stream_base.proofs.Filters.{filter_none}
use Rattle.stream_base.proofs.Members.{filter_map_of, filter_same}
use Rattle.stream_base.proofs.Spans.{starts_holding_members}
use Rattle.time_lanes.specs.Told.{complete_starts, ended, starts_from, told_late}

-- ---- their starts are multiples in a row
upto : (b s k : ℕ) → filter (λ i. nat_lt i b) (range_with_len s k) ≡ range_with_len s (min k (b - s))
upto b s zero = let e : 0 ≡ min 0 (b - s) = omega arith in ap (range_with_len s) e
upto b s (suc k) = by (upto b (s + 1) k) (cases_lt s b)
  where
    by : filter (λ i. nat_lt i b) (range_with_len (s + 1) k) ≡ range_with_len (s + 1) (min k (b - (s + 1))) → (s < b) ⊎ (b ≤ s) → filter (λ i. nat_lt i b) (range_with_len s (suc k)) ≡ range_with_len s (min (suc k) (b - s))
    by h (inl l) =
        let e : suc (min k (b - (s + 1))) ≡ min (suc k) (b - s) = omega arith in
        ap (λ t. cond t (s ∷ filter (λ i. nat_lt i b) (range_with_len (s + 1) k)) (filter (λ i. nat_lt i b) (range_with_len (s + 1) k))) (lt-ltb s b l)
        ∙ ap (λ q. s ∷ q) h
        ∙ ap (range_with_len s) e
    by h (inr l) =
        let e : min k (b - (s + 1)) ≡ 0 = omega arith in
        let f : 0 ≡ min (suc k) (b - s) = omega arith in
        ap (λ t. cond t (s ∷ filter (λ i. nat_lt i b) (range_with_len (s + 1) k)) (filter (λ i. nat_lt i b) (range_with_len (s + 1) k))) (le-ltb s b l)
        ∙ h
        ∙ ap (range_with_len (s + 1)) e
        ∙ ap (range_with_len s) f

times_mono : (a b c : ℕ) → a ≤ b → a * c ≤ b * c
times_mono a b c h = grind arith

has_ended : (length slide water k : ℕ) → 1 ≤ slide → nat_le (k * slide + length) water ≡ nat_lt k (ended length slide water)
has_ended length slide water k moves = by (cases_lt water length)
  where
    by : (water < length) ⊎ (length ≤ water) → nat_le (k * slide + length) water ≡ nat_lt k (ended length slide water)
    by (inl l) = lt-leb (k * slide + length) water (omega arith) ∙ sym (ap (λ b. nat_lt k (cond b 0 ((water - length) / slide + 1))) (lt-ltb water length l) ∙ le-ltb k 0 (omega arith))
    by (inr l) = own (cases_lt k ((water - length) / slide + 1)) ∙ sym (ap (λ b. nat_lt k (cond b 0 ((water - length) / slide + 1))) (le-ltb water length l))
      where
        own : (k < (water - length) / slide + 1) ⊎ ((water - length) / slide + 1 ≤ k) → nat_le (k * slide + length) water ≡ nat_lt k ((water - length) / slide + 1)
        own (inl m) =
            let t : k * slide ≤ (water - length) / slide * slide = times_mono k ((water - length) / slide) slide (omega arith) in
            le-leb (k * slide + length) water (omega (arith, div-mul-le_self (water - length) slide)) ∙ sym (lt-ltb k ((water - length) / slide + 1) m)
        own (inr m) = lt-leb (k * slide + length) water (late (cases_lt water (k * slide + length))) ∙ sym (le-ltb k ((water - length) / slide + 1) m)
          where
            late : (water < k * slide + length) ⊎ (k * slide + length ≤ water) → water < k * slide + length
            late (inl s) = s
            late (inr s) = absurd (let q : k ≤ (water - length) / slide = le-div k (water - length) slide moves (omega arith) in omega arith)

pub starts_are : (length slide time water : ℕ) → 1 ≤ slide
    → complete_starts length slide time water ≡ starts_from slide ((time + slide - length) / slide) (min (time / slide + 1) (ended length slide water) - (time + slide - length) / slide)
starts_are length slide time water moves =
    let first : ℕ = (time + slide - length) / slide in
    let e : min (time / slide + 1 - (time + slide - length) / slide) (ended length slide water - (time + slide - length) / slide) ≡ min (time / slide + 1) (ended length slide water) - (time + slide - length) / slide = omega arith in
    filter_map_of (λ low. nat_le (low + length) water) (λ k. k * slide) (range_with_len ((time + slide - length) / slide) (time / slide + 1 - (time + slide - length) / slide))
    ∙ ap (map (λ k. k * slide)) (filter_same (λ k. nat_le (k * slide + length) water) (λ k. nat_lt k (ended length slide water)) (range_with_len ((time + slide - length) / slide) (time / slide + 1 - (time + slide - length) / slide)) (λ k c. has_ended length slide water k moves))
    ∙ ap (map (λ k. k * slide)) (upto (ended length slide water) ((time + slide - length) / slide) (time / slide + 1 - (time + slide - length) / slide))
    ∙ ap (λ n. map (λ k. k * slide) (range_with_len ((time + slide - length) / slide) n)) e

-- where the watermark hasn't passed a time, none that holds it has ended
pub none_complete : (long slide time water : ℕ) → 1 ≤ slide → slide ≤ long → water ≤ time → complete_starts long slide time water ≡ []
none_complete long slide time water moves overlaps early =
    filter_none (λ low. nat_le (low + long) water) (starts_holding long slide time)
    (All_from_members (λ low. nat_le (low + long) water ≡ false) (starts_holding long slide time)
    (λ low c.
    let held : (k : ℕ) × (low ≡ k * slide) × (low ≤ time) × (time < low + long) = starts_holding_members long slide moves overlaps time low c in
    lt-leb (low + long) water (omega (arith, held.3))))

range_length : (a n : ℕ) → length (range_with_len a n) ≡ n
range_length a zero = refl
range_length a (suc n) = ap suc (range_length (a + 1) n)

pub starts_length : (slide first count : ℕ) → length (starts_from slide first count) ≡ count
starts_length slide first count = length-map (range_with_len first count) (λ k. k * slide) ∙ range_length first count

pub starts_in_time : (slide first count time upper k : ℕ) → count ≡ min (time / slide + 1) upper - first → k < count → (first + k) * slide ≤ time
starts_in_time slide first count time upper k e l =
    let t : (first + k) * slide ≤ time / slide * slide = times_mono (first + k) (time / slide) slide (omega arith) in
    omega (arith, div-mul-le_self time slide)

pub starts_hold : (long slide time first k : ℕ) → 1 ≤ slide → first ≡ (time + slide - long) / slide → time < (first + k) * slide + long
starts_hold long slide time first k moves e =
    let q : time + slide - long < first * slide + slide = subst (λ n. time + slide - long < n * slide + slide) (sym e) (lt-div-mul-add {a = time + slide - long} {b = slide} moves) in
    let t : first * slide ≤ (first + k) * slide = times_mono first (first + k) slide (omega arith) in
    omega arith

-- the one at a place
pub start_at : (slide first count k : ℕ) → k < count → get_or (starts_from slide first count) k 0 ≡ (first + k) * slide
start_at slide first zero k l = absurd (omega arith)
start_at slide first (suc n) zero l = ap (λ n. n * slide) (let e : first ≡ first + 0 = omega arith in e)
start_at slide first (suc n) (suc k) l = start_at slide (first + 1) n k (omega arith) ∙ ap (λ n. n * slide) (let e : first + 1 + k ≡ first + suc k = omega arith in e)

-- one more
pub starts_more : (slide first k low : ℕ) → low ≡ (first + k) * slide → starts_from slide first (k + 1) ≡ starts_from slide first k ++ low ∷ []
starts_more slide first k low e = map-range_with_len_more (λ k. k * slide) first k (first + k) refl ∙ ap (λ l. starts_from slide first k ++ l ∷ []) (sym e)

-- so many more
pub starts_add : (slide first a b : ℕ) → starts_from slide first (a + b) ≡ starts_from slide first a ++ starts_from slide (first + a) b
starts_add slide first zero b =
    let e : 0 + b ≡ b = omega arith in
    let f : first ≡ first + 0 = omega arith in
    λ i. starts_from slide (f i) (e i)
starts_add slide first (suc a) b =
    let e : suc a + b ≡ suc (a + b) = omega arith in
    let f : first + 1 + a ≡ first + suc a = omega arith in
    ap (starts_from slide first) e
    ∙ ap (λ l. first * slide ∷ l) (starts_add slide (first + 1) a b)
    ∙ ap (λ n. first * slide ∷ (starts_from slide (first + 1) a ++ starts_from slide n b)) f

-- ---- told one after another
pub formers_add : (f : ℕ → Option Former) (before out pushed : List (Option Former)) (slide first a b : ℕ) → out ≡ before ++ map f (starts_from slide first a) → pushed ≡ out ++ map f (starts_from slide (first + a) b) → pushed ≡ before ++ map f (starts_from slide first (a + b))
formers_add f before out pushed slide first a b h p =
    p
    ∙ ap (λ l. l ++ map f (starts_from slide (first + a) b)) h
    ∙ append_assoc before (map f (starts_from slide first a)) (map f (starts_from slide (first + a) b))
    ∙ ap (λ l. before ++ l) (sym (ap (map f) (starts_add slide first a b) ∙ map-append f (starts_from slide first a) (starts_from slide (first + a) b)))

told_add : (told : ℕ → Option Former → Change) (lows more : List ℕ) (formers : List (Option Former)) → length lows ≤ length formers → told_late told (lows ++ more) formers ≡ told_late told lows formers ++ told_late told more (drop (length lows) formers)
told_add told [] more [] h = refl
told_add told [] more (f ∷ formers) h = refl
told_add told (low ∷ lows) more [] h = absurd (omega arith)
told_add told (low ∷ lows) more (f ∷ formers) h =
    let e : suc (length lows) ≡ length (low ∷ lows) = refl in
    ap (λ q. told low f ∷ q) (told_add told lows more formers (omega arith))

pub rest_of : (formers : List (Option Former)) (a : ℕ) → take (length formers - a) (drop a formers) ≡ drop a formers
rest_of formers a = take_all (length formers - a) (drop a formers) (omega (arith, length-drop a formers))

pub late_add : (told : ℕ → Option Former → Change) (before out pushed : List Change) (slide first a b : ℕ) (formers : List (Option Former)) → a ≤ length formers → out ≡ before ++ told_late told (starts_from slide first a) formers → pushed ≡ out ++ told_late told (starts_from slide (first + a) b) (drop a formers) → pushed ≡ before ++ told_late told (starts_from slide first (a + b)) formers
late_add told before out pushed slide first a b formers l h p =
    let n : length (starts_from slide first a) ≡ a = starts_length slide first a in
    p
    ∙ ap (λ q. q ++ told_late told (starts_from slide (first + a) b) (drop a formers)) h
    ∙ append_assoc before (told_late told (starts_from slide first a) formers) (told_late told (starts_from slide (first + a) b) (drop a formers))
    ∙ ap (λ m. before ++ (told_late told (starts_from slide first a) formers ++ told_late told (starts_from slide (first + a) b) (drop m formers))) (sym n)
    ∙ ap (λ q. before ++ q) (sym (ap (λ s. told_late told s formers) (starts_add slide first a b) ∙ told_add told (starts_from slide first a) (starts_from slide (first + a) b) formers (omega (arith, n))))

pub former_more : (f : ℕ → Option Former) (before out pushed : List (Option Former)) (slide first k low : ℕ) (former : Option Former) → low ≡ (first + k) * slide → out ≡ before ++ map f (starts_from slide first k) → former ≡ f low → pushed ≡ out ++ former ∷ [] → pushed ≡ before ++ map f (starts_from slide first (k + 1))
former_more f before out pushed slide first k low former e h is p =
    p
    ∙ (λ i. h i ++ is i ∷ [])
    ∙ append_assoc before (map f (starts_from slide first k)) (f low ∷ [])
    ∙ ap (λ l. before ++ l) (sym (ap (map f) (starts_more slide first k low e) ∙ map-append f (starts_from slide first k) (low ∷ [])))

told_push : (told : ℕ → Option Former → Change) (lows : List ℕ) (low : ℕ) (formers : List (Option Former)) (d : Option Former) → length lows < length formers → told_late told (lows ++ low ∷ []) formers ≡ told_late told lows formers ++ told low (get_or formers (length lows) d) ∷ []
told_push told [] low [] d h = absurd (omega arith)
told_push told [] low (f ∷ formers) d h = refl
told_push told (l ∷ lows) low [] d h = absurd (omega arith)
told_push told (l ∷ lows) low (f ∷ formers) d h = ap (λ q. told l f ∷ q) (told_push told lows low formers d (omega arith))

pub late_more : (told : ℕ → Option Former → Change) (before out pushed : List Change) (slide first k low : ℕ) (formers : List (Option Former)) (former d : Option Former) (change : Change) → low ≡ (first + k) * slide → k < length formers → out ≡ before ++ told_late told (starts_from slide first k) formers → former ≡ get_or formers k d → change ≡ told low former → pushed ≡ out ++ change ∷ [] → pushed ≡ before ++ told_late told (starts_from slide first (k + 1)) formers
late_more told before out pushed slide first k low formers former d change e l h g is p =
    let n : length (starts_from slide first k) ≡ k = starts_length slide first k in
    p
    ∙ (λ i. h i ++ (is ∙ ap (told low) (g ∙ ap (λ j. get_or formers j d) (sym n))) i ∷ [])
    ∙ append_assoc before (told_late told (starts_from slide first k) formers) (told low (get_or formers (length (starts_from slide first k)) d) ∷ [])
    ∙ ap (λ q. before ++ q) (sym (ap (λ s. told_late told s formers) (starts_more slide first k low e) ∙ told_push told (starts_from slide first k) low formers d (omega (arith, n))))

pub none_told : (told : ℕ → Option Former → Change) (before : List Change) (formers : List (Option Former)) → before ≡ before ++ told_late told [] formers
none_told told [] formers = refl
none_told told (c ∷ before) formers = ap (λ l. c ∷ l) (none_told told before formers)

-- ---- numbers
pub at_most_times : (n s : ℕ) → 1 ≤ s → n ≤ n * s
at_most_times n s h = grind arith

pub one_more_time : (a k : ℕ) → a * (k + 1) ≡ a * k + a
one_more_time a k = grind arith

pub times_add : (a k n : ℕ) → a * (k + n) ≡ a * k + a * n
times_add a k n = grind arith
