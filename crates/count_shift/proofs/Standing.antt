-- What stands of an events window: as many instances as the tuples that the watermark has reached fill.
use Rattle.std.proofs.Common.{◌≡◌, ◌∙◌, ℕ, zero, suc, ◌+◌, ◌-◌, ◌*◌, ◌/◌, ◌<◌, ◌≤◌, Bool, true, false, cond, not, List, [], ◌∷◌, length, get_or, take, drop, map, ap, sym, refl, arith, ⊎_elim}
use Rattle.std.specs.Prelude.{◌&&◌, nat_le, nat_lt, filter}
use Rattle.std.specs.Prelude as whole
use Rattle.std.specs.List.{range_with_len}
use Rattle.std.proofs.lemmas.Bool.{le-leb, lt-leb, lt-ltb, le-ltb, cases_lt}
use Rattle.std.proofs.lemmas.List.{length-take, length-drop, get_or-take, get_or-drop}
use Rattle.std.proofs.lemmas.Nat.{le-div}
use Rattle.std.proofs.Math.Nat.{div-mul-le_self}
use Rattle.stream_base.specs.declared.kept.Kept.{Kept}
use Rattle.stream_base.specs.declared.kind.Kind.TheVariants.{Events}
use Rattle.stream_base.specs.Laws.{TimesDoNotFall, becomes_complete}
use Rattle.stream_base.specs.Model.Windows.{last_time, ranks, instances_of, is_complete, standing_of}
use Rattle.stream_base.proofs.Members.{range_members, filter_map_of, filter_same}
use Rattle.stream_base.specs.Model.Moments.{kept_at}
use Rattle.count_shift.specs.Counting.{upper}
use Rattle.count_shift.proofs.Upper.{PartsAt, parts_at_upper}

-- ---- runs of so many
-- a run that is before a quotient is filled
pub filled : (i n u : ℕ) → i < u / n → (i + 1) * n ≤ u
filled i n u h =
    let le : (i + 1) * n ≤ u / n * n = mono (i + 1) (u / n) n (omega arith) in
    omega (arith, div-mul-le_self u n)
  where
    mono : (a b c : ℕ) → a ≤ b → a * c ≤ b * c
    mono a b c h = grind arith

-- and one that is filled is before it
pub within_quotient : (i n u : ℕ) → 1 ≤ n → (i + 1) * n ≤ u → i < u / n
within_quotient i n u pos h = omega (arith, le-div (i + 1) u n pos h)

pub quotients_rise : (n u v : ℕ) → 1 ≤ n → u ≤ v → u / n ≤ v / n
quotients_rise n u v pos h =
    le-div (u / n) v n pos (omega (arith, div-mul-le_self u n))

pub next_run : (i n : ℕ) → (i + 1) * n ≡ i * n + n
next_run i n = grind arith

pub length_of_run : (kept : List Kept) (i n : ℕ) → (i + 1) * n ≤ length kept → length (take n (drop (i * n) kept)) ≡ n
length_of_run kept i n h = simp (length-take, length-drop) (omega (arith, next_run i n))

last_time_at : (xs : List Kept) (d : Kept) → 1 ≤ length xs → last_time xs ≡ (get_or xs (length xs - 1) d).time
last_time_at [] d h = absurd (omega arith)
last_time_at (x ∷ []) d h = refl
last_time_at (x ∷ y ∷ ys) d h =
    let e : length (x ∷ y ∷ ys) - 1 ≡ suc (length (y ∷ ys) - 1) = omega arith in
    last_time_at (y ∷ ys) d (omega arith) ∙ sym (ap (λ k. (get_or (x ∷ y ∷ ys) k d).time) e)

-- the last tuple of a run
last_of_run : (kept : List Kept) (i n : ℕ) (d : Kept) → 1 ≤ n → (i + 1) * n ≤ length kept → last_time (take n (drop (i * n) kept)) ≡ (get_or kept ((i + 1) * n - 1) d).time
last_of_run kept i n d pos h =
    let len : length (take n (drop (i * n) kept)) ≡ n = length_of_run kept i n h in
    let place : i * n + (n - 1) ≡ (i + 1) * n - 1 = omega (arith, next_run i n) in
    last_time_at (take n (drop (i * n) kept)) d (omega arith)
    ∙ ap (λ m. (get_or (take n (drop (i * n) kept)) (m - 1) d).time) len
    ∙ ap (λ (x : Kept). x.time) (get_or-take n (drop (i * n) kept) (n - 1) d (omega arith) ∙ get_or-drop (i * n) kept (n - 1) d)
    ∙ ap (λ k. (get_or kept k d).time) place

-- a run that is all there is complete where the watermark has reached so many
pub complete_run : (count : ℕ) (kept : List Kept) (water i : ℕ) → 1 ≤ count → TimesDoNotFall kept → i < length kept / count → is_complete water (ranks count kept i) ≡ nat_lt i (upper kept water / count)
complete_run count kept water i pos h inside =
    ap (λ t. nat_le t water) (last_of_run kept i count none pos there) ∙ both
  where
    none : Kept
    none = kept_at 0 0 (whole.pos 0)

    there : (i + 1) * count ≤ length kept
    there = filled i count (length kept) inside

    u : ℕ
    u = upper kept water

    p : PartsAt kept water (upper kept water)
    p = parts_at_upper kept water h

    j : ℕ
    j = (i + 1) * count - 1

    some : 1 ≤ (i + 1) * count
    some = omega (arith, next_run i count)

    both : nat_le (get_or kept ((i + 1) * count - 1) none).time water ≡ nat_lt i (upper kept water / count)
    both =
        ⊎_elim
        (λ lt. le-leb (get_or kept j none).time water (p.before j none (omega (arith, some, lt)))
        ∙ sym (lt-ltb i (upper kept water / count) (within_quotient i count (upper kept water) pos (omega (arith, some, lt)))))
        (λ ge. lt-leb (get_or kept j none).time water (p.behind j none ge (omega (arith, some, there)))
        ∙ sym (le-ltb i (upper kept water / count) (short ge)))
        (cases_lt ((i + 1) * count - 1) (upper kept water))
      where
        short : upper kept water ≤ (i + 1) * count - 1 → upper kept water / count ≤ i
        short ge =
            ⊎_elim
            (λ lt. absurd (omega (arith, some, ge, filled i count (upper kept water) lt)))
            (λ le. le)
            (cases_lt i (upper kept water / count))

-- ---- numbers of runs
-- of the numbers from s on, those below b
upto_range : (b s k : ℕ) → b ≤ s + k → filter (λ i. nat_lt i b) (range_with_len s k) ≡ range_with_len s (b - s)
upto_range b s zero h = let e : 0 ≡ b - s = omega arith in ap (range_with_len s) e
upto_range b s (suc k) h =
    ⊎_elim
    (λ lt. let e : suc (b - (s + 1)) ≡ b - s = omega arith in
    ap (λ t. cond t (s ∷ filter (λ i. nat_lt i b) (range_with_len (s + 1) k)) (filter (λ i. nat_lt i b) (range_with_len (s + 1) k))) (lt-ltb s b lt)
    ∙ ap (λ l. s ∷ l) (upto_range b (s + 1) k (omega arith))
    ∙ ap (range_with_len s) e)
    (λ ge. let e : b - (s + 1) ≡ 0 = omega arith in
    let e' : 0 ≡ b - s = omega arith in
    ap (λ t. cond t (s ∷ filter (λ i. nat_lt i b) (range_with_len (s + 1) k)) (filter (λ i. nat_lt i b) (range_with_len (s + 1) k))) (le-ltb s b ge)
    ∙ upto_range b (s + 1) k (omega arith)
    ∙ ap (range_with_len (s + 1)) e
    ∙ ap (range_with_len s) e')
    (cases_lt s b)

-- of the numbers from s on, those from a on
all_from : (a s k : ℕ) → a ≤ s → filter (nat_le a) (range_with_len s k) ≡ range_with_len s k
all_from a s zero h = refl
all_from a s (suc k) h =
    ap (λ t. cond t (s ∷ filter (nat_le a) (range_with_len (s + 1) k)) (filter (nat_le a) (range_with_len (s + 1) k))) (le-leb a s h)
    ∙ ap (λ l. s ∷ l) (all_from a (s + 1) k (omega arith))

from_range : (a s k : ℕ) → s ≤ a → filter (nat_le a) (range_with_len s k) ≡ range_with_len a (s + k - a)
from_range a s zero h = let e : 0 ≡ s + 0 - a = omega arith in ap (range_with_len a) e
from_range a s (suc k) h =
    ⊎_elim
    (λ lt. let e : s + 1 + k - a ≡ s + suc k - a = omega arith in
    ap (λ t. cond t (s ∷ filter (nat_le a) (range_with_len (s + 1) k)) (filter (nat_le a) (range_with_len (s + 1) k))) (lt-leb a s lt)
    ∙ from_range a (s + 1) k (omega arith)
    ∙ ap (range_with_len a) e)
    (λ ge. let same : s ≡ a = omega arith in
    let e : suc k ≡ s + suc k - a = omega arith in
    all_from a s (suc k) ge ∙ ap (λ n. range_with_len n (suc k)) same ∙ ap (range_with_len a) e)
    (cases_lt s a)

less_none : (n : ℕ) → n - 0 ≡ n
less_none n = omega arith

more_none : (n : ℕ) → 0 + n ≡ n
more_none n = omega arith

-- ---- what stands
reached_run : (count : ℕ) (kept : List Kept) (water : ℕ) → 1 ≤ count → TimesDoNotFall kept → upper kept water / count ≤ length kept / count
reached_run count kept water pos h = quotients_rise count (upper kept water) (length kept) pos (parts_at_upper kept water h).within

-- the first instances, as many as the tuples that the watermark has reached fill
pub standing_events : (count : ℕ) (kept : List Kept) (marks : List ℕ) (water : ℕ) → 1 ≤ count → TimesDoNotFall kept → standing_of (Events count) kept marks water ≡ map (ranks count kept) (range_with_len 0 (upper kept water / count))
unfolding instances_of
standing_events count kept marks water pos h =
    filter_map_of (is_complete water) (ranks count kept) (range_with_len 0 (length kept / count))
    ∙ ap (map (ranks count kept)) (filter_same (λ i. is_complete water (ranks count kept i)) (λ i. nat_lt i (upper kept water / count)) (range_with_len 0 (length kept / count)) (λ i c. complete_run count kept water i pos h (omega (arith, (range_members 0 (length kept / count) i c).1))))
    ∙ ap (map (ranks count kept)) (upto_range (upper kept water / count) 0 (length kept / count) (omega (arith, reached_run count kept water pos h)))
    ∙ ap (λ n. map (ranks count kept) (range_with_len 0 n)) (less_none (upper kept water / count))

-- ---- what a move of the watermark completes
becomes_later : (old new bound : ℕ) → (nat_lt old bound && nat_le bound new) ≡ (not (nat_le bound old) && nat_le bound new)
becomes_later old new bound = ap (λ b. b && nat_le bound new) (other old bound)
  where
    other : (a b : ℕ) → nat_lt a b ≡ not (nat_le b a)
    other a b = ⊎_elim (λ lt. lt-ltb a b lt ∙ sym (ap not (lt-leb b a lt))) (λ ge. le-ltb a b ge ∙ sym (ap not (le-leb b a ge))) (cases_lt a b)

not_below : (a b : ℕ) → not (nat_lt a b) ≡ nat_le b a
not_below a b = ⊎_elim (λ lt. ap not (lt-ltb a b lt) ∙ sym (lt-leb b a lt)) (λ ge. ap not (le-ltb a b ge) ∙ sym (le-leb b a ge)) (cases_lt a b)

completes_run : (count : ℕ) (kept : List Kept) (old new i : ℕ) → 1 ≤ count → TimesDoNotFall kept → i < length kept / count → becomes_complete old new (ranks count kept i) ≡ (nat_le (upper kept old / count) i && nat_lt i (upper kept new / count))
completes_run count kept old new i pos h inside =
    becomes_later old new (ranks count kept i).bound
    ∙ (λ k. not (complete_run count kept old i pos h inside k) && complete_run count kept new i pos h inside k)
    ∙ ap (λ b. b && nat_lt i (upper kept new / count)) (not_below i (upper kept old / count))

filter_both : {X : Type 0} (p q : X → Bool) (xs : List X) → filter (λ x. p x && q x) xs ≡ filter p (filter q xs)
filter_both p q [] = refl
filter_both {X} p q (x ∷ xs) = by (p x) (q x) refl (filter_both p q xs)
  where
    by : (a b : Bool) → p x ≡ a → filter (λ x. p x && q x) xs ≡ filter p (filter q xs) → cond (a && b) (x ∷ filter (λ x. p x && q x) xs) (filter (λ x. p x && q x) xs) ≡ filter p (cond b (x ∷ filter q xs) (filter q xs))
    by true true e later = ap (λ l. x ∷ l) later ∙ sym (ap (λ t. cond t (x ∷ filter p (filter q xs)) (filter p (filter q xs))) e)
    by false true e later = later ∙ sym (ap (λ t. cond t (x ∷ filter p (filter q xs)) (filter p (filter q xs))) e)
    by true false e later = later
    by false false e later = later

-- the instances from those that stood up to those that stand
pub completed_events : (count : ℕ) (kept : List Kept) (marks : List ℕ) (old new : ℕ) → 1 ≤ count → TimesDoNotFall kept
    → filter (becomes_complete old new) (instances_of (Events count) kept marks) ≡ map (ranks count kept) (range_with_len (upper kept old / count) (upper kept new / count - upper kept old / count))
unfolding instances_of
completed_events count kept marks old new pos h =
    filter_map_of (becomes_complete old new) (ranks count kept) (range_with_len 0 (length kept / count))
    ∙ ap (map (ranks count kept)) (filter_same (λ i. becomes_complete old new (ranks count kept i)) (λ i. nat_le a i && nat_lt i b) (range_with_len 0 (length kept / count)) (λ i c. completes_run count kept old new i pos h (omega (arith, (range_members 0 (length kept / count) i c).1))))
    ∙ ap (map (ranks count kept)) (filter_both (nat_le a) (λ i. nat_lt i b) (range_with_len 0 (length kept / count)))
    ∙ ap (λ l. map (ranks count kept) (filter (nat_le a) l)) (upto_range b 0 (length kept / count) (omega (arith, reached_run count kept new pos h)))
    ∙ ap (λ n. map (ranks count kept) (filter (nat_le a) (range_with_len 0 n))) (less_none b)
    ∙ ap (map (ranks count kept)) (from_range a 0 b (omega arith))
    ∙ ap (λ n. map (ranks count kept) (range_with_len a (n - a))) (more_none b)
  where
    a : ℕ
    a = upper kept old / count

    b : ℕ
    b = upper kept new / count
