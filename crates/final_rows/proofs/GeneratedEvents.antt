-- The events of a generated source: what each says, and how each stands to those behind it.
use Rattle.std.proofs.Common.{◌≡◌, ◌∙◌, ℕ, ◌+◌, ◌-◌, ◌/◌, ◌%◌, ◌<◌, ◌≤◌, ◌++◌, max, Bool, true, false, cond, List, [], ◌∷◌, length, fold, sym, refl, subst, inl, inr, arith, append_assoc}
use Rattle.std.specs.Prelude.{◌==◌, ◌-ℤ◌, pos, nat_le, nat_lt, ⊤}
use Rattle.std.specs.List.{All, AllPairs, Contains, range_with_len}
use Rattle.std.proofs.lemmas.Bool.Decides.{nat_tests}
use Rattle.std.proofs.lemmas.Int.{ints}
use Rattle.std.proofs.lemmas.List.Elements.{All-append, All-cons, All-contains, All-head, All-nil, All-push, All-tail, All-weaker}
use Rattle.std.proofs.lemmas.List.FromFn.{get_or-range_with_len, length-range_with_len}
use Rattle.std.proofs.lemmas.List.Kept.{AllPairs-cons, AllPairs-filter}
use Rattle.stream_base.specs.Key.{is_key}
use Rattle.stream_base.specs.Limits.{is_value}
use Rattle.stream_base.specs.declared.limits.TheConstants.{TIME_MAX}
use Rattle.stream_base.specs.declared.what.What.{What}
use Rattle.stream_base.specs.declared.what.What.TheVariants.{Tuple, Mark, Water, Idle, End}
use Rattle.stream_base.specs.Model.What.{is_end, is_idle_word, is_late, is_what_within, water_time}
use Rattle.stream_base.proofs.Distinct.{All_from_members}
use Rattle.stream_base.proofs.Rising.{Contains-cons_cases, Contains-head, Contains-tail, none_in_nil}
use Rattle.source_feed.specs.Events.{is_made}
use Rattle.source_feed.specs.Generated.{dealt, drawn_for, greatest_at, key_by, mark_at, time_at, told_at, told_of_indices, tuple_at, value_by, water_at}
use Rattle.source_feed.specs.declared.made_feed.TheConstants.{MADE_ROWS_MAX}
use Rattle.source_feed.specs.declared.made_input.TheConstants.{MADE_DISORDER, MADE_EVERY, MADE_LATENESS}
use Rattle.source_feed.proofs.Dealing.{made_key_is_key}
use Rattle.final_rows.specs.AtEnd.{AreTied}
use Rattle.final_rows.proofs.GeneratedTimes.{near_earlier, one_time, time_is_early}
use Rattle.final_rows.proofs.Pairs.{pairs_back, pairs_cross, pairs_none}

-- ---- indices that rise
abbrev pub Rise : List ℕ → Type 0
Rise indices = AllPairs (λ i j. i < j) indices

pub dealt_rise : (sources source from count : ℕ) → Rise (dealt sources source from count)
dealt_rise sources source from count = AllPairs-filter (λ i j. i < j) (λ index. index % sources == source) (range_with_len from count)
    (λ i j d lt l.
    let m : j < count = omega (arith, length-range_with_len from count) in
    let a = get_or-range_with_len from count i d (omega arith) in
    let b = get_or-range_with_len from count j d m in
    omega (arith, a, b))

rise_head : (i : ℕ) (later : List ℕ) → Rise (i ∷ later) → All (λ j. i < j) later
rise_head i later h = All_from_members (λ j. i < j) later (λ j c. pairs_cross (λ i j. i < j) (i ∷ []) later h i j (Contains-head i []) c)

rise_tail : (i : ℕ) (later : List ℕ) → Rise (i ∷ later) → Rise later
rise_tail i later h = pairs_back (λ i j. i < j) (i ∷ []) later h

-- ---- what an event says: a tuple or mark of one of these indices, or a watermark
abbrev pub Says : ℕ → List ℕ → What → Type 0
Says seed indices (Tuple key time value) = (i : ℕ) × Contains indices i × (time ≡ time_at seed i)
Says seed indices (Mark key time) = (i : ℕ) × Contains indices i × (time ≡ time_at seed i)
Says seed indices (Water time) = ⊤
Says seed indices Idle = ⊥
Says seed indices End = ⊥

says_more : (seed i : ℕ) (later : List ℕ) (what : What) → Says seed later what → Says seed (i ∷ later) what
says_more seed i later (Tuple key time value) h = (h.0, Contains-tail i later h.0 h.1, h.2)
says_more seed i later (Mark key time) h = (h.0, Contains-tail i later h.0 h.1, h.2)
says_more seed i later (Water time) h = tt
says_more seed i later Idle h = h
says_more seed i later End h = h

marks_say : (b : Bool) (seed i : ℕ) (later : List ℕ) (key : List ℕ) → All (Says seed (i ∷ later)) (cond b (Mark key (time_at seed i) ∷ []) [])
marks_say true seed i later key = All-cons (Says seed (i ∷ later)) (Mark key (time_at seed i)) [] (i, Contains-head i later, refl) (All-nil (Says seed (i ∷ later)))
marks_say false seed i later key = All-nil (Says seed (i ∷ later))

waters_say : (b : Bool) (seed : ℕ) (indices : List ℕ) (time : ℕ) → All (Says seed indices) (cond b (Water time ∷ []) [])
waters_say true seed indices time = All-cons (Says seed indices) (Water time) [] tt (All-nil (Says seed indices))
waters_say false seed indices time = All-nil (Says seed indices)

pub told_say : (seed : ℕ) (before indices : List ℕ) → All (Says seed indices) (told_of_indices seed before indices)
unfolding told_of_indices
told_say seed before [] = All-nil (Says seed [])
told_say seed before (i ∷ later) =
    All-append (Says seed (i ∷ later)) (told_at seed before i) (told_of_indices seed (before ++ i ∷ []) later)
    (All-cons (Says seed (i ∷ later)) (tuple_at seed i) (mark_at seed i ++ water_at seed (before ++ i ∷ [])) (i, Contains-head i later, refl)
    (All-append (Says seed (i ∷ later)) (mark_at seed i) (water_at seed (before ++ i ∷ [])) (marks_say (i % 64 == 63) seed i later (key_by (drawn_for seed i))) (waters_say (is_made MADE_EVERY (length (before ++ i ∷ []))) seed (i ∷ later) (greatest_at seed (before ++ i ∷ []) - MADE_DISORDER))))
    (All-weaker (Says seed later) (Says seed (i ∷ later)) (says_more seed i later) (told_of_indices seed (before ++ i ∷ []) later) (told_say seed (before ++ i ∷ []) later))

-- so it is no end, and no word that the source is idle
pub no_end : (seed : ℕ) (indices : List ℕ) (what : What) → Says seed indices what → is_end what ≡ false
no_end seed indices (Tuple key time value) h = refl
no_end seed indices (Mark key time) h = refl
no_end seed indices (Water time) h = refl
no_end seed indices Idle h = absurd h
no_end seed indices End h = absurd h

pub not_idle : (seed : ℕ) (indices : List ℕ) (what : What) → Says seed indices what → is_idle_word what ≡ false
not_idle seed indices (Tuple key time value) h = refl
not_idle seed indices (Mark key time) h = refl
not_idle seed indices (Water time) h = refl
not_idle seed indices Idle h = absurd h
not_idle seed indices End h = absurd h

-- ---- limits
value_is_value : (n : ℕ) → n < 2001 → is_value (pos n -ℤ pos 1000) ≡ true
value_is_value n h = grind (arith, ints, nat_tests)

early_test : (time : ℕ) → time ≤ TIME_MAX → nat_le time TIME_MAX ≡ true
early_test time h = grind (arith, nat_tests)

abbrev pub IsWithin : What → Type 0
IsWithin what = is_what_within what ≡ true

greatest_early : (seed start : ℕ) (indices : List ℕ) → start ≤ TIME_MAX → All (λ i. i < MADE_ROWS_MAX) indices → fold (λ greatest index. max greatest (time_at seed index)) start indices ≤ TIME_MAX
greatest_early seed start [] s h = s
greatest_early seed start (i ∷ later) s h =
    let early : time_at seed i ≤ TIME_MAX = time_is_early seed i (All-head (λ i. i < MADE_ROWS_MAX) i later h) in
    greatest_early seed (max start (time_at seed i)) later (omega arith) (All-tail (λ i. i < MADE_ROWS_MAX) i later h)

marks_within : (b : Bool) (key : List ℕ) (time : ℕ) → time ≤ TIME_MAX → is_key key ≡ true → All IsWithin (cond b (Mark key time ∷ []) [])
marks_within true key time t k = let early = early_test time t in All-cons IsWithin (Mark key time) [] (rw (early, k) refl) (All-nil IsWithin)
marks_within false key time t k = All-nil IsWithin

waters_within : (b : Bool) (time : ℕ) → time ≤ TIME_MAX → All IsWithin (cond b (Water time ∷ []) [])
waters_within true time t = All-cons IsWithin (Water time) [] (early_test time t) (All-nil IsWithin)
waters_within false time t = All-nil IsWithin

pub told_within : (seed : ℕ) (before indices : List ℕ) → All (λ i. i < MADE_ROWS_MAX) before → All (λ i. i < MADE_ROWS_MAX) indices → All IsWithin (told_of_indices seed before indices)
unfolding told_of_indices
told_within seed before [] b h = All-nil IsWithin
told_within seed before (i ∷ later) b h =
    let small = All-head (λ i. i < MADE_ROWS_MAX) i later h in
    let time : time_at seed i ≤ TIME_MAX = time_is_early seed i small in
    let early = early_test (time_at seed i) time in
    let key = made_key_is_key (drawn_for seed i) in
    let value : is_value (value_by (drawn_for seed i)) ≡ true = value_is_value (drawn_for seed i / 16 % 2001) (omega arith) in
    let more = All-push (λ i. i < MADE_ROWS_MAX) before i b small in
    let greatest : greatest_at seed (before ++ i ∷ []) ≤ TIME_MAX = greatest_early seed 0 (before ++ i ∷ []) (omega arith) more in
    All-append IsWithin (told_at seed before i) (told_of_indices seed (before ++ i ∷ []) later)
    (All-cons IsWithin (tuple_at seed i) (mark_at seed i ++ water_at seed (before ++ i ∷ [])) (rw (early, value, key) refl)
    (All-append IsWithin (mark_at seed i) (water_at seed (before ++ i ∷ [])) (marks_within (i % 64 == 63) (key_by (drawn_for seed i)) (time_at seed i) time key) (waters_within (is_made MADE_EVERY (length (before ++ i ∷ []))) (greatest_at seed (before ++ i ∷ []) - MADE_DISORDER) (omega arith))))
    (told_within seed (before ++ i ∷ []) later more (All-tail (λ i. i < MADE_ROWS_MAX) i later h))

-- ---- no two are tied
abbrev pub AreApart : What → What → Type 0
AreApart a b = ¬ AreTied a b

-- no tuple
abbrev IsExtra : What → Type 0
IsExtra (Tuple key time value) = ⊥
IsExtra (Mark key time) = ⊤
IsExtra (Water time) = ⊤
IsExtra Idle = ⊤
IsExtra End = ⊤

extra_first : (a b : What) → IsExtra a → AreApart a b
extra_first (Tuple key time value) b x = absurd x
extra_first (Mark key time) b x = λ t. absurd t
extra_first (Water time) b x = λ t. absurd t
extra_first Idle b x = λ t. absurd t
extra_first End b x = λ t. absurd t

pub extra_second : (a b : What) → IsExtra b → AreApart a b
extra_second (Tuple key time value) (Tuple other at number) x = absurd x
extra_second (Tuple key time value) (Mark other at) x = λ t. absurd t
extra_second (Tuple key time value) (Water at) x = λ t. absurd t
extra_second (Tuple key time value) Idle x = λ t. absurd t
extra_second (Tuple key time value) End x = λ t. absurd t
extra_second (Mark key time) b x = λ t. absurd t
extra_second (Water time) b x = λ t. absurd t
extra_second Idle b x = λ t. absurd t
extra_second End b x = λ t. absurd t

-- the indices of two tied tuples have one time
pub tied_times : (seed : ℕ) (indices others : List ℕ) (a b : What) → Says seed indices a → Says seed others b → AreTied a b → (i : ℕ) × (j : ℕ) × Contains indices i × Contains others j × (time_at seed i ≡ time_at seed j)
tied_times seed indices others (Tuple key time value) (Tuple other at number) x y t = (x.0, y.0, x.1, y.1, sym x.2 ∙ t.1 ∙ y.2)
tied_times seed indices others (Tuple key time value) (Mark other at) x y t = absurd t
tied_times seed indices others (Tuple key time value) (Water at) x y t = absurd t
tied_times seed indices others (Tuple key time value) Idle x y t = absurd t
tied_times seed indices others (Tuple key time value) End x y t = absurd t
tied_times seed indices others (Mark key time) b x y t = absurd t
tied_times seed indices others (Water time) b x y t = absurd t
tied_times seed indices others Idle b x y t = absurd t
tied_times seed indices others End b x y t = absurd t

marks_extra : (b : Bool) (key : List ℕ) (time : ℕ) → All IsExtra (cond b (Mark key time ∷ []) [])
marks_extra true key time = All-cons IsExtra (Mark key time) [] tt (All-nil IsExtra)
marks_extra false key time = All-nil IsExtra

waters_extra : (b : Bool) (time : ℕ) → All IsExtra (cond b (Water time ∷ []) [])
waters_extra true time = All-cons IsExtra (Water time) [] tt (All-nil IsExtra)
waters_extra false time = All-nil IsExtra

extras_apart : (xs rest : List What) → All IsExtra xs → AllPairs AreApart rest → AllPairs AreApart (xs ++ rest)
extras_apart [] rest h g = g
extras_apart (x ∷ xs) rest h g =
    AllPairs-cons AreApart x (xs ++ rest) (All_from_members (AreApart x) (xs ++ rest) (λ y c. extra_first x y (All-head IsExtra x xs h)))
    (extras_apart xs rest (All-tail IsExtra x xs h) g)

pub told_apart : (seed : ℕ) (before indices : List ℕ) → Rise indices → AllPairs AreApart (told_of_indices seed before indices)
unfolding told_of_indices
told_apart seed before [] r = pairs_none AreApart
told_apart seed before (i ∷ later) r =
    let extras = mark_at seed i ++ water_at seed (before ++ i ∷ []) in
    let rest = told_of_indices seed (before ++ i ∷ []) later in
    let extra : All IsExtra extras = All-append IsExtra (mark_at seed i) (water_at seed (before ++ i ∷ [])) (marks_extra (i % 64 == 63) (key_by (drawn_for seed i)) (time_at seed i)) (waters_extra (is_made MADE_EVERY (length (before ++ i ∷ []))) (greatest_at seed (before ++ i ∷ []) - MADE_DISORDER)) in
    let above = rise_head i later r in
    AllPairs-cons AreApart (tuple_at seed i) (extras ++ rest)
    (All-append (AreApart (tuple_at seed i)) extras rest (All-weaker IsExtra (AreApart (tuple_at seed i)) (λ y x. extra_second (tuple_at seed i) y x) extras extra)
    (All_from_members (AreApart (tuple_at seed i)) rest (λ y c t.
    let (m, j, at, among, same) = tied_times seed (i ∷ []) later (tuple_at seed i) y (i, Contains-head i [], refl) (All-contains (Says seed later) rest y (told_say seed (before ++ i ∷ []) later) c) t in
    let first : i ≡ m = one_of i m at in
    let equal : m ≡ j = one_time seed m j same in
    let less : i < j = All-contains (λ j. i < j) later j above among in
    omega arith)))
    (extras_apart extras rest extra (told_apart seed (before ++ i ∷ []) later (rise_tail i later r)))
  where
    one_of : (i m : ℕ) → Contains (i ∷ []) m → i ≡ m
    one_of i m c = elim (Contains-cons_cases i [] m c) [
      | inl e ↦ e
      | inr d ↦ absurd (none_in_nil m d)
    ]

-- ---- none is late at an earlier watermark of its source
pub record IsInTime (a b : What) : Type 0 where
  pub inner : is_end a ≡ false
  pub in_time : is_late MADE_LATENESS (water_time a) b ≡ false

pub at_zero : (what : What) → is_late MADE_LATENESS 0 what ≡ false
at_zero (Tuple key time value) = grind (arith, nat_tests)
at_zero (Mark key time) = grind (arith, nat_tests)
at_zero (Water time) = refl
at_zero Idle = refl
at_zero End = refl

greatest_near : (seed start j : ℕ) (indices : List ℕ) → start < time_at seed j + 128 → All (λ i. i < j) indices → fold (λ greatest index. max greatest (time_at seed index)) start indices < time_at seed j + 128
greatest_near seed start j [] s h = s
greatest_near seed start j (i ∷ later) s h =
    let near : time_at seed i < time_at seed j + 128 = near_earlier seed i j (All-head (λ i. i < j) i later h) in
    greatest_near seed (max start (time_at seed i)) j later (omega arith) (All-tail (λ i. i < j) i later h)

not_late : (lateness water : ℕ) (time at : ℕ) → time ≡ at → water ≤ at + lateness → nat_lt (time + lateness) water ≡ false
not_late lateness water time at e h = grind (arith, nat_tests)

in_time_at : (seed : ℕ) (earlier later : List ℕ) (what : What) → All (λ j. All (λ i. i < j) earlier) later → Says seed later what → is_late MADE_LATENESS (greatest_at seed earlier - MADE_DISORDER) what ≡ false
in_time_at seed earlier later (Tuple key time value) h s =
    let near : greatest_at seed earlier < time_at seed s.0 + 128 = greatest_near seed 0 s.0 earlier (omega arith) (All-contains (λ j. All (λ i. i < j) earlier) later s.0 h s.1) in
    not_late MADE_LATENESS (greatest_at seed earlier - MADE_DISORDER) time (time_at seed s.0) s.2 (omega arith)
in_time_at seed earlier later (Mark key time) h s =
    let near : greatest_at seed earlier < time_at seed s.0 + 128 = greatest_near seed 0 s.0 earlier (omega arith) (All-contains (λ j. All (λ i. i < j) earlier) later s.0 h s.1) in
    not_late MADE_LATENESS (greatest_at seed earlier - MADE_DISORDER) time (time_at seed s.0) s.2 (omega arith)
in_time_at seed earlier later (Water time) h s = refl
in_time_at seed earlier later Idle h s = absurd s
in_time_at seed earlier later End h s = absurd s

quiet_first : (a : What) (ys : List What) → is_end a ≡ false → water_time a ≡ 0 → All (IsInTime a) ys
quiet_first a ys e w = All_from_members (IsInTime a) ys (λ y c. record { inner = e; in_time = subst (λ n. is_late MADE_LATENESS n y ≡ false) (sym w) (at_zero y) })

marks_in_time : (b : Bool) (key : List ℕ) (time : ℕ) (rest : List What) → AllPairs IsInTime rest → AllPairs IsInTime (cond b (Mark key time ∷ []) [] ++ rest)
marks_in_time true key time rest h = AllPairs-cons IsInTime (Mark key time) rest (quiet_first (Mark key time) rest refl refl) h
marks_in_time false key time rest h = h

waters_in_time : (b : Bool) (time : ℕ) (rest : List What) → All (λ y. is_late MADE_LATENESS time y ≡ false) rest → AllPairs IsInTime rest → AllPairs IsInTime (cond b (Water time ∷ []) [] ++ rest)
waters_in_time true time rest a h = AllPairs-cons IsInTime (Water time) rest (All-weaker (λ y. is_late MADE_LATENESS time y ≡ false) (IsInTime (Water time)) (λ y l. record { inner = refl; in_time = l }) rest a) h
waters_in_time false time rest a h = h

pub told_in_time : (seed : ℕ) (before indices : List ℕ) → Rise indices → All (λ j. All (λ i. i < j) before) indices → AllPairs IsInTime (told_of_indices seed before indices)
unfolding told_of_indices
told_in_time seed before [] r h = pairs_none IsInTime
told_in_time seed before (i ∷ later) r h =
    let marks = mark_at seed i in
    let waters = water_at seed (before ++ i ∷ []) in
    let rest = told_of_indices seed (before ++ i ∷ []) later in
    let above = rise_head i later r in
    let behind : All (λ j. All (λ i. i < j) (before ++ i ∷ [])) later =
    All_from_members (λ j. All (λ i. i < j) (before ++ i ∷ [])) later (λ j c. All-push (λ i. i < j) before i (All-contains (λ j. All (λ i. i < j) before) later j (All-tail (λ j. All (λ i. i < j) before) i later h) c) (All-contains (λ j. i < j) later j above c)) in
    let on : AllPairs IsInTime rest = told_in_time seed (before ++ i ∷ []) later (rise_tail i later r) behind in
    let say = told_say seed (before ++ i ∷ []) later in
    let watered : AllPairs IsInTime (waters ++ rest) =
    waters_in_time (is_made MADE_EVERY (length (before ++ i ∷ []))) (greatest_at seed (before ++ i ∷ []) - MADE_DISORDER) rest
    (All_from_members (λ y. is_late MADE_LATENESS (greatest_at seed (before ++ i ∷ []) - MADE_DISORDER) y ≡ false) rest (λ y c. in_time_at seed (before ++ i ∷ []) later y behind (All-contains (Says seed later) rest y say c))) on in
    let marked : AllPairs IsInTime (marks ++ (waters ++ rest)) = marks_in_time (i % 64 == 63) (key_by (drawn_for seed i)) (time_at seed i) (waters ++ rest) watered in
    subst (λ l. AllPairs IsInTime (tuple_at seed i ∷ l)) (sym (append_assoc marks waters rest))
    (AllPairs-cons IsInTime (tuple_at seed i) (marks ++ (waters ++ rest)) (quiet_first (tuple_at seed i) (marks ++ (waters ++ rest)) refl refl) marked)
