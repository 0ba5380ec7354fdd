-- Bounds of the watermark: the final time, each source that never was idle, and the least of all where none was.
use Rattle.std.proofs.Common.{◌≡◌, ◌∙◌, ℕ, ◌-◌, ◌≤◌, ◌<◌, min, max, Bool, true, false, cond, not, List, [], ◌∷◌, ◌++◌, length, map, filter, fold, ap, sym, refl, subst, inl, inr, ⊎_elim, arith}
use Rattle.std.specs.Prelude.{◌==◌, ◌&&◌, ◌↔◌, All}
use Rattle.std.specs.List.{Contains, list_all, range_with_len}
use Rattle.std.proofs.lemmas.Bool.{and_from, and_left, and_parts, and_right, cases_Bool, false≢true, or_parts}
use Rattle.std.proofs.lemmas.List.Elements.{All-head, All-map, All-tail, All-weaker, All-filter, filter-append, filter_passes}
use Rattle.stream_base.specs.declared.limits.TheConstants.{FINAL}
use Rattle.stream_base.specs.declared.entry.Entry.{Entry}
use Rattle.stream_base.specs.Model.What.{is_end, is_idle_word, is_progress, water_time}
use Rattle.stream_base.specs.Model.Routes.{entries_from}
use Rattle.stream_base.specs.Model.Watermark.{all_ended, awake_waters, has_ended, is_awake, is_idle, latest_water, least_or_zero, least_water, source_water, water_of}
use Rattle.stream_base.specs.Laws.{waters_of}
use Rattle.stream_base.proofs.EventOrder.{from_the_front}
use Rattle.model_laws.proofs.Fronts.{All_front, All_back}
use Rattle.stream_base.proofs.Members.{range_members, range_has, map_has, filter_has}
use Rattle.stream_base.proofs.Rising.{none_in_nil, Contains-head, Contains-tail, Contains-cons_cases}
use Rattle.model_laws.proofs.WatermarkFacts.{has_ended_push, is_idle_push, source_water_end, source_water_other, source_water_own, water_of_nil, water_of_push, least_at_most_water}

-- ---- one source
latest_from : (s top start : ℕ) (journal : List Entry) → start ≤ top → All (λ e. water_time e.what ≤ top) journal → fold (λ latest (e : Entry). cond (e.source == s) (max latest (water_time e.what)) latest) start journal ≤ top
latest_from s top start [] low h = low
latest_from s top start (e ∷ es) low h = latest_from s top (cond (e.source == s) (max start (water_time e.what)) start) es (by (e.source == s)) (All-tail (λ x. water_time x.what ≤ top) e es h)
  where
    by : (b : Bool) → cond b (max start (water_time e.what)) start ≤ top
    by true = let first : water_time e.what ≤ top = All-head (λ (x : Entry). water_time x.what ≤ top) e es h in omega arith
    by false = low

latest_at_most : (s top : ℕ) (journal : List Entry) → All (λ e. water_time e.what ≤ top) journal → latest_water s journal ≤ top
latest_at_most s top journal h = latest_from s top 0 journal (omega arith) h

-- no watermark is beyond the final time
abbrev pub AreTimesUpTo : ℕ → List Entry → Type 0
AreTimesUpTo top journal = All (λ (e : Entry). water_time e.what ≤ top) journal

pub source_water_at_most : (s : ℕ) (journal : List Entry) → AreTimesUpTo FINAL journal → source_water s journal ≤ FINAL
unfolding source_water
source_water_at_most s journal h = by (has_ended s journal)
  where
    by : (b : Bool) → cond b FINAL (latest_water s journal) ≤ FINAL
    by true = omega arith
    by false = latest_at_most s FINAL journal h

-- the watermark of a source doesn't fall
source_water_rises : (s : ℕ) (journal : List Entry) (e : Entry) → AreTimesUpTo FINAL (journal ++ e ∷ []) → source_water s journal ≤ source_water s (journal ++ e ∷ [])
source_water_rises s journal e h = by (e.source == s) (is_end e.what) refl refl
  where
    before : source_water s journal ≤ FINAL
    before = source_water_at_most s journal (All_front (λ x. water_time x.what ≤ FINAL) journal (e ∷ []) h)

    by : (b c : Bool) → (e.source == s) ≡ b → is_end e.what ≡ c → source_water s journal ≤ source_water s (journal ++ e ∷ [])
    by true true own ends = subst (λ w. source_water s journal ≤ w) (sym (source_water_end s journal e own ends)) before
    by true false own goes = subst (λ w. source_water s journal ≤ w) (sym (source_water_own s journal e own goes (All-head (λ (x : Entry). water_time x.what ≤ FINAL) e [] (All_back (λ x. water_time x.what ≤ FINAL) journal (e ∷ []) h)))) (omega arith)
    by false c other ends = subst (λ w. source_water s journal ≤ w) (sym (source_water_other s journal e other)) (omega arith)

-- a source that has ended stays so
ended_before : (s : ℕ) (journal : List Entry) (e : Entry) → has_ended s (journal ++ e ∷ []) ≡ false → has_ended s journal ≡ false
ended_before s journal e h = (or_parts (has_ended s journal) (e.source == s && is_end e.what) (sym (has_ended_push s journal e) ∙ h)).0

is_idle_nil : (s : ℕ) → is_idle s [] ≡ false
unfolding is_idle
is_idle_nil s = refl

ended_is_final : (s : ℕ) (journal : List Entry) → has_ended s journal ≡ true → source_water s journal ≡ FINAL
unfolding source_water
ended_is_final s journal e = ap (λ b. cond b FINAL (latest_water s journal)) e

-- a source none of whose words says so isn't idle
pub never_idle : (s : ℕ) (journal : List Entry) → All (λ e. is_idle_word e.what ≡ false) (entries_from s journal) → is_idle s journal ≡ false
never_idle s = from_the_front (λ j. All (λ e. is_idle_word e.what ≡ false) (entries_from s j) → is_idle s j ≡ false) nil more
  where
    nil : All (λ e. is_idle_word e.what ≡ false) (entries_from s []) → is_idle s [] ≡ false
    nil h = is_idle_nil s

    more : (j : List Entry) (e : Entry) → (All (λ x. is_idle_word x.what ≡ false) (entries_from s j) → is_idle s j ≡ false) → All (λ x. is_idle_word x.what ≡ false) (entries_from s (j ++ e ∷ [])) → is_idle s (j ++ e ∷ []) ≡ false
    more j e before h = is_idle_push s j e ∙ by (e.source == s) refl
      where
        split : All (λ x. is_idle_word x.what ≡ false) (entries_from s j ++ entries_from s (e ∷ []))
        split = subst (All (λ x. is_idle_word x.what ≡ false)) (filter-append (λ (x : Entry). x.source == s) j (e ∷ [])) h

        earlier : is_idle s j ≡ false
        earlier = before (All_front (λ (x : Entry). is_idle_word x.what ≡ false) (entries_from s j) (entries_from s (e ∷ [])) split)

        spoken : (e.source == s) ≡ true → is_idle_word e.what ≡ false
        spoken mine = All-head (λ (x : Entry). is_idle_word x.what ≡ false) e [] (subst (λ b. All (λ (x : Entry). is_idle_word x.what ≡ false) (cond b (e ∷ []) [])) mine (All_back (λ (x : Entry). is_idle_word x.what ≡ false) (entries_from s j) (entries_from s (e ∷ [])) split))

        by : (b : Bool) → (e.source == s) ≡ b → cond (b && is_progress e.what) (is_idle_word e.what) (is_idle s j) ≡ false
        by true mine = both (is_progress e.what)
          where
            both : (c : Bool) → cond c (is_idle_word e.what) (is_idle s j) ≡ false
            both true = spoken mine
            both false = earlier
        by false other = earlier

-- ---- the least of numbers
fold_min_le : (n : ℕ) (ns : List ℕ) → fold min n ns ≤ n
fold_min_le n [] = omega arith
fold_min_le n (m ∷ ns) = let rest : fold min (min n m) ns ≤ min n m = fold_min_le (min n m) ns in omega arith

fold_min_member : (n : ℕ) (ns : List ℕ) (m : ℕ) → Contains ns m → fold min n ns ≤ m
fold_min_member n [] m c = absurd (none_in_nil m c)
fold_min_member n (k ∷ ns) m c =
    ⊎_elim
    (λ e. let rest : fold min (min n k) ns ≤ min n k = fold_min_le (min n k) ns in omega arith)
    (λ d. fold_min_member (min n k) ns m d)
    (Contains-cons_cases k ns m c)

least_member : (ns : List ℕ) (m : ℕ) → Contains ns m → least_or_zero ns ≤ m
least_member [] m c = absurd (none_in_nil m c)
least_member (n ∷ ns) m c = ⊎_elim (λ e. let first : fold min n ns ≤ n = fold_min_le n ns in omega arith) (λ d. fold_min_member n ns m d) (Contains-cons_cases n ns m c)

least_at_most : (top : ℕ) (ns : List ℕ) → All (λ n. n ≤ top) ns → least_or_zero ns ≤ top
least_at_most top [] h = omega arith
least_at_most top (n ∷ ns) h = let first : n ≤ top = All-head (λ n. n ≤ top) n ns h in let least : fold min n ns ≤ n = fold_min_le n ns in omega arith

-- ---- all sources
pub least_water_at_most : (sources : ℕ) (journal : List Entry) → AreTimesUpTo FINAL journal → least_water sources journal ≤ FINAL
unfolding least_water
least_water_at_most sources journal h = by (all_ended sources journal)
  where
    by : (b : Bool) → cond b FINAL (least_or_zero (awake_waters sources journal)) ≤ FINAL
    by true = omega arith
    by false = least_at_most FINAL (awake_waters sources journal) (All-map (λ n. n ≤ FINAL) (λ s. source_water s journal) (filter (is_awake journal) (range_with_len 0 sources)) (λ k d l. source_water_at_most _ journal h))

-- the watermark of a journal is never beyond the final time
pub water_at_most : (sources : ℕ) (journal : List Entry) → AreTimesUpTo FINAL journal → water_of sources journal ≤ FINAL
water_at_most sources = from_the_front (λ j. AreTimesUpTo FINAL j → water_of sources j ≤ FINAL)
    (λ h. subst (λ w. w ≤ FINAL) (sym (water_of_nil sources)) (least_water_at_most sources [] h))
    (λ j e before h. let old : water_of sources j ≤ FINAL = before (All_front (λ (x : Entry). water_time x.what ≤ FINAL) j (e ∷ []) h) in
    let new : least_water sources (j ++ e ∷ []) ≤ FINAL = least_water_at_most sources (j ++ e ∷ []) h in
    subst (λ w. w ≤ FINAL) (sym (water_of_push sources j e)) (omega arith))

-- where a source is awake, the least watermark is at most its own
awake_holds_back : (sources s : ℕ) (journal : List Entry) → s < sources → is_awake journal s ≡ true → least_water sources journal ≤ source_water s journal
unfolding least_water
awake_holds_back sources s journal l awake =
    subst (λ b. cond b FINAL (least_or_zero (awake_waters sources journal)) ≤ source_water s journal) (sym (not_all (range_with_len 0 sources) (range_has 0 sources s (omega arith) (omega arith))))
    (least_member (awake_waters sources journal) (source_water s journal) (map_has (λ k. source_water k journal) (filter (is_awake journal) (range_with_len 0 sources)) s (filter_has (is_awake journal) (range_with_len 0 sources) s (range_has 0 sources s (omega arith) (omega arith)) awake)))
  where
    goes : has_ended s journal ≡ false
    goes = by (has_ended s journal) (and_parts (not (has_ended s journal)) (not (is_idle s journal)) awake).0
      where
        by : (b : Bool) → not b ≡ true → b ≡ false
        by true h = absurd (false≢true h)
        by false h = refl

    not_all : (ks : List ℕ) → Contains ks s → list_all (λ k. has_ended k journal) ks ≡ false
    not_all [] c = absurd (none_in_nil s c)
    not_all (k ∷ ks) c = ⊎_elim (λ e. and_left (has_ended k journal) (list_all (λ k. has_ended k journal) ks) (ap (λ z. has_ended z journal) e ∙ goes)) (λ d. and_right (has_ended k journal) (list_all (λ k. has_ended k journal) ks) (not_all ks d)) (Contains-cons_cases k ks s c)

awake_from : (s : ℕ) (journal : List Entry) → has_ended s journal ≡ false → is_idle s journal ≡ false → is_awake journal s ≡ true
awake_from s journal goes busy = and_from (not (has_ended s journal)) (not (is_idle s journal)) (ap not goes) (ap not busy)

-- a source that never was idle holds the watermark back
pub never_idle_holds_back : (sources s : ℕ) → s < sources → (journal : List Entry) → AreTimesUpTo FINAL journal → All (λ e. is_idle_word e.what ≡ false) (entries_from s journal) → water_of sources journal ≤ source_water s journal
never_idle_holds_back sources s l = from_the_front (λ j. AreTimesUpTo FINAL j → All (λ e. is_idle_word e.what ≡ false) (entries_from s j) → water_of sources j ≤ source_water s j)
    (λ h idle. subst (λ w. w ≤ source_water s []) (sym (water_of_nil sources)) (now [] h idle))
    (λ j e before h idle.
    let split : All (λ x. is_idle_word x.what ≡ false) (entries_from s j ++ entries_from s (e ∷ [])) = subst (All (λ x. is_idle_word x.what ≡ false)) (filter-append (λ (x : Entry). x.source == s) j (e ∷ [])) idle in
    let old : water_of sources j ≤ source_water s j = before (All_front (λ (x : Entry). water_time x.what ≤ FINAL) j (e ∷ []) h) (All_front (λ (x : Entry). is_idle_word x.what ≡ false) (entries_from s j) (entries_from s (e ∷ [])) split) in
    let rises : source_water s j ≤ source_water s (j ++ e ∷ []) = source_water_rises s j e h in
    let new : least_water sources (j ++ e ∷ []) ≤ source_water s (j ++ e ∷ []) = now (j ++ e ∷ []) h idle in
    subst (λ w. w ≤ source_water s (j ++ e ∷ [])) (sym (water_of_push sources j e)) (omega arith))
  where
    now : (j : List Entry) → AreTimesUpTo FINAL j → All (λ e. is_idle_word e.what ≡ false) (entries_from s j) → least_water sources j ≤ source_water s j
    now j h idle = by (has_ended s j) refl
      where
        by : (b : Bool) → has_ended s j ≡ b → least_water sources j ≤ source_water s j
        by true e = subst (λ w. least_water sources j ≤ w) (sym (ended_is_final s j e)) (least_water_at_most sources j h)
        by false e = awake_holds_back sources s j l (awake_from s j e (never_idle s j idle))

-- ---- final exactly once all have ended
below : (top : ℕ) → 0 < top → (ns : List ℕ) → All (λ n. n < top) ns → least_or_zero ns < top
below top pos [] h = pos
below top pos (n ∷ ns) h = let first : n < top = All-head (λ n. n < top) n ns h in let least : fold min n ns ≤ n = fold_min_le n ns in omega arith

abbrev pub AreTimesBelow : ℕ → List Entry → Type 0
AreTimesBelow top journal = All (λ (e : Entry). water_time e.what < top) journal

awake_below : (s : ℕ) (journal : List Entry) → AreTimesBelow FINAL journal → is_awake journal s ≡ true → source_water s journal < FINAL
unfolding source_water
awake_below s journal h awake = by (has_ended s journal) (and_parts (not (has_ended s journal)) (not (is_idle s journal)) awake).0
  where
    most : latest_water s journal ≤ FINAL - 1
    most = latest_at_most s (FINAL - 1) journal (All-weaker (λ (e : Entry). water_time e.what < FINAL) (λ e. water_time e.what ≤ FINAL - 1) (λ e l. omega arith) journal h)

    by : (b : Bool) → not b ≡ true → cond b FINAL (latest_water s journal) < FINAL
    by true e = absurd (false≢true e)
    by false e = omega (arith, most)

least_below : (sources s : ℕ) (journal : List Entry) → AreTimesBelow FINAL journal → s < sources → has_ended s journal ≡ false → least_water sources journal < FINAL
unfolding least_water
least_below sources s journal h l goes =
    subst (λ b. cond b FINAL (least_or_zero (awake_waters sources journal)) < FINAL) (sym (not_all (range_with_len 0 sources) (range_has 0 sources s (omega arith) (omega arith))))
    (below FINAL (omega arith) (awake_waters sources journal) (All-map (λ n. n < FINAL) (λ k. source_water k journal) (filter (is_awake journal) (range_with_len 0 sources))
    (All-weaker (λ k. is_awake journal k ≡ true) (λ k. source_water k journal < FINAL) (λ k awake. awake_below k journal h awake) (filter (is_awake journal) (range_with_len 0 sources)) (filter_passes (is_awake journal) (range_with_len 0 sources)))))
  where
    not_all : (ks : List ℕ) → Contains ks s → list_all (λ k. has_ended k journal) ks ≡ false
    not_all [] c = absurd (none_in_nil s c)
    not_all (k ∷ ks) c = ⊎_elim (λ e. and_left (has_ended k journal) (list_all (λ k. has_ended k journal) ks) (ap (λ z. has_ended z journal) e ∙ goes)) (λ d. and_right (has_ended k journal) (list_all (λ k. has_ended k journal) ks) (not_all ks d)) (Contains-cons_cases k ks s c)

water_below : (sources s : ℕ) → s < sources → (journal : List Entry) → AreTimesBelow FINAL journal → has_ended s journal ≡ false → water_of sources journal < FINAL
water_below sources s l = from_the_front (λ j. AreTimesBelow FINAL j → has_ended s j ≡ false → water_of sources j < FINAL)
    (λ h goes. subst (λ w. w < FINAL) (sym (water_of_nil sources)) (least_below sources s [] h l goes))
    (λ j e before h goes.
    let old : water_of sources j < FINAL = before (All_front (λ (x : Entry). water_time x.what < FINAL) j (e ∷ []) h) (ended_before s j e goes) in
    let new : least_water sources (j ++ e ∷ []) < FINAL = least_below sources s (j ++ e ∷ []) h l goes in
    subst (λ w. w < FINAL) (sym (water_of_push sources j e)) (omega arith))

all_true : (p : ℕ → Bool) (ks : List ℕ) → ((k : ℕ) → Contains ks k → p k ≡ true) → list_all p ks ≡ true
all_true p [] h = refl
all_true p (k ∷ ks) h = and_from (p k) (list_all p ks) (h k (Contains-head k ks)) (all_true p ks (λ m c. h m (Contains-tail k ks m c)))

least_final : (sources : ℕ) (journal : List Entry) → ((s : ℕ) → s < sources → has_ended s journal ≡ true) → least_water sources journal ≡ FINAL
unfolding least_water
least_final sources journal ended = ap (λ b. cond b FINAL (least_or_zero (awake_waters sources journal))) (all_true (λ s. has_ended s journal) (range_with_len 0 sources) (λ k c. ended k (omega (arith, (range_members 0 sources k c).1))))

pub final_once_all_ended : (sources : ℕ) (journal : List Entry) → AreTimesBelow FINAL journal → (water_of sources journal ≡ FINAL) ↔ ((s : ℕ) → s < sources → has_ended s journal ≡ true)
final_once_all_ended sources journal h = (
  λ final s l. elim (cases_Bool (has_ended s journal)) [ inl e ↦ e | inr e ↦ absurd (omega (arith, water_below sources s l journal h e)) ],
  λ ended. omega (arith, least_final sources journal ended, least_at_most_water sources journal, water_at_most sources journal (All-weaker (λ (e : Entry). water_time e.what < FINAL) (λ e. water_time e.what ≤ FINAL) (λ e l. omega arith) journal h)),
)

-- ---- no source was idle
drop_final : (journal : List Entry) → ((s : ℕ) → is_idle s journal ≡ false) → (a : ℕ) → a ≤ FINAL → (ks : List ℕ) → fold min a (map (λ s. source_water s journal) ks) ≡ fold min a (map (λ s. source_water s journal) (filter (is_awake journal) ks))
drop_final journal busy a low [] = refl
drop_final journal busy a low (k ∷ ks) = by (has_ended k journal) refl (λ b le. drop_final journal busy b le ks)
  where
    by : (b : Bool) → has_ended k journal ≡ b → ((b : ℕ) → b ≤ FINAL → fold min b (map (λ s. source_water s journal) ks) ≡ fold min b (map (λ s. source_water s journal) (filter (is_awake journal) ks))) → fold min a (map (λ s. source_water s journal) (k ∷ ks)) ≡ fold min a (map (λ s. source_water s journal) (filter (is_awake journal) (k ∷ ks)))
    by true e rest =
        let out : is_awake journal k ≡ false = and_left (not (has_ended k journal)) (not (is_idle k journal)) (ap not e) in
        let same : min a (source_water k journal) ≡ a = rw (ended_is_final k journal e) (omega arith) in
        ap (λ n. fold min n (map (λ s. source_water s journal) ks)) same ∙ rest a low
        ∙ ap (λ c. fold min a (map (λ s. source_water s journal) (cond c (k ∷ filter (is_awake journal) ks) (filter (is_awake journal) ks)))) (sym out)
    by false e rest =
        let kept : is_awake journal k ≡ true = awake_from k journal e (busy k) in
        rest (min a (source_water k journal)) (omega arith)
        ∙ ap (λ c. fold min a (map (λ s. source_water s journal) (cond c (k ∷ filter (is_awake journal) ks) (filter (is_awake journal) ks)))) (sym kept)

none_awake : (journal : List Entry) → ((s : ℕ) → is_idle s journal ≡ false) → (ks : List ℕ) → list_all (λ s. has_ended s journal) ks ≡ true → filter (is_awake journal) ks ≡ []
none_awake journal busy [] h = refl
none_awake journal busy (k ∷ ks) h =
    let both : (has_ended k journal ≡ true) × (list_all (λ s. has_ended s journal) ks ≡ true) = and_parts (has_ended k journal) (list_all (λ s. has_ended s journal) ks) h in
    let out : is_awake journal k ≡ false = and_left (not (has_ended k journal)) (not (is_idle k journal)) (ap not both.0) in
    ap (λ c. cond c (k ∷ filter (is_awake journal) ks) (filter (is_awake journal) ks)) out ∙ none_awake journal busy ks both.1

one_awake : (journal : List Entry) → ((s : ℕ) → is_idle s journal ≡ false) → (ks : List ℕ) → list_all (λ s. has_ended s journal) ks ≡ false → filter (is_awake journal) ks ≡ [] → ⊥
one_awake journal busy [] h e = false≢true (sym h)
one_awake journal busy (k ∷ ks) h e = by (has_ended k journal) refl (one_awake journal busy ks)
  where
    by : (b : Bool) → has_ended k journal ≡ b → (list_all (λ s. has_ended s journal) ks ≡ false → filter (is_awake journal) ks ≡ [] → ⊥) → ⊥
    by true ended rest =
        let out : is_awake journal k ≡ false = and_left (not (has_ended k journal)) (not (is_idle k journal)) (ap not ended) in
        rest (ap (λ b. b && list_all (λ s. has_ended s journal) ks) (sym ended) ∙ h) (ap (λ c. cond c (k ∷ filter (is_awake journal) ks) (filter (is_awake journal) ks)) (sym out) ∙ e)
    by false goes rest =
        let kept : is_awake journal k ≡ true = awake_from k journal goes (busy k) in
        let long : length (k ∷ filter (is_awake journal) ks) ≡ 0 = ap length (ap (λ c. cond c (k ∷ filter (is_awake journal) ks) (filter (is_awake journal) ks)) (sym kept) ∙ e) in
        absurd (omega arith)

least_is_plain : (sources : ℕ) (journal : List Entry) → AreTimesUpTo FINAL journal → ((s : ℕ) → is_idle s journal ≡ false) → least_water sources journal ≡ fold min FINAL (waters_of sources journal)
unfolding least_water
least_is_plain sources journal h busy =
    by (all_ended sources journal) refl ∙ sym (drop_final journal busy FINAL (omega arith) (range_with_len 0 sources))
  where
    some : (ks : List ℕ) → (ks ≡ [] → ⊥) → least_or_zero (map (λ s. source_water s journal) ks) ≡ fold min FINAL (map (λ s. source_water s journal) ks)
    some [] h = absurd (h refl)
    some (k ∷ ks) ne = let low : source_water k journal ≡ min FINAL (source_water k journal) = omega (arith, source_water_at_most k journal h) in ap (λ n. fold min n (map (λ s. source_water s journal) ks)) low

    by : (b : Bool) → all_ended sources journal ≡ b → cond b FINAL (least_or_zero (awake_waters sources journal)) ≡ fold min FINAL (awake_waters sources journal)
    by true e = ap (λ ks. fold min FINAL (map (λ s. source_water s journal) ks)) (sym (none_awake journal busy (range_with_len 0 sources) e))
    by false e = some (filter (is_awake journal) (range_with_len 0 sources)) (one_awake journal busy (range_with_len 0 sources) e)

fold_min_mono : (f g : ℕ → ℕ) → ((k : ℕ) → f k ≤ g k) → (a b : ℕ) → a ≤ b → (ks : List ℕ) → fold min a (map f ks) ≤ fold min b (map g ks)
fold_min_mono f g h a b le [] = le
fold_min_mono f g h a b le (k ∷ ks) = fold_min_mono f g h (min a (f k)) (min b (g k)) (omega (arith, h k)) ks

abbrev NoneIdle : List Entry → Type 0
NoneIdle journal = All (λ (e : Entry). is_idle_word e.what ≡ false) journal

pub water_without_idle : (sources : ℕ) (journal : List Entry) → AreTimesUpTo FINAL journal → NoneIdle journal → water_of sources journal ≡ fold min FINAL (waters_of sources journal)
water_without_idle sources = from_the_front (λ j. AreTimesUpTo FINAL j → NoneIdle j → water_of sources j ≡ fold min FINAL (waters_of sources j))
    (λ h idle. water_of_nil sources ∙ least_is_plain sources [] h (busy [] idle))
    (λ j e before h idle.
    let old : water_of sources j ≡ fold min FINAL (waters_of sources j) = before (All_front (λ (x : Entry). water_time x.what ≤ FINAL) j (e ∷ []) h) (All_front (λ (x : Entry). is_idle_word x.what ≡ false) j (e ∷ []) idle) in
    let new : least_water sources (j ++ e ∷ []) ≡ fold min FINAL (waters_of sources (j ++ e ∷ [])) = least_is_plain sources (j ++ e ∷ []) h (busy (j ++ e ∷ []) idle) in
    let rises : fold min FINAL (waters_of sources j) ≤ fold min FINAL (waters_of sources (j ++ e ∷ [])) = fold_min_mono (λ s. source_water s j) (λ s. source_water s (j ++ e ∷ [])) (λ s. source_water_rises s j e h) FINAL FINAL (omega arith) (range_with_len 0 sources) in
    water_of_push sources j e ∙ omega arith)
  where
    busy : (j : List Entry) → NoneIdle j → (s : ℕ) → is_idle s j ≡ false
    busy j idle s = never_idle s j (All-filter (λ (x : Entry). x.source == s) (λ (e : Entry). is_idle_word e.what ≡ false) j idle)
