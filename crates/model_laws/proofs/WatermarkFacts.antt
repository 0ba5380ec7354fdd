-- Watermarks of a journal that is longer by one entry.
use Rattle.std.proofs.Common.{◌≡◌, ◌∙◌, ℕ, zero, suc, ◌+◌, ◌≤◌, max, Bool, true, false, cond, not, List, [], ◌∷◌, ◌++◌, set, map, filter, fold, ap, sym, refl, subst, arith, None, Some, append_assoc}
use Rattle.std.specs.Prelude.{◌==◌, ◌||◌, ◌&&◌}
use Rattle.std.specs.List.{list_all, range_with_len}
use Rattle.std.specs.Option.{option_map_or}
use Rattle.std.proofs.lemmas.Bool.{ne_eqb}
use Rattle.std.proofs.lemmas.List.{append-nil}
use Rattle.std.proofs.lemmas.List.Folds.{list_any-append}
use Rattle.std.proofs.lemmas.List.Sums.{fold_push}
use Rattle.stream_base.specs.declared.limits.TheConstants.{FINAL}
use Rattle.stream_base.specs.declared.entry.Entry.{Entry}
use Rattle.stream_base.specs.declared.what.What.{What}
use Rattle.stream_base.specs.declared.what.What.TheVariants.{Tuple, Mark, Water, Idle, End}
use Rattle.stream_base.specs.Model.What.{is_end, is_idle_word, is_progress, water_time}
use Rattle.stream_base.specs.Model.Watermark.{has_ended, is_awake, is_idle, last_progress, latest_water, least_or_zero, least_water, prefixes_from, source_water, water_of}
use Rattle.stream_base.specs.Laws.{waters_of}

-- ---- one source
or_false : (b : Bool) → (b || false) ≡ b
or_false true = refl
or_false false = refl

pub has_ended_push : (source : ℕ) (journal : List Entry) (e : Entry) → has_ended source (journal ++ e ∷ []) ≡ (has_ended source journal || (e.source == source && is_end e.what))
has_ended_push source journal e =
    list_any-append (λ x. x.source == source && is_end x.what) journal (e ∷ []) ∙ ap (λ b. has_ended source journal || b) (or_false (e.source == source && is_end e.what))

pub latest_water_push : (source : ℕ) (journal : List Entry) (e : Entry) → latest_water source (journal ++ e ∷ []) ≡ cond (e.source == source) (max (latest_water source journal) (water_time e.what)) (latest_water source journal)
latest_water_push source journal e = fold_push (λ latest x. cond (x.source == source) (max latest (water_time x.what)) latest) 0 journal e

-- the watermark of a source after one entry more
pub source_water_push : (source : ℕ) (journal : List Entry) (e : Entry) → source_water source (journal ++ e ∷ []) ≡ cond (has_ended source journal || (e.source == source && is_end e.what)) FINAL (cond (e.source == source) (max (latest_water source journal) (water_time e.what)) (latest_water source journal))
unfolding source_water
source_water_push source journal e = λ i. cond (has_ended_push source journal e i) FINAL (latest_water_push source journal e i)

-- an entry of another source leaves it as it is
pub source_water_other : (source : ℕ) (journal : List Entry) (e : Entry) → (e.source == source) ≡ false → source_water source (journal ++ e ∷ []) ≡ source_water source journal
unfolding source_water
source_water_other source journal e h = source_water_push source journal e ∙ rw h (ap (λ b. cond b FINAL (latest_water source journal)) (or_false (has_ended source journal)))

-- the end of a source makes its watermark final
pub source_water_end : (source : ℕ) (journal : List Entry) (e : Entry) → (e.source == source) ≡ true → is_end e.what ≡ true → source_water source (journal ++ e ∷ []) ≡ FINAL
source_water_end source journal e own ends =
    let both : (has_ended source journal || (e.source == source && is_end e.what)) ≡ true = rw (own, ends) (or_true (has_ended source journal)) in
    source_water_push source journal e ∙ ap (λ b. cond b FINAL (cond (e.source == source) (max (latest_water source journal) (water_time e.what)) (latest_water source journal))) both
  where
    or_true : (b : Bool) → (b || true) ≡ true
    or_true true = refl
    or_true false = refl

greatest : (ended : Bool) (top latest time : ℕ) → time ≤ top → cond ended top (max latest time) ≡ max (cond ended top latest) time
greatest true top latest time h = omega arith
greatest false top latest time h = refl

and_false : (b : Bool) → (b && false) ≡ false
and_false true = refl
and_false false = refl

-- any other entry of a source raises its watermark to the entry's time, where that is greater; a tuple and a mark have the time 0 here
pub source_water_own : (source : ℕ) (journal : List Entry) (e : Entry) → (e.source == source) ≡ true → is_end e.what ≡ false → water_time e.what ≤ FINAL → source_water source (journal ++ e ∷ []) ≡ max (source_water source journal) (water_time e.what)
unfolding source_water
source_water_own source journal e own goes h =
    let still : (has_ended source journal || (e.source == source && is_end e.what)) ≡ has_ended source journal = rw (own, goes) (or_false (has_ended source journal)) in
    source_water_push source journal e
    ∙ (λ i. cond (still i) FINAL (cond (own i) (max (latest_water source journal) (water_time e.what)) (latest_water source journal)))
    ∙ greatest (has_ended source journal) FINAL (latest_water source journal) (water_time e.what) h

map_but_one : (f g : ℕ → ℕ) (a n i : ℕ) → ((k : ℕ) → (a + i ≡ k → ⊥) → g k ≡ f k) → map g (range_with_len a n) ≡ set (map f (range_with_len a n)) i (g (a + i))
map_but_one f g a zero i h = refl
map_but_one f g a (suc n) zero h =
    let first : g a ≡ g (a + 0) = ap g (omega arith) in
    λ i. first i ∷ map_above f g (a + 1) n (λ k le. h k (λ e. omega arith)) i
  where
    map_above : (f g : ℕ → ℕ) (a n : ℕ) → ((k : ℕ) → a ≤ k → g k ≡ f k) → map g (range_with_len a n) ≡ map f (range_with_len a n)
    map_above f g a zero h = refl
    map_above f g a (suc n) h = λ i. h a (omega arith) i ∷ map_above f g (a + 1) n (λ k le. h k (omega arith)) i
map_but_one f g a (suc n) (suc i) h =
    let first : g a ≡ f a = h a (λ e. omega arith) in
    let rest : map g (range_with_len (a + 1) n) ≡ set (map f (range_with_len (a + 1) n)) i (g (a + 1 + i)) = map_but_one f g (a + 1) n i (λ k ne. h k (λ e. ne (omega arith))) in
    let at : g (a + 1 + i) ≡ g (a + suc i) = ap g (omega arith) in
    λ j. first j ∷ (rest ∙ ap (set (map f (range_with_len (a + 1) n)) i) at) j

-- of the watermarks of the sources, only that of the entry's source can change
pub waters_of_push : (sources : ℕ) (journal : List Entry) (e : Entry) → waters_of sources (journal ++ e ∷ []) ≡ set (waters_of sources journal) e.source (source_water e.source (journal ++ e ∷ []))
waters_of_push sources journal e =
    map_but_one (λ s. source_water s journal) (λ s. source_water s (journal ++ e ∷ [])) 0 sources e.source
    (λ k ne. source_water_other k journal e (ne_eqb e.source k (λ f. ne (omega arith))))
    ∙ ap (λ k. set (waters_of sources journal) e.source (source_water k (journal ++ e ∷ []))) (omega arith)

-- whether a source is idle after one entry more: its own words on its progress alone change that
pub is_idle_push : (source : ℕ) (journal : List Entry) (e : Entry) → is_idle source (journal ++ e ∷ []) ≡ cond (e.source == source && is_progress e.what) (is_idle_word e.what) (is_idle source journal)
unfolding is_idle
is_idle_push source journal e =
    ap (λ o. option_map_or is_idle_word o false) (fold_push (λ last x. cond (x.source == source && is_progress x.what) (Some x.what) last) None journal e)
    ∙ by (e.source == source && is_progress e.what)
  where
    by : (b : Bool) → option_map_or is_idle_word (cond b (Some e.what) (last_progress source journal)) false ≡ cond b (is_idle_word e.what) (option_map_or is_idle_word (last_progress source journal) false)
    by true = refl
    by false = refl

-- ---- all sources
-- where each source stands as before, so does the least watermark
least_water_alike : (sources : ℕ) (old new : List Entry) → ((s : ℕ) → has_ended s new ≡ has_ended s old) → ((s : ℕ) → is_idle s new ≡ is_idle s old) → ((s : ℕ) → source_water s new ≡ source_water s old) → least_water sources new ≡ least_water sources old
unfolding least_water
least_water_alike sources old new ended idle water = λ i. cond (all (range_with_len 0 sources) i) FINAL (least_or_zero (awake (range_with_len 0 sources) i))
  where
    all : (ks : List ℕ) → list_all (λ s. has_ended s new) ks ≡ list_all (λ s. has_ended s old) ks
    all [] = refl
    all (k ∷ ks) = λ i. ended k i && all ks i

    one : (k : ℕ) → is_awake new k ≡ is_awake old k
    one k = λ i. not (ended k i) && not (idle k i)

    awake : (ks : List ℕ) → map (λ s. source_water s new) (filter (is_awake new) ks) ≡ map (λ s. source_water s old) (filter (is_awake old) ks)
    awake [] = refl
    awake (k ∷ ks) = ap (λ b. map (λ s. source_water s new) (cond b (k ∷ filter (is_awake new) ks) (filter (is_awake new) ks))) (one k) ∙ by (is_awake old k) (awake ks)
      where
        by : (b : Bool) → map (λ s. source_water s new) (filter (is_awake new) ks) ≡ map (λ s. source_water s old) (filter (is_awake old) ks)
            → map (λ s. source_water s new) (cond b (k ∷ filter (is_awake new) ks) (filter (is_awake new) ks)) ≡ map (λ s. source_water s old) (cond b (k ∷ filter (is_awake old) ks) (filter (is_awake old) ks))
        by true rest = λ i. water k i ∷ rest i
        by false rest = rest

-- what isn't a word on its source's progress is no end and has no watermark
progress_alone : (what : What) → is_progress what ≡ false → (is_end what ≡ false) × (water_time what ≡ 0) × (is_idle_word what ≡ false)
progress_alone (Tuple key time value) h = (refl, refl, refl)
progress_alone (Mark key time) h = (refl, refl, refl)
progress_alone (Water time) h = cc
progress_alone Idle h = cc
progress_alone End h = cc

-- so a tuple or mark changes nothing of any source
source_water_same : (s : ℕ) (journal : List Entry) (e : Entry) → is_progress e.what ≡ false → source_water s (journal ++ e ∷ []) ≡ source_water s journal
source_water_same s journal e none = by (e.source == s) refl
  where
    by : (b : Bool) → (e.source == s) ≡ b → source_water s (journal ++ e ∷ []) ≡ source_water s journal
    by true own =
        let zero_time : water_time e.what ≡ 0 = (progress_alone e.what none).1 in
        source_water_own s journal e own (progress_alone e.what none).0 (rw zero_time (omega arith)) ∙ rw zero_time (omega arith)
    by false other = source_water_other s journal e other

or_this : (a b c : Bool) → c ≡ false → (a || (b && c)) ≡ a
or_this true b c h = refl
or_this false true c h = h
or_this false false c h = refl

and_this : (b c : Bool) → c ≡ false → (b && c) ≡ false
and_this true c h = h
and_this false c h = refl

has_ended_same : (s : ℕ) (journal : List Entry) (e : Entry) → is_end e.what ≡ false → has_ended s (journal ++ e ∷ []) ≡ has_ended s journal
has_ended_same s journal e none = has_ended_push s journal e ∙ or_this (has_ended s journal) (e.source == s) (is_end e.what) none

is_idle_same : (s : ℕ) (journal : List Entry) (e : Entry) → is_progress e.what ≡ false → is_idle s (journal ++ e ∷ []) ≡ is_idle s journal
is_idle_same s journal e none = is_idle_push s journal e ∙ ap (λ b. cond b (is_idle_word e.what) (is_idle s journal)) (and_this (e.source == s) (is_progress e.what) none)

-- and the least watermark stays
pub least_water_same : (sources : ℕ) (journal : List Entry) (e : Entry) → is_progress e.what ≡ false → least_water sources (journal ++ e ∷ []) ≡ least_water sources journal
least_water_same sources journal e none =
    least_water_alike sources journal (journal ++ e ∷ [])
    (λ s. has_ended_same s journal e (progress_alone e.what none).0)
    (λ s. is_idle_same s journal e none)
    (λ s. source_water_same s journal e none)

-- ---- the watermark over all prefixes
module _ (least : List Entry → ℕ) where
  greatest_from : ℕ → List Entry → List Entry → ℕ
  greatest_from top before es = fold max top (map least (prefixes_from before es))

  greatest_push : (top : ℕ) (before es : List Entry) (e : Entry) → greatest_from top before (es ++ e ∷ []) ≡ max (greatest_from top before es) (least (before ++ es ++ e ∷ []))
  unfolding greatest_from
  greatest_push top before [] e = ap (λ j. max (max top (least before)) (least (j ++ e ∷ []))) (sym (append-nil before))
  greatest_push top before (x ∷ es) e =
      greatest_push (max top (least before)) (before ++ x ∷ []) es e
      ∙ ap (λ j. max (greatest_from (max top (least before)) (before ++ x ∷ []) es) (least (j ++ e ∷ []))) (append_assoc before (x ∷ []) es)

  at_least : (top : ℕ) (before es : List Entry) → top ≤ greatest_from top before es
  unfolding greatest_from
  at_least top before [] = omega arith
  at_least top before (x ∷ es) = let more : max top (least before) ≤ greatest_from (max top (least before)) (before ++ x ∷ []) es = at_least (max top (least before)) (before ++ x ∷ []) es in omega arith

  -- the last is among them
  last_at_most : (top : ℕ) (before es : List Entry) → least (before ++ es) ≤ greatest_from top before es
  unfolding greatest_from
  last_at_most top before [] = subst (λ j. least j ≤ max top (least before)) (sym (append-nil before)) (omega arith)
  last_at_most top before (x ∷ es) = subst (λ j. least j ≤ greatest_from (max top (least before)) (before ++ x ∷ []) es) (append_assoc before (x ∷ []) es) (last_at_most (max top (least before)) (before ++ x ∷ []) es)

-- the watermark after one entry more
pub water_of_push : (sources : ℕ) (journal : List Entry) (e : Entry) → water_of sources (journal ++ e ∷ []) ≡ max (water_of sources journal) (least_water sources (journal ++ e ∷ []))
unfolding water_of greatest_from
water_of_push sources journal e = greatest_push (least_water sources) 0 [] journal e

pub water_of_nil : (sources : ℕ) → water_of sources [] ≡ least_water sources []
unfolding water_of
water_of_nil sources = omega arith

pub least_at_most_water : (sources : ℕ) (journal : List Entry) → least_water sources journal ≤ water_of sources journal
unfolding water_of greatest_from
least_at_most_water sources journal = last_at_most (least_water sources) 0 [] journal

-- it never falls as a journal grows
pub water_rises : (sources : ℕ) (journal : List Entry) (e : Entry) → water_of sources journal ≤ water_of sources (journal ++ e ∷ [])
water_rises sources journal e = subst (λ w. water_of sources journal ≤ w) (sym (water_of_push sources journal e)) (omega arith)

pub water_rises_over : (sources : ℕ) (journal more : List Entry) → water_of sources journal ≤ water_of sources (journal ++ more)
water_rises_over sources journal [] = subst (λ j. water_of sources journal ≤ water_of sources j) (sym (append-nil journal)) (omega arith)
water_rises_over sources journal (e ∷ more) =
    let one : water_of sources journal ≤ water_of sources (journal ++ e ∷ []) = water_rises sources journal e in
    let others : water_of sources (journal ++ e ∷ []) ≤ water_of sources (journal ++ e ∷ [] ++ more) = water_rises_over sources (journal ++ e ∷ []) more in
    subst (λ j. water_of sources journal ≤ water_of sources j) (append_assoc journal (e ∷ []) more) (omega arith)

-- a tuple or mark leaves it
pub water_of_same : (sources : ℕ) (journal : List Entry) (e : Entry) → is_progress e.what ≡ false → water_of sources (journal ++ e ∷ []) ≡ water_of sources journal
water_of_same sources journal e none =
    let low : least_water sources journal ≤ water_of sources journal = least_at_most_water sources journal in
    water_of_push sources journal e ∙ ap (max (water_of sources journal)) (least_water_same sources journal e none) ∙ omega arith
