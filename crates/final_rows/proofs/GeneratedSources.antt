-- The generated sources have one result: none of their tuples are tied, and in lawful journals of them nothing is dropped.
use Rattle.std.proofs.Common.{◌≡◌, ◌∙◌, ℕ, zero, suc, ◌+◌, ◌%◌, ◌<◌, ◌≤◌, ◌++◌, max, Bool, true, false, cond, List, [], ◌∷◌, length, get_or, map, fold, ap, sym, refl, subst, inl, inr, arith}
use Rattle.std.specs.Prelude.{◌==◌, ◌&&◌, ◌||◌}
use Rattle.std.specs.List.{All, AllPairs, Contains, flat_map, list_any, range_with_len}
use Rattle.std.proofs.lemmas.Bool.{eqb-true}
use Rattle.std.proofs.lemmas.Bool.Decides.{nat_tests}
use Rattle.std.proofs.lemmas.List.Elements.{All-contains, All-filter, All-head, All-nil, All-tail, Contains-append_cases, Contains-append_right}
use Rattle.std.proofs.lemmas.List.FromFn.{get_or-map-range_with_len, length-map-range_with_len}
use Rattle.std.proofs.lemmas.List.Kept.{AllPairs-cons, AllPairs-filter}
use Rattle.stream_base.specs.declared.entry.Entry.{Entry}
use Rattle.stream_base.specs.declared.limits.TheConstants.{FINAL}
use Rattle.stream_base.specs.declared.what.What.{What}
use Rattle.stream_base.specs.declared.what.What.TheVariants.{Tuple, Mark, Water, Idle, End}
use Rattle.stream_base.specs.Model.Final.{all_entries}
use Rattle.stream_base.specs.Model.Routes.{IsLawful, entries_from, goes_to}
use Rattle.stream_base.specs.Model.Watermark.{has_ended, latest_water, source_water}
use Rattle.stream_base.specs.Model.What.{is_end, is_idle_word, is_late, is_what_within, water_time}
use Rattle.stream_base.proofs.ChangeFacts.{any_from_member}
use Rattle.stream_base.proofs.Distinct.{All_from_members}
use Rattle.model_laws.proofs.Lawful.{never_dropped, told_in_order}
use Rattle.stream_base.proofs.Members.{filter_members, flat_map_members, map_has, map_members, range_members}
use Rattle.stream_base.proofs.Rising.{Contains-cons_cases, Contains-head, none_in_nil}
use Rattle.slice_lists.proofs.Order.{All-split}
use Rattle.source_feed.specs.Generated.{dealt, made_entries, made_events, made_sources, told_of_indices}
use Rattle.source_feed.specs.Stream.{entry_of}
use Rattle.source_feed.specs.declared.made_feed.TheConstants.{MADE_ROWS_MAX}
use Rattle.source_feed.specs.declared.made_input.TheConstants.{MADE_LATENESS}
use Rattle.final_rows.specs.AtEnd.{AreUntied, KeepAll, NothingIsDropped}
use Rattle.final_rows.proofs.GeneratedEvents.{AreApart, IsInTime, IsWithin, Says, at_zero, dealt_rise, extra_second, no_end, not_idle, tied_times, told_apart, told_in_time, told_say, told_within}
use Rattle.final_rows.proofs.GeneratedTimes.{one_time}
use Rattle.final_rows.proofs.Pairs.{pairs_append, pairs_cross, pairs_map, pairs_none}
use Rattle.final_rows.proofs.Shards.{early_there, from_source, in_all}

-- ---- one source
dealt_small : (sources source rows : ℕ) → rows ≤ MADE_ROWS_MAX → All (λ i. i < MADE_ROWS_MAX) (dealt sources source 0 rows)
dealt_small sources source rows few = All_from_members (λ i. i < MADE_ROWS_MAX) (dealt sources source 0 rows)
    (λ i c. let m = range_members 0 rows i (filter_members (λ index. index % sources == source) (range_with_len 0 rows) i c).0 in omega (arith, m.1))

dealt_own : (sources source rows i : ℕ) → Contains (dealt sources source 0 rows) i → i % sources ≡ source
dealt_own sources source rows i c = eqb-true (i % sources) source (filter_members (λ index. index % sources == source) (range_with_len 0 rows) i c).1

module _ (seed rows sources : ℕ) where
  -- an event is the end, or says a tuple, mark or watermark of its source
  told_or_end : (source : ℕ) (what : What) → Contains (made_events seed rows sources source) what → (P : What → Type 0) → ((w : What) → Contains (told_of_indices seed [] (dealt sources source 0 rows)) w → P w) → P End → P what
  told_or_end source what c P told end =
      elim (Contains-append_cases (told_of_indices seed [] (dealt sources source 0 rows)) (End ∷ []) what c) [
        | inl d ↦ told what d
        | inr d ↦ subst P (only_end what d) end
      ]
    where
      only_end : (what : What) → Contains (End ∷ []) what → End ≡ what
      only_end what d = elim (Contains-cons_cases End [] what d) [
        | inl e ↦ e
        | inr f ↦ absurd (none_in_nil what f)
      ]

  told_says : (source : ℕ) (what : What) → Contains (told_of_indices seed [] (dealt sources source 0 rows)) what → Says seed (dealt sources source 0 rows) what
  told_says source what c = All-contains (Says seed (dealt sources source 0 rows)) (told_of_indices seed [] (dealt sources source 0 rows)) what (told_say seed [] (dealt sources source 0 rows)) c

  events_within : rows ≤ MADE_ROWS_MAX → (source : ℕ) (what : What) → Contains (made_events seed rows sources source) what → is_what_within what ≡ true
  events_within few source what c =
      told_or_end source what c IsWithin
      (λ w d. All-contains IsWithin (told_of_indices seed [] (dealt sources source 0 rows)) w (told_within seed [] (dealt sources source 0 rows) (All-nil (λ i. i < MADE_ROWS_MAX)) (dealt_small sources source rows few)) d)
      refl

  events_busy : (source : ℕ) (what : What) → Contains (made_events seed rows sources source) what → is_idle_word what ≡ false
  events_busy source what c = told_or_end source what c (λ w. is_idle_word w ≡ false) (λ w d. not_idle seed (dealt sources source 0 rows) w (told_says source w d)) refl

  events_apart : (source : ℕ) → AllPairs AreApart (made_events seed rows sources source)
  events_apart source =
      pairs_append AreApart (told_of_indices seed [] (dealt sources source 0 rows)) (End ∷ [])
      (told_apart seed [] (dealt sources source 0 rows) (dealt_rise sources source 0 rows))
      (AllPairs-cons AreApart End [] (All-nil (AreApart End)) (pairs_none AreApart))
      (λ x y c d. extra_end x y d)
    where
      extra_end : (x y : What) → Contains (End ∷ []) y → AreApart x y
      extra_end x y d = elim (Contains-cons_cases End [] y d) [
        | inl e ↦ subst (AreApart x) e (extra_second x End tt)
        | inr f ↦ absurd (none_in_nil y f)
      ]

  events_in_time : (source : ℕ) → AllPairs IsInTime (made_events seed rows sources source)
  events_in_time source =
      pairs_append IsInTime (told_of_indices seed [] (dealt sources source 0 rows)) (End ∷ [])
      (told_in_time seed [] (dealt sources source 0 rows) (dealt_rise sources source 0 rows) (All_from_members (λ j. All (λ i. i < j) []) (dealt sources source 0 rows) (λ j c. All-nil (λ i. i < j))))
      (AllPairs-cons IsInTime End [] (All-nil (IsInTime End)) (pairs_none IsInTime))
      (λ x y c d. before_end x y (no_end seed (dealt sources source 0 rows) x (told_says source x c)) d)
    where
      before_end : (x y : What) → is_end x ≡ false → Contains (End ∷ []) y → IsInTime x y
      before_end x y inner d = elim (Contains-cons_cases End [] y d) [
        | inl e ↦ subst (IsInTime x) e (record { inner = inner; in_time = refl })
        | inr f ↦ absurd (none_in_nil y f)
      ]

  -- ---- all sources
  is_made_source : (s : ℕ) → s < sources → get_or (made_sources seed rows sources) s [] ≡ made_entries seed rows sources s
  is_made_source s l = get_or-map-range_with_len (made_entries seed rows sources) 0 sources s s [] l (omega arith)

  pub count_sources : length (made_sources seed rows sources) ≡ sources
  count_sources = length-map-range_with_len (made_entries seed rows sources) 0 sources

  made_one : (xs : List Entry) → Contains (made_sources seed rows sources) xs → (s : ℕ) × (made_entries seed rows sources s ≡ xs)
  made_one xs c = let m = map_members (made_entries seed rows sources) (range_with_len 0 sources) xs c in (m.0, m.2)

  an_event : (source : ℕ) (e : Entry) → Contains (made_entries seed rows sources source) e → (w : What) × Contains (made_events seed rows sources source) w × (entry_of source w ≡ e)
  an_event source e c = map_members (entry_of source) (made_events seed rows sources source) e c

  in_all_sources : (P : What → Type 0) → ((source : ℕ) (what : What) → Contains (made_events seed rows sources source) what → P what) → (e : Entry) → Contains (all_entries (made_sources seed rows sources)) e → P e.what
  in_all_sources P h e c =
      let (xs, among, d) = flat_map_members (λ (ys : List Entry). ys) (made_sources seed rows sources) e c in
      let (s, is) = made_one xs among in
      let (w, f, same) = an_event s e (subst (λ (ys : List Entry). Contains ys e) (sym is) d) in
      subst P (ap (λ (x : Entry). x.what) same) (h s w f)

  made_within : rows ≤ MADE_ROWS_MAX → All (λ e. is_what_within e.what ≡ true) (all_entries (made_sources seed rows sources))
  made_within few = All_from_members (λ (e : Entry). is_what_within e.what ≡ true) (all_entries (made_sources seed rows sources)) (λ e c. in_all_sources IsWithin (events_within few) e c)

  made_ended : All (λ entries. list_any (λ e. is_end e.what) entries ≡ true) (made_sources seed rows sources)
  made_ended = All_from_members (λ (entries : List Entry). list_any (λ (e : Entry). is_end e.what) entries ≡ true) (made_sources seed rows sources)
      (λ xs c.
      let (s, is) = made_one xs c in
      let there = map_has (entry_of s) (made_events seed rows sources s) End (Contains-append_right (told_of_indices seed [] (dealt sources s 0 rows)) (End ∷ []) End (Contains-head End [])) in
      subst (λ (entries : List Entry). list_any (λ (e : Entry). is_end e.what) entries ≡ true) is (any_from_member (λ (e : Entry). is_end e.what) (made_entries seed rows sources s) (entry_of s End) there refl))

  -- tuples of two sources
  two_apart : (s t : ℕ) (a b : What) → Contains (made_events seed rows sources s) a → Contains (made_events seed rows sources t) b → s < t → AreApart a b
  two_apart s t a b c d less =
      told_or_end s a c (λ a. AreApart a b)
      (λ v e. told_or_end t b d (AreApart v)
      (λ w f tied.
      let (i, j, p, q, same) = tied_times seed (dealt sources s 0 rows) (dealt sources t 0 rows) v w (told_says s v e) (told_says t w f) tied in
      let one : i ≡ j = one_time seed i j same in
      let mine = dealt_own sources s rows i p in
      let other = dealt_own sources t rows j q in
      let both : s ≡ t = sym mine ∙ ap (λ n. n % sources) one ∙ other in
      omega (arith, both))
      (extra_second v End tt))
      (λ tied. absurd tied)

  entries_apart : (a b : Entry) → Type 0
  entries_apart a b = AreApart a.what b.what

  from_apart : (a n : ℕ) → AllPairs (λ (x y : Entry). AreApart x.what y.what) (flat_map (λ (entries : List Entry). entries) (map (made_entries seed rows sources) (range_with_len a n)))
  from_apart a zero = pairs_none (λ (x y : Entry). AreApart x.what y.what)
  from_apart a (suc n) =
      pairs_append (λ (x y : Entry). AreApart x.what y.what) (made_entries seed rows sources a) (flat_map (λ (entries : List Entry). entries) (map (made_entries seed rows sources) (range_with_len (a + 1) n)))
      (pairs_map (λ (x y : Entry). AreApart x.what y.what) (entry_of a) End (made_events seed rows sources a) (events_apart a))
      (from_apart (a + 1) n)
      (λ x y c d.
      let (v, e, same) = an_event a x c in
      let (ys, among, g) = flat_map_members (λ (entries : List Entry). entries) (map (made_entries seed rows sources) (range_with_len (a + 1) n)) y d in
      let (t, within, is) = map_members (made_entries seed rows sources) (range_with_len (a + 1) n) ys among in
      let (w, f, other) = an_event t y (subst (λ (entries : List Entry). Contains entries y) (sym is) g) in
      let low = (range_members (a + 1) n t within).0 in
      let apart : AreApart v w = two_apart a t v w e f (omega (arith, low)) in
      subst (λ u. AreApart u y.what) (ap (λ (z : Entry). z.what) same) (subst (AreApart v) (ap (λ (z : Entry). z.what) other) apart))

  pub made_untied : rows ≤ MADE_ROWS_MAX → AreUntied (made_sources seed rows sources)
  made_untied few = record { within = made_within few; ended = made_ended; untied = from_apart 0 sources }

-- ---- a source's watermark is never far ahead of what comes behind it
late_max : (a b : ℕ) (what : What) → is_late MADE_LATENESS a what ≡ false → is_late MADE_LATENESS b what ≡ false → is_late MADE_LATENESS (max a b) what ≡ false
late_max a b (Tuple key time value) h g = grind (arith, nat_tests)
late_max a b (Mark key time) h g = grind (arith, nat_tests)
late_max a b (Water time) h g = refl
late_max a b Idle h g = refl
late_max a b End h g = refl

abbrev AllInTime : List Entry → What → Type 0
AllInTime front what = All (λ (x : Entry). IsInTime x.what what) front

not_ended : (s : ℕ) (front : List Entry) (what : What) → AllInTime front what → has_ended s front ≡ false
not_ended s [] what h = refl
not_ended s (x ∷ xs) what h = by (x.source == s) (is_end x.what) (All-head (λ (x : Entry). IsInTime x.what what) x xs h).inner (not_ended s xs what (All-tail (λ (x : Entry). IsInTime x.what what) x xs h))
  where
    by : (b c : Bool) → c ≡ false → has_ended s xs ≡ false → ((b && c) || has_ended s xs) ≡ false
    by true c e later = λ i. e i || later i
    by false c e later = later

latest_in_time : (s start : ℕ) (front : List Entry) (what : What) → is_late MADE_LATENESS start what ≡ false → AllInTime front what
    → is_late MADE_LATENESS (fold (λ latest (e : Entry). cond (e.source == s) (max latest (water_time e.what)) latest) start front) what ≡ false
latest_in_time s start [] what h a = h
latest_in_time s start (x ∷ xs) what h a =
    latest_in_time s (cond (x.source == s) (max start (water_time x.what)) start) xs what
    (by (x.source == s))
    (All-tail (λ (x : Entry). IsInTime x.what what) x xs a)
  where
    by : (b : Bool) → is_late MADE_LATENESS (cond b (max start (water_time x.what)) start) what ≡ false
    by true = late_max start (water_time x.what) what h (All-head (λ (x : Entry). IsInTime x.what what) x xs a).in_time
    by false = h

source_in_time : (s : ℕ) (front : List Entry) (what : What) → AllInTime front what → is_late MADE_LATENESS (source_water s front) what ≡ false
unfolding source_water
source_in_time s front what h =
    subst (λ b. is_late MADE_LATENESS (cond b FINAL (latest_water s front)) what ≡ false) (sym (not_ended s front what h)) (latest_in_time s 0 front what (at_zero what) h)

pub made_keep_all : (seed rows sources shards : ℕ) (journals : List (List Entry)) → rows ≤ MADE_ROWS_MAX → IsLawful shards (made_sources seed rows sources) journals → KeepAll MADE_LATENESS shards (made_sources seed rows sources) journals
made_keep_all seed rows sources shards journals few lawful = record { lawful = lawful; kept = kept }
  where
    kept : (k : ℕ) → k < shards → NothingIsDropped MADE_LATENESS (length (made_sources seed rows sources)) (get_or journals k [])
    kept k l before e after is =
        let all = made_sources seed rows sources in
        let u = made_untied seed rows sources few in
        let there : Contains (get_or journals k []) e = subst (λ (xs : List Entry). Contains xs e) (sym is) (Contains-append_right before (e ∷ after) e (Contains-head e after)) in
        let known : e.source < sources = omega (arith, (from_source shards all journals lawful k l e there).0, count_sources seed rows sources) in
        let early = (All-split (λ (x : Entry). water_time x.what ≤ FINAL) before (e ∷ after) (subst (λ (xs : List Entry). All (λ (x : Entry). water_time x.what ≤ FINAL) xs) is (early_there shards all journals lawful k l u))).0 in
        let busy_there : All (λ (x : Entry). is_idle_word x.what ≡ false) (get_or journals k []) = All_from_members (λ (x : Entry). is_idle_word x.what ≡ false) (get_or journals k []) (λ x c. in_all_sources seed rows sources (λ w. is_idle_word w ≡ false) (events_busy seed rows sources) x (in_all shards all journals lawful k l x c)) in
        let busy = (All-split (λ (x : Entry). is_idle_word x.what ≡ false) before (e ∷ after) (subst (λ (xs : List Entry). All (λ (x : Entry). is_idle_word x.what ≡ false) xs) is busy_there)).0 in
        let own = All-filter (λ (x : Entry). x.source == e.source) (λ (x : Entry). is_idle_word x.what ≡ false) before busy in
        let pairs : AllPairs (λ (x y : Entry). IsInTime x.what y.what) (get_or all e.source []) =
        subst (AllPairs (λ (x y : Entry). IsInTime x.what y.what)) (sym (is_made_source seed rows sources e.source known)) (pairs_map (λ (x y : Entry). IsInTime x.what y.what) (entry_of e.source) End (made_events seed rows sources e.source) (events_in_time seed rows sources e.source)) in
        let told : AllPairs (λ (x y : Entry). IsInTime x.what y.what) (entries_from e.source before ++ e ∷ entries_from e.source after) =
        subst (AllPairs (λ (x y : Entry). IsInTime x.what y.what)) (told_in_order shards all journals k before e after lawful l is) (AllPairs-filter (λ (x y : Entry). IsInTime x.what y.what) (λ (x : Entry). goes_to shards k x.what) (get_or all e.source []) pairs) in
        let in_time : AllInTime (entries_from e.source before) e.what =
        All_from_members (λ (x : Entry). IsInTime x.what e.what) (entries_from e.source before) (λ x c. pairs_cross (λ (x y : Entry). IsInTime x.what y.what) (entries_from e.source before) (e ∷ entries_from e.source after) told x e c (Contains-head e (entries_from e.source after))) in
        never_dropped shards all journals k before e after lawful l is MADE_LATENESS early own (source_in_time e.source (entries_from e.source before) e.what in_time)
