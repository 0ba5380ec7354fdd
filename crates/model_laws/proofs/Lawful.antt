-- When journals are lawful: of one source, and what is never dropped in them.
use Rattle.std.proofs.Common.{◌≡◌, ◌∙◌, ℕ, zero, suc, ◌<◌, ◌≤◌, Bool, true, false, cond, List, [], ◌∷◌, ◌++◌, length, get_or, max, fold, ap, sym, refl, subst, arith}
use Rattle.std.specs.Prelude.{◌==◌, ◌&&◌, ◌||◌, ◌↔◌, nat_lt}
use Rattle.std.specs.List.{All, list_all}
use Rattle.std.proofs.lemmas.Bool.{and_parts, eq-eqb, ltb-true}
use Rattle.std.proofs.lemmas.Bool.Decides.{nat_tests}
use Rattle.std.proofs.lemmas.List.{same_lists, length-append}
use Rattle.std.proofs.lemmas.List.Elements.{All-filter, All-head, All-tail, filter-append}
use Rattle.std.proofs.lemmas.List.FromFn.{get_or-map-range_with_len, length-map-range_with_len}
use Rattle.stream_base.specs.declared.entry.Entry.{Entry}
use Rattle.stream_base.specs.declared.limits.TheConstants.{FINAL}
use Rattle.stream_base.specs.declared.what.What.{What}
use Rattle.stream_base.specs.declared.what.What.TheVariants.{Tuple, Mark, Water, Idle, End}
use Rattle.stream_base.specs.Model.Routes.{IsLawful, entries_from, goes_to, routed}
use Rattle.stream_base.specs.Model.Watermark.{has_ended, source_water, water_of}
use Rattle.stream_base.specs.Model.What.{is_end, is_idle_word, is_late, water_time}
use Rattle.stream_base.specs.Laws.{journals_of_one}
use Rattle.model_laws.proofs.WatermarkBounds.{never_idle_holds_back}

-- entries of sources below a number
pub all_below : (n : ℕ) (entries : List Entry) → list_all (λ e. nat_lt e.source n) entries ≡ true → (i : ℕ) (e : Entry) → i < length entries → (get_or entries i e).source < n
all_below n [] h i e lt = absurd (omega arith)
all_below n (x ∷ xs) h zero e lt = ltb-true x.source n (and_parts (nat_lt x.source n) (list_all (λ y. nat_lt y.source n) xs) h).0
all_below n (x ∷ xs) h (suc i) e lt = all_below n xs (and_parts (nat_lt x.source n) (list_all (λ y. nat_lt y.source n) xs) h).1 i e (omega arith)

-- ---- one source
own_entries : (entries : List Entry) → All (λ e. e.source ≡ 0) entries → entries_from 0 entries ≡ entries
own_entries [] h = refl
own_entries (e ∷ es) h =
    let own : (e.source == 0) ≡ true = eq-eqb e.source 0 (All-head (λ (x : Entry). x.source ≡ 0) e es h) in
    ap (λ b. cond b (e ∷ entries_from 0 es) (entries_from 0 es)) own ∙ ap (λ l. e ∷ l) (own_entries es (All-tail (λ (x : Entry). x.source ≡ 0) e es h))

routed_own : (shards k : ℕ) (entries : List Entry) → All (λ e. e.source ≡ 0) entries → All (λ e. e.source ≡ 0) (routed shards k entries)
routed_own shards k entries h = All-filter (λ (e : Entry). goes_to shards k e.what) (λ e. e.source ≡ 0) entries h

journal_of_one : (shards k : ℕ) (entries : List Entry) → k < shards → get_or (journals_of_one shards entries) k [] ≡ routed shards k entries
journal_of_one shards k entries l = get_or-map-range_with_len (λ j. routed shards j entries) 0 shards k k [] l (omega arith)

lawful_is_one : (shards : ℕ) (entries : List Entry) (journals : List (List Entry)) → IsLawful shards (entries ∷ []) journals → journals ≡ journals_of_one shards entries
lawful_is_one shards entries journals lawful =
    same_lists journals (journals_of_one shards entries) (lawful.count ∙ sym (length-map-range_with_len (λ j. routed shards j entries) 0 shards)) each
  where
    from_none_else : (k : ℕ) → k < length journals → All (λ (e : Entry). e.source ≡ 0) (get_or journals k [])
    from_none_else k l = λ i e m. let below : (get_or (get_or journals k []) i e).source < 1 = lawful.known k i e l m in omega arith

    each : (k : ℕ) (d : List Entry) → k < length journals → get_or journals k d ≡ get_or (journals_of_one shards entries) k d
    each k d l =
        let within : k < shards = omega (arith, lawful.count) in
        default journals k d [] l ∙ sym (own_entries (get_or journals k []) (from_none_else k l)) ∙ lawful.held k 0 l (omega arith)
        ∙ sym (get_or-map-range_with_len (λ j. routed shards j entries) 0 shards k k d within (omega arith))
      where
        default : (xs : List (List Entry)) (k : ℕ) (d e : List Entry) → k < length xs → get_or xs k d ≡ get_or xs k e
        default [] k d e l = absurd (omega arith)
        default (x ∷ xs) zero d e l = refl
        default (x ∷ xs) (suc k) d e l = default xs k d e (omega arith)

one_is_lawful : (shards : ℕ) (entries : List Entry) → All (λ e. e.source ≡ 0) entries → IsLawful shards (entries ∷ []) (journals_of_one shards entries)
one_is_lawful shards entries h = record { count = length-map-range_with_len (λ j. routed shards j entries) 0 shards; known = known; held = held }
  where
    within : (k : ℕ) → k < length (journals_of_one shards entries) → k < shards
    within k l = omega (arith, length-map-range_with_len (λ j. routed shards j entries) 0 shards)

    known : (k i : ℕ) (e : Entry) → k < length (journals_of_one shards entries) → i < length (get_or (journals_of_one shards entries) k []) → (get_or (get_or (journals_of_one shards entries) k []) i e).source < 1
    known k i e l m =
        let is : get_or (journals_of_one shards entries) k [] ≡ routed shards k entries = journal_of_one shards k entries (within k l) in
        let zero_source : (get_or (get_or (journals_of_one shards entries) k []) i e).source ≡ 0 = subst (All (λ (x : Entry). x.source ≡ 0)) (sym is) (routed_own shards k entries h) i e m in
        omega arith

    held : (k s : ℕ) → k < length (journals_of_one shards entries) → s < 1 → entries_from s (get_or (journals_of_one shards entries) k []) ≡ routed shards k (get_or (entries ∷ []) s [])
    held k zero l m = ap (entries_from 0) (journal_of_one shards k entries (within k l)) ∙ own_entries (routed shards k entries) (routed_own shards k entries h)
    held k (suc s) l m = absurd (omega arith)

pub lawful_of_one : (shards : ℕ) (entries : List Entry) (journals : List (List Entry)) → All (λ e. e.source ≡ 0) entries → IsLawful shards (entries ∷ []) journals ↔ (journals ≡ journals_of_one shards entries)
lawful_of_one shards entries journals h = (lawful_is_one shards entries journals, λ e. subst (IsLawful shards (entries ∷ [])) (sym e) (one_is_lawful shards entries h))

-- ---- a source's own entries
own_ended : (s : ℕ) (journal : List Entry) → has_ended s (entries_from s journal) ≡ has_ended s journal
own_ended s [] = refl
own_ended s (e ∷ es) = by (e.source == s) refl (own_ended s es)
  where
    by : (b : Bool) → (e.source == s) ≡ b → has_ended s (entries_from s es) ≡ has_ended s es → has_ended s (cond b (e ∷ entries_from s es) (entries_from s es)) ≡ ((b && is_end e.what) || has_ended s es)
    by true own later = λ i. (own i && is_end e.what) || later i
    by false other later = later

own_latest : (s start : ℕ) (journal : List Entry) → fold (λ latest (e : Entry). cond (e.source == s) (max latest (water_time e.what)) latest) start (entries_from s journal) ≡ fold (λ latest (e : Entry). cond (e.source == s) (max latest (water_time e.what)) latest) start journal
own_latest s start [] = refl
own_latest s start (e ∷ es) = by (e.source == s) refl (λ n. own_latest s n es)
  where
    by : (b : Bool) → (e.source == s) ≡ b → ((n : ℕ) → fold (λ latest (e : Entry). cond (e.source == s) (max latest (water_time e.what)) latest) n (entries_from s es) ≡ fold (λ latest (e : Entry). cond (e.source == s) (max latest (water_time e.what)) latest) n es)
        → fold (λ latest (e : Entry). cond (e.source == s) (max latest (water_time e.what)) latest) start (cond b (e ∷ entries_from s es) (entries_from s es)) ≡ fold (λ latest (e : Entry). cond (e.source == s) (max latest (water_time e.what)) latest) (cond b (max start (water_time e.what)) start) es
    by true own later = ap (λ b. fold (λ latest (e : Entry). cond (e.source == s) (max latest (water_time e.what)) latest) (cond b (max start (water_time e.what)) start) (entries_from s es)) own ∙ later (max start (water_time e.what))
    by false other later = later start

-- its watermark is decided by them alone
pub own_water : (s : ℕ) (journal : List Entry) → source_water s (entries_from s journal) ≡ source_water s journal
unfolding source_water
own_water s journal = λ i. cond (own_ended s journal i) FINAL (own_latest s 0 journal i)

-- ---- never dropped
not_late_below : (lateness low high : ℕ) (what : What) → low ≤ high → is_late lateness high what ≡ false → is_late lateness low what ≡ false
not_late_below lateness low high (Tuple key time value) l h = grind (arith, nat_tests)
not_late_below lateness low high (Mark key time) l h = grind (arith, nat_tests)
not_late_below lateness low high (Water time) l h = refl
not_late_below lateness low high Idle l h = refl
not_late_below lateness low high End l h = refl

pub own_watermark_decides : (lateness sources : ℕ) (before : List Entry) (e : Entry) → e.source < sources → All (λ x. water_time x.what ≤ FINAL) before → All (λ x. is_idle_word x.what ≡ false) (entries_from e.source before)
    → is_late lateness (source_water e.source before) e.what ≡ false → is_late lateness (water_of sources before) e.what ≡ false
own_watermark_decides lateness sources before e l times busy in_time = not_late_below lateness (water_of sources before) (source_water e.source before) e.what (never_idle_holds_back sources e.source l before times busy) in_time

module _ (shards : ℕ) (sources journals : List (List Entry)) (k : ℕ) (before : List Entry) (e : Entry) (after : List Entry) (lawful : IsLawful shards sources journals) (l : k < shards) (is : get_or journals k [] ≡ before ++ e ∷ after) where
  there : k < length journals
  there = omega (arith, lawful.count)

  known_source : e.source < length sources
  known_source =
      let within : length before < length (get_or journals k []) = subst (λ j. length before < length j) (sym is) (omega (arith, length-append before (e ∷ after))) in
      subst (λ (x : Entry). x.source < length sources) (subst (λ j. get_or j (length before) e ≡ e) (sym is) (seam before)) (lawful.known k (length before) e there within)
    where
      seam : (xs : List Entry) → get_or (xs ++ e ∷ after) (length xs) e ≡ e
      seam [] = refl
      seam (x ∷ xs) = seam xs

  -- the source tells the entry behind those of its own that stand before it
  pub told_in_order : routed shards k (get_or sources e.source []) ≡ entries_from e.source before ++ e ∷ entries_from e.source after
  told_in_order =
      sym (lawful.held k e.source there known_source) ∙ ap (entries_from e.source) is ∙ filter-append (λ (x : Entry). x.source == e.source) before (e ∷ after)
      ∙ ap (λ b. entries_from e.source before ++ cond b (e ∷ entries_from e.source after) (entries_from e.source after)) (eq-eqb e.source e.source refl)

  pub never_dropped : (lateness : ℕ) → All (λ x. water_time x.what ≤ FINAL) before → All (λ x. is_idle_word x.what ≡ false) (entries_from e.source before)
      → is_late lateness (source_water e.source (entries_from e.source before)) e.what ≡ false → is_late lateness (water_of (length sources) before) e.what ≡ false
  never_dropped lateness times busy in_time = own_watermark_decides lateness (length sources) before e known_source times busy (subst (λ w. is_late lateness w e.what ≡ false) (own_water e.source before) in_time)
