-- The table of watermarks, one entry on.
use Rattle.std.proofs.Common.{◌≡◌, ◌∙◌, ◌≤◌, ◌<◌, ◌+◌, ℕ, zero, suc, Bool, true, false, cond, not, max, min, List, [], ◌∷◌, ◌++◌, length, get_or, set, take, drop, map, filter, replicate, ap, sym, refl, arith, Option, None, Some, ⊎_elim}
use Rattle.std.specs.Prelude.{◌&&◌, ◌||◌, ◌==◌, fold, unwrap_or}
use Rattle.std.specs.List.{list_all, range_with_len}
use Rattle.std.proofs.lemmas.Bool.{ne_eqb}
use Rattle.std.proofs.lemmas.Bool.Decides.{eqb_tells, nat_tests}
use Rattle.std.proofs.lemmas.List.{length-replicate}
use Rattle.std.proofs.lemmas.List.FromFn.{get_or-map-range_with_len}
use Rattle.stream_base.specs.declared.limits.TheConstants.{FINAL, TIME_MAX}
use Rattle.stream_base.specs.declared.entry.Entry.{Entry}
use Rattle.stream_base.specs.declared.what.What.{What}
use Rattle.stream_base.specs.declared.what.What.TheVariants.{Tuple, Mark, Water, Idle, End}
use Rattle.stream_base.specs.Model.What.{is_end, is_idle_word, is_progress, key_in, water_time}
use Rattle.stream_base.specs.Model.Watermark.{all_ended, awake_waters, has_ended, is_awake, is_idle, least_or_zero, least_water, source_water, water_of}
use Rattle.model_laws.proofs.WatermarkFacts.{has_ended_push, is_idle_push, source_water_own, source_water_other, water_of_nil, water_of_push, water_of_same}
use Rattle.watermark_table.specs.declared.standing.Standing.{Standing}
use Rattle.watermark_table.specs.declared.standing.Standing.TheVariants.{Awake, Ended}
use Rattle.watermark_table.specs.declared.tally.Tally.{Tally}
use Rattle.watermark_table.specs.Standings.{is_ended, raised, rested, standing, standing_in, standings_in}
use Rattle.watermark_table.specs.Tallies.{least_of, lesser, no_source, tallied, with_standing}
use Rattle.watermark_table.specs.Watched.{StandsFor, Watched, sources_of, water_entry, idle_entry, end_entry}

-- ---- one source
own : (s : ℕ) → (s == s) ≡ true
own s = grind (arith, nat_tests)

-- where a source stands after one of its own entries, by what it knows of it
stands_parts : (s : ℕ) (journal : List Entry) (e : Entry) → (e.source == s) ≡ true → (ended idle : Bool) (water : ℕ)
    → (has_ended s journal || is_end e.what) ≡ ended
    → cond (is_progress e.what) (is_idle_word e.what) (is_idle s journal) ≡ idle
    → (ended ≡ false → source_water s (journal ++ e ∷ []) ≡ water)
    → standing_in (journal ++ e ∷ []) s ≡ standing ended idle water
stands_parts s journal e is_own true idle water h i w = ap (λ b. standing b (is_idle s (journal ++ e ∷ [])) (source_water s (journal ++ e ∷ []))) (has_ended_push s journal e ∙ ap (λ b. has_ended s journal || (b && is_end e.what)) is_own ∙ h)
stands_parts s journal e is_own false idle water h i w =
    let ended : has_ended s (journal ++ e ∷ []) ≡ false = has_ended_push s journal e ∙ ap (λ b. has_ended s journal || (b && is_end e.what)) is_own ∙ h in
    let rests : is_idle s (journal ++ e ∷ []) ≡ idle = is_idle_push s journal e ∙ ap (λ b. cond (b && is_progress e.what) (is_idle_word e.what) (is_idle s journal)) is_own ∙ i in
    λ j. standing (ended j) (rests j) (w refl j)

or_no : (b : Bool) → (b || false) ≡ b
or_no true = refl
or_no false = refl

or_yes : (b : Bool) → (b || true) ≡ true
or_yes true = refl
or_yes false = refl

standing_raised : (s time : ℕ) (journal : List Entry) → time ≤ TIME_MAX → standing_in (journal ++ water_entry s time ∷ []) s ≡ raised time (standing_in journal s)
standing_raised s time journal h =
    stands_parts s journal (water_entry s time) (own s) (has_ended s journal) false (max (source_water s journal) time) (or_no (has_ended s journal)) refl
    (λ goes. source_water_own s journal (water_entry s time) (own s) refl (omega arith))
    ∙ by (has_ended s journal) (is_idle s journal) (source_water s journal)
  where
    by : (ended idle : Bool) (water : ℕ) → standing ended false (max water time) ≡ raised time (standing ended idle water)
    by true idle water = refl
    by false true water = refl
    by false false water = refl

standing_rested : (s : ℕ) (journal : List Entry) → standing_in (journal ++ idle_entry s ∷ []) s ≡ rested (standing_in journal s)
standing_rested s journal =
    stands_parts s journal (idle_entry s) (own s) (has_ended s journal) true (source_water s journal) (or_no (has_ended s journal)) refl
    (λ goes. source_water_own s journal (idle_entry s) (own s) refl (omega arith) ∙ omega arith)
    ∙ by (has_ended s journal) (is_idle s journal) (source_water s journal)
  where
    by : (ended idle : Bool) (water : ℕ) → standing ended true water ≡ rested (standing ended idle water)
    by true idle water = refl
    by false true water = refl
    by false false water = refl

standing_ended : (s : ℕ) (journal : List Entry) → standing_in (journal ++ end_entry s ∷ []) s ≡ Ended
standing_ended s journal =
    stands_parts s journal (end_entry s) (own s) true false 0 (or_yes (has_ended s journal)) refl (λ e. absurd (no e))
  where
    no : true ≡ false → ⊥
    no e = cc

-- a tuple or mark of a source leaves where it stands
standing_kept : (s : ℕ) (journal : List Entry) (e : Entry) (key : List ℕ) → e.source ≡ s → key_in e.what ≡ Some key → standing_in (journal ++ e ∷ []) s ≡ standing_in journal s
standing_kept s journal e key source keyed =
    stands_parts s journal e is_own (has_ended s journal) (is_idle s journal) (source_water s journal)
    (ap (λ b. has_ended s journal || b) (no_word e.what keyed).0 ∙ or_no (has_ended s journal))
    (ap (λ b. cond b (is_idle_word e.what) (is_idle s journal)) (no_word e.what keyed).1)
    (λ goes. let none : water_time e.what ≡ 0 = (no_word e.what keyed).2 in
    source_water_own s journal e is_own (no_word e.what keyed).0 (rw none (omega arith)) ∙ rw none (omega arith))
  where
    is_own : (e.source == s) ≡ true
    is_own = rw source (own s)

    no_word : (w : What) → key_in w ≡ Some key → (is_end w ≡ false) × (is_progress w ≡ false) × (water_time w ≡ 0)
    no_word (Tuple of time value) k = (refl, refl, refl)
    no_word (Mark of time) k = (refl, refl, refl)
    no_word (Water time) k = cc
    no_word Idle k = cc
    no_word End k = cc

-- an entry of another source leaves where a source stands
standing_other : (s : ℕ) (journal : List Entry) (e : Entry) → (e.source ≡ s → ⊥) → standing_in (journal ++ e ∷ []) s ≡ standing_in journal s
standing_other s journal e other =
    let apart : (e.source == s) ≡ false = ne_eqb e.source s other in
    let ended : has_ended s (journal ++ e ∷ []) ≡ has_ended s journal = has_ended_push s journal e ∙ ap (λ b. has_ended s journal || (b && is_end e.what)) apart ∙ or_no (has_ended s journal) in
    let idle : is_idle s (journal ++ e ∷ []) ≡ is_idle s journal = is_idle_push s journal e ∙ ap (λ b. cond (b && is_progress e.what) (is_idle_word e.what) (is_idle s journal)) apart in
    λ i. standing (ended i) (idle i) (source_water_other s journal e apart i)

-- ---- all sources
map_same_from : {X : Type 0} (f g : ℕ → X) (a n : ℕ) → ((k : ℕ) → a ≤ k → g k ≡ f k) → map g (range_with_len a n) ≡ map f (range_with_len a n)
map_same_from f g a zero h = refl
map_same_from f g a (suc n) h = λ i. h a (omega arith) i ∷ map_same_from f g (a + 1) n (λ k le. h k (omega arith)) i

map_but_one : {X : Type 0} (f g : ℕ → X) (a n i : ℕ) → ((k : ℕ) → (a + i ≡ k → ⊥) → g k ≡ f k) → map g (range_with_len a n) ≡ set (map f (range_with_len a n)) i (g (a + i))
map_but_one f g a zero i h = refl
map_but_one f g a (suc n) zero h =
    let first : g a ≡ g (a + 0) = ap g (omega arith) in
    λ i. first i ∷ map_same_from f g (a + 1) n (λ k le. h k (λ e. omega arith)) i
map_but_one f g a (suc n) (suc i) h =
    let first : g a ≡ f a = h a (λ e. omega arith) in
    let rest : map g (range_with_len (a + 1) n) ≡ set (map f (range_with_len (a + 1) n)) i (g (a + 1 + i)) = map_but_one f g (a + 1) n i (λ k ne. h k (λ e. ne (omega arith))) in
    let at : g (a + 1 + i) ≡ g (a + suc i) = ap g (omega arith) in
    λ j. first j ∷ (rest ∙ ap (set (map f (range_with_len (a + 1) n)) i) at) j

-- of the standings only that of the entry's source can change
standings_push : (sources : ℕ) (journal : List Entry) (e : Entry) → standings_in sources (journal ++ e ∷ []) ≡ set (standings_in sources journal) e.source (standing_in (journal ++ e ∷ []) e.source)
standings_push sources journal e =
    map_but_one (standing_in journal) (standing_in (journal ++ e ∷ [])) 0 sources e.source
    (λ k ne. standing_other k journal e (λ f. ne (omega arith)))
    ∙ ap (λ k. set (standings_in sources journal) e.source (standing_in (journal ++ e ∷ []) k)) (omega arith)

pub standing_at : (sources s : ℕ) (journal : List Entry) (d : Standing) → s < sources → get_or (standings_in sources journal) s d ≡ standing_in journal s
standing_at sources s journal d h = get_or-map-range_with_len (standing_in journal) 0 sources s s d h (omega arith)

-- ---- the least watermark
fold_lesser : (m : ℕ) (ws : List ℕ) (n : ℕ) → m ≡ n → unwrap_or (fold (λ o w. Some (lesser o w)) (Some m) ws) 0 ≡ fold min n ws
fold_lesser m [] n e = e
fold_lesser m (w ∷ ws) n e = fold_lesser (min m w) ws (min n w) (ap (λ k. min k w) e)

least_of_list : (ws : List ℕ) → unwrap_or (fold (λ o w. Some (lesser o w)) None ws) 0 ≡ least_or_zero ws
least_of_list [] = refl
least_of_list (w ∷ ws) = fold_lesser w ws w refl

no_more : (b x : Bool) → false ≡ (b && (false && x))
no_more true x = refl
no_more false x = refl

and_yes : (b : Bool) → (b && true) ≡ b
and_yes true = refl
and_yes false = refl

-- the tally of sources, from one of those in front of them
counted : List Entry → Option ℕ → Bool → List ℕ → List ℕ → Tally
counted journal o b awake ks = record { least = fold (λ l w. Some (lesser l w)) o (map (λ s. source_water s journal) awake); all_ended = b && list_all (λ s. has_ended s journal) ks }

one_more : (journal : List Entry) (k : ℕ) (ks : List ℕ)
    → ((o : Option ℕ) (b : Bool) → tallied (record { least = o; all_ended = b }) (map (standing_in journal) ks) ≡ counted journal o b (filter (is_awake journal) ks) ks)
    → (e i : Bool) (o : Option ℕ) (b : Bool)
    → tallied (with_standing (record { least = o; all_ended = b }) (standing e i (source_water k journal))) (map (standing_in journal) ks)
    ≡ record { least = fold (λ l w. Some (lesser l w)) o (map (λ s. source_water s journal) (cond (not e && not i) (k ∷ filter (is_awake journal) ks) (filter (is_awake journal) ks))); all_ended = b && (e && list_all (λ s. has_ended s journal) ks) }
unfolding counted
one_more journal k ks rest true i o b = rest o b
one_more journal k ks rest false true o b = rest o false ∙ (λ j. record { least = fold (λ l w. Some (lesser l w)) o (map (λ s. source_water s journal) (filter (is_awake journal) ks)); all_ended = no_more b (list_all (λ s. has_ended s journal) ks) j })
one_more journal k ks rest false false o b =
    rest (Some (lesser o (source_water k journal))) false
    ∙ (λ j. record { least = fold (λ l w. Some (lesser l w)) (Some (lesser o (source_water k journal))) (map (λ s. source_water s journal) (filter (is_awake journal) ks)); all_ended = no_more b (list_all (λ s. has_ended s journal) ks) j })

tally_of : (journal : List Entry) (ks : List ℕ) (o : Option ℕ) (b : Bool) → tallied (record { least = o; all_ended = b }) (map (standing_in journal) ks) ≡ counted journal o b (filter (is_awake journal) ks) ks
unfolding counted
tally_of journal [] o b = λ i. record { least = o; all_ended = sym (and_yes b) i }
tally_of journal (k ∷ ks) o b = one_more journal k ks (tally_of journal ks) (has_ended k journal) (is_idle k journal) o b

-- what the code computes of the standings is the least watermark of the definitions
pub least_is_least_water : (sources : ℕ) (journal : List Entry) → least_of (tallied no_source (standings_in sources journal)) ≡ least_water sources journal
unfolding least_water counted
least_is_least_water sources journal =
    ap least_of (tally_of journal (range_with_len 0 sources) None true)
    ∙ ap (cond (all_ended sources journal) FINAL) (least_of_list (awake_waters sources journal))

-- ---- a table, one entry on
length_standings : (sources : ℕ) (journal : List Entry) → length (standings_in sources journal) ≡ sources
length_standings sources journal = from 0 sources
  where
    from : (a n : ℕ) → length (map (standing_in journal) (range_with_len a n)) ≡ n
    from a zero = refl
    from a (suc n) = let e : length (map (standing_in journal) (range_with_len (a + 1) n)) ≡ n = from (a + 1) n in omega arith

-- the greatest watermark so far, with the sources of the longer journal
pub water_is : (w : Watched) (journal : List Entry) (e : Entry) (changed : List Standing)
    → StandsFor w journal → changed ≡ standings_in (sources_of w) (journal ++ e ∷ [])
    → max w.water (least_of (tallied no_source changed)) ≡ water_of (sources_of w) (journal ++ e ∷ [])
water_is w journal e changed s is =
    (λ i. max (s.water i) (least_of (tallied no_source (is i))))
    ∙ ap (max (water_of (sources_of w) journal)) (least_is_least_water (sources_of w) (journal ++ e ∷ []))
    ∙ sym (water_of_push (sources_of w) journal e)

-- a table whose source of the entry stands as it does after it
pub stands_after : (old new : Watched) (journal : List Entry) (e : Entry)
    → StandsFor old journal → new.standings ≡ standings_in (sources_of old) (journal ++ e ∷ []) → new.water ≡ max old.water (least_of (tallied no_source new.standings))
    → StandsFor new (journal ++ e ∷ [])
stands_after old new journal e s is water =
    let n : sources_of new ≡ sources_of old = ap length is ∙ length_standings (sources_of old) (journal ++ e ∷ []) in
    record {
      standings = is ∙ ap (λ k. standings_in k (journal ++ e ∷ [])) (sym n);
      water = water ∙ water_is old journal e new.standings s is ∙ ap (λ k. water_of k (journal ++ e ∷ [])) (sym n);
    }

-- the standings after a watermark, an idle word or an end of a source that stood so
module _ (w : Watched) (journal : List Entry) (source : ℕ) (s : StandsFor w journal) where
  pub own_standing : (x : Standing) → source < sources_of w → x ≡ get_or w.standings source x → x ≡ standing_in journal source
  own_standing x known is = is ∙ ap (λ l. get_or l source x) s.standings ∙ standing_at (sources_of w) source journal x known

  pub raised_are : (x : Standing) (time : ℕ) → source < sources_of w → x ≡ get_or w.standings source x → time ≤ TIME_MAX → set w.standings source (raised time x) ≡ standings_in (sources_of w) (journal ++ water_entry source time ∷ [])
  raised_are x time known is h =
      (λ i. set (s.standings i) source (raised time (own_standing x known is i)))
      ∙ ap (set (standings_in (sources_of w) journal) source) (sym (standing_raised source time journal h))
      ∙ sym (standings_push (sources_of w) journal (water_entry source time))

  pub rested_are : (x : Standing) → source < sources_of w → x ≡ get_or w.standings source x → set w.standings source (rested x) ≡ standings_in (sources_of w) (journal ++ idle_entry source ∷ [])
  rested_are x known is =
      (λ i. set (s.standings i) source (rested (own_standing x known is i)))
      ∙ ap (set (standings_in (sources_of w) journal) source) (sym (standing_rested source journal))
      ∙ sym (standings_push (sources_of w) journal (idle_entry source))

  pub ended_are : set w.standings source Ended ≡ standings_in (sources_of w) (journal ++ end_entry source ∷ [])
  ended_are =
      ap (λ l. set l source Ended) s.standings
      ∙ ap (set (standings_in (sources_of w) journal) source) (sym (standing_ended source journal))
      ∙ sym (standings_push (sources_of w) journal (end_entry source))

-- a tuple or mark leaves the table
pub stands_behind_keyed : (table : Watched) (journal : List Entry) (e : Entry) (key : List ℕ) → key_in e.what ≡ Some key → StandsFor table journal → StandsFor table (journal ++ e ∷ [])
stands_behind_keyed table journal e key keyed s = record {
  standings = s.standings ∙ sym (map_same_from (standing_in journal) (standing_in (journal ++ e ∷ [])) 0 (sources_of table) (λ k le. same k));
  water = s.water ∙ sym (water_of_same (sources_of table) journal e (no_word e.what keyed));
}
  where
    no_word : (w : What) → key_in w ≡ Some key → is_progress w ≡ false
    no_word (Tuple of time value) k = refl
    no_word (Mark of time) k = refl
    no_word (Water time) k = cc
    no_word Idle k = cc
    no_word End k = cc

    same : (k : ℕ) → standing_in (journal ++ e ∷ []) k ≡ standing_in journal k
    same k = ⊎_elim (λ h. standing_kept k journal e key h.1 keyed) (λ h. standing_other k journal e h.1) (eqb_tells e.source k)

-- the empty journal
fresh_standings : (a n : ℕ) → replicate n (Awake 0) ≡ map (standing_in []) (range_with_len a n)
unfolding is_idle source_water
fresh_standings a zero = refl
fresh_standings a (suc n) = ap (λ l. Awake 0 ∷ l) (fresh_standings (a + 1) n)

zero_least : (ws : List ℕ) → fold min 0 ws ≡ 0
zero_least [] = refl
zero_least (w ∷ ws) = ap (λ m. fold min m ws) (omega arith) ∙ zero_least ws

no_water : (sources : ℕ) → 1 ≤ sources → water_of sources [] ≡ 0
unfolding least_water is_idle source_water
no_water zero some = absurd (omega arith)
no_water (suc n) some = water_of_nil (suc n) ∙ zero_least (awake_rest n)
  where
    awake_rest : ℕ → List ℕ
    awake_rest n = map (λ s. source_water s []) (filter (is_awake []) (range_with_len (0 + 1) n))

pub stands_for_none : (sources lateness : ℕ) (w : Watched) → 1 ≤ sources → w.standings ≡ replicate sources (Awake 0) → w.water ≡ 0 → StandsFor w []
stands_for_none sources lateness w some are zero_is =
    let n : sources_of w ≡ sources = ap length are ∙ length-replicate sources (Awake 0) in
    record {
      standings = are ∙ fresh_standings 0 sources ∙ ap (λ k. standings_in k []) (sym n);
      water = zero_is ∙ sym (no_water sources some) ∙ ap (λ k. water_of k []) (sym n);
    }

-- whether a source has ended, from where it stands
pub ended_is : (source : ℕ) (journal : List Entry) (x : Standing) → x ≡ standing_in journal source → is_ended x ≡ has_ended source journal
ended_is source journal x is = ap is_ended is ∙ by (has_ended source journal) (is_idle source journal) (source_water source journal)
  where
    by : (ended idle : Bool) (water : ℕ) → is_ended (standing ended idle water) ≡ ended
    by true idle water = refl
    by false true water = refl
    by false false water = refl

-- a tally goes over one part of the sources, one source, and the rest
pub tallied_in_parts : (tally : Tally) (standings : List Standing) (source : ℕ) (x : Standing) → source < length standings
    → tallied tally (set standings source x) ≡ tallied (with_standing (tallied tally (take source standings)) x) (drop (source + 1) standings)
tallied_in_parts tally [] source x h = absurd (omega arith)
tallied_in_parts tally (s ∷ ss) zero x h = refl
tallied_in_parts tally (s ∷ ss) (suc source) x h =
    let n : suc source + 1 ≡ suc (source + 1) = omega arith in
    tallied_in_parts (with_standing tally s) ss source x (omega arith)
    ∙ ap (λ k. tallied (with_standing (tallied (with_standing tally s) (take source ss)) x) (drop k (s ∷ ss))) (sym n)
