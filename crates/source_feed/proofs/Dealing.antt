-- The generator of a source goes from one of its tuples to the next.
use Rattle.std.proofs.Common.{◌≡◌, ◌∙◌, ◌+◌, ◌-◌, ◌/◌, ◌%◌, ◌<◌, ◌≤◌, ◌++◌, ℕ, suc, max, Bool, true, false, cond, List, [], ◌∷◌, length, refl, sym, ap, arith, add-one, Some, None, inl, inr}
use Rattle.std.specs.Prelude.{◌==◌, ◌≢◌, ◌-ℤ◌, pos, filter, nat_le, if◌then◌else◌, IfSome}
use Rattle.std.specs.Fmt.{decimal}
use Rattle.std.specs.List.{range_with_len}
use Rattle.std.proofs.lemmas.Bool.{cases_lt}
use Rattle.std.proofs.lemmas.Bool.Decides.{nat_tests}
use Rattle.std.proofs.lemmas.Fmt.{decimal_digit, decimal_step}
use Rattle.std.proofs.lemmas.Int.{ints}
use Rattle.std.proofs.lemmas.List.{map-id, append-nil, length_push}
use Rattle.std.proofs.lemmas.List.FromFn.{filter_of_map_range_with_len_more, length-range_with_len}
use Rattle.std.proofs.lemmas.List.Sums.{fold_push}
use Rattle.stream_base.specs.Key.{is_key}
use Rattle.stream_base.specs.Limits.{is_value}
use Rattle.stream_base.specs.declared.limits.TheConstants.{TIME_MAX}
use Rattle.stream_base.specs.declared.what.What.{What}
use Rattle.stream_base.specs.declared.what.What.TheVariants.{Tuple, Mark, Water}
use Rattle.source_feed.specs.Events.{is_made}
use Rattle.source_feed.specs.EventsLeft.{IsInnerEvent}
use Rattle.source_feed.specs.Generated.{dealt, drawn_for, drawn_from, greatest_at, key_by, mark_at, next_state, state_after, time_at, time_by, told_at, told_of_indices, tuple_at, value_by, water_at}
use Rattle.source_feed.specs.Generating.{IsAtOther, IsAtOwn, IsOnCourse, LeavesAll, TookTuple, indices_left, left_of, made_then, mark_by, stepped, told_indices}
use Rattle.source_feed.specs.Pace.{as_events, as_waters}
use Rattle.source_feed.specs.RowsView.{AreInner}
use Rattle.source_feed.specs.declared.generator.Generator.{Generator}
use Rattle.source_feed.specs.declared.made_input.TheConstants.{MADE_EVERY, MADE_DISORDER}
use Rattle.source_feed.proofs.Giving.{inner_water}

-- ---- the text of a number below a hundred
pub two_digits : (n : ℕ) → 10 ≤ n → n < 100 → decimal n ≡ (48 + n / 10) ∷ (48 + n % 10) ∷ []
two_digits n low high = rw (decimal_step n low (omega arith), decimal_digit (n / 10) (omega arith)) refl

short_key : (n : ℕ) → n < 10 → is_key (107 ∷ (48 + n) ∷ []) ≡ true
short_key n h = grind (arith, nat_tests)

long_key : (m n : ℕ) → m < 10 → n < 10 → is_key (107 ∷ (48 + m) ∷ (48 + n) ∷ []) ≡ true
long_key m n h g = grind (arith, nat_tests)

pub made_key_is_key : (drawn : ℕ) → is_key (key_by drawn) ≡ true
made_key_is_key drawn = by (drawn / 32768 % 100) (omega arith)
  where
    by : (n : ℕ) → n < 100 → is_key (107 ∷ decimal n) ≡ true
    by n h = elim (cases_lt n 10) [
      | inl low ↦ rw (decimal_digit n low) (short_key n low)
      | inr high ↦ rw (two_digits n high h) (long_key (n / 10) (n % 10) (omega arith) (omega arith))
    ]

value_is_value : (n : ℕ) → n < 2001 → is_value (pos n -ℤ pos 1000) ≡ true
value_is_value n h = grind (arith, ints, nat_tests)

-- ---- the indices of a source
more_indices : (p : ℕ → Bool) (n : ℕ) → filter p (range_with_len 0 (n + 1)) ≡ filter p (range_with_len 0 n) ++ cond (p n) (n ∷ []) []
more_indices p n = simp map-id at (filter_of_map_range_with_len_more p (λ (i : ℕ). i) 0 n n (omega arith))

-- those that were told, with one index more
told_more : (g : Generator) → told_indices (stepped g) ≡ told_indices g ++ cond (g.index % g.sources == g.source) (g.index ∷ []) []
told_more g = more_indices (λ index. index % g.sources == g.source) g.index

-- those that are left, without the next
left_less : (g : Generator) → g.index < g.rows → indices_left g ≡ cond (g.index % g.sources == g.source) (g.index ∷ indices_left (stepped g)) (indices_left (stepped g))
left_less g h = let less : g.rows - g.index ≡ suc (g.rows - (g.index + 1)) = omega arith in ap (dealt g.sources g.source g.index) less

is_own : (a b : ℕ) → a ≡ b → (a == b) ≡ true
is_own a b h = grind (arith, nat_tests)

is_other : (a b : ℕ) → a ≢ b → (a == b) ≡ false
is_other a b h = grind (arith, nat_tests)

filtered_few : (p : ℕ → Bool) (xs : List ℕ) → length (filter p xs) ≤ length xs
filtered_few p [] = omega arith
filtered_few p (x ∷ xs) = by (p x) (filtered_few p xs)
  where
    by : (b : Bool) → length (filter p xs) ≤ length xs → length (cond b (x ∷ filter p xs) (filter p xs)) ≤ suc (length xs)
    by true h = omega arith
    by false h = omega arith

-- there were no more tuples than indices
pub tuples_few : (g : Generator) → IsOnCourse g → g.tuples ≤ g.index
tuples_few g c = omega (arith, c.tuples, filtered_few (λ index. index % g.sources == g.source) (range_with_len 0 g.index), length-range_with_len 0 g.index)

-- the index of another source is passed over
state_on : (g : Generator) → g.state ≡ state_after g.seed g.index → next_state g.state ≡ state_after g.seed (g.index + 1)
unfolding state_after
state_on g h = rw (add-one, h) refl

pub passed_over : (first g : Generator) → LeavesAll first g → IsAtOther g → LeavesAll first (stepped g)
unfolding left_of
passed_over first g h other =
    let test : (g.index % g.sources == g.source) ≡ false = is_other (g.index % g.sources) g.source other.1 in
    let told : told_indices (stepped g) ≡ told_indices g = told_more g ∙ ap (λ b. told_indices g ++ cond b (g.index ∷ []) []) test ∙ append-nil (told_indices g) in
    let left : indices_left g ≡ indices_left (stepped g) = left_less g other.0 ∙ ap (λ b. cond b (g.index ∷ indices_left (stepped g)) (indices_left (stepped g))) test in
    let c = h.course in
    record {
      course = record {
        some_source = c.some_source;
        few = c.few;
        within = omega (arith, other.0);
        state = state_on g c.state;
        tuples = c.tuples ∙ ap length (sym told);
        greatest = c.greatest ∙ ap (greatest_at g.seed) (sym told);
        early = c.early;
      };
      source = h.source;
      left = rw (told, ← left) h.left;
    }

-- behind the last index nothing is left
pub none_left : (g : Generator) → g.index ≡ g.rows → left_of g ≡ []
unfolding left_of told_of_indices
none_left g h = let none : g.rows - g.index ≡ 0 = omega arith in ap (λ n. told_of_indices g.seed (told_indices g) (dealt g.sources g.source g.index n)) none

-- ---- the tuple of an index of its own
events_marked : (b : Bool) (key : List ℕ) (time : ℕ) → as_events (if b then Some (Mark key time) else None) ≡ (if b then Mark key time ∷ [] else [])
events_marked true key time = refl
events_marked false key time = refl

waters_made : (b : Bool) (time : ℕ) → as_waters (if b then Some time else None) ≡ (if b then Water time ∷ [] else [])
waters_made true time = refl
waters_made false time = refl

made_small : (b : Bool) (greatest : ℕ) → greatest ≤ TIME_MAX → IfSome (if b then Some (greatest - MADE_DISORDER) else None) (λ time. time ≤ TIME_MAX)
made_small true greatest h = omega arith
made_small false greatest h = tt

tuple_within : (key : List ℕ) (time : ℕ) (drawn : ℕ) → time ≤ TIME_MAX → is_value (value_by drawn) ≡ true → is_key key ≡ true → IsInnerEvent (Tuple key time (value_by drawn))
tuple_within key time drawn t v k = let early : nat_le time TIME_MAX ≡ true = grind (arith, nat_tests) in record { within = rw (early, v, k) refl; inner = refl }

mark_within : (b : Bool) (key : List ℕ) (time : ℕ) → time ≤ TIME_MAX → is_key key ≡ true → AreInner (as_events (if b then Some (Mark key time) else None))
mark_within true key time t k = let early : nat_le time TIME_MAX ≡ true = grind (arith, nat_tests) in (record { within = rw (early, k) refl; inner = refl }, tt)
mark_within false key time t k = tt

both : (xs ys : List What) → AreInner xs → AreInner ys → AreInner (xs ++ ys)
both [] ys h g = g
both (x ∷ xs) ys h g = (h.0, both xs ys h.1 g)

-- a generator that told the tuple of its index
abbrev pub told_one : Generator → ℕ → Generator
told_one g drawn = record g {
  index = g.index + 1;
  state = next_state g.state;
  tuples = g.tuples + 1;
  greatest = max g.greatest (time_by g.index drawn);
}

pub took_tuple : (g : Generator) (drawn : ℕ) → IsAtOwn g → drawn ≡ drawn_from (next_state g.state) → time_by g.index drawn ≤ TIME_MAX
    → TookTuple g (Tuple (key_by drawn) (time_by g.index drawn) (value_by drawn)) (record { event = mark_by g.index (key_by drawn) (time_by g.index drawn); made = made_then (told_one g drawn) }) (told_one g drawn)
unfolding left_of told_of_indices
took_tuple g drawn h e early =
    let c = h.course in
    let new = told_one g drawn in
    let test : (g.index % g.sources == g.source) ≡ true = is_own (g.index % g.sources) g.source h.own in
    let told : told_indices new ≡ told_indices g ++ g.index ∷ [] = told_more g ∙ ap (λ b. told_indices g ++ cond b (g.index ∷ []) []) test in
    let left : indices_left g ≡ g.index ∷ indices_left new = left_less g h.more ∙ ap (λ b. cond b (g.index ∷ indices_left (stepped g)) (indices_left (stepped g))) test in
    let state : next_state g.state ≡ state_after g.seed (g.index + 1) = state_on g c.state in
    let drew : drawn ≡ drawn_for g.seed g.index = e ∙ ap drawn_from state in
    let tuples : g.tuples + 1 ≡ length (told_indices new) = ap (λ n. n + 1) c.tuples ∙ sym (length_push (told_indices g) g.index) ∙ ap length (sym told) in
    let at : time_by g.index drawn ≡ time_at g.seed g.index = ap (time_by g.index) drew in
    let greatest : max g.greatest (time_by g.index drawn) ≡ greatest_at g.seed (told_indices new) =
    ap (λ n. max n (time_by g.index drawn)) c.greatest ∙ ap (max (greatest_at g.seed (told_indices g))) at
    ∙ sym (fold_push (λ greatest index. max greatest (time_at g.seed index)) 0 (told_indices g) g.index) ∙ ap (greatest_at g.seed) (sym told) in
    let marks : as_events (mark_by g.index (key_by drawn) (time_by g.index drawn)) ≡ mark_at g.seed g.index =
    ap (λ d. as_events (mark_by g.index (key_by d) (time_by g.index d))) drew ∙ events_marked (g.index % 64 == 63) (key_by (drawn_for g.seed g.index)) (time_at g.seed g.index) in
    let waters : as_waters (made_then new) ≡ water_at g.seed (told_indices g ++ g.index ∷ []) =
    waters_made (is_made MADE_EVERY (g.tuples + 1)) (max g.greatest (time_by g.index drawn) - MADE_DISORDER)
    ∙ ap (λ n. if is_made MADE_EVERY n then Water (max g.greatest (time_by g.index drawn) - MADE_DISORDER) ∷ [] else []) tuples
    ∙ ap (λ n. if is_made MADE_EVERY (length (told_indices new)) then Water (n - MADE_DISORDER) ∷ [] else []) greatest
    ∙ ap (water_at g.seed) told in
    let key = made_key_is_key drawn in
    let value : is_value (value_by drawn) ≡ true = value_is_value (drawn / 16 % 2001) (omega arith) in
    let first = Tuple (key_by drawn) (time_by g.index drawn) (value_by drawn) in
    let same : first ∷ (as_events (mark_by g.index (key_by drawn) (time_by g.index drawn)) ++ as_waters (made_then new)) ≡ told_at g.seed (told_indices g) g.index =
    ap (λ d. Tuple (key_by d) (time_by g.index d) (value_by d) ∷ (as_events (mark_by g.index (key_by drawn) (time_by g.index drawn)) ++ as_waters (made_then new))) drew
    ∙ ap (λ m. tuple_at g.seed g.index ∷ (m ++ as_waters (made_then new))) marks ∙ ap (λ w. tuple_at g.seed g.index ∷ (mark_at g.seed g.index ++ w)) waters in
    let small : max g.greatest (time_by g.index drawn) ≤ TIME_MAX = omega (arith, c.early, early) in
    record {
      course = record {
        some_source = c.some_source;
        few = c.few;
        within = omega (arith, h.more);
        state = state;
        tuples = tuples;
        greatest = greatest;
        early = small;
      };
      source = refl;
      told =
          ap (told_of_indices g.seed (told_indices g)) left
          ∙ ap (λ l. told_at g.seed (told_indices g) g.index ++ told_of_indices g.seed l (indices_left new)) (sym told)
          ∙ ap (λ w. w ++ told_of_indices g.seed (told_indices new) (indices_left new)) (sym same);
      inner = (
        tuple_within (key_by drawn) (time_by g.index drawn) drawn early value key,
        both (as_events (mark_by g.index (key_by drawn) (time_by g.index drawn))) (as_waters (made_then new))
            (mark_within (g.index % 64 == 63) (key_by drawn) (time_by g.index drawn) early key)
            (inner_water (made_then new) (made_small (is_made MADE_EVERY (g.tuples + 1)) (max g.greatest (time_by g.index drawn)) small)),
      );
    }
