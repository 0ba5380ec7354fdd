-- The rows of a window, counted by the changes.
use Rattle.std.proofs.Common.{◌≡◌, ◌∙◌, ℕ, suc, ◌+◌, ◌<◌, Bool, true, false, cond, eqb, List, [], ◌∷◌, ◌++◌, length, map, ap, ap₂, sym, refl, subst, ⊎_elim, arith, Option, None, Some, Ordering, inl, inr}
use Rattle.std.specs.Prelude.{◌&&◌, ◌||◌, ◌==◌, ◌⊎◌, not, filter}
use Rattle.std.specs.declared.cmp.Ordering.TheVariants.{Less, Equal, Greater}
use Rattle.std.specs.List.Sorted.{IsStrictlySortedBy}
use Rattle.std.proofs.lemmas.Cmp.{nat_list_cmp_total}
use Rattle.std.specs.Cmp.Lexicographic.{slice_cmp}
use Rattle.std.specs.List.{Contains, cons_option, enumerate_from, filter_map, find, flat_map, list_any}
use Rattle.std.specs.BTreeSet.{insert_key}
use Rattle.std.specs.Option.{option_map_or}
use Rattle.std.specs.Ordering.{match_ordering, nat_cmp}
use Rattle.std.proofs.lemmas.Bool.{false≢true, eqb-true, eq-eqb, ne_eqb, and_parts, and_left}
use Rattle.std.proofs.lemmas.List.{length-append}
use Rattle.std.proofs.lemmas.List.Elements.{filter-append}
use Rattle.std.proofs.lemmas.Map.Keys.{sorted_tail}
use Rattle.stream_base.specs.Limits.{AreWithinLimits, Definitions}
use Rattle.stream_base.specs.declared.change.Change.TheVariants.{Gone, Again}
use Rattle.stream_base.specs.declared.def.Def.{Def}
use Rattle.stream_base.specs.declared.entry.Entry.{Entry}
use Rattle.stream_base.specs.declared.func.Func.{Func}
use Rattle.stream_base.specs.declared.row.Row.{Row}
use Rattle.stream_base.specs.Laws.{by_start, RiseByStart}
use Rattle.stream_base.specs.Model.Changes.{Moment, are_same_tuples, changes_after, changes_between, changes_of_key, emission, emissions, emitted, former_of, is_same, moment_of, retraction, retractions, row_of, rows_at, standing_at, standing_rows}
use Rattle.stream_base.specs.Model.Journal.{keys_of, marks_of}
use Rattle.stream_base.specs.Model.Watermark.{water_of}
use Rattle.stream_base.specs.Model.What.{is_late, key_in}
use Rattle.stream_base.specs.Model.Windows.{Instance, standing_of}
use Rattle.stream_base.proofs.ChangeFacts.{enumerate_members, flat_map_none, flat_map_same}
use Rattle.stream_base.proofs.Growing.{keys_of_push}
use Rattle.stream_base.proofs.Distinct.{by_start_total, lt_from_less}
use Rattle.stream_base.proofs.Rising.{below_tail, Contains-head, Contains-tail, Contains-insert_key, Contains-insert_key_cases, same_members_same_list}
use Rattle.model_laws.proofs.Absent.{is_key_or_not, nothing_kept}
use Rattle.stream_base.proofs.KindFacts.{nothing_stands}
use Rattle.model_laws.proofs.ChangesAfter.{keys_in_order, late_is_dropped, moment_of_late, on_time_changes, rises_after}
use Rattle.model_laws.specs.Counts.{emitted_in, is_gone_in, is_new_in, retracted_in, standing_count}

-- ---- counting
abbrev count : {X : Type 0} → (X → Bool) → List X → ℕ
count p xs = length (filter p xs)

count_append : {X : Type 0} (p : X → Bool) (xs ys : List X) → count p (xs ++ ys) ≡ count p xs + count p ys
count_append p xs ys = ap length (filter-append p xs ys) ∙ length-append (filter p xs) (filter p ys)

abbrev one : Bool → ℕ
one b = cond b 1 0

count_cons : {X : Type 0} (p : X → Bool) (x : X) (xs : List X) → count p (x ∷ xs) ≡ one (p x) + count p xs
count_cons p x xs = by (p x)
  where
    by : (b : Bool) → length (cond b (x ∷ filter p xs) (filter p xs)) ≡ one b + count p xs
    by true = omega arith
    by false = omega arith

count_same : {X : Type 0} (p q : X → Bool) (xs : List X) → ((x : X) → Contains xs x → p x ≡ q x) → count p xs ≡ count q xs
count_same p q [] h = refl
count_same p q (x ∷ xs) h =
    count_cons p x xs ∙ ap₂ (λ b n. one b + n) (h x (Contains-head x xs)) (count_same p q xs (λ y c. h y (Contains-tail x xs y c))) ∙ sym (count_cons q x xs)

count_none : {X : Type 0} (xs : List X) → count (λ x. false) xs ≡ 0
count_none [] = refl
count_none (x ∷ xs) = count_none xs

count_all : {X : Type 0} (xs : List X) → count (λ x. true) xs ≡ length xs
count_all [] = refl
count_all (x ∷ xs) = ap suc (count_all xs)

count_map : {X Y : Type 0} (p : Y → Bool) (f : X → Y) (xs : List X) → count p (map f xs) ≡ count (λ x. p (f x)) xs
count_map p f [] = refl
count_map p f (x ∷ xs) = count_cons p (f x) (map f xs) ∙ ap (λ n. one (p (f x)) + n) (count_map p f xs) ∙ sym (count_cons (λ x. p (f x)) x xs)

-- whether there is an element, and it passes
abbrev hits : {Y : Type 0} → (Y → Bool) → Option Y → Bool
hits q None = false
hits q (Some y) = q y

count_picked : {X Y : Type 0} (q : Y → Bool) (f : X → Option Y) (xs : List X) → count q (filter_map f xs) ≡ count (λ x. hits q (f x)) xs
count_picked q f [] = refl
count_picked q f (x ∷ xs) = by (f x) ∙ ap (λ n. one (hits q (f x)) + n) (count_picked q f xs) ∙ sym (count_cons (λ x. hits q (f x)) x xs)
  where
    by : (o : Option _) → count q (cons_option o (filter_map f xs)) ≡ one (hits q o) + count q (filter_map f xs)
    by None = omega arith
    by (Some y) = count_cons q y (filter_map f xs)

-- two sums that are alike for each element are alike for all
balance : {X Y Z : Type 0} (p : Y → Bool) (q r : Z → Bool) (f g : X → List Y) (h k : X → List Z) (xs : List X)
    → ((x : X) → Contains xs x → count p (f x) + count q (h x) ≡ count p (g x) + count r (k x))
    → count p (flat_map f xs) + count q (flat_map h xs) ≡ count p (flat_map g xs) + count r (flat_map k xs)
balance p q r f g h k [] each = refl
balance p q r f g h k (x ∷ xs) each =
    omega (
      arith,
      count_append p (f x) (flat_map f xs),
      count_append q (h x) (flat_map h xs),
      count_append p (g x) (flat_map g xs),
      count_append r (k x) (flat_map k xs),
      each x (Contains-head x xs),
      balance p q r f g h k xs (λ y c. each y (Contains-tail x xs y c)),
    )

-- ---- instances that both lists have
abbrev any_of : List Instance → Instance → Bool
any_of is i = list_any (is_same i) is

same_low : (i j : Instance) → is_same i j ≡ true → i.low ≡ j.low
same_low i j e = eqb-true i.low j.low (and_parts (eqb i.low j.low) (eqb i.high j.high) e).0

eqb_turns : (a b : ℕ) → eqb a b ≡ eqb b a
eqb_turns a b = by (eqb a b) refl (eqb b a) refl
  where
    by : (c : Bool) → eqb a b ≡ c → (d : Bool) → eqb b a ≡ d → c ≡ d
    by true e true f = refl
    by false e false f = refl
    by true e false f = absurd (false≢true (sym f ∙ eq-eqb b a (sym (eqb-true a b e))))
    by false e true f = absurd (false≢true (sym e ∙ eq-eqb a b (sym (eqb-true b a f))))

same_turns : (i j : Instance) → is_same i j ≡ is_same j i
same_turns i j = ap₂ (λ b c. b && c) (eqb_turns i.low j.low) (eqb_turns i.high j.high)

differs : (i j : Instance) → i.low < j.low → is_same i j ≡ false
differs i j h = and_left (eqb i.low j.low) (eqb i.high j.high) (ne_eqb i.low j.low (λ e. omega (arith, e, h)))

none_above : (x : Instance) (is : List Instance) → ((i : Instance) → Contains is i → x.low < i.low) → any_of is x ≡ false
none_above x [] h = refl
none_above x (i ∷ is) h = ap₂ (λ b c. b || c) (differs x i (h i (Contains-head i is))) (none_above x is (λ j c. h j (Contains-tail i is j c)))

above : (x : Instance) (is : List Instance) → RiseByStart (x ∷ is) → (i : Instance) → Contains is i → x.low < i.low
above x is s i c = lt_from_less x.low i.low (below_tail by_start_total x is s i c)

-- of a rising list, one at most is the same as this
one_match : (x : Instance) (is : List Instance) → RiseByStart is → count (λ i. is_same i x) is ≡ one (any_of is x)
one_match x [] s = refl
one_match x (i ∷ is) s = count_cons (λ i. is_same i x) i is ∙ by (one_match x is (sorted_tail by_start i is s)) (is_same i x) refl
  where
    by : count (λ i. is_same i x) is ≡ one (any_of is x) → (b : Bool) → is_same i x ≡ b → one b + count (λ i. is_same i x) is ≡ one (is_same x i || any_of is x)
    by rest false e = omega (arith, rest, ap (λ b. one (b || any_of is x)) (same_turns x i ∙ e))
    by rest true e =
        let none : any_of is x ≡ false = none_above x is (λ j c. subst (λ n. n < j.low) (same_low i x e) (above i is s j c)) in
        omega (arith, rest ∙ ap one none, ap (λ b. one (b || any_of is x)) (same_turns x i ∙ e))

-- as many of one list are in the other as of the other in the one
matches : (is js : List Instance) → RiseByStart is → RiseByStart js → count (any_of is) js ≡ count (any_of js) is
matches [] js s t = count_none js
matches (x ∷ is) js s t =
    split js ∙ ap₂ (λ m n. m + n) (one_match x js t) (matches is js (sorted_tail by_start x is s) t) ∙ sym (count_cons (any_of js) x is)
  where
    apart : (j : Instance) (b c : Bool) → is_same j x ≡ b → any_of is j ≡ c → one (b || c) ≡ one b + one c
    apart j false c e f = omega arith
    apart j true false e f = refl
    apart j true true e f = absurd (false≢true (sym (none_above j is (λ i c. subst (λ n. n < i.low) (sym (same_low j x e)) (above x is s i c))) ∙ f))

    split : (ks : List Instance) → count (any_of (x ∷ is)) ks ≡ count (λ j. is_same j x) ks + count (any_of is) ks
    split [] = refl
    split (k ∷ ks) =
        omega (arith, count_cons (any_of (x ∷ is)) k ks, count_cons (λ j. is_same j x) k ks, count_cons (any_of is) k ks, apart k (is_same k x) (any_of is k) refl refl, split ks)

abbrev unmatched : List Instance → Instance → Bool
unmatched is i = not (any_of is i)

count_not : {X : Type 0} (p : X → Bool) (xs : List X) → count (λ x. not (p x)) xs + count p xs ≡ length xs
count_not p [] = refl
count_not p (x ∷ xs) = omega (arith, count_cons (λ x. not (p x)) x xs, count_cons p x xs, by (p x), count_not p xs)
  where
    by : (b : Bool) → one (not b) + one b ≡ 1
    by true = refl
    by false = refl

-- what stands now and what stands no longer are as many as what stood and what newly stands
exchange : (now before : List Instance) → RiseByStart now → RiseByStart before → length now + count (unmatched now) before ≡ length before + count (unmatched before) now
exchange now before s t = omega (arith, count_not (any_of now) before, count_not (any_of before) now, matches now before s t)

-- ---- one window of one key
abbrev in_window : ℕ → Row → Bool
in_window window row = row.window == window

side : (b : Bool) (now before : List Instance) → RiseByStart now → RiseByStart before
    → count (λ (i : Instance). b) now + count (λ i. b && unmatched now i) before ≡ count (λ (i : Instance). b) before + count (λ i. b && unmatched before i) now
side true now before s t = omega (arith, count_all now, count_all before, exchange now before s t)
side false now before s t = omega (arith, count_none now, count_none before)

no_and : (b : Bool) → (b && false) ≡ false
no_and true = refl
no_and false = refl

and_yes : (b : Bool) → (b && true) ≡ b
and_yes true = refl
and_yes false = refl

abbrev is_found : {X : Type 0} → Option X → Bool
is_found None = false
is_found (Some x) = true

found_any : {X : Type 0} (p : X → Bool) (xs : List X) → is_found (find p xs) ≡ list_any p xs
found_any p [] = refl
found_any p (x ∷ xs) = by (p x) (found_any p xs)
  where
    by : (b : Bool) → is_found (find p xs) ≡ list_any p xs → is_found (cond b (Some x) (find p xs)) ≡ (b || list_any p xs)
    by true h = refl
    by false h = h

retracts : (window v : ℕ) (key : List ℕ) (func : Func) (now : List Instance) (i : Instance) → hits (is_gone_in window) (retraction v key func now i) ≡ ((v == window) && unmatched now i)
retracts window v key func now i = by (any_of now i)
  where
    by : (b : Bool) → hits (is_gone_in window) (cond b None (Some (Gone (row_of v key func i)))) ≡ ((v == window) && not b)
    by true = sym (no_and (v == window))
    by false = sym (and_yes (v == window))

emits : (window v : ℕ) (key : List ℕ) (func : Func) (before : List Instance) (i : Instance) → hits (is_new_in window) (emission v key func before i) ≡ ((v == window) && unmatched before i)
emits window v key func before i = by (find (is_same i) before) ∙ ap (λ b. (v == window) && not b) (found_any (is_same i) before)
  where
    again : (b : Bool) (old : Instance) → hits (is_new_in window) (cond b None (Some (Again (row_of v key func i) (former_of func old)))) ≡ false
    again true old = refl
    again false old = refl

    by : (o : Option Instance) → hits (is_new_in window) (emitted v key func i o) ≡ ((v == window) && not (is_found o))
    by None = sym (and_yes (v == window))
    by (Some old) = again (are_same_tuples old.chosen i.chosen) old ∙ sym (no_and (v == window))

emits_no_gone : (window v : ℕ) (key : List ℕ) (func : Func) (before : List Instance) (i : Instance) → hits (is_gone_in window) (emission v key func before i) ≡ false
emits_no_gone window v key func before i = by (find (is_same i) before)
  where
    again : (b : Bool) (old : Instance) → hits (is_gone_in window) (cond b None (Some (Again (row_of v key func i) (former_of func old)))) ≡ false
    again true old = refl
    again false old = refl

    by : (o : Option Instance) → hits (is_gone_in window) (emitted v key func i o) ≡ false
    by None = refl
    by (Some old) = again (are_same_tuples old.chosen i.chosen) old

retracts_no_new : (window v : ℕ) (key : List ℕ) (func : Func) (now : List Instance) (i : Instance) → hits (is_new_in window) (retraction v key func now i) ≡ false
retracts_no_new window v key func now i = by (any_of now i)
  where
    by : (b : Bool) → hits (is_new_in window) (cond b None (Some (Gone (row_of v key func i)))) ≡ false
    by true = refl
    by false = refl

abbrev rows_in : List ℕ → Moment → ℕ × Def → List Row
rows_in key m v = map (row_of v.0 key (v.1).func) (standing_at v.1 m)

window_balance : (window : ℕ) (key : List ℕ) (old new : Moment) (v : ℕ × Def) → RiseByStart (standing_at v.1 old) → RiseByStart (standing_at v.1 new)
    → count (in_window window) (rows_in key new v) + count (is_gone_in window) (retractions key old new v) ≡ count (in_window window) (rows_in key old v) + count (is_new_in window) (emissions key old new v)
window_balance window key old new v s t =
    let now : List Instance = standing_at v.1 new in
    let before : List Instance = standing_at v.1 old in
    let b : Bool = v.0 == window in
    let a1 : count (in_window window) (rows_in key new v) ≡ count (λ (i : Instance). b) now = count_map (in_window window) (row_of v.0 key (v.1).func) now in
    let a2 : count (in_window window) (rows_in key old v) ≡ count (λ (i : Instance). b) before = count_map (in_window window) (row_of v.0 key (v.1).func) before in
    let a3 : count (is_gone_in window) (retractions key old new v) ≡ count (λ i. b && unmatched now i) before = count_picked (is_gone_in window) (retraction v.0 key (v.1).func now) before ∙ count_same (λ i. hits (is_gone_in window) (retraction v.0 key (v.1).func now i)) (λ i. b && unmatched now i) before (λ i c. retracts window v.0 key (v.1).func now i) in
    let a4 : count (is_new_in window) (emissions key old new v) ≡ count (λ i. b && unmatched before i) now = count_picked (is_new_in window) (emission v.0 key (v.1).func before) now ∙ count_same (λ i. hits (is_new_in window) (emission v.0 key (v.1).func before i)) (λ i. b && unmatched before i) now (λ i c. emits window v.0 key (v.1).func before i) in
    omega (arith, a1, a2, a3, a4, side b now before t s)

-- ---- one key
count_flat_none : {X Y : Type 0} (p : Y → Bool) (f : X → List Y) (xs : List X) → ((x : X) → count p (f x) ≡ 0) → count p (flat_map f xs) ≡ 0
count_flat_none p f [] h = refl
count_flat_none p f (x ∷ xs) h = omega (arith, count_append p (f x) (flat_map f xs), h x, count_flat_none p f xs h)

no_gone : (window : ℕ) (key : List ℕ) (old new : Moment) (v : ℕ × Def) → count (is_gone_in window) (emissions key old new v) ≡ 0
no_gone window key old new v =
    count_picked (is_gone_in window) (emission v.0 key (v.1).func (standing_at v.1 old)) (standing_at v.1 new)
    ∙ count_same (λ i. hits (is_gone_in window) (emission v.0 key (v.1).func (standing_at v.1 old) i)) (λ i. false) (standing_at v.1 new) (λ i c. emits_no_gone window v.0 key (v.1).func (standing_at v.1 old) i)
    ∙ count_none (standing_at v.1 new)

no_new : (window : ℕ) (key : List ℕ) (old new : Moment) (v : ℕ × Def) → count (is_new_in window) (retractions key old new v) ≡ 0
no_new window key old new v =
    count_picked (is_new_in window) (retraction v.0 key (v.1).func (standing_at v.1 new)) (standing_at v.1 old)
    ∙ count_same (λ i. hits (is_new_in window) (retraction v.0 key (v.1).func (standing_at v.1 new) i)) (λ i. false) (standing_at v.1 old) (λ i c. retracts_no_new window v.0 key (v.1).func (standing_at v.1 new) i)
    ∙ count_none (standing_at v.1 old)

abbrev Rises : List Def → Moment → Type 0
Rises windows m = (def : Def) → Contains windows def → RiseByStart (standing_at def m)

key_balance : (window : ℕ) (windows : List Def) (key : List ℕ) (old new : Moment) → Rises windows old → Rises windows new
    → count (in_window window) (rows_at windows key new) + retracted_in window (changes_between windows key old new) ≡ count (in_window window) (rows_at windows key old) + emitted_in window (changes_between windows key old new)
unfolding changes_between
key_balance window windows key old new s t =
    let numbered : List (ℕ × Def) = enumerate_from 0 windows in
    let both : count (in_window window) (rows_at windows key new) + count (is_gone_in window) (flat_map (retractions key old new) numbered) ≡ count (in_window window) (rows_at windows key old) + count (is_new_in window) (flat_map (emissions key old new) numbered)
    = balance (in_window window) (is_gone_in window) (is_new_in window) (rows_in key new) (rows_in key old) (retractions key old new) (emissions key old new) numbered
    (λ v c. window_balance window key old new v (s v.1 (enumerate_members 0 windows v c)) (t v.1 (enumerate_members 0 windows v c))) in
    omega (
      arith,
      both,
      count_append (is_gone_in window) (flat_map (retractions key old new) numbered) (flat_map (emissions key old new) numbered),
      count_append (is_new_in window) (flat_map (retractions key old new) numbered) (flat_map (emissions key old new) numbered),
      count_flat_none (is_gone_in window) (emissions key old new) numbered (no_gone window key old new),
      count_flat_none (is_new_in window) (retractions key old new) numbered (no_new window key old new),
    )

-- ---- all keys
flat_insert : {Y : Type 0} (f : List ℕ → List Y) (ks : List (List ℕ)) (k : List ℕ) → f k ≡ [] → flat_map f (insert_key (slice_cmp nat_cmp) ks k) ≡ flat_map f ks
flat_insert f [] k none = ap (λ l. l ++ []) none
flat_insert f (x ∷ xs) k none = by (slice_cmp nat_cmp k x) (flat_insert f xs k none)
  where
    by : (o : Ordering) → flat_map f (insert_key (slice_cmp nat_cmp) xs k) ≡ flat_map f xs → flat_map f (match_ordering o (k ∷ x ∷ xs) (x ∷ xs) (x ∷ insert_key (slice_cmp nat_cmp) xs k)) ≡ flat_map f (x ∷ xs)
    by Less h = ap (λ l. l ++ flat_map f (x ∷ xs)) none
    by Equal h = refl
    by Greater h = ap (λ l. f x ++ l) h

none_of_absent : (d : Definitions) (sources : ℕ) (journal : List Entry) (key : List ℕ) → ¬ Contains (keys_of journal) key → rows_at d.windows key (moment_of d sources key journal) ≡ []
none_of_absent d sources journal key absent =
    flat_map_none (λ (v : ℕ × Def). map (row_of v.0 key (v.1).func) (standing_at v.1 (moment_of d sources key journal))) (enumerate_from 0 d.windows)
    (λ v c. ap (map (row_of v.0 key (v.1).func)) (ap (λ kept. standing_of (v.1).kind kept (marks_of d.lateness sources key journal) (water_of sources journal)) (nothing_kept d.lateness sources key journal absent) ∙ nothing_stands (v.1).kind (marks_of d.lateness sources key journal) (water_of sources journal)))

-- the keys of one entry more bring no row of what stood
same_over_keys : (d : Definitions) (sources : ℕ) (before : List Entry) (e : Entry)
    → flat_map (λ key. rows_at d.windows key (moment_of d sources key before)) (keys_of (before ++ e ∷ [])) ≡ flat_map (λ key. rows_at d.windows key (moment_of d sources key before)) (keys_of before)
same_over_keys d sources before e = ap (flat_map (λ key. rows_at d.windows key (moment_of d sources key before))) (keys_of_push before e) ∙ by (key_in e.what) refl
  where
    in_or_out : (k : List ℕ) → key_in e.what ≡ Some k → Contains (keys_of before) k ⊎ (¬ Contains (keys_of before) k) → flat_map (λ key. rows_at d.windows key (moment_of d sources key before)) (insert_key (slice_cmp nat_cmp) (keys_of before) k) ≡ flat_map (λ key. rows_at d.windows key (moment_of d sources key before)) (keys_of before)
    in_or_out k is (inl c) =
        ap (flat_map (λ key. rows_at d.windows key (moment_of d sources key before)))
        (same_members_same_list nat_list_cmp_total (insert_key (slice_cmp nat_cmp) (keys_of before) k) (keys_of before)
        (subst (IsStrictlySortedBy (slice_cmp nat_cmp)) (keys_of_push before e ∙ ap (λ o. option_map_or (insert_key (slice_cmp nat_cmp) (keys_of before)) o (keys_of before)) is) (keys_in_order (before ++ e ∷ [])))
        (keys_in_order before)
        (λ x h. ⊎_elim (λ same. subst (Contains (keys_of before)) same c) (λ t. t) (Contains-insert_key_cases (slice_cmp nat_cmp) k (keys_of before) x h))
        (λ x h. Contains-insert_key (slice_cmp nat_cmp) k (keys_of before) x h))
    in_or_out k is (inr absent) = flat_insert (λ key. rows_at d.windows key (moment_of d sources key before)) (keys_of before) k (none_of_absent d sources before k absent)

    by : (o : Option (List ℕ)) → key_in e.what ≡ o → flat_map (λ key. rows_at d.windows key (moment_of d sources key before)) (option_map_or (insert_key (slice_cmp nat_cmp) (keys_of before)) o (keys_of before)) ≡ flat_map (λ key. rows_at d.windows key (moment_of d sources key before)) (keys_of before)
    by None is = refl
    by (Some k) is = in_or_out k is (is_key_or_not k (keys_of before))

pub rows_are_counted : (d : Definitions) (sources window : ℕ) (before : List Entry) (e : Entry) → AreWithinLimits d
    → standing_count d sources (before ++ e ∷ []) window + retracted_in window (changes_after d sources before e) ≡ standing_count d sources before window + emitted_in window (changes_after d sources before e)
unfolding standing_count standing_rows
rows_are_counted d sources window before e limits = by (is_late d.lateness (water_of sources before) e.what) refl
  where
    old_rows : count (in_window window) (flat_map (λ key. rows_at d.windows key (moment_of d sources key before)) (keys_of (before ++ e ∷ []))) ≡ standing_count d sources before window
    old_rows = ap (count (in_window window)) (same_over_keys d sources before e)

    by : (b : Bool) → is_late d.lateness (water_of sources before) e.what ≡ b
        → standing_count d sources (before ++ e ∷ []) window + retracted_in window (changes_after d sources before e) ≡ standing_count d sources before window + emitted_in window (changes_after d sources before e)
    by true late =
        let same : standing_count d sources (before ++ e ∷ []) window ≡ standing_count d sources before window
        = ap (count (in_window window)) (flat_map_same (λ key. rows_at d.windows key (moment_of d sources key (before ++ e ∷ []))) (λ key. rows_at d.windows key (moment_of d sources key before)) (keys_of (before ++ e ∷ [])) (λ key c. ap (rows_at d.windows key) (moment_of_late d sources key before e late))) ∙ old_rows in
        omega (arith, same, ap (retracted_in window) (late_is_dropped d sources before e late), ap (emitted_in window) (late_is_dropped d sources before e late))
    by false on_time =
        let all : standing_count d sources (before ++ e ∷ []) window + count (is_gone_in window) (flat_map (changes_of_key d sources before e) (keys_of (before ++ e ∷ []))) ≡ count (in_window window) (flat_map (λ key. rows_at d.windows key (moment_of d sources key before)) (keys_of (before ++ e ∷ []))) + count (is_new_in window) (flat_map (changes_of_key d sources before e) (keys_of (before ++ e ∷ [])))
        = balance (in_window window) (is_gone_in window) (is_new_in window) (λ key. rows_at d.windows key (moment_of d sources key (before ++ e ∷ []))) (λ key. rows_at d.windows key (moment_of d sources key before)) (changes_of_key d sources before e) (changes_of_key d sources before e) (keys_of (before ++ e ∷ []))
        (λ key c. key_balance window d.windows key (moment_of d sources key before) (moment_of d sources key (before ++ e ∷ [])) (rises_after d sources key before limits) (rises_after d sources key (before ++ e ∷ []) limits)) in
        omega (arith, all, old_rows, ap (retracted_in window) (on_time_changes d sources before e on_time), ap (emitted_in window) (on_time_changes d sources before e on_time))
