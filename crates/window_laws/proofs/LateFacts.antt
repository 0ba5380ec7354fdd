-- What a late tuple changes of a tumbling or sliding window.
use Rattle.std.proofs.Common.{◌≡◌, ◌∙◌, ℕ, zero, suc, ◌+◌, ◌*◌, ◌<◌, ◌≤◌, Bool, true, false, cond, Option, Some, None, List, [], ◌∷◌, ◌++◌, length, take, drop, map, ap, sym, refl, subst, inl, inr, ⊎_elim, arith}
use Rattle.std.specs.Prelude.{◌⊎◌, ◌&&◌, ◌==◌, nat_le, nat_lt, insert, find}
use Rattle.std.specs.List.{Contains, filter, filter_map, cons_option, range_with_len}
use Rattle.std.specs.List.Sorted.{IsStrictlySortedBy}
use Rattle.std.specs.Ordering.{nat_cmp}
use Rattle.std.specs.declared.cmp.Ordering.TheVariants.{Less}
use Rattle.std.proofs.lemmas.Bool.{leb-true, le-leb, ltb-true, lt-ltb, and_parts, and_from, cases_lt, cases_Bool, eqb-true, false≢true, false_from_ne_true}
use Rattle.std.proofs.lemmas.Bool.Decides.{nat_tests}
use Rattle.std.proofs.lemmas.Cmp.{nat_cmp_total}
use Rattle.std.proofs.lemmas.List.{length-append, take-append-drop}
use Rattle.std.proofs.lemmas.List.Elements.{filter-append}
use Rattle.std.proofs.lemmas.List.Kept.{IsStrictlySortedBy-filter}
use Rattle.stream_base.specs.declared.change.Change.TheVariants.{New, Again, Gone}
use Rattle.stream_base.specs.declared.func.Func.{Func}
use Rattle.stream_base.specs.declared.kept.Kept.{Kept}
use Rattle.stream_base.specs.Model.Changes.{are_same_tuples, emission, emitted, former_of, is_same, retraction, row_of, Moment, emissions, retractions}
use Rattle.stream_base.specs.Model.Journal.{put_in_order}
use Rattle.stream_base.specs.Model.Windows.{Instance, interval, is_complete, is_within, spans, starts_holding, starts_of, within}
use Rattle.stream_base.proofs.Distinct.{less_from_lt, All_from_members}
use Rattle.stream_base.proofs.ChangeFacts.{any_from_member}
use Rattle.stream_base.proofs.KindFacts.{timed_instances, timed_within}
use Rattle.stream_base.proofs.Members.{filter_has, range_members, filter_map_of, filter_members, map_has, map_members}
use Rattle.stream_base.proofs.Rising.{none_in_nil, sorted_cons, sorted_nil, Contains-head, Contains-tail, Contains-cons_cases, same_members_same_list}
use Rattle.stream_base.proofs.Spans.{starts_of_has, starts_holding_members, starts_holding_has, starts_of_is_sorted, starts_of_members, starts_of_put_cases, starts_of_put_new, starts_of_put_old, within_put}
use Rattle.stream_base.specs.declared.def.Def.{Def}
use Rattle.stream_base.specs.Kinds.{IsKindWithin, is_timed, length_of, slide_of}
use Rattle.window_laws.specs.After.{with_tuple}
use Rattle.window_laws.specs.Late.{changes_of_late, late_change, late_changes}

-- a list of which each element is passed or not, filtered and mapped at once
filter_map_as : {X Y : Type 0} (h : X → Option Y) (p : X → Bool) (f : X → Y) (xs : List X) → ((x : X) → Contains xs x → h x ≡ cond (p x) (Some (f x)) None) → filter_map h xs ≡ map f (filter p xs)
filter_map_as h p f [] e = refl
filter_map_as {X} {Y} h p f (x ∷ xs) e =
    (λ i. cons_option (e x (Contains-head x xs) i) (filter_map_as h p f xs (λ y c. e y (Contains-tail x xs y c)) i)) ∙ by (p x)
  where
    by : (b : Bool) → cons_option (cond b (Some (f x)) None) (map f (filter p xs)) ≡ map f (cond b (x ∷ filter p xs) (filter p xs))
    by true = refl
    by false = refl

pub filter_map_none : {X Y : Type 0} (h : X → Option Y) (xs : List X) → ((x : X) → Contains xs x → h x ≡ None) → filter_map h xs ≡ []
filter_map_none h [] e = refl
filter_map_none h (x ∷ xs) e = λ i. cons_option (e x (Contains-head x xs) i) (filter_map_none h xs (λ y c. e y (Contains-tail x xs y c)) i)

pub filter_map_map : {X Y Z : Type 0} (h : Y → Option Z) (g : X → Y) (xs : List X) → filter_map h (map g xs) ≡ filter_map (λ x. h (g x)) xs
filter_map_map h g [] = refl
filter_map_map h g (x ∷ xs) = ap (cons_option (h (g x))) (filter_map_map h g xs)

pub find_none : {X : Type 0} (p : X → Bool) (xs : List X) → ((x : X) → Contains xs x → p x ≡ false) → find p xs ≡ None
find_none p [] h = refl
find_none p (x ∷ xs) h = ap (λ b. cond b (Some x) (find p xs)) (h x (Contains-head x xs)) ∙ find_none p xs (λ y c. h y (Contains-tail x xs y c))

pub find_start : (f : ℕ → Instance) (low : ℕ) (i : Instance) (lows : List ℕ) → ((a : ℕ) → is_same i (f a) ≡ true → a ≡ low) → is_same i (f low) ≡ true → Contains lows low → find (is_same i) (map f lows) ≡ Some (f low)
find_start f low i [] only is c = absurd (none_in_nil low c)
find_start f low i (a ∷ lows) only is c = by (cases_Bool (is_same i (f a))) (λ d. find_start f low i lows only is d)
  where
    by : (is_same i (f a) ≡ true) ⊎ (is_same i (f a) ≡ false) → (Contains lows low → find (is_same i) (map f lows) ≡ Some (f low)) → find (is_same i) (map f (a ∷ lows)) ≡ Some (f low)
    by (inl t) later = ap (λ b. cond b (Some (f a)) (find (is_same i) (map f lows))) t ∙ ap (λ k. Some (f k)) (only a t)
    by (inr t) later =
        ap (λ b. cond b (Some (f a)) (find (is_same i) (map f lows))) t
        ∙ later (⊎_elim (λ e. absurd (false≢true (sym t ∙ ap (λ k. is_same i (f k)) e ∙ is))) (λ d. d) (Contains-cons_cases a lows low c))

pub same_itself : (xs : List Kept) → are_same_tuples xs xs ≡ true
same_itself [] = refl
same_itself (x ∷ xs) = let e : (x.position == x.position) ≡ true = grind (arith, nat_tests) in ap (λ b. b && are_same_tuples xs xs) e ∙ same_itself xs

same_length : (xs ys : List Kept) → are_same_tuples xs ys ≡ true → length xs ≡ length ys
same_length [] [] h = refl
same_length [] (y ∷ ys) h = absurd (false≢true h)
same_length (x ∷ xs) [] h = absurd (false≢true h)
same_length (x ∷ xs) (y ∷ ys) h = let t : (x.position == y.position ≡ true) × (are_same_tuples xs ys ≡ true) = and_parts (x.position == y.position) (are_same_tuples xs ys) h in ap suc (same_length xs ys t.1)

pub longer_differs : (xs ys : List Kept) → length ys ≡ length xs + 1 → are_same_tuples xs ys ≡ false
longer_differs xs ys h = by (cases_Bool (are_same_tuples xs ys))
  where
    by : (are_same_tuples xs ys ≡ true) ⊎ (are_same_tuples xs ys ≡ false) → are_same_tuples xs ys ≡ false
    by (inl t) = absurd (omega (arith, same_length xs ys t))
    by (inr t) = t

-- a filter that passes the new element has one more
pub one_more : (p : Kept → Bool) (xs : List Kept) (i : ℕ) (x : Kept) → p x ≡ true → length (filter p (insert xs i x)) ≡ length (filter p xs) + 1
one_more p xs i x h =
    ap length (filter-append p (take i xs) (x ∷ drop i xs) ∙ ap (λ b. filter p (take i xs) ++ cond b (x ∷ filter p (drop i xs)) (filter p (drop i xs))) h)
    ∙ length-append (filter p (take i xs)) (x ∷ filter p (drop i xs))
    ∙ omega (arith, ap length (sym (filter-append p (take i xs) (drop i xs)) ∙ ap (filter p) (take-append-drop i xs)), length-append (filter p (take i xs)) (filter p (drop i xs)))

member_of_some : (p : Kept → Bool) (xs : List Kept) → nat_lt 0 (length (filter p xs)) ≡ true → (y : Kept) × Contains xs y × (p y ≡ true)
member_of_some p xs h = by (filter p xs) refl h
  where
    by : (ys : List Kept) → filter p xs ≡ ys → nat_lt 0 (length ys) ≡ true → (y : Kept) × Contains xs y × (p y ≡ true)
    by [] e g = absurd (let l : 0 < 0 = ltb-true 0 0 g in omega arith)
    by (y ∷ ys) e g = let m : Contains xs y × (p y ≡ true) = filter_members p xs y (subst (λ l. Contains l y) (sym e) (Contains-head y ys)) in (y, m.0, m.1)

pub some_of_member : (p : Kept → Bool) (xs : List Kept) (y : Kept) → Contains xs y → p y ≡ true → nat_lt 0 (length (filter p xs)) ≡ true
some_of_member p xs y c h = let m = filter_has p xs y c h in lt-ltb 0 (length (filter p xs)) (omega (arith, m.1))

-- multiples rise
range_rises : (slide a n : ℕ) → 1 ≤ slide → IsStrictlySortedBy nat_cmp (map (λ k. k * slide) (range_with_len a n))
range_rises slide a zero m = sorted_nil nat_cmp_total
range_rises slide a (suc n) m =
    sorted_cons nat_cmp_total (a * slide) (map (λ k. k * slide) (range_with_len (a + 1) n))
    (All_from_members (λ b. nat_cmp (a * slide) b ≡ Less) (map (λ k. k * slide) (range_with_len (a + 1) n)) (λ b c.
    let h : (k : ℕ) × Contains (range_with_len (a + 1) n) k × (k * slide ≡ b) = map_members (λ k. k * slide) (range_with_len (a + 1) n) b c in
    let g : (a + 1 ≤ h.0) × (h.0 < a + 1 + n) = range_members (a + 1) n h.0 h.1 in
    let t : (a + 1) * slide ≤ h.0 * slide = times_mono (a + 1) h.0 slide g.0 in
    less_from_lt (a * slide) b (omega (arith, h.2))))
    (range_rises slide (a + 1) n m)
  where
    times_mono : (a b c : ℕ) → a ≤ b → a * c ≤ b * c
    times_mono a b c h = grind arith

module _ (length_of slide water : ℕ) (kept : List Kept) (x : Kept) (moves : 1 ≤ slide) (overlaps : slide ≤ length_of) where
  -- the starts of the complete intervals, before and behind
  abbrev done : List Kept → List ℕ
  done tuples = filter (λ low. nat_le (low + length_of) water) (starts_of length_of slide tuples)

  abbrev over : List Kept → ℕ → Instance
  over tuples low = interval low (low + length_of) tuples

  standing : (tuples : List Kept) → filter (is_complete water) (spans length_of slide tuples) ≡ map (over tuples) (done tuples)
  standing tuples = filter_map_of (is_complete water) (over tuples) (starts_of length_of slide tuples)

  only_low : (tuples : List Kept) (low a : ℕ) → is_same (over (put_in_order kept x) low) (over tuples a) ≡ true → a ≡ low
  only_low tuples low a h = let t : (low == a ≡ true) × (low + length_of == a + length_of ≡ true) = and_parts (low == a) (low + length_of == a + length_of) h in sym (eqb-true low a t.0)

  is_low : (tuples : List Kept) (low : ℕ) → is_same (over (put_in_order kept x) low) (over tuples low) ≡ true
  is_low tuples low = and_from (low == low) (low + length_of == low + length_of) (own low) (own (low + length_of))
    where
      own : (n : ℕ) → (n == n) ≡ true
      own n = grind (arith, nat_tests)

  -- an interval that holds the tuple, or doesn't
  abbrev holds : ℕ → Bool
  holds low = is_within low (low + length_of) x

  none_gone_here : (window : ℕ) (key : List ℕ) (func : Func) → filter_map (retraction window key func (filter (is_complete water) (spans length_of slide (put_in_order kept x)))) (filter (is_complete water) (spans length_of slide kept)) ≡ []
  none_gone_here window key func =
      (λ i. filter_map (retraction window key func (standing (put_in_order kept x) i)) (standing kept i))
      ∙ filter_map_map (retraction window key func (map (over (put_in_order kept x)) (done (put_in_order kept x)))) (over kept) (done kept)
      ∙ filter_map_none (λ low. retraction window key func (map (over (put_in_order kept x)) (done (put_in_order kept x))) (over kept low)) (done kept) stays
    where
      stays : (low : ℕ) → Contains (done kept) low → retraction window key func (map (over (put_in_order kept x)) (done (put_in_order kept x))) (over kept low) ≡ None
      stays low c =
          let m : Contains (starts_of length_of slide kept) low × (nat_le (low + length_of) water ≡ true) = filter_members (λ a. nat_le (a + length_of) water) (starts_of length_of slide kept) low c in
          let there : Contains (done (put_in_order kept x)) low = filter_has (λ a. nat_le (a + length_of) water) (starts_of length_of slide (put_in_order kept x)) low (starts_of_put_old length_of slide kept x low m.0) m.1 in
          ap (λ b. cond b None (Some (Gone (row_of window key func (over kept low)))))
          (any_from_member (is_same (over kept low)) (map (over (put_in_order kept x)) (done (put_in_order kept x))) (over (put_in_order kept x) low) (map_has (over (put_in_order kept x)) (done (put_in_order kept x)) low there) (is_low (put_in_order kept x) low))

  -- an interval of before held a tuple
  found_before : (low k : ℕ) → low ≡ k * slide → nat_le (low + length_of) water ≡ true → nat_lt 0 (length (within low (low + length_of) kept)) ≡ true → Contains (done kept) low
  found_before low k e w h =
      let m : (y : Kept) × Contains kept y × (is_within low (low + length_of) y ≡ true) = member_of_some (is_within low (low + length_of)) kept h in
      let p : (nat_le low (m.0).time ≡ true) × (nat_lt (m.0).time (low + length_of) ≡ true) = and_parts (nat_le low (m.0).time) (nat_lt (m.0).time (low + length_of)) m.2 in
      let a : low ≤ (m.0).time = leb-true _ _ p.0 in
      let b : (m.0).time < low + length_of = ltb-true _ _ p.1 in
      filter_has (λ a. nat_le (a + length_of) water) (starts_of length_of slide kept) low (subst (Contains (starts_of length_of slide kept)) (sym e) (starts_of_has length_of slide moves overlaps kept m.0 k m.1 (omega (arith, e)) (omega (arith, e)))) w

  held_before : (low : ℕ) → Contains (done kept) low → nat_lt 0 (length (within low (low + length_of) kept)) ≡ true
  held_before low c =
      let m : Contains (starts_of length_of slide kept) low × (nat_le (low + length_of) water ≡ true) = filter_members (λ a. nat_le (a + length_of) water) (starts_of length_of slide kept) low c in
      let h : (k : ℕ) × (y : Kept) × Contains kept y × (low ≡ k * slide) × (low ≤ y.time) × (y.time < low + length_of) = starts_of_members length_of slide moves overlaps kept low m.0 in
      some_of_member (is_within low (low + length_of)) kept h.1 h.2 (and_from (nat_le low (h.1).time) (nat_lt (h.1).time (low + length_of)) (le-leb low (h.1).time h.4) (lt-ltb (h.1).time (low + length_of) h.5))

  -- what is found of it among those of before
  found : (low : ℕ) → Contains (done kept) low → find (is_same (over (put_in_order kept x) low)) (map (over kept) (done kept)) ≡ Some (over kept low)
  found low c = find_start (over kept) low (over (put_in_order kept x) low) (done kept) (only_low kept low) (is_low kept low) c

  not_found : (low : ℕ) → (Contains (done kept) low → ⊥) → find (is_same (over (put_in_order kept x) low)) (map (over kept) (done kept)) ≡ None
  not_found low n =
      find_none (is_same (over (put_in_order kept x) low)) (map (over kept) (done kept)) (λ i c.
      let h : (a : ℕ) × Contains (done kept) a × (over kept a ≡ i) = map_members (over kept) (done kept) i c in
      false_from_ne_true (is_same (over (put_in_order kept x) low) i) (λ t. n (subst (Contains (done kept)) (only_low kept low h.0 (subst (λ j. is_same (over (put_in_order kept x) low) j ≡ true) (sym h.2) t)) h.1)))

  outside : (low : ℕ) → holds low ≡ false → (x.time < low) ⊎ (low + length_of ≤ x.time)
  outside low h = by (cases_lt x.time low) (cases_lt x.time (low + length_of))
    where
      by : (x.time < low) ⊎ (low ≤ x.time) → (x.time < low + length_of) ⊎ (low + length_of ≤ x.time) → (x.time < low) ⊎ (low + length_of ≤ x.time)
      by (inl a) b = inl a
      by (inr a) (inr b) = inr b
      by (inr a) (inl b) = absurd (false≢true (sym h ∙ and_from (nat_le low x.time) (nat_lt x.time (low + length_of)) (le-leb low x.time a) (lt-ltb x.time (low + length_of) b)))

  emission_here : (window : ℕ) (key : List ℕ) (func : Func) (low : ℕ) → Contains (done (put_in_order kept x)) low
      → emission window key func (map (over kept) (done kept)) (over (put_in_order kept x) low) ≡ cond (holds low) (Some (late_change window key func length_of kept x low)) None
  emission_here window key func low c = by (cases_Bool (holds low)) (cases_Bool (nat_lt 0 (length (within low (low + length_of) kept))))
    where
      m : Contains (starts_of length_of slide (put_in_order kept x)) low × (nat_le (low + length_of) water ≡ true)
      m = filter_members (λ a. nat_le (a + length_of) water) (starts_of length_of slide (put_in_order kept x)) low c

      h : (k : ℕ) × (y : Kept) × Contains (put_in_order kept x) y × (low ≡ k * slide) × (low ≤ y.time) × (y.time < low + length_of)
      h = starts_of_members length_of slide moves overlaps (put_in_order kept x) low m.0

      old_or_holds : (holds low ≡ false) → Contains (done kept) low
      old_or_holds f =
          ⊎_elim
          (λ d. filter_has (λ a. nat_le (a + length_of) water) (starts_of length_of slide kept) low d m.1)
          (λ d. let g : (k : ℕ) × (low ≡ k * slide) × (low ≤ x.time) × (x.time < low + length_of) = starts_holding_members length_of slide moves overlaps x.time low d in
          absurd (false≢true (sym f ∙ and_from (nat_le low x.time) (nat_lt x.time (low + length_of)) (le-leb low x.time g.2) (lt-ltb x.time (low + length_of) g.3))))
          (starts_of_put_cases length_of slide kept x low m.0)

      by : (holds low ≡ true) ⊎ (holds low ≡ false) → (nat_lt 0 (length (within low (low + length_of) kept)) ≡ true) ⊎ (nat_lt 0 (length (within low (low + length_of) kept)) ≡ false)
          → emission window key func (map (over kept) (done kept)) (over (put_in_order kept x) low) ≡ cond (holds low) (Some (late_change window key func length_of kept x low)) None
      by (inl t) (inl s) =
          let one : length (within low (low + length_of) (put_in_order kept x)) ≡ length (within low (low + length_of) kept) + 1 = one_more (is_within low (low + length_of)) kept _ x t in
          ap (emitted window key func (over (put_in_order kept x) low)) (found low (found_before low h.0 h.3 m.1 s))
          ∙ ap (λ b. cond b None (Some (Again (row_of window key func (over (put_in_order kept x) low)) (former_of func (over kept low))))) (longer_differs (within low (low + length_of) kept) (within low (low + length_of) (put_in_order kept x)) one)
          ∙ sym ((λ i. cond (t i) (Some (cond (s i) (Again (row_of window key func (over (put_in_order kept x) low)) (former_of func (over kept low))) (New (row_of window key func (over (put_in_order kept x) low))))) None))
      by (inl t) (inr s) =
          ap (emitted window key func (over (put_in_order kept x) low)) (not_found low (λ d. false≢true (sym s ∙ held_before low d)))
          ∙ sym ((λ i. cond (t i) (Some (cond (s i) (Again (row_of window key func (over (put_in_order kept x) low)) (former_of func (over kept low))) (New (row_of window key func (over (put_in_order kept x) low))))) None))
      by (inr f) s =
          let same : within low (low + length_of) (put_in_order kept x) ≡ within low (low + length_of) kept = within_put low (low + length_of) kept x (outside low f) in
          ap (emitted window key func (over (put_in_order kept x) low)) (found low (old_or_holds f))
          ∙ ap (λ b. cond b None (Some (Again (row_of window key func (over (put_in_order kept x) low)) (former_of func (over kept low))))) (ap (are_same_tuples (within low (low + length_of) kept)) same ∙ same_itself (within low (low + length_of) kept))
          ∙ sym (ap (λ b. cond b (Some (late_change window key func length_of kept x low)) None) f)

  late_here : (window : ℕ) (key : List ℕ) (func : Func) → filter_map (emission window key func (filter (is_complete water) (spans length_of slide kept))) (filter (is_complete water) (spans length_of slide (put_in_order kept x))) ≡ late_changes window key func length_of slide water kept x
  late_here window key func =
      (λ i. filter_map (emission window key func (standing kept i)) (standing (put_in_order kept x) i))
      ∙ filter_map_map (emission window key func (map (over kept) (done kept))) (over (put_in_order kept x)) (done (put_in_order kept x))
      ∙ filter_map_as (λ low. emission window key func (map (over kept) (done kept)) (over (put_in_order kept x) low)) holds (late_change window key func length_of kept x) (done (put_in_order kept x)) (emission_here window key func)
      ∙ ap (map (late_change window key func length_of kept x)) same_starts
    where
      same_starts : filter holds (done (put_in_order kept x)) ≡ filter (λ low. nat_le (low + length_of) water) (starts_holding length_of slide x.time)
      same_starts =
          same_members_same_list nat_cmp_total (filter holds (done (put_in_order kept x))) (filter (λ low. nat_le (low + length_of) water) (starts_holding length_of slide x.time))
          (IsStrictlySortedBy-filter nat_cmp holds (done (put_in_order kept x)) (IsStrictlySortedBy-filter nat_cmp (λ low. nat_le (low + length_of) water) (starts_of length_of slide (put_in_order kept x)) (starts_of_is_sorted length_of slide (put_in_order kept x))))
          (IsStrictlySortedBy-filter nat_cmp (λ low. nat_le (low + length_of) water) (starts_holding length_of slide x.time) (range_rises slide _ _ moves))
          there back
        where
          there : (a : ℕ) → Contains (filter holds (done (put_in_order kept x))) a → Contains (filter (λ low. nat_le (low + length_of) water) (starts_holding length_of slide x.time)) a
          there a c =
              let f : Contains (done (put_in_order kept x)) a × (holds a ≡ true) = filter_members holds (done (put_in_order kept x)) a c in
              let m : Contains (starts_of length_of slide (put_in_order kept x)) a × (nat_le (a + length_of) water ≡ true) = filter_members (λ low. nat_le (low + length_of) water) (starts_of length_of slide (put_in_order kept x)) a f.0 in
              let h : (k : ℕ) × (y : Kept) × Contains (put_in_order kept x) y × (a ≡ k * slide) × (a ≤ y.time) × (y.time < a + length_of) = starts_of_members length_of slide moves overlaps (put_in_order kept x) a m.0 in
              let p : (nat_le a x.time ≡ true) × (nat_lt x.time (a + length_of) ≡ true) = and_parts (nat_le a x.time) (nat_lt x.time (a + length_of)) f.1 in
              let low : a ≤ x.time = leb-true _ _ p.0 in
              let high : x.time < a + length_of = ltb-true _ _ p.1 in
              filter_has (λ low. nat_le (low + length_of) water) (starts_holding length_of slide x.time) a (subst (Contains (starts_holding length_of slide x.time)) (sym h.3) (starts_holding_has length_of slide moves overlaps x.time h.0 (omega (arith, h.3)) (omega (arith, h.3)))) m.1

          back : (a : ℕ) → Contains (filter (λ low. nat_le (low + length_of) water) (starts_holding length_of slide x.time)) a → Contains (filter holds (done (put_in_order kept x))) a
          back a c =
              let m : Contains (starts_holding length_of slide x.time) a × (nat_le (a + length_of) water ≡ true) = filter_members (λ low. nat_le (low + length_of) water) (starts_holding length_of slide x.time) a c in
              let g : (k : ℕ) × (a ≡ k * slide) × (a ≤ x.time) × (x.time < a + length_of) = starts_holding_members length_of slide moves overlaps x.time a m.0 in
              filter_has holds (done (put_in_order kept x)) a
              (filter_has (λ low. nat_le (low + length_of) water) (starts_of length_of slide (put_in_order kept x)) a (starts_of_put_new length_of slide kept x a m.0) m.1)
              (and_from (nat_le a x.time) (nat_lt x.time (a + length_of)) (le-leb a x.time g.2) (lt-ltb x.time (a + length_of) g.3))

pub none_gone : (window : ℕ) (key : List ℕ) (func : Func) (length slide water : ℕ) (kept : List Kept) (x : Kept) → 1 ≤ slide → slide ≤ length → filter_map (retraction window key func (filter (is_complete water) (spans length slide (put_in_order kept x)))) (filter (is_complete water) (spans length slide kept)) ≡ []
none_gone window key func length slide water kept x moves overlaps = none_gone_here length slide water kept x moves overlaps window key func

pub late_emissions : (window : ℕ) (key : List ℕ) (func : Func) (length slide water : ℕ) (kept : List Kept) (x : Kept) → 1 ≤ slide → slide ≤ length
    → filter_map (emission window key func (filter (is_complete water) (spans length slide kept))) (filter (is_complete water) (spans length slide (put_in_order kept x))) ≡ late_changes window key func length slide water kept x
late_emissions window key func length slide water kept x moves overlaps = late_here length slide water kept x moves overlaps window key func

-- by the kind of the window
pub timed_none_gone : (window : ℕ) (key : List ℕ) (def : Def) (m : Moment) (x : Kept) → is_timed def.kind ≡ true → IsKindWithin def.kind → retractions key m (with_tuple m x) (window, def) ≡ []
timed_none_gone window key def m x t k =
    let w = timed_within def.kind t k in
    (λ i. filter_map (retraction window key def.func (filter (is_complete m.water) (timed_instances def.kind (put_in_order m.kept x) m.marks t i))) (filter (is_complete m.water) (timed_instances def.kind m.kept m.marks t i)))
    ∙ none_gone window key def.func (length_of def.kind) (slide_of def.kind) m.water m.kept x w.0 w.1

pub timed_late_emissions : (window : ℕ) (key : List ℕ) (def : Def) (m : Moment) (x : Kept) → is_timed def.kind ≡ true → IsKindWithin def.kind → emissions key m (with_tuple m x) (window, def) ≡ changes_of_late window key def m x
timed_late_emissions window key def m x t k =
    let w = timed_within def.kind t k in
    (λ i. filter_map (emission window key def.func (filter (is_complete m.water) (timed_instances def.kind m.kept m.marks t i))) (filter (is_complete m.water) (timed_instances def.kind (put_in_order m.kept x) m.marks t i)))
    ∙ late_emissions window key def.func (length_of def.kind) (slide_of def.kind) m.water m.kept x w.0 w.1
