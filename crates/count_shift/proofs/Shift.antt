-- What one tuple changes of an events window: each instance that stands from its rank on.
use Rattle.std.proofs.Common.{◌≡◌, ◌≢◌, ◌∙◌, ℕ, zero, suc, ◌+◌, ◌-◌, ◌*◌, ◌/◌, ◌<◌, ◌≤◌, Bool, true, false, cond, eqb, List, [], ◌∷◌, ◌++◌, length, get_or, take, drop, map, ap, sym, refl, subst, arith, Option, None, Some, ⊎_elim}
use Rattle.std.specs.Prelude.{◌⊎◌, nat_le, insert}
use Rattle.std.specs.List.{Contains, filter, filter_map, find, cons_option, range_with_len}
use Rattle.std.proofs.lemmas.Bool.{eqb-true, ne_eqb, and_left, and_parts, false≢true, false_from_ne_true, cases_lt, le-leb, lt-leb}
use Rattle.std.proofs.lemmas.List.{length-append, length-take-le, get_or-take, get_or-drop, take-append-le, take-take, drop-take}
use Rattle.std.proofs.lemmas.List.FromFn.{length-map-range_with_len}
use Rattle.stream_base.specs.declared.change.Change.{Change}
use Rattle.stream_base.specs.declared.change.Change.TheVariants.{New, Again, Gone}
use Rattle.stream_base.specs.declared.func.Func.{Func}
use Rattle.stream_base.specs.declared.kept.Kept.{Kept}
use Rattle.stream_base.specs.declared.kind.Kind.{Kind}
use Rattle.stream_base.specs.declared.kind.Kind.TheVariants.{Events}
use Rattle.stream_base.specs.declared.def.Def.{Def}
use Rattle.stream_base.specs.Kinds.{IsKindWithin}
use Rattle.stream_base.specs.Laws.{TimesDoNotFall, RiseByStart, becomes_complete, completions}
use Rattle.stream_base.specs.Model.Changes.{row_of, former_of, is_same, are_same_tuples, retraction, emitted, emission, retractions, emissions}
use Rattle.stream_base.specs.Model.Journal.{put_in_order}
use Rattle.stream_base.specs.Model.Windows.{last_time, ranks, instances_of, standing_of}
use Rattle.stream_base.proofs.Members.{map_has, range_has}
use Rattle.stream_base.proofs.Distinct.{find_same, is_same_itself}
use Rattle.stream_base.proofs.KindFacts.{standing_rises}
use Rattle.stream_base.proofs.ChangeFacts.{not_emitted, any_from_member}
use Rattle.stream_base.specs.Model.Moments.{moment}
use Rattle.count_shift.specs.Counting.{IsEvents, count_of, upper, IsNextPosition, upper_after, move_changes, put_changes, new_of, again_of}
use Rattle.count_shift.proofs.Upper.{PartsAt, upper_rises, parts_at_upper, put_at_upper, upper_put, times_of_put, Side, Front, Here, Back, side_of}
use Rattle.count_shift.proofs.Standing.{filled, within_quotient, quotients_rise, next_run, standing_events, completed_events}

-- ---- chains over numbers
module _ {Y : Type 0} where
  filter_map-append : {X : Type 0} (f : X → Option Y) (xs ys : List X) → filter_map f (xs ++ ys) ≡ filter_map f xs ++ filter_map f ys
  filter_map-append f [] ys = refl
  filter_map-append f (x ∷ xs) ys = by (f x) (filter_map-append f xs ys)
    where
      by : (o : Option Y) → filter_map f (xs ++ ys) ≡ filter_map f xs ++ filter_map f ys → cons_option o (filter_map f (xs ++ ys)) ≡ cons_option o (filter_map f xs) ++ filter_map f ys
      by None h = h
      by (Some y) h = ap (λ l. y ∷ l) h

  filter_map-map : {X W : Type 0} (f : X → Option Y) (g : W → X) (ws : List W) → filter_map f (map g ws) ≡ filter_map (λ w. f (g w)) ws
  filter_map-map f g [] = refl
  filter_map-map f g (w ∷ ws) = ap (cons_option (f (g w))) (filter_map-map f g ws)

  -- none of the numbers gives anything
  quiet : (f : ℕ → Option Y) (s k : ℕ) → ((i : ℕ) → s ≤ i → i < s + k → f i ≡ None) → filter_map f (range_with_len s k) ≡ []
  quiet f s zero h = refl
  quiet f s (suc k) h =
      ap (λ o. cons_option o (filter_map f (range_with_len (s + 1) k))) (h s (omega arith) (omega arith))
      ∙ quiet f (s + 1) k (λ i le lt. h i (omega arith) (omega arith))

  -- each of them gives one item
  told : (f : ℕ → Option Y) (g : ℕ → Y) (s k : ℕ) → ((i : ℕ) → s ≤ i → i < s + k → f i ≡ Some (g i)) → filter_map f (range_with_len s k) ≡ map g (range_with_len s k)
  told f g s zero h = refl
  told f g s (suc k) h =
      ap (λ o. cons_option o (filter_map f (range_with_len (s + 1) k))) (h s (omega arith) (omega arith))
      ∙ ap (λ l. g s ∷ l) (told f g (s + 1) k (λ i le lt. h i (omega arith) (omega arith)))

  -- none of the instances is the one that is sought
  find_none : (p : Y → Bool) (g : ℕ → Y) (s k : ℕ) → ((i : ℕ) → s ≤ i → i < s + k → p (g i) ≡ false) → find p (map g (range_with_len s k)) ≡ None
  find_none p g s zero h = refl
  find_none p g s (suc k) h =
      ap (λ b. cond b (Some (g s)) (find p (map g (range_with_len (s + 1) k)))) (h s (omega arith) (omega arith))
      ∙ find_none p g (s + 1) k (λ i le lt. h i (omega arith) (omega arith))

range_parts : (s m n : ℕ) → range_with_len s (m + n) ≡ range_with_len s m ++ range_with_len (s + m) n
range_parts s zero n =
    let e : 0 + n ≡ n = omega arith in
    let e' : s ≡ s + 0 = omega arith in
    ap (range_with_len s) e ∙ ap (λ a. range_with_len a n) e'
range_parts s (suc m) n =
    let e : suc m + n ≡ suc (m + n) = omega arith in
    let e' : s + 1 + m ≡ s + suc m = omega arith in
    ap (range_with_len s) e ∙ ap (λ l. s ∷ l) (range_parts (s + 1) m n ∙ ap (λ a. range_with_len (s + 1) m ++ range_with_len a n) e')

-- ---- selections
same_positions : (xs ys : List Kept) → are_same_tuples xs ys ≡ true → (k : ℕ) (d : Kept) → (get_or xs k d).position ≡ (get_or ys k d).position
same_positions [] [] h k d = refl
same_positions [] (y ∷ ys) h k d = absurd (false≢true h)
same_positions (x ∷ xs) [] h k d = absurd (false≢true h)
same_positions (x ∷ xs) (y ∷ ys) h zero d = eqb-true x.position y.position (and_parts (eqb x.position y.position) (are_same_tuples xs ys) h).0
same_positions (x ∷ xs) (y ∷ ys) h (suc k) d = same_positions xs ys (and_parts (eqb x.position y.position) (are_same_tuples xs ys) h).1 k d

-- a tuple of a run
at_run : (xs : List Kept) (i n k : ℕ) (d : Kept) → k < n → get_or (take n (drop (i * n) xs)) k d ≡ get_or xs (i * n + k) d
at_run xs i n k d h = get_or-take n (drop (i * n) xs) k d h ∙ get_or-drop (i * n) xs k d

-- ---- how far the watermark has come behind the tuple
pub after_reached : (kept : List Kept) (time water : ℕ) → time ≤ water → upper_after kept time water ≡ upper kept water + 1
after_reached kept time water le = ap (λ b. upper kept water + cond b 1 0) (le-leb time water le)

pub after_beyond : (kept : List Kept) (time water : ℕ) → water < time → upper_after kept time water ≡ upper kept water
after_beyond kept time water lt =
    let e : upper kept water + 0 ≡ upper kept water = omega arith in
    ap (λ b. upper kept water + cond b 1 0) (lt-leb time water lt) ∙ e

module _ (count : ℕ) (kept : List Kept) (x : Kept) (within : IsKindWithin (Events count)) (h : TimesDoNotFall kept) where
  parts : PartsAt kept x.time (upper kept x.time)
  parts = parts_at_upper kept x.time h

  -- what lies before the tuple's rank stays
  front_stays : (m : ℕ) → m ≤ upper kept x.time → take m (put_in_order kept x) ≡ take m kept
  front_stays m le =
      ap (take m) (put_at_upper kept x h)
      ∙ take-append-le m (take (upper kept x.time) kept) (x ∷ drop (upper kept x.time) kept) (omega (arith, length-take-le (upper kept x.time) kept parts.within))
      ∙ take-take m (upper kept x.time) kept le

  run_stays : (i : ℕ) → (i + 1) * count ≤ upper kept x.time → ranks count (put_in_order kept x) i ≡ ranks count kept i
  run_stays i le =
      ap (λ run. record { low = i * count; high = (i + 1) * count; bound = last_time run; chosen = run })
      (sym (drop-take (i * count) count (put_in_order kept x))
      ∙ ap (drop (i * count)) (front_stays (i * count + count) (omega (arith, next_run i count)))
      ∙ drop-take (i * count) count kept)

  -- each run from the rank on selects others
  run_changes : (i : ℕ) → IsNextPosition kept x.position → upper kept x.time / count ≤ i → (i + 1) * count ≤ length kept → are_same_tuples (ranks count kept i).chosen (ranks count (put_in_order kept x) i).chosen ≡ false
  run_changes i n le room = false_from_ne_true (are_same_tuples (ranks count kept i).chosen (ranks count (put_in_order kept x) i).chosen) (λ e. differ e (cases_lt (upper kept x.time) (i * count)))
    where
      at : (k : ℕ) → k < count → are_same_tuples (ranks count kept i).chosen (ranks count (put_in_order kept x) i).chosen ≡ true → (get_or kept (i * count + k) x).position ≡ (get_or (insert kept (upper kept x.time) x) (i * count + k) x).position
      at k l e =
          sym (ap (λ (y : Kept). y.position) (at_run kept i count k x l))
          ∙ same_positions (ranks count kept i).chosen (ranks count (put_in_order kept x) i).chosen e k x
          ∙ ap (λ (y : Kept). y.position) (at_run (put_in_order kept x) i count k x l)
          ∙ ap (λ l. (get_or l (i * count + k) x).position) (put_at_upper kept x h)

      short : upper kept x.time < (i + 1) * count
      short = ⊎_elim (λ lt. lt) (λ ge. absurd (omega (arith, within_quotient i count (upper kept x.time) within.0 ge))) (cases_lt (upper kept x.time) ((i + 1) * count))

      here : (k : ℕ) → k ≡ upper kept x.time → k < length kept → (get_or kept k x).position ≡ (get_or (insert kept (upper kept x.time) x) k x).position → ⊥
      here k e l same = by (side_of kept (upper kept x.time) x x k parts.within)
        where
          by : Side kept (upper kept x.time) x x k → ⊥
          by (Front a f) = omega arith
          by (Here a f) = let older : (get_or kept k x).position < x.position = n.newest k x l in let it : (get_or (insert kept (upper kept x.time) x) k x).position ≡ x.position = ap (λ (y : Kept). y.position) f in omega arith
          by (Back j a b f) = omega arith

      behind : (k : ℕ) → upper kept x.time < k → k < length kept → (get_or kept k x).position ≡ (get_or (insert kept (upper kept x.time) x) k x).position → ⊥
      behind k lt l same = by (side_of kept (upper kept x.time) x x k parts.within)
        where
          by : Side kept (upper kept x.time) x x k → ⊥
          by (Front a f) = omega arith
          by (Here a f) = omega arith
          by (Back j a b f) =
              let it : (get_or (insert kept (upper kept x.time) x) k x).position ≡ (get_or kept j x).position = ap (λ (y : Kept). y.position) f in
              n.own j k x (omega arith) l (sym it ∙ sym same)

      differ : are_same_tuples (ranks count kept i).chosen (ranks count (put_in_order kept x) i).chosen ≡ true → (upper kept x.time < i * count) ⊎ (i * count ≤ upper kept x.time) → ⊥
      differ e c =
          ⊎_elim
          (λ lt. behind (i * count + 0) (omega arith) (omega (arith, next_run i count, within.0)) (at 0 (omega (arith, within.0)) e))
          (λ ge. here (i * count + (upper kept x.time - i * count)) (omega arith) (omega (arith, short)) (at (upper kept x.time - i * count) (omega (arith, short, next_run i count)) e))
          c

  -- ---- what stands before and behind the tuple
  module _ (window : ℕ) (key : List ℕ) (func : Func) (marks : List ℕ) (water : ℕ) where
    stood : standing_of (Events count) kept marks water ≡ map (ranks count kept) (range_with_len 0 (upper kept water / count))
    stood = standing_events count kept marks water within.0 h

    stands : standing_of (Events count) (put_in_order kept x) marks water ≡ map (ranks count (put_in_order kept x)) (range_with_len 0 (upper_after kept x.time water / count))
    stands =
        standing_events count (put_in_order kept x) marks water within.0 (times_of_put kept x h)
        ∙ ap (λ u. map (ranks count (put_in_order kept x)) (range_with_len 0 (u / count))) (upper_put kept x water)

    member : (i : ℕ) → i < upper kept water / count → Contains (standing_of (Events count) kept marks water) (ranks count kept i)
    member i l = subst (λ is. Contains is (ranks count kept i)) (sym stood) (map_has (ranks count kept) (range_with_len 0 (upper kept water / count)) i (range_has 0 (upper kept water / count) i (omega arith) (omega arith)))

    rises : RiseByStart (standing_of (Events count) kept marks water)
    rises = standing_rises (Events count) kept marks water within h

    -- an instance before the rank isn't told
    still : (i : ℕ) → (i + 1) * count ≤ upper kept x.time → i < upper kept water / count → emission window key func (standing_of (Events count) kept marks water) (ranks count (put_in_order kept x) i) ≡ None
    still i le l =
        ap (emission window key func (standing_of (Events count) kept marks water)) (run_stays i le)
        ∙ not_emitted window key func (standing_of (Events count) kept marks water) (ranks count kept i) rises (member i l)

    -- one that stood, from the rank on, is told again
    again : (i : ℕ) → IsNextPosition kept x.position → upper kept x.time / count ≤ i → i < upper kept water / count
        → emission window key func (standing_of (Events count) kept marks water) (ranks count (put_in_order kept x) i) ≡ Some (Again (row_of window key func (ranks count (put_in_order kept x) i)) (former_of func (ranks count kept i)))
    again i n le l =
        let room : (i + 1) * count ≤ length kept = omega (arith, filled i count (upper kept water) l, (parts_at_upper kept water h).within) in
        ap (emitted window key func (ranks count (put_in_order kept x) i)) (find_same (standing_of (Events count) kept marks water) (ranks count kept i) rises (member i l))
        ∙ ap (λ b. cond b None (Some (Again (row_of window key func (ranks count (put_in_order kept x) i)) (former_of func (ranks count kept i))))) (run_changes i n le room)

    -- one that didn't stand is told as new
    newly : (i : ℕ) → upper kept water / count ≤ i → emission window key func (standing_of (Events count) kept marks water) (ranks count (put_in_order kept x) i) ≡ Some (New (row_of window key func (ranks count (put_in_order kept x) i)))
    newly i le =
        ap (emitted window key func (ranks count (put_in_order kept x) i))
        (ap (find (is_same (ranks count (put_in_order kept x) i))) stood
        ∙ find_none (is_same (ranks count (put_in_order kept x) i)) (ranks count kept) 0 (upper kept water / count) (λ j low high. other j (omega arith)))
      where
        apart : (j : ℕ) → j < i → i * count ≢ j * count
        apart j l e = let lt : (j + 1) * count ≤ i * count = mono (j + 1) i count (omega arith) in omega (arith, next_run j count, within.0)
          where
            mono : (a b c : ℕ) → a ≤ b → a * c ≤ b * c
            mono a b c h = grind arith

        other : (j : ℕ) → j < i → is_same (ranks count (put_in_order kept x) i) (ranks count kept j) ≡ false
        other j l = and_left (eqb (i * count) (j * count)) (eqb ((i + 1) * count) ((j + 1) * count)) (ne_eqb (i * count) (j * count) (apart j l))

    all_told : filter_map (emission window key func (standing_of (Events count) kept marks water)) (standing_of (Events count) (put_in_order kept x) marks water) ≡ filter_map (λ i. emission window key func (standing_of (Events count) kept marks water) (ranks count (put_in_order kept x) i)) (range_with_len 0 (upper_after kept x.time water / count))
    all_told =
        ap (filter_map (emission window key func (standing_of (Events count) kept marks water))) stands
        ∙ filter_map-map (emission window key func (standing_of (Events count) kept marks water)) (ranks count (put_in_order kept x)) (range_with_len 0 (upper_after kept x.time water / count))

    -- a tuple at or before the watermark
    told_reached : (b : ℕ) → IsNextPosition kept x.position → upper kept x.time / count ≤ upper kept water / count → upper kept water / count ≤ b
        → filter_map (λ i. emission window key func (standing_of (Events count) kept marks water) (ranks count (put_in_order kept x) i)) (range_with_len 0 b)
        ≡ map (again_of window key func count kept (put_in_order kept x)) (range_with_len (upper kept x.time / count) (upper kept water / count - upper kept x.time / count)) ++ map (new_of window key func count (put_in_order kept x)) (range_with_len (upper kept water / count) (b - upper kept water / count))
    told_reached b n low high =
        let whole : b ≡ upper kept x.time / count + (upper kept water / count - upper kept x.time / count + (b - upper kept water / count)) = omega arith in
        let behind : 0 + upper kept x.time / count ≡ upper kept x.time / count = omega arith in
        let over : upper kept x.time / count + (upper kept water / count - upper kept x.time / count) ≡ upper kept water / count = omega arith in
        ap (λ m. filter_map (λ i. f i) (range_with_len 0 m)) whole
        ∙ ap (filter_map (λ i. f i)) (range_parts 0 (upper kept x.time / count) (upper kept water / count - upper kept x.time / count + (b - upper kept water / count)))
        ∙ filter_map-append (λ i. f i) (range_with_len 0 (upper kept x.time / count)) (range_with_len (0 + upper kept x.time / count) (upper kept water / count - upper kept x.time / count + (b - upper kept water / count)))
        ∙ ap (λ l. l ++ filter_map (λ i. f i) (range_with_len (0 + upper kept x.time / count) (upper kept water / count - upper kept x.time / count + (b - upper kept water / count)))) (quiet (λ i. f i) 0 (upper kept x.time / count) (λ i le lt. still i (filled i count (upper kept x.time) (omega arith)) (omega arith)))
        ∙ ap (λ s. filter_map (λ i. f i) (range_with_len s (upper kept water / count - upper kept x.time / count + (b - upper kept water / count)))) behind
        ∙ ap (filter_map (λ i. f i)) (range_parts (upper kept x.time / count) (upper kept water / count - upper kept x.time / count) (b - upper kept water / count))
        ∙ filter_map-append (λ i. f i) (range_with_len (upper kept x.time / count) (upper kept water / count - upper kept x.time / count)) (range_with_len (upper kept x.time / count + (upper kept water / count - upper kept x.time / count)) (b - upper kept water / count))
        ∙ ap (λ s. filter_map (λ i. f i) (range_with_len (upper kept x.time / count) (upper kept water / count - upper kept x.time / count)) ++ filter_map (λ i. f i) (range_with_len s (b - upper kept water / count))) over
        ∙ (λ j. told (λ i. f i) (again_of window key func count kept (put_in_order kept x)) (upper kept x.time / count) (upper kept water / count - upper kept x.time / count) (λ i le lt. again i n le (omega arith)) j
        ++ told (λ i. f i) (new_of window key func count (put_in_order kept x)) (upper kept water / count) (b - upper kept water / count) (λ i le lt. newly i le) j)
      where
        f : ℕ → Option Change
        f i = emission window key func (standing_of (Events count) kept marks water) (ranks count (put_in_order kept x) i)

    -- a tuple behind the watermark changes nothing
    told_beyond : (b : ℕ) → b ≡ upper kept water / count → upper kept water / count ≤ upper kept x.time / count
        → filter_map (λ i. emission window key func (standing_of (Events count) kept marks water) (ranks count (put_in_order kept x) i)) (range_with_len 0 b)
        ≡ map (again_of window key func count kept (put_in_order kept x)) (range_with_len (upper kept x.time / count) (upper kept water / count - upper kept x.time / count)) ++ map (new_of window key func count (put_in_order kept x)) (range_with_len (upper kept water / count) (b - upper kept water / count))
    told_beyond b e le =
        let none : upper kept water / count - upper kept x.time / count ≡ 0 = omega arith in
        let none' : b - upper kept water / count ≡ 0 = omega arith in
        quiet (λ i. emission window key func (standing_of (Events count) kept marks water) (ranks count (put_in_order kept x) i)) 0 b (λ i low high. still i (filled i count (upper kept x.time) (omega arith)) (omega arith))
        ∙ (λ j. map (again_of window key func count kept (put_in_order kept x)) (range_with_len (upper kept x.time / count) (sym none j)) ++ map (new_of window key func count (put_in_order kept x)) (range_with_len (upper kept water / count) (sym none' j)))

    -- the instances that stood from the rank on are told again, and those that come to stand as new
    pub put_told : IsNextPosition kept x.position
        → filter_map (emission window key func (standing_of (Events count) kept marks water)) (standing_of (Events count) (put_in_order kept x) marks water)
        ≡ map (again_of window key func count kept (put_in_order kept x)) (range_with_len (upper kept x.time / count) (upper kept water / count - upper kept x.time / count)) ++ map (new_of window key func count (put_in_order kept x)) (range_with_len (upper kept water / count) (upper_after kept x.time water / count - upper kept water / count))
    put_told n =
        all_told
        ∙ ⊎_elim
        (λ lt. told_beyond (upper_after kept x.time water / count) (ap (λ u. u / count) (after_beyond kept x.time water lt)) (quotients_rise count (upper kept water) (upper kept x.time) within.0 (upper_rises kept water x.time h (omega arith))))
        (λ le. told_reached (upper_after kept x.time water / count) n (quotients_rise count (upper kept x.time) (upper kept water) within.0 (upper_rises kept x.time water h le)) (quotients_rise count (upper kept water) (upper_after kept x.time water) within.0 (omega (arith, after_reached kept x.time water le))))
        (cases_lt water x.time)

    -- none is taken back
    pub none_gone : filter_map (retraction window key func (standing_of (Events count) (put_in_order kept x) marks water)) (standing_of (Events count) kept marks water) ≡ []
    none_gone =
        ap (filter_map (retraction window key func (standing_of (Events count) (put_in_order kept x) marks water))) stood
        ∙ filter_map-map (retraction window key func (standing_of (Events count) (put_in_order kept x) marks water)) (ranks count kept) (range_with_len 0 (upper kept water / count))
        ∙ quiet (λ i. retraction window key func (standing_of (Events count) (put_in_order kept x) marks water) (ranks count kept i)) 0 (upper kept water / count) (λ i low high. stays i (omega arith))
      where
        more : upper kept water / count ≤ upper_after kept x.time water / count
        more = quotients_rise count (upper kept water) (upper_after kept x.time water) within.0 (omega arith)

        there : (i : ℕ) → i < upper kept water / count → Contains (standing_of (Events count) (put_in_order kept x) marks water) (ranks count (put_in_order kept x) i)
        there i l = subst (λ is. Contains is (ranks count (put_in_order kept x) i)) (sym stands) (map_has (ranks count (put_in_order kept x)) (range_with_len 0 (upper_after kept x.time water / count)) i (range_has 0 (upper_after kept x.time water / count) i (omega arith) (omega (arith, more))))

        stays : (i : ℕ) → i < upper kept water / count → retraction window key func (standing_of (Events count) (put_in_order kept x) marks water) (ranks count kept i) ≡ None
        stays i l = ap (λ b. cond b None (Some (Gone (row_of window key func (ranks count kept i))))) (any_from_member (is_same (ranks count kept i)) (standing_of (Events count) (put_in_order kept x) marks water) (ranks count (put_in_order kept x) i) (there i l) (is_same_itself (ranks count kept i)))

-- a put brings at most one instance more
pub one_more : (count : ℕ) (kept : List Kept) (time water : ℕ) → 1 ≤ count → upper_after kept time water / count ≤ upper kept water / count + 1
one_more count kept time water pos =
    ⊎_elim
    (λ lt. let full : (upper kept water / count + 1 + 1) * count ≤ upper_after kept time water = filled (upper kept water / count + 1) count (upper_after kept time water) lt in
    let step : upper_after kept time water ≤ upper kept water + 1 = by (nat_le time water) in
    let room : (upper kept water / count + 1) * count ≤ upper kept water = omega (arith, next_run (upper kept water / count + 1) count) in
    absurd (omega (arith, within_quotient (upper kept water / count) count (upper kept water) pos room)))
    (λ ge. ge)
    (cases_lt (upper kept water / count + 1) (upper_after kept time water / count))
  where
    by : (b : Bool) → upper kept water + cond b 1 0 ≤ upper kept water + 1
    by true = omega arith
    by false = omega arith

-- a tuple behind the watermark changes no instance
pub none_changed : (count : ℕ) (kept : List Kept) (time water : ℕ) → 1 ≤ count → TimesDoNotFall kept → water < time → 0 ≡ put_changes count kept time water
none_changed count kept time water pos h lt =
    let same : upper_after kept time water / count ≡ upper kept water / count = ap (λ u. u / count) (after_beyond kept time water lt) in
    let fewer : upper kept water / count ≤ upper kept time / count = quotients_rise count (upper kept water) (upper kept time) pos (upper_rises kept water time h (omega arith)) in
    omega (arith, same, fewer)

-- the instances that are told again and those that are new are all that are changed
pub put_numbers : (count : ℕ) (kept : List Kept) (time water : ℕ) → 1 ≤ count → TimesDoNotFall kept
    → (upper kept water / count - upper kept time / count) + (upper_after kept time water / count - upper kept water / count) ≡ put_changes count kept time water
put_numbers count kept time water pos h =
    ⊎_elim
    (λ lt. let fewer : upper kept water / count ≤ upper kept time / count = quotients_rise count (upper kept water) (upper kept time) pos (upper_rises kept water time h (omega arith)) in
    let same : upper_after kept time water / count ≡ upper kept water / count = ap (λ u. u / count) (after_beyond kept time water lt) in
    omega arith)
    (λ le. let more : upper kept time / count ≤ upper kept water / count = quotients_rise count (upper kept time) (upper kept water) pos (upper_rises kept time water h le) in
    let grows : upper kept water / count ≤ upper_after kept time water / count = quotients_rise count (upper kept water) (upper_after kept time water) pos (omega (arith, after_reached kept time water le)) in
    omega arith)
    (cases_lt water time)

-- an events window is one of its count and function
kind_is_events : (kind : Kind) → IsEvents kind → kind ≡ Events (count_of kind)
kind_is_events (Events count) h = refl
kind_is_events kind h = absurd h

pub count_is_within : (kind : Kind) → IsEvents kind → IsKindWithin (Events (count_of kind))
count_is_within (Events count) h = h
count_is_within kind h = absurd h

-- ---- the changes of one window
module _ (window : ℕ) (def : Def) (key : List ℕ) (kept : List Kept) (marks : List ℕ) (e : IsEvents def.kind) (h : TimesDoNotFall kept) where
  pub put_changes_are : (x : Kept) (water : ℕ) → IsNextPosition kept x.position
      → emissions key (moment kept marks water) (moment (put_in_order kept x) marks water) (window, def)
      ≡ map (again_of window key def.func (count_of def.kind) kept (put_in_order kept x)) (range_with_len (upper kept x.time / count_of def.kind) (upper kept water / count_of def.kind - upper kept x.time / count_of def.kind))
      ++ map (new_of window key def.func (count_of def.kind) (put_in_order kept x)) (range_with_len (upper kept water / count_of def.kind) (upper_after kept x.time water / count_of def.kind - upper kept water / count_of def.kind))
  put_changes_are x water n =
      ap (λ k. filter_map (emission window key def.func (standing_of k kept marks water)) (standing_of k (put_in_order kept x) marks water)) (kind_is_events def.kind e)
      ∙ put_told (count_of def.kind) kept x (count_is_within def.kind e) h window key def.func marks water n

  pub put_retracts_none : (x : Kept) (water : ℕ) → retractions key (moment kept marks water) (moment (put_in_order kept x) marks water) (window, def) ≡ []
  put_retracts_none x water =
      ap (λ k. filter_map (retraction window key def.func (standing_of k (put_in_order kept x) marks water)) (standing_of k kept marks water)) (kind_is_events def.kind e)
      ∙ none_gone (count_of def.kind) kept x (count_is_within def.kind e) h window key def.func marks water

  pub move_changes_are : (old new : ℕ) → completions key (moment kept marks old) new (window, def)
      ≡ map (new_of window key def.func (count_of def.kind) kept) (range_with_len (upper kept old / count_of def.kind) (upper kept new / count_of def.kind - upper kept old / count_of def.kind))
  move_changes_are old new =
      ap (λ k. map (λ i. New (row_of window key def.func i)) (filter (becomes_complete old new) (instances_of k kept marks))) (kind_is_events def.kind e)
      ∙ ap (map (λ i. New (row_of window key def.func i))) (completed_events (count_of def.kind) kept marks old new (count_is_within def.kind e).0 h)
      ∙ map_twice (range_with_len (upper kept old / count_of def.kind) (upper kept new / count_of def.kind - upper kept old / count_of def.kind))
    where
      map_twice : (ns : List ℕ) → map (λ i. New (row_of window key def.func i)) (map (ranks (count_of def.kind) kept) ns) ≡ map (new_of window key def.func (count_of def.kind) kept) ns
      map_twice [] = refl
      map_twice (n ∷ ns) = ap (λ l. new_of window key def.func (count_of def.kind) kept n ∷ l) (map_twice ns)

  pub length_of_move : (old new : ℕ) → length (completions key (moment kept marks old) new (window, def)) ≡ move_changes (count_of def.kind) kept old new
  length_of_move old new =
      ap length (move_changes_are old new)
      ∙ length-map-range_with_len (new_of window key def.func (count_of def.kind) kept) (upper kept old / count_of def.kind) (upper kept new / count_of def.kind - upper kept old / count_of def.kind)

  pub length_of_put : (x : Kept) (water : ℕ) → IsNextPosition kept x.position → length (emissions key (moment kept marks water) (moment (put_in_order kept x) marks water) (window, def)) ≡ put_changes (count_of def.kind) kept x.time water
  length_of_put x water n =
      ap length (put_changes_are x water n)
      ∙ length-append (map (again_of window key def.func (count_of def.kind) kept (put_in_order kept x)) (range_with_len (upper kept x.time / count_of def.kind) (upper kept water / count_of def.kind - upper kept x.time / count_of def.kind))) (map (new_of window key def.func (count_of def.kind) (put_in_order kept x)) (range_with_len (upper kept water / count_of def.kind) (upper_after kept x.time water / count_of def.kind - upper kept water / count_of def.kind)))
      ∙ (λ j. length-map-range_with_len (again_of window key def.func (count_of def.kind) kept (put_in_order kept x)) (upper kept x.time / count_of def.kind) (upper kept water / count_of def.kind - upper kept x.time / count_of def.kind) j
      + length-map-range_with_len (new_of window key def.func (count_of def.kind) (put_in_order kept x)) (upper kept water / count_of def.kind) (upper_after kept x.time water / count_of def.kind - upper kept water / count_of def.kind) j)
      ∙ put_numbers (count_of def.kind) kept x.time water (count_is_within def.kind e).0 h
