-- How many tuples have a time at or before another: where that parts a list whose times don't fall.
use Rattle.std.proofs.Common.{◌≡◌, ◌≢◌, ◌∙◌, ℕ, zero, suc, ◌+◌, ◌-◌, ◌*◌, ◌/◌, ◌<◌, ◌≤◌, Bool, true, false, cond, List, [], ◌∷◌, ◌++◌, length, take, drop, get_or, ap, sym, subst, refl, arith, ⊎_elim}
use Rattle.std.specs.Prelude.{◌⊎◌, pos, nat_le, nat_lt, insert}
use Rattle.std.specs.List.{All, position_or_len, remove}
use Rattle.std.specs.List.Sorted.{IsPartitionPoint}
use Rattle.std.proofs.lemmas.Bool.{leb-true, leb-false, lt-ltb, le-ltb, cases_lt, cases_eq}
use Rattle.std.proofs.lemmas.List.{get_or-drop, get_or-take, get_or_default, length-drop, length-take, length-take-le, take_at, drop_at, drop-drop, take-append-drop}
use Rattle.std.proofs.lemmas.List.Edits.{length-insert, get_or-insert_below, get_or-insert_at, get_or-insert_above}
use Rattle.std.proofs.lemmas.List.Sums.{sum_by-cons, sum_by-insert, position_or_len_is}
use Rattle.stream_base.specs.declared.kept.Kept.{Kept}
use Rattle.stream_base.specs.Laws.{TimesDoNotFall}
use Rattle.stream_base.specs.Model.Journal.{put_in_order}
use Rattle.stream_base.specs.Model.Moments.{kept_at}
use Rattle.count_shift.specs.Counting.{upper, HaveOwnPositions, IsNextPosition}

-- the first so many times lie at or before this one, and the others behind it
pub record PartsAt (kept : List Kept) (time n : ℕ) : Type 0 where
  pub within : n ≤ length kept
  pub before : (k : ℕ) (d : Kept) → k < n → (get_or kept k d).time ≤ time
  pub behind : (k : ℕ) (d : Kept) → n ≤ k → k < length kept → time < (get_or kept k d).time

times_of_tail : (x : Kept) (xs : List Kept) → TimesDoNotFall (x ∷ xs) → TimesDoNotFall xs
times_of_tail x xs h i j d le l = h (suc i) (suc j) d (omega arith) (omega arith)

-- the test of a tuple's time decides one step
parts_cons : (x : Kept) (xs : List Kept) (time n : ℕ) (b : Bool) → nat_le x.time time ≡ b → TimesDoNotFall (x ∷ xs) → PartsAt xs time n → PartsAt (x ∷ xs) time (cond b 1 0 + n)
parts_cons x xs time n true e h p = record {
  within = omega (arith, p.within);
  before = front;
  behind = back;
}
  where
    front : (k : ℕ) (d : Kept) → k < 1 + n → (get_or (x ∷ xs) k d).time ≤ time
    front zero d l = leb-true x.time time e
    front (suc k) d l = p.before k d (omega arith)

    back : (k : ℕ) (d : Kept) → 1 + n ≤ k → k < length (x ∷ xs) → time < (get_or (x ∷ xs) k d).time
    back zero d le l = absurd (omega arith)
    back (suc k) d le l = p.behind k d (omega arith) (omega arith)
parts_cons x xs time n false e h p = record {
  within = omega (arith, p.within);
  before = front;
  behind = back;
}
  where
    late : time < x.time
    late = leb-false x.time time e

    front : (k : ℕ) (d : Kept) → k < 0 + n → (get_or (x ∷ xs) k d).time ≤ time
    front k d l =
        let first : (get_or xs 0 d).time ≤ time = p.before 0 d (omega arith) in
        let later : x.time ≤ (get_or xs 0 d).time = h 0 1 d (omega arith) (omega (arith, p.within)) in
        absurd (omega (arith, late))

    back : (k : ℕ) (d : Kept) → 0 + n ≤ k → k < length (x ∷ xs) → time < (get_or (x ∷ xs) k d).time
    back k d le l =
        let later : x.time ≤ (get_or (x ∷ xs) k d).time = h 0 k d (omega arith) l in
        omega (arith, late)

pub parts_at_upper : (kept : List Kept) (time : ℕ) → TimesDoNotFall kept → PartsAt kept time (upper kept time)
parts_at_upper [] time h = record { within = omega arith; before = λ k d l. absurd (omega arith); behind = λ k d le l. absurd (omega arith) }
parts_at_upper (x ∷ xs) time h =
    rw (sum_by-cons (λ y. cond (nat_le y.time time) 1 0) x xs) (parts_cons x xs time (upper xs time) (nat_le x.time time) refl h (parts_at_upper xs time (times_of_tail x xs h)))

-- there is one such place
pub parts_once : (kept : List Kept) (time m n : ℕ) → PartsAt kept time m → PartsAt kept time n → m ≡ n
parts_once kept time m n p q =
    let none : Kept = kept_at 0 0 (pos 0) in
    ⊎_elim
    (λ lt. let here : (get_or kept m none).time ≤ time = q.before m none lt in let there : time < (get_or kept m none).time = p.behind m none (omega arith) (omega (arith, q.within)) in absurd (omega arith))
    (λ ge. ⊎_elim
    (λ lt. let here : (get_or kept n none).time ≤ time = p.before n none lt in let there : time < (get_or kept n none).time = q.behind n none (omega arith) (omega (arith, p.within)) in absurd (omega arith))
    (λ ge'. omega arith)
    (cases_lt n m))
    (cases_lt m n)

-- a search by halves finds it
pub found_upper : (kept : List Kept) (time n : ℕ) → TimesDoNotFall kept → n ≤ length kept → IsPartitionPoint (λ x. nat_le x.time time ≡ true) (λ x. nat_le x.time time ≡ false) kept n → n ≡ upper kept time
found_upper kept time n h le point =
    parts_once kept time n (upper kept time)
    (record { within = le; before = λ k d l. leb-true (get_or kept k d).time time (point.0 k d (omega arith) l); behind = λ k d le' l. leb-false (get_or kept k d).time time (point.1 k d le' l) })
    (parts_at_upper kept time h)

-- where the last tuple has a time at or before another all have
pub all_by : (kept : List Kept) (time : ℕ) → TimesDoNotFall kept → ((d : Kept) → 0 < length kept → (get_or kept (length kept - 1) d).time ≤ time) → length kept ≡ upper kept time
all_by kept time h last =
    parts_once kept time (length kept) (upper kept time)
    (record { within = omega arith; before = λ k d l. let a : (get_or kept k d).time ≤ (get_or kept (length kept - 1) d).time = h k (length kept - 1) d (omega arith) (omega arith) in let b = last d (omega arith) in omega (arith, a, b); behind = λ k d le l. absurd (omega arith) })
    (parts_at_upper kept time h)

-- where the middle one comes behind a time no more than half have come by it
pub half_at_most : (kept : List Kept) (time : ℕ) (x : Kept) → TimesDoNotFall kept → x ≡ get_or kept (length kept / 2) x → nat_le x.time time ≡ false → 2 * upper kept time ≤ length kept
half_at_most kept time x h is late =
    ⊎_elim
    (λ lt. let there : (get_or kept (length kept / 2) x).time ≤ time = (parts_at_upper kept time h).before (length kept / 2) x lt in absurd (omega (arith, leb-false x.time time late, ap (λ (y : Kept). y.time) is)))
    (λ le. omega arith)
    (cases_lt (length kept / 2) (upper kept time))

-- times don't fall in a part of the list
pub times_behind : (kept : List Kept) (far : ℕ) → TimesDoNotFall kept → TimesDoNotFall (drop far kept)
times_behind kept far h i j d le l =
    let short : far + j < length kept = omega (arith, length-drop far kept, l) in
    rw (get_or-drop far kept i d, get_or-drop far kept j d) (h (far + i) (far + j) d (omega arith) short)

pub times_before : (kept : List Kept) (far : ℕ) → TimesDoNotFall kept → TimesDoNotFall (take far kept)
times_before kept far h i j d le l =
    let short : (j < far) × (j < length kept) = short_take in
    rw (get_or-take far kept i d (omega (arith, short.0)), get_or-take far kept j d short.0) (h i j d le short.1)
  where
    short_take : (j < far) × (j < length kept)
    short_take = let e = length-take far kept in (omega (arith, e, l), omega (arith, e, l))

-- where the last tuples begin at or before a time, it parts them, and all tuples so many places further on
pub upper_near : (kept : List Kept) (time far : ℕ) (d : Kept) → TimesDoNotFall kept → far < length kept → (get_or kept far d).time ≤ time → far + upper (drop far kept) time ≡ upper kept time
upper_near kept time far d h le early =
    parts_once kept time (far + n) (upper kept time) (record { within = omega (arith, p.within, length-drop far kept); before = front; behind = back }) (parts_at_upper kept time h)
  where
    n : ℕ
    n = upper (drop far kept) time

    p : PartsAt (drop far kept) time (upper (drop far kept) time)
    p = parts_at_upper (drop far kept) time (times_behind kept far h)

    front : (k : ℕ) (d : Kept) → k < far + n → (get_or kept k d).time ≤ time
    front k e l = ⊎_elim (λ lt. early_one lt) (λ ge. near_one ge) (cases_lt k far)
      where
        early_one : k < far → (get_or kept k e).time ≤ time
        early_one lt =
            let a : (get_or kept k e).time ≤ (get_or kept far e).time = h k far e (omega arith) le in
            let same : get_or kept far e ≡ get_or kept far d = get_or_default kept far e d le in
            let b : (get_or kept far e).time ≤ time = rw same early in
            omega (arith, a, b)

        near_one : far ≤ k → (get_or kept k e).time ≤ time
        near_one ge =
            let there : (get_or (drop far kept) (k - far) e).time ≤ time = p.before (k - far) e (omega arith) in
            let at : far + (k - far) ≡ k = omega arith in
            rw (← ap (λ m. get_or kept m e) at) (rw (← get_or-drop far kept (k - far) e) there)

    back : (k : ℕ) (d : Kept) → far + n ≤ k → k < length kept → time < (get_or kept k d).time
    back k e ge l =
        let there : time < (get_or (drop far kept) (k - far) e).time = p.behind (k - far) e (omega arith) (omega (arith, length-drop far kept)) in
        let at : far + (k - far) ≡ k = omega arith in
        rw (← ap (λ m. get_or kept m e) at) (rw (← get_or-drop far kept (k - far) e) there)

-- and where they begin behind it, it parts those before them
pub upper_far : (kept : List Kept) (time far : ℕ) (d : Kept) → TimesDoNotFall kept → far ≤ length kept → (far < length kept → time < (get_or kept far d).time) → upper (take far kept) time ≡ upper kept time
upper_far kept time far d h le late =
    parts_once kept time n (upper kept time) (record { within = omega (arith, p.within, length-take-le far kept le); before = front; behind = back }) (parts_at_upper kept time h)
  where
    n : ℕ
    n = upper (take far kept) time

    len : length (take far kept) ≡ far
    len = length-take-le far kept le

    p : PartsAt (take far kept) time (upper (take far kept) time)
    p = parts_at_upper (take far kept) time (times_before kept far h)

    front : (k : ℕ) (d : Kept) → k < n → (get_or kept k d).time ≤ time
    front k e l = rw (← get_or-take far kept k e (omega (arith, p.within, len))) (p.before k e l)

    back : (k : ℕ) (d : Kept) → n ≤ k → k < length kept → time < (get_or kept k d).time
    back k e ge l = ⊎_elim (λ lt. far_one lt) (λ ge. near_one ge) (cases_lt k far)
      where
        far_one : k < far → time < (get_or kept k e).time
        far_one lt = rw (← get_or-take far kept k e lt) (p.behind k e ge (omega (arith, len)))

        near_one : far ≤ k → time < (get_or kept k e).time
        near_one past =
            let there : far < length kept = omega arith in
            let same : get_or kept far e ≡ get_or kept far d = get_or_default kept far e d there in
            let a : time < (get_or kept far e).time = rw same (late there) in
            let b : (get_or kept far e).time ≤ (get_or kept k e).time = h far k e past l in
            omega (arith, a, b)

-- the same of a list that is split in two
pub upper_of_near : (kept near : List Kept) (time far n : ℕ) → TimesDoNotFall kept → near ≡ drop far kept → (0 < length near) × ((d : Kept) → (get_or near 0 d).time ≤ time) → n ≡ upper near time
    → far + n ≡ upper kept time
upper_of_near kept near time far n h is first value =
    let none : Kept = kept_at 0 0 (pos 0) in
    let some : 0 < length (drop far kept) = subst (λ l. 0 < length l) is first.0 in
    let head : (get_or (drop far kept) 0 none).time ≤ time = subst (λ l. (get_or l 0 none).time ≤ time) is (first.1 none) in
    let early : (get_or kept (far + 0) none).time ≤ time = subst (λ x. x.time ≤ time) (get_or-drop far kept 0 none) head in
    let early' : (get_or kept far none).time ≤ time = subst (λ k. (get_or kept k none).time ≤ time) (omega arith) early in
    ap (λ m. far + m) (value ∙ ap (λ l. upper l time) is) ∙ upper_near kept time far none h (omega (arith, some, length-drop far kept)) early'

pub upper_of_far : (kept front near : List Kept) (time far n : ℕ) → TimesDoNotFall kept → far ≤ length kept → front ≡ take far kept → near ≡ drop far kept
    → (0 < length near → (d : Kept) → time < (get_or near 0 d).time) → n ≡ upper front time → n ≡ upper kept time
upper_of_far kept front near time far n h le is behind first value =
    let none : Kept = kept_at 0 0 (pos 0) in
    value ∙ ap (λ l. upper l time) is ∙ upper_far kept time far none h le (λ lt. late none lt)
  where
    late : (d : Kept) → far < length kept → time < (get_or kept far d).time
    late d lt =
        let some : 0 < length (drop far kept) = omega (arith, length-drop far kept) in
        let some' : 0 < length near = subst (λ l. 0 < length l) (sym behind) some in
        let head : time < (get_or (drop far kept) 0 d).time = subst (λ l. time < (get_or l 0 d).time) behind (first some' d) in
        let there : time < (get_or kept (far + 0) d).time = subst (λ x. time < x.time) (get_or-drop far kept 0 d) head in
        subst (λ k. time < (get_or kept k d).time) (omega arith) there

-- a tuple is put there, behind those of its time
pub rank_is_upper : (kept : List Kept) (x : Kept) → TimesDoNotFall kept → position_or_len (λ y. nat_lt x.time y.time) kept ≡ upper kept x.time
rank_is_upper kept x h =
    let p : PartsAt kept x.time (upper kept x.time) = parts_at_upper kept x.time h in
    let none : Kept = kept_at 0 0 (pos 0) in
    position_or_len_is (λ y. nat_lt x.time y.time) kept (upper kept x.time) none p.within
    (λ k l. le-ltb x.time (get_or kept k none).time (p.before k none l))
    (λ l. lt-ltb x.time (get_or kept (upper kept x.time) none).time (p.behind (upper kept x.time) none (omega arith) l))

pub put_at_upper : (kept : List Kept) (x : Kept) → TimesDoNotFall kept → put_in_order kept x ≡ insert kept (upper kept x.time) x
put_at_upper kept x h = ap (λ r. insert kept r x) (rank_is_upper kept x h)

-- one tuple more is counted where its time is at or before
pub upper_put : (kept : List Kept) (x : Kept) (time : ℕ) → upper (put_in_order kept x) time ≡ upper kept time + cond (nat_le x.time time) 1 0
upper_put kept x time = sum_by-insert (λ y. cond (nat_le y.time time) 1 0) kept (position_or_len (λ y. nat_lt x.time y.time) kept) x

pub length_put : (kept : List Kept) (x : Kept) → TimesDoNotFall kept → length (put_in_order kept x) ≡ length kept + 1
length_put kept x h = ap length (put_at_upper kept x h) ∙ length-insert kept (upper kept x.time) x (parts_at_upper kept x.time h).within

-- an element of a list with one more, at each side of it
pub data Side {X : Type 0} (kept : List X) (r : ℕ) (x d : X) (k : ℕ) : Type 0 where
  Front : k < r → get_or (insert kept r x) k d ≡ get_or kept k d → Side kept r x d k
  Here : k ≡ r → get_or (insert kept r x) k d ≡ x → Side kept r x d k
  Back : (j : ℕ) → k ≡ j + 1 → r ≤ j → get_or (insert kept r x) k d ≡ get_or kept j d → Side kept r x d k

pub side_of : {X : Type 0} (kept : List X) (r : ℕ) (x d : X) (k : ℕ) → r ≤ length kept → Side kept r x d k
side_of kept r x d k le =
    ⊎_elim
    (λ lt. Front lt (get_or-insert_below kept r x d k lt le))
    (λ ge. ⊎_elim
    (λ e. Here e (ap (λ n. get_or (insert kept r x) n d) e ∙ get_or-insert_at kept r x d le))
    (λ ne. let back : k ≡ (k - 1) + 1 = omega arith in Back (k - 1) back (omega arith) (ap (λ n. get_or (insert kept r x) n d) back ∙ get_or-insert_above kept r x d (k - 1) (omega arith) le))
    (cases_eq k r))
    (cases_lt k r)

-- the times of a list with one tuple more don't fall
pub times_of_put : (kept : List Kept) (x : Kept) → TimesDoNotFall kept → TimesDoNotFall (put_in_order kept x)
times_of_put kept x h = rw (put_at_upper kept x h) ordered
  where
    r : ℕ
    r = upper kept x.time

    p : PartsAt kept x.time (upper kept x.time)
    p = parts_at_upper kept x.time h

    ordered : TimesDoNotFall (insert kept (upper kept x.time) x)
    ordered i j d le l = by (side_of kept r x d i p.within) (side_of kept r x d j p.within)
      where
        short : j < length kept + 1
        short = omega (arith, length-insert kept (upper kept x.time) x p.within, l)

        t : ℕ → ℕ
        t k = (get_or (insert kept (upper kept x.time) x) k d).time

        by : Side kept r x d i → Side kept r x d j → (get_or (insert kept (upper kept x.time) x) i d).time ≤ (get_or (insert kept (upper kept x.time) x) j d).time
        by (Front a e) (Front b f) = let le' : (get_or kept i d).time ≤ (get_or kept j d).time = h i j d le (omega (arith, p.within)) in rw (e, f) le'
        by (Front a e) (Here b f) = rw (e, f) (p.before i d a)
        by (Front a e) (Back k b c f) = let le' : (get_or kept i d).time ≤ (get_or kept k d).time = h i k d (omega arith) (omega (arith, short)) in rw (e, f) le'
        by (Here a e) (Front b f) = absurd (omega arith)
        by (Here a e) (Here b f) = rw (e, f) (omega arith)
        by (Here a e) (Back k b c f) = let lt : x.time < (get_or kept k d).time = p.behind k d c (omega (arith, short)) in rw (e, f) (omega arith)
        by (Back k a c e) (Front b f) = absurd (omega arith)
        by (Back k a c e) (Here b f) = absurd (omega arith)
        by (Back k a c e) (Back m b g f) = let le' : (get_or kept k d).time ≤ (get_or kept m d).time = h k m d (omega arith) (omega (arith, short)) in rw (e, f) le'

-- so are the positions of their own
pub next_position_of_put : (kept : List Kept) (x : Kept) (next : ℕ) → TimesDoNotFall kept → IsNextPosition kept x.position → x.position < next → IsNextPosition (put_in_order kept x) next
next_position_of_put kept x next h n l = rw (put_at_upper kept x h) (record { own = apart; newest = below })
  where
    r : ℕ
    r = upper kept x.time

    p : PartsAt kept x.time (upper kept x.time)
    p = parts_at_upper kept x.time h

    below : All (λ y. y.position < next) (insert kept (upper kept x.time) x)
    below k d l' = by (side_of kept r x d k p.within)
      where
        short : k < length kept + 1
        short = omega (arith, length-insert kept (upper kept x.time) x p.within, l')

        by : Side kept r x d k → (get_or (insert kept (upper kept x.time) x) k d).position < next
        by (Front a e) = let lt : (get_or kept k d).position < x.position = n.newest k d (omega (arith, p.within)) in rw e (omega arith)
        by (Here a e) = rw e l
        by (Back j a b e) = let lt : (get_or kept j d).position < x.position = n.newest j d (omega (arith, short)) in rw e (omega arith)

    apart : HaveOwnPositions (insert kept (upper kept x.time) x)
    apart i j d lt l' = by (side_of kept r x d i p.within) (side_of kept r x d j p.within)
      where
        short : j < length kept + 1
        short = omega (arith, length-insert kept (upper kept x.time) x p.within, l')

        by : Side kept r x d i → Side kept r x d j → (get_or (insert kept (upper kept x.time) x) i d).position ≢ (get_or (insert kept (upper kept x.time) x) j d).position
        by (Front a e) (Front b f) = rw (e, f) (n.own i j d lt (omega (arith, p.within)))
        by (Front a e) (Here b f) = let older : (get_or kept i d).position < x.position = n.newest i d (omega (arith, p.within)) in rw (e, f) (λ same. omega arith)
        by (Front a e) (Back k b c f) = rw (e, f) (n.own i k d (omega arith) (omega (arith, short)))
        by (Here a e) (Front b f) = absurd (omega arith)
        by (Here a e) (Here b f) = absurd (omega arith)
        by (Here a e) (Back k b c f) = let older : (get_or kept k d).position < x.position = n.newest k d (omega (arith, short)) in rw (e, f) (λ same. omega arith)
        by (Back k a c e) (Front b f) = absurd (omega arith)
        by (Back k a c e) (Here b f) = absurd (omega arith)
        by (Back k a c e) (Back m b g f) = rw (e, f) (n.own k m d (omega arith) (omega (arith, short)))

-- the later the time, the more of them lie at or before it
pub upper_rises : (kept : List Kept) (early late : ℕ) → TimesDoNotFall kept → early ≤ late → upper kept early ≤ upper kept late
upper_rises kept early late h le = by (cases_lt (upper kept late) (upper kept early))
  where
    none : Kept
    none = kept_at 0 0 (pos 0)

    p : PartsAt kept early (upper kept early)
    p = parts_at_upper kept early h

    q : PartsAt kept late (upper kept late)
    q = parts_at_upper kept late h

    by : (upper kept late < upper kept early) ⊎ (upper kept early ≤ upper kept late) → upper kept early ≤ upper kept late
    by c =
        ⊎_elim
        (λ lt. let before : (get_or kept (upper kept late) none).time ≤ early = p.before (upper kept late) none lt in
        let behind : late < (get_or kept (upper kept late) none).time = q.behind (upper kept late) none (omega arith) (omega (arith, p.within)) in
        absurd (omega arith))
        (λ ge. ge)
        c

-- a tuple that is put in and taken out again
pub put_taken_out : (kept : List Kept) (r : ℕ) (x : Kept) → r ≤ length kept → remove (insert kept r x) r ≡ kept
put_taken_out kept r x le =
    let len : length (take r kept) ≡ r = length-take-le r kept le in
    (λ i. take_at (take r kept) (x ∷ drop r kept) r len i ++ rest len i)
    ∙ take-append-drop r kept
  where
    rest : length (take r kept) ≡ r → drop (suc r) (insert kept r x) ≡ drop r kept
    rest len =
        let e : r + 1 ≡ suc r = omega arith in
        ap (λ n. drop n (insert kept r x)) (sym e)
        ∙ sym (drop-drop 1 r (insert kept r x))
        ∙ ap (drop 1) (drop_at (take r kept) (x ∷ drop r kept) r len)
