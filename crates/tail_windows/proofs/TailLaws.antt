-- A tuple more, and what the periods select.
use Rattle.std.proofs.Common.{◌≡◌, ◌∙◌, ℕ, ◌+◌, ◌-◌, ◌<◌, ◌≤◌, Bool, true, false, cond, eqb, List, [], ◌∷◌, ◌++◌, length, map, take, drop, ap, ap₂, sym, refl, subst, ⊎_elim, arith, Option, None, Some}
use Rattle.std.specs.Prelude.{◌&&◌, filter, nat_le, nat_lt}
use Rattle.std.specs.List.{All, Contains, cons_option, filter_map, find}
use Rattle.std.proofs.Math.Seq.{drop-append-add}
use Rattle.std.proofs.lemmas.Bool.{false≢true, false_from_ne_true, and_parts, and_from, eqb-true, eq-eqb}
use Rattle.std.proofs.lemmas.Bool.Decides.{nat_tests}
use Rattle.std.proofs.lemmas.List.{length-append, drop-append-le, append_assoc, take-append-drop}
use Rattle.std.proofs.lemmas.List.Elements.{All-cons, All-contains, All-nil, Contains-append_right, filter-append}
use Rattle.stream_base.specs.declared.kept.Kept.{Kept}
use Rattle.stream_base.specs.Model.Changes.{are_same_tuples}
use Rattle.stream_base.specs.Model.Journal.{put_in_order}
use Rattle.stream_base.proofs.Distinct.{All_from_members}
use Rattle.stream_base.proofs.EventOrder.{put_in_order_cons}
use Rattle.stream_base.proofs.Filters.{filter_all}
use Rattle.stream_base.proofs.Members.{filter_has, filter_members, map_members}
use Rattle.stream_base.proofs.Rising.{none_in_nil, Contains-cons_cases, Contains-head, Contains-tail}
use Rattle.tail_windows.specs.Laws.{StandsBetween, count_before}
use Rattle.tail_windows.specs.Tails.{Tail, emitted, ends_of, is_at, last_of, row_of, standing_tails, tail_at, tail_changes_between, tail_of, tails_in}
use Rattle.tail_windows.specs.declared.def.TailDef.{TailDef}
use Rattle.tail_windows.specs.declared.change.TailChange.TheVariants.{New, Again}

pub comes_between : (kept : List Kept) (x : Kept) → (front : List Kept) × (back : List Kept) × StandsBetween kept x front back
comes_between [] x = ([], [], record { before = refl; after = refl; no_later = All-nil _ })
comes_between (y ∷ ys) x = by (nat_lt x.time y.time) refl (comes_between ys x)
  where
    by : (b : Bool) → nat_lt x.time y.time ≡ b → ((front : List Kept) × (back : List Kept) × StandsBetween ys x front back) → (front : List Kept) × (back : List Kept) × StandsBetween (y ∷ ys) x front back
    by true e rest = ([], y ∷ ys, record { before = refl; after = put_in_order_cons y ys x ∙ ap (λ b. cond b (x ∷ y ∷ ys) (y ∷ put_in_order ys x)) e; no_later = All-nil _ })
    by false e (front, back, h) = (
      y ∷ front,
      back,
      record {
        before = ap (λ l. y ∷ l) h.before;
        after = put_in_order_cons y ys x ∙ ap (λ b. cond b (x ∷ y ∷ ys) (y ∷ put_in_order ys x)) e ∙ ap (λ l. y ∷ l) h.after;
        no_later = All-cons (λ z. z.time ≤ x.time) y front (grind (arith, nat_tests, e)) h.no_later;
      },
    )

-- the tuples before a time, with one in that is
pub with_before : (at : ℕ) (x : Kept) (front back : List Kept) → x.time < at → All (λ y. y.time ≤ x.time) front → filter (λ y. nat_lt y.time at) (front ++ x ∷ back) ≡ front ++ x ∷ filter (λ y. nat_lt y.time at) back
with_before at x front back early no_later =
    filter-append (λ (y : Kept). nat_lt y.time at) front (x ∷ back)
    ∙ ap₂ (λ k l. k ++ l) (filter_all (λ (y : Kept). nat_lt y.time at) front (All_from_members (λ y. nat_lt y.time at ≡ true) front (λ y c. below y.time (All-contains (λ y. y.time ≤ x.time) front y no_later c))))
    (ap (λ b. cond b (x ∷ filter (λ (y : Kept). nat_lt y.time at) back) (filter (λ (y : Kept). nat_lt y.time at) back)) (below x.time (omega arith)))
  where
    below : (t : ℕ) → t ≤ x.time → nat_lt t at ≡ true
    below t le = let lt : t < at = omega (arith, le, early) in grind (arith, nat_tests, lt)

without_before : (at : ℕ) (x : Kept) (front back : List Kept) → x.time < at → All (λ y. y.time ≤ x.time) front → filter (λ y. nat_lt y.time at) (front ++ back) ≡ front ++ filter (λ y. nat_lt y.time at) back
without_before at x front back early no_later =
    filter-append (λ (y : Kept). nat_lt y.time at) front back
    ∙ ap (λ k. k ++ filter (λ (y : Kept). nat_lt y.time at) back) (filter_all (λ (y : Kept). nat_lt y.time at) front (All_from_members (λ y. nat_lt y.time at ≡ true) front (λ y c. below y.time (All-contains (λ y. y.time ≤ x.time) front y no_later c))))
  where
    below : (t : ℕ) → t ≤ x.time → nat_lt t at ≡ true
    below t le = let lt : t < at = omega (arith, le, early) in grind (arith, nat_tests, lt)

-- the last ones are behind what stands in front
last_behind : (count : ℕ) (xs ys : List Kept) → count ≤ length ys → last_of count (xs ++ ys) ≡ last_of count ys
last_behind count xs ys few =
    let n : length (xs ++ ys) - count ≡ length xs + (length ys - count) = omega (arith, few, length-append xs ys) in
    ap (λ k. drop k (xs ++ ys)) n ∙ drop-append-add xs ys (length ys - count)

pub stays_behind : (count at : ℕ) (kept : List Kept) (x : Kept) (front back : List Kept) → StandsBetween kept x front back → x.time < at → count ≤ count_before at back → tail_at count at (put_in_order kept x) ≡ tail_at count at kept
stays_behind count at kept x front back h early few =
    ap (tail_at count at) h.after
    ∙ ap (last_of count) (with_before at x front back early h.no_later)
    ∙ ap (last_of count) (sym (append_assoc front (x ∷ []) (filter (λ (y : Kept). nat_lt y.time at) back)))
    ∙ last_behind count (front ++ x ∷ []) (filter (λ (y : Kept). nat_lt y.time at) back) few
    ∙ sym (last_behind count front (filter (λ (y : Kept). nat_lt y.time at) back) few)
    ∙ sym (ap (last_of count) (without_before at x front back early h.no_later))
    ∙ sym (ap (tail_at count at) h.before)

pub stays_before : (count at : ℕ) (kept : List Kept) (x : Kept) → at ≤ x.time → tail_at count at (put_in_order kept x) ≡ tail_at count at kept
stays_before count at kept x late = ap (last_of count) (by (comes_between kept x))
  where
    out : nat_lt x.time at ≡ false
    out = grind (arith, nat_tests, late)

    by : ((front : List Kept) × (back : List Kept) × StandsBetween kept x front back) → filter (λ (y : Kept). nat_lt y.time at) (put_in_order kept x) ≡ filter (λ (y : Kept). nat_lt y.time at) kept
    by (front, back, h) =
        ap (filter (λ (y : Kept). nat_lt y.time at)) h.after
        ∙ filter-append (λ (y : Kept). nat_lt y.time at) front (x ∷ back)
        ∙ ap (λ b. filter (λ (y : Kept). nat_lt y.time at) front ++ cond b (x ∷ filter (λ (y : Kept). nat_lt y.time at) back) (filter (λ (y : Kept). nat_lt y.time at) back)) out
        ∙ sym (filter-append (λ (y : Kept). nat_lt y.time at) front back)
        ∙ sym (ap (filter (λ (y : Kept). nat_lt y.time at)) h.before)

-- what is selected with a tuple that is among the last
selects_it : (count : ℕ) (front back : List Kept) (x : Kept) → length back < count → Contains (last_of count (front ++ x ∷ back)) x
selects_it count front back x few =
    let k : length (front ++ x ∷ back) - count ≤ length front = omega (arith, few, length-append front (x ∷ back)) in
    subst (λ l. Contains l x) (sym (drop-append-le (length (front ++ x ∷ back) - count) front (x ∷ back) k))
    (Contains-append_right (drop (length (front ++ x ∷ back) - count) front) (x ∷ back) x (Contains-head x back))

same_positions : (xs ys : List Kept) (y : Kept) → are_same_tuples xs ys ≡ true → Contains ys y → (x : Kept) × Contains xs x × (x.position ≡ y.position)
same_positions [] [] y same c = absurd (none_in_nil y c)
same_positions [] (z ∷ ys) y same c = absurd (false≢true same)
same_positions (x ∷ xs) [] y same c = absurd (none_in_nil y c)
same_positions (x ∷ xs) (z ∷ ys) y same c =
    let parts : (eqb x.position z.position ≡ true) × (are_same_tuples xs ys ≡ true) = and_parts (eqb x.position z.position) (are_same_tuples xs ys) same in
    ⊎_elim
    (λ e. (x, Contains-head x xs, eqb-true x.position z.position parts.0 ∙ ap (λ (k : Kept). k.position) e))
    (λ d. let (w, among, is) = same_positions xs ys y parts.1 d in (w, Contains-tail x xs w among, is))
    (Contains-cons_cases z ys y c)

tail_among : (count at : ℕ) (kept : List Kept) (y : Kept) → Contains (tail_at count at kept) y → Contains kept y
tail_among count at kept y c =
    (filter_members (λ (z : Kept). nat_lt z.time at) kept y
    (subst (λ l. Contains l y) (take-append-drop (length among - count) among) (Contains-append_right (take (length among - count) among) (drop (length among - count) among) y c))).0
  where
    among : List Kept
    among = filter (λ (z : Kept). nat_lt z.time at) kept

pub changes : (count at : ℕ) (kept : List Kept) (x : Kept) (front back : List Kept) → StandsBetween kept x front back → x.time < at → count_before at back < count → All (λ y. y.position < x.position) kept
    → are_same_tuples (tail_at count at kept) (tail_at count at (put_in_order kept x)) ≡ false
changes count at kept x front back h early few below =
    false_from_ne_true (are_same_tuples (tail_at count at kept) (tail_at count at (put_in_order kept x)))
    (λ same.
    let (w, among, is) = same_positions (tail_at count at kept) (tail_at count at (put_in_order kept x)) x same
    (subst (λ l. Contains l x) (sym (ap (tail_at count at) h.after ∙ ap (last_of count) (with_before at x front back early h.no_later))) (selects_it count front (filter (λ (y : Kept). nat_lt y.time at) back) x few)) in
    let lt : w.position < x.position = All-contains (λ y. y.position < x.position) kept w below (tail_among count at kept w among) in
    omega (arith, lt, is))

-- ---- where nothing moves, nothing changes
pub AreTails : TailDef → List Kept → List Tail → Type 0
AreTails def kept tails = (i : Tail) → Contains tails i → i ≡ tail_of def kept i.at

pub found_itself : (def : TailDef) (kept : List Kept) (tails : List Tail) (i : Tail) → AreTails def kept tails → Contains tails i → find (is_at i.at) tails ≡ Some i
unfolding AreTails
found_itself def kept [] i all c = absurd (none_in_nil i c)
found_itself def kept (j ∷ js) i all c = by (is_at i.at j) refl (λ d. found_itself def kept js i (λ k e. all k (Contains-tail j js k e)) d)
  where
    at_alike : is_at i.at j ≡ true → j.at ≡ i.at
    at_alike e = let p : (nat_le i.at j.at ≡ true) × (nat_le j.at i.at ≡ true) = and_parts (nat_le i.at j.at) (nat_le j.at i.at) e in grind (arith, nat_tests, p.0, p.1)

    itself : is_at i.at i ≡ true
    itself = and_from (nat_le i.at i.at) (nat_le i.at i.at) (grind (arith, nat_tests)) (grind (arith, nat_tests))

    by : (b : Bool) → is_at i.at j ≡ b → (Contains js i → find (is_at i.at) js ≡ Some i) → find (is_at i.at) (j ∷ js) ≡ Some i
    by true e rest =
        ap (λ b. cond b (Some j) (find (is_at i.at) js)) e
        ∙ ap Some (all j (Contains-head j js) ∙ ap (tail_of def kept) (at_alike e) ∙ sym (all i c))
    by false e rest =
        ap (λ b. cond b (Some j) (find (is_at i.at) js)) e
        ∙ ⊎_elim (λ same. absurd (false≢true (sym e ∙ ap (is_at i.at) same ∙ itself))) rest (Contains-cons_cases j js i c)

pub standing_are_tails : (def : TailDef) (kept : List Kept) (water : ℕ) → AreTails def kept (standing_tails def kept water)
unfolding AreTails tails_in
standing_are_tails def kept water i c =
    let (at, among, is) = map_members (tail_of def kept) (ends_of def.period kept) i (filter_members (λ (j : Tail). nat_le j.at water) (tails_in def kept) i c).0 in
    sym is ∙ ap (tail_of def kept) (ap (λ (j : Tail). j.at) is)

pub same_tuples_itself : (xs : List Kept) → are_same_tuples xs xs ≡ true
same_tuples_itself [] = refl
same_tuples_itself (x ∷ xs) = and_from (eqb x.position x.position) (are_same_tuples xs xs) (eq-eqb x.position x.position refl) (same_tuples_itself xs)

filter_map_none : {X Y : Type 0} (f : X → Option Y) (xs : List X) → ((x : X) → Contains xs x → f x ≡ None) → filter_map f xs ≡ []
filter_map_none f [] h = refl
filter_map_none f (x ∷ xs) h =
    ap (λ o. cons_option o (filter_map f xs)) (h x (Contains-head x xs)) ∙ filter_map_none f xs (λ y c. h y (Contains-tail x xs y c))

pub nothing_at_rest : (def : TailDef) (key : List ℕ) (kept : List Kept) (water : ℕ) → tail_changes_between def key kept water kept water ≡ []
unfolding tail_changes_between
nothing_at_rest def key kept water =
    filter_map_none (λ i. emitted def.func key i (find (is_at i.at) (standing_tails def kept water))) (standing_tails def kept water)
    (λ i c. ap (emitted def.func key i) (found_itself def kept (standing_tails def kept water) i (standing_are_tails def kept water) c)
    ∙ ap (λ b. cond b None (Some (Again (row_of def.func key i)))) (same_tuples_itself i.chosen))

-- ---- where the watermark moves
standing_none : (def : TailDef) (tails : List Tail) (at old : ℕ) → old < at → find (is_at at) (filter (λ j. nat_le j.at old) tails) ≡ None
standing_none def [] at old h = refl
standing_none def (j ∷ js) at old h = by (nat_le j.at old) refl (standing_none def js at old h)
  where
    apart : j.at ≤ old → is_at at j ≡ false
    apart le = let no : nat_le at j.at ≡ false = grind (arith, nat_tests, le, h) in ap (λ b. b && nat_le j.at at) no

    by : (b : Bool) → nat_le j.at old ≡ b → find (is_at at) (filter (λ j. nat_le j.at old) js) ≡ None → find (is_at at) (cond b (j ∷ filter (λ j. nat_le j.at old) js) (filter (λ j. nat_le j.at old) js)) ≡ None
    by false e rest = rest
    by true e rest = ap (λ b. cond b (Some j) (find (is_at at) (filter (λ j. nat_le j.at old) js))) (apart (grind (arith, nat_tests, e))) ∙ rest

pub moved : (def : TailDef) (key : List ℕ) (kept : List Kept) (old new : ℕ) → old ≤ new
    → tail_changes_between def key kept old kept new ≡ map (λ i. New (row_of def.func key i)) (filter (λ i. nat_lt old i.at && nat_le i.at new) (tails_in def kept))
unfolding tail_changes_between
moved def key kept old new rises = over (tails_in def kept) (λ i c. c)
  where
    stood : (i : Tail) → Contains (tails_in def kept) i → i.at ≤ old → emitted def.func key i (find (is_at i.at) (standing_tails def kept old)) ≡ None
    stood i c le =
        ap (emitted def.func key i) (found_itself def kept (standing_tails def kept old) i (standing_are_tails def kept old) (filter_has (λ (j : Tail). nat_le j.at old) (tails_in def kept) i c (grind (arith, nat_tests, le))))
        ∙ ap (λ b. cond b None (Some (Again (row_of def.func key i)))) (same_tuples_itself i.chosen)

    comes : (i : Tail) → old < i.at → emitted def.func key i (find (is_at i.at) (standing_tails def kept old)) ≡ Some (New (row_of def.func key i))
    comes i lt = ap (emitted def.func key i) (standing_none def (tails_in def kept) i.at old lt)

    one : (i : Tail) (rest : List Tail) → Contains (tails_in def kept) i → (b c : Bool) → nat_le i.at new ≡ b → nat_lt old i.at ≡ c
        → filter_map (λ j. emitted def.func key j (find (is_at j.at) (standing_tails def kept old))) (filter (λ j. nat_le j.at new) rest) ≡ map (λ j. New (row_of def.func key j)) (filter (λ j. nat_lt old j.at && nat_le j.at new) rest)
        → filter_map (λ j. emitted def.func key j (find (is_at j.at) (standing_tails def kept old))) (cond b (i ∷ filter (λ j. nat_le j.at new) rest) (filter (λ j. nat_le j.at new) rest)) ≡ map (λ j. New (row_of def.func key j)) (cond (c && b) (i ∷ filter (λ j. nat_lt old j.at && nat_le j.at new) rest) (filter (λ j. nat_lt old j.at && nat_le j.at new) rest))
    one i rest among true true e f h = ap₂ cons_option (comes i (grind (arith, nat_tests, f))) h
    one i rest among true false e f h = ap₂ cons_option (stood i among (grind (arith, nat_tests, f))) h
    one i rest among false true e f h = h
    one i rest among false false e f h = h

    over : (tails : List Tail) → ((i : Tail) → Contains tails i → Contains (tails_in def kept) i)
        → filter_map (λ j. emitted def.func key j (find (is_at j.at) (standing_tails def kept old))) (filter (λ j. nat_le j.at new) tails) ≡ map (λ j. New (row_of def.func key j)) (filter (λ j. nat_lt old j.at && nat_le j.at new) tails)
    over [] all = refl
    over (i ∷ tails) all = one i tails (all i (Contains-head i tails)) (nat_le i.at new) (nat_lt old i.at) refl refl (over tails (λ j c. all j (Contains-tail i tails j c)))
