-- The instances of one window and key: their starts rise, so no two are the same, and each selects a tuple.
use Rattle.std.proofs.Common.{◌≡◌, ◌∙◌, ℕ, zero, suc, ◌+◌, ◌-◌, ◌*◌, ◌/◌, ◌<◌, ◌≤◌, Bool, true, false, cond, eqb, List, [], ◌∷◌, ◌++◌, length, get_or, map, ap, sym, refl, ⊎_elim, arith, Some, Ordering}
use Rattle.std.specs.Prelude.{nat_le}
use Rattle.std.specs.declared.cmp.Ordering.TheVariants.{Less}
use Rattle.std.specs.Cmp.{IsTotalOrder}
use Rattle.std.specs.List.{All, Contains, find, range_with_len}
use Rattle.std.specs.List.Sorted.{IsStrictlySortedBy, IsNonDecreasingBy}
use Rattle.std.specs.Ordering.{nat_cmp}
use Rattle.std.proofs.lemmas.Bool.{leb-true, eq-eqb, and_from, and_left, ne_eqb}
use Rattle.std.proofs.lemmas.Bool.Decides.{nat_tests}
use Rattle.std.proofs.lemmas.Cmp.{nat_cmp_total, on_total}
use Rattle.std.proofs.lemmas.List.Elements.{All-map, All-cons, All-nil, All-head, All-tail, All-weaker, All-from_recursion, Contains-get_or}
use Rattle.std.proofs.lemmas.List.Kept.{IsStrictlySortedBy-filter}
use Rattle.std.proofs.lemmas.Map.Keys.{sorted_head, sorted_tail}
use Rattle.stream_base.specs.declared.limits.TheConstants.{FINAL}
use Rattle.stream_base.specs.declared.kept.Kept.{Kept}
use Rattle.stream_base.specs.Model.Journal.{rising}
use Rattle.stream_base.specs.Model.Windows.{Instance, interval, starts_of, spans, glued, pieces_of, first_time, session, sessions, is_selecting, between_times, stretches, ranks, counted}
use Rattle.stream_base.specs.Model.Changes.{is_same}
use Rattle.stream_base.specs.Laws.{by_start, RiseByStart}
use Rattle.stream_base.proofs.Rising.{none_in_nil, Contains-at_head, Contains-tail, Contains-cons_cases, sorted_cons, sorted_nil, below_tail, nat_rising_is_sorted}
use Rattle.stream_base.proofs.Members.{range_members}
use Rattle.stream_base.proofs.Spans.{starts_of_is_sorted}

pub All_from_members : {X : Type 0} (P : X → Type 0) (xs : List X) → ((x : X) → Contains xs x → P x) → All P xs
All_from_members P xs h k d l = h (get_or xs k d) (Contains-get_or xs k d l)

pub by_start_total : IsTotalOrder by_start
by_start_total = on_total (λ (i : Instance). i.low) nat_cmp_total

pub less_from_lt : (a b : ℕ) → a < b → nat_cmp a b ≡ Less
less_from_lt a b h = grind (arith, nat_tests)

pub lt_from_less : (a b : ℕ) → nat_cmp a b ≡ Less → a < b
lt_from_less a b h = grind (arith, nat_tests)

-- a list stays in order through a function that keeps it
pub sorted_map : {X Y : Type 0} {cmp : X → X → Ordering} {by : Y → Y → Ordering} (o : IsTotalOrder by) (f : X → Y) → ((x y : X) → cmp x y ≡ Less → by (f x) (f y) ≡ Less) → (xs : List X) → IsStrictlySortedBy cmp xs → IsStrictlySortedBy by (map f xs)
sorted_map o f keeps [] s = sorted_nil o
sorted_map {cmp = cmp} {by = by} o f keeps (x ∷ xs) s =
    sorted_cons o (f x) (map f xs)
    (All-map (λ z. by (f x) z ≡ Less) f xs (All-weaker (λ y. cmp x y ≡ Less) (λ y. by (f x) (f y) ≡ Less) (λ y h. keeps x y h) xs (All-from_recursion (λ y. cmp x y ≡ Less) xs (sorted_head cmp x xs s))))
    (sorted_map o f keeps xs (sorted_tail cmp x xs s))

range_sorted : (a n : ℕ) → IsStrictlySortedBy nat_cmp (range_with_len a n)
range_sorted a zero = sorted_nil nat_cmp_total
range_sorted a (suc n) =
    sorted_cons nat_cmp_total a (range_with_len (a + 1) n)
    (All_from_members (λ k. nat_cmp a k ≡ Less) (range_with_len (a + 1) n) (λ k c. less_from_lt a k (omega (arith, (range_members (a + 1) n k c).0))))
    (range_sorted (a + 1) n)

pub spans_rise : (length slide : ℕ) (kept : List Kept) → RiseByStart (spans length slide kept)
spans_rise length slide kept = sorted_map by_start_total (λ low. interval low (low + length) kept) (λ a b h. h) (starts_of length slide kept) (starts_of_is_sorted length slide kept)

times_rise : (count a b : ℕ) → 1 ≤ count → a < b → a * count < b * count
times_rise count a b pos h =
    let le : (a + 1) * count ≤ b * count = mono (a + 1) b count (omega arith) in
    omega arith
  where
    mono : (a b c : ℕ) → a ≤ b → a * c ≤ b * c
    mono a b c h = grind arith

pub counted_rise : (count : ℕ) (kept : List Kept) → 1 ≤ count → RiseByStart (counted count kept)
counted_rise count kept pos = sorted_map by_start_total (ranks count kept) (λ a b h. less_from_lt (a * count) (b * count) (times_rise count a b pos (lt_from_less a b h))) (range_with_len 0 (length kept / count)) (range_sorted 0 (length kept / count))

between_times_starts : (times : List ℕ) (kept : List Kept) (i : Instance) → Contains (between_times times kept) i → Contains times i.low
between_times_starts [] kept i c = absurd (none_in_nil i c)
between_times_starts (a ∷ []) kept i c = absurd (none_in_nil i c)
between_times_starts (a ∷ b ∷ times) kept i c =
    ⊎_elim
    (λ e. Contains-at_head a (b ∷ times) i.low (ap (λ (j : Instance). j.low) e))
    (λ d. Contains-tail a (b ∷ times) i.low (between_times_starts (b ∷ times) kept i d))
    (Contains-cons_cases (interval a b kept) (between_times (b ∷ times) kept) i c)

between_times_rise : (times : List ℕ) (kept : List Kept) → IsStrictlySortedBy nat_cmp times → RiseByStart (between_times times kept)
between_times_rise [] kept s = sorted_nil by_start_total
between_times_rise (a ∷ []) kept s = sorted_nil by_start_total
between_times_rise (a ∷ b ∷ times) kept s =
    sorted_cons by_start_total (interval a b kept) (between_times (b ∷ times) kept)
    (All_from_members (λ i. by_start (interval a b kept) i ≡ Less) (between_times (b ∷ times) kept) (λ i c. below_tail nat_cmp_total a (b ∷ times) s i.low (between_times_starts (b ∷ times) kept i c)))
    (between_times_rise (b ∷ times) kept (sorted_tail nat_cmp a (b ∷ times) s))

pub stretches_rise : (marks : List ℕ) (kept : List Kept) → RiseByStart (stretches marks kept)
stretches_rise marks kept =
    IsStrictlySortedBy-filter by_start is_selecting (between_times (rising nat_cmp (0 ∷ marks ++ FINAL ∷ [])) kept)
    (between_times_rise (rising nat_cmp (0 ∷ marks ++ FINAL ∷ [])) kept (nat_rising_is_sorted (0 ∷ marks ++ FINAL ∷ [])))

-- sessions, where what is kept is in the order of its times
abbrev by_first_total : IsTotalOrder (λ run other. nat_cmp (first_time run) (first_time other))
by_first_total = on_total first_time nat_cmp_total

-- what is known of the pieces of a list: each has an element, they begin later and later, and none begins before the list
record ArePieces (low : ℕ) (pieces : List (List Kept)) : Type 0 where
  full : All (λ run. 1 ≤ length run) pieces
  rise : IsStrictlySortedBy (λ run other. nat_cmp (first_time run) (first_time other)) pieces
  late : All (λ run. low ≤ first_time run) pieces

earlier : (low low' : ℕ) (pieces : List (List Kept)) → low' ≤ low → ArePieces low pieces → ArePieces low' pieces
earlier low low' pieces le h = record { full = h.full; rise = h.rise; late = All-weaker (λ run. low ≤ first_time run) (λ run. low' ≤ first_time run) (λ run l. omega arith) pieces h.late }

glued_pieces : (gap : ℕ) (x : Kept) (pieces : List (List Kept)) → 1 ≤ gap → ArePieces x.time pieces → ArePieces x.time (glued (λ x y. nat_le gap (y.time - x.time)) x pieces)
glued_pieces gap x [] pos h = record {
  full = All-cons (λ run. 1 ≤ length run) (x ∷ []) [] (omega arith) h.full;
  rise = sorted_cons by_first_total (x ∷ []) [] (All-nil (λ run. nat_cmp x.time (first_time run) ≡ Less)) h.rise;
  late = All-cons (λ run. x.time ≤ first_time run) (x ∷ []) [] (omega arith) h.late;
}
glued_pieces gap x ([] ∷ pieces) pos h = absurd (omega (arith, All-head (λ run. 1 ≤ length run) [] pieces h.full))
glued_pieces gap x ((y ∷ ys) ∷ pieces) pos h = by (nat_le gap (y.time - x.time)) refl
  where
    behind : All (λ run. nat_cmp y.time (first_time run) ≡ Less) pieces
    behind = All-from_recursion (λ run. nat_cmp y.time (first_time run) ≡ Less) pieces (sorted_head (λ run other. nat_cmp (first_time run) (first_time other)) (y ∷ ys) pieces h.rise)

    low : x.time ≤ y.time
    low = All-head (λ run. x.time ≤ first_time run) (y ∷ ys) pieces h.late

    later : All (λ run. nat_cmp x.time (first_time run) ≡ Less) pieces
    later = All-weaker (λ run. nat_cmp y.time (first_time run) ≡ Less) (λ run. nat_cmp x.time (first_time run) ≡ Less) (λ run l. let lt : y.time < first_time run = lt_from_less y.time (first_time run) l in less_from_lt x.time (first_time run) (omega (arith, low))) pieces behind

    by : (b : Bool) → nat_le gap (y.time - x.time) ≡ b → ArePieces x.time (cond b ((x ∷ []) ∷ (y ∷ ys) ∷ pieces) ((x ∷ y ∷ ys) ∷ pieces))
    by true e =
        let apart : gap ≤ y.time - x.time = leb-true gap (y.time - x.time) e in
        record {
          full = All-cons (λ run. 1 ≤ length run) (x ∷ []) ((y ∷ ys) ∷ pieces) (omega arith) h.full;
          rise = sorted_cons by_first_total (x ∷ []) ((y ∷ ys) ∷ pieces) (All-cons (λ run. nat_cmp x.time (first_time run) ≡ Less) (y ∷ ys) pieces (less_from_lt x.time y.time (omega arith)) later) h.rise;
          late = All-cons (λ run. x.time ≤ first_time run) (x ∷ []) ((y ∷ ys) ∷ pieces) (omega arith) h.late;
        }
    by false e = record {
      full = All-cons (λ run. 1 ≤ length run) (x ∷ y ∷ ys) pieces (omega arith) (All-tail (λ run. 1 ≤ length run) (y ∷ ys) pieces h.full);
      rise = sorted_cons by_first_total (x ∷ y ∷ ys) pieces later (sorted_tail (λ run other. nat_cmp (first_time run) (first_time other)) (y ∷ ys) pieces h.rise);
      late = All-cons (λ run. x.time ≤ first_time run) (x ∷ y ∷ ys) pieces (omega arith) (All-tail (λ run. x.time ≤ first_time run) (y ∷ ys) pieces h.late);
    }

time_of_head : (x : Kept) (xs : List Kept) → IsNonDecreasingBy (λ (y : Kept). y.time) (x ∷ xs) → (k : ℕ) (d : Kept) → k < length xs → x.time ≤ (get_or xs k d).time
time_of_head x xs h k d l = h 0 (suc k) d (omega arith) (omega arith)

tail_in_order : (x : Kept) (xs : List Kept) → IsNonDecreasingBy (λ (y : Kept). y.time) (x ∷ xs) → IsNonDecreasingBy (λ (y : Kept). y.time) xs
tail_in_order x xs h i j d le l = h (suc i) (suc j) d (omega arith) (omega arith)

pieces_in_order : (gap : ℕ) (kept : List Kept) → 1 ≤ gap → IsNonDecreasingBy (λ (x : Kept). x.time) kept → ArePieces (first_time kept) (pieces_of (λ x y. nat_le gap (y.time - x.time)) kept)
pieces_in_order gap [] pos h = record { full = All-nil (λ run. 1 ≤ length run); rise = sorted_nil by_first_total; late = All-nil (λ run. 0 ≤ first_time run) }
pieces_in_order gap (x ∷ xs) pos h = glued_pieces gap x (pieces_of (λ x y. nat_le gap (y.time - x.time)) xs) pos (next xs (time_of_head x xs h) (pieces_in_order gap xs pos (tail_in_order x xs h)))
  where
    next : (ys : List Kept) → ((k : ℕ) (d : Kept) → k < length ys → x.time ≤ (get_or ys k d).time) → ArePieces (first_time ys) (pieces_of (λ x y. nat_le gap (y.time - x.time)) ys) → ArePieces x.time (pieces_of (λ x y. nat_le gap (y.time - x.time)) ys)
    next [] low k = record { full = k.full; rise = k.rise; late = All-nil (λ run. x.time ≤ first_time run) }
    next (y ∷ ys) low k = earlier y.time x.time (pieces_of (λ x y. nat_le gap (y.time - x.time)) (y ∷ ys)) (low 0 y (omega arith)) k

pub sessions_rise : (gap : ℕ) (kept : List Kept) → 1 ≤ gap → IsNonDecreasingBy (λ (x : Kept). x.time) kept → RiseByStart (sessions gap kept)
sessions_rise gap kept pos h = sorted_map by_start_total (session gap) (λ run other l. l) (pieces_of (λ x y. nat_le gap (y.time - x.time)) kept) (pieces_in_order gap kept pos h).rise

-- an instance is the same as itself
pub is_same_itself : (i : Instance) → is_same i i ≡ true
is_same_itself i = and_from (eqb i.low i.low) (eqb i.high i.high) (eq-eqb i.low i.low refl) (eq-eqb i.high i.high refl)

start_differs : (i j : Instance) → j.low < i.low → is_same i j ≡ false
start_differs i j h = and_left (eqb i.low j.low) (eqb i.high j.high) (ne_eqb i.low j.low (λ e. omega arith))

-- each of them is found by its start and end
pub find_same : (is : List Instance) (i : Instance) → RiseByStart is → Contains is i → find (is_same i) is ≡ Some i
find_same [] i s c = absurd (none_in_nil i c)
find_same (x ∷ is) i s c =
    ⊎_elim
    (λ e. ap (λ b. cond b (Some x) (find (is_same i) is)) (ap (λ j. is_same j x) (sym e) ∙ is_same_itself x) ∙ ap Some e)
    (λ d. let lt : x.low < i.low = lt_from_less x.low i.low (below_tail by_start_total x is s i d) in
    ap (λ b. cond b (Some x) (find (is_same i) is)) (start_differs i x lt) ∙ find_same is i (sorted_tail by_start x is s) d)
    (Contains-cons_cases x is i c)

-- of two of them that start alike there is but one
pub one_of_a_start : (is : List Instance) (i j : Instance) → RiseByStart is → Contains is i → Contains is j → i.low ≡ j.low → i ≡ j
one_of_a_start [] i j s c d e = absurd (none_in_nil i c)
one_of_a_start (x ∷ is) i j s c d e =
    ⊎_elim
    (λ a. ⊎_elim
    (λ b. sym a ∙ b)
    (λ b. let lt : x.low < j.low = lt_from_less x.low j.low (below_tail by_start_total x is s j b) in let same : x.low ≡ i.low = ap (λ (z : Instance). z.low) a in absurd (omega arith))
    (Contains-cons_cases x is j d))
    (λ a. ⊎_elim
    (λ b. let lt : x.low < i.low = lt_from_less x.low i.low (below_tail by_start_total x is s i a) in let same : x.low ≡ j.low = ap (λ (z : Instance). z.low) b in absurd (omega arith))
    (λ b. one_of_a_start is i j (sorted_tail by_start x is s) a b e)
    (Contains-cons_cases x is j d))
    (Contains-cons_cases x is i c)
