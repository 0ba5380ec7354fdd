-- Tuples whose times don't fall: their ends, and two lists of them one behind the other.
use Rattle.std.proofs.Common.{◌≡◌, ◌∙◌, ℕ, ◌<◌, ◌≤◌, Bool, true, false, cond, List, [], ◌∷◌, ◌++◌, length, ap, sym, arith, inl, inr, refl}
use Rattle.std.specs.Prelude.{◌⊎◌, ◌&&◌, ◌||◌, nat_le, nat_lt}
use Rattle.std.specs.List.{All, filter}
use Rattle.std.proofs.lemmas.Bool.{and_from, and_parts, le-leb, leb-true, lt-leb, lt-ltb, ltb-true}
use Rattle.std.proofs.lemmas.Bool.Decides.{nat_tests}
use Rattle.std.proofs.lemmas.List.Elements.{All-cons, All-nil, All-head, All-tail, All-weaker}
use Rattle.stream_base.specs.declared.kept.Kept.{Kept}
use Rattle.stream_base.specs.Laws.{TimesDoNotFall}
use Rattle.stream_base.specs.Model.Journal.{put_in_order}
use Rattle.stream_base.specs.Model.Windows.{first_time, is_within, last_time, within}
use Rattle.stream_base.proofs.Filters.{cases_of, filter_all, filter_none}
use Rattle.slice_lists.proofs.Order.{nd_head, nd_tail}
use Rattle.slice_lists.proofs.RunFacts.{put_behind, put_first}

pub below_last : (xs : List Kept) → TimesDoNotFall xs → All (λ (y : Kept). y.time ≤ last_time xs) xs
below_last [] h = All-nil (λ (y : Kept). y.time ≤ last_time [])
below_last (x ∷ []) h = All-cons (λ (y : Kept). y.time ≤ x.time) x [] (omega arith) (All-nil (λ (y : Kept). y.time ≤ x.time))
below_last (x ∷ y ∷ ys) h =
    let later : All (λ (z : Kept). z.time ≤ last_time (y ∷ ys)) (y ∷ ys) = below_last (y ∷ ys) (nd_tail (λ (z : Kept). z.time) x (y ∷ ys) h) in
    let low : x.time ≤ y.time = All-head (λ (z : Kept). x.time ≤ z.time) y ys (nd_head (λ (z : Kept). z.time) x (y ∷ ys) h) in
    let high : y.time ≤ last_time (y ∷ ys) = All-head (λ (z : Kept). z.time ≤ last_time (y ∷ ys)) y ys later in
    All-cons (λ (z : Kept). z.time ≤ last_time (y ∷ ys)) x (y ∷ ys) (omega arith) later

pub above_first : (xs : List Kept) → TimesDoNotFall xs → All (λ (y : Kept). first_time xs ≤ y.time) xs
above_first [] h = All-nil (λ (y : Kept). first_time [] ≤ y.time)
above_first (x ∷ xs) h = All-cons (λ (y : Kept). x.time ≤ y.time) x xs (omega arith) (nd_head (λ (z : Kept). z.time) x xs h)

-- what holds of the time of each tuple holds of the last time
pub of_last : (Q : ℕ → Type 0) (xs : List Kept) → 0 < length xs → All (λ (y : Kept). Q y.time) xs → Q (last_time xs)
of_last Q [] l a = absurd (omega arith)
of_last Q (x ∷ []) l a = All-head (λ (y : Kept). Q y.time) x [] a
of_last Q (x ∷ y ∷ ys) l a = of_last Q (y ∷ ys) (omega arith) (All-tail (λ (z : Kept). Q z.time) x (y ∷ ys) a)

-- tuples behind others are no earlier than the last of these
pub behind_last : (xs ys : List Kept) → 0 < length xs → TimesDoNotFall (xs ++ ys) → All (λ (y : Kept). last_time xs ≤ y.time) ys
behind_last [] ys l h = absurd (omega arith)
behind_last (x ∷ []) ys l h = nd_head (λ (z : Kept). z.time) x ys h
behind_last (x ∷ w ∷ ws) ys l h = behind_last (w ∷ ws) ys (omega arith) (nd_tail (λ (z : Kept). z.time) x ((w ∷ ws) ++ ys) h)

pub last_of_append : (xs ys : List Kept) → 0 < length ys → last_time (xs ++ ys) ≡ last_time ys
last_of_append xs [] l = absurd (omega arith)
last_of_append [] (y ∷ ys) l = refl
last_of_append (x ∷ []) (y ∷ ys) l = refl
last_of_append (x ∷ w ∷ ws) (y ∷ ys) l = last_of_append (w ∷ ws) (y ∷ ys) l

pub first_of_append : (xs ys : List Kept) → 0 < length xs → first_time (xs ++ ys) ≡ first_time xs
first_of_append [] ys l = absurd (omega arith)
first_of_append (x ∷ xs) ys l = refl

-- a tuple enters the first list where that has a later one
pub put_near : (ys zs : List Kept) (x : Kept) → x.time < last_time ys → put_in_order (ys ++ zs) x ≡ put_in_order ys x ++ zs
put_near [] zs x l = absurd (omega arith)
put_near (y ∷ []) zs x l = put_first y zs x (lt-ltb x.time y.time l) ∙ ap (λ l. l ++ zs) (sym (put_first y [] x (lt-ltb x.time y.time l)))
put_near (y ∷ w ∷ ws) zs x l = by (put_near (w ∷ ws) zs x l) (cases_of (nat_lt x.time y.time))
  where
    by : put_in_order ((w ∷ ws) ++ zs) x ≡ put_in_order (w ∷ ws) x ++ zs → (nat_lt x.time y.time ≡ true) ⊎ (nat_lt x.time y.time ≡ false) → put_in_order (y ∷ w ∷ ws ++ zs) x ≡ put_in_order (y ∷ w ∷ ws) x ++ zs
    by later (inl e) = put_first y ((w ∷ ws) ++ zs) x e ∙ ap (λ l. l ++ zs) (sym (put_first y (w ∷ ws) x e))
    by later (inr e) = put_behind y ((w ∷ ws) ++ zs) x e ∙ ap (λ l. y ∷ l) later ∙ ap (λ l. l ++ zs) (sym (put_behind y (w ∷ ws) x e))

-- ---- where a range covers all tuples, or misses them
pub covered : (low high : ℕ) (xs : List Kept) → TimesDoNotFall xs → (nat_le low (first_time xs) && nat_lt (last_time xs) high) ≡ true → within low high xs ≡ xs
covered low high xs h t =
    let both = and_parts (nat_le low (first_time xs)) (nat_lt (last_time xs) high) t in
    let from : low ≤ first_time xs = leb-true low (first_time xs) both.0 in
    let to : last_time xs < high = ltb-true (last_time xs) high both.1 in
    filter_all (is_within low high) xs
    (λ k d l.
    let lo = above_first xs h k d l in
    let hi = below_last xs h k d l in
    and_from (nat_le low _) (nat_lt _ high) (le-leb low _ (omega (arith, lo))) (lt-ltb _ high (omega (arith, hi))))

pub missed : (low high : ℕ) (xs : List Kept) → TimesDoNotFall xs → (nat_lt (last_time xs) low || nat_le high (first_time xs)) ≡ true → within low high xs ≡ []
missed low high xs h t =
    filter_none (is_within low high) xs
    (λ k d l. out (first_time xs) (last_time xs) _ (above_first xs h k d l) (below_last xs h k d l) t)
  where
    out : (first last time : ℕ) → first ≤ time → time ≤ last → (nat_lt last low || nat_le high first) ≡ true → (nat_le low time && nat_lt time high) ≡ false
    out first last time lo hi t = grind (arith, nat_tests)

-- ---- the tuples from a time on
pub stay_all : (time : ℕ) (xs : List Kept) → All (λ (y : Kept). time ≤ y.time) xs → filter (λ (y : Kept). nat_le time y.time) xs ≡ xs
stay_all time xs a = filter_all (λ (y : Kept). nat_le time y.time) xs (All-weaker (λ (y : Kept). time ≤ y.time) (λ y. nat_le time y.time ≡ true) (λ y l. le-leb time y.time l) xs a)

pub leave_all : (time : ℕ) (xs : List Kept) → All (λ (y : Kept). y.time < time) xs → filter (λ (y : Kept). nat_le time y.time) xs ≡ []
leave_all time xs a = filter_none (λ (y : Kept). nat_le time y.time) xs (All-weaker (λ (y : Kept). y.time < time) (λ y. nat_le time y.time ≡ false) (λ y l. lt-leb time y.time l) xs a)

pub some_stay : (time : ℕ) (xs : List Kept) → 0 < length xs → time ≤ last_time xs → 0 < length (filter (λ (y : Kept). nat_le time y.time) xs)
some_stay time [] l m = absurd (omega arith)
some_stay time (x ∷ []) l m = omega (arith, ap (λ b. length (cond b (x ∷ []) [])) (le-leb time x.time m))
some_stay time (x ∷ y ∷ ys) l m = by (some_stay time (y ∷ ys) (omega arith) m) (nat_le time x.time)
  where
    by : 0 < length (filter (λ (z : Kept). nat_le time z.time) (y ∷ ys)) → (b : Bool) → 0 < length (cond b (x ∷ filter (λ (z : Kept). nat_le time z.time) (y ∷ ys)) (filter (λ (z : Kept). nat_le time z.time) (y ∷ ys)))
    by rest true = omega arith
    by rest false = rest
