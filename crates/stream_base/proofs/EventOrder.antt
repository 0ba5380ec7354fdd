-- What is kept of a key: in event order, and the accepted tuples of the key, each once.
use Rattle.std.proofs.Common.{◌≡◌, ℕ, suc, ◌+◌, ◌<◌, ◌≤◌, Bool, true, false, cond, not, List, [], ◌∷◌, ◌++◌, length, get_or, ap, sym, refl, subst, ⊎_elim, arith, Option, None, Some, append_assoc}
use Rattle.std.specs.Prelude.{insert, nat_lt}
use Rattle.std.specs.declared.cmp.Ordering.TheVariants.{Less}
use Rattle.std.specs.Cmp.{IsTotalOrder}
use Rattle.std.specs.List.{All, position_or_len}
use Rattle.std.specs.List.Sorted.{IsPermutation}
use Rattle.std.specs.Option.{option_map_or}
use Rattle.std.specs.Ordering.{nat_cmp, ordering_then}
use Rattle.std.specs.Str.{bytes_eq}
use Rattle.std.proofs.lemmas.Bool.{ltb-true, ltb-false, cases_eq}
use Rattle.std.proofs.lemmas.Bool.Decides.{nat_tests}
use Rattle.std.proofs.lemmas.Cmp.{nat_cmp_total, on_total, then_total}
use Rattle.std.proofs.lemmas.List.{append-nil, length_push}
use Rattle.std.proofs.lemmas.List.Elements.{All-from_recursion, All-cons, All-nil, All-head, All-tail, All-weaker}
use Rattle.std.proofs.lemmas.List.Sorted.{IsPermutation-refl, IsPermutation-cons, IsPermutation-to_front, IsPermutation-insert, IsPermutation-trans}
use Rattle.std.proofs.lemmas.List.Sums.{fold_push}
use Rattle.std.proofs.lemmas.Map.Keys.{sorted_head, sorted_tail, Less-from_sorted}
use Rattle.stream_base.specs.declared.entry.Entry.{Entry}
use Rattle.stream_base.specs.declared.kept.Kept.{Kept}
use Rattle.stream_base.specs.declared.what.What.{What}
use Rattle.stream_base.specs.declared.what.What.TheVariants.{Tuple, Mark, Water, Idle, End}
use Rattle.stream_base.specs.Model.Journal.{on_time, tuples_in, put_in_order, in_event_order, kept_of}
use Rattle.stream_base.specs.Model.Watermark.{water_of}
use Rattle.stream_base.specs.Model.What.{is_late, tuple_in}
use Rattle.stream_base.specs.Laws.{accepted_tuple, by_time_and_position, AreInEventOrder, TimesDoNotFall}
use Rattle.stream_base.proofs.Rising.{sorted_cons, sorted_nil}
use Rattle.stream_base.proofs.Growing.{kept_of_push, kept_of_nil}

-- what holds of no element, and of one element more, holds of each list
pub from_the_front : {X : Type 0} (P : List X → Type 0) → P [] → ((xs : List X) (x : X) → P xs → P (xs ++ x ∷ [])) → (xs : List X) → P xs
from_the_front {X} P none more xs = behind [] xs none
  where
    behind : (before rest : List X) → P before → P (before ++ rest)
    behind before [] h = subst P (sym (append-nil before)) h
    behind before (x ∷ rest) h = subst P (append_assoc before (x ∷ []) rest) (behind (before ++ x ∷ []) rest (more before x h))

-- a tuple put in order, at the front or behind the first
pub put_in_order_cons : (y : Kept) (ys : List Kept) (x : Kept) → put_in_order (y ∷ ys) x ≡ cond (nat_lt x.time y.time) (x ∷ y ∷ ys) (y ∷ put_in_order ys x)
put_in_order_cons y ys x = by (nat_lt x.time y.time) (position_or_len (λ (z : Kept). nat_lt x.time z.time) ys)
  where
    by : (b : Bool) (n : ℕ) → insert (y ∷ ys) (cond (not b) (1 + n) 0) x ≡ cond b (x ∷ y ∷ ys) (y ∷ insert ys n x)
    by true n = refl
    by false n = let next : 1 + n ≡ suc n = omega arith in ap (λ k. insert (y ∷ ys) k x) next

pub event_order_total : IsTotalOrder by_time_and_position
event_order_total = then_total (on_total (λ (x : Kept). x.time) nat_cmp_total) (on_total (λ (x : Kept). x.position) nat_cmp_total)

before_at_later_time : (x y : Kept) → x.time < y.time → by_time_and_position x y ≡ Less
before_at_later_time x y h = let e : nat_cmp x.time y.time ≡ Less = less x.time y.time h in ap (λ o. ordering_then o (nat_cmp x.position y.position)) e
  where
    less : (a b : ℕ) → a < b → nat_cmp a b ≡ Less
    less a b h = grind (arith, nat_tests)

then_less : (a b c d : ℕ) → a ≤ b → c < d → ordering_then (nat_cmp a b) (nat_cmp c d) ≡ Less
then_less a b c d h l = grind (arith, nat_tests)

not_after : (a b c d : ℕ) → ordering_then (nat_cmp a b) (nat_cmp c d) ≡ Less → a ≤ b
not_after a b c d h = grind (arith, nat_tests)

pub All_put : (P : Kept → Type 0) (kept : List Kept) (x : Kept) → All P kept → P x → All P (put_in_order kept x)
All_put P [] x a p = All-cons P x [] p a
All_put P (y ∷ ys) x a p =
    subst (All P) (sym (put_in_order_cons y ys x)) (by (nat_lt x.time y.time) (All_put P ys x (All-tail P y ys a) p))
  where
    by : (b : Bool) → All P (put_in_order ys x) → All P (cond b (x ∷ y ∷ ys) (y ∷ put_in_order ys x))
    by true later = All-cons P x (y ∷ ys) p a
    by false later = All-cons P y (put_in_order ys x) (All-head P y ys a) later

-- a tuple of a later position is put at its place
pub put_in_event_order : (kept : List Kept) (x : Kept) → AreInEventOrder kept → All (λ y. y.position < x.position) kept → AreInEventOrder (put_in_order kept x)
put_in_event_order [] x s older = sorted_cons event_order_total x [] (All-nil (λ y. by_time_and_position x y ≡ Less)) s
put_in_event_order (y ∷ ys) x s older =
    subst AreInEventOrder (sym (put_in_order_cons y ys x))
    (by (nat_lt x.time y.time) refl (put_in_event_order ys x (sorted_tail by_time_and_position y ys s) (All-tail (λ z. z.position < x.position) y ys older)))
  where
    above : All (λ z. by_time_and_position y z ≡ Less) ys
    above = All-from_recursion (λ z. by_time_and_position y z ≡ Less) ys (sorted_head by_time_and_position y ys s)

    by : (b : Bool) → nat_lt x.time y.time ≡ b → AreInEventOrder (put_in_order ys x) → AreInEventOrder (cond b (x ∷ y ∷ ys) (y ∷ put_in_order ys x))
    by true e later =
        let first : by_time_and_position x y ≡ Less = before_at_later_time x y (ltb-true x.time y.time e) in
        sorted_cons event_order_total x (y ∷ ys)
        (All-cons (λ z. by_time_and_position x z ≡ Less) y ys first (All-weaker (λ z. by_time_and_position y z ≡ Less) (λ z. by_time_and_position x z ≡ Less) (λ z l. event_order_total.trans x y z first l) ys above)) s
    by false e later =
        sorted_cons event_order_total y (put_in_order ys x)
        (All_put (λ z. by_time_and_position y z ≡ Less) ys x above (then_less y.time x.time y.position x.position (ltb-false x.time y.time e) (All-head (λ z. z.position < x.position) y ys older)))
        later

-- the position of a tuple that a journal's next entry is
pub position_of_tuple : (key : List ℕ) (position : ℕ) (what : What) (x : Kept) → tuple_in key position what ≡ Some x → x.position ≡ position
position_of_tuple key position (Tuple of time value) x h = by (bytes_eq of key) h
  where
    by : (b : Bool) → cond b (Some (record { position = position; time = time; value = value })) None ≡ Some x → x.position ≡ position
    by true e = let same : record { position = position; time = time; value = value } ≡ x = cc in sym (ap (λ (z : Kept). z.position) same)
    by false e = cc
position_of_tuple key position (Mark of time) x h = cc
position_of_tuple key position (Water time) x h = cc
position_of_tuple key position Idle x h = cc
position_of_tuple key position End x h = cc

record IsKeptOf (kept : List Kept) (journal : List Entry) : Type 0 where
  in_order : AreInEventOrder kept
  older : All (λ x. x.position < length journal) kept

one_put : (kept : List Kept) (journal : List Entry) (e : Entry) (o : Option Kept) → ((x : Kept) → o ≡ Some x → x.position ≡ length journal) → IsKeptOf kept journal → IsKeptOf (option_map_or (put_in_order kept) o kept) (journal ++ e ∷ [])
one_put kept journal e None at h = record {
  in_order = h.in_order;
  older = All-weaker (λ (x : Kept). x.position < length journal) (λ x. x.position < length (journal ++ e ∷ [])) (λ x l. omega (arith, length_push journal e)) kept h.older;
}
one_put kept journal e (Some x) at h =
    let here : x.position ≡ length journal = at x refl in
    record {
      in_order = put_in_event_order kept x h.in_order (All-weaker (λ (y : Kept). y.position < length journal) (λ y. y.position < x.position) (λ y l. omega arith) kept h.older);
      older = All_put (λ y. y.position < length (journal ++ e ∷ [])) kept x (All-weaker (λ (y : Kept). y.position < length journal) (λ y. y.position < length (journal ++ e ∷ [])) (λ y l. omega (arith, length_push journal e)) kept h.older) (omega (arith, length_push journal e));
    }

module _ (lateness sources : ℕ) (key : List ℕ) where
  accepted_position : (journal : List Entry) (e : Entry) (x : Kept) → accepted_tuple lateness sources key journal e ≡ Some x → x.position ≡ length journal
  accepted_position journal e x h = by (is_late lateness (water_of sources journal) e.what) h
    where
      by : (b : Bool) → cond b None (tuple_in key (length journal) e.what) ≡ Some x → x.position ≡ length journal
      by true g = cc
      by false g = position_of_tuple key (length journal) e.what x g

  kept_is_kept : (journal : List Entry) → IsKeptOf (kept_of lateness sources key journal) journal
  kept_is_kept journal =
      from_the_front (λ j. IsKeptOf (kept_of lateness sources key j) j)
      (subst (λ k. IsKeptOf k []) (sym (kept_of_nil lateness sources key)) (record { in_order = sorted_nil event_order_total; older = All-nil (λ x. x.position < 0) }))
      (λ j e h. subst (λ k. IsKeptOf k (j ++ e ∷ [])) (sym (kept_of_push lateness sources key j e)) (one_put (kept_of lateness sources key j) j e (accepted_tuple lateness sources key j e) (accepted_position j e) h))
      journal

  -- what is kept is in event order
  pub kept_in_event_order : (journal : List Entry) → AreInEventOrder (kept_of lateness sources key journal)
  kept_in_event_order journal = (kept_is_kept journal).in_order

  pub kept_positions_below : (journal : List Entry) → All (λ x. x.position < length journal) (kept_of lateness sources key journal)
  kept_positions_below journal = (kept_is_kept journal).older

-- tuples in event order are in the order of their times
pub times_do_not_fall : (kept : List Kept) → AreInEventOrder kept → TimesDoNotFall kept
times_do_not_fall kept s i j d le l =
    ⊎_elim
    (λ e. omega (arith, ap (λ k. (get_or kept k d).time) e))
    (λ ne. not_after (get_or kept i d).time (get_or kept j d).time (get_or kept i d).position (get_or kept j d).position (Less-from_sorted by_time_and_position kept i j d s (omega arith) l))
    (cases_eq i j)

pub kept_times_do_not_fall : (lateness sources : ℕ) (key : List ℕ) (journal : List Entry) → TimesDoNotFall (kept_of lateness sources key journal)
kept_times_do_not_fall lateness sources key journal = times_do_not_fall (kept_of lateness sources key journal) (kept_in_event_order lateness sources key journal)

-- what is in event order holds the arrivals
pub event_order_permutes : (arrivals : List Kept) → IsPermutation arrivals (in_event_order arrivals)
event_order_permutes arrivals =
    from_the_front (λ xs. IsPermutation xs (in_event_order xs)) (IsPermutation-refl [])
    (λ xs x h. subst (IsPermutation (xs ++ x ∷ [])) (sym (fold_push put_in_order [] xs x))
    (IsPermutation-trans (xs ++ x ∷ []) (x ∷ xs) (put_in_order (in_event_order xs) x) (IsPermutation-to_front xs x)
    (IsPermutation-trans (x ∷ xs) (x ∷ in_event_order xs) (put_in_order (in_event_order xs) x) (IsPermutation-cons x xs (in_event_order xs) h) (IsPermutation-insert (in_event_order xs) _ x))))
    arrivals

pub kept_permutes : (lateness sources : ℕ) (key : List ℕ) (journal : List Entry) → IsPermutation (tuples_in key (on_time lateness sources journal)) (kept_of lateness sources key journal)
unfolding kept_of
kept_permutes lateness sources key journal = event_order_permutes (tuples_in key (on_time lateness sources journal))
