-- Sessions: those before and behind a place, by their first and last times.
use Rattle.std.proofs.Common.{◌≡◌, ◌∙◌, ℕ, zero, suc, ◌+◌, ◌-◌, ◌<◌, ◌≤◌, Bool, true, false, cond, List, [], ◌∷◌, ◌++◌, length, get_or, take, drop, map, ap, sym, refl, subst, arith, None, Some}
use Rattle.std.specs.Prelude.{nat_le, nat_lt}
use Rattle.std.specs.List.{All, find}
use Rattle.std.proofs.lemmas.Bool.{le-leb, lt-ltb, le-ltb, lt-leb}
use Rattle.std.proofs.lemmas.List.{drop_more, drop_all, map-append}
use Rattle.std.proofs.lemmas.List.Elements.{All-cons, All-nil, All-head, All-tail, All-map, All-weaker, All-contains}
use Rattle.stream_base.specs.declared.kept.Kept.{Kept}
use Rattle.stream_base.specs.Model.Windows.{glued, first_time, last_time, session, sessions}
use Rattle.stream_base.specs.Places.{IsPlaceOf}
use Rattle.plain_windows.specs.Runs.{is_apart, runs_of}
use Rattle.plain_windows.proofs.Found.{find_behind, find_at, find_here, find_none}
use Rattle.plain_windows.proofs.PlaceFacts.{all_before, all_in_front, all_where_none_behind}
use Rattle.plain_windows.proofs.PieceFacts.{HasHead, pieces_head}
use Rattle.plain_windows.proofs.RankFacts.{last_of_part}

-- the first of some tuples in the middle of a list
pub first_of_part : (kept : List Kept) (first count : ℕ) (d : Kept) → 1 ≤ count → first < length kept → first_time (take count (drop first kept)) ≡ (get_or kept first d).time
first_of_part kept first zero d some within = absurd (omega arith)
first_of_part kept first (suc n) d some within = ap (λ l. first_time (take (suc n) l)) (drop_more kept first d within)

module _ (gap from : ℕ) where
  -- some runs in front of others, each of which begins before a time
  record BeginEarly (runs tail : List (List Kept)) : Type 0 where
    first : List Kept
    more : List (List Kept)
    is : runs ≡ first ∷ (more ++ tail)
    early : All (λ run. first_time run < from) (first ∷ more)

  glued_early : (x : Kept) (first : List Kept) (more tail : List (List Kept)) → x.time < from → All (λ run. first_time run < from) (first ∷ more) → BeginEarly (glued (is_apart gap) x (first ∷ (more ++ tail))) tail
  glued_early x [] more tail l h = record { first = x ∷ []; more = more; is = refl; early = All-cons (λ run. first_time run < from) (x ∷ []) more l (All-tail (λ run. first_time run < from) [] more h) }
  glued_early x (y ∷ ys) more tail l h = by (is_apart gap x y)
    where
      by : (b : Bool) → BeginEarly (cond b ((x ∷ []) ∷ (y ∷ ys) ∷ (more ++ tail)) ((x ∷ y ∷ ys) ∷ (more ++ tail))) tail
      by true = record { first = x ∷ []; more = (y ∷ ys) ∷ more; is = refl; early = All-cons (λ run. first_time run < from) (x ∷ []) ((y ∷ ys) ∷ more) l h }
      by false = record { first = x ∷ y ∷ ys; more = more; is = refl; early = All-cons (λ run. first_time run < from) (x ∷ y ∷ ys) more l (All-tail (λ run. first_time run < from) (y ∷ ys) more h) }

  -- the runs up to that of the tuple at a place begin before a time, where the tuples up to that place do
  runs_early : (kept : List Kept) (place : ℕ) (run : List Kept) (tail : List (List Kept)) → place < length kept → All (λ x. x.time < from) (take (suc place) kept) → runs_of gap (drop place kept) ≡ run ∷ tail → BeginEarly (runs_of gap kept) tail
  runs_early [] place run tail l h e = absurd (omega arith)
  runs_early (x ∷ xs) zero run tail l h e =
      let head : HasHead (is_apart gap) x (runs_of gap (x ∷ xs)) = pieces_head (is_apart gap) x xs in
      let same : run ≡ x ∷ head.run = cc (e, head.is) in
      record {
        first = run;
        more = [];
        is = e;
        early = All-cons (λ run. first_time run < from) run [] (subst (λ r. first_time r < from) (sym same) (All-head (λ (y : Kept). y.time < from) x [] h)) (All-nil (λ run. first_time run < from));
      }
  runs_early (x ∷ xs) (suc place) run tail l h e =
      let later : BeginEarly (runs_of gap xs) tail = runs_early xs place run tail (omega arith) (All-tail (λ (y : Kept). y.time < from) x (take (suc place) xs) h) e in
      subst (λ runs. BeginEarly (glued (is_apart gap) x runs) tail) (sym later.is)
      (glued_early x later.first later.more tail (All-head (λ (y : Kept). y.time < from) x (take (suc place) xs) h) later.early)

  -- no session starts at or after a time up to the end of that of the last tuple before the time
  pub sessions_behind : (kept : List Kept) (place end : ℕ) (run : List Kept) → place < length kept → IsPlaceOf (λ (x : Kept). x.time) kept from (suc place) → runs_of gap (drop place kept) ≡ run ∷ runs_of gap (drop end kept) → find (λ i. nat_le from i.low) (sessions gap kept) ≡ find (λ i. nat_le from i.low) (sessions gap (drop end kept))
  sessions_behind kept place end run l at e =
      let front : BeginEarly (runs_of gap kept) (runs_of gap (drop end kept)) = runs_early kept place run (runs_of gap (drop end kept)) l (all_before (λ (x : Kept). x.time) kept from (suc place) at) e in
      let none : All (λ i. nat_le from i.low ≡ false) (map (session gap) (front.first ∷ front.more)) = All-map (λ i. nat_le from i.low ≡ false) (session gap) (front.first ∷ front.more) (All-weaker (λ run. first_time run < from) (λ run. nat_le from (first_time run) ≡ false) (λ run h. lt-leb from (first_time run) h) (front.first ∷ front.more) front.early) in
      ap (λ runs. find (λ i. nat_le from i.low) (map (session gap) runs)) front.is
      ∙ ap (find (λ i. nat_le from i.low)) (map-append (session gap) (front.first ∷ front.more) (runs_of gap (drop end kept)))
      ∙ find_behind (λ i. nat_le from i.low) (map (session gap) (front.first ∷ front.more)) (sessions gap (drop end kept)) none

  -- the session that begins at a place at or behind the time
  pub session_at : (kept : List Kept) (place first end : ℕ) (d : Kept) → IsPlaceOf (λ (x : Kept). x.time) kept from place → place ≤ first → first < end → end ≤ length kept → runs_of gap (drop first kept) ≡ take (end - first) (drop first kept) ∷ runs_of gap (drop end kept) → find (λ i. nat_le from i.low) (sessions gap (drop first kept)) ≡ Some (session gap (take (end - first) (drop first kept)))
  session_at kept place first end d at behind some within e =
      let start : first_time (take (end - first) (drop first kept)) ≡ (get_or kept first d).time = first_of_part kept first (end - first) d (omega arith) (omega arith) in
      let late : from ≤ (get_or kept first d).time = at.behind first d behind (omega arith) in
      ap (λ runs. find (λ i. nat_le from i.low) (map (session gap) runs)) e
      ∙ find_here (λ i. nat_le from i.low) (session gap (take (end - first) (drop first kept))) (sessions gap (drop end kept)) (le-leb from (first_time (take (end - first) (drop first kept))) (omega arith))

  -- behind the last tuple no session starts
  pub no_session_behind : (kept : List Kept) (first : ℕ) → length kept ≤ first → find (λ i. nat_le from i.low) (sessions gap (drop first kept)) ≡ None
  no_session_behind kept first le = ap (λ l. find (λ i. nat_le from i.low) (sessions gap l)) (drop_all first kept le)

-- what holds of the times of tuples holds of the last times of their runs
module _ (gap : ℕ) (P : ℕ → Type 0) where
  glued_ends : (x : Kept) (runs : List (List Kept)) → P x.time → All (λ run. P (last_time run)) runs → All (λ run. P (last_time run)) (glued (is_apart gap) x runs)
  glued_ends x [] p h = All-cons (λ run. P (last_time run)) (x ∷ []) [] p h
  glued_ends x ([] ∷ runs) p h = All-cons (λ run. P (last_time run)) (x ∷ []) runs p (All-tail (λ run. P (last_time run)) [] runs h)
  glued_ends x ((y ∷ ys) ∷ runs) p h = by (is_apart gap x y)
    where
      by : (b : Bool) → All (λ run. P (last_time run)) (cond b ((x ∷ []) ∷ (y ∷ ys) ∷ runs) ((x ∷ y ∷ ys) ∷ runs))
      by true = All-cons (λ run. P (last_time run)) (x ∷ []) ((y ∷ ys) ∷ runs) p h
      by false = All-cons (λ run. P (last_time run)) (x ∷ y ∷ ys) runs (All-head (λ run. P (last_time run)) (y ∷ ys) runs h) (All-tail (λ run. P (last_time run)) (y ∷ ys) runs h)

  runs_end : (xs : List Kept) → All (λ x. P x.time) xs → All (λ run. P (last_time run)) (runs_of gap xs)
  runs_end [] h = All-nil (λ run. P (last_time run))
  runs_end (x ∷ xs) h = glued_ends x (runs_of gap xs) (All-head (λ (y : Kept). P y.time) x xs h) (runs_end xs (All-tail (λ (y : Kept). P y.time) x xs h))

module _ (gap : ℕ) (some : 1 ≤ gap) (water time : ℕ) (is : time ≡ water - (gap - 1)) where
  ends_early : (last : ℕ) → last < time → nat_lt water (last + gap) ≡ false
  ends_early last l = le-ltb water (last + gap) (omega arith)

  ends_late : (last : ℕ) → time ≤ last → nat_lt water (last + gap) ≡ true
  ends_late last l = lt-ltb water (last + gap) (omega arith)

  sessions_end : (xs : List Kept) → All (λ x. x.time < time) xs → All (λ i. nat_lt water i.bound ≡ false) (sessions gap xs)
  sessions_end xs h = All-map (λ i. nat_lt water i.bound ≡ false) (session gap) (runs_of gap xs) (All-weaker (λ run. last_time run < time) (λ run. nat_lt water (last_time run + gap) ≡ false) (λ run l. ends_early (last_time run) l) (runs_of gap xs) (runs_end gap (λ t. t < time) xs h))

  module _ (kept : List Kept) (place : ℕ) (at : IsPlaceOf (λ (x : Kept). x.time) kept time place) where
    pub no_session_above : length kept ≤ place → find (λ i. nat_lt water i.bound) (sessions gap kept) ≡ None
    no_session_above le =
        let none : All (λ i. nat_lt water i.bound ≡ false) (sessions gap kept) = sessions_end kept (all_where_none_behind (λ (x : Kept). x.time) kept time place le at) in
        find_none (λ i. nat_lt water i.bound) (sessions gap kept) (λ i c. All-contains (λ i. nat_lt water i.bound ≡ false) (sessions gap kept) i none c)

    -- the session that holds the first tuple at or after the time
    pub session_above : (first end : ℕ) (d : Kept) → first ≤ place → place < end → end ≤ length kept → runs_of gap kept ≡ runs_of gap (take first kept) ++ take (end - first) (drop first kept) ∷ runs_of gap (drop end kept) → find (λ i. nat_lt water i.bound) (sessions gap kept) ≡ Some (session gap (take (end - first) (drop first kept)))
    session_above first end d before behind within e =
        let run = take (end - first) (drop first kept) in
        let early : All (λ x. x.time < time) (take first kept) = all_in_front (λ (x : Kept). x.time) kept time place first before at in
        let last : last_time (take (end - first) (drop first kept)) ≡ (get_or kept (first + (end - first) - 1) d).time = last_of_part kept first (end - first) d (omega arith) (omega arith) in
        let late : time ≤ (get_or kept (first + (end - first) - 1) d).time = at.behind (first + (end - first) - 1) d (omega arith) (omega arith) in
        ap (λ runs. find (λ i. nat_lt water i.bound) (map (session gap) runs)) e
        ∙ ap (find (λ i. nat_lt water i.bound)) (map-append (session gap) (runs_of gap (take first kept)) (run ∷ runs_of gap (drop end kept)))
        ∙ find_at (λ i. nat_lt water i.bound) (sessions gap (take first kept)) (session gap run) (sessions gap (drop end kept)) (sessions_end (take first kept) early) (ends_late (last_time run) (omega arith))
