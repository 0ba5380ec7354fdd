-- Lists in order, and runs of tuples one behind another.
use Rattle.std.proofs.Common.{◌≡◌, ℕ, zero, suc, ◌+◌, ◌<◌, ◌≤◌, Bool, true, false, cond, List, [], ◌∷◌, ◌++◌, map, ap, refl, arith, inl, inr}
use Rattle.std.specs.declared.cmp.Ordering.TheVariants.{Less}
use Rattle.std.specs.List.{All, Contains}
use Rattle.std.specs.List.Sorted.{IsNonDecreasingBy, IsStrictlySortedBy}
use Rattle.std.specs.Ordering.{nat_cmp}
use Rattle.std.proofs.lemmas.List.Elements.{All-cons, All-nil, All-head, All-tail, All-weaker, All-from_recursion}
use Rattle.std.proofs.lemmas.Map.Keys.{sorted_head, sorted_tail}
use Rattle.stream_base.specs.declared.kept.Kept.{Kept}
use Rattle.stream_base.specs.Model.Windows.{first_time, last_time, glued, pieces_of}
use Rattle.stream_base.proofs.Distinct.{lt_from_less}
use Rattle.stream_base.proofs.Rising.{Contains-cons_cases, none_in_nil}
use Rattle.slice_lists.specs.Runs.{IsRun, IsPartFrom, AreParted}

-- ---- numbers that don't fall
module _ {X : Type 0} (n : X → ℕ) where
  pub nd_nil : IsNonDecreasingBy n []
  nd_nil i j d le l = absurd (omega arith)

  pub nd_cons : (x : X) (xs : List X) → All (λ y. n x ≤ n y) xs → IsNonDecreasingBy n xs → IsNonDecreasingBy n (x ∷ xs)
  nd_cons x xs a h zero zero d le l = omega arith
  nd_cons x xs a h zero (suc j) d le l = a j d (omega arith)
  nd_cons x xs a h (suc i) zero d le l = absurd (omega arith)
  nd_cons x xs a h (suc i) (suc j) d le l = h i j d (omega arith) (omega arith)

  pub nd_head : (x : X) (xs : List X) → IsNonDecreasingBy n (x ∷ xs) → All (λ y. n x ≤ n y) xs
  nd_head x xs h = λ k d l. h 0 (suc k) d (omega arith) (omega arith)

  pub nd_tail : (x : X) (xs : List X) → IsNonDecreasingBy n (x ∷ xs) → IsNonDecreasingBy n xs
  nd_tail x xs h i j d le l = h (suc i) (suc j) d (omega arith) (omega arith)

pub All-map_of : {X Y : Type 0} (P : Y → Type 0) (f : X → Y) (xs : List X) → All (λ x. P (f x)) xs → All P (map f xs)
All-map_of P f [] a = All-nil P
All-map_of P f (x ∷ xs) a = All-cons P (f x) (map f xs) (All-head (λ z. P (f z)) x xs a) (All-map_of P f xs (All-tail (λ z. P (f z)) x xs a))

pub nd_map : {X Y : Type 0} (n : Y → ℕ) (f : X → Y) (xs : List X) → IsNonDecreasingBy (λ x. n (f x)) xs → IsNonDecreasingBy n (map f xs)
nd_map n f [] h = nd_nil n
nd_map n f (x ∷ xs) h =
    nd_cons n (f x) (map f xs) (All-map_of (λ y. n (f x) ≤ n y) f xs (nd_head (λ z. n (f z)) x xs h)) (nd_map n f xs (nd_tail (λ z. n (f z)) x xs h))

-- numbers that rise don't fall, nor what rises with them
pub nd_sorted : (n : ℕ → ℕ) → ((a b : ℕ) → a < b → n a ≤ n b) → (xs : List ℕ) → IsStrictlySortedBy nat_cmp xs → IsNonDecreasingBy n xs
nd_sorted n mono [] s = nd_nil n
nd_sorted n mono (x ∷ xs) s =
    nd_cons n x xs
    (All-weaker (λ y. nat_cmp x y ≡ Less) (λ y. n x ≤ n y) (λ y e. mono x y (lt_from_less x y e)) xs (All-from_recursion (λ y. nat_cmp x y ≡ Less) xs (sorted_head nat_cmp x xs s)))
    (nd_sorted n mono xs (sorted_tail nat_cmp x xs s))

pub All-split : {X : Type 0} (P : X → Type 0) (xs ys : List X) → All P (xs ++ ys) → All P xs × All P ys
All-split P [] ys a = (All-nil P, a)
All-split P (x ∷ xs) ys a =
    let s : All P xs × All P ys = All-split P xs ys (All-tail P x (xs ++ ys) a) in
    (All-cons P x xs (All-head P x (xs ++ ys) a) s.0, s.1)

-- a list in order, in two parts
pub nd_split : {X : Type 0} (n : X → ℕ) (xs ys : List X) → IsNonDecreasingBy n (xs ++ ys) → IsNonDecreasingBy n xs × IsNonDecreasingBy n ys
nd_split n [] ys h = (nd_nil n, h)
nd_split n (x ∷ xs) ys h =
    let s : IsNonDecreasingBy n xs × IsNonDecreasingBy n ys = nd_split n xs ys (nd_tail n x (xs ++ ys) h) in
    (nd_cons n x xs (All-split (λ y. n x ≤ n y) xs ys (nd_head n x (xs ++ ys) h)).0 s.0, s.1)

-- all of one list lie at or below all of the next
pub nd_cross : {X : Type 0} (n : X → ℕ) (xs ys : List X) → IsNonDecreasingBy n (xs ++ ys) → All (λ x. All (λ y. n x ≤ n y) ys) xs
nd_cross n [] ys h = All-nil (λ x. All (λ y. n x ≤ n y) ys)
nd_cross n (x ∷ xs) ys h =
    All-cons (λ x. All (λ y. n x ≤ n y) ys) x xs (All-split (λ y. n x ≤ n y) xs ys (nd_head n x (xs ++ ys) h)).1 (nd_cross n xs ys (nd_tail n x (xs ++ ys) h))

-- a member has a part in front and a part behind
pub record IsAmid {X : Type 0} (xs : List X) (x : X) : Type 0 where
  pub front : List X
  pub back : List X
  pub is : xs ≡ front ++ x ∷ back

pub amid : {X : Type 0} (xs : List X) (x : X) → Contains xs x → IsAmid xs x
amid [] x c = absurd (none_in_nil x c)
amid (y ∷ ys) x c =
    elim (Contains-cons_cases y ys x c) [
      | inl e ↦ record { front = []; back = ys; is = ap (λ z. z ∷ ys) e }
      | inr d ↦ (let h : IsAmid ys x = amid ys x d in record { front = y ∷ h.front; back = h.back; is = ap (λ l. y ∷ l) h.is })
    ]

-- ---- runs of which each begins behind the last
module _ (near apart : ℕ → ℕ → Type 0) (gap : ℕ) (step : (a b : ℕ) → near a b → a ≤ b) (far : (a b : ℕ) → apart a b → a + gap ≤ b) where
  pub run_spans : (run : List Kept) → IsRun near run → All (λ x. (first_time run ≤ x.time) × (x.time ≤ last_time run)) run × (first_time run ≤ last_time run)
  run_spans [] r = absurd r
  run_spans (x ∷ []) r = (All-cons (λ (z : Kept). (x.time ≤ z.time) × (z.time ≤ x.time)) x [] (omega arith, omega arith) (All-nil (λ (z : Kept). (x.time ≤ z.time) × (z.time ≤ x.time))), omega arith)
  run_spans (x ∷ y ∷ ys) r =
      let s : All (λ (z : Kept). (y.time ≤ z.time) × (z.time ≤ last_time (y ∷ ys))) (y ∷ ys) × (y.time ≤ last_time (y ∷ ys)) = run_spans (y ∷ ys) r.1 in
      let l : x.time ≤ y.time = step x.time y.time r.0 in (
        All-cons (λ (z : Kept). (x.time ≤ z.time) × (z.time ≤ last_time (y ∷ ys))) x (y ∷ ys) (omega arith, omega (arith, s.1))
            (All-weaker (λ (z : Kept). (y.time ≤ z.time) × (z.time ≤ last_time (y ∷ ys))) (λ z. (x.time ≤ z.time) × (z.time ≤ last_time (y ∷ ys))) (λ z h. (omega (arith, h.0), h.1)) (y ∷ ys) s.0),
        omega (arith, s.1),
      )

  -- each later run begins at least the gap behind a run, and ends no earlier than it begins
  pub runs_behind : (run : List Kept) (runs : List (List Kept)) → AreParted near apart (run ∷ runs) → All (λ r. (last_time run + gap ≤ first_time r) × (first_time r ≤ last_time r)) runs
  runs_behind run [] a = All-nil (λ r. (last_time run + gap ≤ first_time r) × (first_time r ≤ last_time r))
  runs_behind run (next ∷ runs) a =
      let l : last_time run + gap ≤ first_time next = far (last_time run) (first_time next) a.1 in
      let m : first_time next ≤ last_time next = (run_spans next a.2.0).1 in
      All-cons (λ r. (last_time run + gap ≤ first_time r) × (first_time r ≤ last_time r)) next runs (l, m)
      (All-weaker (λ r. (last_time next + gap ≤ first_time r) × (first_time r ≤ last_time r)) (λ r. (last_time run + gap ≤ first_time r) × (first_time r ≤ last_time r)) (λ r h. (omega (arith, h.0), h.1)) runs (runs_behind next runs a.2))

  pub runs_are_runs : (runs : List (List Kept)) → AreParted near apart runs → All (IsRun near) runs
  runs_are_runs [] a = All-nil (IsRun near)
  runs_are_runs (run ∷ runs) a = All-cons (IsRun near) run runs a.0 (runs_are_runs runs a.2)

  -- the runs end one behind another
  pub ends_rise : (runs : List (List Kept)) → AreParted near apart runs → IsNonDecreasingBy last_time runs
  ends_rise [] a = nd_nil last_time
  ends_rise (run ∷ runs) a =
      nd_cons last_time run runs
      (All-weaker (λ r. (last_time run + gap ≤ first_time r) × (first_time r ≤ last_time r)) (λ r. last_time run ≤ last_time r) (λ r h. omega (arith, h.0, h.1)) runs (runs_behind run runs a))
      (ends_rise runs a.2)

  -- all runs in front of one end at least the gap before it begins
  pub runs_before : (front : List (List Kept)) (run : List Kept) (back : List (List Kept)) → AreParted near apart (front ++ run ∷ back) → All (λ r. (last_time r + gap ≤ first_time run) × (first_time r ≤ last_time r)) front
  runs_before [] run back a = All-nil (λ r. (last_time r + gap ≤ first_time run) × (first_time r ≤ last_time r))
  runs_before (r ∷ front) run back a =
      let h : All (λ q. (last_time r + gap ≤ first_time q) × (first_time q ≤ last_time q)) (front ++ run ∷ back) = runs_behind r (front ++ run ∷ back) a in
      let s : All (λ q. (last_time r + gap ≤ first_time q) × (first_time q ≤ last_time q)) front × All (λ q. (last_time r + gap ≤ first_time q) × (first_time q ≤ last_time q)) (run ∷ back) = All-split (λ q. (last_time r + gap ≤ first_time q) × (first_time q ≤ last_time q)) front (run ∷ back) h in
      All-cons (λ r. (last_time r + gap ≤ first_time run) × (first_time r ≤ last_time r)) r front
      ((All-head (λ q. (last_time r + gap ≤ first_time q) × (first_time q ≤ last_time q)) run back s.1).0, (run_spans r a.0).1)
      (runs_before front run back a.2)

-- ---- the pieces of a list in order are runs in order
module _ (cut : ℕ → ℕ → Bool) where
  abbrev pub IsNear : ℕ → ℕ → Type 0
  IsNear a b = (a ≤ b) × (cut a b ≡ false)

  abbrev pub IsApart : ℕ → ℕ → Type 0
  IsApart a b = (a ≤ b) × (cut a b ≡ true)

  begins_behind : (x y : Kept) (pieces : List (List Kept)) → x.time ≤ y.time → IsPartFrom (λ a b. a ≤ b) (x ∷ []) (glued (λ x y. cut x.time y.time) y pieces)
  begins_behind x y [] l = l
  begins_behind x y ([] ∷ pieces) l = l
  begins_behind x y ((z ∷ zs) ∷ pieces) l = by (cut y.time z.time)
    where
      by : (b : Bool) → IsPartFrom (λ a b. a ≤ b) (x ∷ []) (cond b ((y ∷ []) ∷ (z ∷ zs) ∷ pieces) ((y ∷ z ∷ zs) ∷ pieces))
      by true = l
      by false = l

  glued_in_order : (x : Kept) (pieces : List (List Kept)) → AreParted IsNear IsApart pieces → IsPartFrom (λ a b. a ≤ b) (x ∷ []) pieces → AreParted IsNear IsApart (glued (λ x y. cut x.time y.time) x pieces)
  glued_in_order x [] a l = (tt, tt, tt)
  glued_in_order x ([] ∷ pieces) a l = absurd a.0
  glued_in_order x ((y ∷ ys) ∷ pieces) a l = by (cut x.time y.time) refl
    where
      by : (b : Bool) → cut x.time y.time ≡ b → AreParted IsNear IsApart (cond b ((x ∷ []) ∷ (y ∷ ys) ∷ pieces) ((x ∷ y ∷ ys) ∷ pieces))
      by true e = (tt, (l, e), a)
      by false e = (((l, e), a.0), off pieces a.1, a.2)
        where
          off : (others : List (List Kept)) → IsPartFrom IsApart (y ∷ ys) others → IsPartFrom IsApart (x ∷ y ∷ ys) others
          off [] c = tt
          off (other ∷ others) c = c

  pub pieces_in_order : (kept : List Kept) → IsNonDecreasingBy (λ (x : Kept). x.time) kept → AreParted IsNear IsApart (pieces_of (λ x y. cut x.time y.time) kept)
  pieces_in_order [] h = tt
  pieces_in_order (x ∷ xs) h = glued_in_order x (pieces_of (λ x y. cut x.time y.time) xs) (pieces_in_order xs (nd_tail (λ (x : Kept). x.time) x xs h)) (first xs (nd_head (λ (x : Kept). x.time) x xs h))
    where
      first : (xs : List Kept) → All (λ (y : Kept). x.time ≤ y.time) xs → IsPartFrom (λ a b. a ≤ b) (x ∷ []) (pieces_of (λ x y. cut x.time y.time) xs)
      first [] a = tt
      first (y ∷ ys) a = begins_behind x y (pieces_of (λ x y. cut x.time y.time) ys) (All-head (λ (y : Kept). x.time ≤ y.time) y ys a)
