-- Slices in order: the times of their tuples, and one tuple more among them.
use Rattle.std.proofs.Common.{◌≡◌, ◌∙◌, ℕ, zero, suc, ◌<◌, ◌≤◌, true, false, List, [], ◌∷◌, ◌++◌, ap, sym, refl, subst, arith, inl, inr}
use Rattle.std.specs.Prelude.{◌⊎◌, nat_lt}
use Rattle.std.specs.List.{All}
use Rattle.std.proofs.lemmas.Bool.{ltb-false, lt-ltb, le-ltb}
use Rattle.std.proofs.lemmas.List.Concat.{flat_map-append}
use Rattle.std.proofs.lemmas.List.Elements.{All-cons, All-nil, All-head, All-tail, All-weaker, All-contains, All-append}
use Rattle.stream_base.specs.declared.kept.Kept.{Kept}
use Rattle.stream_base.specs.Laws.{TimesDoNotFall}
use Rattle.stream_base.specs.Model.Journal.{put_in_order}
use Rattle.stream_base.specs.Model.Windows.{first_time, last_time}
use Rattle.stream_base.proofs.Members.{Contains-insert_new}
use Rattle.slice_lists.specs.Runs.{AreInOrder, IsPartFrom, IsRun}
use Rattle.stream_base.proofs.Filters.{cases_of}
use Rattle.slice_lists.proofs.RunFacts.{put_first, put_behind}
use Rattle.slice_lists.proofs.RunEdits.{parted}
use Rattle.slice_lists.specs.Slices.{joined}

abbrev pub IsNear : ℕ → ℕ → Type 0
IsNear a b = a ≤ b

abbrev pub IsApart : ℕ → ℕ → Type 0
IsApart a b = a < b

-- times of a run, and of runs in order
pub run_below_last : (run : List Kept) → IsRun IsNear run → All (λ y. y.time ≤ last_time run) run
run_below_last [] r = absurd r
run_below_last (x ∷ []) r = All-cons (λ y. y.time ≤ x.time) x [] (omega arith) (All-nil (λ y. y.time ≤ x.time))
run_below_last (x ∷ y ∷ ys) r =
    let h : All (λ z. z.time ≤ last_time (y ∷ ys)) (y ∷ ys) = run_below_last (y ∷ ys) r.1 in
    All-cons (λ z. z.time ≤ last_time (y ∷ ys)) x (y ∷ ys) (let g : y.time ≤ last_time (y ∷ ys) = All-head (λ z. z.time ≤ last_time (y ∷ ys)) y ys h in omega (arith, r.0)) h

pub first_below_last : (run : List Kept) → IsRun IsNear run → first_time run ≤ last_time run
first_below_last [] r = absurd r
first_below_last (x ∷ xs) r = All-head (λ z. z.time ≤ last_time (x ∷ xs)) x xs (run_below_last (x ∷ xs) r)

pub run_above_first : (run : List Kept) → IsRun IsNear run → All (λ y. first_time run ≤ y.time) run
run_above_first [] r = absurd r
run_above_first (x ∷ []) r = All-cons (λ y. x.time ≤ y.time) x [] (omega arith) (All-nil (λ y. x.time ≤ y.time))
run_above_first (x ∷ y ∷ ys) r =
    All-cons (λ z. x.time ≤ z.time) x (y ∷ ys) (omega arith)
    (All-weaker (λ (z : Kept). y.time ≤ z.time) (λ z. x.time ≤ z.time) (λ z l. let g : x.time ≤ y.time = r.0 in omega arith) (y ∷ ys) (run_above_first (y ∷ ys) r.1))

falls_cons : (x : Kept) (ys : List Kept) → All (λ y. x.time ≤ y.time) ys → TimesDoNotFall ys → TimesDoNotFall (x ∷ ys)
falls_cons x ys a h zero zero d le l = omega arith
falls_cons x ys a h zero (suc j) d le l = a j d (omega arith)
falls_cons x ys a h (suc i) zero d le l = absurd (omega arith)
falls_cons x ys a h (suc i) (suc j) d le l = h i j d (omega arith) (omega arith)

run_and_more : (run : List Kept) (zs : List Kept) → IsRun IsNear run → TimesDoNotFall zs → All (λ z. last_time run ≤ z.time) zs → TimesDoNotFall (run ++ zs) × All (λ z. first_time run ≤ z.time) (run ++ zs)
run_and_more [] zs r t a = absurd r
run_and_more (x ∷ []) zs r t a = (falls_cons x zs a t, All-cons (λ z. x.time ≤ z.time) x zs (omega arith) a)
run_and_more (x ∷ y ∷ ys) zs r t a =
    let h = run_and_more (y ∷ ys) zs r.1 t a in
    let later : All (λ z. x.time ≤ z.time) (y ∷ ys ++ zs) = All-weaker (λ (z : Kept). y.time ≤ z.time) (λ z. x.time ≤ z.time) (λ z l. let g : x.time ≤ y.time = r.0 in omega arith) (y ∷ ys ++ zs) h.1 in
    (falls_cons x (y ∷ ys ++ zs) later h.0, All-cons (λ z. x.time ≤ z.time) x (y ∷ ys ++ zs) (omega arith) later)

-- all later tuples are at or after the first of the first slice
abbrev AreFromFirst : List (List Kept) → Type 0
AreFromFirst [] = Unit {0}
AreFromFirst (run ∷ runs) = All (λ (z : Kept). first_time run ≤ z.time) (run ++ joined runs)

later : (run : List Kept) (runs : List (List Kept)) → IsPartFrom IsApart run runs → AreFromFirst runs → All (λ z. last_time run ≤ z.time) (joined runs)
later run [] p a = All-nil (λ z. last_time run ≤ z.time)
later run (next ∷ runs) p a = All-weaker (λ (z : Kept). first_time next ≤ z.time) (λ z. last_time run ≤ z.time) (λ z l. let g : last_time run < first_time next = p in omega arith) (next ++ joined runs) a

-- the tuples of slices in order are in the order of their times
in_order : (runs : List (List Kept)) → AreInOrder runs → TimesDoNotFall (joined runs) × AreFromFirst runs
in_order [] a = (λ i j d le l. absurd (omega arith), tt)
in_order (run ∷ runs) a =
    let h = in_order runs a.2 in
    run_and_more run (joined runs) a.0 h.0 (later run runs a.1 h.1)

pub times_of_order : (runs : List (List Kept)) → AreInOrder runs → TimesDoNotFall (joined runs)
times_of_order runs a = (in_order runs a).0

-- what stands before a slice lies before its first tuple
pub reach : (run : List Kept) (before : List (List Kept)) (q : List Kept) (behind : List (List Kept)) → IsPartFrom IsApart run (before ++ q ∷ behind) → AreInOrder (before ++ q ∷ behind) → last_time run < first_time q
reach run [] q behind p a = p
reach run (next ∷ before) q behind p a =
    let f : first_time next ≤ last_time next = first_below_last next a.0 in
    let g : last_time next < first_time q = reach next before q behind a.1 a.2 in
    let h : last_time run < first_time next = p in
    omega arith

pub below_slice : (before : List (List Kept)) (q : List Kept) (behind : List (List Kept)) → AreInOrder (before ++ q ∷ behind) → All (λ y. y.time < first_time q) (joined before)
below_slice [] q behind a = All-nil (λ y. y.time < first_time q)
below_slice (run ∷ before) q behind a =
    let g : last_time run < first_time q = reach run before q behind a.1 a.2 in
    All-append (λ y. y.time < first_time q) run (joined before)
    (All-weaker (λ (y : Kept). y.time ≤ last_time run) (λ y. y.time < first_time q) (λ y l. omega arith) run (run_below_last run a.0))
    (below_slice before q behind a.2)

-- the first of the tuples, if there is one, is later
abbrev IsLater : Kept → List Kept → Type 0
IsLater x [] = Unit {0}
IsLater x (z ∷ zs) = x.time < z.time

behind_later : (x : Kept) (q : List Kept) (behind : List (List Kept)) → x.time ≤ last_time q → IsPartFrom IsApart q behind → AreInOrder behind → IsLater x (joined behind)
behind_later x q [] l p a = tt
behind_later x q ([] ∷ behind) l p a = absurd a.0
behind_later x q ((z ∷ zs) ∷ behind) l p a = let g : last_time q < z.time = p in omega arith

pub put_far : (ys zs : List Kept) (x : Kept) → All (λ y. y.time ≤ x.time) ys → put_in_order (ys ++ zs) x ≡ ys ++ put_in_order zs x
put_far [] zs x a = refl
put_far (y ∷ ys) zs x a =
    let h : y.time ≤ x.time = All-head (λ (y : Kept). y.time ≤ x.time) y ys a in
    put_behind y (ys ++ zs) x (le-ltb x.time y.time h) ∙ ap (λ l. y ∷ l) (put_far ys zs x (All-tail (λ (y : Kept). y.time ≤ x.time) y ys a))

put_near : (p zs : List Kept) (x : Kept) → IsLater x zs → put_in_order (p ++ zs) x ≡ put_in_order p x ++ zs
put_near [] [] x l = refl
put_near [] (z ∷ zs) x l = put_first z zs x (lt-ltb x.time z.time l)
put_near (y ∷ p) zs x l = by (cases_of (nat_lt x.time y.time)) (put_near p zs x l)
  where
    by : (nat_lt x.time y.time ≡ true) ⊎ (nat_lt x.time y.time ≡ false) → put_in_order (p ++ zs) x ≡ put_in_order p x ++ zs → put_in_order (y ∷ p ++ zs) x ≡ put_in_order (y ∷ p) x ++ zs
    by (inl e) h = put_first y (p ++ zs) x e ∙ ap (λ l. l ++ zs) (sym (put_first y p x e))
    by (inr e) h = put_behind y (p ++ zs) x e ∙ ap (λ l. y ∷ l) h ∙ ap (λ l. l ++ zs) (sym (put_behind y p x e))

pub first_of_put : (p : List Kept) (x : Kept) → first_time (put_in_order p x) ≤ x.time
first_of_put [] x = omega arith
first_of_put (y ∷ p) x = by (cases_of (nat_lt x.time y.time))
  where
    by : (nat_lt x.time y.time ≡ true) ⊎ (nat_lt x.time y.time ≡ false) → first_time (put_in_order (y ∷ p) x) ≤ x.time
    by (inl e) = subst (λ l. first_time l ≤ x.time) (sym (put_first y p x e)) (omega arith)
    by (inr e) = subst (λ l. first_time l ≤ x.time) (sym (put_behind y p x e)) (ltb-false x.time y.time e)

-- a tuple put in order among the tuples of all slices is put in order in its slice
pub put_in_slice : (before : List (List Kept)) (p : List Kept) (behind : List (List Kept)) (x : Kept) → AreInOrder (before ++ put_in_order p x ∷ behind) → put_in_order (joined before ++ (p ++ joined behind)) x ≡ joined (before ++ put_in_order p x ∷ behind)
put_in_slice before p behind x a =
    let s = parted IsNear IsApart before (put_in_order p x ∷ behind) a in
    let q = put_in_order p x in
    let f : first_time q ≤ x.time = first_of_put p x in
    let l : x.time ≤ last_time q = All-contains (λ (y : Kept). y.time ≤ last_time q) q x (run_below_last q s.1.0) (Contains-insert_new p _ x) in
    put_far (joined before) (p ++ joined behind) x (All-weaker (λ (y : Kept). y.time < first_time q) (λ y. y.time ≤ x.time) (λ y l. omega arith) (joined before) (below_slice before q behind a))
    ∙ ap (λ l. joined before ++ l) (put_near p (joined behind) x (behind_later x q behind l s.1.1 s.1.2))
    ∙ sym (flat_map-append (λ (run : List Kept). run) before (q ∷ behind))

-- the tuples behind a slice lie after its last one
pub above_slice : (q : List Kept) (behind : List (List Kept)) → IsPartFrom IsApart q behind → AreInOrder behind → All (λ y. last_time q < y.time) (joined behind)
above_slice q [] p a = All-nil (λ y. last_time q < y.time)
above_slice q (run ∷ behind) p a =
    let g : last_time q < first_time run = p in
    let f : first_time run ≤ last_time run = first_below_last run a.0 in
    All-append (λ y. last_time q < y.time) run (joined behind)
    (All-weaker (λ (y : Kept). first_time run ≤ y.time) (λ y. last_time q < y.time) (λ y l. omega arith) run (run_above_first run a.0))
    (All-weaker (λ (y : Kept). last_time run < y.time) (λ y. last_time q < y.time) (λ y l. omega arith) (joined behind) (above_slice run behind a.1 a.2))

-- a slice among others
pub part_at : (before : List (List Kept)) (p : List Kept) (behind : List (List Kept)) → AreInOrder (before ++ p ∷ behind) → IsRun IsNear p
part_at before p behind a = (parted IsNear IsApart before (p ∷ behind) a).1.0

pub behind_at : (before : List (List Kept)) (p : List Kept) (behind : List (List Kept)) → AreInOrder (before ++ p ∷ behind) → IsPartFrom IsApart p behind × AreInOrder behind
behind_at before p behind a = let s = parted IsNear IsApart before (p ∷ behind) a in (s.1.1, s.1.2)

-- two runs, of which the second begins no earlier than the first ends, are one
pub run_join : (p q : List Kept) → IsRun IsNear p → IsRun IsNear q → last_time p ≤ first_time q → IsRun IsNear (p ++ q)
run_join [] q r s l = absurd r
run_join (x ∷ []) [] r s l = absurd s
run_join (x ∷ []) (y ∷ q) r s l = (l, s)
run_join (x ∷ y ∷ ys) q r s l = (r.0, run_join (y ∷ ys) q r.1 s l)

pub last_of_both : (p q : List Kept) → IsRun IsNear p → IsRun IsNear q → last_time (p ++ q) ≡ last_time q
last_of_both [] q r s = absurd r
last_of_both (x ∷ []) [] r s = absurd s
last_of_both (x ∷ []) (y ∷ q) r s = refl
last_of_both (x ∷ y ∷ ys) q r s = last_of_both (y ∷ ys) q r.1 s

pub first_of_both : (p q : List Kept) → IsRun IsNear p → first_time (p ++ q) ≡ first_time p
first_of_both [] q r = absurd r
first_of_both (x ∷ xs) q r = refl
