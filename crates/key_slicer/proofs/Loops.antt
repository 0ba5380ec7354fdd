-- The loops over the parts of a key.
use Rattle.std.proofs.Common.{◌≡◌, ◌∙◌, ◌≤◌, ◌<◌, ◌+◌, ◌*◌, ◌-◌, ℕ, zero, suc, List, [], ◌∷◌, ◌++◌, length, get_or, set, take, drop, ap, sym, refl, subst, arith, inl, inr, ⊎_elim, append_assoc}
use Rattle.std.specs.Prelude.{◌≢◌, ◌⊎◌, max, min, sum_by}
use Rattle.std.specs.List.{enumerate_from, flat_map}
use Rattle.std.proofs.lemmas.Bool.{cases_eq, cases_lt}
use Rattle.std.proofs.lemmas.List.{append-nil, drop_more, get_or_default, get_or-set_other, get_or-set_same, length-append, length-set, take_all, take_more}
use Rattle.std.proofs.lemmas.List.Concat.{flat_map-append}
use Rattle.std.proofs.lemmas.List.Sums.{sum_by-cons, sum_by_push}
use Rattle.stream_base.specs.Limits.{Definitions}
use Rattle.stream_base.specs.declared.kept.Kept.{Kept}
use Rattle.stream_base.specs.Model.Changes.{Moment}
use Rattle.agg_store.specs.Stored.{Stored}
use Rattle.key_parts.specs.Calls.{Standing, StandsAt, StandsForSome, TakesMark, TakesTuple}
use Rattle.key_slicer.specs.Parts.{AllStandAt, AllTakeMark, AllTakeTuple, AreStanding, EachPart, IsLeastOf, rooms}

-- ---- parts that change one after another
module _ {P : Type 0} where
  -- the first parts have changed, each by a step, and the others are as they were
  pub record AreStepped (step : ℕ → P → P → Type 0) (i : ℕ) (start now : List P) : Type 0 where
    pub as_many : length now ≡ length start
    pub done : (j : ℕ) (x : P) → j < i → step j (get_or start j x) (get_or now j x)
    pub ahead : (j : ℕ) (x : P) → i ≤ j → get_or now j x ≡ get_or start j x

  pub none_stepped : (step : ℕ → P → P → Type 0) (start : List P) → AreStepped step 0 start start
  none_stepped step start = record { as_many = refl; done = λ j x l. absurd (omega arith); ahead = λ j x l. refl }

  -- a part read at its place is the one there, whatever is said of a place beyond
  pub is_there : (parts : List P) (i : ℕ) (old : P) → i < length parts → old ≡ get_or parts i old → (x : P) → old ≡ get_or parts i x
  is_there parts i old l is x = is ∙ get_or_default parts i old x l

  -- the part at the next place is the one that it was
  pub is_untouched : (step : ℕ → P → P → Type 0) (i : ℕ) (start now : List P) (old : P) → i < length start → AreStepped step i start now → old ≡ get_or now i old → (x : P) → old ≡ get_or start i x
  is_untouched step i start now old l s is x = let within : i < length now = omega (arith, s.as_many) in is ∙ get_or_default now i old x within ∙ s.ahead i x (omega arith)

  pub one_stepped : (step : ℕ → P → P → Type 0) (i : ℕ) (start now : List P) (old y : P) → i < length start → AreStepped step i start now → old ≡ get_or now i old → step i old y
      → AreStepped step (i + 1) start (set now i y)
  one_stepped step i start now old y l s is here = record {
    as_many = length-set now i y ∙ s.as_many;
    done = λ j x jl. ⊎_elim
        (λ e. subst (λ k. step k (get_or start k x) (get_or (set now i y) k x)) (sym e) (subst (step i (get_or start i x)) (sym (get_or-set_same now i y x within)) (subst (λ p. step i p y) (is_untouched step i start now old l s is x) here)))
        (λ ne. subst (step j (get_or start j x)) (sym (get_or-set_other now i j y x ne)) (s.done j x (omega arith)))
        (cases_eq j i);
    ahead = λ j x jl. get_or-set_other now i j y x (λ e. absurd (omega (arith, e))) ∙ s.ahead j x (omega arith);
  }
    where
      within : i < length now
      within = omega (arith, s.as_many)

  -- where what is said of each part to come holds, it still does
  pub each_ahead : (holds : ℕ → P → Type 0) (step : ℕ → P → P → Type 0) (i : ℕ) (start now : List P) (x : P) → i < length start → AreStepped step i start now
      → EachPart holds start → holds i (get_or now i x)
  each_ahead holds step i start now x l s each = subst (holds i) (sym (s.ahead i x (omega arith))) (each i x l)

  -- each part has changed by a step
  pub each_done : (holds : ℕ → P → Type 0) (step : ℕ → P → P → Type 0) (i : ℕ) (start now : List P) → length start ≤ i → AreStepped step i start now
      → ((j : ℕ) (x : P) → j < length start → step j (get_or start j x) (get_or now j x) → holds j (get_or now j x)) → EachPart holds now
  each_done holds step i start now l s by = λ j x jl. by j x (omega (arith, s.as_many)) (s.done j x (omega (arith, s.as_many)))

-- ---- the least of the times of parts
module _ {P : Type 0} (time_of : ℕ → P → ℕ) (most : ℕ) (parts : List P) where
  -- a time is the least of a greatest one and of those of the first parts
  pub record IsLeastSoFar (i time : ℕ) : Type 0 where
    pub by_most : time ≤ most
    pub by_each : (j : ℕ) (x : P) → j < i → time ≤ time_of j (get_or parts j x)
    pub is_one : (time ≡ most) ⊎ ((j : ℕ) × (j < i) × ((x : P) → time ≡ time_of j (get_or parts j x)))

  pub least_first : IsLeastSoFar 0 most
  least_first = record { by_most = omega arith; by_each = λ j x l. absurd (omega arith); is_one = inl refl }

  pub least_more : (i old new : ℕ) (part : P) → ((x : P) → part ≡ get_or parts i x) → new ≡ min old (time_of i part) → IsLeastSoFar i old → IsLeastSoFar (i + 1) new
  least_more i old new part is e l = record {
    by_most = omega (arith, e, l.by_most);
    by_each = λ j x jl. ⊎_elim
        (λ (eq : j ≡ i). let here : time_of j (get_or parts j x) ≡ time_of i part = (λ k. time_of (eq k) (get_or parts (eq k) x)) ∙ ap (time_of i) (sym (is x)) in omega (arith, e, here))
        (λ ne. omega (arith, e, l.by_each j x (omega arith)))
        (cases_eq j i);
    is_one = ⊎_elim
        (λ lt. let same : new ≡ old = omega (arith, e) in ⊎_elim (λ m. inl (same ∙ m)) (λ (o : (j : ℕ) × (j < i) × ((x : P) → old ≡ time_of j (get_or parts j x))). inr (o.0, omega (arith, o.1), λ x. same ∙ o.2 x)) l.is_one)
        (λ le. inr (i, omega arith, λ x. omega (arith, e, ap (time_of i) (is x))))
        (cases_lt old (time_of i part));
  }

  pub least_all : (i time : ℕ) → i ≡ length parts → IsLeastSoFar i time → IsLeastOf time_of most parts time
  least_all i time e l = record {
    by_most = l.by_most;
    by_each = λ j x jl. l.by_each j x (omega (arith, e));
    is_one = ⊎_elim (λ m. inl m) (λ (o : (j : ℕ) × (j < i) × ((x : P) → time ≡ time_of j (get_or parts j x))). inr (o.0, omega (arith, o.1, e), o.2)) l.is_one;
  }

  -- the first parts have a least time
  pub some_least : (p : P) (i : ℕ) → i ≤ length parts → (time : ℕ) × IsLeastSoFar i time
  some_least p zero l = (most, least_first)
  some_least p (suc i) l =
      let o = some_least p i (omega arith) in
      let part : P = get_or parts i p in
      (min o.0 (time_of i part), subst (λ k. IsLeastSoFar k (min o.0 (time_of i part))) (omega arith) (least_more i o.0 _ part (λ x. get_or_default parts i p x (omega arith)) refl o.1))

-- so have all parts
pub least_there : {P : Type 0} (time_of : ℕ → P → ℕ) (most : ℕ) (parts : List P) → (time : ℕ) × IsLeastOf time_of most parts time
least_there time_of most [] = (most, record { by_most = omega arith; by_each = λ i x l. absurd (omega arith); is_one = inl refl })
least_there time_of most (p ∷ parts) =
    let o = some_least time_of most (p ∷ parts) p (length (p ∷ parts)) (omega arith) in
    (o.0, least_all time_of most (p ∷ parts) (length (p ∷ parts)) o.0 refl o.1)

-- ---- by when a time lies before the least of the times of parts
module _ {P : Type 0} (time_of : ℕ → ℕ → P → ℕ) (lateness : ℕ) (parts : List P) (time : ℕ) where
  -- from a watermark on the time lies before the watermark minus the lateness and before the times of the first parts, and before then not before all of them
  pub record IsDueSoFar (i due : ℕ) : Type 0 where
    pub before : (water : ℕ) → water < due → (water - lateness ≤ time) ⊎ ((j : ℕ) × (j < i) × ((x : P) → time_of water j (get_or parts j x) ≤ time))
    pub by_most : (water : ℕ) → due ≤ water → time < water - lateness
    pub by_each : (water j : ℕ) (x : P) → due ≤ water → j < i → time < time_of water j (get_or parts j x)

  pub due_first : IsDueSoFar 0 (time + 1 + lateness)
  due_first = record { before = λ water l. inl (omega arith); by_most = λ water l. omega arith; by_each = λ water j x l b. absurd (omega arith) }

  pub due_more : (i old here new : ℕ) (part : P) → ((x : P) → part ≡ get_or parts i x) → new ≡ max old here → ((water : ℕ) → water < here → time_of water i part ≤ time)
      → ((water : ℕ) → here ≤ water → time < time_of water i part) → IsDueSoFar i old → IsDueSoFar (i + 1) new
  due_more i old here new part is e before by_then s = record {
    before = λ water l. ⊎_elim
        (λ lt. ⊎_elim (λ m. inl m) (λ (o : (j : ℕ) × (j < i) × ((x : P) → time_of water j (get_or parts j x) ≤ time)). inr (o.0, omega (arith, o.1), o.2)) (s.before water lt))
        (λ le. inr (i, omega arith, λ x. subst (λ p. time_of water i p ≤ time) (is x) (before water (omega (arith, e)))))
        (cases_lt water old);
    by_most = λ water l. s.by_most water (omega (arith, e));
    by_each = λ water j x l jl. ⊎_elim
        (λ (eq : j ≡ i). subst (λ k. time < time_of water k (get_or parts k x)) (sym eq) (subst (λ p. time < time_of water i p) (is x) (by_then water (omega (arith, e)))))
        (λ ne. s.by_each water j x (omega (arith, e)) (omega arith))
        (cases_eq j i);
  }

  pub due_before : (i due water least : ℕ) → i ≡ length parts → IsDueSoFar i due → water < due → IsLeastOf (time_of water) (water - lateness) parts least → least ≤ time
  due_before i due water least e s l o = ⊎_elim
      (λ m. omega (arith, m, o.by_most))
      (λ (f : (j : ℕ) × (j < i) × ((x : P) → time_of water j (get_or parts j x) ≤ time)). each f.0 (omega (arith, f.1, e)) f.2)
      (s.before water l)
    where
      each : (j : ℕ) → j < length parts → ((x : P) → time_of water j (get_or parts j x) ≤ time) → least ≤ time
      each j b f = by parts b f o.by_each
        where
          by : (ps : List P) → j < length ps → ((x : P) → time_of water j (get_or ps j x) ≤ time) → EachPart (λ i part. least ≤ time_of water i part) ps → least ≤ time
          by [] b f g = absurd (omega arith)
          by (p ∷ ps) b f g = omega (arith, f p, g j p b)

  pub due_by_then : (i due water least : ℕ) → i ≡ length parts → IsDueSoFar i due → due ≤ water → IsLeastOf (time_of water) (water - lateness) parts least → time < least
  due_by_then i due water least e s l o = ⊎_elim
      (λ m. omega (arith, m, s.by_most water l))
      (λ (f : (j : ℕ) × (j < length parts) × ((x : P) → least ≡ time_of water j (get_or parts j x))). one f.0 f.1 f.2)
      o.is_one
    where
      one : (j : ℕ) → j < length parts → ((x : P) → least ≡ time_of water j (get_or parts j x)) → time < least
      one j b f = by parts b f (λ x. s.by_each water j x l (omega (arith, e)))
        where
          by : (ps : List P) → j < length ps → ((x : P) → least ≡ time_of water j (get_or ps j x)) → ((x : P) → time < time_of water j (get_or ps j x)) → time < least
          by [] b f g = absurd (omega arith)
          by (p ∷ ps) b f g = omega (arith, f p, g p)

-- ---- numbered lists
pub numbered_end : {X : Type 0} (n : ℕ) (xs : List X) (y : X) → enumerate_from n (xs ++ y ∷ []) ≡ enumerate_from n xs ++ (n + length xs, y) ∷ []
numbered_end n [] y = let e : n ≡ n + 0 = omega arith in (λ k. (e k, y) ∷ [])
numbered_end n (x ∷ xs) y =
    let e : n + 1 + length xs ≡ n + length (x ∷ xs) = omega arith in
    ap (λ ys. (n, x) ∷ ys) (numbered_end (n + 1) xs y ∙ (λ k. enumerate_from (n + 1) xs ++ (e k, y) ∷ []))

length-take_within : {X : Type 0} (i : ℕ) (xs : List X) → i ≤ length xs → length (take i xs) ≡ i
length-take_within zero xs l = refl
length-take_within (suc i) [] l = absurd (omega arith)
length-take_within (suc i) (x ∷ xs) l = let e : length (take i xs) ≡ i = length-take_within i xs (omega arith) in omega arith

-- one element more of a numbered list
pub numbered_more : {X : Type 0} (xs : List X) (i : ℕ) (d : X) → i < length xs → enumerate_from 0 (take (i + 1) xs) ≡ enumerate_from 0 (take i xs) ++ (i, get_or xs i d) ∷ []
numbered_more xs i d l =
    let e : 0 + length (take i xs) ≡ i = omega (arith, length-take_within i xs (omega arith)) in
    ap (enumerate_from 0) (take_more xs i d l)
    ∙ numbered_end 0 (take i xs) (get_or xs i d)
    ∙ (λ k. enumerate_from 0 (take i xs) ++ (e k, get_or xs i d) ∷ [])

-- what one element more gives
pub given_more : {X Y : Type 0} (f : ℕ × X → List Y) (xs : List X) (i : ℕ) (d : X) → i < length xs
    → flat_map f (enumerate_from 0 (take (i + 1) xs)) ≡ flat_map f (enumerate_from 0 (take i xs)) ++ f (i, get_or xs i d)
given_more f xs i d l =
    ap (flat_map f) (numbered_more xs i d l)
    ∙ flat_map-append f (enumerate_from 0 (take i xs)) ((i, get_or xs i d) ∷ [])
    ∙ ap (λ ys. flat_map f (enumerate_from 0 (take i xs)) ++ ys) (append-nil (f (i, get_or xs i d)))

-- behind what was given so far comes what one element more gives
pub appended_more : {X Y : Type 0} (f : ℕ × X → List Y) (xs : List X) (i : ℕ) (d : X) (start old new : List Y) → i < length xs
    → old ≡ start ++ flat_map f (enumerate_from 0 (take i xs)) → new ≡ old ++ f (i, get_or xs i d)
    → new ≡ start ++ flat_map f (enumerate_from 0 (take (i + 1) xs))
appended_more f xs i d start old new l so_far more =
    more
    ∙ ap (λ ys. ys ++ f (i, get_or xs i d)) so_far
    ∙ append_assoc start (flat_map f (enumerate_from 0 (take i xs))) (f (i, get_or xs i d))
    ∙ ap (λ ys. start ++ ys) (sym (given_more f xs i d l))

-- all was given
pub appended_all : {X Y : Type 0} (f : ℕ × X → List Y) (xs : List X) (i : ℕ) (start now : List Y) → length xs ≤ i
    → now ≡ start ++ flat_map f (enumerate_from 0 (take i xs)) → now ≡ start ++ flat_map f (enumerate_from 0 xs)
appended_all f xs i start now l so_far = so_far ∙ ap (λ ys. start ++ flat_map f (enumerate_from 0 ys)) (take_all i xs l)

-- nothing is given so far, and nothing by one element more
pub none_more : {X Y : Type 0} (f : ℕ × X → List Y) (xs : List X) (i : ℕ) (d : X) → i < length xs → flat_map f (enumerate_from 0 (take i xs)) ≡ [] → f (i, get_or xs i d) ≡ []
    → flat_map f (enumerate_from 0 (take (i + 1) xs)) ≡ []
none_more f xs i d l so_far more = given_more f xs i d l ∙ (λ k. so_far k ++ more k)

pub none_all : {X Y : Type 0} (f : ℕ × X → List Y) (xs : List X) (i : ℕ) → length xs ≤ i → flat_map f (enumerate_from 0 (take i xs)) ≡ [] → flat_map f (enumerate_from 0 xs) ≡ []
none_all f xs i l so_far = ap (λ ys. flat_map f (enumerate_from 0 ys)) (sym (take_all i xs l)) ∙ so_far

-- of two lists that are nothing together, each is nothing
none_first : {Y : Type 0} (xs ys : List Y) → xs ++ ys ≡ [] → xs ≡ []
none_first [] ys e = refl
none_first (x ∷ xs) ys e = cc

none_second : {Y : Type 0} (xs ys : List Y) → xs ++ ys ≡ [] → ys ≡ []
none_second [] ys e = e
none_second (x ∷ xs) ys e = cc

-- where nothing is given by all, nothing is by one of them
pub none_of : {X Y : Type 0} (f : ℕ × X → List Y) (xs : List X) (i : ℕ) (d : X) → i < length xs → flat_map f (enumerate_from 0 xs) ≡ [] → f (i, get_or xs i d) ≡ []
none_of f xs i d l none = let e : 0 + i ≡ i = omega arith in subst (λ n. f (n, get_or xs i d) ≡ []) e (from f xs 0 i d l none)
  where
    from : {X Y : Type 0} (f : ℕ × X → List Y) (xs : List X) (k i : ℕ) (d : X) → i < length xs → flat_map f (enumerate_from k xs) ≡ [] → f (k + i, get_or xs i d) ≡ []
    from f [] k i d l none = absurd (omega arith)
    from f (x ∷ xs) k zero d l none = let e : k ≡ k + 0 = omega arith in subst (λ n. f (n, x) ≡ []) e (none_first (f (k, x)) (flat_map f (enumerate_from (k + 1) xs)) none)
    from f (x ∷ xs) k (suc i) d l none =
        let e : k + 1 + i ≡ k + suc i = omega arith in
        subst (λ n. f (n, get_or xs i d) ≡ []) e (from f xs (k + 1) i d (omega arith) (none_second (f (k, x)) (flat_map f (enumerate_from (k + 1) xs)) none))

-- something is given so far, or by one element more
pub some_more : {X Y : Type 0} (f : ℕ × X → List Y) (xs : List X) (i : ℕ) (d : X) → i < length xs → flat_map f (enumerate_from 0 (take i xs)) ≢ []
    → flat_map f (enumerate_from 0 (take (i + 1) xs)) ≢ []
some_more f xs i d l some none = some (none_first (flat_map f (enumerate_from 0 (take i xs))) (f (i, get_or xs i d)) (sym (given_more f xs i d l) ∙ none))

pub some_here : {X Y : Type 0} (f : ℕ × X → List Y) (xs : List X) (i : ℕ) (d : X) → i < length xs → f (i, get_or xs i d) ≢ []
    → flat_map f (enumerate_from 0 (take (i + 1) xs)) ≢ []
some_here f xs i d l some none = some (none_second (flat_map f (enumerate_from 0 (take i xs))) (f (i, get_or xs i d)) (sym (given_more f xs i d l) ∙ none))

pub some_all : {X Y : Type 0} (f : ℕ × X → List Y) (xs : List X) (i : ℕ) → length xs ≤ i → flat_map f (enumerate_from 0 (take i xs)) ≢ [] → flat_map f (enumerate_from 0 xs) ≢ []
some_all f xs i l some none = some (ap (λ ys. flat_map f (enumerate_from 0 ys)) (take_all i xs l) ∙ none)

-- what one element more adds to a sum
pub summed_more : {X : Type 0} (f : ℕ × X → ℕ) (xs : List X) (i : ℕ) (d : X) → i < length xs
    → sum_by f (enumerate_from 0 (take (i + 1) xs)) ≡ sum_by f (enumerate_from 0 (take i xs)) + f (i, get_or xs i d)
summed_more f xs i d l = ap (sum_by f) (numbered_more xs i d l) ∙ sum_by_push f (enumerate_from 0 (take i xs)) (i, get_or xs i d)

pub summed_all : {X : Type 0} (f : ℕ × X → ℕ) (xs : List X) (i : ℕ) → length xs ≤ i → sum_by f (enumerate_from 0 (take i xs)) ≡ sum_by f (enumerate_from 0 xs)
summed_all f xs i l = ap (λ ys. sum_by f (enumerate_from 0 ys)) (take_all i xs l)

-- ---- work
-- a list to which another was appended is longer by that one
pub grown : {Y : Type 0} (old new more : List Y) → new ≡ old ++ more → length old + length more ≡ length new
grown old new more e = sym (ap length e ∙ length-append old more)

-- as much for each of a few more
pub work_more : (w a b c s t u : ℕ) → t ≤ s + w * a → u ≤ t + w * b → c ≡ a + b → u ≤ s + w * c
work_more w a b c s t u f g e = let h : w * c ≡ w * a + w * b = ap (λ k. w * k) e ∙ spread w a b in omega arith
  where
    spread : (w a b : ℕ) → w * (a + b) ≡ w * a + w * b
    spread w a b = grind arith

-- as much for each element by which a list has grown
pub work_grown : (w a b c s t u : ℕ) → a ≤ b → b ≤ c → t ≤ s + w * (b - a) → u ≤ t + w * (c - b) → u ≤ s + w * (c - a)
work_grown w a b c s t u l m f g = let whole : c - a ≡ (b - a) + (c - b) = omega arith in work_more w (b - a) (c - b) (c - a) s t u f g whole

-- ---- room
module _ {P : Type 0} (room : ℕ → P → ℕ) where
  -- the room for the parts from one place on
  abbrev summed : List (ℕ × P) → ℕ
  summed ws = sum_by (λ w. room w.0 w.1) ws

  abbrev pub rooms_from : ℕ → List P → ℕ
  rooms_from i parts = sum_by (λ w. room w.0 w.1) (enumerate_from i parts)

  pub room_first : (i : ℕ) (parts : List P) (x : P) → i < length parts → rooms_from i (drop i parts) ≡ room i (get_or parts i x) + rooms_from (i + 1) (drop (i + 1) parts)
  room_first i parts x l =
      ap (λ ps. sum_by (λ w. room w.0 w.1) (enumerate_from i ps)) (drop_more parts i x l)
      ∙ sum_by-cons (λ w. room w.0 w.1) (i, get_or parts i x) (enumerate_from (i + 1) (drop (i + 1) parts))

  sums_append : {X : Type 0} (f : X → ℕ) (xs ys : List X) → sum_by f (xs ++ ys) ≡ sum_by f xs + sum_by f ys
  sums_append f [] ys = omega arith
  sums_append f (x ∷ xs) ys =
      let a : sum_by f (x ∷ (xs ++ ys)) ≡ f x + sum_by f (xs ++ ys) = sum_by-cons f x (xs ++ ys) in
      let b : sum_by f (xs ++ ys) ≡ sum_by f xs + sum_by f ys = sums_append f xs ys in
      let e : sum_by f (x ∷ xs) ≡ f x + sum_by f xs = sum_by-cons f x xs in
      omega (arith, a, b, e)

  -- the room for the first parts with one more, which has changed
  pub room_more : (i : ℕ) (parts : List P) (y : P) → i < length parts → rooms room (take (i + 1) (set parts i y)) ≡ rooms room (take i parts) + room i y
  room_more i parts y l =
      ap (rooms_from 0) (take-set_more i parts y l)
      ∙ ap summed (numbered_end 0 (take i parts) y)
      ∙ sums_append (λ (w : ℕ × P). room w.0 w.1) (enumerate_from 0 (take i parts)) ((0 + length (take i parts), y) ∷ [])
      ∙ (let e : length (take i parts) ≡ i = length-take_within i parts (omega arith) in
      let one : summed ((0 + length (take i parts), y) ∷ []) ≡ room i y = sum_by-cons (λ (w : ℕ × P). room w.0 w.1) (0 + length (take i parts), y) [] ∙ zero_more _ ∙ ap (λ n. room n y) (omega (arith, e)) in
      ap (λ n. rooms room (take i parts) + n) one)
    where
      zero_more : (n : ℕ) → n + 0 ≡ n
      zero_more n = omega arith

      take-set_more : (i : ℕ) (parts : List P) (y : P) → i < length parts → take (i + 1) (set parts i y) ≡ take i parts ++ y ∷ []
      take-set_more i parts y l =
          let within : i < length (set parts i y) = omega (arith, length-set parts i y) in
          take_more (set parts i y) i y within
          ∙ (λ k. take-set_same i parts y k ++ get_or-set_same parts i y y l k ∷ [])
        where
          take-set_same : (i : ℕ) (parts : List P) (y : P) → take i (set parts i y) ≡ take i parts
          take-set_same zero parts y = refl
          take-set_same (suc i) [] y = refl
          take-set_same (suc i) (p ∷ parts) y = ap (λ ps. p ∷ ps) (take-set_same i parts y)

  -- where each part needs as much room as before, so do all
  pub rooms_same : (start now : List P) → length now ≡ length start → ((j : ℕ) (x : P) → j < length start → room j (get_or now j x) ≡ room j (get_or start j x)) → rooms room now ≡ rooms room start
  rooms_same start now n same = from 0 start now n (λ j x l. let e : j ≡ 0 + j = omega arith in subst (λ k. room k (get_or now j x) ≡ room k (get_or start j x)) e (same j x l))
    where
      from : (i : ℕ) (start now : List P) → length now ≡ length start → ((j : ℕ) (x : P) → j < length start → room (i + j) (get_or now j x) ≡ room (i + j) (get_or start j x)) → rooms_from i now ≡ rooms_from i start
      from i [] [] n same = refl
      from i [] (q ∷ now) n same = absurd (omega arith)
      from i (p ∷ start) [] n same = absurd (omega arith)
      from i (p ∷ start) (q ∷ now) n same =
          let e : i + 0 ≡ i = omega arith in
          let first : room i q ≡ room i p = subst (λ k. room k q ≡ room k p) e (same 0 p (omega arith)) in
          let rest : rooms_from (i + 1) now ≡ rooms_from (i + 1) start = from (i + 1) start now (omega arith) (λ j x l. let f : i + suc j ≡ i + 1 + j = omega arith in subst (λ k. room k (get_or now j x) ≡ room k (get_or start j x)) f (same (suc j) x (omega arith))) in
          sum_by-cons (λ w. room w.0 w.1) (i, q) (enumerate_from (i + 1) now)
          ∙ (λ k. first k + rest k)
          ∙ sym (sum_by-cons (λ w. room w.0 w.1) (i, p) (enumerate_from (i + 1) start))

-- ---- one part among all
module _ {P : Type 0} (stands : Standing P) (d : Definitions) where
  pub one_of_all : (water : ℕ) (s : Stored) (parts : List P) (m : Moment) (n i : ℕ) (x : P) → i < length parts
      → AllStandAt stands d water s parts m n → StandsAt stands d i water s (get_or parts i x) m n
  one_of_all water s parts m n i x l all = record {
    water_is = all.water_is;
    lists = all.lists;
    store = all.store;
    held = all.held;
    stood = all.stood.each i x l;
  }

  -- parts of which each stands on stand on
  pub standing_on : (step : ℕ → P → P → Type 0) (i : ℕ) (start now : List P) (m m' : Moment) (n n' : ℕ) (s s' : Stored) → length start ≤ i → AreStepped step i start now
      → AreStanding stands d m n s start
      → ((j : ℕ) (x : P) → j < length start → step j (get_or start j x) (get_or now j x) → stands d j m n s (get_or start j x) → stands d j m' n' s' (get_or now j x))
      → AreStanding stands d m' n' s' now
  standing_on step i start now m m' n n' s s' l st a by = record {
    as_many = st.as_many ∙ a.as_many;
    each = each_done (λ j part. stands d j m' n' s' part) step i start now l st (λ j x jl h. by j x jl h (a.each j x jl));
  }

  -- what comes to all comes to one
  pub tuple_for_one : (is_asked : Definitions → ℕ → Moment → ℕ → P → Type 0) (water : ℕ) (x : Kept) (after : Stored) (parts : List P) (m : Moment) (n : ℕ) (before : Stored) (more i : ℕ) (old : P)
      → i < length parts → ((y : P) → old ≡ get_or parts i y) → AllTakeTuple stands d is_asked water x after parts m n before more → TakesTuple stands d i is_asked water x after old m n before more
  tuple_for_one is_asked water x after parts m n before more i old l is all = record {
    water_is = all.water_is;
    is_water = all.is_water;
    step = all.step;
    stood = subst (stands d i m n before) (sym (is old)) (all.stood.each i old l);
    asked = subst (is_asked d i m x.time) (sym (is old)) (all.asked i old l);
  }

  pub stands_for_one : (water : ℕ) (s : Stored) (parts : List P) (m : Moment) (n i : ℕ) (old : P) → i < length parts → ((y : P) → old ≡ get_or parts i y)
      → AllStandAt stands d water s parts m n → StandsAt stands d i water s old m n
  stands_for_one water s parts m n i old l is all = subst (λ p. StandsAt stands d i water s p m n) (sym (is old)) (one_of_all water s parts m n i old l all)

  pub some_for_one : (water : ℕ) (s : Stored) (parts : List P) (i : ℕ) (old : P) → i < length parts → ((y : P) → old ≡ get_or parts i y)
      → StandsForSome (AllStandAt stands d) water s parts → StandsForSome (StandsAt stands d i) water s old
  some_for_one water s parts i old l is some = let k = some.key in record { is_water = some.is_water; key = (k.0, k.1, stands_for_one water s parts k.0 k.1 i old l is k.2) }

  pub mark_for_one : (water time : ℕ) (after : Stored) (parts : List P) (m : Moment) (n : ℕ) (before : Stored) (i : ℕ) (old : P)
      → i < length parts → ((y : P) → old ≡ get_or parts i y) → AllTakeMark stands d water time after parts m n before → TakesMark stands d i water time after old m n before
  mark_for_one water time after parts m n before i old l is all = record {
    water_is = all.water_is;
    is_water = all.is_water;
    step = all.step;
    stood = subst (stands d i m n before) (sym (is old)) (all.stood.each i old l);
  }
