-- The least bound above the watermark is that of the first instance there.
use Rattle.std.proofs.Common.{◌≡◌, ◌∙◌, ◌≤◌, ◌<◌, ◌+◌, ◌++◌, ℕ, Bool, true, false, cond, List, [], ◌∷◌, length, get_or, drop, map, ap, sym, refl, subst, inl, inr, ⊎_elim, arith, None, Some}
use Rattle.std.specs.Prelude.{Option, ◌≢◌, ◌⊎◌, ◌&&◌, min, nat_le, nat_lt}
use Rattle.std.specs.Option.{option_map}
use Rattle.std.specs.List.{Contains, enumerate_from, filter, find, flat_map, fold}
use Rattle.std.proofs.lemmas.Bool.{cases_lt, le-leb, lt-ltb, ltb-true}
use Rattle.std.proofs.lemmas.Bool.Decides.{nat_tests}
use Rattle.std.proofs.lemmas.List.{drop_all, drop_more}
use Rattle.stream_base.specs.declared.change.Change.TheVariants.{New}
use Rattle.stream_base.specs.declared.def.Def.{Def}
use Rattle.stream_base.specs.declared.kept.Kept.{Kept}
use Rattle.stream_base.specs.declared.change.Change.{Change}
use Rattle.stream_base.specs.declared.kind.Kind.{Kind}
use Rattle.stream_base.specs.declared.limits.TheConstants.{FINAL}
use Rattle.stream_base.specs.declared.kind.Kind.TheVariants.{Tumbling, Sliding}
use Rattle.stream_base.specs.Laws.{becomes_complete, completions}
use Rattle.stream_base.specs.Model.Changes.{Moment, row_of}
use Rattle.stream_base.specs.Model.Journal.{put_in_order}
use Rattle.stream_base.specs.Model.Windows.{Instance, instances_of, spans}
use Rattle.stream_base.proofs.ChangeFacts.{enumerate_members, flat_map_none}
use Rattle.stream_base.proofs.Members.{filter_has, filter_members, flat_map_has, flat_map_members, map_has, map_members}
use Rattle.stream_base.proofs.Rising.{none_in_nil, Contains-at_head, Contains-cons_cases, Contains-head, Contains-tail}
use Rattle.plain_windows.specs.Changing.{BringsBound, BringsNoneBelow, HasBound, IsAhead, IsBound, IsDue, KeepsBounds, bounds_ahead}
use Rattle.plain_windows.proofs.Bounds.{RunOn}
use Rattle.plain_windows.proofs.Walks.{none_passes}

abbrev ahead : ℕ → List Instance → List ℕ
ahead water is = filter (λ bound. nat_lt water bound) (map (λ i. i.bound) is)

fold_min_stays : (a : ℕ) (bs : List ℕ) → ((b : ℕ) → Contains bs b → a ≤ b) → fold min a bs ≡ a
fold_min_stays a [] h = refl
fold_min_stays a (b ∷ bs) h =
    let le : a ≤ b = h b (Contains-head b bs) in
    let same : min a b ≡ a = omega arith in
    ap (λ c. fold min c bs) same ∙ fold_min_stays a bs (λ c d. h c (Contains-tail b bs c d))

pub fold_min_append : (a : ℕ) (bs cs : List ℕ) → fold min a (bs ++ cs) ≡ fold min (fold min a bs) cs
fold_min_append a [] cs = refl
fold_min_append a (b ∷ bs) cs = fold_min_append (min a b) bs cs

pub first_ahead : (is : List Instance) (water a : ℕ) (i : Instance) → RunOn is → find (λ j. nat_lt water j.bound) is ≡ Some i → fold min a (ahead water is) ≡ min a i.bound
first_ahead [] water a i r e = cc
first_ahead (x ∷ is) water a i r e = by (nat_lt water x.bound) e (λ f. first_ahead is water a i r.1 f)
  where
    behind : (b : ℕ) → Contains (ahead water is) b → x.bound ≤ b
    behind b c =
        let m : (j : Instance) × Contains is j × (j.bound ≡ b) = map_members (λ (j : Instance). j.bound) is b (filter_members (λ bound. nat_lt water bound) (map (λ i. i.bound) is) b c).0 in
        let le : x.bound ≤ (m.0).bound = (r.0 m.0 m.1).1 in
        omega (arith, m.2)

    by : (b : Bool) → cond b (Some x) (find (λ j. nat_lt water j.bound) is) ≡ Some i → (find (λ j. nat_lt water j.bound) is ≡ Some i → fold min a (ahead water is) ≡ min a i.bound) → fold min a (cond b (x.bound ∷ ahead water is) (ahead water is)) ≡ min a i.bound
    by true f later =
        let same : x.bound ≡ i.bound = ap (λ (j : Instance). j.bound) (let one : x ≡ i = cc in one) in
        fold_min_stays (min a x.bound) (ahead water is) (λ b c. let le : x.bound ≤ b = behind b c in omega arith) ∙ ap (min a) same
    by false f later = later f

pub none_ahead : (is : List Instance) (water a : ℕ) → find (λ j. nat_lt water j.bound) is ≡ None → fold min a (ahead water is) ≡ a
none_ahead [] water a e = refl
none_ahead (x ∷ is) water a e = by (nat_lt water x.bound) e (λ f. none_ahead is water a f)
  where
    by : (b : Bool) → cond b (Some x) (find (λ j. nat_lt water j.bound) is) ≡ None → (find (λ j. nat_lt water j.bound) is ≡ None → fold min a (ahead water is) ≡ a) → fold min a (cond b (x.bound ∷ ahead water is) (ahead water is)) ≡ a
    by true f later = cc
    by false f later = later f

module _ (is : List Instance) (water a : ℕ) where
  pub first_bound_ahead : (bound : ℕ) → RunOn is → Some bound ≡ option_map (λ i. i.bound) (find (λ j. nat_lt water j.bound) is) → fold min a (ahead water is) ≡ min a bound
  first_bound_ahead bound r e = by (find (λ j. nat_lt water j.bound) is) refl e
    where
      by : (found : Option Instance) → find (λ j. nat_lt water j.bound) is ≡ found → Some bound ≡ option_map (λ i. i.bound) found → fold min a (ahead water is) ≡ min a bound
      by None is_found f = cc
      by (Some i) is_found f = first_ahead is water a i r is_found ∙ ap (min a) (let same : i.bound ≡ bound = cc in same)

  pub no_bound_ahead : None ≡ option_map (λ i. i.bound) (find (λ j. nat_lt water j.bound) is) → fold min a (ahead water is) ≡ a
  no_bound_ahead e = by (find (λ j. nat_lt water j.bound) is) refl e
    where
      by : (found : Option Instance) → find (λ j. nat_lt water j.bound) is ≡ found → None ≡ option_map (λ i. i.bound) found → fold min a (ahead water is) ≡ a
      by None is_found f = none_ahead is water a is_found
      by (Some i) is_found f = cc

-- the least of a window's numbers and of those that are left
pub least_more : {X : Type 0} (f : X → List ℕ) (a b : ℕ) (xs : List X) (i : ℕ) (d : X) → i < length xs → b ≡ fold min a (f (get_or xs i d)) → fold min b (flat_map f (drop (i + 1) xs)) ≡ fold min a (flat_map f (drop i xs))
least_more f a b xs i d h e =
    ap (λ c. fold min c (flat_map f (drop (i + 1) xs))) e
    ∙ sym (fold_min_append a (f (get_or xs i d)) (flat_map f (drop (i + 1) xs)))
    ∙ sym (ap (λ l. fold min a (flat_map f l)) (drop_more xs i d h))

pub least_end : {X : Type 0} (f : X → List ℕ) (a : ℕ) (xs : List X) (i : ℕ) → length xs ≤ i → fold min a (flat_map f (drop i xs)) ≡ a
least_end f a xs i h = ap (λ l. fold min a (flat_map f l)) (drop_all i xs h)

-- each of the numbers is at least the least
pub least_is_least : (a : ℕ) (bs : List ℕ) (b : ℕ) → Contains bs b → fold min a bs ≤ b
least_is_least a [] b c = absurd (none_in_nil b c)
least_is_least a (x ∷ bs) b c =
    ⊎_elim
    (λ e. let le : fold min (min a x) bs ≤ min a x = falls (min a x) bs in omega arith)
    (λ d. least_is_least (min a x) bs b d)
    (Contains-cons_cases x bs b c)
  where
    falls : (a : ℕ) (bs : List ℕ) → fold min a bs ≤ a
    falls a [] = omega arith
    falls a (b ∷ bs) = let le : fold min (min a b) bs ≤ min a b = falls (min a b) bs in omega arith

not_due : (water new bound : ℕ) → (water < bound → new < bound) → (nat_lt water bound && nat_le bound new) ≡ false
not_due water new bound h = by (nat_lt water bound) refl
  where
    by : (b : Bool) → nat_lt water bound ≡ b → (b && nat_le bound new) ≡ false
    by true e = lt-not_le new bound (h (ltb-true water bound e))
      where
        lt-not_le : (new bound : ℕ) → new < bound → nat_le bound new ≡ false
        lt-not_le new bound l = grind (arith, nat_tests)
    by false e = refl

-- each bound ahead is at least the least of them
pub ahead_of_least : (windows : List Def) (m : Moment) (most least : ℕ) → least ≡ fold min most (flat_map (bounds_ahead m) windows) → IsAhead windows m.kept m.marks m.water least
ahead_of_least windows m most least e def i c d above =
    let here : Contains (bounds_ahead m def) i.bound = filter_has (λ bound. nat_lt m.water bound) (map (λ (j : Instance). j.bound) (instances_of def.kind m.kept m.marks)) i.bound (map_has (λ (j : Instance). j.bound) (instances_of def.kind m.kept m.marks) i d) (lt-ltb m.water i.bound above) in
    let least_of_all : fold min most (flat_map (bounds_ahead m) windows) ≤ i.bound = least_is_least most (flat_map (bounds_ahead m) windows) i.bound (flat_map_has (bounds_ahead m) windows def i.bound c here) in
    omega arith

-- a move to below a due number completes nothing
pub nothing_ahead : (windows : List Def) (key : List ℕ) (m : Moment) (due new : ℕ) → IsAhead windows m.kept m.marks m.water due → new < due → flat_map (completions key m new) (enumerate_from 0 windows) ≡ []
nothing_ahead windows key m due new ahead lt = flat_map_none (completions key m new) (enumerate_from 0 windows) none
  where
    none : (w : ℕ × Def) → Contains (enumerate_from 0 windows) w → completions key m new w ≡ []
    none w c =
        ap (map (λ i. New (row_of w.0 key (w.1).func i)))
        (none_passes (becomes_complete m.water new) (instances_of (w.1).kind m.kept m.marks)
        (λ i d. not_due m.water new i.bound (λ above. let le : due ≤ i.bound = ahead w.1 i (enumerate_members 0 windows w c) d above in omega arith)))

-- what a tuple more brings in each window, it brings in all
pub ahead_put : (windows : List Def) (time bound : ℕ) → ((def : Def) → Contains windows def → BringsNoneBelow def.kind time bound)
    → (kept : List Kept) (marks : List ℕ) (x : Kept) (water due : ℕ) → x.time ≡ time → IsAhead windows kept marks water due → IsAhead windows (put_in_order kept x) marks water (min due bound)
ahead_put windows time bound brings kept marks x water due at ahead def i c d above =
    ⊎_elim
    (λ old. let le : due ≤ (old.0).bound = ahead def old.0 c old.1 (omega (arith, old.2)) in omega (arith, old.2))
    (λ new. omega arith)
    (brings def c kept marks x i at d)

-- a number that is less tells no more
pub brings_less : (kind : Kind) (time bound less : ℕ) → less ≤ bound → BringsNoneBelow kind time bound → BringsNoneBelow kind time less
brings_less kind time bound less le h kept marks x i at c = ⊎_elim (λ old. inl old) (λ new. inr (omega arith)) (h kept marks x i at c)

-- a move to below the least bound completes nothing
pub nothing_due : (windows : List Def) (key : List ℕ) (m : Moment) (most new least : ℕ) → least ≡ fold min most (flat_map (bounds_ahead m) windows) → new < least → flat_map (completions key m new) (enumerate_from 0 windows) ≡ []
nothing_due windows key m most new least e lt = nothing_ahead windows key m least new (ahead_of_least windows m most least e) lt

-- the least is the first number or one of the others
least_reached : (a : ℕ) (bs : List ℕ) → (fold min a bs ≡ a) ⊎ Contains bs (fold min a bs)
least_reached a [] = inl refl
least_reached a (b ∷ bs) =
    ⊎_elim
    (λ same. ⊎_elim
    (λ (lt : a < b). inl (omega (arith, same)))
    (λ (le : b ≤ a). let own : fold min (min a b) bs ≡ b = omega (arith, same) in inr (Contains-at_head b bs (fold min (min a b) bs) (sym own)))
    (cases_lt a b))
    (λ c. inr (Contains-tail b bs (fold min (min a b) bs) c))
    (least_reached (min a b) bs)

-- the least of the bounds ahead is one of them, unless it is a number that none is
pub due_of_least : (windows : List Def) (m : Moment) (most least : ℕ) → FINAL < most → least ≡ fold min most (flat_map (bounds_ahead m) windows) → IsDue windows m.kept m.marks m.water least
due_of_least windows m most least beyond e = record { ahead = ahead_of_least windows m most least e; reached = λ final. by final (least_reached most (flat_map (bounds_ahead m) windows)) }
  where
    by : least ≤ FINAL → (fold min most (flat_map (bounds_ahead m) windows) ≡ most) ⊎ Contains (flat_map (bounds_ahead m) windows) (fold min most (flat_map (bounds_ahead m) windows)) → (m.water < least) × IsBound windows m.kept m.marks least
    by final (inl none) = absurd (omega (arith, e, none))
    by final (inr c) =
        let w : (def : Def) × Contains windows def × Contains (bounds_ahead m def) least = flat_map_members (bounds_ahead m) windows least (subst (Contains (flat_map (bounds_ahead m) windows)) (sym e) c) in
        let bounds = map (λ (i : Instance). i.bound) (instances_of (w.0).kind m.kept m.marks) in
        let f : Contains bounds least × (nat_lt m.water least ≡ true) = filter_members (λ bound. nat_lt m.water bound) bounds least w.2 in
        (ltb-true m.water least f.1, record { def = w.0; of_window = w.1; has = map_members (λ (i : Instance). i.bound) (instances_of (w.0).kind m.kept m.marks) least f.0 })

-- with a tuple more after the watermark, the less of the least bound and of the least that it brings is the least
pub due_put : (windows : List Def) (time bound : ℕ) → ((def : Def) → Contains windows def → BringsNoneBelow def.kind time bound) → ((def : Def) → Contains windows def → KeepsBounds def.kind)
    → (bound ≤ FINAL → (def : Def) × Contains windows def × BringsBound def.kind time bound)
    → (kept : List Kept) (marks : List ℕ) (x : Kept) (water due : ℕ) → x.time ≡ time → water < time → IsDue windows kept marks water due → IsDue windows (put_in_order kept x) marks water (min due bound)
due_put windows time bound brings keeps one kept marks x water due at late is = record {
  ahead = ahead_put windows time bound brings kept marks x water due at is.ahead;
  reached = λ final. ⊎_elim
      (λ (lt : due < bound).
      let same : due ≡ min due bound = omega arith in
      let old = is.reached (omega arith) in
      (omega (arith, old.0), subst (IsBound windows (put_in_order kept x) marks) same (stays due old.1)))
      (λ (le : bound ≤ due).
      let same : bound ≡ min due bound = omega arith in
      let new : (def : Def) × Contains windows def × BringsBound def.kind time bound = one (omega arith) in
      (omega (arith, new.2.later), subst (IsBound windows (put_in_order kept x) marks) same (record { def = new.0; of_window = new.1; has = new.2.brought kept marks x at })))
      (cases_lt due bound);
}
  where
    stays : (b : ℕ) → IsBound windows kept marks b → IsBound windows (put_in_order kept x) marks b
    stays b was = record {
      def = was.def;
      of_window = was.of_window;
      has = subst (HasBound (instances_of (was.def).kind (put_in_order kept x) marks)) was.has.2 (keeps was.def was.of_window kept marks x was.has.0 was.has.1);
    }

-- a move to the least bound completes something
numbered : {X : Type 0} (n : ℕ) (xs : List X) (x : X) → Contains xs x → (k : ℕ) × Contains (enumerate_from n xs) (k, x)
numbered n [] x c = absurd (none_in_nil x c)
numbered {X} n (y ∷ ys) x c =
    ⊎_elim
    (λ e. (n, Contains-at_head (n, y) (enumerate_from (n + 1) ys) (n, x) (ap (λ (z : X). (n, z)) e)))
    (λ d. let m : (k : ℕ) × Contains (enumerate_from (n + 1) ys) (k, x) = numbered (n + 1) ys x d in (m.0, Contains-tail (n, y) (enumerate_from (n + 1) ys) (m.0, x) m.1))
    (Contains-cons_cases y ys x c)

completes : (water due : ℕ) (i : Instance) → water < due → i.bound ≡ due → becomes_complete water due i ≡ true
completes water due i lt e = (λ k. nat_lt water (e k) && nat_le (e k) due) ∙ (λ k. lt-ltb water due lt k && le-leb due due (omega arith) k)

pub something_due : (windows : List Def) (key : List ℕ) (m : Moment) (due : ℕ) → IsDue windows m.kept m.marks m.water due → due ≤ FINAL → flat_map (completions key m due) (enumerate_from 0 windows) ≢ []
something_due windows key m due is final none =
    let at = is.reached final in
    let def = at.1.def in
    let i = at.1.has.0 in
    let w : (k : ℕ) × Contains (enumerate_from 0 windows) (k, def) = numbered 0 windows def at.1.of_window in
    let instances = instances_of def.kind m.kept m.marks in
    let row = λ (j : Instance). New (row_of w.0 key def.func j) in
    let here : Contains (completions key m due (w.0, def)) (row i) =
    map_has row (filter (becomes_complete m.water due) instances) i (filter_has (becomes_complete m.water due) instances i at.1.has.1 (completes m.water due i at.0 at.1.has.2)) in
    let some : Contains (flat_map (completions key m due) (enumerate_from 0 windows)) (row i) = flat_map_has (completions key m due) (enumerate_from 0 windows) (w.0, def) (row i) w.1 here in
    none_in_nil (row i) (subst (λ (cs : List Change). Contains cs (row i)) none some)

-- where a move completes nothing, each bound ahead lies behind it
pub ahead_of_none : (windows : List Def) (key : List ℕ) (m : Moment) (new : ℕ) → flat_map (completions key m new) (enumerate_from 0 windows) ≡ [] → IsAhead windows m.kept m.marks m.water (new + 1)
ahead_of_none windows key m new none def i of c above = ⊎_elim (λ late. omega (arith, late)) (λ by. absurd (here by)) (cases_lt new i.bound)
  where
    here : i.bound ≤ new → ⊥
    here by =
        let w : (k : ℕ) × Contains (enumerate_from 0 windows) (k, def) = numbered 0 windows def of in
        let instances = instances_of def.kind m.kept m.marks in
        let row = λ (j : Instance). New (row_of w.0 key def.func j) in
        let completes : becomes_complete m.water new i ≡ true = λ k. lt-ltb m.water i.bound above k && le-leb i.bound new by k in
        let one : Contains (completions key m new (w.0, def)) (row i) = map_has row (filter (becomes_complete m.water new) instances) i (filter_has (becomes_complete m.water new) instances i c completes) in
        let some : Contains (flat_map (completions key m new) (enumerate_from 0 windows)) (row i) = flat_map_has (completions key m new) (enumerate_from 0 windows) (w.0, def) (row i) w.1 one in
        none_in_nil (row i) (subst (λ (cs : List Change). Contains cs (row i)) none some)

abbrev under : List Kept → List ℕ → ℕ → Moment
under kept marks water = record { kept = kept; marks = marks; water = water }

-- where one move completes nothing and a further one from the same watermark does, so does each from there that goes as far
pub completes_across : (windows : List Def) (key : List ℕ) (kept : List Kept) (marks : List ℕ) (water old due new : ℕ) → due ≤ new
    → flat_map (completions key (under kept marks water) old) (enumerate_from 0 windows) ≡ [] → flat_map (completions key (under kept marks water) due) (enumerate_from 0 windows) ≢ []
    → flat_map (completions key (under kept marks old) new) (enumerate_from 0 windows) ≢ []
completes_across windows key kept marks water old due new far none some all =
    some (nothing_ahead windows key (under kept marks water) (new + 1) due
    (λ def i of c above. ahead_of_none windows key (under kept marks old) new all def i of c (let a : old + 1 ≤ i.bound = ahead_of_none windows key (under kept marks water) old none def i of c above in omega arith))
    (omega arith))
