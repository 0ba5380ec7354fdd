-- What is due of a key next.
use Rattle.std.proofs.Common.{◌≡◌, ◌∙◌, ℕ, ◌<◌, ◌≤◌, min, Bool, true, false, List, [], ◌∷◌, ◌++◌, Some, cond, map, fold, ap, sym, refl, arith, ⊎_elim}
use Rattle.std.specs.Prelude.{◌&&◌, nat_le, nat_lt}
use Rattle.std.specs.List.{All, Contains, enumerate_from, filter, find, flat_map}
use Rattle.std.specs.List.Sorted.{IsNonDecreasingBy}
use Rattle.std.specs.Option.{option_map_or}
use Rattle.std.proofs.lemmas.List.{map-append}
use Rattle.std.proofs.lemmas.List.Elements.{All-filter, All-head, All-tail, All-weaker, filter-append}
use Rattle.std.proofs.lemmas.Bool.{leb-true, ltb-true, lt-ltb, le-ltb, cases_lt, and_parts, false_from_ne_true}
use Rattle.stream_base.specs.declared.def.Def.{Def}
use Rattle.stream_base.specs.declared.change.Change.TheVariants.{New}
use Rattle.stream_base.specs.declared.limits.TheConstants.{FINAL}
use Rattle.stream_base.specs.Laws.{TimesDoNotFall, becomes_complete, completions}
use Rattle.stream_base.specs.Kinds.{IsKindWithin}
use Rattle.stream_base.specs.Model.Changes.{Moment, row_of}
use Rattle.stream_base.specs.Model.Windows.{Instance, instances_of}
use Rattle.stream_base.proofs.ChangeFacts.{enumerate_members, flat_map_none, flat_map_same}
use Rattle.stream_base.proofs.Members.{filter_has, filter_same, flat_map_has, map_has}
use Rattle.window_laws.specs.After.{at_water}
use Rattle.window_laws.specs.Due.{completed_of, first_open, next_bound, open_bounds}
use Rattle.window_laws.proofs.KindFacts.{bounds_do_not_fall}
use Rattle.slice_lists.proofs.Order.{All-map_of, nd_head, nd_tail}
use Rattle.window_laws.proofs.WalkFacts.{least_of}

-- the bound of an instance that isn't complete is at or after the next
bound_from_next : (windows : List Def) (m : Moment) (def : Def) (i : Instance) → Contains windows def → Contains (instances_of def.kind m.kept m.marks) i → m.water < i.bound → next_bound windows m ≤ i.bound
bound_from_next windows m def i c d l =
    least_of FINAL (open_bounds windows m) i.bound
    (filter_has (λ b. nat_lt m.water b) (map (λ (j : Instance). j.bound) (flat_map (λ (w : Def). instances_of w.kind m.kept m.marks) windows)) i.bound
    (map_has (λ (j : Instance). j.bound) (flat_map (λ (w : Def). instances_of w.kind m.kept m.marks) windows) i (flat_map_has (λ (w : Def). instances_of w.kind m.kept m.marks) windows def i c d))
    (lt-ltb m.water i.bound l))

filtered_none : (p : Instance → Bool) (xs : List Instance) → ((x : Instance) → Contains xs x → p x ≡ false) → filter p xs ≡ []
filtered_none p xs h = filter_same p (λ x. false) xs h ∙ nothing xs
  where
    nothing : (xs : List Instance) → filter (λ x. false) xs ≡ []
    nothing [] = refl
    nothing (x ∷ xs) = nothing xs

pub nothing_completed : (windows : List Def) (key : List ℕ) (m : Moment) (new : ℕ) → new < next_bound windows m → completed_of windows key m new ≡ []
nothing_completed windows key m new h = flat_map_none (completions key m new) (enumerate_from 0 windows) (λ w c. none w (enumerate_members 0 windows w c))
  where
    none : (w : ℕ × Def) → Contains windows w.1 → completions key m new w ≡ []
    none w c =
        ap (map (λ i. New (row_of w.0 key (w.1).func i)))
        (filtered_none (becomes_complete m.water new) (instances_of (w.1).kind m.kept m.marks) (λ i d. out i d))
      where
        out : (i : Instance) → Contains (instances_of (w.1).kind m.kept m.marks) i → becomes_complete m.water new i ≡ false
        out i d =
            false_from_ne_true (becomes_complete m.water new i)
            (λ t. let p : (nat_lt m.water i.bound ≡ true) × (nat_le i.bound new ≡ true) = and_parts (nat_lt m.water i.bound) (nat_le i.bound new) t in
            let l : m.water < i.bound = ltb-true m.water i.bound p.0 in
            let r : i.bound ≤ new = leb-true i.bound new p.1 in
            let g : next_bound windows m ≤ i.bound = bound_from_next windows m w.1 i c d l in
            omega (arith, h))

pub completed_later : (windows : List Def) (key : List ℕ) (m : Moment) (new further : ℕ) → m.water ≤ new → new < next_bound windows m → completed_of windows key (at_water m new) further ≡ completed_of windows key m further
completed_later windows key m new further le h = flat_map_same (completions key (at_water m new) further) (completions key m further) (enumerate_from 0 windows) (λ w c. same w (enumerate_members 0 windows w c))
  where
    same : (w : ℕ × Def) → Contains windows w.1 → completions key (at_water m new) further w ≡ completions key m further w
    same w c =
        ap (map (λ i. New (row_of w.0 key (w.1).func i)))
        (filter_same (becomes_complete new further) (becomes_complete m.water further) (instances_of (w.1).kind m.kept m.marks) (λ i d. alike i d))
      where
        alike : (i : Instance) → Contains (instances_of (w.1).kind m.kept m.marks) i → becomes_complete new further i ≡ becomes_complete m.water further i
        alike i d =
            ap (λ b. b && nat_le i.bound further)
            (⊎_elim
            (λ l. let g : next_bound windows m ≤ i.bound = bound_from_next windows m w.1 i c d l in lt-ltb new i.bound (omega (arith, h)) ∙ sym (lt-ltb m.water i.bound l))
            (λ r. le-ltb new i.bound (omega arith) ∙ sym (le-ltb m.water i.bound r))
            (cases_lt m.water i.bound))

-- ---- the next bound by the first instance of each window
fold_over : (a : ℕ) (xs ys : List ℕ) → fold min a (xs ++ ys) ≡ fold min (fold min a xs) ys
fold_over a [] ys = refl
fold_over a (x ∷ xs) ys = fold_over (min a x) xs ys

fold_at_most : (a : ℕ) (xs : List ℕ) → All (λ x. a ≤ x) xs → fold min a xs ≡ a
fold_at_most a [] h = refl
fold_at_most a (x ∷ xs) h =
    let e : min a x ≡ a = omega (arith, All-head (λ x. a ≤ x) x xs h) in
    ap (λ b. fold min b xs) e ∙ fold_at_most a xs (All-tail (λ x. a ≤ x) x xs h)

first_is_least : (water a : ℕ) (is : List Instance) → a ≤ FINAL → IsNonDecreasingBy (λ (i : Instance). i.bound) is
    → fold min a (filter (λ b. nat_lt water b) (map (λ (i : Instance). i.bound) is)) ≡ min a (option_map_or (λ (i : Instance). i.bound) (find (λ (i : Instance). nat_lt water i.bound) is) FINAL)
first_is_least water a [] le h = let e : a ≡ min a FINAL = min_left a FINAL le in e
  where
    min_left : (a b : ℕ) → a ≤ b → a ≡ min a b
    min_left a b l = omega arith
first_is_least water a (x ∷ is) le h = by (nat_lt water x.bound) (first_is_least water a is le (nd_tail (λ (i : Instance). i.bound) x is h))
  where
    above : All (λ b. x.bound ≤ b) (filter (λ b. nat_lt water b) (map (λ (i : Instance). i.bound) is))
    above = All-filter (λ b. nat_lt water b) (λ b. x.bound ≤ b) (map (λ (i : Instance). i.bound) is) (All-map_of (λ b. x.bound ≤ b) (λ (i : Instance). i.bound) is (nd_head (λ (i : Instance). i.bound) x is h))

    by : (b : Bool) → fold min a (filter (λ b. nat_lt water b) (map (λ (i : Instance). i.bound) is)) ≡ min a (option_map_or (λ (i : Instance). i.bound) (find (λ (i : Instance). nat_lt water i.bound) is) FINAL)
        → fold min a (cond b (x.bound ∷ filter (λ b. nat_lt water b) (map (λ (i : Instance). i.bound) is)) (filter (λ b. nat_lt water b) (map (λ (i : Instance). i.bound) is))) ≡ min a (option_map_or (λ (i : Instance). i.bound) (cond b (Some x) (find (λ (i : Instance). nat_lt water i.bound) is)) FINAL)
    by true later = fold_at_most (min a x.bound) (filter (λ b. nat_lt water b) (map (λ (i : Instance). i.bound) is)) (All-weaker (λ b. x.bound ≤ b) (λ b. min a x.bound ≤ b) (λ b l. omega arith) (filter (λ b. nat_lt water b) (map (λ (i : Instance). i.bound) is)) above)
    by false later = later

pub next_by_first : (windows : List Def) (m : Moment) → All (λ w. IsKindWithin w.kind) windows → TimesDoNotFall m.kept → next_bound windows m ≡ fold min FINAL (map (first_open m) windows)
next_by_first windows m within h = along FINAL windows (same FINAL) within
  where
    same : (n : ℕ) → n ≤ n
    same n = omega arith

    along : (a : ℕ) (ws : List Def) → a ≤ FINAL → All (λ w. IsKindWithin w.kind) ws → fold min a (open_bounds ws m) ≡ fold min a (map (first_open m) ws)
    along a [] le k = refl
    along a (w ∷ ws) le k =
        let one = instances_of w.kind m.kept m.marks in
        let rest = flat_map (λ (v : Def). instances_of v.kind m.kept m.marks) ws in
        ap (fold min a) (ap (filter (λ b. nat_lt m.water b)) (map-append (λ (i : Instance). i.bound) one rest) ∙ filter-append (λ b. nat_lt m.water b) (map (λ (i : Instance). i.bound) one) (map (λ (i : Instance). i.bound) rest))
        ∙ fold_over a (filter (λ b. nat_lt m.water b) (map (λ (i : Instance). i.bound) one)) (open_bounds ws m)
        ∙ ap (λ b. fold min b (open_bounds ws m)) (first_is_least m.water a one le (bounds_do_not_fall w.kind m.kept m.marks (All-head (λ w. IsKindWithin w.kind) w ws k) h))
        ∙ along (min a (first_open m w)) ws (lower a (first_open m w) FINAL le) (All-tail (λ w. IsKindWithin w.kind) w ws k)
      where
        lower : (a b c : ℕ) → a ≤ c → min a b ≤ c
        lower a b c l = omega arith
