-- The order of changes: by key, retractions first, then by window, start and end.
use Rattle.std.proofs.Common.{◌≡◌, ◌∙◌, ℕ, ◌+◌, ◌<◌, List, [], ◌∷◌, ◌++◌, ap, sym, refl, subst, ⊎_elim, arith, Option, None, Some, Ordering}
use Rattle.std.specs.Prelude.{slice_get}
use Rattle.std.specs.declared.cmp.Ordering.TheVariants.{Less, Equal}
use Rattle.std.specs.Cmp.{IsTotalOrder}
use Rattle.std.specs.Cmp.Lexicographic.{slice_cmp}
use Rattle.std.specs.List.{Contains, filter_map, flat_map, cons_option, enumerate_from}
use Rattle.std.specs.List.Sorted.{IsStrictlySortedBy}
use Rattle.std.specs.Ordering.{nat_cmp, ordering_then}
use Rattle.std.proofs.lemmas.Bool.Decides.{nat_tests}
use Rattle.std.proofs.lemmas.Cmp.{nat_cmp_total, nat_list_cmp_total, on_total, then_total, tied_itself}
use Rattle.std.proofs.lemmas.List.Elements.{Contains-append_cases, All-append, All-from_recursion}
use Rattle.std.proofs.lemmas.Map.Keys.{sorted_head, sorted_tail}
use Rattle.stream_base.specs.declared.change.Change.{Change}
use Rattle.stream_base.specs.declared.def.Def.{Def}
use Rattle.stream_base.specs.Model.Windows.{Instance}
use Rattle.stream_base.specs.Model.Changes.{retraction, emission, Moment, standing_at, retractions, emissions, changes_between}
use Rattle.stream_base.specs.Laws.{by_start, RiseByStart, place_of, by_place, AreInOrder}
use Rattle.stream_base.proofs.Rising.{Contains-head, Contains-tail, sorted_cons, sorted_nil, below_tail}
use Rattle.stream_base.proofs.Members.{flat_map_members}
use Rattle.stream_base.proofs.Distinct.{All_from_members, by_start_total, lt_from_less, less_from_lt}
use Rattle.model_laws.proofs.ChangeList.{filter_map_members, retraction_says, emission_cases, enumerate_places}
use Rattle.stream_base.proofs.ChangeFacts.{enumerate_members}

-- ---- lists in order, put together
module _ {Y : Type 0} {cmp : Y → Y → Ordering} (o : IsTotalOrder cmp) where
  pub sorted_append : (xs ys : List Y) → IsStrictlySortedBy cmp xs → IsStrictlySortedBy cmp ys → ((x y : Y) → Contains xs x → Contains ys y → cmp x y ≡ Less) → IsStrictlySortedBy cmp (xs ++ ys)
  sorted_append [] ys s t h = t
  sorted_append (x ∷ xs) ys s t h =
      sorted_cons o x (xs ++ ys)
      (All-append (λ y. cmp x y ≡ Less) xs ys (All-from_recursion (λ y. cmp x y ≡ Less) xs (sorted_head cmp x xs s)) (All_from_members (λ y. cmp x y ≡ Less) ys (λ y c. h x y (Contains-head x xs) c)))
      (sorted_append xs ys (sorted_tail cmp x xs s) t (λ z y c d. h z y (Contains-tail x xs z c) d))

  module _ {X : Type 0} {by : X → X → Ordering} (p : IsTotalOrder by) where
    pub sorted_flat_map : (f : X → List Y) → ((x y : X) (a b : Y) → by x y ≡ Less → Contains (f x) a → Contains (f y) b → cmp a b ≡ Less) → (xs : List X) → IsStrictlySortedBy by xs → ((x : X) → Contains xs x → IsStrictlySortedBy cmp (f x)) → IsStrictlySortedBy cmp (flat_map f xs)
    sorted_flat_map f h [] s each = sorted_nil o
    sorted_flat_map f h (x ∷ xs) s each =
        sorted_append (f x) (flat_map f xs) (each x (Contains-head x xs)) (sorted_flat_map f h xs (sorted_tail by x xs s) (λ y c. each y (Contains-tail x xs y c)))
        (λ a b c d. let m : (y : X) × Contains xs y × Contains (f y) b = flat_map_members f xs b d in h x m.0 a b (below_tail p x xs s m.0 m.1) c m.2)

    pub sorted_filter_map : (f : X → Option Y) → ((x y : X) (a b : Y) → by x y ≡ Less → f x ≡ Some a → f y ≡ Some b → cmp a b ≡ Less) → (xs : List X) → IsStrictlySortedBy by xs → IsStrictlySortedBy cmp (filter_map f xs)
    sorted_filter_map f h [] s = sorted_nil o
    sorted_filter_map f h (x ∷ xs) s = at (f x) refl (sorted_filter_map f h xs (sorted_tail by x xs s))
      where
        at : (a : Option Y) → f x ≡ a → IsStrictlySortedBy cmp (filter_map f xs) → IsStrictlySortedBy cmp (cons_option a (filter_map f xs))
        at None e later = later
        at (Some a) e later =
            sorted_cons o a (filter_map f xs)
            (All_from_members (λ b. cmp a b ≡ Less) (filter_map f xs) (λ b c. let m : (y : X) × Contains xs y × (f y ≡ Some b) = filter_map_members f xs b c in h x m.0 a b (below_tail p x xs s m.0 m.1) e m.2))
            later

-- ---- the order of changes
pub by_place_total : IsTotalOrder by_place
by_place_total =
    then_total (on_total (λ (c : Change). (place_of c).key) nat_list_cmp_total)
    (then_total (on_total (λ (c : Change). (place_of c).comes) nat_cmp_total)
    (then_total (on_total (λ (c : Change). (place_of c).window) nat_cmp_total)
    (then_total (on_total (λ (c : Change). (place_of c).low) nat_cmp_total) (on_total (λ (c : Change). (place_of c).high) nat_cmp_total))))

pub first_decides : (o p : Ordering) → o ≡ Less → ordering_then o p ≡ Less
first_decides o p e = ap (λ q. ordering_then q p) e

pub tie_passes : (o p : Ordering) → o ≡ Equal → ordering_then o p ≡ p
tie_passes o p e = ap (λ q. ordering_then q p) e

unfoldable pub by_index : ℕ × Def → ℕ × Def → Ordering
by_index v w = nat_cmp v.0 w.0

pub same_tie : (a b : ℕ) → a ≡ b → nat_cmp a b ≡ Equal
same_tie a b h = grind (arith, nat_tests)

pub key_tie : (k l : List ℕ) → k ≡ l → slice_cmp nat_cmp k l ≡ Equal
key_tie k l e = ap (λ m. slice_cmp nat_cmp m l) e ∙ tied_itself nat_list_cmp_total l

pub less_at_key : (a b : Change) → slice_cmp nat_cmp (place_of a).key (place_of b).key ≡ Less → by_place a b ≡ Less
less_at_key a b h = first_decides (slice_cmp nat_cmp (place_of a).key (place_of b).key) _ h

less_at_comes : (a b : Change) → (place_of a).key ≡ (place_of b).key → (place_of a).comes < (place_of b).comes → by_place a b ≡ Less
less_at_comes a b k h =
    tie_passes (slice_cmp nat_cmp (place_of a).key (place_of b).key) _ (key_tie (place_of a).key (place_of b).key k)
    ∙ first_decides (nat_cmp (place_of a).comes (place_of b).comes) _ (less_from_lt (place_of a).comes (place_of b).comes h)

less_at_window : (a b : Change) → (place_of a).key ≡ (place_of b).key → (place_of a).comes ≡ (place_of b).comes → (place_of a).window < (place_of b).window → by_place a b ≡ Less
less_at_window a b k c h =
    tie_passes (slice_cmp nat_cmp (place_of a).key (place_of b).key) _ (key_tie (place_of a).key (place_of b).key k)
    ∙ tie_passes (nat_cmp (place_of a).comes (place_of b).comes) _ (same_tie (place_of a).comes (place_of b).comes c)
    ∙ first_decides (nat_cmp (place_of a).window (place_of b).window) _ (less_from_lt (place_of a).window (place_of b).window h)

less_at_start : (a b : Change) → (place_of a).key ≡ (place_of b).key → (place_of a).comes ≡ (place_of b).comes → (place_of a).window ≡ (place_of b).window → (place_of a).low < (place_of b).low → by_place a b ≡ Less
less_at_start a b k c w h =
    tie_passes (slice_cmp nat_cmp (place_of a).key (place_of b).key) _ (key_tie (place_of a).key (place_of b).key k)
    ∙ tie_passes (nat_cmp (place_of a).comes (place_of b).comes) _ (same_tie (place_of a).comes (place_of b).comes c)
    ∙ tie_passes (nat_cmp (place_of a).window (place_of b).window) _ (same_tie (place_of a).window (place_of b).window w)
    ∙ first_decides (nat_cmp (place_of a).low (place_of b).low) _ (less_from_lt (place_of a).low (place_of b).low h)

-- ---- where the changes of a window stand
record IsAt (key : List ℕ) (comes window low : ℕ) (c : Change) : Type 0 where
  key_is : (place_of c).key ≡ key
  comes_is : (place_of c).comes ≡ comes
  window_is : (place_of c).window ≡ window
  low_is : (place_of c).low ≡ low

retraction_at : (window : ℕ) (key : List ℕ) (def : Def) (now : List Instance) (i : Instance) (c : Change) → retraction window key def.func now i ≡ Some c → IsAt key 0 window i.low c
retraction_at window key def now i c e = subst (IsAt key 0 window i.low) (sym (retraction_says window key def.func now i c e).0) (record { key_is = refl; comes_is = refl; window_is = refl; low_is = refl })

emission_at : (window : ℕ) (key : List ℕ) (def : Def) (before : List Instance) (i : Instance) (c : Change) → emission window key def.func before i ≡ Some c → IsAt key 1 window i.low c
emission_at window key def before i c e =
    ⊎_elim
    (λ a. subst (IsAt key 1 window i.low) (sym a.0) (record { key_is = refl; comes_is = refl; window_is = refl; low_is = refl }))
    (λ a. subst (IsAt key 1 window i.low) (sym a.5) (record { key_is = refl; comes_is = refl; window_is = refl; low_is = refl }))
    (emission_cases window key def.func before i c e)

later_start : (key : List ℕ) (comes window : ℕ) (i j : Instance) (a b : Change) → by_start i j ≡ Less → IsAt key comes window i.low a → IsAt key comes window j.low b → by_place a b ≡ Less
later_start key comes window i j a b l p q =
    let lt : i.low < j.low = lt_from_less i.low j.low l in
    less_at_start a b (p.key_is ∙ sym q.key_is) (p.comes_is ∙ sym q.comes_is) (p.window_is ∙ sym q.window_is) (omega (arith, p.low_is, q.low_is))

module _ (windows : List Def) (key : List ℕ) (old new : Moment) where
  retracted_at : (w : ℕ × Def) (c : Change) → Contains (retractions key old new w) c → (low : ℕ) × IsAt key 0 w.0 low c
  retracted_at w c d =
      let m : (i : Instance) × Contains (standing_at w.1 old) i × (retraction w.0 key (w.1).func (standing_at w.1 new) i ≡ Some c) = filter_map_members (retraction w.0 key (w.1).func (standing_at w.1 new)) (standing_at w.1 old) c d in
      ((m.0).low, retraction_at w.0 key w.1 (standing_at w.1 new) m.0 c m.2)

  emitted_at : (w : ℕ × Def) (c : Change) → Contains (emissions key old new w) c → (low : ℕ) × IsAt key 1 w.0 low c
  emitted_at w c d =
      let m : (i : Instance) × Contains (standing_at w.1 new) i × (emission w.0 key (w.1).func (standing_at w.1 old) i ≡ Some c) = filter_map_members (emission w.0 key (w.1).func (standing_at w.1 old)) (standing_at w.1 new) c d in
      ((m.0).low, emission_at w.0 key w.1 (standing_at w.1 old) m.0 c m.2)

  retractions_in_order : (w : ℕ × Def) → RiseByStart (standing_at w.1 old) → AreInOrder (retractions key old new w)
  retractions_in_order w s =
      sorted_filter_map by_place_total by_start_total (retraction w.0 key (w.1).func (standing_at w.1 new))
      (λ i j a b l e f. later_start key 0 w.0 i j a b l (retraction_at w.0 key w.1 (standing_at w.1 new) i a e) (retraction_at w.0 key w.1 (standing_at w.1 new) j b f))
      (standing_at w.1 old) s

  emissions_in_order : (w : ℕ × Def) → RiseByStart (standing_at w.1 new) → AreInOrder (emissions key old new w)
  emissions_in_order w s =
      sorted_filter_map by_place_total by_start_total (emission w.0 key (w.1).func (standing_at w.1 old))
      (λ i j a b l e f. later_start key 1 w.0 i j a b l (emission_at w.0 key w.1 (standing_at w.1 old) i a e) (emission_at w.0 key w.1 (standing_at w.1 old) j b f))
      (standing_at w.1 new) s

  gone_after_gone : (v w : ℕ × Def) (a b : Change) → by_index v w ≡ Less → Contains (retractions key old new v) a → Contains (retractions key old new w) b → by_place a b ≡ Less
  unfolding by_index
  gone_after_gone v w a b l c d =
      let p : (low : ℕ) × IsAt key 0 v.0 low a = retracted_at v a c in
      let q : (low : ℕ) × IsAt key 0 w.0 low b = retracted_at w b d in
      less_at_window a b ((p.1).key_is ∙ sym (q.1).key_is) ((p.1).comes_is ∙ sym (q.1).comes_is) (omega (arith, (p.1).window_is, (q.1).window_is, lt_from_less v.0 w.0 l))

  come_after_come : (v w : ℕ × Def) (a b : Change) → by_index v w ≡ Less → Contains (emissions key old new v) a → Contains (emissions key old new w) b → by_place a b ≡ Less
  unfolding by_index
  come_after_come v w a b l c d =
      let p : (low : ℕ) × IsAt key 1 v.0 low a = emitted_at v a c in
      let q : (low : ℕ) × IsAt key 1 w.0 low b = emitted_at w b d in
      less_at_window a b ((p.1).key_is ∙ sym (q.1).key_is) ((p.1).comes_is ∙ sym (q.1).comes_is) (omega (arith, (p.1).window_is, (q.1).window_is, lt_from_less v.0 w.0 l))

  come_after_gone : (v w : ℕ × Def) (a b : Change) → Contains (retractions key old new v) a → Contains (emissions key old new w) b → by_place a b ≡ Less
  come_after_gone v w a b c d =
      let p : (low : ℕ) × IsAt key 0 v.0 low a = retracted_at v a c in
      let q : (low : ℕ) × IsAt key 1 w.0 low b = emitted_at w b d in
      less_at_comes a b ((p.1).key_is ∙ sym (q.1).key_is) (omega (arith, (p.1).comes_is, (q.1).comes_is))

pub by_index_total : IsTotalOrder by_index
unfolding by_index
by_index_total = on_total (λ (w : ℕ × Def). w.0) nat_cmp_total

pub numbered_in_order : (n : ℕ) (windows : List Def) → IsStrictlySortedBy by_index (enumerate_from n windows)
unfolding by_index
numbered_in_order n [] = sorted_nil by_index_total
numbered_in_order n (def ∷ windows) =
    sorted_cons by_index_total (n, def) (enumerate_from (n + 1) windows)
    (All_from_members (λ w. by_index (n, def) w ≡ Less) (enumerate_from (n + 1) windows) (λ w c. above w c))
    (numbered_in_order (n + 1) windows)
  where
    above : (w : ℕ × Def) → Contains (enumerate_from (n + 1) windows) w → by_index (n, def) w ≡ Less
    above w c =
        let m : (j : ℕ) × (w.0 ≡ n + 1 + j) × (slice_get windows j ≡ Some w.1) = enumerate_places (n + 1) windows w c in
        less_from_lt n w.0 (omega (arith, m.1))

-- ---- the changes of a key
pub changes_between_in_order : (windows : List Def) (key : List ℕ) (old new : Moment) → ((def : Def) → Contains windows def → RiseByStart (standing_at def old)) → ((def : Def) → Contains windows def → RiseByStart (standing_at def new)) → AreInOrder (changes_between windows key old new)
unfolding changes_between
changes_between_in_order windows key old new before after =
    sorted_append by_place_total (flat_map (retractions key old new) (enumerate_from 0 windows)) (flat_map (emissions key old new) (enumerate_from 0 windows))
    (sorted_flat_map by_place_total by_index_total (retractions key old new) (gone_after_gone windows key old new) (enumerate_from 0 windows) (numbered_in_order 0 windows) (λ w c. retractions_in_order windows key old new w (before w.1 (enumerate_members 0 windows w c))))
    (sorted_flat_map by_place_total by_index_total (emissions key old new) (come_after_come windows key old new) (enumerate_from 0 windows) (numbered_in_order 0 windows) (λ w c. emissions_in_order windows key old new w (after w.1 (enumerate_members 0 windows w c))))
    (λ a b c d. let p : (v : ℕ × Def) × Contains (enumerate_from 0 windows) v × Contains (retractions key old new v) a = flat_map_members (retractions key old new) (enumerate_from 0 windows) a c in
    let q : (w : ℕ × Def) × Contains (enumerate_from 0 windows) w × Contains (emissions key old new w) b = flat_map_members (emissions key old new) (enumerate_from 0 windows) b d in
    come_after_gone windows key old new p.0 q.0 a b p.2 q.2)

-- every change of a key stands at the key
pub changes_are_at_key : (windows : List Def) (key : List ℕ) (old new : Moment) (c : Change) → Contains (changes_between windows key old new) c → (place_of c).key ≡ key
unfolding changes_between
changes_are_at_key windows key old new c d =
    ⊎_elim
    (λ g. let p : (v : ℕ × Def) × Contains (enumerate_from 0 windows) v × Contains (retractions key old new v) c = flat_map_members (retractions key old new) (enumerate_from 0 windows) c g in (retracted_at windows key old new p.0 c p.2).1.key_is)
    (λ g. let p : (v : ℕ × Def) × Contains (enumerate_from 0 windows) v × Contains (emissions key old new v) c = flat_map_members (emissions key old new) (enumerate_from 0 windows) c g in (emitted_at windows key old new p.0 c p.2).1.key_is)
    (Contains-append_cases (flat_map (retractions key old new) (enumerate_from 0 windows)) (flat_map (emissions key old new) (enumerate_from 0 windows)) c d)
