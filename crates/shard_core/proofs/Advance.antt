-- The table of keys where the watermark alone moves.
use Rattle.std.proofs.Common.{◌≡◌, ◌∙◌, ◌≢◌, ◌≤◌, ◌<◌, ◌+◌, ℕ, suc, Bool, true, false, cond, List, [], ◌∷◌, ◌++◌, length, map, get_or, ap, sym, refl, subst, arith, Option, None, Some, inl, inr, ⊎_elim, length-append}
use Rattle.std.specs.Prelude.{All, EachIndex, nat_le, sum_by}
use Rattle.std.specs.Map.{values_of}
use Rattle.std.specs.Cmp.{eq_by_cmp_equiv}
use Rattle.std.specs.Cmp.Lexicographic.{slice_cmp}
use Rattle.std.specs.List.{AllPairs, Contains, enumerate_from, filter, flat_map}
use Rattle.std.specs.List.Sorted.{IsStrictlySortedBy}
use Rattle.std.specs.Ordering.{nat_cmp}
use Rattle.std.specs.declared.cmp.Ordering.TheVariants.{Less}
use Rattle.std.proofs.lemmas.Bool.{cases_lt, le-leb, leb-true}
use Rattle.std.proofs.lemmas.Cmp.{nat_list_cmp_total}
use Rattle.std.proofs.lemmas.List.{append-nil, get_or-map, get_or_default, length-map}
use Rattle.std.proofs.lemmas.List.Sums.{sum_by-cons}
use Rattle.std.proofs.lemmas.List.Elements.{All-cons, All-nil, Contains-get_or}
use Rattle.std.proofs.lemmas.List.Kept.{AllPairs-cons, AllPairs-filter}
use Rattle.std.proofs.lemmas.Map.Keys.{IsDistinct-from_sorted, sorted_tail}
use Rattle.std.proofs.lemmas.Map.Lookups.{exact_bytes}
use Rattle.std.proofs.lemmas.Map.Views.{Contains-from_lookup, lookup-from_Contains, tells_apart}
use Rattle.key_windows.specs.Calls.{BringsMore, changes_by_move}
use Rattle.key_windows.specs.Dues.{IsDueNumber, IsExact}
use Rattle.stream_base.specs.Limits.{AreWithinLimits, Definitions}
use Rattle.stream_base.specs.declared.change.Change.{Change}
use Rattle.stream_base.specs.declared.entry.Entry.{Entry}
use Rattle.stream_base.specs.declared.kept.Kept.{Kept}
use Rattle.stream_base.specs.declared.limits.TheConstants.{FINAL}
use Rattle.stream_base.specs.Laws.{completions}
use Rattle.stream_base.specs.Model.Changes.{Moment, changes_after, moment_of}
use Rattle.stream_base.specs.Model.Journal.{keys_of, kept_of, marks_of}
use Rattle.stream_base.specs.Model.Watermark.{water_of}
use Rattle.stream_base.specs.Model.What.{is_late, is_progress}
use Rattle.stream_base.specs.declared.what.What.{What}
use Rattle.stream_base.specs.declared.what.What.TheVariants.{Tuple, Mark, Water, Idle, End}
use Rattle.model_laws.proofs.Absent.{nothing_kept}
use Rattle.stream_base.proofs.ChangeFacts.{changes_at_water, flat_map_same, no_changes_at_rest}
use Rattle.model_laws.proofs.ChangesAfter.{changes_of_water, keys_in_order, moment_of_water}
use Rattle.stream_base.proofs.Distinct.{All_from_members}
use Rattle.stream_base.proofs.EventOrder.{kept_times_do_not_fall}
use Rattle.stream_base.proofs.Members.{filter_has, filter_members, map_has, map_members}
use Rattle.stream_base.proofs.Rising.{below_tail, Contains-head, Contains-tail, not_below_itself, sorted_cons, sorted_nil}
use Rattle.model_laws.proofs.WatermarkFacts.{water_of_same, water_rises}
use Rattle.stream_base.proofs.Growing.{kept_of_late, marks_of_late}
use Rattle.stream_base.specs.Model.Moments.{IsWater, moment}
use Rattle.shard_core.specs.declared.keys.KeyTable.{KeyTable}
use Rattle.shard_core.specs.declared.slot.Slot.{Slot}
use Rattle.shard_core.specs.Engines.{AreApart, AreCurrent, AreMovable, AreMovedWithin, ArePlaces, AreSameSlots, BoundsMove, IsCurrent, IsMovedSlot, IsSameOutside, StandAt, StandsIn, due_places, moves_of, place_of_key}
use Rattle.shard_core.specs.Shard.{Sharded}
use Rattle.shard_core.specs.Work.{IsDueBy, IsMoveWithin}
use Rattle.shard_core.proofs.Moves.{changes_since, map_none, no_changes_of_none, same_for_keys}
use Rattle.shard_core.proofs.Places.{IsSameFor, alike, one_key, still_current}

-- ---- definitions
module _ (d : Definitions) (sources : ℕ) (journal : List Entry) (e : Entry) (progress : is_progress e.what ≡ true) where
  -- what is kept stays
  pub progress_stays : (key : List ℕ) → IsSameFor d sources journal (journal ++ e ∷ []) key
  progress_stays key = record {
    kept = ap (λ m. m.kept) (moment_of_water d sources key journal e progress);
    marks = ap (λ m. m.marks) (moment_of_water d sources key journal e progress);
  }

  -- what a key changes where the watermark moves
  abbrev pub key_moves : ℕ → List ℕ → List Change
  key_moves new key = changes_by_move d key (kept_of d.lateness sources key journal) (marks_of d.lateness sources key journal) (water_of sources journal) new

  -- the changes are the moves of the keys
  pub progress_changes : (new : ℕ) → AreWithinLimits d → new ≡ water_of sources (journal ++ e ∷ []) → changes_after d sources journal e ≡ flat_map (key_moves new) (keys_of journal)
  progress_changes new limits is =
      changes_of_water d sources journal e limits progress
      ∙ flat_map_same (λ key. flat_map (completions key (moment_of d sources key journal) (water_of sources (journal ++ e ∷ []))) (enumerate_from 0 d.windows)) (key_moves new) (keys_of journal)
      (λ key c. ap (λ w. flat_map (completions key (moment_of d sources key journal) w) (enumerate_from 0 d.windows)) (sym is)
      ∙ sym (changes_at_water d.windows key (kept_of d.lateness sources key journal) (marks_of d.lateness sources key journal) (water_of sources journal) new limits.kinds (kept_times_do_not_fall d.lateness sources key journal) (subst (λ w. water_of sources journal ≤ w) (sym is) (water_rises sources journal e))))

-- ---- one slot
module _ {K : Type 0} (key_of : K → List ℕ) (fits : Definitions → List Kept → List ℕ → ℕ → K → Type 0) (next_position : K → ℕ) (d : Definitions) (sources : ℕ) (journal : List Entry) (limits : AreWithinLimits d) (key : List ℕ) (slot : Slot K) (due : ℕ) (c : IsCurrent key_of fits next_position d sources journal key slot due) where
  -- nothing changed from its own watermark up to the journal's
  pub quiet_so_far : changes_by_move d key (kept_of d.lateness sources key journal) (marks_of d.lateness sources key journal) slot.water (water_of sources journal) ≡ []
  quiet_so_far =
      ⊎_elim
      (λ same. subst (λ w. changes_by_move d key (kept_of d.lateness sources key journal) (marks_of d.lateness sources key journal) slot.water w ≡ []) same
      (no_changes_at_rest d.windows key (moment (kept_of d.lateness sources key journal) (marks_of d.lateness sources key journal) slot.water) limits.kinds (kept_times_do_not_fall d.lateness sources key journal)))
      (λ below. c.number.quiet.nothing_changes (water_of sources journal) c.past below)
      c.not_due

  -- what its move from its own watermark changes is what the key changes
  pub move_is_key_move : (new : ℕ) → water_of sources journal ≤ new
      → changes_by_move d key (kept_of d.lateness sources key journal) (marks_of d.lateness sources key journal) slot.water new ≡ changes_by_move d key (kept_of d.lateness sources key journal) (marks_of d.lateness sources key journal) (water_of sources journal) new
  move_is_key_move new further = sym (changes_since d.windows key (kept_of d.lateness sources key journal) (marks_of d.lateness sources key journal) limits.kinds (kept_times_do_not_fall d.lateness sources key journal) slot.water (water_of sources journal) c.past quiet_so_far new further)

  -- nothing where it isn't due
  pub no_key_move : (new : ℕ) → water_of sources journal ≤ new → new < due → changes_by_move d key (kept_of d.lateness sources key journal) (marks_of d.lateness sources key journal) (water_of sources journal) new ≡ []
  no_key_move new further early = sym (move_is_key_move new further) ∙ c.number.quiet.nothing_changes new (omega (arith, c.past)) early

  -- and its due number is exact also from there
  pub exact_so_far : IsExact d key (kept_of d.lateness sources key journal) (marks_of d.lateness sources key journal) (water_of sources journal) due
  exact_so_far = record {
    above = λ final. ⊎_elim
        (λ same. let lt : slot.water < due = c.number.exact.above final in omega (arith, same))
        (λ below. below)
        c.not_due;
    brings = λ old new is_old is_new further early late. c.number.exact.brings old new is_old is_new (omega (arith, c.past, further)) early late;
  }

  -- so it stands under the journal's watermark as it is, and that can be noted
  pub noted : (new : Slot K) → new.state ≡ slot.state → new.water ≡ water_of sources journal → IsWater (water_of sources journal)
      → IsCurrent key_of fits next_position d sources journal key new due
  noted new same water is_water =
      let kept = kept_of d.lateness sources key journal in
      let marks = marks_of d.lateness sources key journal in
      record {
        of_key = ap key_of same ∙ c.of_key;
        stands = rw (same, water)
            (⊎_elim
            (λ there. subst (λ w. fits d kept marks w slot.state) there c.stands)
            (λ below. c.number.quiet.waits (water_of sources journal) is_water c.past below)
            c.not_due);
        position = omega (arith, ap next_position same, c.position);
        is_water = rw water is_water;
        past = omega (arith, water);
        not_due = inl water;
        number = rw (same, water) (record {
          quiet = record {
            nothing_changes = no_key_move;
            waits = λ later is further early. c.number.quiet.waits later is (omega (arith, c.past, further)) early;
          };
          exact = exact_so_far;
        });
      }

  -- where it isn't due it stays as it is
  pub waits_on : (longer : List Entry) → IsSameFor d sources journal longer key → length journal ≤ length longer → water_of sources journal ≤ water_of sources longer → water_of sources longer < due
      → IsCurrent key_of fits next_position d sources longer key slot due
  waits_on longer same long further early = record {
    of_key = c.of_key;
    stands = rw (same.kept, same.marks) c.stands;
    position = omega (arith, c.position);
    is_water = c.is_water;
    past = omega (arith, c.past);
    not_due = inr early;
    number = rw (same.kept, same.marks) c.number;
  }

  -- a moved state is that of the longer journal
  pub moved_on : (longer : List Entry) (new : Slot K) (new_due : ℕ) → IsSameFor d sources journal longer key → length journal ≤ length longer → IsWater (water_of sources longer)
      → IsMovedSlot key_of fits next_position d (water_of sources longer) slot new new_due
      → IsCurrent key_of fits next_position d sources longer key new new_due
  moved_on longer new new_due same long is_water m =
      let own : key_of new.state ≡ key = m.same_key ∙ c.of_key in
      let stands : fits d (kept_of d.lateness sources key longer) (marks_of d.lateness sources key longer) new.water new.state = rw (same.kept, same.marks) (m.still_fits (kept_of d.lateness sources key journal) (marks_of d.lateness sources key journal) c.stands) in
      record {
        of_key = own;
        stands = stands;
        position = omega (arith, c.position, m.same_next);
        is_water = rw m.moved is_water;
        past = omega (arith, m.moved);
        not_due = inl m.moved;
        number = subst (λ k. IsDueNumber fits d k (kept_of d.lateness sources key longer) (marks_of d.lateness sources key longer) new.water new.state new_due) own (m.number (kept_of d.lateness sources key longer) (marks_of d.lateness sources key longer) stands);
      }

-- ---- the places that are due
-- where nothing passes, nothing is left
pub filter_of_map : {X Y : Type 0} (f : X → Y) (p : Y → Bool) (xs : List X) → filter p (map f xs) ≡ map f (filter (λ x. p (f x)) xs)
filter_of_map f p [] = refl
filter_of_map f p (x ∷ xs) = by (p (f x)) (filter_of_map f p xs)
  where
    by : (b : Bool) → filter p (map f xs) ≡ map f (filter (λ x. p (f x)) xs) → cond b (f x ∷ filter p (map f xs)) (filter p (map f xs)) ≡ map f (cond b (x ∷ filter (λ x. p (f x)) xs) (filter (λ x. p (f x)) xs))
    by true rest = ap (λ ys. f x ∷ ys) rest
    by false rest = rest

flat_map_of_map : {X Y Z : Type 0} (f : X → Y) (g : Y → List Z) (xs : List X) → flat_map g (map f xs) ≡ flat_map (λ x. g (f x)) xs
flat_map_of_map f g [] = refl
flat_map_of_map f g (x ∷ xs) = ap (λ ys. g (f x) ++ ys) (flat_map_of_map f g xs)

no_length : {X : Type 0} (xs : List X) → length xs ≤ 0 → xs ≡ []
no_length [] l = refl
no_length (x ∷ xs) l = absurd (omega arith)

pub keys_of_filtered : (p : List ℕ × ℕ → Bool) (es : List (List ℕ × ℕ)) → IsStrictlySortedBy (slice_cmp nat_cmp) (map (λ e. e.0) es) → IsStrictlySortedBy (slice_cmp nat_cmp) (map (λ e. e.0) (filter p es))
keys_of_filtered p [] s = s
keys_of_filtered p (e ∷ es) s = by (p e) (keys_of_filtered p es (sorted_tail (slice_cmp nat_cmp) e.0 (map (λ f. f.0) es) s))
  where
    by : (b : Bool) → IsStrictlySortedBy (slice_cmp nat_cmp) (map (λ (f : List ℕ × ℕ). f.0) (filter p es)) → IsStrictlySortedBy (slice_cmp nat_cmp) (map (λ (f : List ℕ × ℕ). f.0) (cond b (e ∷ filter p es) (filter p es)))
    by true rest =
        sorted_cons nat_list_cmp_total e.0 (map (λ (f : List ℕ × ℕ). f.0) (filter p es))
        (All_from_members (λ y. slice_cmp nat_cmp e.0 y ≡ Less) (map (λ (f : List ℕ × ℕ). f.0) (filter p es))
        (λ y m. let f : (g : List ℕ × ℕ) × Contains (filter p es) g × (g.0 ≡ y) = map_members (λ (g : List ℕ × ℕ). g.0) (filter p es) y m in
        subst (λ k. slice_cmp nat_cmp e.0 k ≡ Less) f.2 (below_tail nat_list_cmp_total e.0 (map (λ (g : List ℕ × ℕ). g.0) es) s (f.0).0 (map_has (λ (g : List ℕ × ℕ). g.0) es f.0 (filter_members p es f.0 f.1).0))))
        rest
    by false rest = rest

-- keys, each with a number in place of its place
abbrev pub beside : List (List ℕ × ℕ) → List ℕ → List (List ℕ × ℕ)
beside [] ns = []
beside (f ∷ fs) [] = []
beside (f ∷ fs) (n ∷ ns) = (f.0, n) ∷ beside fs ns

keys_beside : (fs : List (List ℕ × ℕ)) (ns : List ℕ) → length ns ≡ length fs → map (λ (k : List ℕ × ℕ). k.0) (beside fs ns) ≡ map (λ (f : List ℕ × ℕ). f.0) fs
keys_beside [] ns l = refl
keys_beside (f ∷ fs) [] l = absurd (omega (arith, l))
keys_beside (f ∷ fs) (n ∷ ns) l = ap (λ ks. f.0 ∷ ks) (keys_beside fs ns (omega (arith, l)))

sum_beside : (fs : List (List ℕ × ℕ)) (ns : List ℕ) → length ns ≡ length fs → sum_by (λ (k : List ℕ × ℕ). k.1) (beside fs ns) ≡ sum_by (λ n. n) ns
sum_beside [] [] l = refl
sum_beside [] (n ∷ ns) l = absurd (omega (arith, l))
sum_beside (f ∷ fs) [] l = absurd (omega (arith, l))
sum_beside (f ∷ fs) (n ∷ ns) l =
    sum_by-cons (λ (k : List ℕ × ℕ). k.1) (f.0, n) (beside fs ns)
    ∙ ap (λ k. n + k) (sum_beside fs ns (omega (arith, l)))
    ∙ sym (sum_by-cons (λ n. n) n ns)

all_beside : (P : List ℕ → ℕ → Type 0) (fs : List (List ℕ × ℕ)) (ns : List ℕ) → length ns ≡ length fs → ((i : ℕ) → i < length fs → P (get_or fs i ([], 0)).0 (get_or ns i 0)) → All (λ (k : List ℕ × ℕ). P k.0 k.1) (beside fs ns)
all_beside P [] ns l h = All-nil (λ (k : List ℕ × ℕ). P k.0 k.1)
all_beside P (f ∷ fs) [] l h = absurd (omega (arith, l))
all_beside P (f ∷ fs) (n ∷ ns) l h = All-cons (λ (k : List ℕ × ℕ). P k.0 k.1) (f.0, n) (beside fs ns) (h 0 (omega arith)) (all_beside P fs ns (omega (arith, l)) (λ i il. h (suc i) (omega (arith, il))))

-- a watermark lies up to the final one
at_most_final : (water : ℕ) → IsWater water → water ≤ FINAL
at_most_final water (inl within) = omega (arith, within)
at_most_final water (inr final) = omega (arith, final)

-- no step is within the sum over no keys
pub none_is_due : (bounds : Definitions → List ℕ → Moment → Moment → ℕ → Type 0) (s : Sharded) (e : Entry) (steps : ℕ) → IsMoveWithin bounds s e steps steps
none_is_due bounds s e steps = record {
  due = [];
  each_once = sorted_nil nat_list_cmp_total;
  each_due = All-nil (λ (k : List ℕ × ℕ). IsDueBy bounds s e k.0 k.1);
  within = omega arith;
}

-- a slot of a table that has one
pub any_slot : {K : Type 0} (slots : List (Slot K)) → 0 < length slots → Slot K
any_slot [] l = absurd (omega arith)
any_slot (slot ∷ slots) l = slot

-- where no two entries of a place have different keys, no two places are the same
places_apart : (es : List (List ℕ × ℕ)) → IsStrictlySortedBy (slice_cmp nat_cmp) (map (λ e. e.0) es) → ((e f : List ℕ × ℕ) → Contains es e → Contains es f → e.1 ≡ f.1 → e.0 ≡ f.0) → AllPairs (λ (a b : ℕ). a ≢ b) (map (λ e. e.1) es)
places_apart [] s one = λ i j x l m. absurd (omega arith)
places_apart (e ∷ es) s one =
    AllPairs-cons (λ (a b : ℕ). a ≢ b) e.1 (map (λ f. f.1) es)
    (All_from_members (λ (b : ℕ). e.1 ≢ b) (map (λ f. f.1) es)
    (λ b c same.
    let m : (f : List ℕ × ℕ) × Contains es f × (f.1 ≡ b) = map_members (λ (f : List ℕ × ℕ). f.1) es b c in
    let key : e.0 ≡ (m.0).0 = one e m.0 (Contains-head e es) (Contains-tail e es m.0 m.1) (same ∙ sym m.2) in
    not_below_itself nat_list_cmp_total e.0
    (subst (λ k. slice_cmp nat_cmp e.0 k ≡ Less) (sym key) (below_tail nat_list_cmp_total e.0 (map (λ (f : List ℕ × ℕ). f.0) es) s (m.0).0 (map_has (λ (f : List ℕ × ℕ). f.0) es m.0 m.1)))))
    (places_apart es (sorted_tail (slice_cmp nat_cmp) e.0 (map (λ f. f.0) es) s) (λ f g a b. one f g (Contains-tail e es f a) (Contains-tail e es g b)))

module _ {K : Type 0} (key_of : K → List ℕ) (fits : Definitions → List Kept → List ℕ → ℕ → K → Type 0) (next_position : K → ℕ) (d : Definitions) (sources : ℕ) (journal : List Entry) (t : KeyTable K) (c : AreCurrent key_of fits next_position d sources journal t) where
  -- a place is a key's exactly where the index has it so
  has_place : (key : List ℕ) (p : ℕ) → Contains t.index (key, p) → place_of_key t key ≡ Some p
  has_place key p m = lookup-from_Contains (eq_by_cmp_equiv nat_list_cmp_total) key p t.index (IsDistinct-from_sorted (slice_cmp nat_cmp) (map (λ (e : List ℕ × ℕ). e.0) t.index) c.in_order) m

  pub is_entry : (key : List ℕ) (p : ℕ) → place_of_key t key ≡ Some p → Contains t.index (key, p)
  is_entry key p at = Contains-from_lookup (tells_apart exact_bytes) key p t.index at

  module _ (new : ℕ) where
    -- a place that is due is that of a key
    pub record IsDuePlace (p : ℕ) : Type 0 where
      pub key : List ℕ
      pub at : place_of_key t key ≡ Some p
      pub due : get_or t.dues.items p 0 ≤ new

    due_place : (p : ℕ) → Contains (due_places t new) p → IsDuePlace p
    due_place p m =
        let f : Contains (values_of t.index) p × (nat_le (get_or t.dues.items p 0) new ≡ true) = filter_members (λ q. nat_le (get_or t.dues.items q 0) new) (values_of t.index) p m in
        let e : (g : List ℕ × ℕ) × Contains t.index g × (g.1 ≡ p) = map_members (λ (g : List ℕ × ℕ). g.1) t.index p f.0 in
        record {
          key = (e.0).0;
          at = has_place (e.0).0 (e.0).1 e.1 ∙ ap (λ q. Some q) e.2;
          due = leb-true (get_or t.dues.items p 0) new f.1;
        }

    pub due_at : (i : ℕ) → i < length (due_places t new) → IsDuePlace (get_or (due_places t new) i 0)
    due_at i l = due_place (get_or (due_places t new) i 0) (Contains-get_or (due_places t new) i 0 l)

    pub is_due : (key : List ℕ) (p : ℕ) → place_of_key t key ≡ Some p → get_or t.dues.items p 0 ≤ new → Contains (due_places t new) p
    is_due key p at due = filter_has (λ q. nat_le (get_or t.dues.items q 0) new) (values_of t.index) p (map_has (λ (g : List ℕ × ℕ). g.1) t.index (key, p) (is_entry key p at)) (le-leb (get_or t.dues.items p 0) new due)

    pub due_places_apart : AreApart (due_places t new)
    due_places_apart i j l m =
        let first : IsDuePlace (get_or (due_places t new) i 0) = due_at i (omega arith) in
        let x : Slot K = any_slot t.slots.items (omega (arith, c.placed first.key (get_or (due_places t new) i 0) first.at)) in
        AllPairs-filter (λ (a b : ℕ). a ≢ b) (λ p. nat_le (get_or t.dues.items p 0) new) (values_of t.index)
        (places_apart t.index c.in_order
        (λ e f a b same. one_key key_of fits next_position d sources journal t e.0 f.0 e.1 x c (has_place e.0 e.1 a) (has_place f.0 f.1 b ∙ ap (λ p. Some p) (sym same))))
        i j 0 l m

    -- so they are places of keys
    pub due_are_places : ArePlaces t (due_places t new)
    due_are_places i l = ((due_at i l).key, (due_at i l).at)

    -- the states there can be moved
    pub due_movable : water_of sources journal ≤ new → IsWater new → AreMovable fits d t.slots.items (due_places t new) new
    due_movable le is_water = record {
      within = λ i l. c.placed (due_at i l).key (get_or (due_places t new) i 0) (due_at i l).at;
      apart = due_places_apart;
      rises = λ i l x. omega (arith, (c.current (due_at i l).key (get_or (due_places t new) i 0) x (due_at i l).at).past);
      stand = λ i l x. let key = (due_at i l).key in
          (kept_of d.lateness sources key journal, marks_of d.lateness sources key journal, (c.current key (get_or (due_places t new) i 0) x (due_at i l).at).stands);
      is_water = is_water;
    }

    -- and each stands for what is kept of its key
    pub due_stand : (x : Slot K) → EachIndex (due_places t new) (λ i. StandsIn key_of fits d (λ key. kept_of d.lateness sources key journal) (λ key. marks_of d.lateness sources key journal) (get_or t.slots.items (get_or (due_places t new) i 0) x))
    due_stand x i l =
        let was : IsCurrent key_of fits next_position d sources journal (due_at i l).key (get_or t.slots.items (get_or (due_places t new) i 0) x) (get_or t.dues.items (get_or (due_places t new) i 0) 0) = c.current (due_at i l).key (get_or (due_places t new) i 0) x (due_at i l).at in
        rw was.of_key was.stands

    -- the keys of the places that are due
    due_keys : List (List ℕ)
    due_keys = map (λ (e : List ℕ × ℕ). e.0) (filter (λ (e : List ℕ × ℕ). nat_le (get_or t.dues.items e.1 0) new) t.index)

    is_due_entry : List ℕ × ℕ → Bool
    is_due_entry f = nat_le (get_or t.dues.items f.1 0) new

    module _ (e : Entry) (limits : AreWithinLimits d) (progress : is_progress e.what ≡ true) (is : new ≡ water_of sources (journal ++ e ∷ [])) where
      further : water_of sources journal ≤ new
      further = subst (λ w. water_of sources journal ≤ w) (sym is) (water_rises sources journal e)

      -- the changes are the moves of the keys that are due
      due_changes : changes_after d sources journal e ≡ flat_map (key_moves d sources journal e progress new) due_keys
      unfolding due_keys is_due_entry
      due_changes =
          progress_changes d sources journal e progress new limits is
          ∙ same_for_keys (key_moves d sources journal e progress new) (keys_of journal) due_keys (keys_in_order journal) (keys_of_filtered is_due_entry t.index c.in_order) not_due not_known
        where
          nothing : (key : List ℕ) → kept_of d.lateness sources key journal ≡ [] → key_moves d sources journal e progress new key ≡ []
          nothing key none = no_changes_of_none d.windows key (moment (kept_of d.lateness sources key journal) (marks_of d.lateness sources key journal) (water_of sources journal)) (moment (kept_of d.lateness sources key journal) (marks_of d.lateness sources key journal) new) none none

          not_due : (key : List ℕ) → Contains (keys_of journal) key → (Contains due_keys key → ⊥) → key_moves d sources journal e progress new key ≡ []
          not_due key known not = by (place_of_key t key) refl
            where
              by : (o : Option ℕ) → place_of_key t key ≡ o → key_moves d sources journal e progress new key ≡ []
              by None at = nothing key (c.nothing_kept key at)
              by (Some p) at =
                  let x : Slot K = any_slot t.slots.items (omega (arith, c.placed key p at)) in
                  ⊎_elim
                  (λ early. no_key_move key_of fits next_position d sources journal limits key (get_or t.slots.items p x) (get_or t.dues.items p 0) (c.current key p x at) new further early)
                  (λ due. absurd (not (map_has (λ (f : List ℕ × ℕ). f.0) (filter is_due_entry t.index) (key, p) (filter_has is_due_entry t.index (key, p) (is_entry key p at) (le-leb (get_or t.dues.items p 0) new due)))))
                  (cases_lt new (get_or t.dues.items p 0))

          not_known : (key : List ℕ) → Contains due_keys key → (Contains (keys_of journal) key → ⊥) → key_moves d sources journal e progress new key ≡ []
          not_known key due not = nothing key (nothing_kept d.lateness sources key journal not)

      -- and those are the moves of the states that are due
      pub moves_are_changes : (x : Slot K)
          → flat_map (λ p. moves_of key_of d (λ key. kept_of d.lateness sources key journal) (λ key. marks_of d.lateness sources key journal) new (get_or t.slots.items p x)) (due_places t new) ≡ changes_after d sources journal e
      unfolding due_keys is_due_entry
      moves_are_changes x =
          ap (flat_map moves) (filter_of_map (λ (f : List ℕ × ℕ). f.1) (λ p. nat_le (get_or t.dues.items p 0) new) t.index)
          ∙ flat_map_of_map (λ (f : List ℕ × ℕ). f.1) moves (filter is_due_entry t.index)
          ∙ flat_map_same (λ f. moves f.1) (λ f. key_moves d sources journal e progress new f.0) (filter is_due_entry t.index) (λ f m. as_key f (filter_members is_due_entry t.index f m).0)
          ∙ sym (flat_map_of_map (λ (f : List ℕ × ℕ). f.0) (key_moves d sources journal e progress new) (filter is_due_entry t.index))
          ∙ sym due_changes
        where
          moves : ℕ → List Change
          moves p = moves_of key_of d (λ key. kept_of d.lateness sources key journal) (λ key. marks_of d.lateness sources key journal) new (get_or t.slots.items p x)

          as_key : (f : List ℕ × ℕ) → Contains t.index f → moves f.1 ≡ key_moves d sources journal e progress new f.0
          as_key f m =
              let was : IsCurrent key_of fits next_position d sources journal f.0 (get_or t.slots.items f.1 x) (get_or t.dues.items f.1 0) = c.current f.0 f.1 x (has_place f.0 f.1 m) in
              ap (λ k. changes_by_move d k (kept_of d.lateness sources k journal) (marks_of d.lateness sources k journal) (get_or t.slots.items f.1 x).water new) was.of_key
              ∙ move_is_key_move key_of fits next_position d sources journal limits f.0 (get_or t.slots.items f.1 x) (get_or t.dues.items f.1 0) was new further

      -- where nothing is due, nothing changes
      pub nothing_due_nothing_changes : due_places t new ≡ [] → changes_after d sources journal e ≡ []
      unfolding due_keys is_due_entry
      nothing_due_nothing_changes none =
          let no_entry : filter is_due_entry t.index ≡ [] = map_none (λ (f : List ℕ × ℕ). f.1) (filter is_due_entry t.index) (sym (filter_of_map (λ (f : List ℕ × ℕ). f.1) (λ p. nat_le (get_or t.dues.items p 0) new) t.index) ∙ none) in
          due_changes ∙ ap (λ fs. flat_map (key_moves d sources journal e progress new) (map (λ (f : List ℕ × ℕ). f.0) fs)) no_entry

      -- so the changes that all those moves append are those of the entry
      pub appended : (start out : List Change)
          → ((x : Slot K) → EachIndex (due_places t new) (λ i. StandsIn key_of fits d (λ key. kept_of d.lateness sources key journal) (λ key. marks_of d.lateness sources key journal) (get_or t.slots.items (get_or (due_places t new) i 0) x))
          → out ≡ start ++ flat_map (λ p. moves_of key_of d (λ key. kept_of d.lateness sources key journal) (λ key. marks_of d.lateness sources key journal) new (get_or t.slots.items p x)) (due_places t new))
          → (due_places t new ≡ [] → out ≡ start)
          → out ≡ start ++ changes_after d sources journal e
      appended start out all none =
          ⊎_elim
          (λ some. let first : IsDuePlace (get_or (due_places t new) 0 0) = due_at 0 some in
          let x : Slot K = any_slot t.slots.items (omega (arith, c.placed first.key (get_or (due_places t new) 0 0) first.at)) in
          all x (due_stand x) ∙ ap (λ ys. start ++ ys) (moves_are_changes x))
          (λ few. let empty : due_places t new ≡ [] = no_length (due_places t new) few in
          none empty ∙ sym (append-nil start) ∙ ap (λ ys. start ++ ys) (sym (nothing_due_nothing_changes empty)))
          (cases_lt 0 (length (due_places t new)))

      -- where those states stand under the journal's watermark, the moves take no more than the keys that are due allow
      module _ (bounds : Definitions → List ℕ → Moment → Moment → ℕ → Type 0) (is_water : IsWater new) (caught : StandAt (water_of sources journal) t.slots.items (due_places t new) (length (due_places t new))) (steps later : ℕ) where
        abbrev shard : Sharded
        shard = record { defs = d; sources = sources; journal = journal }

        abbrev entries : List (List ℕ × ℕ)
        entries = filter (λ (f : List ℕ × ℕ). nat_le (get_or t.dues.items f.1 0) new) t.index

        abbrev AreWithin : Slot K → Type 0
        AreWithin x = AreMovedWithin bounds key_of d (λ key. kept_of d.lateness sources key journal) (λ key. marks_of d.lateness sources key journal) new t.slots.items x (due_places t new) (length (due_places t new)) steps later

        places_are : due_places t new ≡ map (λ (f : List ℕ × ℕ). f.1) entries
        places_are = filter_of_map (λ (f : List ℕ × ℕ). f.1) (λ p. nat_le (get_or t.dues.items p 0) new) t.index

        as_many : (x : Slot K) (m : AreWithin x) → length m.most ≡ length entries
        as_many x m = m.as_many ∙ ap length places_are ∙ length-map entries (λ (f : List ℕ × ℕ). f.1)

        one_due : (x : Slot K) (m : AreWithin x) (i : ℕ) → i < length entries → IsDueBy bounds shard e (get_or entries i ([], 0)).0 (get_or m.most i 0)
        one_due x m i l =
            let f = get_or entries i ([], 0) in
            let most = get_or m.most i 0 in
            let kept = λ (key : List ℕ). kept_of d.lateness sources key journal in
            let marks = λ (key : List ℕ). marks_of d.lateness sources key journal in
            let within : i < length (due_places t new) = omega (arith, l, as_many x m, m.as_many) in
            let there = filter_members (λ (f : List ℕ × ℕ). nat_le (get_or t.dues.items f.1 0) new) t.index f (Contains-get_or entries i ([], 0) l) in
            let due : get_or t.dues.items f.1 0 ≤ new = leb-true (get_or t.dues.items f.1 0) new there.1 in
            let place : get_or (due_places t new) i 0 ≡ f.1 = ap (λ ps. get_or ps i 0) places_are ∙ get_or-map (λ (f : List ℕ × ℕ). f.1) entries i ([], 0) 0 l in
            let slot = get_or t.slots.items f.1 x in
            let was : IsCurrent key_of fits next_position d sources journal f.0 slot (get_or t.dues.items f.1 0) = c.current f.0 f.1 x (has_place f.0 f.1 there.0) in
            let water : slot.water ≡ water_of sources journal = subst (λ p. (get_or t.slots.items p x).water ≡ water_of sources journal) place (caught i within x) in
            let exact = exact_so_far key_of fits next_position d sources journal limits f.0 slot (get_or t.dues.items f.1 0) was in
            let same = progress_stays d sources journal e progress f.0 in
            record {
              is_due = subst (BringsMore d f.0 (kept f.0) (marks f.0) (water_of sources journal)) is
                  (exact.brings (water_of sources journal) new (subst IsWater water was.is_water) is_water (omega arith) (exact.above (omega (arith, due, at_most_final new is_water))) due);
              is_bound = subst (λ n. bounds d f.0 (moment (kept f.0) (marks f.0) (water_of sources journal)) n most) (λ j. moment (sym same.kept j) (sym same.marks j) (is j))
                  (subst (λ w. bounds d f.0 (moment (kept f.0) (marks f.0) w) (moment (kept f.0) (marks f.0) new) most) water
                  (subst (λ k. bounds d k (moment (kept k) (marks k) slot.water) (moment (kept k) (marks k) new) most) was.of_key
                  (subst (λ p. BoundsMove bounds key_of d kept marks new (get_or t.slots.items p x) most) place (m.are_bounds i within))));
            }

        pub moved_within : (due_places t new ≡ [] → later ≡ steps)
            → ((x : Slot K) → EachIndex (due_places t new) (λ i. StandsIn key_of fits d (λ key. kept_of d.lateness sources key journal) (λ key. marks_of d.lateness sources key journal) (get_or t.slots.items (get_or (due_places t new) i 0) x)) → AreWithin x)
            → IsMoveWithin bounds shard e steps later
        moved_within idle all =
            ⊎_elim
            (λ some. let first : IsDuePlace (get_or (due_places t new) 0 0) = due_at 0 some in
            let x : Slot K = any_slot t.slots.items (omega (arith, c.placed first.key (get_or (due_places t new) 0 0) first.at)) in
            let m : AreWithin x = all x (due_stand x) in
            record {
              due = beside entries m.most;
              each_once = subst (IsStrictlySortedBy (slice_cmp nat_cmp)) (sym (keys_beside entries m.most (as_many x m))) (keys_of_filtered (λ (f : List ℕ × ℕ). nat_le (get_or t.dues.items f.1 0) new) t.index c.in_order);
              each_due = all_beside (IsDueBy bounds shard e) entries m.most (as_many x m) (one_due x m);
              within = omega (arith, m.within, sum_beside entries m.most (as_many x m));
            })
            (λ few. subst (IsMoveWithin bounds shard e steps) (sym (idle (no_length (due_places t new) few))) (none_is_due bounds shard e steps))
            (cases_lt 0 (length (due_places t new)))

-- ---- the table
module _ {K : Type 0} (key_of : K → List ℕ) (fits : Definitions → List Kept → List ℕ → ℕ → K → Type 0) (next_position : K → ℕ) (d : Definitions) (sources : ℕ) (journal : List Entry) where
  -- a table whose slots stand for the same
  pub same_table : (old new : KeyTable K) → new.index ≡ old.index → new.dues ≡ old.dues → AreSameSlots key_of fits next_position d old.slots.items new.slots.items
      → AreCurrent key_of fits next_position d sources journal old
      → AreCurrent key_of fits next_position d sources journal new
  same_table old new index dues same c = record {
    in_order = rw index c.in_order;
    aligned = ap (λ v. length v.items) dues ∙ c.aligned ∙ sym same.as_many;
    counted = same.as_many ∙ c.counted ∙ sym (ap length index);
    placed = λ key p at. subst (λ n. p < n) (sym same.as_many) (c.placed key p (rw (← index) at));
    current = λ key p x at. rw dues (alike key_of fits next_position d sources journal key (get_or old.slots.items p x) (get_or new.slots.items p x) (get_or old.dues.items p 0) (same.each_same p x) (c.current key p x (rw (← index) at)));
    nothing_kept = λ key at. c.nothing_kept key (rw (← index) at);
    no_marks = λ key at. c.no_marks key (rw (← index) at);
  }

  -- a table whose due states were moved is that of the longer journal
  pub moved_table : (old new : KeyTable K) (e : Entry) (water : ℕ)
      → AreWithinLimits d → is_progress e.what ≡ true → water ≡ water_of sources (journal ++ e ∷ []) → IsWater water
      → AreCurrent key_of fits next_position d sources journal old
      → new.index ≡ old.index
      → length new.slots.items ≡ length old.slots.items
      → length new.dues.items ≡ length old.dues.items
      → IsSameOutside old.slots.items new.slots.items (due_places old water)
      → IsSameOutside old.dues.items new.dues.items (due_places old water)
      → ((x : Slot K) → EachIndex (due_places old water) (λ i. IsMovedSlot key_of fits next_position d water (get_or old.slots.items (get_or (due_places old water) i 0) x) (get_or new.slots.items (get_or (due_places old water) i 0) x) (get_or new.dues.items (get_or (due_places old water) i 0) 0)))
      → AreCurrent key_of fits next_position d sources (journal ++ e ∷ []) new
  moved_table old new e water limits progress is is_water c index n n_dues others other_dues moved = record {
    in_order = rw index c.in_order;
    aligned = n_dues ∙ c.aligned ∙ sym n;
    counted = n ∙ c.counted ∙ sym (ap length index);
    placed = λ key p at. subst (λ k. p < k) (sym n) (c.placed key p (rw (← index) at));
    current = λ key p x at. ⊎_elim (λ early. waiting key p x (rw (← index) at) early) (λ due. on key p x (rw (← index) at) due) (cases_lt water (get_or old.dues.items p 0));
    nothing_kept = λ key at. (progress_stays d sources journal e progress key).kept ∙ c.nothing_kept key (rw (← index) at);
    no_marks = λ key at. (progress_stays d sources journal e progress key).marks ∙ c.no_marks key (rw (← index) at);
  }
    where
      longer : length journal ≤ length (journal ++ e ∷ [])
      longer = rw length-append (omega arith)

      on : (key : List ℕ) (p : ℕ) (x : Slot K) → place_of_key old key ≡ Some p → get_or old.dues.items p 0 ≤ water → IsCurrent key_of fits next_position d sources (journal ++ e ∷ []) key (get_or new.slots.items p x) (get_or new.dues.items p 0)
      on key p x at due =
          let m : Contains (due_places old water) p = is_due key_of fits next_position d sources journal old c water key p at due in
          moved_on key_of fits next_position d sources journal limits key (get_or old.slots.items p x) (get_or old.dues.items p 0) (c.current key p x at) (journal ++ e ∷ []) (get_or new.slots.items p x) (get_or new.dues.items p 0)
          (progress_stays d sources journal e progress key) longer (subst IsWater is is_water)
          (let same : get_or (due_places old water) m.0 0 ≡ p = get_or_default (due_places old water) m.0 0 p m.1 ∙ m.2 in
          subst (λ q. IsMovedSlot key_of fits next_position d (water_of sources (journal ++ e ∷ [])) (get_or old.slots.items q x) (get_or new.slots.items q x) (get_or new.dues.items q 0)) same
          (rw (← is) (moved x m.0 m.1)))

      waiting : (key : List ℕ) (p : ℕ) (x : Slot K) → place_of_key old key ≡ Some p → water < get_or old.dues.items p 0 → IsCurrent key_of fits next_position d sources (journal ++ e ∷ []) key (get_or new.slots.items p x) (get_or new.dues.items p 0)
      waiting key p x at early =
          let apart : (j : ℕ) → j < length (due_places old water) → get_or (due_places old water) j 0 ≢ p =
          λ j jl same. let q : IsDuePlace key_of fits next_position d sources journal old c water (get_or (due_places old water) j 0) = due_at key_of fits next_position d sources journal old c water j jl in
          let due : get_or old.dues.items p 0 ≤ water = subst (λ k. get_or old.dues.items k 0 ≤ water) same q.due in
          omega arith in
          rw (others p x apart, other_dues p 0 apart)
          (waits_on key_of fits next_position d sources journal limits key (get_or old.slots.items p x) (get_or old.dues.items p 0) (c.current key p x at) (journal ++ e ∷ [])
          (progress_stays d sources journal e progress key) longer (water_rises sources journal e) (subst (λ w. w < get_or old.dues.items p 0) is early))

  -- a table of which no key and not the watermark changes
  pub still_table : (t : KeyTable K) (e : Entry) → ((key : List ℕ) → IsSameFor d sources journal (journal ++ e ∷ []) key) → water_of sources (journal ++ e ∷ []) ≡ water_of sources journal
      → AreCurrent key_of fits next_position d sources journal t
      → AreCurrent key_of fits next_position d sources (journal ++ e ∷ []) t
  still_table t e same water c = record {
    in_order = c.in_order;
    aligned = c.aligned;
    counted = c.counted;
    placed = c.placed;
    current = λ key p x at. still_current key_of fits next_position d sources journal (journal ++ e ∷ []) key (get_or t.slots.items p x) (get_or t.dues.items p 0) (same key) (rw length-append (omega arith)) water (c.current key p x at);
    nothing_kept = λ key at. (same key).kept ∙ c.nothing_kept key at;
    no_marks = λ key at. (same key).marks ∙ c.no_marks key at;
  }

-- a late entry keeps nothing, and is a tuple or mark
pub late_stays : (d : Definitions) (sources : ℕ) (journal : List Entry) (e : Entry) → is_late d.lateness (water_of sources journal) e.what ≡ true → (key : List ℕ) → IsSameFor d sources journal (journal ++ e ∷ []) key
late_stays d sources journal e late key = record { kept = kept_of_late d.lateness sources key journal e late; marks = marks_of_late d.lateness sources key journal e late }

pub late_leaves_water : (lateness sources : ℕ) (journal : List Entry) (e : Entry) → is_late lateness (water_of sources journal) e.what ≡ true → water_of sources (journal ++ e ∷ []) ≡ water_of sources journal
late_leaves_water lateness sources journal e late = water_of_same sources journal e (no_word (water_of sources journal) e.what late)
  where
    no_word : (water : ℕ) (what : What) → is_late lateness water what ≡ true → is_progress what ≡ false
    no_word water (Tuple key time value) l = refl
    no_word water (Mark key time) l = refl
    no_word water (Water time) l = cc
    no_word water Idle l = cc
    no_word water End l = cc
