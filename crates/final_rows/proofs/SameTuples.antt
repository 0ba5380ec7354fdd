-- Two lists of entries that have the same tuples and marks of a key, no two of them tuples of one time, give the same rows of it.
use Rattle.std.proofs.Common.{◌≡◌, ◌∙◌, ℕ, ◌<◌, ◌≤◌, Bool, true, false, cond, List, [], ◌∷◌, length, get_or, map, ap, sym, refl, subst, subst₂, inl, inr, arith, Some, None, Ordering}
use Rattle.std.specs.Prelude.{ℤ}
use Rattle.std.specs.declared.cmp.Ordering.TheVariants.{Less}
use Rattle.std.specs.Cmp.{IsTotalOrder}
use Rattle.std.specs.List.{Contains, enumerate_from, filter, filter_map, flat_map}
use Rattle.std.specs.List.Sorted.{IsStrictlySortedBy}
use Rattle.std.specs.Ordering.{nat_cmp, ordering_then}
use Rattle.std.specs.Str.{bytes_eq}
use Rattle.std.proofs.lemmas.Bool.{cases_eq, cases_order}
use Rattle.std.proofs.lemmas.Bool.Decides.{nat_tests}
use Rattle.std.proofs.lemmas.Cmp.{nat_cmp_total, on_total}
use Rattle.std.proofs.lemmas.List.{length-map}
use Rattle.std.proofs.lemmas.Map.Keys.{sorted_tail}
use Rattle.std.proofs.lemmas.Option.{get_or_from_slice_get, none-some, same_Some, slice_get-get_or, slice_get_within}
use Rattle.std.proofs.lemmas.Slice.Eq.{bytes_eq-Decides}
use Rattle.stream_base.specs.declared.def.Def.{Def}
use Rattle.stream_base.specs.declared.entry.Entry.{Entry}
use Rattle.stream_base.specs.declared.func.Func.{Func}
use Rattle.stream_base.specs.declared.kept.Kept.{Kept}
use Rattle.stream_base.specs.declared.limits.TheConstants.{FINAL}
use Rattle.stream_base.specs.declared.what.What.{What}
use Rattle.stream_base.specs.declared.what.What.TheVariants.{Tuple, Mark, Water, Idle, End}
use Rattle.stream_base.specs.Laws.{AreInEventOrder, IsAcceptedMark, IsAcceptedTuple, by_time_and_position}
use Rattle.stream_base.specs.Model.Changes.{Moment, row_of, rows_at}
use Rattle.stream_base.specs.Model.Final.{final_moment}
use Rattle.stream_base.specs.Model.Functions.{shown_of}
use Rattle.stream_base.specs.Model.What.{key_in, mark_in, tuple_in}
use Rattle.stream_base.specs.Model.Windows.{Instance, instances_of, is_complete, standing_of}
use Rattle.model_laws.proofs.Absent.{bytes_eq_true}
use Rattle.stream_base.proofs.Distinct.{All_from_members, less_from_lt, sorted_map}
use Rattle.stream_base.proofs.EventOrder.{event_order_total}
use Rattle.stream_base.proofs.Members.{map_has, map_members}
use Rattle.stream_base.proofs.Rising.{Contains-head, Contains-tail, below_tail, nat_rising_is_sorted, same_members_same_list, sorted_cons, sorted_nil}
use Rattle.window_laws.specs.Instances.{with_each}
use Rattle.window_laws.proofs.TimesFacts.{map_map}
use Rattle.window_laws.proofs.KindFacts.{instances_each}
use Rattle.final_rows.specs.AtEnd.{AreTied, HasNoTies}
use Rattle.final_rows.proofs.Moments.{AreEarly, Contains-stands, final_in_event_order, kept_stands, mark_stands, stands_kept, stands_marked}

-- ---- what a row tells of tuples doesn't depend on their positions
-- a tuple without its position
abbrev pub placeless : Kept → Kept
placeless x = record { position = 0; time = x.time; value = x.value }

row_each : (window : ℕ) (key : List ℕ) (func : Func) (i : Instance) → row_of window key func (with_each placeless i) ≡ row_of window key func i
row_each window key func i =
    let n = length-map i.chosen placeless in
    let v = map_map (λ (x : Kept). x.value) placeless i.chosen in
    λ j. record { window = window; key = key; low = i.low; high = i.high; number = n j; shown = shown_of func (v j) }

rows_each : (window : ℕ) (key : List ℕ) (func : Func) (water : ℕ) (is : List Instance)
    → map (row_of window key func) (filter (is_complete water) (map (with_each placeless) is)) ≡ map (row_of window key func) (filter (is_complete water) is)
rows_each window key func water [] = refl
rows_each window key func water (i ∷ is) = by (is_complete water i) (rows_each window key func water is)
  where
    by : (b : Bool) → map (row_of window key func) (filter (is_complete water) (map (with_each placeless) is)) ≡ map (row_of window key func) (filter (is_complete water) is)
        → map (row_of window key func) (cond b (with_each placeless i ∷ filter (is_complete water) (map (with_each placeless) is)) (filter (is_complete water) (map (with_each placeless) is)))
        ≡ map (row_of window key func) (cond b (i ∷ filter (is_complete water) is) (filter (is_complete water) is))
    by true h = λ j. row_each window key func i j ∷ h j
    by false h = h

standing_each : (key : List ℕ) (marks : List ℕ) (water : ℕ) (kept : List Kept) (w : ℕ × Def)
    → map (row_of w.0 key (w.1).func) (standing_of (w.1).kind (map placeless kept) marks water) ≡ map (row_of w.0 key (w.1).func) (standing_of (w.1).kind kept marks water)
standing_each key marks water kept w =
    ap (λ is. map (row_of w.0 key (w.1).func) (filter (is_complete water) is)) (instances_each placeless (w.1).kind kept marks (λ x. refl))
    ∙ rows_each w.0 key (w.1).func water (instances_of (w.1).kind kept marks)

-- tuples that are alike but for their positions give the same rows
pub rows_alike : (windows : List Def) (key : List ℕ) (m n : Moment) → map placeless m.kept ≡ map placeless n.kept → m.marks ≡ n.marks → m.water ≡ n.water → rows_at windows key m ≡ rows_at windows key n
rows_alike windows key m n k a w =
    sym (λ i. flat_map (λ v. standing_each key m.marks m.water m.kept v i) (enumerate_from 0 windows))
    ∙ (λ i. flat_map (λ (v : ℕ × Def). map (row_of v.0 key (v.1).func) (standing_of (v.1).kind (k i) (a i) (w i))) (enumerate_from 0 windows))
    ∙ (λ i. flat_map (λ v. standing_each key n.marks n.water n.kept v i) (enumerate_from 0 windows))

-- ---- tuples of a key, no two of one time, are in the order of their times
abbrev pub by_time : Kept → Kept → Ordering
by_time x y = nat_cmp x.time y.time

by_time_total : IsTotalOrder by_time
by_time_total = on_total (λ (x : Kept). x.time) nat_cmp_total

not_after : (a b c d : ℕ) → ordering_then (nat_cmp a b) (nat_cmp c d) ≡ Less → a ≤ b
not_after a b c d h = grind (arith, nat_tests)

not_tied : (a b c d : ℕ) → a ≡ b → c ≡ d → ordering_then (nat_cmp a b) (nat_cmp c d) ≡ Less → ⊥
not_tied a b c d e f h = grind (arith, nat_tests)

later_time : (a b c d : ℕ) → ordering_then (nat_cmp a b) (nat_cmp c d) ≡ Less → (a ≡ b → c ≡ d) → nat_cmp a b ≡ Less
later_time a b c d h same = elim (cases_eq a b) [
  | inl e ↦ absurd (not_tied a b c d e (same e) h)
  | inr ne ↦ (let le : a ≤ b = not_after a b c d h in less_from_lt a b (omega arith))
]

strict_times : (kept : List Kept) → AreInEventOrder kept → ((x y : Kept) → Contains kept x → Contains kept y → x.time ≡ y.time → x.position ≡ y.position) → IsStrictlySortedBy by_time kept
strict_times [] s one = sorted_nil by_time_total
strict_times (x ∷ xs) s one =
    sorted_cons by_time_total x xs
    (All_from_members (λ y. by_time x y ≡ Less) xs (λ y c. later_time x.time y.time x.position y.position (below_tail event_order_total x xs s y c) (one x y (Contains-head x xs) (Contains-tail x xs y c))))
    (strict_times xs (sorted_tail by_time_and_position x xs s) (λ y z c d. one y z (Contains-tail x xs y c) (Contains-tail x xs z d)))

-- ---- tuples as entries
pub says_tuple : (key : List ℕ) (position : ℕ) (what : What) (x : Kept) → tuple_in key position what ≡ Some x → what ≡ Tuple key x.time x.value
says_tuple key position (Tuple of time value) x h = by (bytes_eq of key) refl h
  where
    by : (b : Bool) → bytes_eq of key ≡ b → cond b (Some (record { position = position; time = time; value = value })) None ≡ Some x → Tuple of time value ≡ Tuple key x.time x.value
    by true e g =
        let same : record { position = position; time = time; value = value } ≡ x = same_Some (record { position = position; time = time; value = value }) x g in
        let k : of ≡ key = bytes_eq_true of key e in
        λ i. Tuple (k i) (same i).time (same i).value
    by false e g = absurd (none-some x g)
says_tuple key position (Mark of time) x h = absurd (none-some x h)
says_tuple key position (Water time) x h = absurd (none-some x h)
says_tuple key position Idle x h = absurd (none-some x h)
says_tuple key position End x h = absurd (none-some x h)

pub tuple_said : (key : List ℕ) (position time : ℕ) (value : ℤ) → tuple_in key position (Tuple key time value) ≡ Some (record { position = position; time = time; value = value })
tuple_said key position time value = ap (λ b. cond b (Some (record { position = position; time = time; value = value })) None) ((bytes_eq-Decides key key).1 refl)

pub says_mark : (key : List ℕ) (what : What) (time : ℕ) → mark_in key what ≡ Some time → key_in what ≡ Some key
says_mark key (Mark of at) time h = by (bytes_eq of key) refl h
  where
    by : (b : Bool) → bytes_eq of key ≡ b → cond b (Some at) None ≡ Some time → Some of ≡ Some key
    by true e g = ap Some (bytes_eq_true of key e)
    by false e g = absurd (none-some time g)
says_mark key (Tuple of at value) time h = absurd (none-some time h)
says_mark key (Water at) time h = absurd (none-some time h)
says_mark key Idle time h = absurd (none-some time h)
says_mark key End time h = absurd (none-some time h)

-- ---- the same tuples and marks of a key
abbrev pub HaveSame : List ℕ → List Entry → List Entry → Type 0
HaveSame key xs ys = (e : Entry) → key_in e.what ≡ Some key → Contains xs e → Contains ys e

module _ (key : List ℕ) (xs : List Entry) (times : AreEarly xs) where
  -- two tuples of one time have one position, where no two are tied
  one_position : HasNoTies xs → (x y : Kept) → Contains (final_moment xs key).kept x → Contains (final_moment xs key).kept y → x.time ≡ y.time → x.position ≡ y.position
  one_position untied x y c d same =
      let a : IsAcceptedTuple FINAL 0 key xs x = kept_stands key xs times x c in
      let b : IsAcceptedTuple FINAL 0 key xs y = kept_stands key xs times y d in
      let i : x.position < length xs = slice_get_within xs x.position a.entry a.stands in
      let j : y.position < length xs = slice_get_within xs y.position b.entry b.stands in
      let at : get_or xs x.position a.entry ≡ a.entry = get_or_from_slice_get xs x.position a.entry a.entry a.stands in
      let on : get_or xs y.position a.entry ≡ b.entry = get_or_from_slice_get xs y.position b.entry a.entry b.stands in
      let p : (a.entry).what ≡ Tuple key x.time x.value = says_tuple key x.position (a.entry).what x a.says in
      let q : (b.entry).what ≡ Tuple key y.time y.value = says_tuple key y.position (b.entry).what y b.says in
      let m : (get_or xs x.position a.entry).what ≡ Tuple key x.time x.value = ap (λ (e : Entry). e.what) at ∙ p in
      let n : (get_or xs y.position a.entry).what ≡ Tuple key y.time y.value = ap (λ (e : Entry). e.what) on ∙ q in
      elim (cases_order x.position y.position) [
        | inl e ↦ e
        | inr (inl l) ↦ absurd (untied x.position y.position a.entry l j (subst₂ AreTied (sym m) (sym n) (refl, same)))
        | inr (inr g) ↦ absurd (untied y.position x.position a.entry g i (subst₂ AreTied (sym n) (sym m) (refl, sym same)))
      ]

  placeless_in_order : HasNoTies xs → IsStrictlySortedBy by_time (map placeless (final_moment xs key).kept)
  placeless_in_order untied =
      sorted_map {cmp = by_time} by_time_total placeless (λ x y less. less) (final_moment xs key).kept
      (strict_times (final_moment xs key).kept (final_in_event_order key xs times) (one_position untied))

  module _ (ys : List Entry) (late : AreEarly ys) (same : HaveSame key xs ys) where
    placeless_there : (z : Kept) → Contains (map placeless (final_moment xs key).kept) z → Contains (map placeless (final_moment ys key).kept) z
    placeless_there z c =
        let (x, there, is) = map_members placeless (final_moment xs key).kept z c in
        let a : IsAcceptedTuple FINAL 0 key xs x = kept_stands key xs times x there in
        let t : (a.entry).what ≡ Tuple key x.time x.value = says_tuple key x.position (a.entry).what x a.says in
        let d : Contains ys a.entry = same a.entry (ap key_in t) (Contains-stands xs x.position a.entry a.stands) in
        let put = stands_kept key ys late d.0 a.entry (record { position = d.0; time = x.time; value = x.value }) (slice_get-get_or ys d.0 a.entry d.1 ∙ ap Some d.2) (ap (tuple_in key d.0) t ∙ tuple_said key d.0 x.time x.value) refl in
        subst (Contains (map placeless (final_moment ys key).kept)) is (map_has placeless (final_moment ys key).kept (record { position = d.0; time = x.time; value = x.value }) put)

    marks_there : (time : ℕ) → Contains (final_moment xs key).marks time → Contains (final_moment ys key).marks time
    marks_there time c =
        let a : IsAcceptedMark FINAL 0 key xs time = mark_stands key xs times time c in
        let d : Contains ys a.entry = same a.entry (says_mark key (a.entry).what time a.says) (Contains-stands xs a.position a.entry a.stands) in
        stands_marked key ys late d.0 a.entry time (slice_get-get_or ys d.0 a.entry d.1 ∙ ap Some d.2) a.says

-- the rows of a key are the same
pub same_rows : (windows : List Def) (key : List ℕ) (xs ys : List Entry) → AreEarly xs → AreEarly ys → HasNoTies xs → HasNoTies ys → HaveSame key xs ys → HaveSame key ys xs
    → rows_at windows key (final_moment xs key) ≡ rows_at windows key (final_moment ys key)
same_rows windows key xs ys tx ty ux uy there back =
    rows_alike windows key (final_moment xs key) (final_moment ys key)
    (same_members_same_list by_time_total (map placeless (final_moment xs key).kept) (map placeless (final_moment ys key).kept)
    (placeless_in_order key xs tx ux) (placeless_in_order key ys ty uy) (placeless_there key xs tx ys ty there) (placeless_there key ys ty xs tx back))
    (same_members_same_list nat_cmp_total (final_moment xs key).marks (final_moment ys key).marks
    (nat_rising_is_sorted (filter_map (λ (p : ℕ × Entry). mark_in key (p.1).what) (enumerate_from 0 xs))) (nat_rising_is_sorted (filter_map (λ (p : ℕ × Entry). mark_in key (p.1).what) (enumerate_from 0 ys)))
    (marks_there key xs tx ys ty there) (marks_there key ys ty xs tx back))
    refl
