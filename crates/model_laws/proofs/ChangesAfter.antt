-- The changes that an entry behind a journal causes.
use Rattle.std.proofs.Common.{◌≡◌, ◌∙◌, ℕ, ◌≤◌, Bool, true, false, cond, List, [], ◌∷◌, ◌++◌, length, ap, sym, refl, subst, subst₂, ⊎_elim, None, Some, Ordering}
use Rattle.std.specs.Prelude.{◌↔◌}
use Rattle.std.specs.Cmp.Lexicographic.{slice_cmp}
use Rattle.std.specs.List.{All, Contains, filter_map, flat_map, enumerate_from}
use Rattle.std.specs.List.Sorted.{IsStrictlySortedBy}
use Rattle.std.specs.BTreeSet.{insert_key}
use Rattle.std.specs.Option.{option_map_or}
use Rattle.std.specs.Ordering.{nat_cmp}
use Rattle.std.specs.declared.cmp.Ordering.TheVariants.{Less}
use Rattle.std.proofs.lemmas.Bool.{false≢true, false_from_ne_true}
use Rattle.std.proofs.lemmas.Cmp.{nat_list_cmp_total}
use Rattle.std.proofs.lemmas.List.Elements.{All-contains, All-nil}
use Rattle.std.proofs.lemmas.Map.Keys.{sorted_tail}
use Rattle.std.proofs.lemmas.List.{append-nil}
use Rattle.std.specs.Cmp.{IsTotalOrder}
use Rattle.std.specs.Str.{bytes_eq}
use Rattle.stream_base.specs.declared.change.Change.{Change}
use Rattle.stream_base.specs.declared.change.Change.TheVariants.{Dropped}
use Rattle.stream_base.specs.declared.def.Def.{Def}
use Rattle.stream_base.specs.declared.entry.Entry.{Entry}
use Rattle.stream_base.specs.declared.what.What.{What}
use Rattle.stream_base.specs.declared.what.What.TheVariants.{Tuple, Mark, Water, Idle, End}
use Rattle.stream_base.specs.Limits.{Definitions, AreWithinLimits}
use Rattle.stream_base.specs.Kinds.{IsKindWithin, is_timed}
use Rattle.stream_base.specs.declared.kept.Kept.{Kept}
use Rattle.stream_base.specs.Model.Windows.{standing_of}
use Rattle.stream_base.specs.Model.Journal.{put_in_order, keys_of, kept_of, marks_of}
use Rattle.stream_base.specs.Model.Watermark.{water_of}
use Rattle.stream_base.specs.Model.What.{is_late, is_progress, key_in, mark_in, tuple_in}
use Rattle.stream_base.specs.Model.Changes.{moment_of, standing_at, changes_between, changes_of_key, changes_after}
use Rattle.stream_base.specs.Laws.{RiseByStart, AreInOrder, by_place, IsCausedBy, completions, completions_after}
use Rattle.stream_base.proofs.Rising.{none_in_nil, Contains-cons_cases, below_tail, not_below_itself, Contains-head, key_rising_is_sorted, sorted_cons, sorted_nil}
use Rattle.stream_base.proofs.Growing.{kept_of_tuple, kept_of_other, marks_of_other, keys_of_push, kept_of_late, marks_of_late}
use Rattle.model_laws.proofs.WatermarkFacts.{water_of_same, water_rises}
use Rattle.stream_base.proofs.Members.{flat_map_members, flat_map_has}
use Rattle.stream_base.proofs.KindFacts.{timed_stand_at_put}
use Rattle.stream_base.proofs.EventOrder.{kept_times_do_not_fall}
use Rattle.model_laws.proofs.Absent.{bytes_eq_true, tuple_is_keyed, keys_stay, key_comes, nothing_kept, is_key_or_not, no_change_of_none}
use Rattle.stream_base.proofs.ChangeFacts.{no_changes, standing_at_rises, flat_map_none, flat_map_same, no_changes_at_rest, changes_at_water}
use Rattle.model_laws.proofs.ChangeList.{changes_are_listed, changes_are_all_listed}
use Rattle.model_laws.proofs.ChangeOrder.{by_place_total, less_at_key, sorted_flat_map, changes_between_in_order, changes_are_at_key}

-- a late entry is dropped, and nothing else changes
pub late_is_dropped : (d : Definitions) (sources : ℕ) (before : List Entry) (e : Entry) → is_late d.lateness (water_of sources before) e.what ≡ true → changes_after d sources before e ≡ Dropped ∷ []
unfolding changes_after
late_is_dropped d sources before e late = ap (λ b. cond b (Dropped ∷ []) (flat_map (changes_of_key d sources before e) (keys_of (before ++ e ∷ [])))) late

pub on_time_changes : (d : Definitions) (sources : ℕ) (before : List Entry) (e : Entry) → is_late d.lateness (water_of sources before) e.what ≡ false → changes_after d sources before e ≡ flat_map (changes_of_key d sources before e) (keys_of (before ++ e ∷ []))
unfolding changes_after
on_time_changes d sources before e on_time = ap (λ b. cond b (Dropped ∷ []) (flat_map (changes_of_key d sources before e) (keys_of (before ++ e ∷ [])))) on_time

-- what stands after a journal rises by start
pub rises_after : (d : Definitions) (sources : ℕ) (key : List ℕ) (journal : List Entry) → AreWithinLimits d → (def : Def) → Contains d.windows def → RiseByStart (standing_at def (moment_of d sources key journal))
rises_after d sources key journal limits = standing_at_rises d.windows (moment_of d sources key journal) limits.kinds (kept_times_do_not_fall d.lateness sources key journal)

-- the changes of an entry that is not late
pub caused_are_listed : (d : Definitions) (sources : ℕ) (before : List Entry) (e : Entry) (c : Change) → is_late d.lateness (water_of sources before) e.what ≡ false → Contains (changes_after d sources before e) c → IsCausedBy d sources before e c
caused_are_listed d sources before e c on_time h =
    let m : (key : List ℕ) × Contains (keys_of (before ++ e ∷ [])) key × Contains (changes_of_key d sources before e key) c = flat_map_members (changes_of_key d sources before e) (keys_of (before ++ e ∷ [])) c (subst (λ l. Contains l c) (on_time_changes d sources before e on_time) h) in
    (m.0, changes_are_listed d.windows m.0 (moment_of d sources m.0 before) (moment_of d sources m.0 (before ++ e ∷ [])) c m.2)

pub caused_are_all_listed : (d : Definitions) (sources : ℕ) (before : List Entry) (e : Entry) (c : Change) → AreWithinLimits d → is_late d.lateness (water_of sources before) e.what ≡ false → IsCausedBy d sources before e c → Contains (changes_after d sources before e) c
caused_are_all_listed d sources before e c limits on_time h =
    subst (λ l. Contains l c) (sym (on_time_changes d sources before e on_time))
    (flat_map_has (changes_of_key d sources before e) (keys_of (before ++ e ∷ [])) h.0 c is_a_key
    (changes_are_all_listed d.windows h.0 (moment_of d sources h.0 before) (moment_of d sources h.0 (before ++ e ∷ [])) (rises_after d sources h.0 before limits) c h.1))
  where
    is_a_key : Contains (keys_of (before ++ e ∷ [])) h.0
    is_a_key =
        ⊎_elim (λ k. k)
        (λ absent. absurd (no_change_of_none d.windows h.0 (moment_of d sources h.0 before) (moment_of d sources h.0 (before ++ e ∷ [])) c
        (nothing_kept d.lateness sources h.0 before (λ k. absent (keys_stay before e h.0 k))) (nothing_kept d.lateness sources h.0 (before ++ e ∷ []) absent) h.1))
        (is_key_or_not h.0 (keys_of (before ++ e ∷ [])))

pub changes_are_those_caused : (d : Definitions) (sources : ℕ) (before : List Entry) (e : Entry) (c : Change) → AreWithinLimits d → is_late d.lateness (water_of sources before) e.what ≡ false → Contains (changes_after d sources before e) c ↔ IsCausedBy d sources before e c
changes_are_those_caused d sources before e c limits on_time = (caused_are_listed d sources before e c on_time, caused_are_all_listed d sources before e c limits on_time)

-- an entry is dropped exactly where it is late
pub dropped_where_late : (d : Definitions) (sources : ℕ) (before : List Entry) (e : Entry) → Contains (changes_after d sources before e) Dropped ↔ (is_late d.lateness (water_of sources before) e.what ≡ true)
dropped_where_late d sources before e = (
  λ h. by (is_late d.lateness (water_of sources before) e.what) refl h,
  λ late. subst (λ l. Contains l Dropped) (sym (late_is_dropped d sources before e late)) (Contains-head Dropped []),
)
  where
    by : (b : Bool) → is_late d.lateness (water_of sources before) e.what ≡ b → Contains (changes_after d sources before e) Dropped → is_late d.lateness (water_of sources before) e.what ≡ true
    by true l h = l
    by false l h = absurd ((caused_are_listed d sources before e Dropped l h).1)

pub keys_in_order : (journal : List Entry) → IsStrictlySortedBy (slice_cmp nat_cmp) (keys_of journal)
unfolding keys_of
keys_in_order journal = key_rising_is_sorted (filter_map (λ (e : Entry). key_in e.what) journal)

-- the changes are in their order, each once
pub changes_in_order : (d : Definitions) (sources : ℕ) (before : List Entry) (e : Entry) → AreWithinLimits d → AreInOrder (changes_after d sources before e)
changes_in_order d sources before e limits = by (is_late d.lateness (water_of sources before) e.what) refl
  where
    by : (b : Bool) → is_late d.lateness (water_of sources before) e.what ≡ b → AreInOrder (changes_after d sources before e)
    by true late = subst AreInOrder (sym (late_is_dropped d sources before e late)) (sorted_cons by_place_total Dropped [] (All-nil (λ c. by_place Dropped c ≡ Less)) (sorted_nil by_place_total))
    by false on_time =
        subst AreInOrder (sym (on_time_changes d sources before e on_time))
        (sorted_flat_map by_place_total nat_list_cmp_total (changes_of_key d sources before e)
        (λ k l a b less c f. less_at_key a b
        (subst₂ (λ p q. slice_cmp nat_cmp p q ≡ Less) (sym (changes_are_at_key d.windows k (moment_of d sources k before) (moment_of d sources k (before ++ e ∷ [])) a c)) (sym (changes_are_at_key d.windows l (moment_of d sources l before) (moment_of d sources l (before ++ e ∷ [])) b f)) less))
        (keys_of (before ++ e ∷ [])) (keys_in_order (before ++ e ∷ []))
        (λ key c. changes_between_in_order d.windows key (moment_of d sources key before) (moment_of d sources key (before ++ e ∷ [])) (rises_after d sources key before limits) (rises_after d sources key (before ++ e ∷ []) limits)))

-- ---- a word on the progress of its source
water_is_no_tuple : (key : List ℕ) (position : ℕ) (what : What) → is_progress what ≡ true → tuple_in key position what ≡ None
water_is_no_tuple key position (Tuple of time value) h = absurd (false≢true h)
water_is_no_tuple key position (Mark of time) h = absurd (false≢true h)
water_is_no_tuple key position (Water time) h = refl
water_is_no_tuple key position Idle h = refl
water_is_no_tuple key position End h = refl

water_is_no_mark : (key : List ℕ) (what : What) → is_progress what ≡ true → mark_in key what ≡ None
water_is_no_mark key (Tuple of time value) h = absurd (false≢true h)
water_is_no_mark key (Mark of time) h = absurd (false≢true h)
water_is_no_mark key (Water time) h = refl
water_is_no_mark key Idle h = refl
water_is_no_mark key End h = refl

water_has_no_key : (what : What) → is_progress what ≡ true → key_in what ≡ None
water_has_no_key (Tuple key time value) h = absurd (false≢true h)
water_has_no_key (Mark key time) h = absurd (false≢true h)
water_has_no_key (Water time) h = refl
water_has_no_key Idle h = refl
water_has_no_key End h = refl

water_is_not_late : (lateness water : ℕ) (what : What) → is_progress what ≡ true → is_late lateness water what ≡ false
water_is_not_late lateness water (Tuple key time value) h = absurd (false≢true h)
water_is_not_late lateness water (Mark key time) h = absurd (false≢true h)
water_is_not_late lateness water (Water time) h = refl
water_is_not_late lateness water Idle h = refl
water_is_not_late lateness water End h = refl

pub keys_of_water : (journal : List Entry) (e : Entry) → is_progress e.what ≡ true → keys_of (journal ++ e ∷ []) ≡ keys_of journal
keys_of_water journal e h = keys_of_push journal e ∙ ap (λ o. option_map_or (insert_key (slice_cmp nat_cmp) (keys_of journal)) o (keys_of journal)) (water_has_no_key e.what h)

pub moment_of_water : (d : Definitions) (sources : ℕ) (key : List ℕ) (journal : List Entry) (e : Entry) → is_progress e.what ≡ true
    → moment_of d sources key (journal ++ e ∷ []) ≡ record { kept = kept_of d.lateness sources key journal; marks = marks_of d.lateness sources key journal; water = water_of sources (journal ++ e ∷ []) }
moment_of_water d sources key journal e h =
    let kept : kept_of d.lateness sources key (journal ++ e ∷ []) ≡ kept_of d.lateness sources key journal = kept_of_other d.lateness sources key journal e (water_is_no_tuple key (length journal) e.what h) in
    let marks : marks_of d.lateness sources key (journal ++ e ∷ []) ≡ marks_of d.lateness sources key journal = marks_of_other d.lateness sources key journal e (water_is_no_mark key e.what h) in
    λ i. record { kept = kept i; marks = marks i; water = water_of sources (journal ++ e ∷ []) }

-- where an entry is a word on the progress of its source, the changes are the completions
pub changes_of_water : (d : Definitions) (sources : ℕ) (before : List Entry) (e : Entry) → AreWithinLimits d → is_progress e.what ≡ true → changes_after d sources before e ≡ completions_after d sources before e
changes_of_water d sources before e limits h =
    on_time_changes d sources before e (water_is_not_late d.lateness (water_of sources before) e.what h)
    ∙ ap (flat_map (changes_of_key d sources before e)) (keys_of_water before e h)
    ∙ flat_map_same (changes_of_key d sources before e) (λ key. flat_map (completions key (moment_of d sources key before) (water_of sources (before ++ e ∷ []))) (enumerate_from 0 d.windows)) (keys_of before)
    (λ key c. ap (changes_between d.windows key (moment_of d sources key before)) (moment_of_water d sources key before e h)
    ∙ changes_at_water d.windows key (kept_of d.lateness sources key before) (marks_of d.lateness sources key before) (water_of sources before) (water_of sources (before ++ e ∷ [])) limits.kinds (kept_times_do_not_fall d.lateness sources key before) (water_rises sources before e))

-- and where it doesn't move the watermark, nothing changes
pub no_news_no_changes : (d : Definitions) (sources : ℕ) (before : List Entry) (e : Entry) → AreWithinLimits d → is_progress e.what ≡ true → water_of sources (before ++ e ∷ []) ≡ water_of sources before → changes_after d sources before e ≡ []
no_news_no_changes d sources before e limits h stays =
    on_time_changes d sources before e (water_is_not_late d.lateness (water_of sources before) e.what h)
    ∙ flat_map_none (changes_of_key d sources before e) (keys_of (before ++ e ∷ []))
    (λ key c. ap (changes_between d.windows key (moment_of d sources key before)) (same key)
    ∙ no_changes_at_rest d.windows key (moment_of d sources key before) limits.kinds (kept_times_do_not_fall d.lateness sources key before))
  where
    same : (key : List ℕ) → moment_of d sources key (before ++ e ∷ []) ≡ moment_of d sources key before
    same key = moment_of_water d sources key before e h ∙ (λ i. record { kept = kept_of d.lateness sources key before; marks = marks_of d.lateness sources key before; water = stays i })

-- ---- a tuple or mark
flat_map_one : {X Y : Type 0} {cmp : X → X → Ordering} (o : IsTotalOrder cmp) (f : X → List Y) (xs : List X) (x : X) → IsStrictlySortedBy cmp xs → Contains xs x → ((y : X) → (y ≡ x → ⊥) → f y ≡ []) → flat_map f xs ≡ f x
flat_map_one o f [] x s c h = absurd (none_in_nil x c)
flat_map_one {cmp = cmp} o f (z ∷ xs) x s c h =
    ⊎_elim
    (λ e. ap (λ l. f z ++ l) (flat_map_none f xs (λ y d. h y (λ g. not_below_itself o x (subst₂ (λ a b. cmp a b ≡ Less) e g (below_tail o z xs s y d))))) ∙ append-nil (f z) ∙ ap f e)
    (λ d. ap (λ l. l ++ flat_map f xs) (h z (λ e. not_below_itself o x (subst (λ a. cmp a x ≡ Less) e (below_tail o z xs s x d)))) ∙ flat_map_one o f xs x (sorted_tail cmp z xs s) d h)
    (Contains-cons_cases z xs x c)

other_tuple : (key of : List ℕ) (position : ℕ) (what : What) → key_in what ≡ Some of → (key ≡ of → ⊥) → tuple_in key position what ≡ None
other_tuple key of position (Tuple k time value) h ne = ap (λ b. cond b (Some (record { position = position; time = time; value = value })) None) (false_from_ne_true (bytes_eq k key) (λ e. ne (let same : k ≡ of = cc in sym (bytes_eq_true k key e) ∙ same)))
other_tuple key of position (Mark k time) h ne = refl
other_tuple key of position (Water time) h ne = refl
other_tuple key of position Idle h ne = refl
other_tuple key of position End h ne = refl

other_mark : (key of : List ℕ) (what : What) → key_in what ≡ Some of → (key ≡ of → ⊥) → mark_in key what ≡ None
other_mark key of (Tuple k time value) h ne = refl
other_mark key of (Mark k time) h ne = ap (λ b. cond b (Some time) None) (false_from_ne_true (bytes_eq k key) (λ e. ne (let same : k ≡ of = cc in sym (bytes_eq_true k key e) ∙ same)))
other_mark key of (Water time) h ne = refl
other_mark key of Idle h ne = refl
other_mark key of End h ne = refl

keyed_is_no_progress : (what : What) (of : List ℕ) → key_in what ≡ Some of → is_progress what ≡ false
keyed_is_no_progress (Tuple k time value) of h = refl
keyed_is_no_progress (Mark k time) of h = refl
keyed_is_no_progress (Water time) of h = cc
keyed_is_no_progress Idle of h = cc
keyed_is_no_progress End of h = cc

-- a tuple or mark leaves the watermark
pub water_of_keyed : (sources : ℕ) (journal : List Entry) (e : Entry) (of : List ℕ) → key_in e.what ≡ Some of → water_of sources (journal ++ e ∷ []) ≡ water_of sources journal
water_of_keyed sources journal e of h = water_of_same sources journal e (keyed_is_no_progress e.what of h)

-- a tuple or mark that is not late changes only what stands of its key
pub changes_of_keyed : (d : Definitions) (sources : ℕ) (before : List Entry) (e : Entry) (of : List ℕ) → AreWithinLimits d → key_in e.what ≡ Some of → is_late d.lateness (water_of sources before) e.what ≡ false → changes_after d sources before e ≡ changes_of_key d sources before e of
changes_of_keyed d sources before e of limits h on_time =
    on_time_changes d sources before e on_time
    ∙ flat_map_one nat_list_cmp_total (changes_of_key d sources before e) (keys_of (before ++ e ∷ [])) of (keys_in_order (before ++ e ∷ [])) is_a_key others
  where
    is_a_key : Contains (keys_of (before ++ e ∷ [])) of
    is_a_key = key_comes before e of h

    others : (key : List ℕ) → (key ≡ of → ⊥) → changes_of_key d sources before e key ≡ []
    others key ne =
        let kept : kept_of d.lateness sources key (before ++ e ∷ []) ≡ kept_of d.lateness sources key before = kept_of_other d.lateness sources key before e (other_tuple key of (length before) e.what h ne) in
        let marks : marks_of d.lateness sources key (before ++ e ∷ []) ≡ marks_of d.lateness sources key before = marks_of_other d.lateness sources key before e (other_mark key of e.what h ne) in
        let water : water_of sources (before ++ e ∷ []) ≡ water_of sources before = water_of_keyed sources before e of h in
        let same : moment_of d sources key (before ++ e ∷ []) ≡ moment_of d sources key before = λ i. record { kept = kept i; marks = marks i; water = water i } in
        ap (changes_between d.windows key (moment_of d sources key before)) same
        ∙ no_changes_at_rest d.windows key (moment_of d sources key before) limits.kinds (kept_times_do_not_fall d.lateness sources key before)

-- ---- an entry that is late
late_is_no_progress : (lateness water : ℕ) (what : What) → is_late lateness water what ≡ true → is_progress what ≡ false
late_is_no_progress lateness water (Tuple key time value) h = refl
late_is_no_progress lateness water (Mark key time) h = refl
late_is_no_progress lateness water (Water time) h = absurd (false≢true h)
late_is_no_progress lateness water Idle h = absurd (false≢true h)
late_is_no_progress lateness water End h = absurd (false≢true h)

-- it leaves what is kept, and the watermark
pub moment_of_late : (d : Definitions) (sources : ℕ) (key : List ℕ) (before : List Entry) (e : Entry) → is_late d.lateness (water_of sources before) e.what ≡ true → moment_of d sources key (before ++ e ∷ []) ≡ moment_of d sources key before
moment_of_late d sources key before e late = λ i. record {
  kept = kept_of_late d.lateness sources key before e late i;
  marks = marks_of_late d.lateness sources key before e late i;
  water = water_of_same sources before e (late_is_no_progress d.lateness (water_of sources before) e.what late) i;
}

-- ---- a tuple at or after the watermark
tuple_has_no_mark : (key of : List ℕ) (position : ℕ) (what : What) (x : Kept) → tuple_in of position what ≡ Some x → mark_in key what ≡ None
tuple_has_no_mark key of position (Tuple k time value) x h = refl
tuple_has_no_mark key of position (Mark k time) x h = cc
tuple_has_no_mark key of position (Water time) x h = cc
tuple_has_no_mark key of position Idle x h = cc
tuple_has_no_mark key of position End x h = cc

-- where every window is tumbling or sliding, a tuple that is at or after the watermark changes nothing
pub no_changes_of_tuple : (d : Definitions) (sources : ℕ) (before : List Entry) (e : Entry) (key : List ℕ) (x : Kept) → AreWithinLimits d → All (λ w. is_timed w.kind ≡ true) d.windows → tuple_in key (length before) e.what ≡ Some x → is_late d.lateness (water_of sources before) e.what ≡ false → water_of sources before ≤ x.time → changes_after d sources before e ≡ []
no_changes_of_tuple d sources before e key x limits timed it on_time later =
    let keyed : key_in e.what ≡ Some key = tuple_is_keyed key (length before) e.what x it in
    changes_of_keyed d sources before e key limits keyed on_time
    ∙ no_changes d.windows key (moment_of d sources key before) (moment_of d sources key (before ++ e ∷ [])) (rises_after d sources key before limits) (λ def c. sym (same keyed def c))
  where
    kept : List Kept
    kept = kept_of d.lateness sources key before

    marks : List ℕ
    marks = marks_of d.lateness sources key before

    same : key_in e.what ≡ Some key → (def : Def) → Contains d.windows def → standing_at def (moment_of d sources key (before ++ e ∷ [])) ≡ standing_at def (moment_of d sources key before)
    same keyed def c =
        let k : kept_of d.lateness sources key (before ++ e ∷ []) ≡ put_in_order kept x = kept_of_tuple d.lateness sources key before e x on_time it in
        let m : marks_of d.lateness sources key (before ++ e ∷ []) ≡ marks = marks_of_other d.lateness sources key before e (tuple_has_no_mark key key (length before) e.what x it) in
        let w : water_of sources (before ++ e ∷ []) ≡ water_of sources before = water_of_keyed sources before e key keyed in
        (λ i. standing_of def.kind (k i) (m i) (w i))
        ∙ timed_stand_at_put def.kind kept marks (water_of sources before) x (All-contains (λ w. IsKindWithin w.kind) d.windows def limits.kinds c) (All-contains (λ w. is_timed w.kind ≡ true) d.windows def timed c) later
