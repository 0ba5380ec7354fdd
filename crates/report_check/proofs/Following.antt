-- What is known of a key after one entry more, and what that changes.
use Rattle.std.proofs.Common.{◌≡◌, ◌∙◌, ℕ, ℤ, ◌+◌, ◌<◌, ◌≤◌, Bool, true, false, List, [], ◌∷◌, ◌++◌, length, length-set, get_or, set, drop, append_assoc, Option, None, Some, ap, sym, refl, subst, arith, append-nil, Ordering, cond, ⊎_elim}
use Rattle.std.specs.BTreeSet.{insert_key}
use Rattle.std.specs.Cmp.Lexicographic.{slice_cmp}
use Rattle.std.specs.List.{All, AllWithin, Contains, filter_map, flat_map}
use Rattle.std.specs.List.Sorted.{IsStrictlyIncreasing, IsStrictlySortedBy}
use Rattle.std.specs.Ordering.{match_ordering, nat_cmp}
use Rattle.std.specs.Option.{option_map_or}
use Rattle.std.specs.declared.cmp.Ordering.TheVariants.{Less, Equal, Greater}
use Rattle.std.specs.Prelude.{◌^◌, ◌&&◌, nat_le, nat_lt}
use Rattle.std.proofs.lemmas.List.{drop_more, get_or-map, get_or_push, get_or-set_other, length-map, length_push, map-set, set-get_or, take_at}
use Rattle.std.proofs.lemmas.List.Elements.{All-take, All-nil, All-cons, All-head, All-tail, All-weaker, AllWithin-more_set}
use Rattle.std.proofs.lemmas.Cmp.{nat_list_cmp_total}
use Rattle.std.proofs.lemmas.Bool.{and_parts, false≢true, leb-true}
use Rattle.std.proofs.lemmas.Slice.Eq.{bytes_eq-Decides}
use Rattle.stream_base.specs.declared.change.Change.{Change}
use Rattle.stream_base.specs.declared.entry.Entry.{Entry}
use Rattle.stream_base.specs.declared.kept.Kept.{Kept}
use Rattle.stream_base.specs.declared.what.What.{What}
use Rattle.stream_base.specs.declared.what.What.TheVariants.{Tuple, Mark, Water, Idle, End}
use Rattle.std.specs.Str.{bytes_eq}
use Rattle.stream_base.specs.Laws.{accepted_tuple}
use Rattle.stream_base.specs.Limits.{Definitions, is_value}
use Rattle.stream_base.specs.Model.Changes.{Moment, changes_between, moment_of}
use Rattle.stream_base.specs.Model.Journals.{is_entry_within, AreEntriesWithin}
use Rattle.stream_base.specs.Model.Journal.{keys_of, kept_of, marks_of, on_time, put_in_order}
use Rattle.stream_base.specs.Model.Watermark.{least_water, water_of}
use Rattle.stream_base.specs.Model.What.{is_late, is_progress, is_what_within, key_in, mark_in, tuple_in}
use Rattle.stream_base.specs.Key.{is_key}
use Rattle.stream_base.specs.declared.limits.TheConstants.{FINAL, TIME_MAX}
use Rattle.model_laws.proofs.Absent.{key_comes, keys_stay, nothing_kept}
use Rattle.model_laws.proofs.Accepted.{kept_times_within, marks_within}
use Rattle.stream_base.proofs.ChangeFacts.{changes_at_water, no_changes_at_rest}
use Rattle.model_laws.proofs.ChangesAfter.{changes_of_keyed, keys_in_order, keys_of_water}
use Rattle.stream_base.proofs.EventOrder.{from_the_front, kept_in_event_order, kept_times_do_not_fall, put_in_order_cons}
use Rattle.stream_base.proofs.Growing.{keys_of_nil, keys_of_push, kept_of_nil, kept_of_push, marks_of_nil, marks_of_other}
use Rattle.stream_base.proofs.Rising.{Contains-insert_key, Contains-insert_key_cases, nat_rising_increases, same_members_same_list, sorted_insert_key}
use Rattle.model_laws.proofs.WatermarkFacts.{water_of_nil, water_of_same, water_rises}
use Rattle.window_laws.specs.After.{at_water, with_mark, with_tuple}
use Rattle.window_laws.proofs.AfterFacts.{mark_is_keyed, tuple_after_changes_nothing}
use Rattle.window_laws.proofs.MomentFacts.{moment_of_late, moment_of_mark, moment_of_other, moment_of_progress, moment_of_tuple}
use Rattle.plain_windows.specs.Changing.{all_completions}
use Rattle.plain_windows.specs.Extents.{AreKeyLists}
use Rattle.report_check.specs.Held.{Held}
use Rattle.report_check.specs.Readable.{IsReadable}
use Rattle.report_check.specs.Ledgers.{IsFollowed, IsLedger, IsReadyFor, StandsAfter, StandsBefore, StandsBehind, by_key, changes_in, held_with_mark, held_with_tuple, keys_in, moment_in, nothing_of}
use Rattle.report_check.specs.declared.ledger.Ledger.{Ledger}
use Rattle.report_check.specs.Steps.{IsStep, Passage, behind}

-- ---- limits
pub readable_front : (past : List Entry) (e : Entry) → IsReadable (past ++ e ∷ []) → IsReadable past
readable_front past e h = record {
  within = subst AreEntriesWithin (take_at past (e ∷ []) (length past) refl) (All-take (λ x. is_entry_within x ≡ true) (length past) (past ++ e ∷ []) h.within);
  few = omega (arith, h.few, length_push past e);
}

put_length : (kept : List Kept) (x : Kept) → length (put_in_order kept x) ≡ length kept + 1
put_length [] x = refl
put_length (y ∷ ys) x = ap length (put_in_order_cons y ys x) ∙ by (nat_lt x.time y.time) (put_length ys x)
  where
    by : (b : Bool) → length (put_in_order ys x) ≡ length ys + 1 → length (cond b (x ∷ y ∷ ys) (y ∷ put_in_order ys x)) ≡ length (y ∷ ys) + 1
    by true e = omega arith
    by false e = omega arith

kept_few : (lateness sources : ℕ) (key : List ℕ) (journal : List Entry) → length (kept_of lateness sources key journal) ≤ length journal
kept_few lateness sources key journal =
    from_the_front (λ j. length (kept_of lateness sources key j) ≤ length j)
    (subst (λ ks. length ks ≤ 0) (sym (kept_of_nil lateness sources key)) (omega arith))
    (λ j e few. subst (λ ks. length ks ≤ length (j ++ e ∷ [])) (sym (kept_of_push lateness sources key j e)) (by j e few (accepted_tuple lateness sources key j e)))
    journal
  where
    by : (j : List Entry) (e : Entry) → length (kept_of lateness sources key j) ≤ length j → (o : Option Kept) → length (option_map_or (put_in_order (kept_of lateness sources key j)) o (kept_of lateness sources key j)) ≤ length (j ++ e ∷ [])
    by j e few None = omega (arith, length_push j e)
    by j e few (Some x) = omega (arith, length_push j e, put_length (kept_of lateness sources key j) x)

marks_increase : (lateness sources : ℕ) (key : List ℕ) (journal : List Entry) → IsStrictlyIncreasing (marks_of lateness sources key journal)
unfolding marks_of
marks_increase lateness sources key journal = nat_rising_increases (filter_map (λ (p : ℕ × Entry). mark_in key (p.1).what) (on_time lateness sources journal))

-- the lists of a key after a journal that is read are a key's
pub are_key_lists : (d : Definitions) (sources : ℕ) (journal : List Entry) (h : Held) → IsReadable journal → StandsAfter d sources journal h → AreKeyLists h.kept h.marks
are_key_lists d sources journal h readable stands =
    subst (λ (m : Moment). AreKeyLists m.kept m.marks) (sym stands)
    (record {
      in_order = kept_in_event_order d.lateness sources h.key journal;
      times = kept_times_within d.lateness sources h.key journal readable.within;
      few = omega (arith, readable.few, kept_few d.lateness sources h.key journal);
      rising = marks_increase d.lateness sources h.key journal;
      mark_times = marks_within d.lateness sources h.key journal readable.within;
    })

-- ---- one entry more
pub after_tuple : (s : Passage) (h : Held) (x : Kept) → IsStep s → StandsBefore s h → tuple_in h.key (length s.past) s.entry.what ≡ Some x → StandsBehind s (held_with_tuple h x)
after_tuple s h x step stands it =
    let law = moment_of_tuple s.defs s.sources h.key s.past s.entry x step.on_time it in
    (λ i. moment_in (held_with_tuple h x) (law i).water) ∙ ap (λ m. with_tuple m x) stands ∙ sym law

pub after_mark : (s : Passage) (h : Held) (time : ℕ) → IsStep s → StandsBefore s h → mark_in h.key s.entry.what ≡ Some time → StandsBehind s (held_with_mark h time)
after_mark s h time step stands it =
    let law = moment_of_mark s.defs s.sources h.key s.past s.entry time step.on_time it in
    (λ i. moment_in (held_with_mark h time) (law i).water) ∙ ap (λ m. with_mark m time) stands ∙ sym law

pub after_progress : (s : Passage) (h : Held) → StandsBefore s h → is_progress s.entry.what ≡ true → StandsBehind s h
after_progress s h stands it =
    ap (λ m. at_water m (water_of s.sources (behind s))) stands
    ∙ sym (moment_of_progress s.defs s.sources h.key s.past s.entry it)

pub after_other : (s : Passage) (h : Held) → StandsBefore s h → is_progress s.entry.what ≡ false → tuple_in h.key (length s.past) s.entry.what ≡ None → mark_in h.key s.entry.what ≡ None → StandsBehind s h
after_other s h stands keyed tuple mark =
    let law = moment_of_other s.defs s.sources h.key s.past s.entry keyed tuple mark in
    (λ i. moment_in h (law i).water) ∙ stands ∙ sym law

pub after_late : (d : Definitions) (sources : ℕ) (past : List Entry) (e : Entry) (h : Held) → is_late d.lateness (water_of sources past) e.what ≡ true → StandsAfter d sources past h → StandsAfter d sources (past ++ e ∷ []) h
after_late d sources past e h late stands =
    let law = moment_of_late d sources h.key past e late in
    (λ i. moment_in h (law i).water) ∙ stands ∙ sym law

water_of_late : (lateness sources : ℕ) (past : List Entry) (e : Entry) → is_late lateness (water_of sources past) e.what ≡ true → water_of sources (past ++ e ∷ []) ≡ water_of sources past
water_of_late lateness sources past e late = water_of_same sources past e (keyed e.what late)
  where
    keyed : (what : What) → is_late lateness (water_of sources past) what ≡ true → is_progress what ≡ false
    keyed (Tuple k t v) h = refl
    keyed (Mark k t) h = refl
    keyed (Water t) h = absurd (false≢true h)
    keyed Idle h = absurd (false≢true h)
    keyed End h = absurd (false≢true h)

pub all_after_late : (d : Definitions) (sources : ℕ) (past : List Entry) (e : Entry) (hs : List Held) → is_late d.lateness (water_of sources past) e.what ≡ true → All (StandsAfter d sources past) hs → All (StandsAfter d sources (past ++ e ∷ [])) hs
all_after_late d sources past e hs late all = All-weaker (StandsAfter d sources past) (StandsAfter d sources (past ++ e ∷ [])) (λ h stands. after_late d sources past e h late stands) hs all

-- ---- its changes
pub changes_of_moments : (s : Passage) (key : List ℕ) (old new : _) → old ≡ moment_of s.defs s.sources key s.past → new ≡ moment_of s.defs s.sources key (behind s) → changes_between s.defs.windows key old new ≡ changes_in s key
changes_of_moments s key old new o n = λ i. changes_between s.defs.windows key (o i) (n i)

pub changes_of_other : (s : Passage) (key : List ℕ) → IsStep s → is_progress s.entry.what ≡ false → tuple_in key (length s.past) s.entry.what ≡ None → mark_in key s.entry.what ≡ None → changes_in s key ≡ []
changes_of_other s key step keyed tuple mark =
    ap (changes_between s.defs.windows key (moment_of s.defs s.sources key s.past)) (moment_of_other s.defs s.sources key s.past s.entry keyed tuple mark)
    ∙ no_changes_at_rest s.defs.windows key (moment_of s.defs s.sources key s.past) step.limits.kinds (kept_times_do_not_fall s.defs.lateness s.sources key s.past)

pub changes_by_progress : (s : Passage) (key : List ℕ) → IsStep s → is_progress s.entry.what ≡ true
    → all_completions s.defs.windows key (moment_of s.defs s.sources key s.past) s.new ≡ changes_in s key
changes_by_progress s key step it =
    ap (all_completions s.defs.windows key (moment_of s.defs s.sources key s.past)) step.new_is
    ∙ sym
    (ap (changes_between s.defs.windows key (moment_of s.defs s.sources key s.past)) (moment_of_progress s.defs s.sources key s.past s.entry it)
    ∙ changes_at_water s.defs.windows key (kept_of s.defs.lateness s.sources key s.past) (marks_of s.defs.lateness s.sources key s.past)
    (water_of s.sources s.past) (water_of s.sources (behind s)) step.limits.kinds (kept_times_do_not_fall s.defs.lateness s.sources key s.past) (water_rises s.sources s.past s.entry))

-- ---- a key more
pub keys_put : (hs : List Held) (key : List ℕ) → keys_in (insert_key by_key hs (nothing_of key)) ≡ insert_key (slice_cmp nat_cmp) (keys_in hs) key
keys_put [] key = refl
keys_put (h ∷ hs) key = by (slice_cmp nat_cmp key h.key) (keys_put hs key)
  where
    by : (o : Ordering) → keys_in (insert_key by_key hs (nothing_of key)) ≡ insert_key (slice_cmp nat_cmp) (keys_in hs) key
        → keys_in (match_ordering o (nothing_of key ∷ h ∷ hs) (h ∷ hs) (h ∷ insert_key by_key hs (nothing_of key)))
        ≡ match_ordering o (key ∷ h.key ∷ keys_in hs) (h.key ∷ keys_in hs) (h.key ∷ insert_key (slice_cmp nat_cmp) (keys_in hs) key)
    by Less e = refl
    by Equal e = refl
    by Greater e = ap (λ ks. h.key ∷ ks) e

put_holds : (P : Held → Type 0) (hs : List Held) (key : List ℕ) → All P hs → (length (insert_key (slice_cmp nat_cmp) (keys_in hs) key) ≡ length (keys_in hs) + 1 → P (nothing_of key)) → All P (insert_key by_key hs (nothing_of key))
put_holds P [] key all new = All-cons P (nothing_of key) [] (new refl) (All-nil P)
put_holds P (h ∷ hs) key all new = by (slice_cmp nat_cmp key h.key) new (put_holds P hs key (All-tail P h hs all))
  where
    by : (o : Ordering) → (length (match_ordering o (key ∷ h.key ∷ keys_in hs) (h.key ∷ keys_in hs) (h.key ∷ insert_key (slice_cmp nat_cmp) (keys_in hs) key)) ≡ length (h.key ∷ keys_in hs) + 1 → P (nothing_of key))
        → ((length (insert_key (slice_cmp nat_cmp) (keys_in hs) key) ≡ length (keys_in hs) + 1 → P (nothing_of key)) → All P (insert_key by_key hs (nothing_of key)))
        → All P (match_ordering o (nothing_of key ∷ h ∷ hs) (h ∷ hs) (h ∷ insert_key by_key hs (nothing_of key)))
    by Less new rest = All-cons P (nothing_of key) (h ∷ hs) (new (omega arith)) all
    by Equal new rest = all
    by Greater new rest = All-cons P h (insert_key by_key hs (nothing_of key)) (All-head P h hs all) (rest (λ e. new (omega (arith, e))))

-- a key that is there comes not again
comes_not_again : (keys : List (List ℕ)) (key : List ℕ) → IsStrictlySortedBy (slice_cmp nat_cmp) keys → Contains keys key → insert_key (slice_cmp nat_cmp) keys key ≡ keys
comes_not_again keys key sorted there =
    same_members_same_list nat_list_cmp_total (insert_key (slice_cmp nat_cmp) keys key) keys (sorted_insert_key nat_list_cmp_total key keys sorted) sorted
    (λ x c. ⊎_elim (λ e. subst (Contains keys) e there) (λ d. d) (Contains-insert_key_cases (slice_cmp nat_cmp) key keys x c))
    (λ x c. Contains-insert_key (slice_cmp nat_cmp) key keys x c)

nothing_marked : (lateness sources : ℕ) (key : List ℕ) (journal : List Entry) → ¬ Contains (keys_of journal) key → marks_of lateness sources key journal ≡ []
nothing_marked lateness sources key journal =
    from_the_front (λ j. ¬ Contains (keys_of j) key → marks_of lateness sources key j ≡ []) (λ absent. marks_of_nil lateness sources key)
    (λ j e before absent. marks_of_other lateness sources key j e (no_mark j e absent (mark_in key e.what) refl) ∙ before (λ c. absent (keys_stay j e key c)))
    journal
  where
    no_mark : (j : List Entry) (e : Entry) → ¬ Contains (keys_of (j ++ e ∷ [])) key → (o : Option ℕ) → mark_in key e.what ≡ o → mark_in key e.what ≡ None
    no_mark j e absent None h = h
    no_mark j e absent (Some time) h = absurd (absent (key_comes j e key (mark_is_keyed key e.what time h)))

nothing_stands : (d : Definitions) (sources : ℕ) (journal : List Entry) (key : List ℕ) → ¬ Contains (keys_of journal) key → StandsAfter d sources journal (nothing_of key)
nothing_stands d sources journal key absent =
    λ i. record { kept = sym (nothing_kept d.lateness sources key journal absent) i; marks = sym (nothing_marked d.lateness sources key journal absent) i; water = water_of sources journal }

-- lists that stand for all keys of a journal do so with one key more
pub put_stands : (d : Definitions) (sources : ℕ) (journal : List Entry) (hs : List Held) (key : List ℕ) → keys_in hs ≡ keys_of journal → All (StandsAfter d sources journal) hs → All (StandsAfter d sources journal) (insert_key by_key hs (nothing_of key))
put_stands d sources journal hs key are all =
    put_holds (StandsAfter d sources journal) hs key all
    (λ longer. nothing_stands d sources journal key
    (λ c.
    let same : length (insert_key (slice_cmp nat_cmp) (keys_in hs) key) ≡ length (keys_in hs) = ap length (comes_not_again (keys_in hs) key (subst (IsStrictlySortedBy (slice_cmp nat_cmp)) (sym are) (keys_in_order journal)) (subst (λ ks. Contains ks key) (sym are) c)) in
    omega (arith, same, longer)))

-- ---- a key goes on by a step
pub stays : (s : Passage) (h : Held) (out : List Change) → IsStep s → StandsBefore s h → is_progress s.entry.what ≡ false → tuple_in h.key (length s.past) s.entry.what ≡ None → mark_in h.key s.entry.what ≡ None → IsFollowed s h h out out
stays s h out step stands keyed tuple mark = record {
  same_key = refl;
  stands = after_other s h stands keyed tuple mark;
  told = sym (ap (λ cs. out ++ cs) (changes_of_other s h.key step keyed tuple mark) ∙ append-nil out);
}

other_tuple : (key of : List ℕ) (position time : ℕ) (value : ℤ) → bytes_eq of key ≡ false → tuple_in key position (Tuple of time value) ≡ None
other_tuple key of position time value e = ap (λ b. cond b (Some (record { position = position; time = time; value = value })) None) e

other_mark : (key of : List ℕ) (time : ℕ) → bytes_eq of key ≡ false → mark_in key (Mark of time) ≡ None
other_mark key of time e = ap (λ b. cond b (Some time) None) e

pub stays_by_tuple : (s : Passage) (h : Held) (out : List Change) (of : List ℕ) (time : ℕ) (value : ℤ) → IsStep s → StandsBefore s h → s.entry.what ≡ Tuple of time value → bytes_eq of h.key ≡ false → IsFollowed s h h out out
stays_by_tuple s h out of time value step stands is other =
    stays s h out step stands (ap is_progress is) (ap (tuple_in h.key (length s.past)) is ∙ other_tuple h.key of (length s.past) time value other) (ap (mark_in h.key) is)

pub stays_by_mark : (s : Passage) (h : Held) (out : List Change) (of : List ℕ) (time : ℕ) → IsStep s → StandsBefore s h → s.entry.what ≡ Mark of time → bytes_eq of h.key ≡ false → IsFollowed s h h out out
stays_by_mark s h out of time step stands is other =
    stays s h out step stands (ap is_progress is) (ap (tuple_in h.key (length s.past)) is) (ap (mark_in h.key) is ∙ other_mark h.key of time other)

own_tuple : (key : List ℕ) (position time : ℕ) (value : ℤ) → tuple_in key position (Tuple key time value) ≡ Some (record { position = position; time = time; value = value })
own_tuple key position time value = ap (λ b. cond b (Some (record { position = position; time = time; value = value })) None) ((bytes_eq-Decides key key).1 refl)

own_mark : (key : List ℕ) (time : ℕ) → mark_in key (Mark key time) ≡ Some time
own_mark key time = ap (λ b. cond b (Some time) None) ((bytes_eq-Decides key key).1 refl)

pub behind_tuple : (s : Passage) (h : Held) (time : ℕ) (value : ℤ) → IsStep s → StandsBefore s h → s.entry.what ≡ Tuple h.key time value → StandsBehind s (held_with_tuple h (record { position = length s.past; time = time; value = value }))
behind_tuple s h time value step stands is =
    after_tuple s h (record { position = length s.past; time = time; value = value }) step stands (ap (tuple_in h.key (length s.past)) is ∙ own_tuple h.key (length s.past) time value)

pub behind_mark : (s : Passage) (h : Held) (time : ℕ) → IsStep s → StandsBefore s h → s.entry.what ≡ Mark h.key time → StandsBehind s (held_with_mark h time)
behind_mark s h time step stands is = after_mark s h time step stands (ap (mark_in h.key) is ∙ own_mark h.key time)

-- a key that stands before a step, at the watermark before it, is at the moment before it, and so behind it
pub moment_before : (s : Passage) (h : Held) → IsStep s → StandsBefore s h → moment_in h s.old ≡ moment_of s.defs s.sources h.key s.past
moment_before s h step stands = ap (moment_in h) step.old_is ∙ stands

pub moment_behind : (s : Passage) (h : Held) → IsStep s → StandsBehind s h → moment_in h s.new ≡ moment_of s.defs s.sources h.key (behind s)
moment_behind s h step stands = ap (moment_in h) step.new_is ∙ stands

-- ---- a tuple strictly after the watermark
last_within : (past : List Entry) (e : Entry) → IsReadable (past ++ e ∷ []) → is_entry_within e ≡ true
last_within past e h = subst (λ x. is_entry_within x ≡ true) (get_or_push past e e (length past) refl) (h.within (length past) e (omega (arith, length_push past e)))

early_enough : (s : Passage) (key : List ℕ) (time : ℕ) (value : ℤ) → IsStep s → s.entry.what ≡ Tuple key time value → time < FINAL
early_enough s key time value step is =
    let what : is_what_within s.entry.what ≡ true = (and_parts (nat_lt s.entry.source (2 ^ 16)) (is_what_within s.entry.what) (last_within s.past s.entry step.readable)).1 in
    let tuple : is_what_within (Tuple key time value) ≡ true = sym (ap is_what_within is) ∙ what in
    let le : time ≤ TIME_MAX = leb-true time TIME_MAX (and_parts (nat_le time TIME_MAX) (is_value value && is_key key) tuple).0 in
    omega (arith, le)

-- it changes nothing
pub followed_ahead : (s : Passage) (h new : Held) (out : List Change) (time : ℕ) (value : ℤ) → IsStep s → StandsBefore s h → s.entry.what ≡ Tuple h.key time value → s.old < time
    → new ≡ held_with_tuple h (record { position = length s.past; time = time; value = value }) → IsFollowed s h new out out
followed_ahead s h new out time value step stands is ahead e =
    let d = s.defs in
    let none : changes_in s h.key ≡ [] =
    sym (changes_of_keyed d s.sources s.past s.entry h.key step.limits (ap key_in is) step.on_time)
    ∙ tuple_after_changes_nothing d s.sources s.past s.entry h.key (record { position = length s.past; time = time; value = value }) step.limits
    (ap (tuple_in h.key (length s.past)) is ∙ own_tuple h.key (length s.past) time value) (early_enough s h.key time value step is) (subst (λ w. w < time) step.old_is ahead) step.on_time in
    record {
      same_key = ap (λ (x : Held). x.key) e;
      stands = subst (StandsBehind s) (sym e) (behind_tuple s h time value step stands is);
      told = sym (ap (λ cs. out ++ cs) none ∙ append-nil out);
    }

-- ---- ledgers
pub empty_ledger : (d : Definitions) (sources : ℕ) (l : Ledger) → l.sources ≡ sources → l.water ≡ least_water sources [] → l.keys.items ≡ [] → IsLedger d sources [] l
empty_ledger d sources l of water keys = record {
  of_sources = of;
  water_is = water ∙ sym (water_of_nil sources);
  keys_are = ap keys_in keys ∙ sym keys_of_nil;
  stand = subst (All (StandsAfter d sources [])) (sym keys) (All-nil (StandsAfter d sources []));
}

pub ready_by_progress : (d : Definitions) (sources : ℕ) (past : List Entry) (e : Entry) (l : Ledger) → IsLedger d sources past l → is_progress e.what ≡ true → IsReadyFor d sources past e l
ready_by_progress d sources past e l h it = record {
  of_sources = h.of_sources;
  water_is = h.water_is;
  keys_are = h.keys_are ∙ sym (keys_of_water past e it);
  stand = h.stand;
}

pub ready_by_key : (d : Definitions) (sources : ℕ) (past : List Entry) (e : Entry) (key : List ℕ) (old new : Ledger) → IsLedger d sources past old → key_in e.what ≡ Some key
    → new.sources ≡ old.sources → new.water ≡ old.water → new.keys.items ≡ insert_key by_key old.keys.items (nothing_of key) → IsReadyFor d sources past e new
ready_by_key d sources past e key old new h it of water keys = record {
  of_sources = of ∙ h.of_sources;
  water_is = water ∙ h.water_is;
  keys_are =
      ap keys_in keys ∙ keys_put old.keys.items key ∙ ap (λ ks. insert_key (slice_cmp nat_cmp) ks key) h.keys_are
      ∙ sym (keys_of_push past e ∙ ap (λ o. option_map_or (insert_key (slice_cmp nat_cmp) (keys_of past)) o (keys_of past)) it);
  stand = subst (All (StandsAfter d sources past)) (sym keys) (put_stands d sources past old.keys.items key h.keys_are h.stand);
}

pub ledger_by_late : (d : Definitions) (sources : ℕ) (past upto : List Entry) (e : Entry) (l : Ledger) → IsReadyFor d sources past e l → is_late d.lateness (water_of sources past) e.what ≡ true → upto ≡ past ++ e ∷ [] → IsLedger d sources upto l
ledger_by_late d sources past upto e l h late is =
    subst (λ j. IsLedger d sources j l) (sym is)
    (record {
      of_sources = h.of_sources;
      water_is = h.water_is ∙ sym (water_of_late d.lateness sources past e late);
      keys_are = h.keys_are;
      stand = all_after_late d sources past e l.keys.items late h.stand;
    })

pub water_by_keyed : (sources : ℕ) (before upto : List Entry) (e : Entry) (water : ℕ) → upto ≡ before ++ e ∷ [] → is_progress e.what ≡ false → water ≡ water_of sources before → water ≡ water_of sources upto
water_by_keyed sources before upto e water is keyed w = w ∙ sym (water_of_same sources before e keyed) ∙ ap (water_of sources) (sym is)

pub followed_by_progress : (s : Passage) (h : Held) (before out : List Change) → StandsBefore s h → is_progress s.entry.what ≡ true → out ≡ before ++ changes_in s h.key → IsFollowed s h h before out
followed_by_progress s h before out stands it told = record { same_key = refl; stands = after_progress s h stands it; told = told }

-- ---- all keys go on, one after another
-- the keys so far stand behind the step, and those that are left before it
pub record AreFollowed (s : Passage) (old keys : List Held) (before out : List Change) (place : ℕ) : Type 0 where
  pub same : keys_in keys ≡ keys_in old
  pub done : AllWithin (StandsBehind s) keys 0 place
  pub left : AllWithin (StandsBefore s) keys place (length keys)
  pub told : out ++ flat_map (changes_in s) (drop place (keys_in old)) ≡ before ++ flat_map (changes_in s) (keys_in old)

pub follow_more : (s : Passage) (old keys : List Held) (before out next : List Change) (place : ℕ) (h new : Held) → place < length keys → h ≡ get_or keys place h → IsFollowed s h new out next
    → AreFollowed s old keys before out place → AreFollowed s old (set keys place new) before next (place + 1)
follow_more s old keys before out next place h new l is f inv = record {
  same =
      map-set (λ (x : Held). x.key) keys place new
      ∙ ap (λ k. set (keys_in keys) place k) (f.same_key ∙ ap (λ (x : Held). x.key) is ∙ sym (get_or-map (λ (x : Held). x.key) keys place h [] l))
      ∙ set-get_or (keys_in keys) place []
      ∙ inv.same;
  done = AllWithin-more_set keys place new l (StandsBehind s) inv.done f.stands;
  left = λ k d low high. subst (StandsBefore s) (sym (get_or-set_other keys place k new d (λ e. omega arith))) (inv.left k d (omega arith) (omega (arith, high, length-set keys place new)));
  told =
      let ks = keys_in old in
      let rest = flat_map (changes_in s) (drop (place + 1) ks) in
      let within : place < length ks = omega (arith, l, ap length inv.same, length-map keys (λ (x : Held). x.key)) in
      let key : h.key ≡ get_or ks place [] = ap (λ (x : Held). x.key) is ∙ sym (get_or-map (λ (x : Held). x.key) keys place h [] l) ∙ ap (λ xs. get_or xs place []) inv.same in
      ap (λ o. o ++ rest) (f.told ∙ ap (λ k. out ++ changes_in s k) key)
      ∙ append_assoc out (changes_in s (get_or ks place [])) rest
      ∙ sym (ap (λ xs. out ++ flat_map (changes_in s) xs) (drop_more ks place [] within))
      ∙ inv.told;
}
