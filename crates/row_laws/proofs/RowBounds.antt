-- The numbers of what stands, and of changes, fit.
use Rattle.std.proofs.Common.{◌≡◌, ℕ, ◌+◌, ◌-◌, ◌*◌, ◌/◌, ◌^◌, ◌<◌, ◌≤◌, Bool, true, false, cond, List, [], ◌∷◌, ◌++◌, drop, length, get_or, map, ap, sym, subst, refl, arith, Option, None, Some}
use Rattle.std.specs.Prelude.{◌&&◌, FitsSigned, filter, nat_le, nat_lt, slice_get, pos}
use Rattle.std.specs.Int.{w64}
use Rattle.std.specs.List.{All, AllByRecursion, Contains, insert, position_or_len, range_with_len}
use Rattle.std.specs.Option.{option_map_or}
use Rattle.std.proofs.lemmas.Bool.{and_from, and_parts, leb-true, lt-ltb, ltb-true}
use Rattle.std.proofs.lemmas.List.{length-drop, length-take, length_push}
use Rattle.std.proofs.lemmas.List.Elements.{All-contains, All-head, All-nil, All-push, All-tail, All-weaker, Contains-get_or, recursion_from_All}
use Rattle.std.proofs.lemmas.List.Sorted.{IsPermutation-insert, length_permutation}
use Rattle.std.proofs.lemmas.Option.{get_or_from_slice_get, slice_get_within}
use Rattle.std.proofs.Math.Nat.{div-mul-le_self, mul-le-mul_right}
use Rattle.stream_base.specs.Limits.{AreWithinLimits, Definitions, is_value}
use Rattle.stream_base.specs.Kinds.{IsKindWithin, is_events}
use Rattle.stream_base.specs.declared.change.Change.{Change}
use Rattle.stream_base.specs.declared.change.Change.TheVariants.{Gone, New, Again, Dropped}
use Rattle.stream_base.specs.declared.def.Def.{Def}
use Rattle.stream_base.specs.declared.entry.Entry.{Entry}
use Rattle.stream_base.specs.declared.former.Former.{Former}
use Rattle.stream_base.specs.declared.func.Func.{Func}
use Rattle.stream_base.specs.declared.kept.Kept.{Kept}
use Rattle.stream_base.specs.declared.kind.Kind.{Kind}
use Rattle.stream_base.specs.declared.kind.Kind.TheVariants.{Events}
use Rattle.stream_base.specs.declared.limits.TheConstants.{FINAL, JOURNAL_MAX, TIME_MAX}
use Rattle.stream_base.specs.declared.row.Row.{Row}
use Rattle.stream_base.specs.declared.what.What.{What}
use Rattle.stream_base.specs.declared.what.What.TheVariants.{Tuple, Mark, Water, Idle, End}
use Rattle.stream_base.specs.Key.{is_key}
use Rattle.stream_base.specs.Laws.{IsAcceptedTuple, IsCausedBy, IsStandingRow, TimesDoNotFall, accepted_tuple}
use Rattle.stream_base.specs.Model.Changes.{changes_after, former_of, moment_of, standing_at, standing_rows}
use Rattle.stream_base.specs.Model.Functions.{shown_of}
use Rattle.stream_base.specs.Model.Text.{report_of}
use Rattle.report_laws.specs.ReadBack.{AreWithin}
use Rattle.row_laws.specs.Reading.{form_of}
use Rattle.row_laws.specs.Told.{read_text, tells}
use Rattle.stream_base.specs.Model.Journal.{kept_of, marks_of, put_in_order}
use Rattle.stream_base.specs.Model.Journals.{AreEntriesWithin, is_entry_within}
use Rattle.stream_base.specs.Model.Watermark.{water_of}
use Rattle.stream_base.specs.Model.What.{is_late, is_what_within, key_in, water_time}
use Rattle.stream_base.specs.Model.Windows.{Instance, instances_of, is_complete, is_within, ranks, counted, within}
use Rattle.stream_base.proofs.Distinct.{All_from_members}
use Rattle.stream_base.proofs.EventOrder.{from_the_front, kept_times_do_not_fall}
use Rattle.stream_base.proofs.Growing.{kept_of_nil, kept_of_push}
use Rattle.stream_base.proofs.Members.{filter_members, map_members, range_members}
use Rattle.stream_base.proofs.Rising.{Contains-head, Contains-tail}
use Rattle.model_laws.proofs.Absent.{tuple_is_keyed}
use Rattle.model_laws.proofs.Accepted.{kept_exactly, kept_values_fit}
use Rattle.model_laws.proofs.ChangesAfter.{caused_are_listed, late_is_dropped}
use Rattle.model_laws.proofs.WatermarkBounds.{water_at_most}
use Rattle.model_laws.proofs.Choosing.{stands_kept}
use Rattle.row_laws.specs.Fitting.{is_change_fit, is_former_fit, is_row_fit, is_shown_fit}
use Rattle.model_laws.proofs.StandingRows.{standing_rows_exactly}
use Rattle.model_laws.proofs.RowChanges.{standing}
use Rattle.row_laws.proofs.RowWords.{row_fits}
use Rattle.row_laws.proofs.ToldRows.{AreFit, report_told}
use Rattle.row_laws.proofs.ValueBounds.{FitsShown, shown_fits, shown_is_fit}
use Rattle.stream_base.proofs.KindFacts.{instances_select, standing_selects}
use Rattle.window_laws.proofs.KindFacts.{bounds_are_ends, spans_hold_selections}

abbrev pub IsSmall : ℕ → Type 0
IsSmall n = n < 2 ^ 64

-- the numbers of a row, and of what stood before, fit
record FitsRow (row : Row) : Type 0 where
  key : is_key row.key ≡ true
  window : row.window < 2 ^ 32
  low : IsSmall row.low
  high : IsSmall row.high
  number : IsSmall row.number
  shown : FitsShown row.shown

record FitsFormer (former : Former) : Type 0 where
  number : IsSmall former.number
  shown : FitsShown former.shown

row_is_fit : (row : Row) → FitsRow row → is_row_fit row ≡ true
row_is_fit row h = row_fits row (record {
  key = h.key;
  window = lt-ltb row.window (2 ^ 32) h.window;
  low = lt-ltb row.low (2 ^ 64) h.low;
  high = lt-ltb row.high (2 ^ 64) h.high;
  number = lt-ltb row.number (2 ^ 64) h.number;
  shown = shown_is_fit row.shown h.shown;
})

former_is_fit : (former : Former) → FitsFormer former → is_former_fit former ≡ true
former_is_fit former h = and_from (nat_lt former.number (2 ^ 64)) (is_shown_fit former.shown) (lt-ltb former.number (2 ^ 64) h.number) (shown_is_fit former.shown h.shown)

-- ---- lengths
fewer : {X : Type 0} (p : X → Bool) (xs : List X) → length (filter p xs) ≤ length xs
fewer p [] = omega arith
fewer p (x ∷ xs) = by (p x) (fewer p xs)
  where
    by : (b : Bool) → length (filter p xs) ≤ length xs → length (cond b (x ∷ filter p xs) (filter p xs)) ≤ length (x ∷ xs)
    by true h = omega (arith, h)
    by false h = omega (arith, h)

length_kept : (lateness sources : ℕ) (key : List ℕ) (journal : List Entry) → length (kept_of lateness sources key journal) ≤ length journal
length_kept lateness sources key = from_the_front (λ j. length (kept_of lateness sources key j) ≤ length j)
    (subst (λ l. length l ≤ 0) (sym (kept_of_nil lateness sources key)) (omega arith))
    (λ j e before. subst (λ l. length l ≤ length (j ++ e ∷ [])) (sym (kept_of_push lateness sources key j e)) (by j e before (accepted_tuple lateness sources key j e)))
  where
    by : (j : List Entry) (e : Entry) → length (kept_of lateness sources key j) ≤ length j → (o : Option Kept) → length (option_map_or (put_in_order (kept_of lateness sources key j)) o (kept_of lateness sources key j)) ≤ length (j ++ e ∷ [])
    by j e h None = omega (arith, h, length_push j e)
    by j e h (Some x) =
        let kept : List Kept = kept_of lateness sources key j in
        let place : ℕ = position_or_len (λ y. nat_lt x.time y.time) kept in
        let one : length (insert kept place x) ≡ length (x ∷ kept) = length_permutation (x ∷ kept) (insert kept place x) (IsPermutation-insert kept place x) in
        omega (arith, h, one, length_push j e)

abbrev pub Few : List Kept → Instance → Type 0
Few kept i = length i.chosen ≤ length kept

-- ---- spans
-- the start and end are numbers of 64 bits, and no more is chosen than is kept
pub record IsBounded (kept : List Kept) (i : Instance) : Type 0 where
  pub low : IsSmall i.low
  pub high : IsSmall i.high
  pub few : Few kept i

-- of event counts the start and the end are ranks
ranks_bounded : (kept : List Kept) (count : ℕ) → 1 ≤ count → length kept ≤ JOURNAL_MAX → (n : ℕ) → n < length kept / count → IsBounded kept (ranks count kept n)
ranks_bounded kept count some few n l =
    let most : (length kept / count) * count ≤ length kept = div-mul-le_self (length kept) count in
    let up : (n + 1) * count ≤ (length kept / count) * count = mul-le-mul_right count (omega (arith, l)) in
    let low : n * count ≤ (n + 1) * count = mul-le-mul_right count (omega arith) in
    record {
      low = omega (arith, low, up, most, few);
      high = omega (arith, up, most, few);
      few = omega (arith, length-take count (drop (n * count) kept), length-drop (n * count) kept);
    }

counts_bounded : (kept : List Kept) (count : ℕ) → 1 ≤ count → length kept ≤ JOURNAL_MAX → (i : Instance) → Contains (counted count kept) i → IsBounded kept i
counts_bounded kept count some few i c =
    let (n, among, is) = map_members (ranks count kept) (range_with_len 0 (length kept / count)) i c in
    let within : (0 ≤ n) × (n < 0 + length kept / count) = range_members 0 (length kept / count) n among in
    subst (IsBounded kept) is (ranks_bounded kept count some few n (omega (arith, within.1)))

-- of all other windows an instance is complete at its end, and selects the tuples within its span
spans_bounded : (kind : Kind) (kept : List Kept) (marks : List ℕ) → IsKindWithin kind → is_events kind ≡ false → TimesDoNotFall kept → (i : Instance) → Contains (instances_of kind kept marks) i → i.bound ≤ FINAL → IsBounded kept i
spans_bounded kind kept marks k e h i c due =
    let all : List Instance = instances_of kind kept marks in
    let some : 1 ≤ length i.chosen = All-contains (λ (j : Instance). 1 ≤ length j.chosen) all i (instances_select kind kept marks k) c in
    let held : i.chosen ≡ within i.low i.high kept = All-contains (λ (j : Instance). j.chosen ≡ within j.low j.high kept) all i (spans_hold_selections kind kept marks k e h) c in
    let end : i.bound ≡ i.high = All-contains (λ (j : Instance). j.bound ≡ j.high) all i (bounds_are_ends kind kept marks e) c in
    let rises : i.low < i.high = runs_on i.low i.high (subst (λ l. 1 ≤ length l) held some) in
    record {
      low = omega (arith, rises, end, due);
      high = omega (arith, end, due);
      few = subst (λ l. length l ≤ length kept) (sym held) (fewer (is_within i.low i.high) kept);
    }
  where
    runs_on : (low high : ℕ) → 1 ≤ length (within low high kept) → low < high
    runs_on low high some =
        let any : Kept = record { position = 0; time = 0; value = pos 0 } in
        let x : Kept = get_or (within low high kept) 0 any in
        let m : Contains kept x × (is_within low high x ≡ true) = filter_members (is_within low high) kept x (Contains-get_or (within low high kept) 0 any some) in
        let both : (nat_le low x.time ≡ true) × (nat_lt x.time high ≡ true) = and_parts (nat_le low x.time) (nat_lt x.time high) m.1 in
        omega (arith, leb-true low x.time both.0, ltb-true x.time high both.1)

pub bounded : (kind : Kind) (kept : List Kept) (marks : List ℕ) → IsKindWithin kind → TimesDoNotFall kept → length kept ≤ JOURNAL_MAX → (i : Instance) → Contains (instances_of kind kept marks) i → i.bound ≤ FINAL → IsBounded kept i
unfolding instances_of
bounded (Events count) kept marks k h few i c due = counts_bounded kept count k.0 few i c
bounded kind kept marks k h few i c due = spans_bounded kind kept marks k refl h i c due

-- ---- rows that stand
key_within : (what : What) (key : List ℕ) → is_what_within what ≡ true → key_in what ≡ Some key → is_key key ≡ true
key_within (Tuple k time value) key h e =
    let both : (is_value value && is_key k) ≡ true = (and_parts (nat_le time TIME_MAX) (is_value value && is_key k) h).1 in
    let same : k ≡ key = cc in
    subst (λ l. is_key l ≡ true) same (and_parts (is_value value) (is_key k) both).1
key_within (Mark k time) key h e = let same : k ≡ key = cc in subst (λ l. is_key l ≡ true) same (and_parts (nat_le time TIME_MAX) (is_key k) h).1
key_within (Water time) key h e = cc
key_within Idle key h e = cc
key_within End key h e = cc

early : (what : What) → is_what_within what ≡ true → water_time what ≤ FINAL
early (Water time) h = omega (arith, leb-true time TIME_MAX h)
early what h = omega arith

entry_within : (journal : List Entry) (k : ℕ) (e : Entry) → AreEntriesWithin journal → slice_get journal k ≡ Some e → is_what_within e.what ≡ true
entry_within journal k e h g =
    let own : is_entry_within e ≡ true = All-contains (λ (x : Entry). is_entry_within x ≡ true) journal e h (k, slice_get_within journal k e g, get_or_from_slice_get journal k e e g) in
    (and_parts (nat_lt e.source (2 ^ 16)) (is_what_within e.what) own).1

values_fit : (kept run : List Kept) → All (λ x. FitsSigned w64 x.value) kept → ((x : Kept) → Contains run x → Contains kept x) → AllByRecursion (FitsSigned w64) (map (λ x. x.value) run)
values_fit kept [] h sub = tt
values_fit kept (x ∷ run) h sub = (All-contains (λ (y : Kept). FitsSigned w64 y.value) kept x h (sub x (Contains-head x run)), values_fit kept run h (λ y c. sub y (Contains-tail x run y c)))

module _ (d : Definitions) (sources : ℕ) (limits : AreWithinLimits d) where
  -- an instance of a window that stands of a key
  record IsToldInstance (func : Func) (key : List ℕ) (i : Instance) : Type 0 where
    own : is_key key ≡ true
    low : IsSmall i.low
    high : IsSmall i.high
    number : IsSmall (length i.chosen)
    shown : FitsShown (shown_of func (map (λ x. x.value) i.chosen))

  told_instance : (journal : List Entry) → AreEntriesWithin journal → length journal ≤ JOURNAL_MAX → (key : List ℕ) (def : Def) (i : Instance) → Contains d.windows def → Contains (standing_at def (moment_of d sources key journal)) i → IsToldInstance def.func key i
  told_instance journal within few key def i among stands =
      let kept : List Kept = kept_of d.lateness sources key journal in
      let marks : List ℕ = marks_of d.lateness sources key journal in
      let kind : IsKindWithin def.kind = All-contains (λ (w : Def). IsKindWithin w.kind) d.windows def limits.kinds among in
      let n : length kept ≤ length journal = length_kept d.lateness sources key journal in
      let m : Contains (instances_of def.kind kept marks) i × (is_complete (water_of sources journal) i ≡ true) = filter_members (is_complete (water_of sources journal)) (instances_of def.kind kept marks) i stands in
      let due : i.bound ≤ water_of sources journal = leb-true i.bound (water_of sources journal) m.1 in
      let final : water_of sources journal ≤ FINAL = water_at_most sources journal (All-weaker (λ (e : Entry). is_entry_within e ≡ true) (λ e. water_time e.what ≤ FINAL) (λ e h. early e.what (and_parts (nat_lt e.source (2 ^ 16)) (is_what_within e.what) h).1) journal within) in
      let b : IsBounded kept i = bounded def.kind kept marks kind (kept_times_do_not_fall d.lateness sources key journal) (omega (arith, n, few)) i m.0 (omega (arith, due, final)) in
      let some : 1 ≤ length i.chosen = All-contains (λ (j : Instance). 1 ≤ length j.chosen) (standing_at def (moment_of d sources key journal)) i (standing_selects def.kind kept marks (water_of sources journal) kind) stands in
      record {
        own = a_key i.chosen some (stands_kept d sources key journal def i stands);
        low = b.low;
        high = b.high;
        number = omega (arith, b.few, n, few);
        shown = shown_fits def.func (map (λ x. x.value) i.chosen) (values_fit kept i.chosen (kept_values_fit d.lateness sources key journal within) (stands_kept d sources key journal def i stands));
      }
    where
      a_key : (run : List Kept) → 1 ≤ length run → ((x : Kept) → Contains run x → Contains (kept_of d.lateness sources key journal) x) → is_key key ≡ true
      a_key [] h sub = absurd (omega arith)
      a_key (x ∷ run) h sub =
          let a : IsAcceptedTuple d.lateness sources key journal x = (kept_exactly d.lateness sources key journal x).0 (sub x (Contains-head x run)) in
          key_within a.entry.what key (entry_within journal x.position a.entry within a.stands) (tuple_is_keyed key x.position a.entry.what x a.says)

  told_row : (journal : List Entry) → AreEntriesWithin journal → length journal ≤ JOURNAL_MAX → (row : Row) → IsStandingRow d sources journal row → FitsRow row
  told_row journal within few row h =
      let place : row.window < length d.windows = slice_get_within d.windows row.window h.def h.of_window in
      let among : Contains d.windows h.def = (row.window, place, get_or_from_slice_get d.windows row.window h.def h.def h.of_window) in
      let t : IsToldInstance h.def.func row.key h.instance = told_instance journal within few row.key h.def h.instance among h.stands in
      record {
        key = t.own;
        window = omega (arith, place, limits.few_windows);
        low = subst IsSmall (sym (ap (λ (r : Row). r.low) h.shows)) t.low;
        high = subst IsSmall (sym (ap (λ (r : Row). r.high) h.shows)) t.high;
        number = subst IsSmall (sym (ap (λ (r : Row). r.number) h.shows)) t.number;
        shown = subst FitsShown (sym (ap (λ (r : Row). r.shown) h.shows)) t.shown;
      }

  told_former : (journal : List Entry) → AreEntriesWithin journal → length journal ≤ JOURNAL_MAX → (key : List ℕ) (window : ℕ) (def : Def) (i : Instance) (former : Former)
      → slice_get d.windows window ≡ Some def → Contains (standing_at def (moment_of d sources key journal)) i → former ≡ former_of def.func i → FitsFormer former
  told_former journal within few key window def i former of_window stands showed =
      let among : Contains d.windows def = (window, slice_get_within d.windows window def of_window, get_or_from_slice_get d.windows window def def of_window) in
      let t : IsToldInstance def.func key i = told_instance journal within few key def i among stands in
      record {
        number = subst IsSmall (sym (ap (λ (f : Former). f.number) showed)) t.number;
        shown = subst FitsShown (sym (ap (λ (f : Former). f.shown) showed)) t.shown;
      }

  pub rows_fit : (journal : List Entry) → AreEntriesWithin journal → length journal ≤ JOURNAL_MAX → All (λ row. is_row_fit row ≡ true) (standing_rows d sources journal)
  rows_fit journal within few = All_from_members (λ row. is_row_fit row ≡ true) (standing_rows d sources journal) (λ row c. row_is_fit row (told_row journal within few row ((standing_rows_exactly d sources journal row).0 c)))

  module _ (before : List Entry) (e : Entry) (within : AreEntriesWithin before) (more : AreEntriesWithin (before ++ e ∷ [])) (few : length (before ++ e ∷ []) ≤ JOURNAL_MAX) where
    abbrev few_before : length before ≤ JOURNAL_MAX
    few_before = omega (arith, few, length_push before e)

    abbrev Fit : Change → Type 0
    Fit c = is_change_fit c ≡ true

    told_change : (c : Change) → IsCausedBy d sources before e c → is_change_fit c ≡ true
    told_change (Gone row) caused =
        let r = caused.1 in
        row_is_fit row (told_row before within few_before row (standing d sources before caused.0 row r.def r.before r.of_window r.stood r.showed))
    told_change (New row) caused =
        let r = caused.1 in
        row_is_fit row (told_row (before ++ e ∷ []) more few row (standing d sources (before ++ e ∷ []) caused.0 row r.def r.now r.of_window r.stands r.shows))
    told_change (Again row former) caused =
        let r = caused.1 in
        and_from (is_row_fit row) (is_former_fit former)
        (row_is_fit row (told_row (before ++ e ∷ []) more few row (standing d sources (before ++ e ∷ []) caused.0 row r.def r.now r.of_window r.stands r.shows)))
        (former_is_fit former (told_former before within few_before caused.0 row.window r.def r.before former r.of_window r.stood r.showed))
    told_change Dropped caused = absurd caused.1

    told_changes : AllByRecursion Fit (changes_after d sources before e)
    told_changes = by (is_late d.lateness (water_of sources before) e.what) refl
      where
        by : (b : Bool) → is_late d.lateness (water_of sources before) e.what ≡ b → AllByRecursion Fit (changes_after d sources before e)
        by true late = subst (AllByRecursion Fit) (sym (late_is_dropped d sources before e late)) (refl, tt)
        by false on_time = recursion_from_All Fit (changes_after d sources before e) (All_from_members Fit (changes_after d sources before e) (λ c among. told_change c (caused_are_listed d sources before e c on_time among)))

  pub all_told : (before es : List Entry) → AreEntriesWithin before → AreEntriesWithin es → length before + length es ≤ JOURNAL_MAX → AreFit d sources before es
  all_told before [] w v few = tt
  all_told before (e ∷ es) w v few =
      let more : AreEntriesWithin (before ++ e ∷ []) = All-push (λ (x : Entry). is_entry_within x ≡ true) before e w (All-head (λ (x : Entry). is_entry_within x ≡ true) e es v) in
      let n : length (before ++ e ∷ []) ≡ length before + 1 = omega (arith, length_push before e) in
      (told_changes before e w more (omega (arith, n, few)), all_told (before ++ e ∷ []) es more (All-tail (λ (x : Entry). is_entry_within x ≡ true) e es v) (omega (arith, n, few)))

pub all_fit : (d : Definitions) (sources : ℕ) → AreWithinLimits d → (js : List (List Entry)) → All AreEntriesWithin js → All (λ journal. length journal ≤ JOURNAL_MAX) js → AllByRecursion (AreFit d sources []) js
all_fit d sources limits [] h g = tt
all_fit d sources limits (j ∷ js) h g = (
  all_told d sources limits [] j (All-nil (λ (x : Entry). is_entry_within x ≡ true)) (All-head AreEntriesWithin j js h) (omega (arith, All-head (λ (k : List Entry). length k ≤ JOURNAL_MAX) j js g)),
  all_fit d sources limits js (All-tail AreEntriesWithin j js h) (All-tail (λ (k : List Entry). length k ≤ JOURNAL_MAX) j js g),
)

pub report_tells : (full : Bool) (d : Definitions) (sources : ℕ) (journals : List (List Entry)) → AreWithinLimits d → AreWithin journals → All (λ journal. length journal ≤ JOURNAL_MAX) journals
    → read_text (report_of (form_of full) d sources journals) ≡ tells (map (λ journal. record { journal = journal; rows = standing_rows d sources journal }) journals)
report_tells full d sources journals limits are few = report_told full d sources journals limits are (all_fit d sources limits journals are.entries few)
