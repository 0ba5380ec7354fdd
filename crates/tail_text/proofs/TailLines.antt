-- The lines of the changes of tails are whole lines, and none is a header's or an entry's.
use Rattle.std.proofs.Common.{◌≡◌, ◌∙◌, ℕ, ◌^◌, eqb, leb, ltb, Bool, true, false, cond, List, [], ◌∷◌, ◌++◌, refl, ap, sym, subst, arith, append_assoc}
use Rattle.std.proofs.lemmas.Bool.{and_parts}
use Rattle.std.proofs.lemmas.List.Elements.{recursion_from_All, All-push, All-nil, All-cons, All-head, All-tail, All-weaker}
use Rattle.std.proofs.lemmas.Map.Views.{All-insert_key}
use Rattle.std.specs.BTreeSet.{insert_key}
use Rattle.std.specs.List.{AllByRecursion, All, fold, flat_map, filter_map, cons_option, find}
use Rattle.std.specs.Option.{IfSome}
use Rattle.std.specs.Ordering.{nat_cmp}
use Rattle.std.specs.Cmp.Lexicographic.{slice_cmp}
use Rattle.std.specs.Prelude.{codes, decimal, Option, None, Some, ◌&&◌}
use Rattle.std.specs.Fmt.{signed_decimal}
use Rattle.stream_base.specs.Key.{is_key}
use Rattle.stream_base.specs.Limits.{is_value}
use Rattle.stream_base.specs.declared.limits.TheConstants.{TIME_MAX}
use Rattle.stream_base.specs.declared.entry.Entry.{Entry}
use Rattle.stream_base.specs.declared.func.Func.{Func}
use Rattle.stream_base.specs.declared.kept.Kept.{Kept}
use Rattle.stream_base.specs.declared.shown.Shown.{Shown}
use Rattle.stream_base.specs.declared.shown.Shown.TheVariants.{Whole, Ratio}
use Rattle.stream_base.specs.declared.what.What.{What}
use Rattle.stream_base.specs.declared.what.What.TheVariants.{Tuple, Mark, Water, Idle, End}
use Rattle.stream_base.specs.Model.Changes.{are_same_tuples}
use Rattle.stream_base.specs.Model.Journal.{keys_of, kept_of, rising}
use Rattle.stream_base.specs.Model.Journals.{AreEntriesWithin, is_entry_within, lines_of, journals_of}
use Rattle.stream_base.specs.Model.Text.{line_of, shown_text, text_of}
use Rattle.stream_base.specs.Model.Watermark.{water_of}
use Rattle.stream_base.specs.Model.What.{is_late, key_in, is_what_within}
use Rattle.report_laws.specs.ReadBack.{AreOtherLines, AreOtherLinesUnder, AreWithin, is_other_line}
use Rattle.report_laws.proofs.ReadBack.{journals_of-text_of}
use Rattle.report_laws.proofs.ReadBackChanges.{other_lines-append}
use Rattle.report_laws.proofs.ReadBackEntry.{Lacks-key}
use Rattle.report_laws.proofs.ReadBackLines.{Lacks, Lacks-append, lines_of-line, is_whole-line}
use Rattle.report_laws.proofs.ReadBackWords.{Lacks-decimal, Lacks-signed_decimal}
use Rattle.tail_windows.specs.Report.{tail_fields, tail_line, tails_under, tail_report_of}
use Rattle.tail_windows.specs.Tails.{Tail, emitted, is_at, row_of, standing_tails, tail_changes_after, tail_changes_between, tail_changes_of_key}
use Rattle.tail_windows.specs.declared.def.TailDef.{TailDef}
use Rattle.tail_windows.specs.declared.row.TailRow.{TailRow}
use Rattle.tail_windows.specs.declared.change.TailChange.{TailChange}
use Rattle.tail_windows.specs.declared.change.TailChange.TheVariants.{New, Again, Dropped}

-- ---- a line whose first field is one byte other than `s`, `j` and the line feed, and whose fields have no line feed, is another line
no_lines : AreOtherLines []
no_lines = record { whole = refl; other = All-nil _ }

other_line : (line : List ℕ) → Lacks 10 line → is_other_line line ≡ true → AreOtherLines (line ++ 10 ∷ [])
other_line line h g = record {
  whole = is_whole-line line;
  other = subst (All (λ l. is_other_line l ≡ true)) (sym (lines_of-line line [] h)) (All-cons (λ l. is_other_line l ≡ true) line [] g (All-nil _));
}

abbrev spaced : List ℕ → List (List ℕ) → List ℕ
spaced field [] = field
spaced field (next ∷ fields) = field ++ (32 ∷ spaced next fields)

line_of-spaced : (field : List ℕ) (fields : List (List ℕ)) → line_of (field ∷ fields) ≡ spaced field fields ++ 10 ∷ []
line_of-spaced field [] = refl
line_of-spaced field (next ∷ fields) = ap (λ (text : List ℕ). field ++ (32 ∷ text)) (line_of-spaced next fields) ∙ sym (append_assoc field (32 ∷ spaced next fields) (10 ∷ []))

Lacks-spaced : (field : List ℕ) (fields : List (List ℕ)) → Lacks 10 field → AllByRecursion (Lacks 10) fields → Lacks 10 (spaced field fields)
Lacks-spaced field [] h g = h
Lacks-spaced field (next ∷ fields) h g = Lacks-append 10 field (32 ∷ spaced next fields) h (refl, Lacks-spaced next fields g.0 g.1)

pub marked_line : (byte : ℕ) (next : List ℕ) (fields : List (List ℕ)) → is_other_line (byte ∷ []) ≡ true → eqb byte 10 ≡ false → AllByRecursion (Lacks 10) (next ∷ fields) → AreOtherLines (line_of ((byte ∷ []) ∷ next ∷ fields))
marked_line byte next fields o b h = subst AreOtherLines (sym (line_of-spaced (byte ∷ []) (next ∷ fields))) (other_line (spaced (byte ∷ []) (next ∷ fields)) (b, (refl, Lacks-spaced next fields h.0 h.1)) o)

-- ---- the line of a change whose key is a key
Lacks-shown_text : (shown : Shown) → Lacks 10 (shown_text shown)
Lacks-shown_text (Whole number) = Lacks-signed_decimal 10 (omega arith) number
Lacks-shown_text (Ratio sum count) = Lacks-append 10 (signed_decimal sum) (47 ∷ decimal count) (Lacks-signed_decimal 10 (omega arith) sum) (refl, Lacks-decimal 10 (omega arith) count)

abbrev IsKeyed : TailChange → Type 0
IsKeyed (New row) = is_key row.key ≡ true
IsKeyed (Again row) = is_key row.key ≡ true
IsKeyed Dropped = Unit {0}

row_plain : (row : TailRow) → is_key row.key ≡ true → AllByRecursion (Lacks 10) (tail_fields row)
row_plain row h = (Lacks-decimal 10 (omega arith) row.at, (Lacks-decimal 10 (omega arith) row.number, (Lacks-shown_text row.shown, (Lacks-key row.key h, tt))))

tail_line-other : (change : TailChange) → IsKeyed change → AreOtherLines (tail_line change)
tail_line-other (New row) h = marked_line 43 (decimal row.at) (decimal row.number ∷ shown_text row.shown ∷ row.key ∷ []) refl refl (row_plain row h)
tail_line-other (Again row) h = marked_line 126 (decimal row.at) (decimal row.number ∷ shown_text row.shown ∷ row.key ∷ []) refl refl (row_plain row h)
tail_line-other Dropped h = other_line (120 ∷ []) (refl, tt) refl

tail_lines-other : (changes : List TailChange) → AllByRecursion IsKeyed changes → AreOtherLines (flat_map tail_line changes)
tail_lines-other [] h = no_lines
tail_lines-other (change ∷ changes) h = other_lines-append (tail_line change) (flat_map tail_line changes) (tail_line-other change h.0) (tail_lines-other changes h.1)

-- ---- what holds of each element that a list gives
always : {X : Type 0} (xs : List X) → AllByRecursion (λ x. Unit {0}) xs
always [] = tt
always (x ∷ xs) = (tt, always xs)

all-append : {X : Type 0} (P : X → Type 0) (xs ys : List X) → AllByRecursion P xs → AllByRecursion P ys → AllByRecursion P (xs ++ ys)
all-append P [] ys h g = g
all-append P (x ∷ xs) ys h g = (h.0, all-append P xs ys h.1 g)

all-flat_map : {X Y : Type 0} (Q : X → Type 0) (P : Y → Type 0) (f : X → List Y) → ((x : X) → Q x → AllByRecursion P (f x)) → (xs : List X) → AllByRecursion Q xs → AllByRecursion P (flat_map f xs)
all-flat_map Q P f each [] h = tt
all-flat_map Q P f each (x ∷ xs) h = all-append P (f x) (flat_map f xs) (each x h.0) (all-flat_map Q P f each xs h.1)

all-cons_option : {Y : Type 0} (P : Y → Type 0) (o : Option Y) (ys : List Y) → IfSome o P → AllByRecursion P ys → AllByRecursion P (cons_option o ys)
all-cons_option P None ys h g = g
all-cons_option P (Some y) ys h g = (h, g)

all-filter_map : {X Y : Type 0} (Q : X → Type 0) (P : Y → Type 0) (f : X → Option Y) → ((x : X) → Q x → IfSome (f x) P) → (xs : List X) → AllByRecursion Q xs → AllByRecursion P (filter_map f xs)
all-filter_map Q P f each [] h = tt
all-filter_map Q P f each (x ∷ xs) h = all-cons_option P (f x) (filter_map f xs) (each x h.0) (all-filter_map Q P f each xs h.1)

-- ---- the keys of a journal within the limits are keys
abbrev HasKeyText : List ℕ → Type 0
HasKeyText key = is_key key ≡ true

key_within : (what : What) → is_what_within what ≡ true → IfSome (key_in what) HasKeyText
key_within (Tuple key time value) h = (and_parts (is_value value) (is_key key) (and_parts (leb time TIME_MAX) (is_value value && is_key key) h).1).1
key_within (Mark key time) h = (and_parts (leb time TIME_MAX) (is_key key) h).1
key_within (Water time) h = tt
key_within Idle h = tt
key_within End h = tt

rising-keyed : (keys rest : List (List ℕ)) → All HasKeyText keys → AllByRecursion HasKeyText rest → All HasKeyText (fold (insert_key (slice_cmp nat_cmp)) keys rest)
rising-keyed keys [] h g = h
rising-keyed keys (key ∷ rest) h g = rising-keyed (insert_key (slice_cmp nat_cmp) keys key) rest (All-insert_key (slice_cmp nat_cmp) key HasKeyText keys h g.0) g.1

pub keys_are_keys : (journal : List Entry) → AreEntriesWithin journal → AllByRecursion HasKeyText (keys_of journal)
unfolding keys_of
keys_are_keys journal h =
    let found = filter_map (λ (e : Entry). key_in e.what) journal in
    let found-keyed = all-filter_map (λ (e : Entry). is_entry_within e ≡ true) HasKeyText (λ e. key_in e.what) (λ e g. key_within e.what (and_parts (ltb e.source (2 ^ 16)) (is_what_within e.what) g).1) journal (recursion_from_All (λ e. is_entry_within e ≡ true) journal h) in
    recursion_from_All HasKeyText (rising (slice_cmp nat_cmp) found) (rising-keyed [] found (All-nil HasKeyText) found-keyed)

-- ---- so the changes under an entry have keys, and their lines are other lines
unless : (t : Bool) (change : TailChange) → IsKeyed change → IfSome (cond t None (Some change)) IsKeyed
unless true change h = tt
unless false change h = h

emitted-keyed : (func : Func) (key : List ℕ) (i : Tail) (old : Option Tail) → is_key key ≡ true → IfSome (emitted func key i old) IsKeyed
emitted-keyed func key i None h = h
emitted-keyed func key i (Some old) h = unless (are_same_tuples old.chosen i.chosen) (Again (row_of func key i)) h

between-keyed : (def : TailDef) (key : List ℕ) (kept : List Kept) (water : ℕ) (kept' : List Kept) (water' : ℕ) → is_key key ≡ true → AllByRecursion IsKeyed (tail_changes_between def key kept water kept' water')
unfolding tail_changes_between
between-keyed def key kept water kept' water' h =
    all-filter_map (λ i. Unit {0}) IsKeyed (λ i. emitted def.func key i (find (is_at i.at) (standing_tails def kept water))) (λ i u. emitted-keyed def.func key i (find (is_at i.at) (standing_tails def kept water)) h) (standing_tails def kept' water') (always (standing_tails def kept' water'))

either_keyed : (t : Bool) (xs ys : List TailChange) → AllByRecursion IsKeyed xs → AllByRecursion IsKeyed ys → AllByRecursion IsKeyed (cond t xs ys)
either_keyed true xs ys h g = h
either_keyed false xs ys h g = g

after-keyed : (def : TailDef) (lateness sources : ℕ) (before : List Entry) (e : Entry) → AreEntriesWithin (before ++ e ∷ []) → AllByRecursion IsKeyed (tail_changes_after def lateness sources before e)
unfolding tail_changes_after
after-keyed def lateness sources before e h =
    let keys = keys_of (before ++ e ∷ []) in
    either_keyed (is_late lateness (water_of sources before) e.what) (Dropped ∷ []) (flat_map (tail_changes_of_key def lateness sources before e) keys) (tt, tt)
    (all-flat_map HasKeyText IsKeyed (tail_changes_of_key def lateness sources before e)
    (λ key keyed. between-keyed def key (kept_of lateness sources key before) (water_of sources before) (kept_of lateness sources key (before ++ e ∷ [])) (water_of sources (before ++ e ∷ [])) keyed)
    keys (keys_are_keys (before ++ e ∷ []) h))

pub tails_under-other : (def : TailDef) (lateness sources : ℕ) (before : List Entry) (e : Entry) → AreEntriesWithin (before ++ e ∷ []) → AreOtherLines (tails_under def lateness sources before e)
tails_under-other def lateness sources before e h = tail_lines-other (tail_changes_after def lateness sources before e) (after-keyed def lateness sources before e h)

tails_under-others : (def : TailDef) (lateness sources : ℕ) (before es : List Entry) → AreEntriesWithin before → AreEntriesWithin es → AreOtherLinesUnder (tails_under def lateness sources) before es
tails_under-others def lateness sources before [] b h = tt
tails_under-others def lateness sources before (e ∷ es) b h =
    let longer : AreEntriesWithin (before ++ e ∷ []) = All-push (λ x. is_entry_within x ≡ true) before e b (All-head (λ x. is_entry_within x ≡ true) e es h) in
    (tails_under-other def lateness sources before e longer, tails_under-others def lateness sources (before ++ e ∷ []) es longer (All-tail (λ x. is_entry_within x ≡ true) e es h))

-- ---- and the journals are read back
pub journals_of-tail_report_of : (def : TailDef) (lateness sources : ℕ) (journals : List (List Entry)) → AreWithin journals → journals_of (tail_report_of def lateness sources journals) ≡ journals
unfolding tail_report_of
journals_of-tail_report_of def lateness sources journals h =
    let others : All (AreOtherLinesUnder (tails_under def lateness sources) []) journals = All-weaker AreEntriesWithin (AreOtherLinesUnder (tails_under def lateness sources) []) (λ journal within. tails_under-others def lateness sources [] journal (All-nil (λ x. is_entry_within x ≡ true)) within) journals h.entries in
    journals_of-text_of [] (tails_under def lateness sources) journals no_lines h others
