-- The lines of changes are whole lines, and none is a header's or an entry's.
use Rattle.std.proofs.Common.{◌≡◌, ℕ, eqb, leb, ltb, ◌^◌, Bool, true, false, cond, List, [], ◌∷◌, ◌++◌, refl, ap, sym, ◌∙◌, subst, arith, append_assoc}
use Rattle.std.proofs.lemmas.Bool.{and_parts}
use Rattle.std.proofs.lemmas.List.Elements.{recursion_from_All, All-push, All-append, All-nil, All-cons, All-head, All-tail}
use Rattle.std.proofs.lemmas.Map.Views.{All-insert_key}
use Rattle.std.specs.BTreeSet.{insert_key}
use Rattle.std.specs.List.{AllByRecursion, All, fold, flat_map, filter_map, cons_option, find, list_any, enumerate_from}
use Rattle.std.specs.Option.{IfSome}
use Rattle.std.specs.Ordering.{nat_cmp}
use Rattle.std.specs.Cmp.Lexicographic.{slice_cmp}
use Rattle.std.specs.Prelude.{codes, decimal, Option, None, Some, ◌&&◌}
use Rattle.std.specs.Fmt.{signed_decimal}
use Rattle.stream_base.specs.Limits.{Definitions, is_value}
use Rattle.stream_base.specs.declared.limits.TheConstants.{FINAL, TIME_MAX}
use Rattle.stream_base.specs.declared.change.Change.{Change}
use Rattle.stream_base.specs.declared.change.Change.TheVariants.{Gone, New, Again, Dropped}
use Rattle.stream_base.specs.declared.def.Def.{Def}
use Rattle.stream_base.specs.declared.entry.Entry.{Entry}
use Rattle.stream_base.specs.declared.former.Former.{Former}
use Rattle.stream_base.specs.declared.func.Func.{Func}
use Rattle.stream_base.specs.declared.row.Row.{Row}
use Rattle.stream_base.specs.declared.shown.Shown.{Shown}
use Rattle.stream_base.specs.declared.shown.Shown.TheVariants.{Whole, Ratio}
use Rattle.stream_base.specs.declared.what.What.{What}
use Rattle.stream_base.specs.declared.what.What.TheVariants.{Tuple, Mark, Water, Idle, End}
use Rattle.stream_base.specs.Model.Text.{line_of, shown_text, end_text, row_fields, updated_fields, change_line, change_line_2, Form, report_1, report_2, change_lines, changes_under}
use Rattle.stream_base.specs.Model.Journal.{keys_of, rising}
use Rattle.stream_base.specs.Model.Watermark.{water_of}
use Rattle.stream_base.specs.Model.What.{is_late, key_in, is_what_within}
use Rattle.stream_base.specs.Model.Windows.{Instance}
use Rattle.stream_base.specs.Model.Changes.{Moment, retraction, emitted, emission, retractions, emissions, standing_at, changes_between, changes_of_key, changes_after, moment_of, is_same, are_same_tuples, row_of, former_of}
use Rattle.stream_base.specs.Model.Journals.{lines_of, is_entry_within, AreEntriesWithin}
use Rattle.stream_base.specs.Key.{is_key}
use Rattle.report_laws.specs.ReadBack.{is_other_line, is_change_within, AreOtherLines, AreOtherLinesUnder, IsToldFromJournals}
use Rattle.report_laws.proofs.ReadBackLines.{Lacks, Lacks-append, lines_of-line, lines_of-append, is_whole-append, is_whole-line}
use Rattle.report_laws.proofs.ReadBackWords.{Lacks-decimal, Lacks-signed_decimal}
use Rattle.report_laws.proofs.ReadBackEntry.{Lacks-key}

-- other lines behind other lines are other lines
no_lines : AreOtherLines []
no_lines = record { whole = refl; other = All-nil _ }

pub other_lines-append : (a b : List ℕ) → AreOtherLines a → AreOtherLines b → AreOtherLines (a ++ b)
other_lines-append a b h g = record {
  whole = is_whole-append a b h.whole g.whole;
  other = subst (All (λ line. is_other_line line ≡ true)) (sym (lines_of-append a b h.whole)) (All-append (λ line. is_other_line line ≡ true) (lines_of a) (lines_of b) h.other g.other);
}

other_line : (line : List ℕ) → Lacks 10 line → is_other_line line ≡ true → AreOtherLines (line ++ 10 ∷ [])
other_line line h g = record {
  whole = is_whole-line line;
  other = subst (All (λ l. is_other_line l ≡ true)) (sym (lines_of-line line [] h)) (All-cons (λ l. is_other_line l ≡ true) line [] g (All-nil _));
}

-- fields without a line feed make one line
abbrev spaced : List ℕ → List (List ℕ) → List ℕ
spaced field [] = field
spaced field (next ∷ fields) = field ++ (32 ∷ spaced next fields)

line_of-spaced : (field : List ℕ) (fields : List (List ℕ)) → line_of (field ∷ fields) ≡ spaced field fields ++ 10 ∷ []
line_of-spaced field [] = refl
line_of-spaced field (next ∷ fields) = ap (λ (text : List ℕ). field ++ (32 ∷ text)) (line_of-spaced next fields) ∙ sym (append_assoc field (32 ∷ spaced next fields) (10 ∷ []))

Lacks-spaced : (field : List ℕ) (fields : List (List ℕ)) → Lacks 10 field → AllByRecursion (Lacks 10) fields → Lacks 10 (spaced field fields)
Lacks-spaced field [] h g = h
Lacks-spaced field (next ∷ fields) h g = Lacks-append 10 field (32 ∷ spaced next fields) h (refl, Lacks-spaced next fields g.0 g.1)

-- a line whose first field is the one byte of a change
change_text : (byte : ℕ) (next : List ℕ) (fields : List (List ℕ)) → is_other_line (byte ∷ []) ≡ true → eqb byte 10 ≡ false → AllByRecursion (Lacks 10) (next ∷ fields) → AreOtherLines (line_of ((byte ∷ []) ∷ next ∷ fields))
change_text byte next fields o b h = subst AreOtherLines (sym (line_of-spaced (byte ∷ []) (next ∷ fields))) (other_line (spaced (byte ∷ []) (next ∷ fields)) (b, (refl, Lacks-spaced next fields h.0 h.1)) o)

-- the key of a change has no line feed
abbrev IsPlain : Change → Type 0
IsPlain (Gone row) = Lacks 10 row.key
IsPlain (New row) = Lacks 10 row.key
IsPlain (Again row former) = Lacks 10 row.key
IsPlain Dropped = Unit {0}

either_lacks : (t : Bool) (xs ys : List ℕ) → Lacks 10 xs → Lacks 10 ys → Lacks 10 (cond t xs ys)
either_lacks true xs ys h g = h
either_lacks false xs ys h g = g

Lacks-end_text : (high : ℕ) → Lacks 10 (end_text high)
Lacks-end_text high = either_lacks (eqb high FINAL) (codes "end") (decimal high) (refl, (refl, (refl, tt))) (Lacks-decimal 10 (omega arith) high)

Lacks-shown_text : (shown : Shown) → Lacks 10 (shown_text shown)
Lacks-shown_text (Whole number) = Lacks-signed_decimal 10 (omega arith) number
Lacks-shown_text (Ratio sum count) = Lacks-append 10 (signed_decimal sum) (47 ∷ decimal count) (Lacks-signed_decimal 10 (omega arith) sum) (refl, Lacks-decimal 10 (omega arith) count)

abbrev after_window : Row → List (List ℕ)
after_window row = decimal row.low ∷ end_text row.high ∷ decimal row.number ∷ shown_text row.shown ∷ row.key ∷ []

row_plain : (row : Row) → Lacks 10 row.key → AllByRecursion (Lacks 10) (row_fields row)
row_plain row h = (Lacks-decimal 10 (omega arith) row.window, (Lacks-decimal 10 (omega arith) row.low, (Lacks-end_text row.high, (Lacks-decimal 10 (omega arith) row.number, (Lacks-shown_text row.shown, (h, tt))))))

change_line-other : (change : Change) → IsPlain change → AreOtherLines (change_line change)
change_line-other (Gone row) h = change_text 45 (decimal row.window) (decimal row.low ∷ end_text row.high ∷ row.key ∷ []) refl refl (Lacks-decimal 10 (omega arith) row.window, (Lacks-decimal 10 (omega arith) row.low, (Lacks-end_text row.high, (h, tt))))
change_line-other (New row) h = change_text 43 (decimal row.window) (after_window row) refl refl (row_plain row h)
change_line-other (Again row former) h = change_text 126 (decimal row.window) (after_window row) refl refl (row_plain row h)
change_line-other Dropped h = other_line (120 ∷ []) (refl, tt) refl

abbrev updated_after_window : Row → Former → List (List ℕ)
updated_after_window row former = decimal row.low ∷ end_text row.high ∷ decimal row.number ∷ shown_text row.shown ∷ decimal former.number ∷ shown_text former.shown ∷ row.key ∷ []

updated_plain : (row : Row) (former : Former) → Lacks 10 row.key → AllByRecursion (Lacks 10) (updated_fields row former)
updated_plain row former h = (Lacks-decimal 10 (omega arith) row.window, (Lacks-decimal 10 (omega arith) row.low, (Lacks-end_text row.high, (Lacks-decimal 10 (omega arith) row.number, (Lacks-shown_text row.shown, (Lacks-decimal 10 (omega arith) former.number, (Lacks-shown_text former.shown, (h, tt))))))))

change_line_2-other : (change : Change) → IsPlain change → AreOtherLines (change_line_2 change)
change_line_2-other (Gone row) h = change_text 45 (decimal row.window) (after_window row) refl refl (row_plain row h)
change_line_2-other (New row) h = change_text 43 (decimal row.window) (after_window row) refl refl (row_plain row h)
change_line_2-other (Again row former) h = change_text 126 (decimal row.window) (updated_after_window row former) refl refl (updated_plain row former h)
change_line_2-other Dropped h = other_line (120 ∷ []) (refl, tt) refl

-- as where their keys are keys
plain_change : (change : Change) → is_change_within change ≡ true → IsPlain change
plain_change (Gone row) h = Lacks-key row.key h
plain_change (New row) h = Lacks-key row.key h
plain_change (Again row former) h = Lacks-key row.key h
plain_change Dropped h = tt

-- so both forms tell their own lines from those of journals
pub report_1-told : IsToldFromJournals report_1
report_1-told = record { front = no_lines; lines = λ change h. change_line-other change (plain_change change h) }

pub report_2-told : IsToldFromJournals report_2
report_2-told = record { front = other_line (codes "report 2") (refl, (refl, (refl, (refl, (refl, (refl, (refl, (refl, tt)))))))) refl; lines = λ change h. change_line_2-other change (plain_change change h) }

other_lines-flat_map : (form : Form) → IsToldFromJournals form → (changes : List Change) → AllByRecursion (λ c. is_change_within c ≡ true) changes → AreOtherLines (change_lines form changes)
other_lines-flat_map form told [] h = no_lines
other_lines-flat_map form told (change ∷ changes) h = other_lines-append (form.line change) (change_lines form changes) (told.lines change h.0) (other_lines-flat_map form told changes h.1)

pub change_lines-within : (form : Form) (changes : List Change) → IsToldFromJournals form → All (λ c. is_change_within c ≡ true) changes → AreOtherLines (change_lines form changes)
change_lines-within form changes told h = other_lines-flat_map form told changes (recursion_from_All (λ c. is_change_within c ≡ true) changes h)

-- what holds of each element that a list gives
always : {X : Type 0} (xs : List X) → AllByRecursion (λ x. Unit {0}) xs
always [] = tt
always (x ∷ xs) = (tt, always xs)

all-append : {X : Type 0} (P : X → Type 0) (xs ys : List X) → AllByRecursion P xs → AllByRecursion P ys → AllByRecursion P (xs ++ ys)
all-append P [] ys h g = g
all-append P (x ∷ xs) ys h g = (h.0, all-append P xs ys h.1 g)

all-flat_map : {X Y : Type 0} (Q : X → Type 0) (P : Y → Type 0) (f : X → List Y) → ((x : X) → Q x → AllByRecursion P (f x)) → (xs : List X) → AllByRecursion Q xs → AllByRecursion P (flat_map f xs)
all-flat_map Q P f each [] h = tt
all-flat_map Q P f each (x ∷ xs) h = all-append P (f x) (flat_map f xs) (each x h.0) (all-flat_map Q P f each xs h.1)

all-cons_option : {Y : Type 0} (P : Y → Type 0) (o : Option Y) (ys : List Y) → IfSome o P → AllByRecursion P ys → AllByRecursion P (cons_option o ys)
all-cons_option P None ys h g = g
all-cons_option P (Some y) ys h g = (h, g)

all-filter_map : {X Y : Type 0} (Q : X → Type 0) (P : Y → Type 0) (f : X → Option Y) → ((x : X) → Q x → IfSome (f x) P) → (xs : List X) → AllByRecursion Q xs → AllByRecursion P (filter_map f xs)
all-filter_map Q P f each [] h = tt
all-filter_map Q P f each (x ∷ xs) h = all-cons_option P (f x) (filter_map f xs) (each x h.0) (all-filter_map Q P f each xs h.1)

-- the changes of a key have that key
abbrev IsKeyed : Change → Type 0
IsKeyed c = is_change_within c ≡ true

unless : (t : Bool) (change : Change) → IsKeyed change → IfSome (cond t None (Some change)) IsKeyed
unless true change h = tt
unless false change h = h

emitted-keyed : (window : ℕ) (key : List ℕ) (func : Func) (i : Instance) (old : Option Instance) → is_key key ≡ true → IfSome (emitted window key func i old) IsKeyed
emitted-keyed window key func i None h = h
emitted-keyed window key func i (Some old) h = unless (are_same_tuples old.chosen i.chosen) (Again (row_of window key func i) (former_of func old)) h

retractions-keyed : (key : List ℕ) (old new : Moment) → is_key key ≡ true → (w : ℕ × Def) → Unit {0} → AllByRecursion IsKeyed (retractions key old new w)
retractions-keyed key old new h w u =
    all-filter_map (λ i. Unit {0}) IsKeyed (retraction w.0 key (w.1).func (standing_at w.1 new)) (λ i v. unless (list_any (is_same i) (standing_at w.1 new)) (Gone (row_of w.0 key (w.1).func i)) h) (standing_at w.1 old) (always (standing_at w.1 old))

emissions-keyed : (key : List ℕ) (old new : Moment) → is_key key ≡ true → (w : ℕ × Def) → Unit {0} → AllByRecursion IsKeyed (emissions key old new w)
emissions-keyed key old new h w u =
    all-filter_map (λ i. Unit {0}) IsKeyed (emission w.0 key (w.1).func (standing_at w.1 old)) (λ i v. emitted-keyed w.0 key (w.1).func i (find (is_same i) (standing_at w.1 old)) h) (standing_at w.1 new) (always (standing_at w.1 new))

changes_between-keyed : (windows : List Def) (key : List ℕ) (old new : Moment) → is_key key ≡ true → AllByRecursion IsKeyed (changes_between windows key old new)
unfolding changes_between
changes_between-keyed windows key old new h =
    let numbered = enumerate_from 0 windows in
    all-append IsKeyed (flat_map (retractions key old new) numbered) (flat_map (emissions key old new) numbered)
    (all-flat_map (λ w. Unit {0}) IsKeyed (retractions key old new) (retractions-keyed key old new h) numbered (always numbered))
    (all-flat_map (λ w. Unit {0}) IsKeyed (emissions key old new) (emissions-keyed key old new h) numbered (always numbered))

-- the keys of a journal are its entries'
abbrev HasKeyText : List ℕ → Type 0
HasKeyText key = is_key key ≡ true

key_within : (what : What) → is_what_within what ≡ true → IfSome (key_in what) HasKeyText
key_within (Tuple key time value) h = (and_parts (is_value value) (is_key key) (and_parts (leb time TIME_MAX) (is_value value && is_key key) h).1).1
key_within (Mark key time) h = (and_parts (leb time TIME_MAX) (is_key key) h).1
key_within (Water time) h = tt
key_within Idle h = tt
key_within End h = tt

rising-keyed : (keys rest : List (List ℕ)) → All HasKeyText keys → AllByRecursion HasKeyText rest → All HasKeyText (fold (insert_key (slice_cmp nat_cmp)) keys rest)
rising-keyed keys [] h g = h
rising-keyed keys (key ∷ rest) h g = rising-keyed (insert_key (slice_cmp nat_cmp) keys key) rest (All-insert_key (slice_cmp nat_cmp) key HasKeyText keys h g.0) g.1

keys_of-keyed : (journal : List Entry) → AreEntriesWithin journal → AllByRecursion HasKeyText (keys_of journal)
unfolding keys_of
keys_of-keyed journal h =
    let found = filter_map (λ (e : Entry). key_in e.what) journal in
    let found-keyed = all-filter_map (λ (e : Entry). is_entry_within e ≡ true) HasKeyText (λ e. key_in e.what) (λ e g. key_within e.what (and_parts (ltb e.source (2 ^ 16)) (is_what_within e.what) g).1) journal (recursion_from_All (λ e. is_entry_within e ≡ true) journal h) in
    recursion_from_All HasKeyText (rising (slice_cmp nat_cmp) found) (rising-keyed [] found (All-nil HasKeyText) found-keyed)

either_keyed : (t : Bool) (xs ys : List Change) → AllByRecursion IsKeyed xs → AllByRecursion IsKeyed ys → AllByRecursion IsKeyed (cond t xs ys)
either_keyed true xs ys h g = h
either_keyed false xs ys h g = g

changes_after-keyed : (d : Definitions) (sources : ℕ) (before : List Entry) (e : Entry) → AreEntriesWithin (before ++ e ∷ []) → AllByRecursion IsKeyed (changes_after d sources before e)
unfolding changes_after
changes_after-keyed d sources before e h =
    let keys = keys_of (before ++ e ∷ []) in
    either_keyed (is_late d.lateness (water_of sources before) e.what) (Dropped ∷ []) (flat_map (changes_of_key d sources before e) keys) (refl, tt)
    (all-flat_map HasKeyText IsKeyed (changes_of_key d sources before e) (λ key keyed. changes_between-keyed d.windows key (moment_of d sources key before) (moment_of d sources key (before ++ e ∷ [])) keyed) keys (keys_of-keyed (before ++ e ∷ []) h))

-- so the lines of the changes under an entry are other lines
pub changes_under-other : (form : Form) (d : Definitions) (sources : ℕ) (before : List Entry) (e : Entry) → IsToldFromJournals form → AreEntriesWithin (before ++ e ∷ []) → AreOtherLines (changes_under form d sources before e)
changes_under-other form d sources before e told h = other_lines-flat_map form told (changes_after d sources before e) (changes_after-keyed d sources before e h)

pub changes_under-others : (form : Form) (d : Definitions) (sources : ℕ) (before es : List Entry) → IsToldFromJournals form → AreEntriesWithin before → AreEntriesWithin es → AreOtherLinesUnder (changes_under form d sources) before es
changes_under-others form d sources before [] told b h = tt
changes_under-others form d sources before (e ∷ es) told b h =
    let longer : AreEntriesWithin (before ++ e ∷ []) = All-push (λ x. is_entry_within x ≡ true) before e b (All-head (λ x. is_entry_within x ≡ true) e es h) in
    (changes_under-other form d sources before e told longer, changes_under-others form d sources (before ++ e ∷ []) es told longer (All-tail (λ x. is_entry_within x ≡ true) e es h))
