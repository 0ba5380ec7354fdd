-- A change is read back from its line, as far as the line tells it.
use Rattle.std.proofs.Common.{◌≡◌, ◌∙◌, ℕ, ◌<◌, ◌≤◌, Bool, true, false, cond, eqb, List, [], ◌∷◌, ◌++◌, length, ap, sym, refl, arith, append_assoc, Option, None, Some}
use Rattle.std.specs.Prelude.{◌^◌, ◌&&◌, ℤ, negsuc, nat_lt, pos, codes, decimal}
use Rattle.std.specs.List.{AllByRecursion}
use Rattle.std.specs.Str.{bytes_eq}
use Rattle.std.proofs.lemmas.Slice.Eq.{bytes_eq-Decides}
use Rattle.std.specs.Fmt.{signed_decimal}
use Rattle.std.proofs.lemmas.Bool.{and_from, and_parts, cond-true, ltb-true, ne_eqb}
use Rattle.stream_base.specs.declared.change.Change.{Change}
use Rattle.stream_base.specs.declared.change.Change.TheVariants.{Gone, New, Again, Dropped}
use Rattle.stream_base.specs.declared.former.Former.{Former}
use Rattle.stream_base.specs.declared.limits.TheConstants.{FINAL}
use Rattle.stream_base.specs.declared.row.Row.{Row}
use Rattle.stream_base.specs.declared.shown.Shown.{Shown}
use Rattle.stream_base.specs.declared.shown.Shown.TheVariants.{Whole, Ratio}
use Rattle.stream_base.specs.Key.{is_key}
use Rattle.stream_base.specs.Model.Journals.{after_word, word}
use Rattle.stream_base.specs.Model.Text.{end_text, line_of, shown_text}
use Rattle.report_laws.proofs.ReadBackEntry.{Lacks-key}
use Rattle.report_laws.proofs.ReadBackLines.{Lacks, Lacks-append}
use Rattle.report_laws.proofs.ReadBackWords.{Lacks-decimal, Lacks-signed_decimal, after_word-space, word-space}
use Rattle.row_laws.specs.Fitting.{is_change_fit, is_former_fit, is_row_fit, is_shown_fit, is_wide}
use Rattle.row_laws.specs.Reading.{bare_row_in, change_in, form_of, guessed_change, untold, row_in, updated_in, words}
use Rattle.model_laws.specs.Rows.{after_change}
use Rattle.row_laws.proofs.Numerals.{IsShort, IsShortShown, IsShortSigned, end_read, number_read, shown_read}

-- ---- words
-- fields with one space between each two, and a last one
abbrev joined_by : List (List ℕ) → List ℕ → List ℕ
joined_by [] last = last
joined_by (field ∷ fields) last = field ++ (32 ∷ joined_by fields last)

abbrev with_last : List (List ℕ) → List ℕ → List (List ℕ)
with_last [] last = last ∷ []
with_last (field ∷ fields) last = field ∷ with_last fields last

words_read : (fields : List (List ℕ)) (last : List ℕ) → AllByRecursion (Lacks 32) fields → words (length fields) (joined_by fields last) ≡ with_last fields last
words_read [] last h = refl
words_read (field ∷ fields) last h =
    (λ i. word-space field (joined_by fields last) h.0 i ∷ words (length fields) (after_word-space field (joined_by fields last) h.0 i))
    ∙ ap (λ ws. field ∷ ws) (words_read fields last h.1)

line_joined : (fields : List (List ℕ)) (last : List ℕ) → line_of (with_last fields last) ≡ joined_by fields last ++ 10 ∷ []
line_joined [] last = refl
line_joined (field ∷ []) last = sym (append_assoc field (32 ∷ last) (10 ∷ []))
line_joined (field ∷ next ∷ fields) last = ap (λ t. field ++ (32 ∷ t)) (line_joined (next ∷ fields) last) ∙ sym (append_assoc field (32 ∷ joined_by (next ∷ fields) last) (10 ∷ []))

lacks_joined : (c : ℕ) (fields : List (List ℕ)) (last : List ℕ) → eqb 32 c ≡ false → AllByRecursion (Lacks c) fields → Lacks c last → Lacks c (joined_by fields last)
lacks_joined c [] last s h g = g
lacks_joined c (field ∷ fields) last s h g = Lacks-append c field (32 ∷ joined_by fields last) h.0 (s, lacks_joined c fields last s h.1 g)

-- ---- fields
either_lacks : (c : ℕ) (t : Bool) (xs ys : List ℕ) → Lacks c xs → Lacks c ys → Lacks c (cond t xs ys)
either_lacks c true xs ys h g = h
either_lacks c false xs ys h g = g

module _ (c : ℕ) (low : c < 45) where
  not_one : (b : ℕ) → 45 ≤ b → eqb b c ≡ false
  not_one b l = ne_eqb b c (λ e. omega (arith, e))

  lacks_end : (high : ℕ) → Lacks c (end_text high)
  lacks_end high = either_lacks c (eqb high FINAL) (codes "end") (decimal high) (not_one 101 (omega arith), (not_one 110 (omega arith), (not_one 100 (omega arith), tt))) (Lacks-decimal c (omega arith) high)

  lacks_shown : (shown : Shown) → Lacks c (shown_text shown)
  lacks_shown (Whole z) = Lacks-signed_decimal c low z
  lacks_shown (Ratio z n) = Lacks-append c (signed_decimal z) (47 ∷ decimal n) (Lacks-signed_decimal c low z) (not_one 47 (omega arith), Lacks-decimal c (omega arith) n)

-- the fields of a row in front of its key; of one of which less is told; and of an update
abbrev row_words : Row → List (List ℕ)
row_words row = decimal row.window ∷ decimal row.low ∷ end_text row.high ∷ decimal row.number ∷ shown_text row.shown ∷ []

abbrev bare_words : Row → List (List ℕ)
bare_words row = decimal row.window ∷ decimal row.low ∷ end_text row.high ∷ []

abbrev updated_words : Row → Former → List (List ℕ)
updated_words row former =
    decimal row.window ∷ decimal row.low ∷ end_text row.high ∷ decimal row.number ∷ shown_text row.shown
    ∷ decimal former.number ∷ shown_text former.shown ∷ []

lack_row : (c : ℕ) → c < 45 → (row : Row) → AllByRecursion (Lacks c) (row_words row)
lack_row c l row = (Lacks-decimal c (omega arith) row.window, (Lacks-decimal c (omega arith) row.low, (lacks_end c l row.high, (Lacks-decimal c (omega arith) row.number, (lacks_shown c l row.shown, tt)))))

lack_bare : (c : ℕ) → c < 45 → (row : Row) → AllByRecursion (Lacks c) (bare_words row)
lack_bare c l row = (Lacks-decimal c (omega arith) row.window, (Lacks-decimal c (omega arith) row.low, (lacks_end c l row.high, tt)))

lack_updated : (c : ℕ) → c < 45 → (row : Row) (former : Former) → AllByRecursion (Lacks c) (updated_words row former)
lack_updated c l row former = (
  Lacks-decimal c (omega arith) row.window,
  (
    Lacks-decimal c (omega arith) row.low,
    (
      lacks_end c l row.high,
      (
        Lacks-decimal c (omega arith) row.number,
        (
          lacks_shown c l row.shown,
          (Lacks-decimal c (omega arith) former.number, (lacks_shown c l former.shown, tt)),
        ),
      ),
    ),
  ),
)

-- ---- what can be told
pub record IsTellable (row : Row) : Type 0 where
  pub key : is_key row.key ≡ true
  pub window : IsShort row.window
  pub low : IsShort row.low
  pub high : IsShort row.high
  pub number : IsShort row.number
  pub shown : IsShortShown row.shown

record IsTellableFormer (former : Former) : Type 0 where
  number : IsShort former.number
  shown : IsShortShown former.shown

small : (n k : ℕ) → k ≤ 10 ^ 64 → nat_lt n k ≡ true → IsShort n
small n k l h = let t : n < k = ltb-true n k h in omega (arith, t, l)

wide_is_short : (z : ℤ) → is_wide z ≡ true → IsShortSigned z
wide_is_short (pos n) h = small n (2 ^ 127) (omega arith) h
wide_is_short (negsuc n) h = let t : n < 2 ^ 127 = ltb-true n (2 ^ 127) h in omega (arith, t)

shown_is_short : (shown : Shown) → is_shown_fit shown ≡ true → IsShortShown shown
shown_is_short (Whole z) h = wide_is_short z h
shown_is_short (Ratio z n) h = let both : (is_wide z ≡ true) × (nat_lt n (2 ^ 64) ≡ true) = and_parts (is_wide z) (nat_lt n (2 ^ 64)) h in (wide_is_short z both.0, small n (2 ^ 64) (omega arith) both.1)

pub record RowParts (row : Row) : Type 0 where
  pub key : is_key row.key ≡ true
  pub window : nat_lt row.window (2 ^ 32) ≡ true
  pub low : nat_lt row.low (2 ^ 64) ≡ true
  pub high : nat_lt row.high (2 ^ 64) ≡ true
  pub number : nat_lt row.number (2 ^ 64) ≡ true
  pub shown : is_shown_fit row.shown ≡ true

pub row_parts : (row : Row) → is_row_fit row ≡ true → RowParts row
row_parts row h =
    let a : (is_key row.key ≡ true) × ((nat_lt row.window (2 ^ 32) && (nat_lt row.low (2 ^ 64) && (nat_lt row.high (2 ^ 64) && (nat_lt row.number (2 ^ 64) && is_shown_fit row.shown)))) ≡ true) = and_parts (is_key row.key) _ h in
    let b : (nat_lt row.window (2 ^ 32) ≡ true) × ((nat_lt row.low (2 ^ 64) && (nat_lt row.high (2 ^ 64) && (nat_lt row.number (2 ^ 64) && is_shown_fit row.shown))) ≡ true) = and_parts (nat_lt row.window (2 ^ 32)) _ a.1 in
    let c : (nat_lt row.low (2 ^ 64) ≡ true) × ((nat_lt row.high (2 ^ 64) && (nat_lt row.number (2 ^ 64) && is_shown_fit row.shown)) ≡ true) = and_parts (nat_lt row.low (2 ^ 64)) _ b.1 in
    let e : (nat_lt row.high (2 ^ 64) ≡ true) × ((nat_lt row.number (2 ^ 64) && is_shown_fit row.shown) ≡ true) = and_parts (nat_lt row.high (2 ^ 64)) _ c.1 in
    let f : (nat_lt row.number (2 ^ 64) ≡ true) × (is_shown_fit row.shown ≡ true) = and_parts (nat_lt row.number (2 ^ 64)) (is_shown_fit row.shown) e.1 in
    record { key = a.0; window = b.0; low = c.0; high = e.0; number = f.0; shown = f.1 }

pub row_fits : (row : Row) → RowParts row → is_row_fit row ≡ true
row_fits row h =
    and_from (is_key row.key) _ h.key
    (and_from (nat_lt row.window (2 ^ 32)) _ h.window
    (and_from (nat_lt row.low (2 ^ 64)) _ h.low
    (and_from (nat_lt row.high (2 ^ 64)) _ h.high
    (and_from (nat_lt row.number (2 ^ 64)) (is_shown_fit row.shown) h.number h.shown))))

tellable : (row : Row) → is_row_fit row ≡ true → IsTellable row
tellable row h =
    let p : RowParts row = row_parts row h in
    record {
      key = p.key;
      window = small row.window (2 ^ 32) (omega arith) p.window;
      low = small row.low (2 ^ 64) (omega arith) p.low;
      high = small row.high (2 ^ 64) (omega arith) p.high;
      number = small row.number (2 ^ 64) (omega arith) p.number;
      shown = shown_is_short row.shown p.shown;
    }

tellable_former : (former : Former) → is_former_fit former ≡ true → IsTellableFormer former
tellable_former former h =
    let both : (nat_lt former.number (2 ^ 64) ≡ true) × (is_shown_fit former.shown ≡ true) = and_parts (nat_lt former.number (2 ^ 64)) (is_shown_fit former.shown) h in
    record { number = small former.number (2 ^ 64) (omega arith) both.0; shown = shown_is_short former.shown both.1 }

abbrev IsTellableChange : Change → Type 0
IsTellableChange (Gone row) = IsTellable row
IsTellableChange (New row) = IsTellable row
IsTellableChange (Again row former) = IsTellable row × IsTellableFormer former
IsTellableChange Dropped = Unit {0}

tellable_change : (c : Change) → is_change_fit c ≡ true → IsTellableChange c
tellable_change (Gone row) h = tellable row h
tellable_change (New row) h = tellable row h
tellable_change (Again row former) h =
    let both : (is_row_fit row ≡ true) × (is_former_fit former ≡ true) = and_parts (is_row_fit row) (is_former_fit former) h in
    (tellable row both.0, tellable_former former both.1)
tellable_change Dropped h = tt

abbrev bare : Row → Row
bare row = record row { number = 0; shown = Whole (pos 0) }

-- what a line tells of a change
abbrev pub told : Bool → Change → Change
told full (Gone row) = cond full (Gone row) (Gone (bare row))
told full (New row) = New row
told full (Again row former) = cond full (Again row former) (Again row untold)
told full Dropped = Dropped

-- its numbers fit too
bare_fits : (row : Row) → is_row_fit row ≡ true → is_row_fit (bare row) ≡ true
bare_fits row h =
    let p : RowParts row = row_parts row h in
    row_fits (bare row) (record { key = p.key; window = p.window; low = p.low; high = p.high; number = refl; shown = refl })

told_fits : (full : Bool) (c : Change) → is_change_fit c ≡ true → is_change_fit (told full c) ≡ true
told_fits true (Gone row) h = h
told_fits false (Gone row) h = bare_fits row h
told_fits full (New row) h = h
told_fits true (Again row former) h = h
told_fits false (Again row former) h = and_from (is_row_fit row) (is_former_fit untold) (and_parts (is_row_fit row) (is_former_fit former) h).0 refl
told_fits full Dropped h = h

-- it is enough
pub same_step : (full : Bool) (rows : List Row) (c : Change) → after_change rows (told full c) ≡ after_change rows c
same_step true rows (Gone row) = refl
same_step false rows (Gone row) = refl
same_step full rows (New row) = refl
same_step true rows (Again row former) = refl
same_step false rows (Again row former) = refl
same_step full rows Dropped = refl

row_read : (row : Row) → IsTellable row → row_in (words 5 (joined_by (row_words row) row.key)) ≡ row
row_read row h =
    ap row_in (words_read (row_words row) row.key (lack_row 32 (omega arith) row))
    ∙ (λ i. record { window = number_read row.window h.window i; key = row.key; low = number_read row.low h.low i; high = end_read row.high h.high i; number = number_read row.number h.number i; shown = shown_read row.shown h.shown i })

bare_read : (row : Row) → IsTellable row → bare_row_in (words 3 (joined_by (bare_words row) row.key)) ≡ bare row
bare_read row h =
    ap bare_row_in (words_read (bare_words row) row.key (lack_bare 32 (omega arith) row))
    ∙ (λ i. record { window = number_read row.window h.window i; key = row.key; low = number_read row.low h.low i; high = end_read row.high h.high i; number = 0; shown = Whole (pos 0) })

updated_read : (row : Row) (former : Former) → IsTellable row → IsTellableFormer former → updated_in (words 7 (joined_by (updated_words row former) row.key)) ≡ Again row former
updated_read row former h g =
    ap updated_in (words_read (updated_words row former) row.key (lack_updated 32 (omega arith) row former))
    ∙ (λ i. Again
    (record { window = number_read row.window h.window i; key = row.key; low = number_read row.low h.low i; high = end_read row.high h.high i; number = number_read row.number h.number i; shown = shown_read row.shown h.shown i })
    (record { number = number_read former.number g.number i; shown = shown_read former.shown g.shown i }))

-- ---- the line of a change, without its line feed
abbrev fields_of : Bool → Change → List (List ℕ)
fields_of full (Gone row) = codes "-" ∷ cond full (row_words row) (bare_words row)
fields_of full (New row) = codes "+" ∷ row_words row
fields_of full (Again row former) = codes "~" ∷ cond full (updated_words row former) (row_words row)
fields_of full Dropped = []

abbrev last_of : Change → List ℕ
last_of (Gone row) = row.key
last_of (New row) = row.key
last_of (Again row former) = row.key
last_of Dropped = codes "x"

abbrev pub change_text : Bool → Change → List ℕ
change_text full c = joined_by (fields_of full c) (last_of c)

pub line_is : (full : Bool) (c : Change) → (form_of full).line c ≡ change_text full c ++ 10 ∷ []
line_is true (Gone row) = line_joined (codes "-" ∷ row_words row) row.key
line_is false (Gone row) = line_joined (codes "-" ∷ bare_words row) row.key
line_is true (New row) = line_joined (codes "+" ∷ row_words row) row.key
line_is false (New row) = line_joined (codes "+" ∷ row_words row) row.key
line_is true (Again row former) = line_joined (codes "~" ∷ updated_words row former) row.key
line_is false (Again row former) = line_joined (codes "~" ∷ row_words row) row.key
line_is true Dropped = refl
line_is false Dropped = refl

told_line : (full : Bool) (c : Change) → (form_of full).line (told full c) ≡ change_text full c ++ 10 ∷ []
told_line true (Gone row) = line_is true (Gone row)
told_line false (Gone row) = line_is false (Gone row)
told_line full (New row) = line_is full (New row)
told_line true (Again row former) = line_is true (Again row former)
told_line false (Again row former) = line_is false (Again row former)
told_line full Dropped = line_is full Dropped

guessed : (full : Bool) (c : Change) → IsTellableChange c → guessed_change full (word (change_text full c)) (after_word (change_text full c)) ≡ told full c
guessed true (Gone row) h = ap Gone (row_read row h)
guessed false (Gone row) h = ap Gone (bare_read row h)
guessed true (New row) h = ap New (row_read row h)
guessed false (New row) h = ap New (row_read row h)
guessed true (Again row former) h = updated_read row former h.0 h.1
guessed false (Again row former) h = ap (λ r. Again r untold) (row_read row h.0)
guessed true Dropped h = refl
guessed false Dropped h = refl

checked : Bool → List ℕ → Change → Option Change
checked full line c = cond (bytes_eq ((form_of full).line c) (line ++ 10 ∷ []) && is_change_fit c) (Some c) None

pub change_read : (full : Bool) (c : Change) → is_change_fit c ≡ true → change_in full (change_text full c) ≡ Some (told full c)
unfolding checked
change_read full c h =
    ap (checked full (change_text full c)) (guessed full c (tellable_change c h))
    ∙ cond-true _ _ _ (and_from _ _ ((bytes_eq-Decides ((form_of full).line (told full c)) (change_text full c ++ 10 ∷ [])).1 (told_line full c)) (told_fits full c h))

one_text : (full : Bool) (c : Change) → IsTellableChange c → Lacks 10 (change_text full c)
one_text true (Gone row) h = lacks_joined 10 (codes "-" ∷ row_words row) row.key refl ((refl, tt), lack_row 10 (omega arith) row) (Lacks-key row.key h.key)
one_text false (Gone row) h = lacks_joined 10 (codes "-" ∷ bare_words row) row.key refl ((refl, tt), lack_bare 10 (omega arith) row) (Lacks-key row.key h.key)
one_text true (New row) h = lacks_joined 10 (codes "+" ∷ row_words row) row.key refl ((refl, tt), lack_row 10 (omega arith) row) (Lacks-key row.key h.key)
one_text false (New row) h = lacks_joined 10 (codes "+" ∷ row_words row) row.key refl ((refl, tt), lack_row 10 (omega arith) row) (Lacks-key row.key h.key)
one_text true (Again row former) h = lacks_joined 10 (codes "~" ∷ updated_words row former) row.key refl ((refl, tt), lack_updated 10 (omega arith) row former) (Lacks-key row.key h.0.key)
one_text false (Again row former) h = lacks_joined 10 (codes "~" ∷ row_words row) row.key refl ((refl, tt), lack_row 10 (omega arith) row) (Lacks-key row.key h.0.key)
one_text true Dropped h = (refl, tt)
one_text false Dropped h = (refl, tt)

pub one_line : (full : Bool) (c : Change) → is_change_fit c ≡ true → Lacks 10 (change_text full c)
one_line full c h = one_text full c (tellable_change c h)
