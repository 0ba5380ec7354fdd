-- An entry is read back from its line, and a header is told from other lines.
use Rattle.std.proofs.Common.{◌≡◌, ℕ, ◌^◌, ◌<◌, ◌≤◌, eqb, leb, ltb, Bool, true, false, cond, not, List, [], ◌∷◌, ◌++◌, refl, ap, ◌∙◌, arith, append_assoc}
use Rattle.std.proofs.lemmas.Bool.{and_parts, leb-true, ltb-true, lt-ltb, and_from, cond-true, cond-false}
use Rattle.std.proofs.lemmas.Bool.Decides.{nat_tests}
use Rattle.std.proofs.lemmas.Slice.Eq.{bytes_eq-Decides}
use Rattle.std.specs.List.{list_any}
use Rattle.std.specs.Option.{option_map_or}
use Rattle.std.specs.Str.{bytes_eq}
use Rattle.std.specs.Prelude.{ℤ, codes, decimal, Option, None, Some, ◌&&◌}
use Rattle.std.specs.Fmt.{signed_decimal}
use Rattle.stream_base.specs.Key.{is_control, is_key}
use Rattle.stream_base.specs.declared.limits.TheConstants.{TIME_MAX}
use Rattle.stream_base.specs.declared.entry.Entry.{Entry}
use Rattle.stream_base.specs.declared.what.What.{What}
use Rattle.stream_base.specs.declared.what.What.TheVariants.{Tuple, Mark, Water, Idle, End}
use Rattle.stream_base.specs.Model.Text.{entry_line, line_of}
use Rattle.stream_base.specs.Model.What.{what_fields, is_what_within}
use Rattle.stream_base.specs.Model.Journals.{word, after_word, number_in, signed_in, is_entry_within, guessed_what, guessed_entry, entry_in, is_header, after_line, with_entry}
use Rattle.stream_base.specs.Limits.{is_value}
use Rattle.report_laws.specs.ReadBack.{is_other_line}
use Rattle.report_laws.proofs.ReadBackLines.{Lacks, Lacks-append}
use Rattle.report_laws.proofs.ReadBackWords.{word-space, after_word-space, number_in-decimal, signed_in-decimal, Lacks-decimal, Lacks-signed_decimal}

-- what stands in an entry's line behind its source, and the line without its line feed
abbrev pub what_text : What → List ℕ
what_text (Tuple key time value) = codes "t" ++ (32 ∷ (decimal time ++ (32 ∷ (signed_decimal value ++ (32 ∷ key)))))
what_text (Mark key time) = codes "m" ++ (32 ∷ (decimal time ++ (32 ∷ key)))
what_text (Water time) = codes "w" ++ (32 ∷ decimal time)
what_text Idle = codes "i"
what_text End = codes "e"

abbrev pub source_text : ℕ → What → List ℕ
source_text source what = codes "j" ++ (32 ∷ (decimal source ++ (32 ∷ what_text what)))

abbrev pub entry_text : Entry → List ℕ
entry_text e = source_text e.source e.what

abbrev pub header_text : ℕ → List ℕ
header_text k = codes "shard" ++ (32 ∷ decimal k)

-- each of them with its line feed
source_line : (source : ℕ) (what : What) → line_of (decimal source ∷ what_fields what) ≡ (decimal source ++ (32 ∷ what_text what)) ++ 10 ∷ []
source_line source (Tuple key time value) = simp append_assoc
source_line source (Mark key time) = simp append_assoc
source_line source (Water time) = simp append_assoc
source_line source Idle = simp append_assoc
source_line source End = simp append_assoc

pub entry_line-is : (e : Entry) → entry_line e ≡ entry_text e ++ 10 ∷ []
entry_line-is e = ap (λ (text : List ℕ). 106 ∷ 32 ∷ text) (source_line e.source e.what)

-- an entry's time is small, and its key has no line feed
time_small : (time : ℕ) (more : Bool) → (leb time TIME_MAX && more) ≡ true → time < 2 ^ 64
time_small time more h = let l : time ≤ TIME_MAX = leb-true time TIME_MAX (and_parts _ _ h).0 in omega arith

no_line_feed : (key : List ℕ) → list_any is_control key ≡ false → Lacks 10 key
no_line_feed [] h = tt
no_line_feed (x ∷ key) h = (grind (arith, nat_tests), no_line_feed key (grind (arith, nat_tests)))

pub Lacks-key : (key : List ℕ) → is_key key ≡ true → Lacks 10 key
Lacks-key key h = no_line_feed key (grind arith)

same_tuple : (k l : List ℕ) (s t : ℕ) (v w : ℤ) → k ≡ l → s ≡ t → v ≡ w → Tuple k s v ≡ Tuple l t w
same_tuple k l s t v w e f g = cc

same_mark : (k l : List ℕ) (s t : ℕ) → k ≡ l → s ≡ t → Mark k s ≡ Mark l t
same_mark k l s t e f = cc

same_entry : (s t : ℕ) (v w : What) → s ≡ t → v ≡ w → ◌≡◌ {A = Entry} (record { source = s; what = v }) (record { source = t; what = w })
same_entry s t v w e f = cc

-- what an entry says is read back
guessed_what-is : (what : What) → is_what_within what ≡ true → guessed_what (word (what_text what)) (after_word (what_text what)) ≡ what
guessed_what-is (Tuple key time value) h =
    let rest = signed_decimal value ++ (32 ∷ key) in
    let plain = Lacks-decimal 32 (omega arith) time in
    let signed = Lacks-signed_decimal 32 (omega arith) value in
    let behind : after_word (decimal time ++ (32 ∷ rest)) ≡ rest = after_word-space (decimal time) rest plain in
    let is_value_within : is_value value ≡ true = (and_parts _ _ (and_parts _ _ h).1).0 in
    same_tuple _ _ _ _ _ _
    (ap after_word behind ∙ after_word-space (signed_decimal value) key signed)
    (ap number_in (word-space (decimal time) rest plain) ∙ number_in-decimal time (time_small time _ h))
    (ap (λ (text : List ℕ). signed_in (word text)) behind ∙ (ap signed_in (word-space (signed_decimal value) key signed) ∙ signed_in-decimal value is_value_within))
guessed_what-is (Mark key time) h =
    let plain = Lacks-decimal 32 (omega arith) time in
    same_mark _ _ _ _
    (after_word-space (decimal time) key plain)
    (ap number_in (word-space (decimal time) key plain) ∙ number_in-decimal time (time_small time _ h))
guessed_what-is (Water time) h = ap Water (number_in-decimal time (time_small time true (and_from _ true h refl)))
guessed_what-is Idle h = refl
guessed_what-is End h = refl

-- and so is its source
source_plain : (source : ℕ) → Lacks 32 (decimal source)
source_plain source = Lacks-decimal 32 (omega arith) source

pub guessed_entry-is : (e : Entry) → is_entry_within e ≡ true → guessed_entry (entry_text e) ≡ e
guessed_entry-is e h =
    let plain = source_plain e.source in
    let few : e.source < 2 ^ 16 = ltb-true e.source (2 ^ 16) (and_parts _ _ h).0 in
    let behind = after_word-space (decimal e.source) (what_text e.what) plain in
    same_entry _ e.source _ e.what
    (ap number_in (word-space (decimal e.source) (what_text e.what) plain) ∙ number_in-decimal e.source (omega arith))
    (ap (λ (text : List ℕ). guessed_what (word text) (after_word text)) behind ∙ guessed_what-is e.what (and_parts _ _ h).1)

-- an entry that is guessed of its own line is what the line holds
checked : List ℕ → Entry → Option Entry
checked line e = cond (bytes_eq (entry_line e) (line ++ 10 ∷ []) && is_entry_within e) (Some e) None

checked-own : (e : Entry) → is_entry_within e ≡ true → checked (entry_text e) e ≡ Some e
unfolding checked
checked-own e h =
    let t : (bytes_eq (entry_line e) (entry_text e ++ 10 ∷ []) && is_entry_within e) ≡ true = and_from _ _ ((bytes_eq-Decides (entry_line e) (entry_text e ++ 10 ∷ [])).1 (entry_line-is e)) h in
    cond-true _ _ _ t

pub entry_in-entry_text : (e : Entry) → is_entry_within e ≡ true → entry_in (entry_text e) ≡ Some e
unfolding checked
entry_in-entry_text e h = ap (checked (entry_text e)) (guessed_entry-is e h) ∙ checked-own e h

-- a header is a header
pub is_header-header_text : (k : ℕ) → k < 2 ^ 64 → is_header (header_text k) ≡ true
is_header-header_text k h =
    let e : number_in (after_word (header_text k)) ≡ k = number_in-decimal k h in
    let t : (bytes_eq (line_of (codes "shard" ∷ decimal k ∷ [])) (header_text k ++ 10 ∷ []) && ltb k (2 ^ 64)) ≡ true = and_from _ _ ((bytes_eq-Decides (line_of (codes "shard" ∷ decimal k ∷ [])) (header_text k ++ 10 ∷ [])).1 refl) (lt-ltb k (2 ^ 64) h) in
    ap (λ (n : ℕ). bytes_eq (line_of (codes "shard" ∷ decimal n ∷ [])) (header_text k ++ 10 ∷ []) && ltb n (2 ^ 64)) e ∙ t

-- an entry's line is none, and another line is neither
pub is_header-entry_text : (e : Entry) → is_header (entry_text e) ≡ false
is_header-entry_text e = refl

apart : (x y : ℕ) → not (eqb x y) ≡ true → eqb y x ≡ false
apart x y h = grind (arith, nat_tests)

pub is_header-other : (line : List ℕ) → is_other_line line ≡ true → is_header line ≡ false
is_header-other [] h = refl
is_header-other (x ∷ line) h = let t : eqb 115 x ≡ false = apart x 115 (and_parts _ _ h).0 in rw t refl

pub entry_in-other : (line : List ℕ) → is_other_line line ≡ true → entry_in line ≡ None
entry_in-other [] h = refl
entry_in-other (x ∷ line) h = let t : eqb 106 x ≡ false = apart x 106 (and_parts _ _ h).1 in rw t refl

-- so another line is passed over, an entry's line adds the entry, and a header begins a journal
pub after_line-other : (journals : List (List Entry)) (line : List ℕ) → is_other_line line ≡ true → after_line journals line ≡ journals
after_line-other journals line h =
    cond-false (is_header line) (journals ++ [] ∷ []) _ (is_header-other line h) ∙ ap (λ (found : Option Entry). option_map_or (with_entry journals) found journals) (entry_in-other line h)

pub after_line-entry_text : (journals : List (List Entry)) (e : Entry) → is_entry_within e ≡ true → after_line journals (entry_text e) ≡ with_entry journals e
after_line-entry_text journals e h = ap (λ (found : Option Entry). option_map_or (with_entry journals) found journals) (entry_in-entry_text e h)

pub after_line-header_text : (journals : List (List Entry)) (k : ℕ) → k < 2 ^ 64 → after_line journals (header_text k) ≡ journals ++ [] ∷ []
after_line-header_text journals k h = cond-true (is_header (header_text k)) (journals ++ [] ∷ []) _ (is_header-header_text k h)

-- neither text has a line feed within
Lacks-what_text : (what : What) → is_what_within what ≡ true → Lacks 10 (what_text what)
Lacks-what_text (Tuple key time value) h =
    let both : (is_value value && is_key key) ≡ true = (and_parts (leb time TIME_MAX) (is_value value && is_key key) h).1 in
    let is_key_within : is_key key ≡ true = (and_parts (is_value value) (is_key key) both).1 in
    (refl, (refl, Lacks-append 10 (decimal time) (32 ∷ (signed_decimal value ++ (32 ∷ key))) (Lacks-decimal 10 (omega arith) time) (refl, Lacks-append 10 (signed_decimal value) (32 ∷ key) (Lacks-signed_decimal 10 (omega arith) value) (refl, Lacks-key key is_key_within))))
Lacks-what_text (Mark key time) h = (refl, (refl, Lacks-append 10 (decimal time) (32 ∷ key) (Lacks-decimal 10 (omega arith) time) (refl, Lacks-key key (and_parts _ _ h).1)))
Lacks-what_text (Water time) h = (refl, (refl, Lacks-decimal 10 (omega arith) time))
Lacks-what_text Idle h = (refl, tt)
Lacks-what_text End h = (refl, tt)

pub Lacks-entry_text : (e : Entry) → is_entry_within e ≡ true → Lacks 10 (entry_text e)
Lacks-entry_text e h = (refl, (refl, Lacks-append 10 (decimal e.source) (32 ∷ what_text e.what) (Lacks-decimal 10 (omega arith) e.source) (refl, Lacks-what_text e.what (and_parts _ _ h).1)))

pub Lacks-header_text : (k : ℕ) → Lacks 10 (header_text k)
Lacks-header_text k = (refl, (refl, (refl, (refl, (refl, (refl, Lacks-decimal 10 (omega arith) k))))))
