-- Records of events are read back.
use Rattle.std.proofs.Common.{◌≡◌, ◌∙◌, ℕ, zero, suc, ◌+◌, ◌-◌, ◌^◌, ◌<◌, ◌≤◌, eqb, leb, Bool, true, false, cond, List, [], ◌∷◌, ◌++◌, length, map, ap, sym, refl, arith, Option, None, Some, Ok, Err}
use Rattle.std.specs.Prelude.{◌&&◌, ℤ, pos, negsuc, neg_ℤ, codes, decimal, is_none, nat_le}
use Rattle.std.specs.Char.{is_ascii_digit}
use Rattle.std.specs.Fmt.{signed_decimal}
use Rattle.std.specs.List.{AllByRecursion, flat_map, list_all}
use Rattle.std.proofs.lemmas.Bool.{and_from, and_parts, false≢true, leb-true, le-leb, lt-ltb}
use Rattle.std.proofs.lemmas.Bool.Decides.{nat_tests}
use Rattle.std.proofs.lemmas.List.{length-append}
use Rattle.std.proofs.lemmas.Fmt.{decimal_nonempty, length-decimal-le}
use Rattle.csv.specs.Machine.{next_record}
use Rattle.csv.specs.Reading.{default_config, records, records_from, records_next, strip_bom}
use Rattle.csv.specs.Records.{field_at}
use Rattle.csv.specs.declared.parser.State.TheVariants as st
use Rattle.csv.proofs.RoundTrip.{read-write-many}
use Rattle.stream_base.specs.declared.key_text.KeyFault.{KeyFault}
use Rattle.stream_base.specs.declared.limits.TheConstants.{TIME_MAX}
use Rattle.stream_base.specs.declared.what.What.{What}
use Rattle.stream_base.specs.declared.what.What.TheVariants.{Tuple, Mark, Water, Idle, End}
use Rattle.stream_base.specs.Key.{is_key, key_fault}
use Rattle.stream_base.specs.Limits.{is_value}
use Rattle.stream_base.specs.Model.Journals.{number_in}
use Rattle.source_feed.specs.EventsLeft.{IsInnerEvent}
use Rattle.source_feed.specs.Events.{events_from, events_of, stream_of, stream_by, with_record, with_watermarks}
use Rattle.source_feed.specs.Record.{as_key, as_time, below_zero, from_zero, is_header, key_in, parse_number, time_in, value_in, what_of}
use Rattle.source_feed.specs.RowsView.{AreInner}
use Rattle.source_feed.specs.Stream.{entry_of}
use Rattle.source_feed.specs.declared.row_why.RowWhy.TheVariants.{Time, Value}
use Rattle.report_laws.proofs.ReadBackWords.{all_digits, number_in-decimal}
use Rattle.part_laws.specs.Parts.{event_text, is_woken, record_of, source_text}
use Rattle.part_laws.proofs.Waking.{nothing_added}

-- ---- numbers
all_pass : (p : ℕ → Bool) (xs : List ℕ) → AllByRecursion (λ x. p x ≡ true) xs → list_all p xs ≡ true
all_pass p [] h = refl
all_pass p (x ∷ xs) h = and_from (p x) (list_all p xs) h.0 (all_pass p xs h.1)

digits_pass : (n : ℕ) → list_all is_ascii_digit (decimal n) ≡ true
digits_pass n = all_pass is_ascii_digit (decimal n) (all_digits (λ b. is_ascii_digit b ≡ true) (λ d l. grind (arith, nat_tests)) n)

parsed : (n : ℕ) → n < 10 ^ 19 → n < 2 ^ 64 → parse_number (decimal n) ≡ Some n
parsed n h g =
    let some : 1 ≤ length (decimal n) = decimal_nonempty n g in
    let few : length (decimal n) ≤ 19 = length-decimal-le 19 n (omega arith) h g in
    let t : ((leb 1 (length (decimal n)) && leb (length (decimal n)) 19) && list_all is_ascii_digit (decimal n)) ≡ true
    = and_from (leb 1 (length (decimal n)) && leb (length (decimal n)) 19) (list_all is_ascii_digit (decimal n))
    (and_from (leb 1 (length (decimal n))) (leb (length (decimal n)) 19) (le-leb 1 (length (decimal n)) some) (le-leb (length (decimal n)) 19 few))
    (digits_pass n) in
    ap (λ b. cond b (Some (number_in (decimal n))) None) t ∙ ap Some (number_in-decimal n g)

time_read : (n : ℕ) → nat_le n TIME_MAX ≡ true → time_in (decimal n) ≡ Ok n
time_read n h =
    let l : n ≤ TIME_MAX = leb-true n TIME_MAX h in
    ap as_time (parsed n (omega arith) (omega arith)) ∙ ap (λ b. cond b (Ok n) (Err Time)) h

plain_value : (ds : List ℕ) → 1 ≤ length ds → AllByRecursion (λ b. (eqb b 45 ≡ false) × (eqb b 43 ≡ false)) ds → value_in ds ≡ from_zero (parse_number ds)
plain_value [] some h = absurd (omega arith)
plain_value (d ∷ ds) some h = let e : eqb d 45 ≡ false = h.0.0 in let f : eqb d 43 ≡ false = h.0.1 in rw (e, f) refl

value_read : (v : ℤ) → is_value v ≡ true → value_in (signed_decimal v) ≡ Ok v
value_read (pos n) h =
    let l : n ≤ 2 ^ 63 - 1 = leb-true n (2 ^ 63 - 1) h in
    let g : n < 2 ^ 64 = omega arith in
    plain_value (decimal n) (decimal_nonempty n g) (all_digits (λ b. (eqb b 45 ≡ false) × (eqb b 43 ≡ false)) (λ d l. (grind (arith, nat_tests), grind (arith, nat_tests))) n)
    ∙ ap from_zero (parsed n (omega arith) g)
    ∙ ap (λ b. cond b (Ok (pos n)) (Err Value)) (lt-ltb n (2 ^ 63) (omega arith))
value_read (negsuc n) h =
    let l : n ≤ 2 ^ 63 - 1 = leb-true n (2 ^ 63 - 1) (and_parts _ true h).0 in
    ap below_zero (parsed (suc n) (omega arith) (omega arith))
    ∙ ap (λ b. cond b (Ok (neg_ℤ (pos (suc n)))) (Err Value)) (le-leb (suc n) (2 ^ 63) (omega arith))

key_read : (key : List ℕ) → is_key key ≡ true → key_in key ≡ Ok key
key_read key h = by (key_fault key) h
  where
    by : (o : Option KeyFault) → is_none o ≡ true → as_key o key ≡ Ok key
    by None g = refl
    by (Some fault) g = absurd (false≢true g)

-- ---- records
pub record_read : (what : What) → IsInnerEvent what → what_of (record_of what) ≡ Ok what
unfolding field_at
record_read (Tuple key time value) h =
    let t : nat_le time TIME_MAX ≡ true = (and_parts (nat_le time TIME_MAX) (is_value value && is_key key) h.within).0 in
    let both : (is_value value && is_key key) ≡ true = (and_parts (nat_le time TIME_MAX) (is_value value && is_key key) h.within).1 in
    rw (time_read time t, value_read value (and_parts (is_value value) (is_key key) both).0, key_read key (and_parts (is_value value) (is_key key) both).1) refl
record_read (Mark key time) h =
    let t : nat_le time TIME_MAX ≡ true = (and_parts (nat_le time TIME_MAX) (is_key key) h.within).0 in
    rw (time_read time t, key_read key (and_parts (nat_le time TIME_MAX) (is_key key) h.within).1) refl
record_read (Water time) h = rw (time_read time h.within) refl
record_read Idle h = refl
record_read End h = absurd (false≢true (sym h.inner))

no_header : (what : What) → is_header (record_of what) ≡ false
unfolding field_at
no_header (Tuple key time value) = refl
no_header (Mark key time) = refl
no_header (Water time) = refl
no_header Idle = refl
no_header End = refl

events_read : (n : ℕ) (events : List What) → AreInner events → events_from n (map record_of events) ≡ record { events = events; refusal = None }
unfolding events_from
events_read n [] h = refl
events_read n (what ∷ later) h =
    ap (λ r. with_record n r (events_from (n + 1) (map record_of later))) (record_read what h.0) ∙ ap (with_record n (Ok what)) (events_read (n + 1) later h.1)

all_events_read : (events : List What) → AreInner events → events_of (map record_of events) ≡ record { events = events; refusal = None }
all_events_read [] h = events_read 1 [] h
all_events_read (what ∷ later) h =
    ap (λ b. cond b (events_from 2 (map record_of later)) (events_from 1 (record_of what ∷ map record_of later))) (no_header what) ∙ events_read 1 (what ∷ later) h

-- ---- text
abbrev texts : List What → List ℕ
texts events = flat_map event_text events

record_next : (what : What) → IsInnerEvent what → (tail : List ℕ) → next_record default_config st.StartRecord [] [] (event_text what ++ tail) ≡ Some (record_of what, st.StartRecord, tail)
record_next (Tuple key time value) h tail = read-write-many (codes "t") (decimal time) (signed_decimal value ∷ key ∷ []) tail
record_next (Mark key time) h tail = read-write-many (codes "m") (decimal time) ([] ∷ key ∷ []) tail
record_next (Water time) h tail = read-write-many (codes "w") (decimal time) ([] ∷ [] ∷ []) tail
record_next Idle h tail = read-write-many (codes "i") [] ([] ∷ [] ∷ []) tail
record_next End h tail = absurd (false≢true (sym h.inner))

nothing_next : next_record default_config st.StartRecord [] [] [] ≡ None
unfolding next_record
nothing_next = refl

records_read : (n : ℕ) (events : List What) → AreInner events → length events ≤ n → records_from default_config n st.StartRecord (texts events) ≡ map record_of events
unfolding records_from
records_read zero [] h l = refl
records_read (suc n) [] h l = ap (records_next (records_from default_config n)) nothing_next
records_read zero (what ∷ later) h l = absurd (omega arith)
records_read (suc n) (what ∷ later) h l =
    ap (records_next (records_from default_config n)) (record_next what h.0 (texts later)) ∙ ap (λ rs. record_of what ∷ rs) (records_read n later h.1 (omega arith))

-- the text of an event begins with its letter
letter_of : What → ℕ
letter_of (Tuple key time value) = 116
letter_of (Mark key time) = 109
letter_of (Water time) = 119
letter_of Idle = 105
letter_of End = 101

begins : (what : What) → IsInnerEvent what → (rest : List ℕ) × (event_text what ≡ letter_of what ∷ rest)
unfolding letter_of
begins (Tuple key time value) h = (_, refl)
begins (Mark key time) h = (_, refl)
begins (Water time) h = (_, refl)
begins Idle h = (_, refl)
begins End h = absurd (false≢true (sym h.inner))

long_enough : (events : List What) → AreInner events → length events ≤ length (texts events)
long_enough [] h = omega arith
long_enough (what ∷ later) h =
    let b : (rest : List ℕ) × (event_text what ≡ letter_of what ∷ rest) = begins what h.0 in
    let m : length later ≤ length (texts later) = long_enough later h.1 in
    let e : length (event_text what ++ texts later) ≡ length ((letter_of what ∷ b.0) ++ texts later) = ap (λ t. length (t ++ texts later)) b.1 in
    let l : length (b.0 ++ texts later) ≡ length b.0 + length (texts later) = length-append b.0 (texts later) in
    omega arith

no_bom : (a : ℕ) (xs : List ℕ) → eqb a 239 ≡ false → strip_bom (a ∷ xs) ≡ a ∷ xs
unfolding strip_bom
no_bom a [] h = refl
no_bom a (b ∷ []) h = refl
no_bom a (b ∷ c ∷ xs) h = rw h refl

letter_low : (what : What) → eqb (letter_of what) 239 ≡ false
unfolding letter_of
letter_low (Tuple key time value) = refl
letter_low (Mark key time) = refl
letter_low (Water time) = refl
letter_low Idle = refl
letter_low End = refl

texts_begin : (events : List What) → AreInner events → strip_bom (texts events) ≡ texts events
unfolding strip_bom
texts_begin [] h = refl
texts_begin (what ∷ later) h =
    let b : (rest : List ℕ) × (event_text what ≡ letter_of what ∷ rest) = begins what h.0 in
    let e : event_text what ++ texts later ≡ letter_of what ∷ (b.0 ++ texts later) = ap (λ t. t ++ texts later) b.1 in
    ap strip_bom e ∙ no_bom (letter_of what) (b.0 ++ texts later) (letter_low what) ∙ sym e

source_texts : (source : ℕ) (events : List What) → source_text (map (entry_of source) (events ++ End ∷ [])) ≡ texts events
source_texts source [] = refl
source_texts source (what ∷ later) = ap (λ t. event_text what ++ t) (source_texts source later)

pub events_read_back : (source disorder : ℕ) (events : List What) → AreInner events → is_woken false events ≡ true
    → stream_of source 0 disorder (source_text (map (entry_of source) (events ++ End ∷ []))) ≡ record { entries = map (entry_of source) (events ++ End ∷ []); refusal = None }
events_read_back source disorder events h w =
    let rows : records default_config (strip_bom (texts events)) ≡ map record_of events
    = ap (records default_config) (texts_begin events h) ∙ records_read (length (texts events) + 1) events h (omega (arith, long_enough events h)) in
    let read : events_of (records default_config (strip_bom (texts events))) ≡ record { events = events; refusal = None } = ap events_of rows ∙ all_events_read events h in
    ap (stream_of source 0 disorder) (source_texts source events)
    ∙ ap (stream_by source 0 disorder) read
    ∙ told_as (nothing_added disorder [] events w)
  where
    told_as : with_watermarks 0 disorder [] events ≡ events → stream_by source 0 disorder (record { events = events; refusal = None }) ≡ record { entries = map (entry_of source) (events ++ End ∷ []); refusal = None }
    told_as e = λ i. record { entries = map (entry_of source) (e i ++ End ∷ []); refusal = None }
