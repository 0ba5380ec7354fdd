-- The part of a source for a shard is a source whose stream is the entries that go there.
use Rattle.std.proofs.Common.{◌≡◌, ◌∙◌, ℕ, zero, suc, ◌+◌, ◌-◌, ◌^◌, ◌<◌, ◌≤◌, leb, Bool, true, false, cond, List, [], ◌∷◌, ◌++◌, filter, length, map, ap, sym, refl, subst, arith, Option, None, Some, Ok, Err}
use Rattle.std.specs.Prelude.{◌&&◌, ◌||◌, ◌==◌, IfOk, Result, ℤ, pos, neg_ℤ, codes, nat_le, nat_lt}
use Rattle.std.specs.Str.{bytes_eq}
use Rattle.std.proofs.lemmas.Bool.{and_from, ltb-true, leb-true, le-leb}
use Rattle.std.proofs.lemmas.List.Elements.{filter-append}
use Rattle.csv.specs.Reading.{default_config, records, strip_bom}
use Rattle.stream_base.specs.declared.entry.Entry.{Entry}
use Rattle.stream_base.specs.declared.key_text.KeyFault.{KeyFault}
use Rattle.stream_base.specs.declared.limits.TheConstants.{TIME_MAX}
use Rattle.stream_base.specs.declared.what.What.{What}
use Rattle.stream_base.specs.declared.what.What.TheVariants.{Tuple, Mark, Water, Idle, End}
use Rattle.stream_base.specs.Key.{is_key, key_fault}
use Rattle.stream_base.specs.Limits.{is_value}
use Rattle.stream_base.specs.Model.Routes.{goes_to, routed}
use Rattle.stream_base.specs.Model.What.{is_progress}
use Rattle.stream_base.proofs.Members.{filter_map_of}
use Rattle.source_feed.specs.EventsLeft.{IsInnerEvent}
use Rattle.source_feed.specs.Events.{Events, ending, events_from, events_of, stream_of, with_record, with_watermarks}
use Rattle.source_feed.specs.Pace.{paced_over, told_by, told_from}
use Rattle.source_feed.specs.Record.{◌>>=◌, as_key, as_time, below_zero, field, from_zero, idle_of, is_empty, is_header, key_in, mark_of, parse_number, time_in, tuple_of, value_in, water_of, what_of}
use Rattle.source_feed.specs.RowsView.{AreInner}
use Rattle.source_feed.specs.Stream.{Stream, entry_of, too_long}
use Rattle.source_feed.specs.declared.pace.Pace.{Pace}
use Rattle.source_feed.specs.declared.row_why.RowWhy.{RowWhy}
use Rattle.source_feed.specs.declared.row_why.RowWhy.TheVariants.{Fields, Kind, Time, Value}
use Rattle.source_feed.proofs.Giving.{IsBounded, bounded_told, inner_told}
use Rattle.source_feed.proofs.Made.{stream_alike}
use Rattle.part_laws.specs.Parts.{part_text, source_text}
use Rattle.part_laws.proofs.Recording.{events_read_back}
use Rattle.part_laws.proofs.Waking.{all_woken, filter_woken}

-- ---- the events of records are within their limits, and none is an end
then_ok : {A B : Type 0} (P : B → Type 0) (r : Result A RowWhy) (next : A → Result B RowWhy) → ((x : A) → r ≡ Ok x → IfOk (next x) P) → IfOk (r >>= next) P
then_ok P (Ok x) next h = h x refl
then_ok P (Err why) next h = tt

either_ok : {B : Type 0} (P : B → Type 0) (b : Bool) (r s : Result B RowWhy) → IfOk r P → IfOk s P → IfOk (cond b r s) P
either_ok P true r s h g = h
either_ok P false r s h g = g

time_fits : (text : List ℕ) (time : ℕ) → time_in text ≡ Ok time → nat_le time TIME_MAX ≡ true
time_fits text time h = by (parse_number text) h
  where
    small : (n : ℕ) (b : Bool) → nat_le n TIME_MAX ≡ b → cond b (Ok n) (Err Time) ≡ Ok time → nat_le time TIME_MAX ≡ true
    small n true e g = let same : n ≡ time = cc in subst (λ m. nat_le m TIME_MAX ≡ true) same e
    small n false e g = cc

    by : (o : Option ℕ) → as_time o ≡ Ok time → nat_le time TIME_MAX ≡ true
    by None g = cc
    by (Some n) g = small n (nat_le n TIME_MAX) refl g

plus_fits : (o : Option ℕ) (value : ℤ) → from_zero o ≡ Ok value → is_value value ≡ true
plus_fits None value h = cc
plus_fits (Some n) value h = by (nat_lt n (2 ^ 63)) refl h
  where
    by : (b : Bool) → nat_lt n (2 ^ 63) ≡ b → cond b (Ok (pos n)) (Err Value) ≡ Ok value → is_value value ≡ true
    by true e g =
        let same : pos n ≡ value = cc in
        let l : n < 2 ^ 63 = ltb-true n (2 ^ 63) e in
        subst (λ v. is_value v ≡ true) same (le-leb n (2 ^ 63 - 1) (omega arith))
    by false e g = cc

minus_value : (n : ℕ) → n ≤ 2 ^ 63 → is_value (neg_ℤ (pos n)) ≡ true
minus_value zero l = refl
minus_value (suc n) l = and_from (leb n (2 ^ 63 - 1)) true (le-leb n (2 ^ 63 - 1) (omega arith)) refl

minus_fits : (o : Option ℕ) (value : ℤ) → below_zero o ≡ Ok value → is_value value ≡ true
minus_fits None value h = cc
minus_fits (Some n) value h = by (nat_le n (2 ^ 63)) refl h
  where
    by : (b : Bool) → nat_le n (2 ^ 63) ≡ b → cond b (Ok (neg_ℤ (pos n))) (Err Value) ≡ Ok value → is_value value ≡ true
    by true e g =
        let same : neg_ℤ (pos n) ≡ value = cc in
        subst (λ v. is_value v ≡ true) same (minus_value n (leb-true n (2 ^ 63) e))
    by false e g = cc

value_fits : (text : List ℕ) (value : ℤ) → value_in text ≡ Ok value → is_value value ≡ true
value_fits [] value h = cc
value_fits (sign ∷ digits) value h = by (sign == 45) (sign == 43) h
  where
    by : (b c : Bool) → cond b (below_zero (parse_number digits)) (cond c (from_zero (parse_number digits)) (from_zero (parse_number (sign ∷ digits)))) ≡ Ok value → is_value value ≡ true
    by true c g = minus_fits (parse_number digits) value g
    by false true g = plus_fits (parse_number digits) value g
    by false false g = plus_fits (parse_number (sign ∷ digits)) value g

key_fits : (text key : List ℕ) → key_in text ≡ Ok key → is_key key ≡ true
key_fits text key h = by (key_fault text) refl h
  where
    by : (o : Option KeyFault) → key_fault text ≡ o → as_key o text ≡ Ok key → is_key key ≡ true
    by None e g = let same : text ≡ key = cc in subst (λ t. is_key t ≡ true) same (rw e refl)
    by (Some fault) e g = cc

tuple_inner : (fields : List (List ℕ)) → IfOk (tuple_of fields) IsInnerEvent
tuple_inner fields =
    either_ok IsInnerEvent (length fields == 4) _ (Err Fields)
    (then_ok IsInnerEvent (time_in (field fields 1)) _ (λ time t.
    then_ok IsInnerEvent (value_in (field fields 2)) _ (λ value v.
    then_ok IsInnerEvent (key_in (field fields 3)) _ (λ key k.
    record {
      within = and_from (nat_le time TIME_MAX) (is_value value && is_key key) (time_fits (field fields 1) time t) (and_from (is_value value) (is_key key) (value_fits (field fields 2) value v) (key_fits (field fields 3) key k));
      inner = refl;
    }))))
    tt

mark_inner : (fields : List (List ℕ)) → IfOk (mark_of fields) IsInnerEvent
mark_inner fields =
    either_ok IsInnerEvent ((length fields == 4) && is_empty (field fields 2)) _ (Err Fields)
    (then_ok IsInnerEvent (time_in (field fields 1)) _ (λ time t.
    then_ok IsInnerEvent (key_in (field fields 3)) _ (λ key k.
    record { within = and_from (nat_le time TIME_MAX) (is_key key) (time_fits (field fields 1) time t) (key_fits (field fields 3) key k); inner = refl })))
    tt

water_inner : (fields : List (List ℕ)) → IfOk (water_of fields) IsInnerEvent
water_inner fields =
    either_ok IsInnerEvent ((length fields == 2) || ((length fields == 4) && is_empty (field fields 2) && is_empty (field fields 3))) _ (Err Fields)
    (then_ok IsInnerEvent (time_in (field fields 1)) _ (λ time t. record { within = time_fits (field fields 1) time t; inner = refl }))
    tt

idle_inner : (fields : List (List ℕ)) → IfOk (idle_of fields) IsInnerEvent
idle_inner fields =
    either_ok IsInnerEvent ((length fields == 1) || ((length fields == 4) && is_empty (field fields 1) && is_empty (field fields 2) && is_empty (field fields 3))) (Ok Idle) (Err Fields)
    (record { within = refl; inner = refl }) tt

record_inner : (fields : List (List ℕ)) → IfOk (what_of fields) IsInnerEvent
record_inner fields =
    either_ok IsInnerEvent (bytes_eq (field fields 0) (codes "t")) (tuple_of fields) _ (tuple_inner fields)
    (either_ok IsInnerEvent (bytes_eq (field fields 0) (codes "m")) (mark_of fields) _ (mark_inner fields)
    (either_ok IsInnerEvent (bytes_eq (field fields 0) (codes "w")) (water_of fields) _ (water_inner fields)
    (either_ok IsInnerEvent (bytes_eq (field fields 0) (codes "i")) (idle_of fields) (Err Kind) (idle_inner fields) tt)))

with_record_inner : (n : ℕ) (r : Result What RowWhy) (later : Events) → IfOk r IsInnerEvent → AreInner later.events → AreInner (with_record n r later).events
with_record_inner n (Ok what) later h g = (h, g)
with_record_inner n (Err why) later h g = tt

events_inner : (n : ℕ) (rows : List (List (List ℕ))) → AreInner (events_from n rows).events
unfolding events_from
events_inner n [] = tt
events_inner n (row ∷ rows) = with_record_inner n (what_of row) (events_from (n + 1) rows) (record_inner row) (events_inner (n + 1) rows)

all_events_inner : (rows : List (List (List ℕ))) → AreInner (events_of rows).events
all_events_inner [] = events_inner 1 []
all_events_inner (row ∷ rows) = by (is_header row)
  where
    by : (b : Bool) → AreInner (cond b (events_from 2 rows) (events_from 1 (row ∷ rows))).events
    by true = events_inner 2 rows
    by false = events_inner 1 (row ∷ rows)

-- ---- what is told of them too
inner_append : (xs ys : List What) → AreInner xs → AreInner ys → AreInner (xs ++ ys)
inner_append [] ys h g = g
inner_append (x ∷ xs) ys h g = (h.0, inner_append xs ys h.1 g)

told_inner : (pace : Pace) (events : List What) → IsBounded pace → AreInner events → AreInner (told_from pace events)
unfolding told_from
told_inner pace [] b h = tt
told_inner pace (what ∷ later) b h =
    inner_append (told_by pace what) (told_from (paced_over pace (told_by pace what)) later) (inner_told pace what b h.0)
    (told_inner (paced_over pace (told_by pace what)) later (bounded_told pace what b h.0) h.1)

at_start : ℕ → ℕ → ℕ → Pace
at_start source every disorder = record { source = source; every = every; disorder = disorder; tuples = 0; greatest = 0; idle = false; water = 0 }

whats_of : List Entry → List What
whats_of entries = map (λ e. e.what) entries

whats_of_told : (source : ℕ) (told : List What) → whats_of (map (entry_of source) (told ++ [])) ≡ told
unfolding whats_of
whats_of_told source [] = refl
whats_of_told source (what ∷ told) = ap (λ later. what ∷ later) (whats_of_told source told)

same_told : (every disorder : ℕ) (events : List What) → with_watermarks every disorder [] events ≡ told_from (at_start 0 every disorder) events
unfolding at_start
same_told every disorder events =
    let s : Events = record { events = events; refusal = Some too_long } in
    sym (whats_of_told 0 (with_watermarks every disorder [] events))
    ∙ ap (λ (t : Stream). whats_of t.entries) (sym (stream_alike 0 every disorder s))
    ∙ whats_of_told 0 (told_from (at_start 0 every disorder) events)

all_told_inner : (every disorder : ℕ) (events : List What) → AreInner events → AreInner (with_watermarks every disorder [] events)
unfolding at_start
all_told_inner every disorder events h =
    subst AreInner (sym (same_told every disorder events)) (told_inner (at_start 0 every disorder) events (record { greatest = omega arith; water = omega arith }) h)

-- ---- what goes to a shard
inner_filter : (p : What → Bool) (xs : List What) → AreInner xs → AreInner (filter p xs)
inner_filter p [] h = tt
inner_filter p (x ∷ xs) h = by (p x) (inner_filter p xs h.1)
  where
    by : (b : Bool) → AreInner (filter p xs) → AreInner (cond b (x ∷ filter p xs) (filter p xs))
    by true later = (h.0, later)
    by false later = later

progress_goes : (shards k : ℕ) (what : What) → is_progress what ≡ true → goes_to shards k what ≡ true
progress_goes shards k (Tuple key time value) h = cc
progress_goes shards k (Mark key time) h = cc
progress_goes shards k (Water time) h = refl
progress_goes shards k Idle h = refl
progress_goes shards k End h = refl

routed_told : (shards k source : ℕ) (told : List What) → routed shards k (map (entry_of source) (told ++ End ∷ [])) ≡ map (entry_of source) (filter (goes_to shards k) told ++ End ∷ [])
routed_told shards k source told =
    filter_map_of (λ (e : Entry). goes_to shards k e.what) (entry_of source) (told ++ End ∷ [])
    ∙ ap (map (entry_of source)) (filter-append (goes_to shards k) told (End ∷ []))

pub part_is_source : (shards k source every disorder other : ℕ) (bytes : List ℕ) → (stream_of source every disorder bytes).refusal ≡ None
    → stream_of source 0 other (part_text shards k (stream_of source every disorder bytes).entries) ≡ record { entries = routed shards k (stream_of source every disorder bytes).entries; refusal = None }
part_is_source shards k source every disorder other bytes none =
    let events : Events = events_of (records default_config (strip_bom bytes)) in
    let told : List What = with_watermarks every disorder [] events.events in
    let own : List What = filter (goes_to shards k) told in
    let inner : AreInner told = all_told_inner every disorder events.events (all_events_inner (records default_config (strip_bom bytes))) in
    let entries : routed shards k (stream_of source every disorder bytes).entries ≡ map (entry_of source) (own ++ End ∷ [])
    = ap (λ refusal. routed shards k (map (entry_of source) (told ++ ending refusal))) none ∙ routed_told shards k source told in
    ap (λ es. stream_of source 0 other (source_text es)) entries
    ∙ events_read_back source other own (inner_filter (goes_to shards k) told inner)
    (filter_woken (goes_to shards k) (progress_goes shards k) false told (all_woken every disorder [] events.events))
    ∙ (λ i. record { entries = sym entries i; refusal = None })
