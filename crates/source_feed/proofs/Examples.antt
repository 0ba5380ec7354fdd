-- What the definitions give at worked examples.
use Rattle.std.proofs.Common.{◌≡◌, [], ◌∷◌, refl, None, Some, Ok, Err}
use Rattle.std.specs.Prelude.{codes, pos, negsuc}
use Rattle.csv.specs.Machine.{next_record}
use Rattle.csv.specs.Reading.{records_from, strip_bom}
use Rattle.csv.specs.Records.{field_at}
use Rattle.stream_base.specs.declared.what.What.TheVariants.{Tuple, Mark, Water, Idle, End}
use Rattle.source_feed.specs.Record.{time_in, value_in, what_of}
use Rattle.source_feed.specs.Events.{stream_of, events_from, with_watermarks}
use Rattle.source_feed.specs.Stream.{bad_record, entry_of}
use Rattle.source_feed.specs.declared.row_why.RowWhy.TheVariants.{Fields, Kind, Time, Value}

least_value : value_in (codes "-9223372036854775808") ≡ Ok (negsuc 9223372036854775807)
least_value = refl

beyond_the_greatest_value : value_in (codes "+9223372036854775808") ≡ Err Value
beyond_the_greatest_value = refl

leading_zeros : time_in (codes "0001000000000000000") ≡ Ok 1000000000000000
leading_zeros = refl

twenty_digits : time_in (codes "00000000000000000001") ≡ Err Time
twenty_digits = refl

-- the kind comes before the number of fields, and that before the time, the value and the key
first_fault : what_of (codes "t" ∷ codes "x" ∷ [] ∷ [] ∷ []) ≡ Err Time
unfolding field_at
first_fault = refl

tuple_and_water : stream_of 0 0 0 (codes "t,1,5,a\nw,2\n")
    ≡ record { entries = entry_of 0 (Tuple (codes "a") 1 (pos 5)) ∷ entry_of 0 (Water 2) ∷ entry_of 0 End ∷ []; refusal = None }
unfolding field_at next_record records_from strip_bom events_from with_watermarks
tuple_and_water = refl

behind_a_header : stream_of 7 0 0 (codes "kind,time,value,key\r\nm,5,,a")
    ≡ record { entries = entry_of 7 (Mark (codes "a") 5) ∷ entry_of 7 End ∷ []; refusal = None }
unfolding field_at next_record records_from strip_bom events_from with_watermarks
behind_a_header = refl

after_every_second_tuple : stream_of 0 2 3 (codes "t,5,1,a\nt,4,2,a\nt,12,4,a\nt,9,8,a\n")
    ≡ record {
      entries = entry_of 0 (Tuple (codes "a") 5 (pos 1)) ∷ entry_of 0 (Tuple (codes "a") 4 (pos 2)) ∷ entry_of 0 (Water 2)
          ∷ entry_of 0 (Tuple (codes "a") 12 (pos 4)) ∷ entry_of 0 (Tuple (codes "a") 9 (pos 8)) ∷ entry_of 0 (Water 9) ∷ entry_of 0 End ∷ [];
      refusal = None;
    }
unfolding field_at next_record records_from strip_bom events_from with_watermarks
after_every_second_tuple = refl

refused_behind_a_watermark : stream_of 0 0 0 (codes "\nw,1\nt,1,,a\nw,2\n")
    ≡ record { entries = entry_of 0 (Water 1) ∷ []; refusal = Some (bad_record 2 Value) }
unfolding field_at next_record records_from strip_bom events_from with_watermarks
refused_behind_a_watermark = refl

-- an idle source wakes with its next tuple, once after several words, by the greatest of its watermarks; its end wakes nothing
woken_by_a_tuple : stream_of 0 0 0 (codes "t,1,5,a\ni\nt,4,7,a\nw,10\n")
    ≡ record {
      entries = entry_of 0 (Tuple (codes "a") 1 (pos 5)) ∷ entry_of 0 Idle ∷ entry_of 0 (Water 0) ∷ entry_of 0 (Tuple (codes "a") 4 (pos 7))
          ∷ entry_of 0 (Water 10) ∷ entry_of 0 End ∷ [];
      refusal = None;
    }
unfolding field_at next_record records_from strip_bom events_from with_watermarks
woken_by_a_tuple = refl

woken_by_a_mark : stream_of 0 1 0 (codes "t,7,1,a\nw,3\ni\ni,,,\nm,9,,a\ni\nw,1\nt,8,1,a\ni")
    ≡ record {
      entries = entry_of 0 (Tuple (codes "a") 7 (pos 1)) ∷ entry_of 0 (Water 7) ∷ entry_of 0 (Water 3) ∷ entry_of 0 Idle ∷ entry_of 0 Idle
          ∷ entry_of 0 (Water 7) ∷ entry_of 0 (Mark (codes "a") 9) ∷ entry_of 0 Idle ∷ entry_of 0 (Water 1)
          ∷ entry_of 0 (Tuple (codes "a") 8 (pos 1)) ∷ entry_of 0 (Water 8) ∷ entry_of 0 Idle ∷ entry_of 0 End ∷ [];
      refusal = None;
    }
unfolding field_at next_record records_from strip_bom events_from with_watermarks
woken_by_a_mark = refl

-- the word that a source is idle has one field, or four of which three are empty
idle_words : (what_of (codes "i" ∷ []) ≡ Ok Idle) × (what_of (codes "i" ∷ [] ∷ [] ∷ [] ∷ []) ≡ Ok Idle)
    × (what_of (codes "i" ∷ codes "x" ∷ []) ≡ Err Fields) × (what_of (codes "i" ∷ [] ∷ []) ≡ Err Fields)
    × (what_of (codes "i" ∷ [] ∷ [] ∷ []) ≡ Err Fields) × (what_of (codes "I" ∷ []) ≡ Err Kind)
unfolding field_at
idle_words = (refl, refl, refl, refl, refl, refl)
