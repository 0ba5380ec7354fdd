-- Worked parts, computed.
use Rattle.std.proofs.Common.{◌≡◌, [], ◌∷◌, refl, None}
use Rattle.std.specs.Prelude.{codes, pos, negsuc}
use Rattle.std.specs.Fmt.{digits}
use Rattle.csv.specs.Machine.{next_record}
use Rattle.csv.specs.Reading.{records_from, strip_bom}
use Rattle.csv.specs.Records.{field_at}
use Rattle.csv.specs.Writing.{escaped, fields_text, is_blank}
use Rattle.stream_base.specs.declared.what.What.TheVariants.{Tuple, Water, Idle, End}
use Rattle.source_feed.specs.Events.{events_from, stream_of, with_watermarks}
use Rattle.source_feed.specs.Stream.{entry_of}
use Rattle.part_laws.specs.Parts.{event_text, part_text}

-- a watermark after every second tuple, 1 behind the greatest time; the idle source is woken by a tuple that goes to shard 0, and shard 1 has the word that woke it too
shard_0 : part_text 2 0 (stream_of 0 2 1 (codes "t,1,5,a\ni\nt,4,7,b\nw,10\n")).entries ≡ codes "i,,,\nw,0,,\nt,4,7,b\nw,3,,\nw,10,,\n"
unfolding digits field_at next_record records_from strip_bom events_from with_watermarks fields_text is_blank escaped
shard_0 = refl

shard_1 : part_text 2 1 (stream_of 0 2 1 (codes "t,1,5,a\ni\nt,4,7,b\nw,10\n")).entries ≡ codes "t,1,5,a\ni,,,\nw,0,,\nw,3,,\nw,10,,\n"
unfolding digits field_at next_record records_from strip_bom events_from with_watermarks fields_text is_blank escaped
shard_1 = refl

read_back : stream_of 0 0 0 (codes "t,1,5,a\ni,,,\nw,0,,\nw,3,,\nw,10,,\n")
    ≡ record {
      entries = entry_of 0 (Tuple (codes "a") 1 (pos 5)) ∷ entry_of 0 Idle ∷ entry_of 0 (Water 0) ∷ entry_of 0 (Water 3) ∷ entry_of 0 (Water 10) ∷ entry_of 0 End ∷ [];
      refusal = None;
    }
unfolding field_at next_record records_from strip_bom events_from with_watermarks
read_back = refl

-- a key with a comma and a quote is quoted
quoted_key : event_text (Tuple (codes "x,\"y") 1 (negsuc 4)) ≡ codes "t,1,-5,\"x,\"\"y\"\n"
unfolding digits fields_text is_blank escaped
quoted_key = refl
