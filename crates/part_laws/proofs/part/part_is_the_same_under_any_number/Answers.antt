-- What a part says of an entry is what its event says.
use Rattle.std.proofs.Common.{◌≡◌, ◌∙◌, ◌++◌, ℕ, List, [], map, filter, ap, sym, refl}
use Rattle.std.specs.List.{flat_map}
use Rattle.std.proofs.lemmas.List.Folds.{flat_map-map}
use Rattle.csv.specs.Reading.{default_config, records, strip_bom}
use Rattle.stream_base.specs.declared.entry.Entry.{Entry}
use Rattle.stream_base.specs.declared.what.What.{What}
use Rattle.stream_base.specs.Model.Routes.{goes_to}
use Rattle.stream_base.proofs.Members.{filter_map_of}
use Rattle.source_feed.specs.Events.{ending, events_of, with_watermarks}
use Rattle.source_feed.specs.Stream.{entry_of}
use Rattle.part_laws.specs.Parts.{event_text, part_text}
use Rattle.part_laws.proofs.part.part_is_the_same_under_any_number.Goals as goal

of_events : (shards k source : ℕ) (events : List What) → part_text shards k (map (entry_of source) events) ≡ flat_map event_text (filter (goes_to shards k) events)
of_events shards k source events =
    ap (flat_map (λ (e : Entry). event_text e.what)) (filter_map_of (λ (e : Entry). goes_to shards k e.what) (entry_of source) events)
    ∙ flat_map-map (λ (e : Entry). event_text e.what) (entry_of source) (filter (goes_to shards k) events)

pub returns : goal.returns
returns c = record {
  refused = λ one other every disorder bytes. refl;
  part = λ shards k one other every disorder bytes.
      let read = events_of (records default_config (strip_bom bytes)) in
      let events = with_watermarks every disorder [] read.events ++ ending read.refusal in
      of_events shards k one events ∙ sym (of_events shards k other events);
}
