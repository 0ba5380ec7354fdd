-- What is read of parts is what is routed of the whole.
use Rattle.std.proofs.Common.{◌≡◌, ◌+◌, ℕ, List, [], ◌∷◌, map, get_or, ap, subst, refl}
use Rattle.stream_base.specs.declared.entry.Entry.{Entry}
use Rattle.stream_base.specs.Limits.{Definitions}
use Rattle.stream_base.specs.Model.Routes.{IsLawful, routed}
use Rattle.source_feed.specs.Events.{stream_of}
use Rattle.source_feed.specs.Stream.{Stream}
use Rattle.part_laws.specs.Joined.{AreOfParts, part_definitions}
use Rattle.part_laws.specs.Parts.{part_text}
use Rattle.part_laws.specs.Runs.{AreAcceptedFrom, AreRunsOverParts, entries_from_bytes, entries_of_all}
use Rattle.part_laws.proofs.JoinedRuns.{parts_are_whole}
use Rattle.part_laws.proofs.PartStreams.{part_is_source}

module _ (d : Definitions) (shards k : ℕ) where
  read_of_parts : (source : ℕ) (files : List (List ℕ)) → AreAcceptedFrom d source files
      → entries_from_bytes (part_definitions d) source (map (part_text shards k) (entries_from_bytes d source files)) ≡ map (routed shards k) (entries_from_bytes d source files)
  read_of_parts source [] h = refl
  read_of_parts source (bytes ∷ later) h =
      let first : (stream_of source 0 d.disorder (part_text shards k (stream_of source d.every d.disorder bytes).entries)).entries ≡ routed shards k (stream_of source d.every d.disorder bytes).entries
      = ap (λ (s : Stream). s.entries) (part_is_source shards k source d.every d.disorder d.disorder bytes h.0) in
      let rest = read_of_parts (source + 1) later h.1 in
      λ i. first i ∷ rest i

pub whole_is_lawful : (d : Definitions) (shards : ℕ) (files : List (List ℕ)) (journals : List (List Entry)) → AreAcceptedFrom d 0 files → AreRunsOverParts d shards files journals
    → IsLawful shards (entries_of_all d files) journals
whole_is_lawful d shards files journals accepted runs =
    let of_parts : AreOfParts shards (entries_of_all d files) journals = record {
      count = runs.count;
      each = λ k l. subst (λ (s : List (List Entry)). IsLawful 1 s (get_or journals k [] ∷ [])) (read_of_parts d shards k 0 files accepted) (runs.each k l);
    } in
    (parts_are_whole shards (entries_of_all d files) journals).0 of_parts
