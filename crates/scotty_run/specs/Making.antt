-- The feeds and the shards of a made run.
use Rattle.std.specs.Prelude.{◌≡◌, ◌<◌, ℕ, List, [], length, map, false, None, Some, slice_index_or}
use Rattle.stream_base.specs.Model.Routes.{IsLawful}
use Rattle.shard_core.specs.Shard.{Sharded}
use Rattle.source_feed.specs.FeedView.{FeedView}
use Rattle.source_feed.specs.Generated.{made_definitions, made_sources, made_stream}
use Rattle.source_feed.specs.MadeView.{no_origin}
use Rattle.command_words.specs.Words.{IsWithinLimits, Made}

-- the feed of a generated source that wasn't read yet
abbrev pub made_feed : ℕ → ℕ → ℕ → ℕ → FeedView
made_feed seed rows sources source = record {
  source = source;
  origin = no_origin;
  ended = false;
  answered = None;
  gave = [];
  whole = Some (made_stream seed rows sources source);
}

-- the feeds of the first generated sources of a made run, in their order
abbrev pub AreMadeFeeds : Made → List FeedView → Type 0
AreMadeFeeds m feeds =
    (i : ℕ) (f : FeedView) → i < length feeds → slice_index_or feeds i f ≡ made_feed m.seed m.rows m.sources i

-- shards of a made run have its definitions and this number of sources
abbrev pub AreOfDefinitions : ℕ → List Sharded → Type 0
AreOfDefinitions sources shards =
    (k : ℕ) (s : Sharded) → k < length shards → ((slice_index_or shards k s).defs ≡ made_definitions) × ((slice_index_or shards k s).sources ≡ sources)

-- the shards of a made run, which keeps its limits: their journals are lawful for the generated sources
pub record AreMadeShards (m : Made) (shards : List Sharded) : Type 0 where
  pub limits : IsWithinLimits m
  pub alike : AreOfDefinitions m.sources shards
  pub lawful : IsLawful m.shards (made_sources m.seed m.rows m.sources) (map (λ s. s.journal) shards)
