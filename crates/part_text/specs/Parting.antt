-- The part of the source that a feed reads.
use Rattle.std.specs.Prelude.{◌≡◌, ℕ, false, List, [], Option, None, Some, IfSome}
use Rattle.stream_base.specs.declared.entry.Entry.{Entry}
use Rattle.source_feed.specs.FeedFault.{refusal_of}
use Rattle.source_feed.specs.FeedView.{FeedView, given_then}
use Rattle.source_feed.specs.declared.feed_fault.FeedFault.{FeedFault}
use Rattle.part_laws.specs.Parts.{part_text}
use Rattle.part_text.specs.Holding.{IsHeld}

-- a feed that gave nothing yet, neither its end nor a fault
pub record IsNew (feed : FeedView) : Type 0 where
  pub running : feed.ended ≡ false
  pub unanswered : feed.answered ≡ None
  pub blank : feed.gave ≡ []

-- a feed that was read further is one of the same source
pub record IsSameSource (old new : FeedView) : Type 0 where
  pub source : new.source ≡ old.source
  pub origin : new.origin ≡ old.origin

-- a feed was read to its end, its source isn't refused, and this is the part of its entries for the shard
pub record IsPartOf (shards k : ℕ) (feed : FeedView) (bytes : List ℕ) : Type 0 where
  pub entries : List Entry
  pub told : feed.whole ≡ Some (given_then entries None)
  pub part : bytes ≡ part_text shards k entries

-- a feed was read to its end, and this is held of the part of its source
pub record HoldsPart (shards k : ℕ) (feed : FeedView) (held : Option (List ℕ)) : Type 0 where
  pub bytes : List ℕ
  pub part : IsPartOf shards k feed bytes
  pub held_is : IsHeld bytes held

-- a feed was read up to a fault, which shows the refusal of its source, if it shows one
abbrev pub ShowsRefusal : FeedView → FeedFault → Type 0
ShowsRefusal feed fault = IfSome (refusal_of fault) (λ refusal. (entries : List Entry) × (feed.whole ≡ Some (given_then entries (Some refusal))))
