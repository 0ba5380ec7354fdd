-- What a feed hands its entries in with, one at each shard: what it has handed in of those that the shard is to get.
use Rattle.std.specs.Prelude.{◌≡◌, ◌<◌, ℕ, true, false, List, length, ⊤}
use Rattle.stream_base.specs.declared.entry.Entry.{Entry}
use Rattle.stream_base.specs.Model.Journals.{is_entry_within}
use Rattle.stream_base.specs.Model.Watermark.{has_ended}
use Rattle.source_feed.specs.declared.feed_fault.FeedFault.TheVariants.{NoMemory}
use Rattle.turnstile.specs.History.{BeginsWith}
use Rattle.fan_in.specs.declared.outcome.Outcome.{Outcome}
use Rattle.fan_in.specs.declared.outcome.Outcome.TheVariants.{Done, Fault, Full}

-- an outcome before the feed has ended: each entry was taken, or one of so many shards was full, or memory ran out for one
abbrev pub IsHalfway : ℕ → Outcome → Type 0
IsHalfway shards Done = ⊤
IsHalfway shards (Full shard) = shard < shards
IsHalfway shards (Fault fault) = fault ≡ NoMemory

-- an outcome of handing in at this shard alone: where a shard was full, it was this one
abbrev pub IsAbout : ℕ → Outcome → Type 0
IsAbout k Done = ⊤
IsAbout k (Full shard) = shard ≡ k
IsAbout k (Fault fault) = fault ≡ NoMemory

-- behind these entries one may follow: it is within the limits, and its source hasn't ended
pub record MayFollow (before : List Entry) (entry : Entry) : Type 0 where
  pub within : is_entry_within entry ≡ true
  pub running : has_ended entry.source before ≡ false

-- of the entries that a shard is to get from a feed, the first ones were handed in, in order: all of them where the outcome is `Done`, and not all where this shard was full, which is then known
pub record HasHanded (wanted : List Entry) (k : ℕ) (outcome : Outcome) (handed : List Entry) (full : Type 0) : Type 0 where
  pub begins : BeginsWith wanted handed
  pub whole : outcome ≡ Done → handed ≡ wanted
  pub is_full : outcome ≡ Full k → full
  pub lacks : outcome ≡ Full k → length handed < length wanted

-- whether two are the same one is an order, along which the inlet and the source stay
pub record PortLaws {I P : Type 0} (is_at : I → P → Type 0) (is_of : ℕ → P → Type 0) (is_same : P → P → Type 0) : Type 0 where
  pub first : (a : P) → is_same a a
  pub more : (a b c : P) → is_same a b → is_same b c → is_same a c
  pub inlet : (i : I) (a b : P) → is_same a b → is_at i a → is_at i b
  pub source : (n : ℕ) (a b : P) → is_same a b → is_of n a → is_of n b
