-- What a feed is in contracts.
use Rattle.std.specs.Prelude.{ℕ, Bool, Option, IfSome}
use Rattle.source_feed.specs.Stream.{IsWhole, Stream}

-- a source's number, whether its end was given, the fault that was answered, and the told rest
pub record FeedState (E : Type 0) : Type 0 where
  pub source : ℕ
  pub ended : Bool
  pub answered : Option E
  pub rest : Option Stream

-- a stream that is told closes rightly
abbrev pub Closes : {E : Type 0} → FeedState E → Type 0
Closes feed = IfSome feed.rest (IsWhole feed.source feed.ended)
