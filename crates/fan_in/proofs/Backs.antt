-- A feed that is handed back where memory ran out behind its end.
use Rattle.std.proofs.Common.{◌≡◌, ℕ, refl, inr}
use Rattle.source_feed.specs.FeedView.{FeedView}
use Rattle.source_feed.specs.declared.feed_fault.FeedFault.TheVariants.{Read, NoMemory}
use Rattle.fan_in.specs.declared.outcome.Outcome.{Outcome}
use Rattle.fan_in.specs.declared.outcome.Outcome.TheVariants.{Done, Fault, Full}
use Rattle.fan_in.specs.Gathering.{FeedEnded}
use Rattle.fan_in.specs.Works.{without_shards}

-- a feed is handed back as before where no shard can be handed out
pub back_without : (start back : FeedView) (o : Outcome) (old new : ℕ) → FeedEnded start back o old new → FeedEnded start back (without_shards o) old new
back_without start back Done old new b = record { of_source = b.of_source; shows = inr refl; origin = b.origin; seen = b.seen; gave_stream = tt; read = λ e. absurd (let f : NoMemory ≡ Read = cc in cc); quiet = λ _. b.quiet (λ e. cc) }
back_without start back (Full shard) old new b = record { of_source = b.of_source; shows = inr refl; origin = b.origin; seen = b.seen; gave_stream = tt; read = λ e. absurd (let f : NoMemory ≡ Read = cc in cc); quiet = λ _. b.quiet (λ e. cc) }
back_without start back (Fault fault) old new b = b
