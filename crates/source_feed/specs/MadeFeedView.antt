-- The feed of a source of the generated input, by its fields.
use Rattle.std.specs.Prelude.{◌≡◌, ◌++◌, Bool, true, false, List, [], ◌∷◌, map, None, Some}
use Rattle.stream_base.specs.declared.what.What.{What}
use Rattle.stream_base.specs.declared.what.What.TheVariants.{End}
use Rattle.source_feed.specs.FeedState.{FeedState}
use Rattle.source_feed.specs.Generating.{IsOnCourse, left_of}
use Rattle.source_feed.specs.Pace.{waiting_of}
use Rattle.source_feed.specs.RowsView.{AreInner}
use Rattle.source_feed.specs.Stream.{Stream, entry_of, nothing_left}
use Rattle.source_feed.specs.declared.feed_fault.FeedFault.{FeedFault}
use Rattle.source_feed.specs.declared.generator.Generator.{Generator}
use Rattle.source_feed.specs.declared.made_feed.Making.TheInside.{Inside}

-- what is left of the stream: what waits, what the generator has left, and the end; nothing once that was given
abbrev pub rest_of : Generator → List What → Bool → Stream
rest_of g waiting true = nothing_left
rest_of g waiting false = record { entries = map (entry_of g.source) (waiting ++ (left_of g ++ End ∷ [])); refusal = None }

-- the generator of a source with what waits, as a feed
abbrev pub state_making : Generator → List What → Bool → FeedState FeedFault
state_making g waiting ended =
    record { source = g.source; ended = ended; answered = None; rest = Some (rest_of g waiting ended) }

abbrev pub made_feed_state : Inside → FeedState FeedFault
made_feed_state a = state_making a.generator (waiting_of a.waiting) a.ended

-- nothing waits behind the end
abbrev pub WaitsBeforeEnd : Bool → List What → Type 0
WaitsBeforeEnd true waiting = waiting ≡ []
WaitsBeforeEnd false waiting = Unit {0}

-- the generator stands between two tuples, and what waits is within the limits, and no end
pub record IsMaking (a : Inside) : Type 0 where
  pub course : IsOnCourse a.generator
  pub waiting : AreInner (waiting_of a.waiting)
  pub waits : WaitsBeforeEnd a.ended (waiting_of a.waiting)
