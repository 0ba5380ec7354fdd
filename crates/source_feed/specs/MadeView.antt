-- The feed of a source of the generated input, with what it gave.
use Rattle.std.specs.Prelude.{◌++◌, ℕ, [], None, option_map, IsSome}
use Rattle.source_feed.specs.EntryLogs.{entries_in}
use Rattle.source_feed.specs.FeedState.{FeedState}
use Rattle.source_feed.specs.FeedView.{FeedView, Origin, given_then}
use Rattle.source_feed.specs.declared.feed_fault.FeedFault.{FeedFault}
use Rattle.source_feed.specs.declared.made_feed.MadeFeed.TheInside.{Inside}

-- generated entries come from no open
abbrev pub no_origin : Origin
no_origin = record { place = 0; told = None; every = 0; disorder = 0 }

-- what is left is told
abbrev pub IsUnlost : FeedState FeedFault → Type 0
IsUnlost making = IsSome making.rest

abbrev pub made_view : Inside → FeedView
made_view a =
    record {
      source = a.making.source;
      origin = no_origin;
      ended = a.making.ended;
      answered = a.making.answered;
      gave = entries_in a.gave;
      whole = option_map (λ left. given_then (entries_in a.gave ++ left.entries) left.refusal) a.making.rest;
    }
