-- What a feed is in contracts, and what one call of `next` does to it: by what it gave, and not by what it will give.
use Rattle.std.specs.Prelude.{◌≡◌, ◌++◌, ℕ, Bool, true, false, List, [], ◌∷◌, Option, None, Some, Result, Ok, Err, IfSome, MatchOption, ⊤}
use Rattle.stream_base.specs.declared.entry.Entry.{Entry}
use Rattle.stream_base.specs.Model.What.{is_end}
use Rattle.stream_base.specs.Model.Journals.{is_entry_within}
use Rattle.source_feed.specs.FeedFault.{refusal_of}
use Rattle.source_feed.specs.Stream.{Refusal, StaysTold, Stream}
use Rattle.source_feed.specs.declared.feed_fault.FeedFault.{FeedFault}

-- where a feed's entries come from: the number of the open of its source, the bytes that this tells, and when watermarks are made
pub record Origin : Type 0 where
  pub place : ℕ
  pub told : Option (List ℕ)
  pub every : ℕ
  pub disorder : ℕ

-- a source's number and origin, whether its end was given, the fault that was answered, the entries that were given so far, in order, and the stream of the source, as soon as its bytes were seen
pub record FeedView : Type 0 where
  pub source : ℕ
  pub origin : Origin
  pub ended : Bool
  pub answered : Option FeedFault
  pub gave : List Entry
  pub whole : Option Stream

-- all that was given, and then a refusal or none
abbrev pub given_then : List Entry → Option Refusal → Stream
given_then entries refusal = record { entries = entries; refusal = refusal }

-- an entry of this source is given, within the limits, behind those before
pub record StepsOn (old : FeedView) (entry : Entry) (new : FeedView) : Type 0 where
  pub running : old.ended ≡ false
  pub unanswered : old.answered ≡ None
  pub own : entry.source ≡ old.source
  pub within : is_entry_within entry ≡ true
  pub gave : new.gave ≡ old.gave ++ entry ∷ []
  pub end : new.ended ≡ is_end entry.what
  pub still_unanswered : new.answered ≡ None

-- nothing is given, since the end was given before: what was given is the stream of the source, which refuses nothing
pub record StepsNowhere (old new : FeedView) : Type 0 where
  pub ended : old.ended ≡ true
  pub unanswered : old.answered ≡ None
  pub gave : new.gave ≡ old.gave
  pub all : new.whole ≡ Some (given_then new.gave None)
  pub still_ended : new.ended ≡ true
  pub still_unanswered : new.answered ≡ None

-- a fault is answered: again the same, if one was before; where it shows a refusal, what was given and this refusal are the stream of the source
pub record StepsBack (old : FeedView) (fault : FeedFault) (new : FeedView) : Type 0 where
  pub running : old.ended ≡ false
  pub again : IfSome old.answered (λ before. fault ≡ before)
  pub gave : new.gave ≡ old.gave
  pub refused : IfSome (refusal_of fault) (λ refusal. new.whole ≡ Some (given_then new.gave (Some refusal)))
  pub still_running : new.ended ≡ false
  pub answered : new.answered ≡ Some fault

-- what each answer says
abbrev pub Answers : FeedView → Result (Option Entry) FeedFault → FeedView → Type 0
Answers old (Ok (Some entry)) new = StepsOn old entry new
Answers old (Ok None) new = StepsNowhere old new
Answers old (Err fault) new = StepsBack old fault new

-- a feed gives this answer; its source and origin stay, and the stream of the source, once it is seen
pub record Steps (old : FeedView) (answer : Result (Option Entry) FeedFault) (new : FeedView) : Type 0 where
  pub source : new.source ≡ old.source
  pub origin : new.origin ≡ old.origin
  pub seen : StaysTold old.whole new.whole
  pub outcome : Answers old answer new
