-- One call of `next` on a feed: the feed before, the answer, and the feed after.
use Rattle.std.specs.Prelude.{◌≡◌, ◌≢◌, ◌≤◌, ◌⊎◌, ℕ, true, false, Option, None, Some, Result, Ok, Err, option_map, IfErr, IfSome, OnOk, IsErrOf}
use Rattle.outside.specs.Outside.{Rose}
use Rattle.stream_base.specs.declared.entry.Entry.{Entry}
use Rattle.stream_base.specs.Model.What.{is_end}
use Rattle.stream_base.specs.Model.Journals.{is_entry_within}
use Rattle.source_feed.specs.FeedFault.{Ends}
use Rattle.source_feed.specs.FeedState.{Closes, FeedState}
use Rattle.source_feed.specs.Stream.{Refusal, StaysTold, with_first}
use Rattle.source_feed.specs.declared.feed_fault.FeedFault.{FeedFault}
use Rattle.source_feed.specs.declared.feed_fault.FeedFault.TheVariants.{Read}

module _ {E : Type 0} where
  -- an entry of this source is given, within the limits: the first of what is told, which loses it
  pub record GivesEntry (old : FeedState E) (entry : Entry) (new : FeedState E) : Type 0 where
    pub running : old.ended ≡ false
    pub unanswered : old.answered ≡ None
    pub own : entry.source ≡ old.source
    pub within : is_entry_within entry ≡ true
    pub given : StaysTold old.rest (option_map (with_first entry) new.rest)
    pub end : new.ended ≡ is_end entry.what
    pub still_unanswered : new.answered ≡ None

  -- nothing is given, since the end was given before
  pub record GivesNothing (old new : FeedState E) : Type 0 where
    pub ended : old.ended ≡ true
    pub unanswered : old.answered ≡ None
    pub kept : StaysTold old.rest new.rest
    pub still_ended : new.ended ≡ true
    pub still_unanswered : new.answered ≡ None

-- `refusal_of` says which refusal a fault shows, if it shows one
module _ {E : Type 0} (refusal_of : E → Option Refusal) where
  -- a fault is answered: again the same, if one was before; and a refusal only where it comes next
  pub record Refuses (old : FeedState E) (fault : E) (new : FeedState E) : Type 0 where
    pub running : old.ended ≡ false
    pub again : IfSome old.answered (λ before. fault ≡ before)
    pub refused : Ends (refusal_of fault) old.rest new.rest
    pub still_running : new.ended ≡ false
    pub answered : new.answered ≡ Some fault

  -- what each answer says
  abbrev pub Answers : FeedState E → Result (Option Entry) E → FeedState E → Type 0
  Answers old (Ok (Some entry)) new = GivesEntry old entry new
  Answers old (Ok None) new = GivesNothing old new
  Answers old (Err fault) new = Refuses old fault new

  -- a feed gives this answer: its source stays, and what it tells closes rightly before and after
  pub record Gives
      (old : FeedState E) (answer : Result (Option Entry) E) (new : FeedState E) : Type 0 where
    pub source : new.source ≡ old.source
    pub whole : Closes old
    pub whole_after : Closes new
    pub outcome : Answers old answer new

-- the second feed goes on as the first: it tells the same, or more where the first tells nothing
pub record GoesOnAs {E : Type 0} (old new : FeedState E) : Type 0 where
  pub source : new.source ≡ old.source
  pub end : new.ended ≡ old.ended
  pub answered : new.answered ≡ old.answered
  pub told : StaysTold old.rest new.rest

module _ {T : Type 0} where
  -- a failed read is counted, unless it was answered before; with any other answer none is counted
  pub record CountsReads
      (answered : Option FeedFault) (old : ℕ) (answer : Result T FeedFault) (new : ℕ) : Type 0 where
    pub read : IsErrOf answer Read → (answered ≡ Some Read) ⊎ Rose old new
    pub quiet : OnOk answer (new ≡ old)
    pub quiet_fault : IfErr answer (λ fault. fault ≢ Read → new ≡ old)
    pub never_falls : old ≤ new
