-- The part of the only source of a command.
use Rattle.std.proofs.Common.{◌≤◌, ℕ, List, length, None, Some, Result, Ok, Err, inl, inr, sym, subst}
use Rattle.std.specs.Prelude.{IfErr, IfOk, Vec}
use Rattle.std.specs.declared.alloc.Global.{Global}
use Rattle.stream_base.specs.Limits.{Definitions}
use Rattle.source_feed.specs.FeedView.{FeedView}
use Rattle.source_feed.specs.declared.whole.TheConstants.{SOURCE_MAX}
use Rattle.emission_text.specs.declared.fault.Fault.TheVariants.{Usage}
use Rattle.run_inputs.specs.Causes.{AreDefinitionsRead, StopsAtDefs}
use Rattle.run_inputs.specs.Outside.{Opens}
use Rattle.run_inputs.specs.Reading.{IsFresh, IsSameFeed}
use Rattle.part_text.specs.Parting.{IsNew, IsSameSource}
use Rattle.part_run.specs.Parting.{AreDefsOfFile, HoldsPartOfFiles, IsPartOfFiles, IsShortPart, SpellsParts, StopsAtPart, StopsDefs, StopsPart, StopsSpelling}
use Rattle.part_run.specs.declared.part_fault.PartFault.{PartFault}
use Rattle.part_run.specs.declared.part_fault.PartFault.TheVariants.{Run, LongPart, UnreadDefs, NotReport, Misplaced}
use Rattle.part_run.specs.Words.{Part}

-- no file says that the words are wrong
pub no_usage : (p : Part) (opens : Opens) → StopsAtPart p opens Usage → ⊥
no_usage p opens (inl h) = h
no_usage p opens (inr h) = h.cause

-- the spelled definitions are those of the file
pub defs_of_file : (opens : Opens) (d : Definitions) → AreDefinitionsRead opens d → (r : Result (Vec ℕ Global) PartFault) → IfOk r (λ text. SpellsParts d text.items) → IfOk r (λ text. AreDefsOfFile opens text.items)
defs_of_file opens d read (Ok text) h = record { d = d; definitions = read; spelled = h }
defs_of_file opens d read (Err fault) h = tt

-- and what stops the spelling stops the command
pub defs_stopped : (name : List ℕ) (opens : Opens) (d : Definitions) → AreDefinitionsRead opens d → (r : Result (Vec ℕ Global) PartFault) → IfErr r (StopsSpelling d) → IfErr r (StopsDefs name opens)
defs_stopped name opens d read (Ok text) h = tt
defs_stopped name opens d read (Err fault) h = by fault h
  where
    by : (f : PartFault) → StopsSpelling d f → StopsDefs name opens f
    by (Run f) h = subst (StopsAtDefs name opens) (sym h) tt
    by LongPart h = h
    by UnreadDefs h = (d, read, h)
    by (NotReport report) h = h
    by (Misplaced report number) h = h

-- no definitions file says that the words are wrong
pub no_usage_in_defs : (name : List ℕ) (opens : Opens) → StopsDefs name opens (Run Usage) → ⊥
no_usage_in_defs name opens h = h

-- the two words for a feed that gave nothing yet, and for one that was read further
pub new_feed : (feed : FeedView) → IsFresh feed → IsNew feed
new_feed feed h = record { running = h.running; unanswered = h.unanswered; blank = h.blank }

pub same_feed : (old new : FeedView) → IsSameSource old new → IsSameFeed old new
same_feed old new h = record { source = h.source; origin = h.origin }

-- a part of which all is held is no longer than a source may be
pub short_of_files : (p : Part) (opens : Opens) (held : List ℕ) → HoldsPartOfFiles p opens (Some held) → IsShortPart p opens held
short_of_files p opens held h = record {
  part = subst (IsPartOfFiles p opens) (sym h.held_is.0) h.part;
  short = subst (λ (bytes : List ℕ). length bytes ≤ SOURCE_MAX) (sym h.held_is.0) h.held_is.1;
}

-- and one of which nothing is held is longer
pub long_of_files : (p : Part) (opens : Opens) → HoldsPartOfFiles p opens None → StopsPart p opens LongPart
long_of_files p opens h = (h.bytes, h.part, h.held_is)
