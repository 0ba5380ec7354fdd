-- The journal is longer by the entry, and its watermarks follow.
use Rattle.std.proofs.Common.{refl}
use Rattle.shard_core.proofs.Journals.{past_push}
use Rattle.shard_core.proofs.Waters.{time_within}
use Rattle.shard_core.proofs.past.Past.push.Goals as goal

pub note-requires : goal.note-requires
note-requires c = let known = (rw (← c.self.view_is) at c.requires.next).known in record { source = known.source; time = time_within c.args.entry.now known.within }

pub invariant_of-self : goal.invariant_of-self
invariant_of-self c =
    past_push c.self.inside _ c.args.entry.now c.self.invariant refl refl c.note.ensures.same.sources c.note.ensures.same.lateness
    (c.note.ensures.stands c.self.inside.journal.items c.self.invariant.waters) c.push.ensures.items
    (rw (← c.self.view_is) at c.requires.next)
