-- What was given, and what is left, stay the stream of the source.
use Rattle.std.proofs.Common.{sym, subst, List}
use Rattle.stream_base.specs.declared.entry.Entry.{Entry}
use Rattle.source_feed.specs.FileFeedState.{GivesOn}
use Rattle.source_feed.proofs.Feeding.{gives_on}
use Rattle.source_feed.proofs.file_feed.FileFeedFeed.next.Goals as goal

pub invariant_of-self : goal.invariant_of-self
invariant_of-self g c =
    let a = c.self.inside in
    let at = rw c.in-Open.is at c.self.invariant in
    let gives = rw c.deref_mut.ensures.value at c.next_entry.ensures.gives in (
      at.0,
      at.1,
      subst (λ (gave : List Entry). GivesOn a.index a.every a.disorder (g.S.Source.reads a.source).given gave c.next_entry.new.rows) (sym c.next_entry.ensures.logged)
          (gives_on _ _ _ _ _ _ _ _ at.2 gives),
    )

pub invariant_of-self-in-Ok : goal.invariant_of-self-in-Ok
invariant_of-self-in-Ok g c =
    let a = c.self.inside in
    let at = c.in-Ok.ensures.rows in
    let unread = rw c.in-Unread.is at c.self.invariant in
    let gives = rw c.deref_mut-in-Ok.ensures.value at c.next_entry-next.ensures.gives in (
      at.0,
      at.1,
      subst (λ (gave : List Entry). GivesOn a.index a.every a.disorder (g.S.Source.reads c.read_rows.new.source).given gave c.next_entry-next.new.rows) (sym (rw unread.2 at c.next_entry-next.ensures.logged))
          (gives_on _ _ _ _ _ _ _ _ at.2 gives),
    )
