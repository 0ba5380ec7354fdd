-- The tuple enters the store, or is settled at once.
use Rattle.std.proofs.Common.{◌≡◌, ◌∙◌, ◌+◌, true, false, sym}
use Rattle.std.specs.List.{list_all}
use Rattle.stream_base.specs.Kinds.{is_events}
use Rattle.key_parts.specs.Moves.Comes.{Enters, Leaves}
use Rattle.key_slicer.proofs.key_state.put_in.Goals as goal

pub returns-then-not-all_count_events-clause-comes : goal.returns-then-not-all_count_events-clause-comes
returns-then-not-all_count_events-clause-comes g c = λ n.
    let d = c.args.defs.now in
    let some : list_all (λ w. is_events w.kind) d.windows ≡ false = sym c.all_count_events.ensures ∙ c.if-not-all_count_events.true in (
      n,
      Enters some (record { put = c.put.ensures.put; tuples = c.put.ensures.tuples; sliced = c.put.ensures.sliced; marks = c.put.ensures.marks; dropped = c.put.ensures.dropped }),
    )

pub returns-else-not-all_count_events-clause-comes : goal.returns-else-not-all_count_events-clause-comes
returns-else-not-all_count_events-clause-comes g c = λ n.
    let d = c.args.defs.now in
    let all : list_all (λ w. is_events w.kind) d.windows ≡ true = sym c.all_count_events.ensures ∙ c.if-not-all_count_events.false in
    (n + 1, Leaves all (c.requires.bare all))

pub returns-then-not-all_count_events-clause-enters : goal.returns-then-not-all_count_events-clause-enters
returns-then-not-all_count_events-clause-enters g c = λ joined. c.put.ensures.tuples
