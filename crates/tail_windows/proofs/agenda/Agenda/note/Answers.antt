-- The key comes to the batch of the end.
use Rattle.tail_windows.proofs.Noting.{key_noted, noted_with_key}
use Rattle.tail_windows.proofs.agenda.Agenda.note.Goals as goal

pub returns-clause-kept : goal.returns-clause-kept
returns-clause-kept c a k d =
    noted_with_key c.add_there.result c.make_batch.new.self c.add_there.new.self c.args.at c.args.key.now c.add_there.ensures.added c.add_there.ensures.refused a k
    (c.make_batch.ensures.kept a k d)

pub returns-clause-noted : goal.returns-clause-noted
returns-clause-noted c later = key_noted c.add_there.result c.make_batch.new.self c.add_there.new.self c.args.at c.args.key.now c.add_there.ensures.added c.add_there.ensures.refused
