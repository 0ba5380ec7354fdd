-- Each entry of the shard's journal is of its one source.
use Rattle.std.proofs.Common.{◌<◌, All, subst}
use Rattle.stream_base.specs.declared.entry.Entry.{Entry}
use Rattle.tail_text_tests.proofs.texts.followed.Goals as goal

pub tails_of-requires-clause-known : goal.tails_of-requires-clause-known
tails_of-requires-clause-known c =
    subst (λ n. All (λ (e : Entry). e.source < n) c.args.shard.now.journal) c.requires.source ((c.journal_len-entries.ensures.journal).known).known_sources
