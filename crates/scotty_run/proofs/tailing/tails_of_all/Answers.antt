-- The tails of one shard more.
use Rattle.std.proofs.Common.{◌≡◌, ◌∙◌, ◌<◌, ◌++◌, [], ◌∷◌, ℕ, length, map, take, get_or, All, ap, subst, sym}
use Rattle.std.proofs.lemmas.List.{map_more, take_all, map-append}
use Rattle.stream_base.specs.declared.entry.Entry.{Entry}
use Rattle.shard_core.specs.Shard.{Sharded}
use Rattle.tail_text.specs.Texts.{in_vectors, tail_changes_in}
use Rattle.scotty_run.proofs.tailing.tails_of_all.Goals as goal

pub tails_of_one-requires : goal.tails_of_one-requires
tails_of_one-requires g c =
    subst (λ (s : Sharded). All (λ (e : Entry). e.source < length (c.args.command.now).sources) s.journal) (sym c.shard-item.is)
    (c.requires c.loop-shard.shard-index c.shard-item.result c.loop-shard-test.true)
