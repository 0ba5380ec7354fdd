-- All entries were written, and each reader has its reads.
use Rattle.std.proofs.Common.{◌∙◌, length, map}
use Rattle.std.specs.Prelude.{Vec}
use Rattle.std.specs.declared.alloc.Global.{Global}
use Rattle.std.proofs.lemmas.List.{length-map}
use Rattle.live_board.proofs.WatchFacts.{watched_all}
use Rattle.live_board.specs.declared.tally.Tally.{Tally}
use Rattle.live_board.proofs.watch.end.Goals as goal

pub returns-in-Ok : goal.returns-in-Ok
returns-in-Ok g c =
    watched_all c.args.course.now c.args.author (length c.args.watchers.items) c.args.reads (map (λ v. v.items) c.finish.new.lists.items) (rw c.in-Ok.is at c.requires.written)
    (length-map c.finish.new.lists.items (λ (v : Vec Tally Global). v.items) ∙ c.finish.ensures.one_each) c.finish.ensures.reads
