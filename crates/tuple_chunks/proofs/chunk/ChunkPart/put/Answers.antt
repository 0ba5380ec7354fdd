-- Times don't fall with one tuple more, and no sum is kept.
use Rattle.std.proofs.Common.{◌≡◌, Option, rules, subst, sym}
use Rattle.stream_base.specs.Laws.{TimesDoNotFall}
use Rattle.stream_base.specs.Model.Journal.{put_in_order}
use Rattle.aggregates.specs.Bundled.{Bundled}
use Rattle.tuple_chunks.specs.Sums.{IsKeptSum}
use Rattle.tuple_chunks.proofs.Putting.{put_times}
use Rattle.tuple_chunks.proofs.chunk.ChunkPart.put.Goals as goal

pub invariant_of-self : goal.invariant_of-self
invariant_of-self c =
    let kept = c.self.inside.tuples.items in
    let put : c.put_tuple.new.tuples.items ≡ put_in_order kept c.args.x = search rules in
    (subst TimesDoNotFall (sym put) (put_times kept c.args.x c.self.invariant.0), subst (λ (sum : Option Bundled). IsKeptSum sum c.put_tuple.new.tuples.items) (sym c.forget.ensures) tt)
