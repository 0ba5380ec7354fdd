-- The rows or the one list have a tuple more.
use Rattle.std.proofs.Common.{◌≡◌, rules, subst, sym, vec_capacity}
use Rattle.stream_base.specs.Laws.{TimesDoNotFall}
use Rattle.stream_base.specs.Model.Journal.{put_in_order}
use Rattle.tuple_chunks.proofs.HeldFacts.{few_held, rows_put}
use Rattle.tuple_chunks.proofs.Putting.{put_times}
use Rattle.tuple_chunks.proofs.tuples.Tuples.put.Goals as goal

pub invariant_of-self : goal.invariant_of-self
invariant_of-self c =
    let few = c.self.inside.few in
    rows_put few.items (vec_capacity few) c.self.inside.rows c.in-Some.rows c.put.new.self c.args.x c.in-Some.is c.self.invariant c.put.ensures

pub invariant_of-self-2 : goal.invariant_of-self-2
invariant_of-self-2 c =
    let few = c.self.inside.few in
    let more = c.put_tuple.new.tuples in
    let put : more.items ≡ put_in_order few.items c.args.x = search rules in
    few_held few.items more.items (vec_capacity few) (vec_capacity more) c.self.inside.rows c.self.invariant (subst TimesDoNotFall (sym put) (put_times few.items c.args.x c.self.invariant.ordered)) c.put_tuple.ensures.capacity
