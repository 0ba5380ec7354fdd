-- The reads of one watcher more.
use Rattle.std.proofs.Common.{◌∙◌, ◌<◌, [], ◌∷◌, ap, arith, drop, length, length-append, map, subst, sym}
use Rattle.std.specs.Prelude.{All}
use Rattle.std.proofs.lemmas.List.{drop_more}
use Rattle.live_board.proofs.EndFacts.{lists_push}
use Rattle.live_board.specs.Ending.{AreReadsIn}
use Rattle.live_board.proofs.finish.finish.Goals as goal

pub watchers-preserved : goal.watchers-preserved
watchers-preserved c =
    let all = c.args.watchers.items in
    let i = c.watchers.counter in
    let within : i < length all = omega (arith, c.watchers-test.true, c.len-end.ensures) in (
      c.remove-reader.ensures.by_index.2 ∙ ap (drop 1) (c.watchers.invariant.0 ∙ drop_more all i c.remove-reader.result within),
      omega (arith, c.watchers.invariant.1, ap length c.push_reserved.ensures.items, length-append c.watchers.lists.items (c.read_last.new.reads ∷ [])),
      omega (arith, c.push_reserved.ensures.capacity, c.watchers.invariant.2),
      subst (λ lists. All (AreReadsIn c.args.course.now c.args.many) (map (λ v. v.items) lists)) (sym c.push_reserved.ensures.items)
          (lists_push c.args.course.now c.args.many c.watchers.lists.items c.read_last.new.reads c.watchers.invariant.3 c.read_last.ensures.reads),
      c.read_last.ensures.all,
    )
