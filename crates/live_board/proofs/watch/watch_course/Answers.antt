-- What may be watched can be written, and what was read can be ended.
use Rattle.std.proofs.Common.{◌≡◌, ◌∙◌, ap, arith, drop, length, map, subst, sym}
use Rattle.std.specs.Prelude.{All, IfOk}
use Rattle.live_board.proofs.WatchFacts.{entries_from, may_end, whole_back}
use Rattle.live_board.specs.Rule.{sources_of}
use Rattle.live_board.specs.Watched.{IsWatched}
use Rattle.live_board.specs.Watching.{IsReady, MayEnd}
use Rattle.live_board.proofs.watch.watch_course.Goals as goal

pub write_beside-author-requires-clause-entries : goal.write_beside-author-requires-clause-entries
write_beside-author-requires-clause-entries g c κs within = entries_from c.args.readers c.args.reads (sources_of c.args.course.now) c.requires.may c.requires.few

pub end-requires-clause-watched : goal.end-requires-clause-watched
end-requires-clause-watched g c =
    let new = c.write_beside-author.new.watchers in
    let old = c.in-Ok.watchers.items in
    let course = c.args.course.now in
    let size : c.in-Ok.watchers.len ≡ length new = omega (arith, c.write_beside-author.ensures.same, ap length c.as_mut_slice.ensures.value, c.in-Ok.watchers.ok.0) in
    subst (All (λ w. MayEnd course c.args.reads w.reads)) (sym (whole_back c.in-Ok.watchers.len new (drop (length new) old) size))
    (may_end course c.args.reads c.as_mut_slice.result.now new c.write_beside-author.ensures.same
    (subst (All (IsReady course c.args.reads)) (sym c.as_mut_slice.ensures.value) c.in-Ok.ensures.ready) c.write_beside-author.ensures.watched)

pub returns-in-Ok : goal.returns-in-Ok
returns-in-Ok g c =
    let new = c.write_beside-author.new.watchers in
    let old = c.in-Ok.watchers.items in
    let course = c.args.course.now in
    let size : c.in-Ok.watchers.len ≡ length new = omega (arith, c.write_beside-author.ensures.same, ap length c.as_mut_slice.ensures.value, c.in-Ok.watchers.ok.0) in
    subst (λ n. IfOk c.end.result (λ w. IsWatched (course.defs).now (sources_of course) n c.args.reads w.shard (map (λ v. v.items) w.reads.items)))
    (ap length (whole_back c.in-Ok.watchers.len new (drop (length new) old) size) ∙ c.write_beside-author.ensures.same ∙ ap length c.as_mut_slice.ensures.value ∙ c.in-Ok.ensures.as_many)
    c.end.ensures
