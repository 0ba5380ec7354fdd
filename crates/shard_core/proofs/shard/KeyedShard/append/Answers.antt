-- One entry more, with its changes.
use Rattle.std.proofs.Common.{◌≡◌, ◌∙◌, ◌++◌, ◌∷◌, [], ap, arith, length, length-append, rules, subst}
use Rattle.stream_base.specs.Model.Changes.{changes_after}
use Rattle.shard_core.specs.Flat.{sharded}
use Rattle.shard_core.specs.Shard.{IsNext}
use Rattle.shard_core.specs.Work.{IsProgressWithin, IsTupleWithin}
use Rattle.shard_core.proofs.Journals.{journal_push}
use Rattle.shard_core.proofs.Shards.{longer_shard}
use Rattle.shard_core.proofs.shard.KeyedShard.append.Goals as goal

pub take_in-requires-clause-comes : goal.take_in-requires-clause-comes
take_in-requires-clause-comes g c = record {
  current = rw (c.reserve.ensures.same.defs, c.reserve.ensures.same.sources, c.reserve.ensures.journal) c.self.invariant.0.keys_are;
  known = rw c.reserve.ensures.same.sources (rw (← c.self.view_is) at c.requires.known);
}

pub invariant_of-self-2 : goal.invariant_of-self-2
invariant_of-self-2 g c =
    let end : c.len-end.result ≡ length c.take_in.new.told.log.items = omega arith in (
      longer_shard g.K.KeyWindows.key_of g.K.KeyWindows.fits g.K.KeyWindows.next_position c.self.inside.past c.reserve.new.self c.push.new.self c.args.entry.now c.take_in.new.self
          c.self.inside.told.log.items c.take_in.new.told.log.items c.self.inside.ends.items c.push_reserved.new.self.items
          c.self.invariant.0.limits c.self.invariant.0.changes_are c.self.invariant.0.ends_are
          c.reserve.ensures.same c.reserve.ensures.journal c.push.ensures.same c.push.ensures.journal
          c.in_ok-place.ensures.taken.taken c.in_ok-place.ensures.taken.changes
          (c.push_reserved.ensures.items ∙ ap (λ l. l ++ c.len-end.result ∷ []) c.reserve-2.ensures.items ∙ ap (λ n. c.self.inside.ends.items ++ n ∷ []) end),
      c.take_in.ensures.settled,
    )

pub returns : goal.returns
returns g c = record {
  applied = search rules;
  journal =
      let ready = c.reserve.new.self in
      let next : IsNext ready.sources ready.journal c.args.entry.now = rw (c.reserve.ensures.same.sources, c.reserve.ensures.journal) (rw (← c.self.view_is) at c.requires) in
      rw (c.push.ensures.same.sources, c.push.ensures.journal) (journal_push ready.sources ready.journal c.args.entry.now c.len.ensures.journal next);
  position = search rules;
  changes =
      let old = c.self.inside.past in
      let ready = c.reserve.new.self in
      let e = c.args.entry.now in
      let same = c.reserve.ensures.same in
      let more = changes_after ready.defs ready.sources ready.journal e in
      let alike : length more ≡ length (changes_after old.defs old.sources old.journal e) = λ i. length (changes_after (same.defs i) (same.sources i) (c.reserve.ensures.journal i) e) in
      rw (← c.self.view_is) (omega (arith, alike, ap length c.in_ok-place.ensures.taken.changes, length-append c.self.inside.told.log.items more));
  refused = search rules;
  tuple_work =
      let same = c.reserve.ensures.same in
      let alike : sharded c.reserve.new.self ≡ sharded c.self.inside.past = λ i. record { defs = same.defs i; sources = same.sources i; journal = c.reserve.ensures.journal i } in
      rw (← c.self.view_is) (subst (λ s. IsTupleWithin g.K.KeyWindows.bounds_put s c.args.entry.now c.args.steps.now c.take_in.new.steps) alike c.in_ok-place.ensures.tuple_work);
  mark_work = search rules;
  move_work =
      let same = c.reserve.ensures.same in
      let alike : sharded c.reserve.new.self ≡ sharded c.self.inside.past = λ i. record { defs = same.defs i; sources = same.sources i; journal = c.reserve.ensures.journal i } in
      rw (← c.self.view_is) (subst (λ s. IsProgressWithin g.K.KeyWindows.bounds_move s c.args.entry.now c.args.steps.now c.take_in.new.steps) alike c.in_ok-place.ensures.move_work);
  late_work = search rules;
  still_work = search rules;
  refused_work = search rules;
}
