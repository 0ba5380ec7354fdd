-- The changes lie between two ends.
use Rattle.std.proofs.Common.{◌∙◌, ◌<◌, length}
use Rattle.shard_core.proofs.FlatFacts.{ends_within, has_end, part_is, starts_before}
use Rattle.shard_core.proofs.shard.KeyedShard.changes_at.Goals as goal

pub part_of-requires-clause-known : goal.part_of-requires-clause-known
part_of-requires-clause-known g c =
    let past = c.self.inside.past in
    let known : c.args.position < length past.journal = rw (← c.self.view_is) at c.requires in
    has_end past.defs past.sources past.journal c.self.inside.told.log.items c.deref.result.now c.self.invariant.0.changes_are (c.deref.ensures.value ∙ c.self.invariant.0.ends_are) c.args.position known

pub part_of-requires-clause-rises : goal.part_of-requires-clause-rises
part_of-requires-clause-rises g c =
    let past = c.self.inside.past in
    let known : c.args.position < length past.journal = rw (← c.self.view_is) at c.requires in
    starts_before past.defs past.sources past.journal c.self.inside.told.log.items c.deref.result.now c.self.invariant.0.changes_are (c.deref.ensures.value ∙ c.self.invariant.0.ends_are) c.args.position known

pub part_of-requires-clause-within : goal.part_of-requires-clause-within
part_of-requires-clause-within g c =
    let past = c.self.inside.past in
    let known : c.args.position < length past.journal = rw (← c.self.view_is) at c.requires in
    ends_within past.defs past.sources past.journal c.self.inside.told.log.items c.deref.result.now c.self.invariant.0.changes_are (c.deref.ensures.value ∙ c.self.invariant.0.ends_are) c.args.position known

pub returns : goal.returns
returns g c =
    let past = c.self.inside.past in
    let known : c.args.position < length past.journal = rw (← c.self.view_is) at c.requires in
    rw (← c.self.view_is) (c.part_of.ensures ∙ part_is past.defs past.sources past.journal c.self.inside.told.log.items c.deref.result.now c.self.invariant.0.changes_are (c.deref.ensures.value ∙ c.self.invariant.0.ends_are) c.args.position known)
