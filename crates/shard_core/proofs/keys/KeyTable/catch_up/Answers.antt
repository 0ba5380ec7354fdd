-- Nothing is due up to the watermark of the past, so the state stands there as it is.
use Rattle.std.proofs.Common.{get_or, refl, subst, sym, arith}
use Rattle.std.proofs.lemmas.List.{set-get_or}
use Rattle.stream_base.specs.Model.Moments.{IsWater}
use Rattle.shard_core.specs.Engines.{IsCurrent}
use Rattle.shard_core.proofs.Advance.{noted}
use Rattle.shard_core.proofs.Places.{current_at, replaced, same_for}
use Rattle.shard_core.proofs.keys.KeyTable.catch_up.Goals as goal

pub returns-clause-current : goal.returns-clause-current
returns-clause-current g c =
    let key_of = g.K.KeyWindows.key_of in
    let fits = g.K.KeyWindows.fits in
    let next = g.K.KeyWindows.next_position in
    let past = c.args.past.now in
    let d = past.defs in
    let table = c.args.self.now in
    let key = c.requires.place.0 in
    let place = c.args.place in
    let due = get_or table.dues.items place 0 in
    let slot = c.index_mut.result.now in
    let was : IsCurrent key_of fits next d past.sources past.journal key slot due = current_at key_of fits next d past.sources past.journal table key place slot c.requires.current c.requires.place.1 c.index_mut.ensures.value in
    replaced key_of fits next d past.sources past.journal past.journal table _ key place _ due c.requires.current c.requires.place.1 refl refl
    (sym (set-get_or table.dues.items place 0)) (λ q ne. same_for d past.sources past.journal q) (omega arith) refl
    (noted key_of fits next d past.sources past.journal c.water.ensures.limits key slot due was _ refl c.water.ensures.value (subst IsWater c.water.ensures.value c.water.ensures.is_water))
