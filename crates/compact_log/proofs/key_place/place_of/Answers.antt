-- The key that was found at the place stands at the number that tells it.
use Rattle.compact_log.proofs.Converted.{key_stands}
use Rattle.compact_log.proofs.key_place.place_of.Goals as goal

pub returns-then-is_same : goal.returns-then-is_same
returns-then-is_same c =
    key_stands c.args.keys.now c.args.key.now c.index-keys-place.result c.args.place c.short.result c.short.ensures (c.is_same.ensures c.if-is_same.true) c.index-keys-place.is c.if-place-keys.true
