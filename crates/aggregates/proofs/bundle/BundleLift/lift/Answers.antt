-- One number's bundle is the bundle of the list that has this number alone.
use Rattle.std.proofs.Common.{rules}
use Rattle.aggregates.proofs.Bundles.{lifted_bundle}
use Rattle.aggregates.proofs.bundle.BundleLift.lift.Goals as goal

pub returns-clause-one : goal.returns-clause-one
returns-clause-one c = lifted_bundle _ c.args.value (search rules) c.ranges.value
