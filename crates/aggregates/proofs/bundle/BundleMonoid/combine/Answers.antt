-- What is combined are the bundles of the two lists.
use Rattle.std.proofs.Common.{rules}
use Rattle.aggregates.proofs.Bundles.{joined_bundles}
use Rattle.aggregates.proofs.bundle.BundleMonoid.combine.Goals as goal

pub returns-clause-joined : goal.returns-clause-joined
returns-clause-joined g c xs ys hx hy ex ey =
    joined_bundles _ c.args.self.now c.args.right.now (search rules) xs ys hx hy ex ey
