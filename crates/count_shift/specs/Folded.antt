-- Values folded one after another.
use Rattle.std.specs.Prelude.{List, fold}
use Rattle.stream_base.specs.declared.kept.Kept.{Kept}
use Rattle.aggregates.specs.Bundled.{Bundled, bundle_of_number, bundles_combined}

-- what the nine functions make of some values and then those of the tuples
abbrev pub folded_onto : Bundled → List Kept → Bundled
folded_onto bundle run = fold (λ b x. bundles_combined b (bundle_of_number x.value)) bundle run
