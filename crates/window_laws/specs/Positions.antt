-- The positions of the tuples of a key.
use Rattle.std.specs.Prelude.{◌≢◌, ◌<◌, List, All, AllPairs}
use Rattle.stream_base.specs.declared.kept.Kept.{Kept}
use Rattle.stream_base.specs.declared.limits.TheConstants.{FINAL}
use Rattle.stream_base.specs.Laws.{TimesDoNotFall}

-- no two of the tuples have one position
abbrev pub HaveDistinctPositions : List Kept → Type 0
HaveDistinctPositions kept = AllPairs (λ x y. x.position ≢ y.position) kept

-- tuples as they are kept of a key: their times don't fall and lie before the final one, and no two have one position
pub record AreKept (kept : List Kept) : Type 0 where
  pub in_order : TimesDoNotFall kept
  pub early : All (λ x. x.time < FINAL) kept
  pub distinct : HaveDistinctPositions kept
