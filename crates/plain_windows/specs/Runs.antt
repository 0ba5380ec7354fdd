-- The runs of tuples that sessions are made of, and the edges of the intervals between marks.
use Rattle.std.specs.Prelude.{◌≡◌, ◌≤◌, ◌<◌, ◌-◌, ℕ, Bool, List, [], ◌∷◌, ◌++◌, drop, length, nat_le, take}
use Rattle.std.specs.Ordering.{nat_cmp}
use Rattle.stream_base.specs.declared.kept.Kept.{Kept}
use Rattle.stream_base.specs.declared.limits.TheConstants.{FINAL}
use Rattle.stream_base.specs.Model.Journal.{rising}
use Rattle.stream_base.specs.Model.Windows.{pieces_of}

-- two neighbours are apart where they differ by the gap or more
abbrev pub is_apart : ℕ → Kept → Kept → Bool
is_apart gap x y = nat_le gap (y.time - x.time)

-- the runs of tuples whose neighbours lie less than the gap apart
abbrev pub runs_of : ℕ → List Kept → List (List Kept)
runs_of gap kept = pieces_of (is_apart gap) kept

-- of the tuples from a place on, the first run is that up to another place
pub record IsFirstRun (gap : ℕ) (kept : List Kept) (first end : ℕ) : Type 0 where
  pub behind : first < end
  pub within : end ≤ length kept
  pub run : runs_of gap (drop first kept) ≡ take (end - first) (drop first kept) ∷ runs_of gap (drop end kept)

-- 0, the marks and the final time, rising: a marks window's intervals lie between successive ones
unfoldable pub edges_of : List ℕ → List ℕ
edges_of marks = rising nat_cmp (0 ∷ marks ++ FINAL ∷ [])
