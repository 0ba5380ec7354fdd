-- What a tuple makes of the slices of a store.
use Rattle.std.specs.Prelude.{◌≡◌, ◌++◌, ℕ, List, ◌∷◌, filter}
use Rattle.stream_base.specs.declared.def.Def.{Def}
use Rattle.stream_base.specs.declared.kept.Kept.{Kept}
use Rattle.stream_base.specs.Model.Cuts.{has_cut}
use Rattle.stream_base.specs.Model.Journal.{put_in_order}
use Rattle.slice_lists.specs.Slices.{joined}
use Rattle.slice_lists.specs.Touched.{is_near}
use Rattle.agg_store.specs.Stored.{Stored}

-- the slices that a tuple at a time enters: those that it is near to
abbrev pub slices_near : List Def → ℕ → Stored → List (List Kept)
slices_near windows time s = filter (is_near (has_cut windows s.marks) time) s.slices

-- the slices that a tuple enters, which are neighbours, have become one with it in event order; where there is none it is a slice of its own; all other slices stay
pub record IsPut (windows : List Def) (old : Stored) (x : Kept) (new : Stored) : Type 0 where
  pub before : List (List Kept)
  pub behind : List (List Kept)
  pub was : old.slices ≡ before ++ (slices_near windows x.time old ++ behind)
  pub is : new.slices ≡ before ++ put_in_order (joined (slices_near windows x.time old)) x ∷ behind
