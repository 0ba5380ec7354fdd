-- When a tuple joins the last slice of a key.
use Rattle.std.specs.Prelude.{◌≡◌, ◌≤◌, ℕ, false, List}
use Rattle.std.specs.List.{Contains}
use Rattle.stream_base.specs.declared.def.Def.{Def}
use Rattle.stream_base.specs.declared.kept.Kept.{Kept}
use Rattle.stream_base.specs.Model.Cuts.{has_cut}
use Rattle.stream_base.specs.Limits.{Definitions}
use Rattle.agg_store.specs.Entered.{slices_near}
use Rattle.agg_store.specs.Stored.{Stored, tuples_of}
use Rattle.slice_store.specs.declared.placed.Placed.TheVariants.{Appended}
use Rattle.slice_store.specs.Placing.{is_last, placed_in}

-- a tuple of a store lies at or before a time, with no cut between the two
pub record Joins (windows : List Def) (s : Stored) (time : ℕ) : Type 0 where
  pub last : Kept
  pub has : Contains (tuples_of s) last
  pub behind : last.time ≤ time
  pub no_cut : has_cut windows s.marks last.time time ≡ false

-- a tuple at a time comes behind all others of a store, and joins their last slice
abbrev pub JoinsLast : Definitions → ℕ → Stored → Type 0
JoinsLast d time s = placed_in (slices_near d.windows time s) (is_last time s) ≡ Appended
