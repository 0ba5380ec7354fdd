-- What becomes of a store whose slices before a time are dropped.
use Rattle.std.specs.Prelude.{◌≡◌, ℕ, max}
use Rattle.slice_lists.specs.Touched.{marks_left, slices_from}
use Rattle.agg_store.specs.Stored.{Stored}

-- the slices before a time have left the store, and the marks at or before it other than the greatest of them
pub record IsDropped (time : ℕ) (before after : Stored) : Type 0 where
  pub slices : after.slices ≡ slices_from time before.slices
  pub marks : after.marks ≡ marks_left time before.marks
  pub dropped : after.dropped ≡ max before.dropped time
