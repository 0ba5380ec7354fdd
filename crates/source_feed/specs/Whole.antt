-- Sources that are read whole.
use Rattle.std.specs.Prelude.{◌≡◌, ◌≤◌, ◌+◌, ◌++◌, ℕ, Bool, true, false, List, length}
use Rattle.outside.specs.Outside.{Reads}

-- a source gave these bytes more, and then its end or not
abbrev pub with_given : List ℕ → Bool → Reads → Reads
with_given bytes ended reads = record reads { given = reads.given ++ bytes; ended = ended }

-- a source gave one byte more than the limit
pub record PassesLimit (limit : ℕ) (old new : Reads) : Type 0 where
  pub taken : List ℕ
  pub many : length taken ≡ limit + 1
  pub given : new ≡ with_given taken false old

-- a source was read on: it gave more, or nothing, and its count of failed reads hasn't fallen
pub record GoesOn (old new : Reads) : Type 0 where
  pub place : new.place ≡ old.place
  pub more : List ℕ
  pub given : new.given ≡ old.given ++ more
  pub never_falls : old.faults ≤ new.faults
