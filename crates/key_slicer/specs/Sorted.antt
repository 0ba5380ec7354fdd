-- Which changes are retractions.
use Rattle.std.specs.Prelude.{◌++◌, Bool, List, true, false, filter, not}
use Rattle.stream_base.specs.declared.change.Change.{Change}
use Rattle.stream_base.specs.declared.change.Change.TheVariants.{Gone, New, Again, Dropped}

-- a retraction
abbrev pub is_gone : Change → Bool
is_gone (Gone row) = true
is_gone (New row) = false
is_gone (Again row former) = false
is_gone Dropped = false

-- all retractions of these changes, and then all others
abbrev pub gone_first : List Change → List Change
gone_first changes = filter is_gone changes ++ filter (λ change. not (is_gone change)) changes
