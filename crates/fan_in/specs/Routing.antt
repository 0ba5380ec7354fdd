-- The one shard to which an entry goes, or each of them.
use Rattle.std.specs.Prelude.{◌≡◌, ◌==◌, ◌<◌, ℕ, true, Option}
use Rattle.std.specs.Option.{option_map_or}
use Rattle.stream_base.specs.declared.what.What.{What}
use Rattle.stream_base.specs.Model.Routes.{goes_to}

-- among so many shards an entry goes to this one alone; where none is named, it goes to each
abbrev pub IsOnlyShard : ℕ → What → Option ℕ → Type 0
IsOnlyShard shards what only = (k : ℕ) → k < shards → option_map_or (λ shard. shard == k) only true ≡ goes_to shards k what
