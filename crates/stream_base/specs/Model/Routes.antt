-- Which shard an entry goes to, and which journals are lawful.
use Rattle.std.specs.Prelude.{◌≡◌, ◌<◌, ◌+◌, ◌*◌, ◌%◌, ◌^◌, ◌==◌, ℕ, Bool, true, List, length, fold, filter, slice_index_or, []}
use Rattle.std.specs.Option.{option_map_or}
use Rattle.stream_base.specs.declared.entry.Entry.{Entry}
use Rattle.stream_base.specs.declared.what.What.{What}
use Rattle.stream_base.specs.Model.What.{key_in}

-- the number of a key: for each byte in order, 31 times the number before plus the byte, modulo 2^32
abbrev pub number_of : List ℕ → ℕ
number_of key = fold (λ number byte. (31 * number + byte) % 2 ^ 32) 0 key

-- the shard of a key, among so many
abbrev pub shard_of : List ℕ → ℕ → ℕ
shard_of key shards = number_of key % shards

-- an entry goes to a shard: a tuple or mark to the shard of its key, and a word on the progress of its source to every shard
abbrev pub goes_to : ℕ → ℕ → What → Bool
goes_to shards k what = option_map_or (λ key. shard_of key shards == k) (key_in what) true

-- the entries of one source that go to a shard, in the source's order
abbrev pub routed : ℕ → ℕ → List Entry → List Entry
routed shards k entries = filter (λ e. goes_to shards k e.what) entries

-- the entries of a journal that came from a source, in order
abbrev pub entries_from : ℕ → List Entry → List Entry
entries_from source journal = filter (λ e. e.source == source) journal

-- the journals of all shards hold each source's routed entries, once each and in that source's order, and no others
pub record IsLawful (shards : ℕ) (sources : List (List Entry)) (journals : List (List Entry)) : Type 0 where
  pub count : length journals ≡ shards
  pub known : (k i : ℕ) (e : Entry) → k < length journals → i < length (slice_index_or journals k []) → (slice_index_or (slice_index_or journals k []) i e).source < length sources
  pub held : (k s : ℕ) → k < length journals → s < length sources → entries_from s (slice_index_or journals k []) ≡ routed shards k (slice_index_or sources s [])
