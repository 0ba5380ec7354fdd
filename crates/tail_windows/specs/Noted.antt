-- Which periods of keys are noted, by their ends.
use Rattle.std.specs.Prelude.{◌≡◌, ◌≤◌, ◌<◌, ℕ, List, [], Some, slice_get, unwrap_or}
use Rattle.std.specs.BTreeMap.{is_at}
use Rattle.std.specs.List.{Contains}
use Rattle.std.specs.Map.{lookup}
use Rattle.std.specs.Ordering.{nat_cmp}
use Rattle.stream_base.specs.declared.entry.Entry.{Entry}
use Rattle.watermark_table.specs.Watched as table
use Rattle.watermark_table.specs.Watched.{Watched}
use Rattle.tail_windows.specs.Following.{list_of}
use Rattle.tail_windows.specs.Samples.{ends_in}
use Rattle.tail_windows.specs.declared.sample.Sample.{Sample}

-- the keys that are noted at an end
abbrev pub keys_at : List (ℕ × List (List ℕ)) → ℕ → List (List ℕ)
keys_at batches at = unwrap_or (lookup (is_at (nat_cmp at)) batches) []

abbrev pub IsNoted : List (ℕ × List (List ℕ)) → ℕ → List ℕ → Type 0
IsNoted batches at key = Contains (keys_at batches at) key

-- the first end is reached by a watermark
abbrev pub IsReached : List (ℕ × List (List ℕ)) → ℕ → Type 0
IsReached batches water = (e : ℕ × List (List ℕ)) × (slice_get batches 0 ≡ Some e) × (e.0 ≤ water)

-- each period of a key that holds a sample, and ends after a watermark, is noted
abbrev pub AreNoted : ℕ → List (List ℕ × List Sample) → List (ℕ × List (List ℕ)) → ℕ → Type 0
AreNoted period lists batches water = (key : List ℕ) (at : ℕ) → Contains (ends_in period (list_of lists key)) at → water < at → IsNoted batches at key

-- a table of watermarks stands for a journal, so its watermark never falls, and the periods that end after it are noted
pub record IsReady (period : ℕ) (waters : Watched) (lists : List (List ℕ × List Sample)) (batches : List (ℕ × List (List ℕ))) : Type 0 where
  pub journal : List Entry
  pub stands : table.StandsFor waters journal
  pub noted : AreNoted period lists batches waters.water
