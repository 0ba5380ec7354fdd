-- The readers of all feeds, each with its row of ports.
use Rattle.std.specs.Prelude.{◌≡◌, ◌≤◌, ◌<◌, ℕ, List, length, slice_index_or, Vec}
use Rattle.std.specs.declared.alloc.Global.{Global}
use Rattle.source_feed.specs.FeedView.{FeedView}
use Rattle.fan_in.specs.declared.gathered.FeedEnd.{FeedEnd}
use Rattle.fan_in.specs.declared.outcome.Outcome.TheVariants.{Done}
use Rattle.fan_in.specs.declared.port.Port.{Ghosts}
use Rattle.fan_in.specs.declared.reader.Reader.{Reader}
use Rattle.fan_in.specs.Reading.{IsReadyAt, WasRead}

-- `state` and `faults` are those of the feeds
module _ {F P I : Type 0} (port : Ghosts P I) (state : F → FeedView) where
  -- a reader may read its feed, and hand the entries in at these inlets
  abbrev pub MayRead : List I → Reader F P → Type 0
  MayRead inlets reader = IsReadyAt port inlets (state reader.feed) reader.outcome (reader.ports).items

  -- at least one feed, and for each a row of ports with which it may be read
  pub record AreReady (inlets : List I) (feeds : List F) (rows : List (Vec P Global)) : Type 0 where
    pub some : 1 ≤ length feeds
    pub one_each : length rows ≡ length feeds
    pub ready : (i : ℕ) (f : F) (row : Vec P Global) → i < length feeds → IsReadyAt port inlets (state (slice_index_or feeds i f)) Done (slice_index_or rows i row).items

  module _ (faults : F → ℕ) where
    -- a reader has read its feed
    abbrev pub HasRead : ℕ → Reader F P → Reader F P → Type 0
    HasRead shards old new = WasRead port shards (state old.feed) (state new.feed) (faults old.feed) (faults new.feed) new.outcome (old.ports).items (new.ports).items

    -- each of these has
    pub record HaveRead (shards : ℕ) (old new : List (Reader F P)) : Type 0 where
      pub many : length new ≡ length old
      pub read : (i : ℕ) (r : Reader F P) → i < length old → HasRead shards (slice_index_or old i r) (slice_index_or new i r)

    -- these feeds were read with these rows, and came back in order with their outcomes and the rows
    pub record AreReadOut (shards : ℕ) (feeds : List F) (rows : List (Vec P Global)) (ends : List (FeedEnd F)) (back : List (Vec P Global)) : Type 0 where
      pub many_ends : length ends ≡ length feeds
      pub many_rows : length back ≡ length feeds
      pub read : (i : ℕ) (f : F) (row : Vec P Global) (e : FeedEnd F) (r : Vec P Global) → i < length feeds
          → let start = slice_index_or feeds i f in let end = slice_index_or ends i e in
          WasRead port shards (state start) (state end.feed) (faults start) (faults end.feed) end.outcome (slice_index_or rows i row).items (slice_index_or back i r).items
