-- A shard with its numbers by its fields.
use Rattle.std.specs.Prelude.{◌≡◌, ℕ, All, length}
use Rattle.stream_base.specs.declared.entry.Entry.{Entry}
use Rattle.shard_core.specs.Shard.{IsJournal}
use Rattle.fan_in.specs.Desks.{BookedState, items_of}
use Rattle.fan_in.specs.NumberLogs.{numbers_in}
use Rattle.fan_in.specs.declared.booked.BookedBy.TheInside.{Inside}

module _ {N : Type 0} where
  abbrev pub booked_state : Inside N → BookedState
  booked_state a = record { shard = a.shard; numbers = numbers_in a.numbers }

  -- each entry has a number, one that it may have, and the journal is one of a shard
  pub record IsBooked (may : ℕ → Entry → Type 0) (a : Inside N) : Type 0 where
    pub numbered : length (numbers_in a.numbers) ≡ length (a.shard).journal
    pub journal : IsJournal (a.shard).sources (a.shard).journal
    pub made : All (λ item. may item.0 item.1) (items_of (booked_state a))
