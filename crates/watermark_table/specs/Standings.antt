-- Where the sources of a journal stand.
use Rattle.std.specs.Prelude.{ℕ, Bool, true, false, max, List, map, if◌then◌else◌}
use Rattle.std.specs.List.{range_with_len}
use Rattle.stream_base.specs.declared.entry.Entry.{Entry}
use Rattle.stream_base.specs.Model.Watermark.{has_ended, is_idle, source_water}
use Rattle.watermark_table.specs.declared.standing.Standing.{Standing}
use Rattle.watermark_table.specs.declared.standing.Standing.TheVariants.{Awake, Idle, Ended}

-- a source that has ended, or is idle or awake with its own watermark
abbrev pub standing : Bool → Bool → ℕ → Standing
standing has_ended is_idle water = if has_ended then Ended else if is_idle then Idle water else Awake water

-- where a source stands after a journal
abbrev pub standing_in : List Entry → ℕ → Standing
standing_in journal source = standing (has_ended source journal) (is_idle source journal) (source_water source journal)

-- where all sources stand, in their order
abbrev pub standings_in : ℕ → List Entry → List Standing
standings_in sources journal = map (standing_in journal) (range_with_len 0 sources)

-- a source after a watermark: it is awake, unless it has ended
abbrev pub raised : ℕ → Standing → Standing
raised time (Awake water) = Awake (max water time)
raised time (Idle water) = Awake (max water time)
raised time Ended = Ended

-- a source after the word that it is idle
abbrev pub rested : Standing → Standing
rested (Awake water) = Idle water
rested (Idle water) = Idle water
rested Ended = Ended

abbrev pub is_ended : Standing → Bool
is_ended (Awake water) = false
is_ended (Idle water) = false
is_ended Ended = true
