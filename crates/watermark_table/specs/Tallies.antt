-- The least watermark of sources, one source after another.
use Rattle.std.specs.Prelude.{ℕ, true, false, min, List, Option, None, Some, fold, unwrap_or, if◌then◌else◌}
use Rattle.stream_base.specs.declared.limits.TheConstants.{FINAL}
use Rattle.watermark_table.specs.declared.standing.Standing.{Standing}
use Rattle.watermark_table.specs.declared.standing.Standing.TheVariants.{Awake, Idle, Ended}
use Rattle.watermark_table.specs.declared.tally.Tally.{Tally}

-- no source: nobody is awake, and none has not ended
abbrev pub no_source : Tally
no_source = record { least = None; all_ended = true }

abbrev pub lesser : Option ℕ → ℕ → ℕ
lesser None water = water
lesser (Some other) water = min other water

-- one source more
abbrev pub with_standing : Tally → Standing → Tally
with_standing tally (Awake water) = record { least = Some (lesser tally.least water); all_ended = false }
with_standing tally (Idle water) = record { least = tally.least; all_ended = false }
with_standing tally Ended = tally

abbrev pub tallied : Tally → List Standing → Tally
tallied tally standings = fold with_standing tally standings

-- the watermark of the sources of a tally
abbrev pub least_of : Tally → ℕ
least_of tally = if tally.all_ended then FINAL else unwrap_or tally.least 0
