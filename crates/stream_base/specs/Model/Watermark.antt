-- Watermarks: of a source, and of a journal of several sources.
use Rattle.std.specs.Prelude.{◌==◌, ◌&&◌, ℕ, Bool, false, max, min, not, List, [], ◌∷◌, ◌++◌, Option, None, Some, filter, fold, map, if◌then◌else◌}
use Rattle.std.specs.List.{list_all, list_any, range_with_len}
use Rattle.std.specs.Option.{option_map_or}
use Rattle.stream_base.specs.declared.limits.TheConstants.{FINAL}
use Rattle.stream_base.specs.declared.entry.Entry.{Entry}
use Rattle.stream_base.specs.declared.what.What.{What}
use Rattle.stream_base.specs.Model.What.{is_end, is_idle_word, is_progress, water_time}

-- whether the journal has the end of a source
abbrev pub has_ended : ℕ → List Entry → Bool
has_ended source journal = list_any (λ e. e.source == source && is_end e.what) journal

-- the greatest time of a source's watermark entries, and 0 where it has none
abbrev pub latest_water : ℕ → List Entry → ℕ
latest_water source journal = fold (λ latest e. if e.source == source then max latest (water_time e.what) else latest) 0 journal

-- the watermark of a source: final where the journal has its end, else the greatest time of its watermark entries
unfoldable pub source_water : ℕ → List Entry → ℕ
source_water source journal = if has_ended source journal then FINAL else latest_water source journal

-- the last word of a source on its progress: a watermark, that it is idle, or its end
abbrev pub last_progress : ℕ → List Entry → Option What
last_progress source journal = fold (λ last e. if e.source == source && is_progress e.what then Some e.what else last) None journal

-- a source is idle where that word says so
unfoldable pub is_idle : ℕ → List Entry → Bool
is_idle source journal = option_map_or is_idle_word (last_progress source journal) false

-- a source holds the watermark back unless it has ended or is idle
abbrev pub is_awake : List Entry → ℕ → Bool
is_awake journal source = not (has_ended source journal) && not (is_idle source journal)

-- the watermarks of the sources that are awake, in the order of the sources
abbrev pub awake_waters : ℕ → List Entry → List ℕ
awake_waters sources journal = map (λ source. source_water source journal) (filter (is_awake journal) (range_with_len 0 sources))

-- the least of the numbers, and 0 where there is none
abbrev pub least_or_zero : List ℕ → ℕ
least_or_zero [] = 0
least_or_zero (n ∷ ns) = fold min n ns

-- all sources have ended
abbrev pub all_ended : ℕ → List Entry → Bool
all_ended sources journal = list_all (λ source. has_ended source journal) (range_with_len 0 sources)

-- the least watermark of the sources that are awake: final where all have ended, and 0 where those that haven't are idle
unfoldable pub least_water : ℕ → List Entry → ℕ
least_water sources journal = if all_ended sources journal then FINAL else least_or_zero (awake_waters sources journal)

-- a list, and each that is longer by one more of the elements behind it
abbrev pub prefixes_from : {X : Type 0} → List X → List X → List (List X)
prefixes_from before [] = before ∷ []
prefixes_from before (x ∷ xs) = before ∷ prefixes_from (before ++ x ∷ []) xs

-- the watermark of a journal: the greatest that this least one was, over all prefixes of the journal, so that it never falls
unfoldable pub water_of : ℕ → List Entry → ℕ
water_of sources journal = fold max 0 (map (least_water sources) (prefixes_from [] journal))
