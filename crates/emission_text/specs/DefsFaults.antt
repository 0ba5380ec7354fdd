-- The words of refused definitions and records.
use Rattle.std.specs.Prelude.{ℕ, List, [], ◌∷◌, codes, decimal, Option}
use Rattle.std.specs.Option.{option_map_or}
use Rattle.source_feed.specs.declared.row_why.RowWhy.{RowWhy}
use Rattle.source_feed.specs.declared.row_why.RowWhy.TheVariants.{Kind, Fields, Time, Value, Key}
use Rattle.window_defs.specs.declared.defs_fault.DefsFault.{DefsFault}
use Rattle.window_defs.specs.declared.defs_fault.DefsFault.TheVariants.{Long, Toml, Shape, Many, Limit, NoMemory}

-- a place: its number, or a word where it has none
abbrev pub place_text : List ℕ → Option ℕ → List ℕ
place_text word place = option_map_or decimal place word

-- the words of refused definitions
abbrev pub defs_words : DefsFault → List (List ℕ)
defs_words Long = codes "defs" ∷ codes "long" ∷ []
defs_words Toml = codes "defs" ∷ codes "toml" ∷ []
defs_words Many = codes "defs" ∷ codes "many" ∷ []
defs_words (Shape window) = codes "defs" ∷ codes "shape" ∷ place_text (codes "top") window ∷ []
defs_words (Limit window) = codes "defs" ∷ codes "limit" ∷ place_text (codes "top") window ∷ []
defs_words NoMemory = codes "memory" ∷ []

-- the word for why a record is refused
abbrev pub why_text : RowWhy → List ℕ
why_text Kind = codes "kind"
why_text Fields = codes "fields"
why_text Time = codes "time"
why_text Value = codes "value"
why_text Key = codes "key"
