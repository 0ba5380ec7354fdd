-- The lines of faults.
use Rattle.std.specs.Prelude.{ℕ, List, [], ◌∷◌, codes, decimal}
use Rattle.stream_base.specs.Model.Text.{line_of}
use Rattle.emission_text.specs.DefsFaults.{defs_words, place_text, why_text}
use Rattle.emission_text.specs.declared.fault.Fault.{Fault}
use Rattle.emission_text.specs.declared.fault.Fault.TheVariants.{Usage, Defs, Unopened, Row, Read, FullSource, FullShard, ReportOpen, ReportRead, ReportFull, NoMemory}

-- the words of a fault
abbrev pub fault_words : Fault → List (List ℕ)
fault_words Usage = codes "usage" ∷ []
fault_words (Defs fault) = defs_words fault
fault_words (Unopened place) = codes "open" ∷ place_text (codes "defs") place ∷ []
fault_words (Row source number why) =
    codes "row" ∷ decimal source ∷ decimal number ∷ why_text why ∷ []
fault_words (Read place) = codes "read" ∷ place_text (codes "defs") place ∷ []
fault_words (FullSource source) = codes "full" ∷ codes "source" ∷ decimal source ∷ []
fault_words (FullShard shard) = codes "full" ∷ codes "shard" ∷ decimal shard ∷ []
fault_words ReportOpen = codes "open" ∷ codes "report" ∷ []
fault_words ReportRead = codes "read" ∷ codes "report" ∷ []
fault_words ReportFull = codes "full" ∷ codes "report" ∷ []
fault_words NoMemory = codes "memory" ∷ []

-- the line of a fault
abbrev pub fault_line : Fault → List ℕ
fault_line fault = line_of (codes "fault" ∷ fault_words fault)
