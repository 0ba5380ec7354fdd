-- The lines of findings.
use Rattle.std.specs.Prelude.{ℕ, List, [], ◌∷◌, codes, decimal}
use Rattle.report_check.specs.declared.finding.Finding.{Finding}
use Rattle.report_check.specs.declared.finding.Finding.TheVariants.{Lawful, Text, Shards, Journal}
use Rattle.stream_base.specs.Model.Text.{line_of}

-- the words of a finding
abbrev pub finding_words : Finding → List (List ℕ)
finding_words Lawful = codes "lawful" ∷ []
finding_words (Text line) = codes "unlawful" ∷ codes "text" ∷ decimal line ∷ []
finding_words (Shards found) = codes "unlawful" ∷ codes "shards" ∷ decimal found ∷ []
finding_words (Journal shard source) = codes "unlawful" ∷ codes "journal" ∷ decimal shard ∷ decimal source ∷ []

-- the line of a finding
abbrev pub finding_line : Finding → List ℕ
finding_line finding = line_of (finding_words finding)
