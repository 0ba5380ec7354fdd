-- Reports of one shard, each of which is a part of the report of all.
use Rattle.std.specs.Prelude.{◌≡◌, ◌+◌, ◌++◌, ℕ, Bool, not, List, [], ◌∷◌, codes, Option, None, Some, if◌then◌else◌}
use Rattle.std.specs.List.{position}
use Rattle.stream_base.specs.declared.entry.Entry.{Entry}
use Rattle.stream_base.specs.Model.Journals.{journals_of}
use Rattle.stream_base.specs.Model.Routes.{goes_to}
use Rattle.stream_base.specs.Model.Text.{Form, report_1, report_2}
use Rattle.report_join.specs.declared.join_why.JoinWhy.{JoinWhy}
use Rattle.report_join.specs.declared.join_why.JoinWhy.TheVariants.{Shape, Entry as MisplacedEntry}

-- the second form of a report, or the first
abbrev pub form_told : Bool → Form
form_told second = if second then report_2 else report_1

-- a text begins and ends as the report of one shard in a form does
pub record HasEnds (form : Form) (text : List ℕ) : Type 0 where
  pub later : List ℕ
  pub begins : text ≡ (form.front ++ codes "shard 0\n") ++ later
  pub before : List ℕ
  pub ends : text ≡ before ++ codes "\nend\n"

-- it does, and holds this one journal
pub record IsOfOneShard (form : Form) (text : List ℕ) (journal : List Entry) : Type 0 where
  pub ends : HasEnds form text
  pub holds : journals_of text ≡ journal ∷ []

-- the first entry of a journal that doesn't go to this shard, if one doesn't
abbrev pub first_misplaced : ℕ → ℕ → List Entry → Option ℕ
first_misplaced shards k journal = position (λ e. not (goes_to shards k e.what)) journal

-- a report of one shard, all of whose entries go to the shard of this number
abbrev pub IsShardReport : Form → ℕ → ℕ → List ℕ → Type 0
IsShardReport form shards k text = (journal : List Entry) × IsOfOneShard form text journal × (first_misplaced shards k journal ≡ None)

-- what is found of a text
abbrev pub IsJudged : Form → ℕ → ℕ → List ℕ → Option JoinWhy → Type 0
IsJudged form shards k text None = IsShardReport form shards k text
IsJudged form shards k text (Some Shape) = (journal : List Entry) → ¬ (IsOfOneShard form text journal)
IsJudged form shards k text (Some (MisplacedEntry number)) =
    (journal : List Entry) × IsOfOneShard form text journal × (i : ℕ) × (number ≡ i + 1) × (first_misplaced shards k journal ≡ Some i)
