-- The form of a report is read back from its text.
use Rattle.std.proofs.Common.{◌≡◌, ◌∙◌, ℕ, false, List, [], ◌∷◌, ◌++◌, codes, length, get_or, refl, ap, sym}
use Rattle.std.specs.Fmt.{digits}
use Rattle.std.specs.Str.{bytes_eq}
use Rattle.stream_base.specs.declared.entry.Entry.{Entry}
use Rattle.stream_base.specs.Limits.{Definitions}
use Rattle.stream_base.specs.Model.Journals.{journals_of, lines_of, with_byte}
use Rattle.stream_base.specs.Model.Routes.{IsLawful}
use Rattle.stream_base.specs.Model.Text.{changes_under, report_1, report_2, report_of, text_of}
use Rattle.report_check.specs.declared.finding.Finding.TheVariants.{Lawful}
use Rattle.report_check.specs.Findings.{IsFinding, form_in, report_in}

-- a line feed in front of lines is an empty line more
line_feed : (lines : List (List ℕ)) → with_byte 10 lines ≡ [] ∷ lines
line_feed [] = refl
line_feed (line ∷ lines) = refl

-- a first line that begins with `s` isn't the one in front of the second form
no_header : (lines : List (List ℕ)) → bytes_eq (get_or (with_byte 115 lines) 0 []) (codes "report 2") ≡ false
no_header [] = refl
no_header (line ∷ lines) = refl

-- a text in the first form begins with the header of a shard, or is its last line alone
brief_text : (under : List Entry → Entry → List ℕ) (journals : List (List Entry)) → form_in (text_of under journals) ≡ report_1
unfolding digits
brief_text under [] = refl
brief_text under (journal ∷ journals) = rw (no_header _) refl

-- one in the second form begins with the line that says so
full_text : (rest : List ℕ) → form_in (codes "report 2\n" ++ rest) ≡ report_2
full_text rest = rw (line_feed (lines_of rest)) refl

pub brief_report_is_lawful : (d : Definitions) (shards : ℕ) (sources : List (List Entry)) (text : List ℕ) → text ≡ report_of report_1 d (length sources) (journals_of text)
    → IsLawful shards sources (journals_of text) → IsFinding d shards sources text Lawful
unfolding report_of report_in
brief_report_is_lawful d shards sources text is lawful =
    let form : form_in text ≡ report_1 = ap form_in is ∙ brief_text (changes_under report_1 d (length sources)) (journals_of text) in
    (is ∙ ap (λ f. report_of f d (length sources) (journals_of text)) (sym form), lawful)

pub full_report_is_lawful : (d : Definitions) (shards : ℕ) (sources : List (List Entry)) (text : List ℕ) → text ≡ report_of report_2 d (length sources) (journals_of text)
    → IsLawful shards sources (journals_of text) → IsFinding d shards sources text Lawful
unfolding report_of report_in
full_report_is_lawful d shards sources text is lawful =
    let form : form_in text ≡ report_2 = ap form_in is ∙ full_text (text_of (changes_under report_2 d (length sources)) (journals_of text)) in
    (is ∙ ap (λ f. report_of f d (length sources) (journals_of text)) (sym form), lawful)
