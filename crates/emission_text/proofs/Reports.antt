-- Reports, position by position and shard by shard.
use Rattle.std.proofs.Common.{◌≡◌, ◌+◌, ◌<◌, ◌++◌, ℕ, List, [], ◌∷◌, Some, length, map, take, drop, get_or, slice_get, sym, ap, ◌∙◌, append_assoc, refl, inl, inr, arith}
use Rattle.std.specs.Option.{option_map_or}
use Rattle.std.proofs.lemmas.List.Elements.{All-head, All-tail}
use Rattle.std.proofs.lemmas.List.{at_drop_more, take_more}
use Rattle.std.proofs.lemmas.Option.{slice_get-get_or, slice_get_cases}
use Rattle.stream_base.specs.Limits.{Definitions}
use Rattle.stream_base.specs.declared.entry.Entry.{Entry}
use Rattle.stream_base.specs.Model.Changes.{changes_after, changes_at}
use Rattle.stream_base.specs.Model.Text.{Form, change_lines, changes_under, entry_line, journal_lines, report_of, shard_lines}
use Rattle.shard_core.specs.Shard.{Sharded}
use Rattle.report_lines.specs.Lines.{header_line}
use Rattle.emission_text.specs.Report.{AreAlike, lines_at, lines_from, lines_of, report_text, shards_text}

-- the lines of the entries from a position on
abbrev pub lines_behind : Form → Sharded → ℕ → List ℕ
lines_behind form s position = journal_lines (changes_under form s.defs s.sources) (take position s.journal) (drop position s.journal)

-- the lines at a position are the entry's own, and those of its changes
pub lines_at-is : (form : Form) (s : Sharded) (position : ℕ) (e : Entry) → slice_get s.journal position ≡ Some e
    → lines_at form s position ≡ entry_line e ++ change_lines form (changes_at s.defs s.sources s.journal position)
unfolding lines_at
lines_at-is form s position e found = ap (λ o. option_map_or entry_line o [] ++ change_lines form (changes_at s.defs s.sources s.journal position)) found

-- they are those at the position, and then those behind it
lines_behind-more-at : (form : Form) (s : Sharded) (position : ℕ) (d : Entry) → position < length s.journal → lines_behind form s position ≡ lines_at form s position ++ lines_behind form s (position + 1)
lines_behind-more-at form s position d within =
    let e = get_or s.journal position d in
    let before = take position s.journal in
    let rest = drop (position + 1) s.journal in
    let found : slice_get s.journal position ≡ Some e = slice_get-get_or s.journal position d within in
    let at : lines_at form s position ≡ entry_line e ++ changes_under form s.defs s.sources before e =
    lines_at-is form s position e found ∙ ap (λ o. entry_line e ++ change_lines form (option_map_or (changes_after s.defs s.sources before) o [])) found in
    at_drop_more (journal_lines (changes_under form s.defs s.sources) before) s.journal position d within
    ∙ sym (append_assoc (entry_line e) (changes_under form s.defs s.sources before e) (journal_lines (changes_under form s.defs s.sources) (before ++ e ∷ []) rest))
    ∙ ap (λ lines. lines ++ journal_lines (changes_under form s.defs s.sources) (before ++ e ∷ []) rest) (sym at)
    ∙ ap (λ taken. lines_at form s position ++ journal_lines (changes_under form s.defs s.sources) taken rest) (sym (take_more s.journal position d within))

pub lines_behind-more : (form : Form) (s : Sharded) (position : ℕ) → position < length s.journal → lines_behind form s position ≡ lines_at form s position ++ lines_behind form s (position + 1)
lines_behind-more form s position within =
    elim (slice_get_cases s.journal position).1 [
      | inl found ↦ lines_behind-more-at form s position found.0 within
      | inr past ↦ absurd (omega (arith, past.0))
    ]

-- the lines of shards from a number on are those of the first of them, and then those of the others
pub lines_from-more : (form : Form) (shards : List Sharded) (k : ℕ) (s : Sharded) → k < length shards → s ≡ get_or shards k s
    → lines_from form k (drop k shards) ≡ (header_line k ++ lines_of form s) ++ lines_from form (k + 1) (drop (k + 1) shards)
lines_from-more form shards k s within is =
    at_drop_more (lines_from form k) shards k s within
    ∙ ap (λ (shard : Sharded). (header_line k ++ lines_of form shard) ++ lines_from form (k + 1) (drop (k + 1) shards)) (sym is)

-- shards that are alike have the lines of their journals
lines_from-alike : (form : Form) (d : Definitions) (n k : ℕ) (shards : List Sharded) → AreAlike d n shards → lines_from form k shards ≡ shard_lines (changes_under form d n) k (map (λ s. s.journal) shards)
lines_from-alike form d n k [] alike = refl
lines_from-alike form d n k (s ∷ shards) alike =
    let own = All-head (λ (shard : Sharded). (shard.defs ≡ d) × (shard.sources ≡ n)) s shards alike in
    let lines : lines_of form s ≡ journal_lines (changes_under form d n) [] s.journal =
    ap (λ (defs : Definitions). journal_lines (changes_under form defs s.sources) [] s.journal) (own.0) ∙ ap (λ sources. journal_lines (changes_under form d sources) [] s.journal) (own.1) in
    append_assoc (header_line k) (lines_of form s) (lines_from form (k + 1) shards)
    ∙ ap (λ journal. header_line k ++ (journal ++ lines_from form (k + 1) shards)) lines
    ∙ ap (λ rest. header_line k ++ (journal_lines (changes_under form d n) [] s.journal ++ rest)) (lines_from-alike form d n (k + 1) shards (All-tail (λ (shard : Sharded). (shard.defs ≡ d) × (shard.sources ≡ n)) s shards alike))

-- and so have the report of their journals
pub report_text-alike : (form : Form) (d : Definitions) (n : ℕ) (shards : List Sharded) → AreAlike d n shards → report_text form shards ≡ report_of form d n (map (λ s. s.journal) shards)
unfolding shards_text report_of
report_text-alike form d n shards alike = ap (λ lines. form.front ++ (lines ++ 101 ∷ 110 ∷ 100 ∷ 10 ∷ [])) (lines_from-alike form d n 0 shards alike)
