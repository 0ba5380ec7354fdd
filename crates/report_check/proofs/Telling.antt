-- The lines of a journal, entry by entry, and of shards, one by one.
use Rattle.std.proofs.Common.{◌≡◌, ◌∙◌, ℕ, ◌+◌, ◌<◌, List, [], ◌∷◌, ◌++◌, length, get_or, take, drop, ap, sym, append_assoc, subst}
use Rattle.std.specs.Prelude.{codes, decimal}
use Rattle.std.proofs.lemmas.List.{at_drop_more, take_more}
use Rattle.stream_base.specs.declared.entry.Entry.{Entry}
use Rattle.stream_base.specs.Limits.{Definitions}
use Rattle.stream_base.specs.Model.Text.{entry_line, journal_lines, line_of, shard_lines}
use Rattle.report_check.specs.Ledgers.{IsLedger}
use Rattle.report_check.specs.declared.ledger.Ledger.{Ledger}

-- a ledger is one for its own number of sources
pub at_own : (d : Definitions) (sources : ℕ) (journal : List Entry) (l : Ledger) → IsLedger d sources journal l → IsLedger d l.sources journal l
at_own d sources journal l h = subst (λ n. IsLedger d n journal l) (sym h.of_sources) h

module _ (under : List Entry → Entry → List ℕ) where
  -- with the lines of one entry more, fewer are left
  pub told_more : (journal : List Entry) (place : ℕ) (d : Entry) (out all : List ℕ) → place < length journal → out ++ journal_lines under (take place journal) (drop place journal) ≡ all
      → ((out ++ entry_line (get_or journal place d)) ++ under (take place journal) (get_or journal place d)) ++ journal_lines under (take (place + 1) journal) (drop (place + 1) journal) ≡ all
  told_more journal place d out all within told =
      let e = get_or journal place d in
      let before = take place journal in
      let rest = journal_lines under (take (place + 1) journal) (drop (place + 1) journal) in
      append_assoc (out ++ entry_line e) (under before e) rest
      ∙ append_assoc out (entry_line e) (under before e ++ rest)
      ∙ ap (λ t. out ++ (entry_line e ++ (under before e ++ journal_lines under t (drop (place + 1) journal)))) (take_more journal place d within)
      ∙ sym (ap (λ text. out ++ text) (at_drop_more (journal_lines under before) journal place d within))
      ∙ told

  -- with the lines of one shard more, fewer are left
  pub shard_more : (journals : List (List Entry)) (shard : ℕ) (d : List Entry) (out all : List ℕ) → shard < length journals → out ++ shard_lines under shard (drop shard journals) ≡ all
      → ((out ++ line_of (codes "shard" ∷ decimal shard ∷ [])) ++ journal_lines under [] (get_or journals shard d)) ++ shard_lines under (shard + 1) (drop (shard + 1) journals) ≡ all
  shard_more journals shard d out all within told =
      let header = line_of (codes "shard" ∷ decimal shard ∷ []) in
      let lines = journal_lines under [] (get_or journals shard d) in
      let rest = shard_lines under (shard + 1) (drop (shard + 1) journals) in
      append_assoc (out ++ header) lines rest
      ∙ append_assoc out header (lines ++ rest)
      ∙ sym (ap (λ text. out ++ text) (at_drop_more (shard_lines under shard) journals shard d within))
      ∙ told
