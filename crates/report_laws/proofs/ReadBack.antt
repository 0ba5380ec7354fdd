-- The journals are read back from their text.
use Rattle.std.proofs.Common.{◌≡◌, ℕ, ◌+◌, ◌^◌, ◌<◌, ◌≤◌, Bool, true, false, cond, List, [], ◌∷◌, ◌++◌, length, refl, ap, sym, ◌∙◌, arith, append_assoc, append-nil}
use Rattle.std.proofs.lemmas.List.Elements.{All-head, All-tail, All-nil, All-cons, All-push, All-weaker, recursion_from_All}
use Rattle.std.proofs.lemmas.List.Sums.{fold-append}
use Rattle.std.specs.List.{AllByRecursion, All, fold}
use Rattle.std.specs.Option.{IfSome, option_map_or}
use Rattle.std.specs.Str.{bytes_eq}
use Rattle.std.specs.Prelude.{◌&&◌, Option, None, Some, codes}
use Rattle.stream_base.specs.Limits.{Definitions}
use Rattle.stream_base.specs.declared.entry.Entry.{Entry}
use Rattle.stream_base.specs.Model.Text.{entry_line, journal_lines, shard_lines, text_of, changes_under, Form, report_of}
use Rattle.stream_base.specs.Model.Journals.{lines_of, is_entry_within, with_entry, guessed_entry, entry_in, is_header, after_line, journals_of, AreEntriesWithin}
use Rattle.report_laws.specs.ReadBack.{AreWithin, is_other_line, AreOtherLines, AreOtherLinesUnder, IsToldFromJournals}
use Rattle.report_laws.proofs.ReadBackLines.{Lacks, lines_of-line, lines_of-append}
use Rattle.report_laws.proofs.ReadBackChanges.{changes_under-others}
use Rattle.report_laws.proofs.ReadBackEntry.{entry_text, entry_line-is, header_text, after_line-other, after_line-entry_text, after_line-header_text, Lacks-entry_text, Lacks-header_text}

-- the journals after the lines of one more text
abbrev after_text : List (List Entry) → List ℕ → List (List Entry)
after_text journals text = fold after_line journals (lines_of text)

after_text-line : (journals : List (List Entry)) (line rest : List ℕ) → Lacks 10 line → after_text journals ((line ++ 10 ∷ []) ++ rest) ≡ after_text (after_line journals line) rest
after_text-line journals line rest h =
    let e : lines_of ((line ++ 10 ∷ []) ++ rest) ≡ line ∷ lines_of rest = ap lines_of (append_assoc line (10 ∷ []) rest) ∙ lines_of-line line rest h in
    ap (fold after_line journals) e

-- other lines are passed over
pass_over : (journals : List (List Entry)) (lines : List (List ℕ)) → AllByRecursion (λ line. is_other_line line ≡ true) lines → fold after_line journals lines ≡ journals
pass_over journals [] h = refl
pass_over journals (line ∷ lines) h = ap (λ (js : List (List Entry)). fold after_line js lines) (after_line-other journals line h.0) ∙ pass_over journals lines h.1

after_text-other : (journals : List (List Entry)) (text rest : List ℕ) → AreOtherLines text → after_text journals (text ++ rest) ≡ after_text journals rest
after_text-other journals text rest h =
    ap (fold after_line journals) (lines_of-append text rest h.whole)
    ∙ (fold-append after_line journals (lines_of text) (lines_of rest)
    ∙ ap (λ (js : List (List Entry)). fold after_line js (lines_of rest)) (pass_over journals (lines_of text) (recursion_from_All _ (lines_of text) h.other)))

-- an entry's line and what stands under it add the entry to the last journal
after_text-entry : (journals : List (List Entry)) (e : Entry) (under rest : List ℕ) → is_entry_within e ≡ true → AreOtherLines under → after_text journals (entry_line e ++ (under ++ rest)) ≡ after_text (with_entry journals e) rest
after_text-entry journals e under rest h o =
    ap (λ (line : List ℕ). after_text journals (line ++ (under ++ rest))) (entry_line-is e)
    ∙ (after_text-line journals (entry_text e) (under ++ rest) (Lacks-entry_text e h)
    ∙ (ap (λ (js : List (List Entry)). after_text js (under ++ rest)) (after_line-entry_text journals e h)
    ∙ after_text-other (with_entry journals e) under rest o))

regrouped : (a b c d : List ℕ) → (a ++ (b ++ c)) ++ d ≡ a ++ (b ++ (c ++ d))
regrouped a b c d = simp append_assoc

-- the lines of a journal add its entries, one by one
after_text-journal : (under : List Entry → Entry → List ℕ) (journals : List (List Entry)) (before es : List Entry) (rest : List ℕ) → AreEntriesWithin es → AreOtherLinesUnder under before es → after_text journals (journal_lines under before es ++ rest) ≡ after_text (fold with_entry journals es) rest
after_text-journal under journals before [] rest h o = refl
after_text-journal under journals before (e ∷ es) rest h o =
    let more = journal_lines under (before ++ e ∷ []) es in
    let joined : (entry_line e ++ (under before e ++ more)) ++ rest ≡ entry_line e ++ (under before e ++ (more ++ rest)) = regrouped (entry_line e) (under before e) more rest in
    ap (after_text journals) joined
    ∙ (after_text-entry journals e (under before e) (more ++ rest) (All-head (λ x. is_entry_within x ≡ true) e es h) o.0
    ∙ after_text-journal under (with_entry journals e) (before ++ e ∷ []) es rest (All-tail (λ x. is_entry_within x ≡ true) e es h) o.1)

-- entries go to the last journal
with_entry-last : (journals : List (List Entry)) (journal : List Entry) (e : Entry) → with_entry (journals ++ journal ∷ []) e ≡ journals ++ (journal ++ e ∷ []) ∷ []
with_entry-last [] journal e = refl
with_entry-last (j ∷ []) journal e = refl
with_entry-last (j ∷ k ∷ journals) journal e = ap (λ (js : List (List Entry)). j ∷ js) (with_entry-last (k ∷ journals) journal e)

with_entries-last : (journals : List (List Entry)) (journal es : List Entry) → fold with_entry (journals ++ journal ∷ []) es ≡ journals ++ (journal ++ es) ∷ []
with_entries-last journals journal [] = ap (λ (j : List Entry). journals ++ j ∷ []) (sym (append-nil journal))
with_entries-last journals journal (e ∷ es) =
    ap (λ (js : List (List Entry)). fold with_entry js es) (with_entry-last journals journal e)
    ∙ (with_entries-last journals (journal ++ e ∷ []) es
    ∙ ap (λ (j : List Entry). journals ++ j ∷ []) (append_assoc journal (e ∷ []) es))

-- the lines of shards add their journals
after_text-shards : (under : List Entry → Entry → List ℕ) (k : ℕ) (before journals : List (List Entry)) (rest : List ℕ) → k + length journals ≤ 2 ^ 64 → All AreEntriesWithin journals → All (AreOtherLinesUnder under []) journals → after_text before (shard_lines under k journals ++ rest) ≡ after_text (before ++ journals) rest
after_text-shards under k before [] rest few h o = ap (λ (js : List (List Entry)). after_text js rest) (sym (append-nil before))
after_text-shards under k before (journal ∷ journals) rest few h o =
    let lines = journal_lines under [] journal in
    let more = shard_lines under (k + 1) journals in
    let joined : ((header_text k ++ 10 ∷ []) ++ (lines ++ more)) ++ rest ≡ (header_text k ++ 10 ∷ []) ++ (lines ++ (more ++ rest)) = regrouped (header_text k ++ 10 ∷ []) lines more rest in
    let header : k < 2 ^ 64 = omega arith in
    let fewer : (k + 1) + length journals ≤ 2 ^ 64 = omega arith in
    ap (after_text before) joined
    ∙ (after_text-line before (header_text k) (lines ++ (more ++ rest)) (Lacks-header_text k)
    ∙ (ap (λ (js : List (List Entry)). after_text js (lines ++ (more ++ rest))) (after_line-header_text before k header)
    ∙ (after_text-journal under (before ++ [] ∷ []) [] journal (more ++ rest) (All-head AreEntriesWithin journal journals h) (All-head (AreOtherLinesUnder under []) journal journals o)
    ∙ (ap (λ (js : List (List Entry)). after_text js (more ++ rest)) (with_entries-last before [] journal)
    ∙ (after_text-shards under (k + 1) (before ++ journal ∷ []) journals rest fewer (All-tail AreEntriesWithin journal journals h) (All-tail (AreOtherLinesUnder under []) journal journals o)
    ∙ ap (λ (js : List (List Entry)). after_text js rest) (append_assoc before (journal ∷ []) journals))))))

pub journals_of-text_of : (front : List ℕ) (under : List Entry → Entry → List ℕ) (journals : List (List Entry)) → AreOtherLines front → AreWithin journals → All (AreOtherLinesUnder under []) journals → journals_of (front ++ text_of under journals) ≡ journals
unfolding journals_of
journals_of-text_of front under journals f h o =
    after_text-other [] front (text_of under journals) f
    ∙ after_text-shards under 0 [] journals (codes "end\n") (omega (arith, h.few)) h.entries o

-- and from a report
pub journals_of-report_of : (form : Form) (d : Definitions) (sources : ℕ) (journals : List (List Entry)) → IsToldFromJournals form → AreWithin journals → journals_of (report_of form d sources journals) ≡ journals
unfolding report_of
journals_of-report_of form d sources journals told h =
    let others : All (AreOtherLinesUnder (changes_under form d sources) []) journals = All-weaker AreEntriesWithin (AreOtherLinesUnder (changes_under form d sources) []) (λ journal within. changes_under-others form d sources [] journal told (All-nil (λ x. is_entry_within x ≡ true)) within) journals h.entries in
    journals_of-text_of form.front (changes_under form d sources) journals told.front h others

-- so one report holds the journals of no other
pub report_of-injective : (form other : Form) (d e : Definitions) (m n : ℕ) (journals others : List (List Entry)) → IsToldFromJournals form → IsToldFromJournals other → AreWithin journals → AreWithin others → report_of form d m journals ≡ report_of other e n others → journals ≡ others
report_of-injective form other d e m n journals others t u h g same = sym (journals_of-report_of form d m journals t h) ∙ (ap journals_of same ∙ journals_of-report_of other e n others u g)

-- what is read back from any text is within the limits
passed : (b c : Bool) (e : Entry) → is_entry_within e ≡ c → IfSome (cond (b && c) (Some e) None) (λ x. is_entry_within x ≡ true)
passed true true e h = h
passed true false e h = tt
passed false c e h = tt

entry_in-within : (line : List ℕ) → IfSome (entry_in line) (λ e. is_entry_within e ≡ true)
entry_in-within line = let e = guessed_entry line in passed (bytes_eq (entry_line e) (line ++ 10 ∷ [])) (is_entry_within e) e refl

with_entry-within : (journals : List (List Entry)) (e : Entry) → All AreEntriesWithin journals → is_entry_within e ≡ true → All AreEntriesWithin (with_entry journals e)
with_entry-within [] e h g = h
with_entry-within (journal ∷ []) e h g = All-cons AreEntriesWithin (journal ++ e ∷ []) [] (All-push (λ x. is_entry_within x ≡ true) journal e (All-head AreEntriesWithin journal [] h) g) (All-nil AreEntriesWithin)
with_entry-within (journal ∷ next ∷ journals) e h g = All-cons AreEntriesWithin journal (with_entry (next ∷ journals) e) (All-head AreEntriesWithin journal (next ∷ journals) h) (with_entry-within (next ∷ journals) e (All-tail AreEntriesWithin journal (next ∷ journals) h) g)

found-within : (journals : List (List Entry)) (found : Option Entry) → All AreEntriesWithin journals → IfSome found (λ e. is_entry_within e ≡ true) → All AreEntriesWithin (option_map_or (with_entry journals) found journals)
found-within journals None h g = h
found-within journals (Some e) h g = with_entry-within journals e h g

either-within : (t : Bool) (some others : List (List Entry)) → All AreEntriesWithin some → All AreEntriesWithin others → All AreEntriesWithin (cond t some others)
either-within true some others h g = h
either-within false some others h g = g

after_line-within : (journals : List (List Entry)) (line : List ℕ) → All AreEntriesWithin journals → All AreEntriesWithin (after_line journals line)
after_line-within journals line h =
    either-within (is_header line) (journals ++ [] ∷ []) (option_map_or (with_entry journals) (entry_in line) journals)
    (All-push AreEntriesWithin journals [] h (All-nil (λ x. is_entry_within x ≡ true)))
    (found-within journals (entry_in line) h (entry_in-within line))

lines-within : (journals : List (List Entry)) (lines : List (List ℕ)) → All AreEntriesWithin journals → All AreEntriesWithin (fold after_line journals lines)
lines-within journals [] h = h
lines-within journals (line ∷ lines) h = lines-within (after_line journals line) lines (after_line-within journals line h)

pub journals_of-within : (text : List ℕ) → All AreEntriesWithin (journals_of text)
unfolding journals_of
journals_of-within text = lines-within [] (lines_of text) (All-nil AreEntriesWithin)
