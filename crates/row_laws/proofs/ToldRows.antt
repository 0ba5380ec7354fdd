-- A report's text tells its journals, and what stands behind them.
use Rattle.std.proofs.Common.{◌≡◌, ◌∙◌, ℕ, ◌+◌, ◌-◌, Bool, true, false, cond, eqb, List, [], ◌∷◌, ◌++◌, length, map, ap, sym, refl, subst, arith, append_assoc, append-nil, Option, None, Some}
use Rattle.std.specs.Prelude.{codes}
use Rattle.std.specs.List.{All, AllByRecursion}
use Rattle.std.specs.Option.{option_map, option_map_or}
use Rattle.std.specs.Str.{bytes_eq}
use Rattle.std.proofs.lemmas.Bool.{and_from, and_parts}
use Rattle.std.proofs.lemmas.List.{length_push}
use Rattle.std.proofs.lemmas.List.Elements.{All-head, All-tail}
use Rattle.std.proofs.lemmas.Slice.Eq.{bytes_eq-Decides}
use Rattle.stream_base.specs.Limits.{AreWithinLimits, Definitions}
use Rattle.stream_base.specs.declared.change.Change.{Change}
use Rattle.stream_base.specs.declared.change.Change.TheVariants.{Gone, New, Again, Dropped}
use Rattle.stream_base.specs.declared.entry.Entry.{Entry}
use Rattle.stream_base.specs.declared.row.Row.{Row}
use Rattle.stream_base.specs.Model.Changes.{changes_after, standing_rows}
use Rattle.stream_base.specs.Model.Journals.{AreEntriesWithin, entry_in, is_entry_within, lines_of}
use Rattle.stream_base.specs.Model.Text.{change_lines, changes_under, entry_line, journal_lines, report_of, shard_lines, text_of}
use Rattle.report_laws.specs.ReadBack.{AreWithin, is_whole}
use Rattle.report_laws.proofs.ReadBackEntry.{Lacks-entry_text, Lacks-header_text, entry_in-entry_text, entry_in-other, entry_line-is, entry_text, header_text}
use Rattle.report_laws.proofs.ReadBackLines.{Lacks, lines_of-line}
use Rattle.model_laws.specs.Rows.{after_change, all_find, finds, rows_after}
use Rattle.model_laws.proofs.Finding.{changes_find}
use Rattle.model_laws.proofs.RowChanges.{nothing_first, rows_follow}
use Rattle.row_laws.specs.Fitting.{is_change_fit}
use Rattle.row_laws.specs.Reading.{change_in, form_of}
use Rattle.row_laws.specs.Told.{Told, ToldShard, after_inside, after_line, at_end, behind, has_entry, in_last, in_shard, new_shard, or_refused, read_from, read_lines, read_text, refused, tells, told_inside, unread, with_change, with_entry}
use Rattle.row_laws.proofs.RowWords.{change_read, change_text, line_is, one_line, same_step, told}

-- ---- one line more
whole_behind : (line rest : List ℕ) → is_whole (line ++ 10 ∷ rest) ≡ is_whole rest
whole_behind [] [] = refl
whole_behind [] (x ∷ rest) = refl
whole_behind (x ∷ []) rest = whole_behind [] rest
whole_behind (x ∷ y ∷ line) rest = whole_behind (y ∷ line) rest

pub read_line : (number : ℕ) (t : Told) (line rest : List ℕ) → Lacks 10 line → read_from number t (line ++ 10 ∷ rest) ≡ or_refused number (λ next. read_from (number + 1) next rest) (after_line t line)
unfolding read_lines
read_line number t line rest h =
    ap (λ ls. read_lines (is_whole (line ++ 10 ∷ rest)) number ls t) (lines_of-line line rest h)
    ∙ ap (λ whole. or_refused number (read_lines whole (number + 1) (lines_of rest)) (after_line t line)) (whole_behind line rest)

pub read_nothing : (number : ℕ) (t : Told) → read_from number t [] ≡ at_end true number t
unfolding read_lines
read_nothing number t = refl

-- a last line without its line feed is refused
left_whole : (byte : ℕ) (line : List ℕ) → Lacks 10 (byte ∷ line) → is_whole (byte ∷ line) ≡ false
left_whole byte [] h = h.0
left_whole byte (next ∷ line) h = left_whole next line h.1

left_line : (byte : ℕ) (line : List ℕ) → Lacks 10 (byte ∷ line) → lines_of (byte ∷ line) ≡ (byte ∷ line) ∷ []
left_line byte [] h = let t : eqb byte 10 ≡ false = h.0 in rw t refl
left_line byte (next ∷ line) h =
    let t : eqb byte 10 ≡ false = h.0 in
    let e : lines_of (next ∷ line) ≡ (next ∷ line) ∷ [] = left_line next line h.1 in
    rw (e, t) refl

pub read_left : (number : ℕ) (t : Told) (byte : ℕ) (line : List ℕ) → Lacks 10 (byte ∷ line) → read_from number t (byte ∷ line) ≡ refused number
unfolding read_lines
read_left number t byte line h =
    ap (λ ls. read_lines (is_whole (byte ∷ line)) number ls t) (left_line byte line h)
    ∙ ap (λ whole. read_lines whole number ((byte ∷ line) ∷ []) t) (left_whole byte line h)
    ∙ by (after_line t (byte ∷ line))
  where
    back : number + 1 - 1 ≡ number
    back = omega arith

    by : (o : Option Told) → or_refused number (read_lines false (number + 1) []) o ≡ refused number
    by None = refl
    by (Some next) = ap refused back

-- ---- lines that lead from one place to another, whatever stands behind them
abbrev Leads : Told → List ℕ → Told → Type 0
Leads t text next = (number : ℕ) (rest : List ℕ) → (m : ℕ) × (read_from number t (text ++ rest) ≡ read_from m next rest)

by_nothing : (t : Told) → Leads t [] t
by_nothing t = λ number rest. (number, refl)

by_line : (t next : Told) (line : List ℕ) → Lacks 10 line → after_line t line ≡ Some next → Leads t (line ++ 10 ∷ []) next
by_line t next line h step = λ number rest. (
  number + 1,
  ap (read_from number t) (append_assoc line (10 ∷ []) rest) ∙ read_line number t line rest h ∙ ap (or_refused number (λ n. read_from (number + 1) n rest)) step,
)

by_both : (s t u : Told) (x y : List ℕ) → Leads s x t → Leads t y u → Leads s (x ++ y) u
by_both s t u x y h g = λ number rest.
    let (m, e) = h number (y ++ rest) in
    let (k, f) = g m rest in
    (k, ap (read_from number s) (append_assoc x y rest) ∙ e ∙ f)

-- ---- the last shard
twice : {A B C : Type 0} (f : B → C) (g : A → B) (o : Option A) → option_map f (option_map g o) ≡ option_map (λ x. f (g x)) o
twice f g None = refl
twice f g (Some x) = refl

in_last_push : (full : Bool) (line : List ℕ) (shards : List ToldShard) (shard : ToldShard) → in_last full line (shards ++ shard ∷ []) ≡ option_map (λ s. shards ++ s ∷ []) (in_shard full line shard)
in_last_push full line [] shard = refl
in_last_push full line (s ∷ []) shard = twice (λ l. s ∷ l) (λ x. x ∷ []) (in_shard full line shard)
in_last_push full line (s ∷ t ∷ shards) shard =
    ap (option_map (λ l. s ∷ l)) (in_last_push full line (t ∷ shards) shard) ∙ twice (λ l. s ∷ l) (λ x. (t ∷ shards) ++ x ∷ []) (in_shard full line shard)

last_told : (full : Bool) (line : List ℕ) (shards : List ToldShard) (old new : ToldShard) → in_shard full line old ≡ Some new → option_map (told_inside full) (in_last full line (shards ++ old ∷ [])) ≡ Some (told_inside full (shards ++ new ∷ []))
last_told full line shards old new h =
    ap (option_map (told_inside full)) (in_last_push full line shards old ∙ ap (option_map (λ s. shards ++ s ∷ [])) h)

-- ---- lines of entries
entry_step : (full : Bool) (shards : List ToldShard) (shard : ToldShard) (e : Entry) → is_entry_within e ≡ true → after_inside full (shards ++ shard ∷ []) (entry_text e) ≡ Some (told_inside full (shards ++ with_entry shard e ∷ []))
entry_step full shards shard e h =
    last_told full (entry_text e) shards shard (with_entry shard e)
    (ap (λ o. option_map_or (λ x. Some (with_entry shard x)) o (option_map_or (with_change shard) (change_in full (entry_text e)) None)) (entry_in-entry_text e h))

-- ---- lines of changes
no_entry : (full : Bool) (c : Change) → entry_in (change_text full c) ≡ None
no_entry true (Gone row) = entry_in-other (change_text true (Gone row)) refl
no_entry false (Gone row) = entry_in-other (change_text false (Gone row)) refl
no_entry true (New row) = entry_in-other (change_text true (New row)) refl
no_entry false (New row) = entry_in-other (change_text false (New row)) refl
no_entry true (Again row former) = entry_in-other (change_text true (Again row former)) refl
no_entry false (Again row former) = entry_in-other (change_text false (Again row former)) refl
no_entry true Dropped = refl
no_entry false Dropped = refl

is_inner : (full : Bool) (c : Change) (shards : List ToldShard) → after_inside full shards (change_text full c) ≡ option_map (told_inside full) (in_last full (change_text full c) shards)
is_inner true (Gone row) shards = refl
is_inner false (Gone row) shards = refl
is_inner true (New row) shards = refl
is_inner false (New row) shards = refl
is_inner true (Again row former) shards = refl
is_inner false (Again row former) shards = refl
is_inner true Dropped shards = refl
is_inner false Dropped shards = refl

finds_told : (full : Bool) (rows : List Row) (c : Change) → finds rows (told full c) ≡ finds rows c
finds_told true rows (Gone row) = refl
finds_told false rows (Gone row) = refl
finds_told full rows (New row) = refl
finds_told true rows (Again row former) = refl
finds_told false rows (Again row former) = refl
finds_told full rows Dropped = refl

abbrev of_shard : List Entry → List Row → ToldShard
of_shard journal rows = record { journal = journal; rows = rows }

change_step : (full : Bool) (shards : List ToldShard) (journal : List Entry) (rows : List Row) (c : Change) → has_entry journal ≡ true → finds rows c ≡ true → is_change_fit c ≡ true
    → after_inside full (shards ++ of_shard journal rows ∷ []) (change_text full c) ≡ Some (told_inside full (shards ++ of_shard journal (after_change rows c) ∷ []))
change_step full shards journal rows c some found h =
    is_inner full c (shards ++ of_shard journal rows ∷ [])
    ∙ last_told full (change_text full c) shards (of_shard journal rows) (of_shard journal (after_change rows c))
    (ap (λ o. option_map_or (λ e. Some (with_entry (of_shard journal rows) e)) o (option_map_or (with_change (of_shard journal rows)) (change_in full (change_text full c)) None)) (no_entry full c)
    ∙ ap (λ o. option_map_or (with_change (of_shard journal rows)) o None) (change_read full c h)
    ∙ ap (λ b. cond b (Some (of_shard journal (after_change rows (told full c)))) None) (and_from (has_entry journal) (finds rows (told full c)) some (finds_told full rows c ∙ found))
    ∙ ap (λ r. Some (of_shard journal r)) (same_step full rows c))

by_changes : (full : Bool) (shards : List ToldShard) (journal : List Entry) (rows : List Row) (changes : List Change) → has_entry journal ≡ true → all_find rows changes ≡ true → AllByRecursion (λ c. is_change_fit c ≡ true) changes
    → Leads (told_inside full (shards ++ of_shard journal rows ∷ [])) (change_lines (form_of full) changes) (told_inside full (shards ++ of_shard journal (rows_after rows changes) ∷ []))
by_changes full shards journal rows [] some found h = by_nothing (told_inside full (shards ++ of_shard journal rows ∷ []))
by_changes full shards journal rows (c ∷ changes) some found h =
    let finding : (finds rows c ≡ true) × (all_find (after_change rows c) changes ≡ true) = and_parts (finds rows c) (all_find (after_change rows c) changes) found in
    let old : Told = told_inside full (shards ++ of_shard journal rows ∷ []) in
    let new : Told = told_inside full (shards ++ of_shard journal (after_change rows c) ∷ []) in
    let end : Told = told_inside full (shards ++ of_shard journal (rows_after rows (c ∷ changes)) ∷ []) in
    let one : Leads old ((form_of full).line c) new
    = subst (λ l. Leads old l new) (sym (line_is full c)) (by_line old new (change_text full c) (one_line full c h.0) (change_step full shards journal rows c some finding.0 h.0)) in
    by_both old new end ((form_of full).line c) (change_lines (form_of full) changes) one (by_changes full shards journal (after_change rows c) changes some finding.1 h.1)

-- ---- journals
-- the numbers of all changes under the entries behind `before` fit
abbrev pub AreFit : Definitions → ℕ → List Entry → List Entry → Type 0
AreFit d sources before [] = Unit {0}
AreFit d sources before (e ∷ es) = AllByRecursion (λ c. is_change_fit c ≡ true) (changes_after d sources before e) × AreFit d sources (before ++ e ∷ []) es

has_last : (before : List Entry) (e : Entry) → has_entry (before ++ e ∷ []) ≡ true
has_last [] e = refl
has_last (x ∷ before) e = refl

same_bytes : (xs : List ℕ) → bytes_eq xs xs ≡ true
same_bytes xs = (bytes_eq-Decides xs xs).1 refl

module _ (full : Bool) (d : Definitions) (sources : ℕ) (limits : AreWithinLimits d) where
  abbrev under_entry : List Entry → Entry → List ℕ
  under_entry = changes_under (form_of full) d sources

  abbrev standing_shard : List Entry → ToldShard
  standing_shard journal = of_shard journal (standing_rows d sources journal)

  abbrev behind_of : List ToldShard → List Entry → Told
  behind_of shards journal = told_inside full (shards ++ standing_shard journal ∷ [])

  by_entry : (shards : List ToldShard) (before : List Entry) (e : Entry) → is_entry_within e ≡ true → AllByRecursion (λ c. is_change_fit c ≡ true) (changes_after d sources before e) → Leads (behind_of shards before) (entry_line e ++ under_entry before e) (behind_of shards (before ++ e ∷ []))
  by_entry shards before e w h =
      let rows : List Row = standing_rows d sources before in
      let changes : List Change = changes_after d sources before e in
      let named : Told = told_inside full (shards ++ of_shard (before ++ e ∷ []) rows ∷ []) in
      let changed : Told = told_inside full (shards ++ of_shard (before ++ e ∷ []) (rows_after rows changes) ∷ []) in
      let one : Leads (behind_of shards before) (entry_line e) named
      = subst (λ l. Leads (behind_of shards before) l named) (sym (entry_line-is e)) (by_line (behind_of shards before) named (entry_text e) (Lacks-entry_text e w) (entry_step full shards (standing_shard before) e w)) in
      let more : Leads named (under_entry before e) changed
      = by_changes full shards (before ++ e ∷ []) rows changes (has_last before e) (changes_find d sources before e limits) h in
      subst (λ r. Leads (behind_of shards before) (entry_line e ++ under_entry before e) (told_inside full (shards ++ of_shard (before ++ e ∷ []) r ∷ []))) (sym (rows_follow d sources before e limits))
      (by_both (behind_of shards before) named changed (entry_line e) (under_entry before e) one more)

  by_journal : (shards : List ToldShard) (before es : List Entry) → AreEntriesWithin es → AreFit d sources before es → Leads (behind_of shards before) (journal_lines under_entry before es) (behind_of shards (before ++ es))
  by_journal shards before [] w t = subst (λ j. Leads (behind_of shards before) [] (behind_of shards j)) (sym (append-nil before)) (by_nothing (behind_of shards before))
  by_journal shards before (e ∷ es) w t =
      let next : Told = behind_of shards (before ++ e ∷ []) in
      let end : Told = behind_of shards ((before ++ e ∷ []) ++ es) in
      let more : List ℕ = journal_lines under_entry (before ++ e ∷ []) es in
      let all : Leads (behind_of shards before) ((entry_line e ++ under_entry before e) ++ more) end
      = by_both (behind_of shards before) next end (entry_line e ++ under_entry before e) more
      (by_entry shards before e (All-head (λ x. is_entry_within x ≡ true) e es w) t.0)
      (by_journal shards (before ++ e ∷ []) es (All-tail (λ x. is_entry_within x ≡ true) e es w) t.1) in
      let grouped : Leads (behind_of shards before) (entry_line e ++ (under_entry before e ++ more)) end
      = subst (λ l. Leads (behind_of shards before) l end) (append_assoc (entry_line e) (under_entry before e) more) all in
      subst (λ j. Leads (behind_of shards before) (entry_line e ++ (under_entry before e ++ more)) (behind_of shards j)) (append_assoc before (e ∷ []) es) grouped

  header_step : (shards : List ToldShard) → after_inside full shards (header_text (length shards)) ≡ Some (told_inside full (shards ++ new_shard ∷ []))
  header_step shards =
      ap (λ b. cond b (Some (told_inside full (shards ++ new_shard ∷ []))) (cond (bytes_eq (header_text (length shards)) (codes "end")) (Some (record { place = behind; shards = shards })) (option_map (told_inside full) (in_last full (header_text (length shards)) shards)))) (same_bytes (header_text (length shards)))

  -- a shard's header leads from here to its first line
  abbrev Begins : Told → List ToldShard → Type 0
  Begins t shards = after_line t (header_text (length shards)) ≡ Some (told_inside full (shards ++ new_shard ∷ []))

  by_shard : (t : Told) (shards : List ToldShard) (journal : List Entry) → Begins t shards → AreEntriesWithin journal → AreFit d sources [] journal
      → Leads t ((header_text (length shards) ++ 10 ∷ []) ++ journal_lines under_entry [] journal) (behind_of shards journal)
  by_shard t shards journal begins w h =
      let empty : Leads t (header_text (length shards) ++ 10 ∷ []) (behind_of shards [])
      = subst (λ rows. Leads t (header_text (length shards) ++ 10 ∷ []) (told_inside full (shards ++ of_shard [] rows ∷ []))) (sym (nothing_first d sources))
      (by_line t (told_inside full (shards ++ new_shard ∷ [])) (header_text (length shards)) (Lacks-header_text (length shards)) begins) in
      by_both t (behind_of shards []) (behind_of shards journal) (header_text (length shards) ++ 10 ∷ []) (journal_lines under_entry [] journal) empty (by_journal shards [] journal w h)

  after_shard : (t : Told) (shards : List ToldShard) (journal : List Entry) (journals : List (List Entry)) → Begins t shards → AreEntriesWithin journal → AreFit d sources [] journal
      → Leads (told_inside full (shards ++ standing_shard journal ∷ [])) (shard_lines under_entry (length (shards ++ standing_shard journal ∷ [])) journals) (told_inside full ((shards ++ standing_shard journal ∷ []) ++ map standing_shard journals))
      → Leads t (shard_lines under_entry (length shards) (journal ∷ journals)) (told_inside full (shards ++ map standing_shard (journal ∷ journals)))
  after_shard t shards journal journals begins w h later =
      let own : List ℕ = journal_lines under_entry [] journal in
      let front : List ℕ = header_text (length shards) ++ 10 ∷ [] in
      let more : List ℕ = shard_lines under_entry (length shards + 1) journals in
      let next : List ToldShard = shards ++ standing_shard journal ∷ [] in
      let end : Told = told_inside full (next ++ map standing_shard journals) in
      let numbered : Leads (told_inside full next) more end
      = subst (λ k. Leads (told_inside full next) (shard_lines under_entry k journals) end) (length_push shards (standing_shard journal)) later in
      let all : Leads t ((front ++ own) ++ more) end
      = by_both t (told_inside full next) end (front ++ own) more (by_shard t shards journal begins w h) numbered in
      subst (λ s. Leads t (front ++ (own ++ more)) (told_inside full s)) (append_assoc shards (standing_shard journal ∷ []) (map standing_shard journals))
      (subst (λ l. Leads t l end) (append_assoc front own more) all)

  by_shards : (shards : List ToldShard) (journals : List (List Entry)) → All AreEntriesWithin journals → AllByRecursion (AreFit d sources []) journals
      → Leads (told_inside full shards) (shard_lines under_entry (length shards) journals) (told_inside full (shards ++ map standing_shard journals))
  by_shards shards [] w h = subst (λ s. Leads (told_inside full shards) [] (told_inside full s)) (sym (append-nil shards)) (by_nothing (told_inside full shards))
  by_shards shards (journal ∷ journals) w h =
      after_shard (told_inside full shards) shards journal journals (header_step shards) (All-head AreEntriesWithin journal journals w) h.0
      (by_shards (shards ++ standing_shard journal ∷ []) journals (All-tail AreEntriesWithin journal journals w) h.1)

  -- behind all shards stands the last line
  ends : (number : ℕ) (shards : List ToldShard) → read_from number (told_inside full shards) (codes "end\n") ≡ tells shards
  unfolding read_lines
  ends number shards = refl

-- ---- reports
full_front : (rest : List ℕ) (number : ℕ) → read_from number unread (codes "report 2\n" ++ rest) ≡ read_from (number + 1) (told_inside true []) rest
full_front rest number = read_line number unread (codes "report 2") rest (refl, (refl, (refl, (refl, (refl, (refl, (refl, (refl, tt))))))))

brief_begins : after_line unread (header_text 0) ≡ Some (told_inside false (new_shard ∷ []))
brief_begins = same_header (same_bytes (header_text 0))
  where
    same_header : bytes_eq (header_text 0) (header_text 0) ≡ true → after_line unread (header_text 0) ≡ Some (told_inside false (new_shard ∷ []))
    same_header h = ap (λ b. cond b (Some (told_inside false (new_shard ∷ []))) (cond (bytes_eq (header_text 0) (codes "end")) (Some (record { place = behind; shards = [] })) (option_map (told_inside false) (in_last false (header_text 0) [])))) h

module _ (d : Definitions) (sources : ℕ) (limits : AreWithinLimits d) where
  brief_told : (number : ℕ) (journals : List (List Entry)) → All AreEntriesWithin journals → AllByRecursion (AreFit d sources []) journals
      → read_from number unread (text_of (changes_under (form_of false) d sources) journals) ≡ tells (map (standing_shard false d sources limits) journals)
  unfolding read_lines
  brief_told number [] w h = refl
  brief_told number (journal ∷ journals) w h =
      let shard : List ToldShard = standing_shard false d sources limits journal ∷ [] in
      let all = after_shard false d sources limits unread [] journal journals brief_begins (All-head AreEntriesWithin journal journals w) h.0 (by_shards false d sources limits shard journals (All-tail AreEntriesWithin journal journals w) h.1) in
      let (m, e) = all number (codes "end\n") in
      e ∙ ends false d sources limits m (map (standing_shard false d sources limits) (journal ∷ journals))

  full_told : (number : ℕ) (journals : List (List Entry)) → All AreEntriesWithin journals → AllByRecursion (AreFit d sources []) journals
      → read_from number (told_inside true []) (text_of (changes_under (form_of true) d sources) journals) ≡ tells (map (standing_shard true d sources limits) journals)
  full_told number journals w h =
      let all = by_shards true d sources limits [] journals w h in
      let (m, e) = all number (codes "end\n") in
      e ∙ ends true d sources limits m (map (standing_shard true d sources limits) journals)

pub report_told : (full : Bool) (d : Definitions) (sources : ℕ) (journals : List (List Entry)) → AreWithinLimits d → AreWithin journals → AllByRecursion (AreFit d sources []) journals
    → read_text (report_of (form_of full) d sources journals) ≡ tells (map (λ journal. record { journal = journal; rows = standing_rows d sources journal }) journals)
unfolding read_text report_of
report_told true d sources journals limits within h =
    full_front (text_of (changes_under (form_of true) d sources) journals) 1 ∙ full_told d sources limits 2 journals within.entries h
report_told false d sources journals limits within h = brief_told d sources limits 1 journals within.entries h
