-- The reports of runs over parts are accepted as those of their shards.
use Rattle.std.proofs.Common.{◌≡◌, ◌∙◌, ◌+◌, ◌<◌, ◌++◌, ℕ, zero, suc, Bool, true, false, cond, List, [], ◌∷◌, length, get_or, filter, None, Some, ap, sym, subst, refl, arith, append_assoc, append-nil, codes}
use Rattle.std.specs.Prelude.{◌&&◌, ◌==◌, All, decimal, not}
use Rattle.std.specs.Fmt.{digits}
use Rattle.std.specs.List.{list_all, position_from}
use Rattle.std.proofs.lemmas.Bool.{and_parts, eq-eqb}
use Rattle.std.proofs.lemmas.Iterator.Adapters.{position_from-zero}
use Rattle.stream_base.specs.Limits.{Definitions}
use Rattle.stream_base.specs.declared.change.Change.{Change}
use Rattle.stream_base.specs.declared.change.Change.TheVariants.{Gone, New, Again, Dropped}
use Rattle.stream_base.specs.declared.entry.Entry.{Entry}
use Rattle.stream_base.specs.Model.Journals.{AreEntriesWithin}
use Rattle.stream_base.specs.Model.Routes.{IsLawful, goes_to}
use Rattle.stream_base.specs.Model.Text.{change_lines, changes_under, end_text, entry_line, journal_lines, line_of, report_of, row_fields, updated_fields}
use Rattle.stream_base.specs.Model.What.{what_fields}
use Rattle.report_lines.specs.Lines.{header_line}
use Rattle.report_laws.specs.ReadBack.{IsToldFromJournals}
use Rattle.report_laws.proofs.ReadBack.{journals_of-report_of}
use Rattle.report_laws.proofs.ReadBackChanges.{report_1-told, report_2-told}
use Rattle.report_join.specs.ShardReports.{HasEnds, IsShardReport, first_misplaced, form_told}

-- ---- lines
-- a line feed ends the text
EndsLine : List ℕ → Type 0
EndsLine text = (before : List ℕ) × (text ≡ before ++ 10 ∷ [])

-- what stands behind such a text leaves it so
KeepsEnd : List ℕ → Type 0
unfolding EndsLine
KeepsEnd more = (text : List ℕ) → EndsLine text → EndsLine (text ++ more)

line_ends : (fields : List (List ℕ)) → EndsLine (line_of fields)
unfolding EndsLine
line_ends [] = ([], refl)
line_ends (field ∷ []) = (field, refl)
line_ends (field ∷ next ∷ fields) =
    let r = line_ends (next ∷ fields) in
    (field ++ (32 ∷ r.0), ap (λ t. field ++ (32 ∷ t)) r.1 ∙ sym (append_assoc field (32 ∷ r.0) (10 ∷ [])))

keeps_nothing : KeepsEnd []
unfolding KeepsEnd
keeps_nothing text h = subst EndsLine (sym (append-nil text)) h

keeps_line : (line : List ℕ) → EndsLine line → KeepsEnd line
unfolding KeepsEnd EndsLine
keeps_line line h text g = (text ++ h.0, ap (λ t. text ++ t) h.1 ∙ sym (append_assoc text h.0 (10 ∷ [])))

keeps_both : (first second : List ℕ) → KeepsEnd first → KeepsEnd second → KeepsEnd (first ++ second)
unfolding KeepsEnd
keeps_both first second h g text ends = subst EndsLine (append_assoc text first second) (g (text ++ first) (h text ends))

keeps_change : (second : Bool) (c : Change) → KeepsEnd ((form_told second).line c)
keeps_change false (Gone row) =
    let fields : List (List ℕ) = codes "-" ∷ decimal row.window ∷ decimal row.low ∷ end_text row.high ∷ row.key ∷ [] in keeps_line (line_of fields) (line_ends fields)
keeps_change false (New row) = keeps_line (line_of (codes "+" ∷ row_fields row)) (line_ends (codes "+" ∷ row_fields row))
keeps_change false (Again row former) = keeps_line (line_of (codes "~" ∷ row_fields row)) (line_ends (codes "~" ∷ row_fields row))
keeps_change false Dropped = keeps_line (line_of (codes "x" ∷ [])) (line_ends (codes "x" ∷ []))
keeps_change true (Gone row) = keeps_line (line_of (codes "-" ∷ row_fields row)) (line_ends (codes "-" ∷ row_fields row))
keeps_change true (New row) = keeps_line (line_of (codes "+" ∷ row_fields row)) (line_ends (codes "+" ∷ row_fields row))
keeps_change true (Again row former) = keeps_line (line_of (codes "~" ∷ updated_fields row former)) (line_ends (codes "~" ∷ updated_fields row former))
keeps_change true Dropped = keeps_line (line_of (codes "x" ∷ [])) (line_ends (codes "x" ∷ []))

keeps_changes : (second : Bool) (changes : List Change) → KeepsEnd (change_lines (form_told second) changes)
keeps_changes second [] = keeps_nothing
keeps_changes second (c ∷ changes) = keeps_both ((form_told second).line c) (change_lines (form_told second) changes) (keeps_change second c) (keeps_changes second changes)

module _ (second : Bool) (d : Definitions) (sources : ℕ) where
  abbrev under : List Entry → Entry → List ℕ
  under before e = changes_under (form_told second) d sources before e

  keeps_journal : (before es : List Entry) → KeepsEnd (journal_lines under before es)
  keeps_journal before [] = keeps_nothing
  keeps_journal before (e ∷ es) =
      keeps_both (entry_line e) (under before e ++ journal_lines under (before ++ e ∷ []) es)
      (keeps_line (entry_line e) (line_ends (codes "j" ∷ decimal e.source ∷ what_fields e.what)))
      (keeps_both (under before e) (journal_lines under (before ++ e ∷ []) es) (keeps_changes second _) (keeps_journal (before ++ e ∷ []) es))

  first_header : header_line 0 ≡ codes "shard 0\n"
  unfolding digits
  first_header = refl

  laid_out : (journal : List Entry) → report_of (form_told second) d sources (journal ∷ []) ≡ ((form_told second).front ++ codes "shard 0\n") ++ (journal_lines under [] journal ++ codes "end\n")
  unfolding report_of
  laid_out journal =
      let front = (form_told second).front in
      let lines = journal_lines under [] journal in
      ap (λ t. front ++ t) (ap (λ t. (header_line 0 ++ t) ++ codes "end\n") (append-nil lines) ∙ append_assoc (header_line 0) lines (codes "end\n"))
      ∙ ap (λ h. front ++ (h ++ (lines ++ codes "end\n"))) first_header
      ∙ sym (append_assoc front (codes "shard 0\n") (lines ++ codes "end\n"))

  has_ends : (journal : List Entry) → HasEnds (form_told second) (report_of (form_told second) d sources (journal ∷ []))
  unfolding EndsLine KeepsEnd
  has_ends journal =
      let head = (form_told second).front ++ codes "shard 0\n" in
      let lines = journal_lines under [] journal in
      let r = keeps_journal [] journal head ((form_told second).front ++ codes "shard 0", sym (append_assoc (form_told second).front (codes "shard 0") (10 ∷ []))) in
      record {
        later = lines ++ codes "end\n";
        begins = laid_out journal;
        before = r.0;
        ends = laid_out journal ∙ sym (append_assoc head lines (codes "end\n")) ∙ ap (λ t. t ++ codes "end\n") r.1 ∙ append_assoc r.0 (10 ∷ []) (codes "end\n");
      }

-- ---- entries
module _ {X : Type 0} (p q : X → Bool) where
  passes_filter : (ys : List X) → list_all q (filter q ys) ≡ true
  passes_filter [] = refl
  passes_filter (y ∷ ys) = by (q y) refl (passes_filter ys)
    where
      by : (b : Bool) → q y ≡ b → list_all q (filter q ys) ≡ true → list_all q (cond b (y ∷ filter q ys) (filter q ys)) ≡ true
      by true e later = ap (λ b. b && list_all q (filter q ys)) e ∙ later
      by false e later = later

  passes_too : (xs : List X) → list_all q (filter p xs) ≡ true → (i : ℕ) (x : X) → i < length xs → p (get_or xs i x) ≡ true → q (get_or xs i x) ≡ true
  passes_too [] h i x l e = absurd (let no : ⊥ = omega (arith, l) in no)
  passes_too (y ∷ xs) h zero x l e = (and_parts (q y) (list_all q (filter p xs)) (subst (λ b. list_all q (cond b (y ∷ filter p xs) (filter p xs)) ≡ true) e h)).0
  passes_too (y ∷ xs) h (suc i) x l e = passes_too xs (by (p y) h) i x (omega (arith, l)) e
    where
      by : (b : Bool) → list_all q (cond b (y ∷ filter p xs) (filter p xs)) ≡ true → list_all q (filter p xs) ≡ true
      by true g = (and_parts (q y) (list_all q (filter p xs)) g).1
      by false g = g

nowhere : {X : Type 0} (t : X → Bool) (n : ℕ) (xs : List X) → ((i : ℕ) (x : X) → i < length xs → t (get_or xs i x) ≡ false) → position_from t n xs ≡ None
nowhere t n [] h = refl
nowhere t n (y ∷ xs) h =
    ap (λ b. cond b (Some n) (position_from t (n + 1) xs)) (h 0 y (omega arith)) ∙ nowhere t (n + 1) xs (λ i x l. h (suc i) x (omega (arith, l)))

module _ (shards k : ℕ) (sources journals : List (List Entry)) (lawful : IsLawful shards sources journals) (inside : k < shards) where
  own : List Entry
  own = get_or journals k []

  all_go : (i : ℕ) (e : Entry) → i < length own → goes_to shards k (get_or own i e).what ≡ true
  unfolding own
  all_go i e l =
      let many = lawful.count in
      let there : k < length journals = omega (arith, inside, many) in
      let s = (get_or own i e).source in
      let held = lawful.held k s there (lawful.known k i e there l) in
      passes_too (λ (x : Entry). x.source == s) (λ (x : Entry). goes_to shards k x.what) own
      (ap (list_all (λ (x : Entry). goes_to shards k x.what)) held ∙ passes_filter (λ (x : Entry). x.source == s) (λ (x : Entry). goes_to shards k x.what) (get_or sources s []))
      i e l (eq-eqb s s refl)

  none_misplaced : first_misplaced shards k own ≡ None
  none_misplaced =
      let misplaced : Entry → Bool = λ x. not (goes_to shards k x.what) in
      position_from-zero misplaced own ∙ nowhere misplaced 0 own (λ i e l. ap not (all_go i e l))

form_is_told : (second : Bool) → IsToldFromJournals (form_told second)
form_is_told false = report_1-told
form_is_told true = report_2-told

pub is_accepted : (second : Bool) (d : Definitions) (shards k : ℕ) (sources journals : List (List Entry)) → IsLawful shards sources journals → k < shards → AreEntriesWithin (get_or journals k [])
    → IsShardReport (form_told second) shards k (report_of (form_told second) d (length sources) (get_or journals k [] ∷ []))
unfolding own
is_accepted second d shards k sources journals lawful inside within =
    let journal = get_or journals k [] in (
      journal,
      record {
        ends = has_ends second d (length sources) journal;
        holds = journals_of-report_of (form_told second) d (length sources) (journal ∷ []) (form_is_told second) record { few = omega arith; entries = within_all journal within };
      },
      none_misplaced shards k sources journals lawful inside,
    )
  where
    within_all : (journal : List Entry) → AreEntriesWithin journal → All AreEntriesWithin (journal ∷ [])
    within_all journal h zero e l = h
    within_all journal h (suc i) e l = absurd (let no : ⊥ = omega (arith, l) in no)
