-- Runs of one shard over parts are, taken together, a run of all shards.
use Rattle.std.proofs.Common.{◌≡◌, ◌∙◌, ℕ, zero, suc, ◌+◌, ◌-◌, ◌%◌, ◌<◌, true, cond, List, [], ◌∷◌, ◌++◌, drop, take, length, map, get_or, ap, sym, refl, arith, append_assoc, append-nil}
use Rattle.std.specs.Prelude.{◌↔◌, codes}
use Rattle.std.proofs.Math.Seq.{drop-append-add, take-append_seam}
use Rattle.std.proofs.lemmas.Bool.{eq-eqb}
use Rattle.std.proofs.lemmas.List.{length-append}
use Rattle.stream_base.specs.declared.entry.Entry.{Entry}
use Rattle.stream_base.specs.declared.what.What.{What}
use Rattle.stream_base.specs.declared.what.What.TheVariants.{Tuple, Mark, Water, Idle, End}
use Rattle.stream_base.specs.Limits.{Definitions}
use Rattle.stream_base.specs.Model.Changes.{changes_after}
use Rattle.stream_base.specs.Model.Routes.{IsLawful, entries_from, goes_to, number_of, routed}
use Rattle.stream_base.specs.Model.Text.{Form, change_lines, changes_under, entry_line, journal_lines, report_of, shard_lines}
use Rattle.report_lines.specs.Lines.{header_line}
use Rattle.part_laws.specs.Joined.{AreOfParts, body_of, joined, part_definitions, parts_of, shards_from}

-- ---- all goes to one shard
all_go : (what : What) → goes_to 1 0 what ≡ true
all_go (Tuple key time value) = eq-eqb (number_of key % 1) 0 (omega arith)
all_go (Mark key time) = eq-eqb (number_of key % 1) 0 (omega arith)
all_go (Water time) = refl
all_go Idle = refl
all_go End = refl

routed_to_one : (entries : List Entry) → routed 1 0 entries ≡ entries
routed_to_one [] = refl
routed_to_one (e ∷ es) = ap (λ b. cond b (e ∷ routed 1 0 es) (routed 1 0 es)) (all_go e.what) ∙ ap (λ l. e ∷ l) (routed_to_one es)

part_at : (shards k : ℕ) (sources : List (List Entry)) (s : ℕ) → get_or (parts_of shards k sources) s [] ≡ routed shards k (get_or sources s [])
part_at shards k [] s = refl
part_at shards k (source ∷ sources) zero = refl
part_at shards k (source ∷ sources) (suc s) = part_at shards k sources s

as_many : (shards k : ℕ) (sources : List (List Entry)) → length (parts_of shards k sources) ≡ length sources
as_many shards k [] = refl
as_many shards k (source ∷ sources) = ap (λ n. suc n) (as_many shards k sources)

one_part : (shards k s : ℕ) (sources : List (List Entry)) → routed 1 0 (get_or (parts_of shards k sources) s []) ≡ routed shards k (get_or sources s [])
one_part shards k s sources = routed_to_one (get_or (parts_of shards k sources) s []) ∙ part_at shards k sources s

module _ (shards : ℕ) (sources journals : List (List Entry)) where
  whole_from_parts : AreOfParts shards sources journals → IsLawful shards sources journals
  whole_from_parts h = record {
    count = h.count;
    known = λ k i e l m. let below : (get_or (get_or journals k []) i e).source < length (parts_of shards k sources) = (h.each k (omega (arith, h.count))).known 0 i e (omega arith) m in omega (arith, as_many shards k sources);
    held = λ k s l m. (h.each k (omega (arith, h.count))).held 0 s (omega arith) (omega (arith, as_many shards k sources)) ∙ one_part shards k s sources;
  }

  part_of_whole : IsLawful shards sources journals → (k : ℕ) → k < shards → IsLawful 1 (parts_of shards k sources) (get_or journals k [] ∷ [])
  part_of_whole h k l = record { count = refl; known = known; held = held }
    where
      known : (j i : ℕ) (e : Entry) → j < 1 → i < length (get_or (get_or journals k [] ∷ []) j []) → (get_or (get_or (get_or journals k [] ∷ []) j []) i e).source < length (parts_of shards k sources)
      known zero i e n m = let below : (get_or (get_or journals k []) i e).source < length sources = h.known k i e (omega (arith, h.count)) m in omega (arith, as_many shards k sources)
      known (suc j) i e n m = absurd (omega arith)

      held : (j s : ℕ) → j < 1 → s < length (parts_of shards k sources) → entries_from s (get_or (get_or journals k [] ∷ []) j []) ≡ routed 1 j (get_or (parts_of shards k sources) s [])
      held zero s n m = h.held k s (omega (arith, h.count)) (omega (arith, as_many shards k sources)) ∙ sym (one_part shards k s sources)
      held (suc j) s n m = absurd (omega arith)

  pub parts_are_whole : AreOfParts shards sources journals ↔ IsLawful shards sources journals
  parts_are_whole = (whole_from_parts, λ h. record { count = h.count; each = part_of_whole h })

-- ---- joined reports
same_changes : (d : Definitions) (sources : ℕ) (before : List Entry) (e : Entry) → changes_after (part_definitions d) sources before e ≡ changes_after d sources before e
unfolding changes_after
same_changes d sources before e = refl

module _ (form : Form) (d : Definitions) (sources : ℕ) where
  same_lines : (before es : List Entry) → journal_lines (changes_under form (part_definitions d) sources) before es ≡ journal_lines (changes_under form d sources) before es
  same_lines before [] = refl
  same_lines before (e ∷ es) = λ i. entry_line e ++ (change_lines form (same_changes d sources before e i) ++ same_lines (before ++ e ∷ []) es i)

  abbrev lines : List Entry → List ℕ
  lines journal = journal_lines (changes_under form (part_definitions d) sources) [] journal

  abbrev report : List Entry → List ℕ
  report journal = report_of form (part_definitions d) sources (journal ∷ [])

  laid_out : (journal : List Entry) → report journal ≡ form.front ++ (header_line 0 ++ (lines journal ++ codes "end\n"))
  unfolding report_of
  laid_out journal =
      ap (λ t. form.front ++ t) (ap (λ t. (header_line 0 ++ t) ++ codes "end\n") (append-nil (lines journal)) ∙ append_assoc (header_line 0) (lines journal) (codes "end\n"))

  inside : (front head body last : List ℕ) → drop (length front + length head) (front ++ (head ++ (body ++ last))) ≡ body ++ last
  inside front head body last = drop-append-add front (head ++ (body ++ last)) (length head) ∙ drop_front head (body ++ last)
    where
      drop_front : (xs ys : List ℕ) → drop (length xs) (xs ++ ys) ≡ ys
      drop_front [] ys = refl
      drop_front (x ∷ xs) ys = drop_front xs ys

  up_to : (body last : List ℕ) → take (length (body ++ last) - length last) (body ++ last) ≡ body
  up_to body last =
      let n : length (body ++ last) - length last ≡ length body = omega (arith, length-append body last) in
      ap (λ k. take k (body ++ last)) n ∙ take-append_seam body last

  own_body : (journal : List Entry) → body_of form (report journal) ≡ journal_lines (changes_under form d sources) [] journal
  own_body journal =
      ap (body_of form) (laid_out journal)
      ∙ ap (λ ls. take (length ls - length (codes "end\n")) ls) (inside form.front (header_line 0) (lines journal) (codes "end\n"))
      ∙ up_to (lines journal) (codes "end\n")
      ∙ same_lines [] journal

  all_shards : (k : ℕ) (journals : List (List Entry)) → shards_from form k (map report journals) ≡ shard_lines (changes_under form d sources) k journals
  all_shards k [] = refl
  all_shards k (journal ∷ journals) = λ i. header_line k ++ (own_body journal i ++ all_shards (k + 1) journals i)

  pub joined_is_report : (journals : List (List Entry)) → joined form (map report journals) ≡ report_of form d sources journals
  unfolding joined report_of
  joined_is_report journals = ap (λ t. form.front ++ (t ++ codes "end\n")) (all_shards 0 journals)
