-- A line is an entry's exactly where it spells the entry, and a header's where it spells a number.
use Rattle.std.proofs.Common.{◌≡◌, ℕ, ◌^◌, ◌<◌, ltb, Bool, true, false, cond, List, [], ◌∷◌, ◌++◌, refl, sym, ◌∙◌, subst}
use Rattle.std.proofs.lemmas.Bool.{and_parts, ltb-true}
use Rattle.std.proofs.lemmas.List.{append_cancel_right}
use Rattle.std.proofs.lemmas.Slice.Eq.{bytes_eq-Decides}
use Rattle.std.specs.Str.{bytes_eq}
use Rattle.std.specs.Prelude.{◌&&◌, ◌↔◌, None, Some, codes, decimal}
use Rattle.stream_base.specs.declared.entry.Entry.{Entry}
use Rattle.stream_base.specs.Model.Text.{entry_line, line_of}
use Rattle.stream_base.specs.Model.Journals.{after_word, number_in, is_entry_within, guessed_entry, entry_in, is_header}
use Rattle.report_laws.proofs.ReadBackEntry.{entry_text, entry_line-is, header_text, entry_in-entry_text, is_header-header_text}

passed : (b c : Bool) (g e : Entry) → cond (b && c) (Some g) None ≡ Some e → (b ≡ true) × (c ≡ true) × (g ≡ e)
passed true true g e h = (refl, refl, cc)
passed true false g e h = absurd (cc)
passed false c g e h = absurd (cc)

pub entry_in-exact : (line : List ℕ) (e : Entry) → (entry_in line ≡ Some e) ↔ ((entry_line e ≡ line ++ 10 ∷ []) × (is_entry_within e ≡ true))
entry_in-exact line e =
    let g = guessed_entry line in
    let spells = λ (x : Entry). (entry_line x ≡ line ++ 10 ∷ []) × (is_entry_within x ≡ true) in (
      λ h.
          let p = passed (bytes_eq (entry_line g) (line ++ 10 ∷ [])) (is_entry_within g) g e h in
          subst spells p.2 ((bytes_eq-Decides (entry_line g) (line ++ 10 ∷ [])).0 p.0, p.1),
      λ h.
          let same : entry_text e ≡ line = append_cancel_right (entry_text e) line (10 ∷ []) (sym (entry_line-is e) ∙ h.0) in
          subst (λ (l : List ℕ). entry_in l ≡ Some e) same (entry_in-entry_text e h.1),
    )

pub is_header-exact : (line : List ℕ) → (is_header line ≡ true) ↔ ((k : ℕ) × (k < 2 ^ 64) × (line_of (codes "shard" ∷ decimal k ∷ []) ≡ line ++ 10 ∷ []))
is_header-exact line =
    let n = number_in (after_word line) in (
      λ h.
          let p = and_parts (bytes_eq (line_of (codes "shard" ∷ decimal n ∷ [])) (line ++ 10 ∷ [])) (ltb n (2 ^ 64)) h in
          (n, ltb-true n (2 ^ 64) p.1, (bytes_eq-Decides (line_of (codes "shard" ∷ decimal n ∷ [])) (line ++ 10 ∷ [])).0 p.0),
      λ h. subst (λ (l : List ℕ). is_header l ≡ true) (append_cancel_right (header_text h.0) line (10 ∷ []) h.2) (is_header-header_text h.0 h.1),
    )
