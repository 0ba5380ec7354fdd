-- A field in one's own words is csv's.
use Rattle.std.proofs.Common.{◌≡◌, ℕ, Bool, true, false, cond, eqb, List, [], ◌∷◌, ◌++◌, ap, refl}
use Rattle.std.specs.List.{flat_map}
use Rattle.csv.specs.Writing.{default_writer, escaped, field_text, needs_quotes}
use Rattle.row_text.specs.Lines.{csv_byte, csv_field}

escaped_is : (text : List ℕ) → flat_map csv_byte text ≡ escaped default_writer text
unfolding escaped
escaped_is [] = refl
escaped_is (b ∷ text) = by (eqb b 34) (escaped_is text)
  where
    by : (t : Bool) → flat_map csv_byte text ≡ escaped default_writer text → cond t (34 ∷ b ∷ []) (b ∷ []) ++ flat_map csv_byte text ≡ cond t (34 ∷ b ∷ escaped default_writer text) (b ∷ escaped default_writer text)
    by true later = ap (λ (l : List ℕ). 34 ∷ b ∷ l) later
    by false later = ap (λ (l : List ℕ). b ∷ l) later

pub field_is : (text : List ℕ) → csv_field text ≡ field_text default_writer text
field_is text = ap (λ (l : List ℕ). cond (needs_quotes default_writer text) (34 ∷ (l ++ 34 ∷ [])) text) (escaped_is text)
