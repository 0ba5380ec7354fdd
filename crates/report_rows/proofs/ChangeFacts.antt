-- A line's change is the guess, where the line is its own.
use Rattle.std.proofs.Common.{◌≡◌, ◌∙◌, ℕ, Bool, true, false, cond, List, [], ◌∷◌, ◌++◌, ap, sym, refl, None, Some}
use Rattle.std.specs.Prelude.{◌&&◌}
use Rattle.std.specs.Str.{bytes_eq}
use Rattle.stream_base.specs.declared.change.Change.{Change}
use Rattle.row_laws.specs.Fitting.{is_change_fit}
use Rattle.row_laws.specs.Reading.{change_in, form_of}
use Rattle.report_rows.specs.Changes.{guess_of, is_line_of}

pub is_change : (full : Bool) (line : List ℕ) (c : Change) → c ≡ guess_of full line → is_line_of full line c ≡ true → Some c ≡ change_in full line
is_change full line c is own = ap Some is ∙ sym (ap (λ b. cond b (Some (guess_of full line)) None) (sym (ap (is_line_of full line) is) ∙ own))

pub is_none : (full : Bool) (line : List ℕ) (c : Change) → c ≡ guess_of full line → is_line_of full line c ≡ false → None ≡ change_in full line
is_none full line c is other = sym (ap (λ b. cond b (Some (guess_of full line)) None) (sym (ap (is_line_of full line) is) ∙ other))

and_none : (a b : Bool) → b ≡ false → (a && b) ≡ false
and_none true b e = e
and_none false b e = refl

pub is_beyond : (full : Bool) (line : List ℕ) → is_change_fit (guess_of full line) ≡ false → None ≡ change_in full line
is_beyond full line h =
    sym (ap (λ b. cond b (Some (guess_of full line)) None) (and_none (bytes_eq ((form_of full).line (guess_of full line)) (line ++ 10 ∷ [])) (is_change_fit (guess_of full line)) h))
