-- Headers, and entries at the end of the last journal.
use Rattle.std.proofs.Common.{◌≡◌, ◌∙◌, ℕ, ◌-◌, ◌<◌, suc, false, List, [], ◌∷◌, ◌++◌, length, set, get_or, refl, ap, subst, arith, OnOk, Result, Ok, Err, Some, cond}
use Rattle.std.specs.Option.{option_map_or}
use Rattle.stream_base.specs.declared.entry.Entry.{Entry}
use Rattle.stream_base.specs.Model.Journals.{after_line, entry_in, is_header, with_entry}

-- one entry more at the last place
put_at_last : (journals : List (List Entry)) (e : Entry) (d : List Entry) → 0 < length journals
    → set journals (length journals - 1) (get_or journals (length journals - 1) d ++ e ∷ []) ≡ with_entry journals e
put_at_last [] e d h = absurd (omega arith)
put_at_last (journal ∷ []) e d h = refl
put_at_last (journal ∷ next ∷ journals) e d h =
    let at : length (journal ∷ next ∷ journals) - 1 ≡ suc (length (next ∷ journals) - 1) = omega arith in
    rw at (ap (λ js. journal ∷ js) (put_at_last (next ∷ journals) e d (omega arith)))

pub put_last : {E : Type 0} (r : Result (Unit {0}) E) (journals : List (List Entry)) (e : Entry) (n : ℕ) (old new : List Entry) → n ≡ length journals → 0 < n
    → old ≡ get_or journals (n - 1) old → OnOk r (new ≡ old ++ e ∷ []) → OnOk r (set journals (n - 1) new ≡ with_entry journals e)
put_last (Ok done) journals e n old new l h was is =
    ap (λ m. set journals (m - 1) new) l
    ∙ ap (λ js. set journals (length journals - 1) js) (is ∙ ap (λ js. js ++ e ∷ []) (was ∙ ap (λ m. get_or journals (m - 1) old) l))
    ∙ put_at_last journals e old (subst (λ m. 0 < m) l h)
put_last (Err fault) journals e n old new l h was is = tt

-- the line of an entry adds it to the last journal
pub after_entry : (journals : List (List Entry)) (line : List ℕ) (e : Entry) → is_header line ≡ false → entry_in line ≡ Some e → after_line journals line ≡ with_entry journals e
after_entry journals line e header found = λ i. cond (header i) (journals ++ [] ∷ []) (option_map_or (with_entry journals) (found i) journals)
