-- A text that ends with a line feed spells the line in front of it, and another text spells none.
use Rattle.std.proofs.Common.{◌≡◌, ◌≢◌, ◌∙◌, ◌++◌, ◌∷◌, [], ℕ, List, ap, subst, MatchOption}
use Rattle.std.specs.Str.{bytes_eq}
use Rattle.std.proofs.lemmas.Bool.Decides.{Decides-eqb}
use Rattle.std.proofs.lemmas.Slice.Eq.{strip_suffix_is}
use Rattle.report_lines.proofs.Spelling.{front_spells, none_spells}
use Rattle.report_lines.proofs.line.Line.spells.Goals as goal

pub returns-in-Some : goal.returns-in-Some
returns-in-Some c =
    let text = c.text.result.now in
    let line = c.args.line.now in
    let split = subst (λ r. MatchOption r ((front : List ℕ) → text ≢ front ++ 10 ∷ []) (λ x. text ≡ x.now ++ 10 ∷ [])) c.in-Some.is
    (strip_suffix_is Decides-eqb text (10 ∷ []) c.strip_suffix.result c.strip_suffix.ensures.cases) in
    c.eq.ensures ∙ front_spells text line c.in-Some.front.now split ∙ ap (λ told. bytes_eq told (line ++ 10 ∷ [])) c.text.ensures

pub returns-in-None : goal.returns-in-None
returns-in-None c =
    let text = c.text.result.now in
    let line = c.args.line.now in
    let split = subst (λ r. MatchOption r ((front : List ℕ) → text ≢ front ++ 10 ∷ []) (λ x. text ≡ x.now ++ 10 ∷ [])) c.in-None.is
    (strip_suffix_is Decides-eqb text (10 ∷ []) c.strip_suffix.result c.strip_suffix.ensures.cases) in
    none_spells text line split ∙ ap (λ told. bytes_eq told (line ++ 10 ∷ [])) c.text.ensures
