-- The line is taken, or refused.
use Rattle.std.proofs.Common.{◌≡◌, ◌∙◌, ◌++◌, ◌∷◌, [], ◌+◌, ap, rules, subst, sym, None, Some}
use Rattle.row_laws.specs.Told.{after_line, read_text}
use Rattle.report_rows.specs.Reader.{IsReader}
use Rattle.report_rows.proofs.TextFacts.{line_refused, one_line}
use Rattle.report_rows.proofs.text.TextReader.end_line.Goals as goal

pub invariant_of-self : goal.invariant_of-self
invariant_of-self c =
    let step : after_line c.self.inside.told (c.self.inside.pending).items ≡ Some c.line.new.self = search rules in
    let next = one_line (c.self.inside.given).bytes c.self.inside.number c.self.inside.told c.line.new.self (c.self.inside.pending).items step c.self.invariant in
    let bytes : (c.self.inside.given).bytes ++ 10 ∷ [] ≡ c.add.new.self.bytes = search rules in
    let none : [] ≡ c.clear.new.self.items = search rules in
    subst (λ p. IsReader c.add.new.self.bytes (c.self.inside.number + 1) c.line.new.self p) none
    (subst (λ g. IsReader g (c.self.inside.number + 1) c.line.new.self []) bytes next)

pub returns-in-Ok-false-clause-refused : goal.returns-in-Ok-false-clause-refused
returns-in-Ok-false-clause-refused c =
    let step : after_line c.self.inside.told (c.self.inside.pending).items ≡ None = search rules in
    λ more.
    ap (λ given. read_text ((given ++ 10 ∷ []) ++ more)) (sym c.self.view_is)
    ∙ line_refused (c.self.inside.given).bytes c.self.inside.number c.self.inside.told (c.self.inside.pending).items step c.self.invariant more
