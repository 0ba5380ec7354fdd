-- The text is read to its end.
use Rattle.std.proofs.Common.{◌≡◌, ◌∙◌, ap, false, length, rules, sym, true}
use Rattle.std.specs.Prelude.{◌==◌}
use Rattle.std.proofs.lemmas.Bool.Decides.{nat_tests}
use Rattle.row_laws.specs.Told.{is_behind, read_text, tells}
use Rattle.report_rows.proofs.TextFacts.{cut_off, lacking, told_whole}
use Rattle.report_rows.proofs.text.TextReader.finish.Goals as goal

pub returns-then-len-ne0-clause-refused : goal.returns-then-len-ne0-clause-refused
returns-then-len-ne0-clause-refused c =
    let some : (length (c.self.inside.pending).items == 0) ≡ false = search (rules, nat_tests) in
    ap read_text (sym c.self.view_is) ∙ cut_off (c.self.inside.given).bytes c.self.inside.number c.self.inside.told (c.self.inside.pending).items c.self.invariant some

pub returns-then-not-is_behind-clause-refused : goal.returns-then-not-is_behind-clause-refused
returns-then-not-is_behind-clause-refused c =
    let none : (length (c.self.inside.pending).items == 0) ≡ true = search (rules, nat_tests) in
    let inside : is_behind (c.self.inside.told).place ≡ false = search rules in
    ap read_text (sym c.self.view_is) ∙ lacking (c.self.inside.given).bytes c.self.inside.number c.self.inside.told (c.self.inside.pending).items c.self.invariant none inside

pub returns-clause-told : goal.returns-clause-told
returns-clause-told c =
    let none : (length (c.self.inside.pending).items == 0) ≡ true = search (rules, nat_tests) in
    let behind : is_behind (c.self.inside.told).place ≡ true = search rules in
    let same : (c.self.inside.told).shards ≡ c.into_shards.result.items = search rules in
    ap read_text (sym c.self.view_is) ∙ told_whole (c.self.inside.given).bytes c.self.inside.number c.self.inside.told (c.self.inside.pending).items c.self.invariant none behind ∙ ap tells same
