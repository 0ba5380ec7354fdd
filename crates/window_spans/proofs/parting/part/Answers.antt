-- The second part is put behind the first.
use Rattle.std.proofs.Common.{◌≡◌, ◌∙◌, ◌+◌, take, drop, sym, arith, rules}
use Rattle.std.specs.Prelude.{insert, ◌++◌, ◌∷◌, option_to_list}
use Rattle.window_spans.proofs.Edits.{both_put}
use Rattle.window_spans.proofs.parting.part.Goals as goal

pub returns-in-Some-Some-clause-items : goal.returns-in-Some-Some-clause-items
returns-in-Some-Some-clause-items c =
    let old = c.args.spans.now.items in
    let is : c.insert.new.self.items ≡ insert (take c.args.from old ++ c.in-Some-Some.front ∷ drop c.args.to old) (c.args.from + 1) c.in-Some-Some.back = search rules in
    is
    ∙ both_put old c.args.from c.args.to c.in-Some-Some.front c.in-Some-Some.back (omega arith)
    ∙ (λ i. take c.args.from old ++ ((option_to_list (sym c.in-Some-Some.is-0 i) ++ option_to_list (sym c.in-Some-Some.is-1 i)) ++ drop c.args.to old))
