use Rattle.std.proofs.Common.{◌≡◌, ℕ, Bool, true, false, cond, List, [], ◌∷◌, ◌++◌, append-nil, sym, ◌∙◌, is_ok, arith}
use Rattle.turnstile.specs.History.{AddsAtMostOne}
use Rattle.thread_tests.proofs.pairs.AppendCallPairs.run.Goals as goal

one_or_none : (b : Bool) (old new : List (ℕ × ℕ)) (n v : ℕ) → new ≡ cond b (old ++ (n, v) ∷ []) old → AddsAtMostOne n old new
one_or_none true old new n v e = (v ∷ [], omega arith, e)
one_or_none false old new n v e = ([], omega arith, e ∙ sym (append-nil old))

pub returns-clause-items : goal.returns-clause-items
returns-clause-items c = one_or_none (is_ok c.push.result) c.args.value.now.items.items c.push.new.self.items c.args.number c.args.self.value c.push.ensures.items
