-- Empty lists are a key's.
use Rattle.std.proofs.Common.{List, ℕ, [], arith, sym, subst}
use Rattle.stream_base.specs.declared.kept.Kept.{Kept}
use Rattle.plain_keys.specs.States.{IsState}
use Rattle.plain_keys.proofs.Keeps.{no_state, none_ahead}
use Rattle.plain_keys.proofs.plain_key.PlainKeyKeyWindows.fresh.Goals as goal

pub invariant_of-result : goal.invariant_of-result
invariant_of-result c =
    subst (λ (ms : List ℕ). IsState c.new.result.items ms 0) (sym c.new-2.ensures.items) (subst (λ (ks : List Kept). IsState ks [] 0) (sym c.new.ensures.items) no_state)

pub returns-clause-empty : goal.returns-clause-empty
returns-clause-empty c = λ water. (c.new.ensures.items, c.new-2.ensures.items, none_ahead (c.args.defs.now).windows water 18446744073709551615 (omega arith))
