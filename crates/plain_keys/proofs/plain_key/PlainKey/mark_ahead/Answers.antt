-- One mark more keeps the lists a key's.
use Rattle.std.proofs.Common.{List, ℕ, sym, subst}
use Rattle.plain_keys.specs.States.{IsState}
use Rattle.plain_keys.proofs.Keeps.{state_mark}
use Rattle.plain_keys.proofs.plain_key.PlainKey.mark_ahead.Goals as goal

pub invariant_of-self : goal.invariant_of-self
invariant_of-self c =
    let s = c.self.inside in
    subst (λ (ms : List ℕ). IsState s.kept.items ms s.next) (sym c.add_mark.ensures) (state_mark s.kept.items s.marks.items s.next c.args.time c.self.invariant c.requires.mark.within)
