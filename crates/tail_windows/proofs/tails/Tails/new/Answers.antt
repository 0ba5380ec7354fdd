-- No entry, and no key.
use Rattle.std.proofs.Common.{[], ℕ, List, subst, sym}
use Rattle.tail_windows.specs.Following.{StandsFor}
use Rattle.tail_windows.specs.declared.sample.Sample.{Sample}
use Rattle.tail_windows.proofs.Follow.{stands_for_none}
use Rattle.tail_windows.proofs.tails.Tails.new.Goals as goal

pub returns-clause-stands : goal.returns-clause-stands
returns-clause-stands c =
    subst (λ (lists : List (List ℕ × List Sample)). StandsFor (record { def = c.args.def; waters = c.in_ok-new.field-0; lists = lists }) []) (sym c.new-2.ensures)
    (stands_for_none c.args.def c.in_ok-new.field-0 c.in_ok-new.ensures.stands)
