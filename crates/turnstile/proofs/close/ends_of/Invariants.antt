use Rattle.std.proofs.Common.{◌≡◌, map, take}
use Rattle.turnstile.specs.Passes.{numbers}
use Rattle.turnstile.proofs.close.ends_of.Given as goal

abbrev pub invariant-loop-pass : goal.invariant-loop-pass
invariant-loop-pass g l = map (λ e. e.number) l.ends.items ≡ numbers (take l.pass-index l.passes)
