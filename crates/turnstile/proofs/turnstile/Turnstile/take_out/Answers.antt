use Rattle.turnstile.proofs.Closing.{closes}
use Rattle.turnstile.proofs.turnstile.Turnstile.take_out.Goals as goal

pub returns : goal.returns
returns g c = let last = c.close_with-closed.ensures.values.2 in
    closes g.T.Keeps.items g.T.Keeps.fixed last.0 last.1.0 _ _ last.1.1 c.requires.reached.0 c.requires.reached.1 _ last.4 _ c.take-value.ensures.value
