-- Tuples are settled up to the start of the first interval that ends after the watermark minus the lateness.
use Rattle.std.proofs.Common.{◌∙◌, ◌-◌, ap, sym, subst}
use Rattle.window_laws.specs.After.{at_water}
use Rattle.window_laws.specs.Settled.{without_first}
use Rattle.window_laws.specs.Walk.{next_start_of}
use Rattle.key_parts.specs.Calls.{window_at, window_kind}
use Rattle.key_parts.specs.Moves.{SettlesUpTo}
use Rattle.time_parts.specs.Places.{stands_at}
use Rattle.time_parts.proofs.WindowFacts.{rest_settles}
use Rattle.time_parts.proofs.lane_part.LanePartKeyPart.first_unsettled.Goals as goal

pub returns-clause-settles : goal.returns-clause-settles
returns-clause-settles g c = λ m n s w l at.
    let d = c.args.defs.now in
    let is = c.next_start.ensures (window_at d c.args.window) (stands_at d c.args.window at.stood.timed) ∙ ap (next_start_of (window_kind d c.args.window)) (c.saturating_sub-settled_by.ensures ∙ ap (λ k. c.args.water - k) c.lateness.ensures.value) in
    subst (SettlesUpTo d.lateness (at_water (without_first n m) c.args.water) (window_at d c.args.window)) (sym is)
    (rest_settles d c.args.window m n c.args.water at.stood.timed at.held.may_leave)
