-- The time is the least of the first and of those of the windows so far.
use Rattle.std.proofs.Common.{◌≤◌, ◌<◌, ◌-◌, ℕ, get_or}
use Rattle.stream_base.specs.Model.Changes.{Moment}
use Rattle.window_laws.specs.After.{at_water}
use Rattle.window_laws.specs.Settled.{without_first}
use Rattle.agg_store.specs.Stored.{Stored}
use Rattle.key_parts.specs.Calls.{window_at}
use Rattle.key_parts.specs.Moves.{SettlesUpTo}
use Rattle.key_slicer.specs.Parts.{AllStandAt}
use Rattle.key_slicer.proofs.Loops.{IsLeastSoFar}
use Rattle.key_slicer.proofs.parts.Parts.first_unsettled.Given as goal

abbrev pub invariant-loop-window : goal.invariant-loop-window
invariant-loop-window g l = record {
  least : IsLeastSoFar (λ i part. g.P.KeyPart.settles_at l.defs i l.water part) (l.water - l.defs.lateness) l.self.list.items l.window l.time;
  settles : (m : Moment) (n : ℕ) (s : Stored) (w : ℕ) → w ≤ l.water → AllStandAt g.P.KeyPart.stands l.defs w s l.self.list.items m n
      → (j : ℕ) (x : g.row.P.Denot) → j < l.window → SettlesUpTo l.defs.lateness (at_water (without_first n m) l.water) (window_at l.defs j) (g.P.KeyPart.settles_at l.defs j l.water (get_or l.self.list.items j x));
}
