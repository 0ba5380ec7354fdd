-- The watermark is that by which the time is settled in the windows so far.
use Rattle.std.proofs.Common.{◌≤◌, ◌<◌, ℕ, get_or}
use Rattle.stream_base.specs.Model.Changes.{Moment}
use Rattle.stream_base.specs.Model.Moments.{IsWater}
use Rattle.window_laws.specs.After.{at_water}
use Rattle.window_laws.specs.Settled.{without_first}
use Rattle.agg_store.specs.Stored.{Stored}
use Rattle.key_parts.specs.Calls.{window_at}
use Rattle.key_parts.specs.Moves.{SettlesUpTo}
use Rattle.key_slicer.specs.Parts.{AllStandAt}
use Rattle.key_slicer.proofs.Loops.{IsDueSoFar}
use Rattle.key_slicer.proofs.parts.Parts.settled_by.Given as goal

abbrev pub invariant-loop-window : goal.invariant-loop-window
invariant-loop-window g l = record {
  due : IsDueSoFar (λ water i part. g.P.KeyPart.settles_at l.defs i water part) l.defs.lateness l.self.list.items l.time l.window l.due;
  settles : (m : Moment) (n : ℕ) (s : Stored) (w water : ℕ) → w ≤ water → IsWater water → AllStandAt g.P.KeyPart.stands l.defs w s l.self.list.items m n
      → (j : ℕ) (x : g.row.P.Denot) → j < l.window → SettlesUpTo l.defs.lateness (at_water (without_first n m) water) (window_at l.defs j) (g.P.KeyPart.settles_at l.defs j water (get_or l.self.list.items j x));
}
