-- A move to below the least so far completes nothing of the windows so far, and a move to it something.
use Rattle.std.proofs.Common.{◌≡◌, ◌≤◌, ◌<◌, [], ℕ, List, take}
use Rattle.std.specs.Prelude.{◌≢◌}
use Rattle.std.specs.List.{enumerate_from, flat_map}
use Rattle.stream_base.specs.declared.limits.TheConstants.{FINAL}
use Rattle.stream_base.specs.Laws.{completions}
use Rattle.stream_base.specs.Model.Changes.{Moment}
use Rattle.key_slicer.specs.Parts.{AllStandAt}
use Rattle.key_slicer.proofs.parts.Parts.next_due.Given as goal

abbrev pub invariant-loop-window : goal.invariant-loop-window
invariant-loop-window g l = record {
  none_before : (key : List ℕ) (m : Moment) (n new : ℕ) → AllStandAt g.P.KeyPart.stands l.defs l.water l.store l.self.list.items m n
      → l.water ≤ new → new < l.due → flat_map (completions key m new) (enumerate_from 0 (take l.window l.defs.windows)) ≡ [];
  some_at : (key : List ℕ) (m : Moment) (n : ℕ) → AllStandAt g.P.KeyPart.stands l.defs l.water l.store l.self.list.items m n
      → l.due ≤ FINAL → (l.water < l.due) × (flat_map (completions key m l.due) (enumerate_from 0 (take l.window l.defs.windows)) ≢ []);
}
