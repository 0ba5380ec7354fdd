-- The first parts let leave what nothing can need any more. No part has less ahead, and the credit of all has not risen.
use Rattle.std.proofs.Common.{◌≤◌, ℕ}
use Rattle.agg_store.specs.Stored.{Stored}
use Rattle.key_slicer.specs.Parts.{EachPart, rooms}
use Rattle.key_slicer.proofs.Loops.{AreStepped}
use Rattle.key_slicer.proofs.Steps.{IsLeaner}
use Rattle.key_slicer.proofs.parts.Parts.drop_needless.Given as goal

abbrev pub invariant-loop-window : goal.invariant-loop-window
invariant-loop-window g l = record {
  stepped : AreStepped (IsLeaner g.P.KeyPart.stands l.defs (λ i part. g.P.KeyPart.is_lean l.defs i l.water part) l.water) l.window l.fn.self.list.items l.self.list.items;
  credit : rooms (λ i part. g.P.KeyPart.credit part) l.self.list.items ≤ rooms (λ i part. g.P.KeyPart.credit part) l.fn.self.list.items;
  ahead : (w : ℕ) (s : Stored) → EachPart (λ i part. g.P.KeyPart.is_ahead l.defs i w s part) l.fn.self.list.items
      → EachPart (λ i part. g.P.KeyPart.is_ahead l.defs i w s part) l.self.list.items;
}
