-- The first parts have room, and the sum of it is this. No part has less ahead, and the credit of all has not risen.
use Rattle.std.proofs.Common.{◌≡◌, ◌≤◌, ℕ, take}
use Rattle.agg_store.specs.Stored.{Stored}
use Rattle.key_slicer.specs.Parts.{EachPart, rooms}
use Rattle.key_slicer.proofs.Loops.{AreStepped}
use Rattle.key_slicer.proofs.Steps.{IsReserved}
use Rattle.key_slicer.proofs.parts.Parts.reserve_mark.Given as goal

abbrev pub invariant-loop-window : goal.invariant-loop-window
invariant-loop-window g l = record {
  stepped : AreStepped (IsReserved g.P.KeyPart.stands l.defs (λ i part. g.P.KeyPart.is_ready l.defs i l.time l.water part)) l.window l.fn.self.list.items l.self.list.items;
  room : l.room ≡ rooms (λ i part. g.P.KeyPart.mark_room l.defs i l.time l.water part) (take l.window l.self.list.items);
  credit : rooms (λ i part. g.P.KeyPart.credit part) l.self.list.items ≤ rooms (λ i part. g.P.KeyPart.credit part) l.fn.self.list.items;
  ahead : (w : ℕ) (s : Stored) → EachPart (λ i part. g.P.KeyPart.is_ahead l.defs i w s part) l.fn.self.list.items
      → EachPart (λ i part. g.P.KeyPart.is_ahead l.defs i w s part) l.self.list.items;
}
