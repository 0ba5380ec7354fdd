-- The first parts were asked, and what they have kept took that many folds. No part has less ahead, and the credit of all has not risen.
use Rattle.std.proofs.Common.{◌≤◌, ◌+◌, ◌*◌, ℕ, take}
use Rattle.agg_store.specs.Stored.{Stored}
use Rattle.key_slicer.specs.Parts.{EachPart, rooms}
use Rattle.key_slicer.proofs.Loops.{AreStepped}
use Rattle.key_slicer.proofs.Steps.{IsAsked}
use Rattle.key_slicer.proofs.parts.Parts.before.Given as goal

abbrev pub invariant-loop-window : goal.invariant-loop-window
invariant-loop-window g l = record {
  stepped : AreStepped (IsAsked g.P.KeyPart.stands l.defs g.P.KeyPart.is_asked (λ i part. g.P.KeyPart.is_ready l.defs i l.time l.water part) (λ i part. g.P.KeyPart.put_room l.defs i l.time l.water part) l.water l.store l.time)
      l.window l.fn.self.list.items l.self.list.items;
  work : l.steps ≤ l.fn.steps + 64 * (l.store.reach + 2) * rooms (λ i part. g.P.KeyPart.owed part) (take l.window l.self.list.items);
  credit : rooms (λ i part. g.P.KeyPart.credit part) l.self.list.items ≤ rooms (λ i part. g.P.KeyPart.credit part) l.fn.self.list.items;
  ahead : (w : ℕ) (s : Stored) → EachPart (λ i part. g.P.KeyPart.is_ahead l.defs i w s part) l.fn.self.list.items
      → EachPart (λ i part. g.P.KeyPart.is_ahead l.defs i w s part) l.self.list.items;
}
