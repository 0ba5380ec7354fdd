-- The first parts forgot what has ended, and the credit of all has not risen.
use Rattle.std.proofs.Common.{◌≤◌}
use Rattle.key_slicer.specs.Parts.{rooms}
use Rattle.key_slicer.proofs.Loops.{AreStepped}
use Rattle.key_slicer.proofs.Steps.{IsRid}
use Rattle.key_slicer.proofs.parts.Parts.drop_settled.Given as goal

abbrev pub invariant-loop-window : goal.invariant-loop-window
invariant-loop-window g l = record {
  stepped : AreStepped (IsRid g.P.KeyPart.stands l.defs g.P.KeyPart.is_ahead (λ i part. g.P.KeyPart.settles_at l.defs i l.water part) l.water) l.window l.fn.self.list.items l.self.list.items;
  credit : rooms (λ i part. g.P.KeyPart.credit part) l.self.list.items ≤ rooms (λ i part. g.P.KeyPart.credit part) l.fn.self.list.items;
}
