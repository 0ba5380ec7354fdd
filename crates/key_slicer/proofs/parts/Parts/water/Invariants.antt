-- The first parts took the move in, and what they completed is appended. On credit they took what their windows take for it, and what they had missed.
use Rattle.std.proofs.Common.{◌≡◌, ◌≤◌, ◌+◌, ◌-◌, ◌*◌, ◌++◌, ℕ, drop, length, take}
use Rattle.std.specs.Prelude.{sum_by, vec_capacity, vec_len}
use Rattle.std.specs.List.{enumerate_from, flat_map}
use Rattle.stream_base.specs.Laws.{completions}
use Rattle.stream_base.specs.Model.Changes.{Moment}
use Rattle.key_slicer.specs.Parts.{AllStandAt, EachPart, rooms}
use Rattle.key_slicer.specs.Work.{moved_work, walk_work}
use Rattle.key_slicer.proofs.Loops.{AreStepped, rooms_from}
use Rattle.key_slicer.proofs.Steps.{IsMoved}
use Rattle.key_slicer.proofs.parts.Parts.water.Given as goal

abbrev pub invariant-loop-window : goal.invariant-loop-window
invariant-loop-window g l = record {
  stepped : AreStepped (IsMoved g.P.KeyPart.stands l.defs g.P.KeyPart.is_ahead l.old l.new l.store) l.window l.fn.self.list.items l.self.list.items;
  changes : (m : Moment) (n : ℕ) → AllStandAt g.P.KeyPart.stands l.defs l.old l.store l.fn.self.list.items m n
      → l.out.items ≡ l.fn.out.items ++ flat_map (completions l.key m l.new) (enumerate_from 0 (take l.window l.defs.windows));
  spare : rooms_from (λ i part. g.P.KeyPart.move_room l.defs i l.store l.old l.new part) l.window (drop l.window l.fn.self.list.items) ≤ vec_capacity l.out - vec_len l.out;
  room : vec_len l.out + rooms_from (λ i part. g.P.KeyPart.move_room l.defs i l.store l.old l.new part) l.window (drop l.window l.fn.self.list.items)
      ≤ vec_len l.fn.out + rooms (λ i part. g.P.KeyPart.move_room l.defs i l.store l.old l.new part) l.fn.self.list.items;
  capacity : vec_capacity l.out ≡ vec_capacity l.fn.out;
  work_ahead : (m : Moment) (n : ℕ) → AllStandAt g.P.KeyPart.stands l.defs l.old l.store l.fn.self.list.items m n → EachPart (λ i part. g.P.KeyPart.is_ahead l.defs i l.old l.store part) l.fn.self.list.items
      → l.steps + rooms (λ i part. g.P.KeyPart.credit part) l.self.list.items
      ≤ l.fn.steps + rooms (λ i part. g.P.KeyPart.credit part) l.fn.self.list.items + sum_by (moved_work g.P.KeyPart.taken_up l.defs l.key m l.new l.store) (enumerate_from 0 (take l.window l.defs.windows));
  work : (m : Moment) (n : ℕ) → AllStandAt g.P.KeyPart.stands l.defs l.old l.store l.fn.self.list.items m n
      → l.steps + rooms (λ i part. g.P.KeyPart.credit part) l.self.list.items
      ≤ l.fn.steps + rooms (λ i part. g.P.KeyPart.credit part) l.fn.self.list.items
      + (sum_by (moved_work g.P.KeyPart.taken_up l.defs l.key m l.new l.store) (enumerate_from 0 (take l.window l.defs.windows)) + sum_by (λ w. 10 * g.P.KeyPart.missed l.defs w.0 l.store l.old) (enumerate_from 0 (take l.window l.defs.windows)));
  bound : (m : Moment) (n : ℕ) → AllStandAt g.P.KeyPart.stands l.defs l.old l.store l.fn.self.list.items m n
      → l.steps ≤ l.fn.steps + sum_by (walk_work l.key m l.new (length l.store.slices) l.store.reach) (enumerate_from 0 (take l.window l.defs.windows));
}
