-- The first parts took the tuple in, what they changed is appended, which is no less than what they had kept, and took what their windows take for it. The credit of all has not risen.
use Rattle.std.proofs.Common.{◌≡◌, ◌≤◌, ◌+◌, ◌-◌, ◌++◌, ℕ, drop, take}
use Rattle.std.specs.Prelude.{sum_by, vec_capacity, vec_len}
use Rattle.std.specs.List.{enumerate_from, flat_map}
use Rattle.stream_base.specs.Model.Changes.{Moment}
use Rattle.window_laws.specs.After.{with_tuple}
use Rattle.agg_store.specs.Stored.{Stored}
use Rattle.key_slicer.specs.Parts.{AllTakeTuple, rooms, turns}
use Rattle.key_slicer.specs.Work.{turn_work}
use Rattle.key_slicer.proofs.Loops.{AreStepped, rooms_from}
use Rattle.key_slicer.proofs.Steps.{IsPutIn}
use Rattle.key_slicer.proofs.parts.Parts.put.Given as goal

abbrev pub invariant-loop-window : goal.invariant-loop-window
invariant-loop-window g l = record {
  stepped : AreStepped (IsPutIn g.P.KeyPart.stands l.defs g.P.KeyPart.is_asked g.P.KeyPart.is_ahead l.water l.x l.store) l.window l.fn.self.list.items l.self.list.items;
  changes : (m : Moment) (n : ℕ) (before : Stored) (more : ℕ) → AllTakeTuple g.P.KeyPart.stands l.defs g.P.KeyPart.is_asked l.water l.x l.store l.fn.self.list.items m n before more
      → l.out.items ≡ l.fn.out.items ++ flat_map (turns l.key m (with_tuple m l.x)) (enumerate_from 0 (take l.window l.defs.windows));
  spare : rooms_from (λ i part. g.P.KeyPart.put_room l.defs i l.x.time l.water part) l.window (drop l.window l.fn.self.list.items) ≤ vec_capacity l.out - vec_len l.out;
  room : vec_len l.out + rooms_from (λ i part. g.P.KeyPart.put_room l.defs i l.x.time l.water part) l.window (drop l.window l.fn.self.list.items)
      ≤ vec_len l.fn.out + rooms (λ i part. g.P.KeyPart.put_room l.defs i l.x.time l.water part) l.fn.self.list.items;
  capacity : vec_capacity l.out ≡ vec_capacity l.fn.out;
  grown : vec_len l.fn.out ≤ vec_len l.out;
  owed : rooms (λ i part. g.P.KeyPart.owed part) l.fn.self.list.items
      ≤ (vec_len l.out - vec_len l.fn.out) + rooms_from (λ i part. g.P.KeyPart.owed part) l.window (drop l.window l.fn.self.list.items);
  work : (m : Moment) (n : ℕ) (before : Stored) (more : ℕ) → AllTakeTuple g.P.KeyPart.stands l.defs g.P.KeyPart.is_asked l.water l.x l.store l.fn.self.list.items m n before more
      → l.steps ≤ l.fn.steps + sum_by (turn_work l.key m (with_tuple m l.x) l.store.reach) (enumerate_from 0 (take l.window l.defs.windows));
  credit : rooms (λ i part. g.P.KeyPart.credit part) l.self.list.items ≤ rooms (λ i part. g.P.KeyPart.credit part) l.fn.self.list.items;
}
