-- The first parts took the mark in, what they changed is appended, and each change took a fold at most. The credit of all has not risen.
use Rattle.std.proofs.Common.{◌≡◌, ◌≤◌, ◌+◌, ◌-◌, ◌*◌, ◌++◌, ℕ, drop, take}
use Rattle.std.specs.Prelude.{vec_capacity, vec_len}
use Rattle.std.specs.List.{enumerate_from, flat_map}
use Rattle.stream_base.specs.Model.Changes.{Moment}
use Rattle.window_laws.specs.After.{with_mark}
use Rattle.agg_store.specs.Stored.{Stored}
use Rattle.key_slicer.specs.Parts.{AllTakeMark, rooms, turns}
use Rattle.key_slicer.proofs.Loops.{AreStepped, rooms_from}
use Rattle.key_slicer.proofs.Steps.{IsMarkedIn}
use Rattle.key_slicer.proofs.parts.Parts.mark.Given as goal

abbrev pub invariant-loop-window : goal.invariant-loop-window
invariant-loop-window g l = record {
  stepped : AreStepped (IsMarkedIn g.P.KeyPart.stands l.defs g.P.KeyPart.is_ahead l.water l.time l.store) l.window l.fn.self.list.items l.self.list.items;
  changes : (m : Moment) (n : ℕ) (before : Stored) → AllTakeMark g.P.KeyPart.stands l.defs l.water l.time l.store l.fn.self.list.items m n before
      → l.out.items ≡ l.fn.out.items ++ flat_map (turns l.key m (with_mark m l.time)) (enumerate_from 0 (take l.window l.defs.windows));
  spare : rooms_from (λ i part. g.P.KeyPart.mark_room l.defs i l.time l.water part) l.window (drop l.window l.fn.self.list.items) ≤ vec_capacity l.out - vec_len l.out;
  room : vec_len l.out + rooms_from (λ i part. g.P.KeyPart.mark_room l.defs i l.time l.water part) l.window (drop l.window l.fn.self.list.items)
      ≤ vec_len l.fn.out + rooms (λ i part. g.P.KeyPart.mark_room l.defs i l.time l.water part) l.fn.self.list.items;
  capacity : vec_capacity l.out ≡ vec_capacity l.fn.out;
  grown : vec_len l.fn.out ≤ vec_len l.out;
  work : l.steps ≤ l.fn.steps + 64 * (l.store.reach + 2) * (vec_len l.out - vec_len l.fn.out);
  credit : rooms (λ i part. g.P.KeyPart.credit part) l.self.list.items ≤ rooms (λ i part. g.P.KeyPart.credit part) l.fn.self.list.items;
}
