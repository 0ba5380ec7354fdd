-- The parts so far are fresh ones, which have missed nothing and have no credit, and there is room for the others.
use Rattle.std.proofs.Common.{◌≡◌, ◌≤◌, ◌-◌, [], ℕ, length}
use Rattle.std.specs.Prelude.{vec_capacity, vec_len}
use Rattle.stream_base.specs.Model.Moments.{moment}
use Rattle.agg_store.specs.Stored.{Stored}
use Rattle.key_slicer.specs.Parts.{EachPart, rooms}
use Rattle.key_slicer.proofs.parts.Parts.fresh.Given as goal

abbrev pub invariant-loop-window : goal.invariant-loop-window
invariant-loop-window g l = record {
  as_many : length l.list.items ≡ l.window;
  room : l.count - l.window ≤ vec_capacity l.list - vec_len l.list;
  each : (water : ℕ) (s : Stored) → s.slices ≡ [] → EachPart (λ i part. g.P.KeyPart.stands l.defs i (moment [] [] water) 0 s part) l.list.items;
  credit : rooms (λ i part. g.P.KeyPart.credit part) l.list.items ≡ 0;
  ahead : (water : ℕ) (s : Stored) → s.slices ≡ [] → EachPart (λ i part. g.P.KeyPart.is_ahead l.defs i water s part) l.list.items;
}
