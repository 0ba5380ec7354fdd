-- The first sources are opened, each feed under its number, and nothing of them was read.
use Rattle.std.proofs.Common.{◌≡◌, ◌<◌, ◌++◌, ℕ, List, length, map, string_bytes, take}
use Rattle.std.specs.Vec.{vec_capacity}
use Rattle.run_inputs.specs.Opening.{AreUnread}
use Rattle.run_inputs.proofs.opening.open_sources.Given as goal

abbrev pub invariant-loop-i : goal.invariant-loop-i
invariant-loop-i g l = let f = g.F.Files in record {
  many : length l.feeds.items ≡ l.i;
  room : vec_capacity l.feeds ≡ length l.names;
  in_order : f.asked l.files ≡ f.asked l.initial.files ++ take l.i (map string_bytes l.names);
  unread : AreUnread g.F.Input.Source.reads g.F.Input.Source.told (length (f.asked l.initial.files)) (f.told l.initial.files) (map string_bytes l.names) l.defs l.feeds.items;
  earlier : (k : ℕ) → k < length (f.asked l.initial.files) → f.came l.files k ≡ f.came l.initial.files k;
  same : (which : List ℕ) → f.told l.files which ≡ f.told l.initial.files which;
}
