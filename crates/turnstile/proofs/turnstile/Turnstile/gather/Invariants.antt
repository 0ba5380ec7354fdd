use Rattle.std.proofs.Common.{◌≡◌, [], ◌++◌, map}
use Rattle.std.specs.Prelude.{Contains}
use Rattle.turnstile.specs.Steps.{spent}
use Rattle.turnstile.specs.Passes.{known, IsPassOf}
use Rattle.turnstile.specs.declared.pass.Pass.{Pass}
use Rattle.turnstile.proofs.turnstile.Turnstile.gather.Given as goal

abbrev pub invariant-loop-pass : goal.invariant-loop-pass
invariant-loop-pass g l = record {
  own : (p : Pass g.row.T.Denot g.row.T-Item.Denot g.row.T-Fixed.Denot g.T.Keeps) → Contains l.passes.items p → IsPassOf l.self p;
  place_own : l.place.table_id ≡ l.self.table.shared.table_id;
  rests : l.place.me ≡ (record spent { others = l.place.me.0.others; room = l.place.me.0.room }, []);
  known_all : map known l.passes.items ++ l.place.me.0.others ≡ map known l.fn.passes.items;
}

abbrev pub decreases-loop-pass : goal.decreases-loop-pass
decreases-loop-pass g l = goal.left-loop-pass g l
