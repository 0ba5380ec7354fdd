-- The parts that are listed serve every kind.
use Rattle.std.specs.Prelude.{◌≡◌, ◌||◌, true}
use Rattle.std.proofs.Common.{refl}
use Rattle.stream_base.specs.Kinds.{is_events, is_session, is_timed}
use Rattle.stream_base.specs.declared.kind.Kind.{Kind}
use Rattle.stream_base.specs.declared.kind.Kind.TheVariants.{Tumbling, Sliding, Session, Marks, Events}
use Rattle.context_windows.specs.MarksStand.{is_marks}

pub each_is_served : (kind : Kind) → (is_timed kind || (is_session kind || (is_marks kind || is_events kind))) ≡ true
each_is_served (Tumbling length) = refl
each_is_served (Sliding length slide) = refl
each_is_served (Session gap) = refl
each_is_served Marks = refl
each_is_served (Events count) = refl
