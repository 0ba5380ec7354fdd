-- Each test that was passed is one of the limits.
use Rattle.std.proofs.Common.{◌≡◌, None, arith}
use Rattle.std.specs.List.{position}
use Rattle.stream_base.specs.Limits.{is_beyond}
use Rattle.stream_base.proofs.LimitFacts.{kinds_within}
use Rattle.stream_base.proofs.defs.Defs.new.Goals as goal

pub invariant_of-result : goal.invariant_of-result
invariant_of-result c =
    let none_beyond : position is_beyond c.args.windows.items ≡ None = cc (c.in_default.is, c.first_beyond.ensures, c.deref.ensures.value) in
    record {
      some_window = grind arith;
      few_windows = grind arith;
      kinds = kinds_within c.args.windows.items none_beyond;
      lateness = c.if-lateness-gt-TIME_MAX.false;
      every = c.if-every-gt-EVERY_MAX.false;
      disorder = c.if-disorder-gt-TIME_MAX.false;
    }
