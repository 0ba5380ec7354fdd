-- Where there are tuples, they show by the first and the last.
use Rattle.std.proofs.Common.{◌<◌, ◌∙◌, ap, sym, arith, length, Some}
use Rattle.slice_lists.proofs.SplitFacts.{shown_is}
use Rattle.tuple_chunks.proofs.SumFacts.{some_shown}
use Rattle.tuple_chunks.proofs.chunk.shown.Goals as goal

pub returns : goal.returns
returns c =
    let some : 0 < length c.args.tuples.now = grind arith in
    ap Some (shown_is c.args.tuples.now) ∙ sym (some_shown c.args.tuples.now some)
