-- The first cells are the bytes, and what was behind them is zero still.
use Rattle.std.proofs.Common.{ap, length, ◌++◌}
use Rattle.std.proofs.lemmas.List.{drop-replicate}
use Rattle.stream_base.proofs.key_text.padded.Goals as goal

pub returns : goal.returns
returns c = rw c.copy_from_slice.ensures.after (ap (λ rest. c.args.bytes.now ++ rest) (drop-replicate (length c.args.bytes.now) 64 0))
