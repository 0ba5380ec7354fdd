-- The lines of one shard more.
use Rattle.std.proofs.Common.{◌≡◌, ◌∙◌, ◌++◌, ◌+◌, ◌<◌, List, ap, append_assoc, drop, get_or, length, rules, sym}
use Rattle.std.proofs.lemmas.Bool.Decides.{nat_tests}
use Rattle.std.proofs.lemmas.List.{at_drop_more}
use Rattle.row_laws.specs.Told.{ToldShard}
use Rattle.row_text.specs.Lines.{lines_from, shard_lines}
use Rattle.row_text.proofs.table.put_shards.Goals as goal

pub loop-shard-preserved : goal.loop-shard-preserved
loop-shard-preserved c =
    let n = c.loop-shard.shard in
    let shards = c.args.shards.now in
    let shard = c.index-shards-shard.result in
    let within : n < length shards = search (rules, nat_tests) in
    let at : shard ≡ get_or shards n shard = search rules in
    let more = at_drop_more (λ (ss : List ToldShard). lines_from c.args.format c.args.key.now n ss) shards n shard within in
    let rest = lines_from c.args.format c.args.key.now (n + 1) (drop (n + 1) shards) in
    ap (λ text. text ++ rest) c.in_ok-put_shard.ensures
    ∙ append_assoc c.loop-shard.out.items (shard_lines c.args.format c.args.key.now n shard) rest
    ∙ ap (λ (s : ToldShard). c.loop-shard.out.items ++ (shard_lines c.args.format c.args.key.now n s ++ rest)) at
    ∙ ap (λ text. c.loop-shard.out.items ++ text) (sym more)
    ∙ c.loop-shard.invariant
