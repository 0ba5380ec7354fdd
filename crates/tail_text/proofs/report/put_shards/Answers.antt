-- Each shard is one part more.
use Rattle.std.proofs.Common.{◌+◌, ◌<◌, ◌≤◌, ◌++◌, length, map, arith}
use Rattle.std.specs.List.{zip}
use Rattle.emission_text.proofs.Sent.{appends_nothing, part_failed, part_put, put_failed}
use Rattle.report_lines.specs.Lines.{header_line}
use Rattle.tail_text.specs.Texts.{in_vectors, journal_with, shards_with}
use Rattle.tail_text.proofs.TextFacts.{as_long, as_many, part_end, shards_from, shards_from-end, shards_from-more}
use Rattle.tail_text.proofs.report.put_shards.Goals as goal

pub bounds-tails-k : goal.bounds-tails-k
bounds-tails-k g c = omega (arith, as_many c.args.shards.now c.args.tails.now c.requires, c.loop-k-test.true)

pub put_shard-requires : goal.put_shard-requires
put_shard-requires g c = as_long c.args.shards.now c.args.tails.now c.loop-k.k c.index-shards-k.result c.index-tails-k.result c.deref.result.now c.requires c.loop-k-test.true c.index-shards-k.is c.index-tails-k.is c.deref.ensures.value

pub returns-in_err-put_shard : goal.returns-in_err-put_shard
returns-in_err-put_shard g c =
    let shards = c.args.shards.now in
    let tails = c.args.tails.now in
    let k = c.loop-k.k in
    let s = c.index-shards-k.result in
    let vectors = c.deref.result.now in
    let within : k < length tails = omega (arith, as_many shards tails c.requires, c.loop-k-test.true) in
    put_failed (shards_with 0 (zip (map (λ x. x.journal) shards) (in_vectors tails))) c.args.out.now c.put_shard.new.out c.put_shard.new.sink c.from_residual.result c.from_residual.ensures.0
    (part_failed c.loop-k.out (header_line k ++ journal_with s.journal (map (λ v. v.items) vectors)) (shards_from (map (λ x. x.journal) shards) (in_vectors tails) (k + 1))
    (shards_from-more shards tails k s c.index-tails-k.result vectors c.loop-k-test.true within c.index-shards-k.is c.index-tails-k.is c.deref.ensures.value) c.loop-k.invariant c.in_err-put_shard.ensures)

pub loop-k-preserved : goal.loop-k-preserved
loop-k-preserved g c =
    let shards = c.args.shards.now in
    let tails = c.args.tails.now in
    let k = c.loop-k.k in
    let s = c.index-shards-k.result in
    let vectors = c.deref.result.now in
    let within : k < length tails = omega (arith, as_many shards tails c.requires, c.loop-k-test.true) in
    part_put c.loop-k.out (header_line k ++ journal_with s.journal (map (λ v. v.items) vectors)) (shards_from (map (λ x. x.journal) shards) (in_vectors tails) (k + 1))
    (shards_from-more shards tails k s c.index-tails-k.result vectors c.loop-k-test.true within c.index-shards-k.is c.index-tails-k.is c.deref.ensures.value) c.loop-k.invariant c.in_ok-put_shard.ensures

pub loop-k-init : goal.loop-k-init
loop-k-init g c = appends_nothing (c.args.out.now ++ shards_with 0 (zip (map (λ x. x.journal) c.args.shards.now) (in_vectors c.args.tails.now))) c.args.sink.now

pub returns : goal.returns
returns g c =
    let shards = c.args.shards.now in
    let past : length shards ≤ c.loop-k.k = c.loop-k-test.false in
    part_end c.loop-k.out (shards_from (map (λ x. x.journal) shards) (in_vectors c.args.tails.now) c.loop-k.k) (shards_from-end shards (in_vectors c.args.tails.now) c.loop-k.k past) c.loop-k.invariant
