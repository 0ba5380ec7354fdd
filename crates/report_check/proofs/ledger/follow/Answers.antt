-- One key more goes on.
use Rattle.std.proofs.Common.{◌≡◌, ◌∙◌, ◌<◌, length, sym, ap, rules, arith}
use Rattle.std.proofs.lemmas.List.{length-map}
use Rattle.report_check.specs.Held.{Held}
use Rattle.report_check.proofs.Following.{follow_more}
use Rattle.report_check.proofs.ledger.follow.Goals as goal

pub loop-place-preserved : goal.loop-place-preserved
loop-place-preserved g c =
    let old = c.args.keys.now.items in
    let keys = c.loop-place.keys.items in
    let as_many : length keys ≡ length old = sym (length-map keys (λ (x : Held). x.key)) ∙ ap length c.loop-place.invariant.same ∙ length-map old (λ (x : Held). x.key) in
    let len : c.len-place-end.result ≡ length old = search rules in
    let within : c.loop-place.place < length keys = omega (arith, as_many, len, c.loop-place-test.true) in
    follow_more c.args.step.now old keys c.args.out.now.items c.loop-place.out.items c.follow.new.out.items c.loop-place.place c.index_mut.result.now c.follow.new.self within c.index_mut.ensures.value c.in_ok-follow.ensures c.loop-place.invariant
