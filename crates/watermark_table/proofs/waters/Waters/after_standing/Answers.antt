-- The tally goes over the sources in parts.
use Rattle.std.proofs.Common.{◌≡◌, ◌∙◌, ◌-◌, ◌+◌, ◌≤◌, arith, sym, ap, length, max, take, drop}
use Rattle.std.proofs.lemmas.List.{take_all, length-drop}
use Rattle.watermark_table.specs.Tallies.{least_of, no_source, tallied, with_standing}
use Rattle.watermark_table.proofs.Tables.{tallied_in_parts}
use Rattle.watermark_table.proofs.waters.Waters.after_standing.Goals as goal

pub returns : goal.returns
returns c =
    let n = c.args.source in
    let ss = c.self.inside.standings.items in
    let x = c.args.standing in
    let short : length (drop (n + 1) ss) ≤ length ss - (n + 1) = omega (arith, length-drop (n + 1) ss) in
    let rest : take (length ss - (n + 1)) (drop (n + 1) ss) ≡ drop (n + 1) ss = take_all (length ss - (n + 1)) (drop (n + 1) ss) short in
    let front : c.with_all-before.result ≡ tallied no_source (take n ss) = c.with_all-before.ensures ∙ (λ i. tallied (c.new.ensures i) (take n (c.deref.ensures.value i))) in
    let behind : c.with_all-all.result ≡ tallied (with_standing (tallied no_source (take n ss)) x) (drop (n + 1) ss) = c.with_all-all.ensures ∙ (λ i. tallied (c.with.ensures i) (take (length (c.deref-2.ensures.value i) - (n + 1)) (drop (n + 1) (c.deref-2.ensures.value i)))) ∙ (λ i. tallied (with_standing (front i) x) (rest i)) in
    rw (← c.self.view_is) (c.max.ensures ∙ ap (max c.self.inside.water) (c.water.ensures ∙ ap least_of (behind ∙ sym (tallied_in_parts no_source ss n x (rw (← c.self.view_is) at c.requires)))))
