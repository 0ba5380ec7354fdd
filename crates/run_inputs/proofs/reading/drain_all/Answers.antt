-- One feed more is read to its end.
use Rattle.std.proofs.Common.{◌≡◌, ◌∙◌, ◌<◌, ◌++◌, ◌∷◌, ◌+◌, [], length, map, set, sym, subst, ap, arith, Err}
use Rattle.std.proofs.lemmas.Grind.{common_steps}
use Rattle.std.proofs.lemmas.List.{map_push}
use Rattle.report_check.specs.Findings.{lists_of}
use Rattle.source_feed.specs.declared.feed_fault.FeedFault.TheVariants.{NoMemory}
use Rattle.run_inputs.specs.Reading.{AreEntriesFrom}
use Rattle.run_inputs.proofs.Draining.{AreDraining, draining_more, draining_stops, no_memory_is_no_read}
use Rattle.run_inputs.proofs.EntryFacts.{entries_more}
use Rattle.run_inputs.proofs.reading.drain_all.Goals as goal

pub loop-i-preserved : goal.loop-i-preserved
loop-i-preserved g c =
    let reads = g.S.Source.reads in
    let word = g.S.Source.told in
    let old = c.args.feeds.now.items in
    let now = c.loop-i.feeds.items in
    let place = c.loop-i.i in
    let entries = c.in-Ok.entries in
    let inv = c.loop-i.invariant.draining in
    let inside : place < length now = let many = (inv.same).many in omega (arith, c.loop-i-test.true, c.len-i-end.ensures, many) in
    let items : c.push.new.self.items ≡ c.loop-i.all.items ++ entries ∷ [] = grind (arith, common_steps) in
    let more : lists_of c.push.new.self.items ≡ lists_of c.loop-i.all.items ++ entries.items ∷ [] = ap (map (λ v. v.items)) items ∙ map_push (λ v. v.items) c.loop-i.all.items entries in
    record {
      draining = subst (λ lists. AreDraining reads word old (set now place c.drain.new.feed) lists (place + 1)) (sym more)
          (draining_more reads word old now (lists_of c.loop-i.all.items) place c.index_mut.result.now c.drain.new.feed inside c.index_mut.ensures.value c.drain.ensures.same inv entries.items c.in-Ok.ensures.all c.in-Ok.ensures.quiet);
      entries = subst (AreEntriesFrom old) (sym more)
          (entries_more reads word old now (lists_of c.loop-i.all.items) place c.index_mut.result.now inside c.index_mut.ensures.value inv c.loop-i.invariant.entries entries.items c.in-Ok.ensures.entries);
    }

pub returns-in-Err-clause-trouble : goal.returns-in-Err-clause-trouble
returns-in-Err-clause-trouble g c =
    let reads = g.S.Source.reads in
    let word = g.S.Source.told in
    let old = c.args.feeds.now.items in
    let now = c.loop-i.feeds.items in
    let place = c.loop-i.i in
    let inv = c.loop-i.invariant.draining in
    let inside : place < length now = let many = (inv.same).many in omega (arith, c.loop-i-test.true, c.len-i-end.ensures, many) in
    draining_stops reads word old now (lists_of c.loop-i.all.items) place c.index_mut.result.now c.drain.new.feed inside c.index_mut.ensures.value c.drain.ensures.same inv
    c.in-Err.fault c.fault_of-in-Err.result c.fault_of-in-Err.ensures c.in-Err.ensures.stuck (λ e. c.drain.ensures.read (c.in-Err.is ∙ ap Err e))

pub returns-then-is_err-clause-trouble : goal.returns-then-is_err-clause-trouble
returns-then-is_err-clause-trouble g c =
    let reads = g.S.Source.reads in
    let word = g.S.Source.told in
    let old = c.args.feeds.now.items in
    let now = c.loop-i.feeds.items in
    let place = c.loop-i.i in
    let inv = c.loop-i.invariant.draining in
    let inside : place < length now = let many = (inv.same).many in omega (arith, c.loop-i-test.true, c.len-i-end.ensures, many) in
    draining_stops reads word old now (lists_of c.loop-i.all.items) place c.index_mut.result.now c.drain.new.feed inside c.index_mut.ensures.value c.drain.ensures.same inv
    NoMemory c.fault_of.result c.fault_of.ensures tt (λ e. absurd (no_memory_is_no_read e))
