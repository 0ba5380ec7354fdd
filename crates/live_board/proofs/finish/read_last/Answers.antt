-- The last read is of all entries, and so is each that stands in place of one that is lacking.
use Rattle.std.proofs.Common.{◌≤◌, [], ◌∷◌, ap, arith, length, length-append, subst, sym}
use Rattle.live_board.proofs.EndFacts.{reads_end, reads_push}
use Rattle.live_board.specs.Ending.{AreReadsIn}
use Rattle.live_board.specs.Rule.{IsTallyIn, sources_of}
use Rattle.live_board.specs.Tallies.{turns}
use Rattle.live_board.specs.Watching.{AreReads}
use Rattle.live_board.proofs.finish.read_last.Goals as goal

pub lacking-preserved : goal.lacking-preserved
lacking-preserved c =
    let last = c.last_read-last.result in
    let tally : IsTallyIn c.args.course.now last = subst (λ k. IsTallyIn k last) c.requires.all.course c.last_read-last.ensures.tally in
    let whole : length (turns (sources_of c.args.course.now)) ≤ last.entries = omega (arith, c.requires.all.all, c.last_read-last.ensures.no_less) in (
      subst (AreReads c.args.course.now) (sym c.push_reserved.ensures.items) (reads_push c.args.course.now c.lacking.reads.items last c.lacking.invariant.0 tally whole),
      omega (arith, c.lacking.invariant.1, ap length c.push_reserved.ensures.items, length-append c.lacking.reads.items (last ∷ [])),
      omega (arith, c.push_reserved.ensures.capacity, c.lacking.invariant.2),
      c.lacking.invariant.3,
    )

pub returns-clause-reads : goal.returns-clause-reads
returns-clause-reads c =
    let last = c.last_read-last.result in
    let tally : IsTallyIn c.args.course.now last = subst (λ k. IsTallyIn k last) c.requires.all.course c.last_read-last.ensures.tally in
    let whole : length (turns (sources_of c.args.course.now)) ≤ last.entries = omega (arith, c.requires.all.all, c.last_read-last.ensures.no_less) in
    subst (AreReadsIn c.args.course.now c.args.many) (sym c.push_reserved-2.ensures.items)
    (reads_end c.args.course.now c.args.many c.lacking.reads.items last c.lacking.invariant.0
    (omega (arith, c.lacking.invariant.1, c.lacking-test.false, c.lacking.auto.counter-end, c.len-counter.ensures, c.requires.may.few)) tally whole)
