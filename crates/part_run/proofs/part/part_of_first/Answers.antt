-- The only feed is read to its end, or up to a fault.
use Rattle.std.proofs.Common.{◌∙◌, ◌<◌, ℕ, List, [], length, ap, sym, subst, arith, Err}
use Rattle.source_feed.specs.FileFeedState.{FileFeedState, feed_view}
use Rattle.run_inputs.specs.Reading.{IsFresh}
use Rattle.run_inputs.proofs.Draining.{draining_more, draining_stops, none_drained, same_more}
use Rattle.part_text.specs.Holding.{IsHeld}
use Rattle.part_run.proofs.Parting.{new_feed, same_feed}
use Rattle.part_run.proofs.part.part_of_first.Goals as goal

pub part_of_feed-requires-clause-unread : goal.part_of_feed-requires-clause-unread
part_of_feed-requires-clause-unread g c =
    let reads = g.S.Source.reads in
    let word = g.S.Source.told in
    let feeds = c.args.feeds.now.items in
    let x = c.index_mut.result.now in
    let inside : 0 < length feeds = omega (arith, c.requires.one) in
    new_feed (feed_view reads word x) (subst (λ (y : FileFeedState _). IsFresh (feed_view reads word y)) (sym c.index_mut.ensures.value) (c.requires.fresh 0 x inside))

pub returns-in-Ok : goal.returns-in-Ok
returns-in-Ok g c =
    let reads = g.S.Source.reads in
    let word = g.S.Source.told in
    let feeds = c.args.feeds.now.items in
    let x = c.index_mut.result.now in
    let new = c.part_of_feed.new.feed in
    let inside : 0 < length feeds = omega (arith, c.requires.one) in
    let same = same_feed (feed_view reads word x) (feed_view reads word new) c.part_of_feed.ensures.same in
    let start = none_drained reads word feeds in
    let holds = c.in-Ok.ensures.part in
    let part = holds.part in
    record {
      same = same_more reads word feeds feeds [] 0 x new inside c.index_mut.ensures.value same start;
      drained = (
        part.entries,
        (draining_more reads word feeds feeds [] 0 x new inside c.index_mut.ensures.value same start part.entries part.told c.in-Ok.ensures.quiet).drained,
        subst (λ (bytes : List ℕ). IsHeld bytes c.in-Ok.held) part.part holds.held_is,
      );
      trouble = tt;
    }

pub returns-in-Err : goal.returns-in-Err
returns-in-Err g c =
    let reads = g.S.Source.reads in
    let word = g.S.Source.told in
    let feeds = c.args.feeds.now.items in
    let x = c.index_mut.result.now in
    let new = c.part_of_feed.new.feed in
    let inside : 0 < length feeds = omega (arith, c.requires.one) in
    let same = same_feed (feed_view reads word x) (feed_view reads word new) c.part_of_feed.ensures.same in
    let start = none_drained reads word feeds in
    record {
      same = same_more reads word feeds feeds [] 0 x new inside c.index_mut.ensures.value same start;
      drained = tt;
      trouble = draining_stops reads word feeds feeds [] 0 x new inside c.index_mut.ensures.value same start
          c.in-Err.fault c.fault_of.result c.fault_of.ensures c.in-Err.ensures.refused (λ e. c.part_of_feed.ensures.read (c.in-Err.is ∙ ap Err e));
    }
