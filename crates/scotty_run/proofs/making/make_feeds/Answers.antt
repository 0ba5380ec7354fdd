-- One feed more.
use Rattle.std.proofs.Common.{◌≡◌, ◌∙◌, [], ◌∷◌, length, length-append, ap, arith, sym, subst}
use Rattle.scotty_run.specs.Making.{AreMadeFeeds, made_feed}
use Rattle.command_words.specs.Words.{Made}
use Rattle.scotty_run.proofs.Makings.{made_more}
use Rattle.scotty_run.proofs.making.make_feeds.Goals as goal

pub loop-source-preserved : goal.loop-source-preserved
loop-source-preserved c =
    let m = c.args.made.now in
    let feeds = c.loop-source.feeds.items in
    let feed = c.new.result in
    let inv = c.loop-source.invariant in
    let source = c.loop-source.source in
    let unread = subst (λ (r : Made). feed ≡ made_feed r.seed r.rows r.sources source) c.made.view_is c.new.ensures in
    let items = c.push_reserved.ensures.items in
    record {
      many = let n = inv.many in let size = ap length items in omega (arith, n, size, length-append feeds (feed ∷ []));
      room = c.push_reserved.ensures.capacity ∙ inv.room;
      feeds = subst (AreMadeFeeds m) (sym items) (made_more m feeds feed source inv.many inv.feeds unread);
    }
