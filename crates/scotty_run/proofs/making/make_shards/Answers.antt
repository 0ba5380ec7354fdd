-- What was gathered of the generated sources, where all their outcomes are done.
use Rattle.std.proofs.Common.{◌≡◌, All, length, map, sym, subst}
use Rattle.fan_in.specs.Gathering.{AreGathered}
use Rattle.fan_in.specs.declared.outcome.Outcome.TheVariants.{Done}
use Rattle.scotty_run.specs.Making.{AreMadeFeeds}
use Rattle.command_words.specs.Words.{Made, made_of}
use Rattle.scotty_run.proofs.Makings.{fresh_feeds, made_shards}
use Rattle.scotty_run.proofs.making.make_shards.Goals as goal

pub gather-requires-clause-fresh : goal.gather-requires-clause-fresh
gather-requires-clause-fresh g c lives bounds =
    let w = c.made.inside in
    let feeds = c.in_ok-feeds.feeds.items in
    let many = subst (λ (r : Made). length feeds ≡ r.sources) (sym c.made.view_is) c.in_ok-feeds.ensures.many in
    let made = subst (λ (r : Made). AreMadeFeeds r feeds) (sym c.made.view_is) c.in_ok-feeds.ensures.feeds in
    fresh_feeds (made_of w.seed w.rows w.sources w.shards w.way) feeds many made

pub returns-in-None : goal.returns-in-None
returns-in-None g c =
    let w = c.made.inside in
    let m = made_of w.seed w.rows w.sources w.shards w.way in
    let feeds = c.in_ok-feeds.feeds.items in
    let ends = c.in-Ok.field-0.ends.items in
    let shards = c.in-Ok.field-0.shards.items in
    let were = subst (λ d. AreGathered (λ f. f) (λ _. 0) d m.sources m.shards feeds shards ends) c.in_ok-made_defs.ensures c.in-Ok.ensures.gathered in
    let done = subst (λ es. All (λ o. o ≡ Done) (map (λ e. e.outcome) es)) c.deref.ensures.value c.in-None.ensures.none in
    let many = subst (λ (r : Made). length feeds ≡ r.sources) (sym c.made.view_is) c.in_ok-feeds.ensures.many in
    let made = subst (λ (r : Made). AreMadeFeeds r feeds) (sym c.made.view_is) c.in_ok-feeds.ensures.feeds in
    rw (← c.made.view_is) (made_shards m c.made.invariant feeds ends shards many were made done)
