-- A feed that was read further, by what it was when its source was opened.
use Rattle.std.proofs.Common.{◌≡◌, ◌∙◌, ℕ, List, Option, sym, ap}
use Rattle.stream_base.specs.Limits.{Definitions}
use Rattle.outside.specs.Outside.{Reads}
use Rattle.source_feed.specs.FeedView.{Origin}
use Rattle.source_feed.specs.FileFeedState.{FileFeedState, feed_view, stream_seen}
use Rattle.source_feed.specs.Stream.{Stream}
use Rattle.run_inputs.specs.Opening.{IsUnread}

module _ {S : Type 0} (reads : S → Reads) (word : S → Option (List ℕ)) (d : Definitions) (place i : ℕ) (told : Option (List ℕ)) (start now : FileFeedState S) (unread : IsUnread reads word place told i d start)
    (of_source : now.source ≡ start.source) (origin : (feed_view reads word now).origin ≡ (feed_view reads word start).origin) where
  -- it came from the same open
  pub place_stays : (reads now.from).place ≡ place
  place_stays = ap (λ (o : Origin). o.place) origin ∙ ap (λ (r : Reads). r.place) unread.fresh

  -- and tells the same
  pub word_stays : word now.from ≡ told
  word_stays = ap (λ (o : Origin). o.told) origin ∙ unread.content

  -- no read had failed
  pub faults_before : (reads start.from).faults ≡ 0
  faults_before = ap (λ (r : Reads). r.faults) unread.fresh

  -- what was seen of it is by its number and the definitions
  pub seen_as : (o : Option Stream) → (feed_view reads word now).whole ≡ o → stream_seen i d.every d.disorder (reads now.from) ≡ o
  seen_as o h =
      let source : now.source ≡ i = of_source ∙ ap (λ (f : FileFeedState S). f.source) unread.feed_is in
      let every : now.every ≡ d.every = ap (λ (x : Origin). x.every) origin ∙ ap (λ (f : FileFeedState S). f.every) unread.feed_is in
      let disorder : now.disorder ≡ d.disorder = ap (λ (x : Origin). x.disorder) origin ∙ ap (λ (f : FileFeedState S). f.disorder) unread.feed_is in
      sym (ap (λ k. stream_seen k now.every now.disorder (reads now.from)) source ∙ ap (λ k. stream_seen i k now.disorder (reads now.from)) every ∙ ap (λ k. stream_seen i d.every k (reads now.from)) disorder) ∙ h
