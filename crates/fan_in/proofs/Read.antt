-- Feeds and rows that were made readers of, the last one first, and back.
use Rattle.std.proofs.Common.{◌≡◌, ◌≤◌, ◌<◌, ◌+◌, ◌-◌, arith, ℕ, List, [], length, get_or, refl, sym, subst, ◌∙◌}
use Rattle.std.specs.Prelude.{All, Vec}
use Rattle.std.specs.declared.alloc.Global.{Global}
use Rattle.source_feed.specs.FeedView.{FeedView}
use Rattle.fan_in.specs.declared.gathered.FeedEnd.{FeedEnd}
use Rattle.fan_in.specs.declared.outcome.Outcome.TheVariants.{Done}
use Rattle.fan_in.specs.declared.port.Port.{Ghosts}
use Rattle.fan_in.specs.declared.reader.Reader.{Reader}
use Rattle.fan_in.specs.Gathering.{AreFreshFeeds}
use Rattle.fan_in.specs.Reading.{StandAt}
use Rattle.fan_in.specs.Readers.{AreReadOut, AreReady, HasRead, HaveRead, MayRead}
use Rattle.fan_in.proofs.Lists.{some_of}

-- feeds that weren't read are ready to be read, each with a row of ports of its source that handed nothing in yet
pub all_ready : {F P I : Type 0} (port : Ghosts P I) (state : F → FeedView) (inlets : List I) (sources : ℕ) (feeds : List F) (rows : List (Vec P Global)) → 1 ≤ sources → AreFreshFeeds state sources feeds → length rows ≡ sources
    → ((i : ℕ) (row : Vec P Global) → i < sources → StandAt port inlets (get_or rows i row).items) → ((i : ℕ) (row : Vec P Global) → i < sources → All (port.is_of i) (get_or rows i row).items)
    → ((i : ℕ) (row : Vec P Global) → i < sources → All (λ p. port.handed p ≡ []) (get_or rows i row).items) → AreReady port state inlets feeds rows
all_ready port state inlets sources feeds rows some fresh many stand own blank = record {
  some = let n = fresh.one_each in omega arith;
  one_each = many ∙ sym fresh.one_each;
  ready = λ i f row l.
      let ls : i < sources = let n = fresh.one_each in omega arith in
      let feed = fresh.fresh i f l in
      record {
        stand = stand i row ls;
        ready = record {
          running = feed.running;
          unanswered = feed.unanswered;
          unread = feed.blank;
          done = refl;
          own_source = subst (λ s. All (port.is_of s) (get_or rows i row).items) (sym feed.of_source) (own i row ls);
          blank = blank i row ls;
        };
      };
}

module _ {F P I : Type 0} (port : Ghosts P I) (state : F → FeedView) (faults : F → ℕ) (inlets : List I) (feeds : List F) (rows : List (Vec P Global)) (readers : List (Reader F P)) (many : length readers ≡ length feeds)
    (made : (i j : ℕ) (f : F) (row : Vec P Global) (r : Reader F P) → i + j + 1 ≡ length feeds → get_or readers i r ≡ record { feed = get_or feeds j f; outcome = Done; ports = get_or rows j row }) where
  -- each reader may read
  pub may_read : AreReady port state inlets feeds rows → All (MayRead port state inlets) readers
  may_read h i r l =
      let j = length feeds - (i + 1) in
      let lj : j < length feeds = omega arith in
      let s : i + j + 1 ≡ length feeds = omega arith in
      let f = some_of feeds j lj in
      let row = some_of rows j (let m = h.one_each in omega arith) in
      subst (MayRead port state inlets) (sym (made i j f row r s)) (h.ready j f row lj)

  -- what was read comes back in order
  pub read_out : (news : List (Reader F P)) (ends : List (FeedEnd F)) (back : List (Vec P Global)) → HaveRead port state faults (length inlets) readers news → length ends ≡ length news → length back ≡ length news
      → ((i j : ℕ) (e : FeedEnd F) (row : Vec P Global) (r : Reader F P) → i + j + 1 ≡ length news → get_or news i r ≡ record { feed = (get_or ends j e).feed; outcome = (get_or ends j e).outcome; ports = get_or back j row })
      → AreReadOut port state faults (length inlets) feeds rows ends back
  read_out news ends back read many_ends many_back taken = record {
    many_ends = many_ends ∙ read.many ∙ many;
    many_rows = many_back ∙ read.many ∙ many;
    read = λ j f row e back_row l.
        let i = length feeds - (j + 1) in
        let s : i + j + 1 ≡ length feeds = omega arith in
        let d : Reader F P = record { feed = f; outcome = Done; ports = row } in
        subst (λ (x : Reader F P). HasRead port state faults (length inlets) (record { feed = get_or feeds j f; outcome = Done; ports = get_or rows j row }) x) (taken i j e back_row d (let m = read.many in omega arith))
        (subst (λ (x : Reader F P). HasRead port state faults (length inlets) x (get_or news i d)) (made i j f row d s) (read.read i d (omega arith)));
  }
