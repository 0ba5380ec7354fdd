-- From the lanes that were opened and the feeds that were read to what is handed back.
use Rattle.std.proofs.Common.{◌≡◌, ◌≤◌, ◌<◌, arith, ℕ, List, length, get_or, sym, subst, ◌∙◌}
use Rattle.std.specs.Prelude.{All, Vec}
use Rattle.std.specs.declared.alloc.Global.{Global}
use Rattle.stream_base.specs.Limits.{Definitions}
use Rattle.stream_base.specs.declared.entry.Entry.{Entry}
use Rattle.source_feed.specs.FeedView.{FeedView}
use Rattle.mail_lane.specs.Lane.{Lane, SenderState}
use Rattle.fan_in.specs.declared.outcome.Outcome.{Outcome}
use Rattle.fan_in.specs.declared.mail.owner_job.OwnerJob.{OwnerJob}
use Rattle.fan_in.specs.Gathering.{FeedEnded}
use Rattle.fan_in.specs.Posts.{AreBoxesOf, IsPost}
use Rattle.fan_in.specs.Reading.{AreFrom, AreSame, StandAt}
use Rattle.fan_in.specs.Settling.{AreSentRows, Follows}
use Rattle.fan_in.specs.Sending.{sender_port}
use Rattle.fan_in.proofs.Lists.{some_of}
use Rattle.fan_in.proofs.Outcomes.{back_follows}

-- the senders of a source stand at the lanes
pub stand_at : (i : ℕ) (lanes : List Lane) (row : List (SenderState Entry)) → length lanes ≤ 16 → AreBoxesOf i lanes row → StandAt sender_port lanes row
stand_at i lanes row few boxes = record { few = few; many = boxes.many; own = λ k l s lt. (boxes.each k l s (let m = boxes.many in omega arith)).lane_is }

-- they are those of the source
pub all_of : (i : ℕ) (lanes : List Lane) (row : List (SenderState Entry)) → AreBoxesOf i lanes row → All (λ s. s.number ≡ i) row
all_of i lanes row boxes k s lk =
    let ll : k < length lanes = let m = boxes.many in omega arith in
    (boxes.each k (some_of lanes k ll) s ll).number_is

-- the rows of senders after all feeds were read
pub sent_rows : (d : Definitions) (sources : ℕ) (lanes : List Lane) (owners : List OwnerJob) (rows rows' : List (Vec (SenderState Entry) Global)) → IsPost d sources lanes owners rows → length rows' ≡ sources
    → ((i : ℕ) (row row' : Vec (SenderState Entry) Global) → i < sources → AreSame sender_port (get_or rows i row).items (get_or rows' i row').items)
    → ((i k : ℕ) (row' : Vec (SenderState Entry) Global) (s : SenderState Entry) → i < sources → k < length (get_or rows' i row').items → AreFrom i (get_or (get_or rows' i row').items k s).sent) → AreSentRows sources lanes rows'
sent_rows d sources lanes owners rows rows' post many same from = record {
  many = many;
  boxes = λ i row l.
      let old = post.rows_are i (before i l) l in
      let s = same i (before i l) row l in
      record {
        many = s.many ∙ old.many;
        each = λ k x b lk.
            let a = s.same k b (let m = old.many in omega arith) in
            let o = old.each k x b lk in
            record { lane_is = a.lane ∙ o.lane_is; number_is = a.number ∙ o.number_is };
      };
  from = λ i k row b l lk.
      let old = post.rows_are i (before i l) l in
      let s = same i (before i l) row l in
      from i k row b l (let m = old.many in let n = s.many in omega arith);
}
  where
    before : (i : ℕ) → i < sources → Vec (SenderState Entry) Global
    before i l = some_of rows i (let m = post.many in omega arith)

-- a feed is handed back as it was when it had been read, with an outcome that follows its own
pub back_at : {X : Type 0} (state : X → FeedView) (faults : X → ℕ) (n : ℕ) (a x y : X) (own o : Outcome) → y ≡ x → Follows n own o → FeedEnded (state a) (state x) own (faults a) (faults x)
    → FeedEnded (state a) (state y) o (faults a) (faults y)
back_at state faults n a x y own o e f b =
    subst (λ z. FeedEnded (state a) (state z) o (faults a) (faults z)) (sym e) (back_follows n (state a) (state x) own o (faults a) (faults x) f b)
