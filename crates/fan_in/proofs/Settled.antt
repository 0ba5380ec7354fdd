-- The lanes are settled one by one.
use Rattle.std.proofs.Common.{◌≡◌, ◌<◌, ◌+◌, arith, append-nil, length-append, ℕ, true, false, Bool, List, [], ◌∷◌, ◌++◌, length, drop, get_or, map, sym, refl, ap, subst, ◌∙◌, ⊎_elim}
use Rattle.std.specs.Prelude.{All, Vec}
use Rattle.std.specs.declared.alloc.Global.{Global}
use Rattle.std.proofs.lemmas.Bool.{cases_lt}
use Rattle.std.proofs.lemmas.List.{get_or_append_left, get_or_default, get_or_push, map-append}
use Rattle.std.proofs.lemmas.List.Elements.{All-nil, All-push}
use Rattle.stream_base.specs.Limits.{Definitions}
use Rattle.stream_base.specs.declared.entry.Entry.{Entry}
use Rattle.stream_base.specs.declared.limits.TheConstants.{JOURNAL_MAX}
use Rattle.shard_core.specs.Shard.{IsJournal, Sharded}
use Rattle.mail_lane.specs.declared.letter.Letter.{Letter}
use Rattle.mail_lane.specs.Lane.{Lane, ReceiverState, SenderState, SettledState, GivesOne, TakenWhole, letter, messages_of, sent_by}
use Rattle.fan_in.specs.declared.outcome.Outcome.{Outcome}
use Rattle.fan_in.specs.declared.outcome.Outcome.TheVariants.{Full}
use Rattle.fan_in.specs.declared.mail.owner.Owner.{Owner}
use Rattle.fan_in.specs.declared.mail.owner_job.OwnerJob.{OwnerJob}
use Rattle.fan_in.specs.Owning.{OwnsAfter, entries_in, note_of}
use Rattle.fan_in.specs.Posts.{AreBoxesOf, AreOwned}
use Rattle.fan_in.specs.Ports.{IsAbout}
use Rattle.fan_in.specs.Reading.{AreFrom}
use Rattle.fan_in.specs.Settling.{AreAllBack, AreSentRows, AreUnsettled, Follows, HasBack, HoldsSent, IsAllBack, IsSettledShard, MayTakeBack, TookBack, worse}
use Rattle.fan_in.proofs.Lettered.{holds, no_stray}
use Rattle.fan_in.proofs.Drained.{next_in}
use Rattle.fan_in.proofs.Lists.{some_of}
use Rattle.fan_in.proofs.Outcomes.{follows_first, follows_more, held_later, held_now}

-- the owners before any sender came back
pub unsettled : (d : Definitions) (n : ℕ) (lanes : List Lane) (owners : List OwnerJob) → AreOwned d n lanes owners → AreUnsettled lanes owners
unsettled d n lanes owners owned = record {
  many = owned.many;
  own = λ k l o lk. (owned.owned k l o lk).own;
  none = λ k o lk. (owned.owned k (some_of lanes k lk) o lk).back_none;
}

-- the first rows came back
pub record IsBringing (i : ℕ) (rows left : List (Vec (SenderState Entry) Global)) (first now : List OwnerJob) : Type 0 where
  pub left_is : left ≡ drop i rows
  pub many : length now ≡ length first
  pub back : (k : ℕ) (o : OwnerJob) → k < length first → HasBack i k rows (get_or first k o) (get_or now k o)

-- no row came back yet
pub bring_none : (lanes : List Lane) (owners : List OwnerJob) (rows : List (Vec (SenderState Entry) Global)) → AreUnsettled lanes owners → IsBringing 0 rows rows owners owners
bring_none lanes owners rows h = record {
  left_is = refl;
  many = refl;
  back = λ k o l.
      let none = h.none k o (let m = h.many in omega arith) in
      record { lane = refl; senders = refl; taken = refl; owner = refl; many = ap length none; back = λ j row s lj. absurd (omega arith) };
}

-- the senders of one row more may come back
pub may_take_row : (lanes : List Lane) (owners now : List OwnerJob) (rows : List (Vec (SenderState Entry) Global)) (i : ℕ) (row : List (SenderState Entry)) → AreUnsettled lanes owners → AreBoxesOf i lanes row
    → ((k : ℕ) (o : OwnerJob) → k < length owners → HasBack i k rows (get_or owners k o) (get_or now k o)) → (k : ℕ) (l : Lane) (o : OwnerJob) (s : SenderState Entry) → k < length lanes
    → MayTakeBack (get_or lanes k l) (get_or now k o) (get_or row k s)
may_take_row lanes owners now rows i row h boxes back k l o s lk =
    let b = back k o (let m = h.many in omega arith) in
    let own = h.own k l o lk in
    let box = boxes.each k l s lk in
    record { own = (b.lane ∙ own.0, b.senders ∙ own.1); of_lane = box.lane_is; next = box.number_is ∙ sym b.many }

-- the sender of one row more came back
pub back_more : (i k : ℕ) (rows : List (Vec (SenderState Entry) Global)) (first old new : OwnerJob) (sent : List Entry) → HasBack i k rows first old → TookBack sent old new
    → ((row : Vec (SenderState Entry) Global) (s : SenderState Entry) → sent ≡ (get_or (get_or rows i row).items k s).sent) → HasBack (i + 1) k rows first new
back_more i k rows first old new sent h took is =
    let before = (old.receiver).back in
    let r = took.receiver in
    record {
      lane = ap (λ (x : ReceiverState Entry). x.lane) r ∙ h.lane;
      senders = ap (λ (x : ReceiverState Entry). x.senders) r ∙ h.senders;
      taken = ap (λ (x : ReceiverState Entry). x.taken) r ∙ h.taken;
      owner = took.owner ∙ h.owner;
      many = ap (λ (x : ReceiverState Entry). length x.back) r ∙ (let m = h.many in omega (arith, length-append before (sent ∷ [])));
      back = λ j row s l. ap (λ (x : ReceiverState Entry). sent_by j x.back) r ∙ ⊎_elim (λ (less : j < i). get_or_append_left before (sent ∷ []) [] j (let m = h.many in omega arith) ∙ h.back j row s less)
          (λ ge. let same : j ≡ i = omega arith in get_or_push before sent [] j (h.many ∙ sym same) ∙ is row s ∙ ap (λ m. (get_or (get_or rows m row).items k s).sent) (sym same))
          (cases_lt j i);
    }

-- all senders are back
pub all_back : (d : Definitions) (n : ℕ) (lanes : List Lane) (owners now : List OwnerJob) (rows : List (Vec (SenderState Entry) Global)) → AreOwned d n lanes owners → AreSentRows n lanes rows → length now ≡ length owners
    → ((k : ℕ) (o : OwnerJob) → k < length owners → HasBack (length rows) k rows (get_or owners k o) (get_or now k o)) → AreAllBack d n lanes now
all_back d n lanes owners now rows owned sent many back = record {
  many = many ∙ owned.many;
  each = λ k l o lk.
      let own = owned.owned k l o lk in
      let b = back k o (let m = owned.many in omega arith) in
      record {
        senders = owned.senders k l lk;
        own = (b.lane ∙ (own.own).0, b.senders ∙ (own.own).1);
        many = b.many ∙ sent.many;
        from = λ i li.
            let lr : i < length rows = let m = sent.many in omega arith in
            let row = some_of rows i lr in
            let s = some_of (get_or rows i row).items k (let m = (sent.boxes i row li).many in omega arith) in
            subst (AreFrom i) (sym (b.back i row s lr)) (sent.from i k row s li lk);
        after = subst (λ (t : List (Letter Entry)). OwnsAfter d n k (entries_in t) (get_or now k o).owner) (sym b.taken)
            (subst (λ (w : Owner). OwnsAfter d n k (entries_in ((get_or owners k o).receiver).taken) w) (sym b.owner) own.after);
      };
}

-- what is known of an owner once its lane is settled
pub record IsEnd (d : Definitions) (n k : ℕ) (taken : List (Letter Entry)) (back : List (List Entry)) (owner : Owner) : Type 0 where
  pub many : length back ≡ n
  pub whole : (p : ℕ) → messages_of p taken ≡ sent_by p back
  pub from : (p : ℕ) → p < n → AreFrom p (sent_by p back)
  pub after : OwnsAfter d n k (entries_in taken) owner

pub calm : (d : Definitions) (n k : ℕ) (taken : List (Letter Entry)) (back : List (List Entry)) (owner : Owner) → IsEnd d n k taken back owner → owner.stray ≡ true → ⊥
calm d n k taken back owner h e = no_stray n taken back h.many h.whole h.from ((h.after).strayed e)

not_stray : (d : Definitions) (n k : ℕ) (taken : List (Letter Entry)) (back : List (List Entry)) (owner : Owner) → IsEnd d n k taken back owner → (b : Bool) → owner.stray ≡ b → owner.stray ≡ false
not_stray d n k taken back owner h true e = absurd (calm d n k taken back owner h e)
not_stray d n k taken back owner h false e = e

pub end_held : (d : Definitions) (n k i : ℕ) (taken : List (Letter Entry)) (back : List (List Entry)) (owner : Owner) → IsEnd d n k taken back owner → HoldsSent k i (sent_by i back) (note_of i owner.notes) (owner.shard).journal
end_held d n k i taken back owner h = holds n taken back h.many h.whole h.from k i (owner.shard).journal owner.notes owner.stopped ((h.after).noted (not_stray d n k taken back owner h owner.stray refl))

pub end_about : (d : Definitions) (n k i : ℕ) (taken : List (Letter Entry)) (back : List (List Entry)) (owner : Owner) → IsEnd d n k taken back owner → IsAbout k (note_of i owner.notes)
end_about d n k i taken back owner h = ((h.after).noted (not_stray d n k taken back owner h owner.stray refl)).about i

pub end_settled : (d : Definitions) (n k : ℕ) (taken : List (Letter Entry)) (back : List (List Entry)) (owner : Owner) → IsEnd d n k taken back owner → IsSettledShard d n owner.shard
end_settled d n k taken back owner h =
    let sources : (owner.shard).sources ≡ n = owner.alike ∙ (h.after).sources_are in
    record {
      gathered = record { defs = (h.after).defs_are; sources_are = sources; journal = subst (λ (m : ℕ). IsJournal m (owner.shard).journal) sources owner.journal };
      short = (owner.journal).short;
    }

-- at the end of a lane its owner has all that was sent
pub at_end : (d : Definitions) (n k : ℕ) (lane : Lane) (job : OwnerJob) (senders : List (SenderState Entry)) (first last : SettledState Entry) (owner : Owner)
    → IsAllBack d n k lane job → senders ≡ [] → first.taken ≡ (job.receiver).taken → first.sent ≡ (job.receiver).back ++ map (λ s. s.sent) senders → TakenWhole last → last.sent ≡ first.sent
    → (OwnsAfter d n k (entries_in first.taken) job.owner → OwnsAfter d n k (entries_in last.taken) owner) → IsEnd d n k last.taken (job.receiver).back owner
at_end d n k lane job senders first last owner b none taken sent whole sent' after =
    let all = (job.receiver).back in
    let same : last.sent ≡ all = sent' ∙ sent ∙ ap (λ (l : List (SenderState Entry)). all ++ map (λ s. s.sent) l) none ∙ append-nil all in
    record {
      many = b.many;
      whole = λ p. whole p ∙ ap (sent_by p) same;
      from = b.from;
      after = after (subst (λ (l : List (Letter Entry)). OwnsAfter d n k (entries_in l) job.owner) (sym taken) b.after);
    }

module _ {E : Type 0} (out : E → Outcome) where
  -- the first lanes are settled, and the others stand as before
  pub record IsSettling (d : Definitions) (n k : ℕ) (lanes lanes' : List Lane) (owners owners' : List OwnerJob) (shards : List Sharded) (olds news : List E) : Type 0 where
    pub lanes_left : lanes' ≡ drop k lanes
    pub owners_left : owners' ≡ drop k owners
    pub many : length shards ≡ k
    pub settled : All (IsSettledShard d n) shards
    pub many_olds : length olds ≡ n
    pub many_news : length news ≡ n
    pub follows : (i : ℕ) (e : E) → i < n → Follows k (out (get_or olds i e)) (out (get_or news i e))
    pub held : (j i : ℕ) (o : OwnerJob) (e : E) (s : Sharded) → j < k → i < n → HoldsSent j i (sent_by i ((get_or owners j o).receiver).back) (out (get_or news i e)) (get_or shards j s).journal

  pub settle_none : (d : Definitions) (n : ℕ) (lanes : List Lane) (owners : List OwnerJob) (shards : List Sharded) (olds : List E) → shards ≡ [] → length olds ≡ n → IsSettling d n 0 lanes lanes owners owners shards olds olds
  settle_none d n lanes owners shards olds none many = record {
    lanes_left = refl;
    owners_left = refl;
    many = ap length none;
    settled = subst (λ (l : List Sharded). All (IsSettledShard d n) l) (sym none) (All-nil (IsSettledShard d n));
    many_olds = many;
    many_news = many;
    follows = λ i e l. follows_first (out (get_or olds i e));
    held = λ j i o e s l l'. absurd (omega arith);
  }

  module _ (d : Definitions) (n k : ℕ) (lanes lanes' lanes'' : List Lane) (owners owners' owners'' : List OwnerJob) (shards : List Sharded) (olds news : List E) (mail : Lane) (job : OwnerJob)
      (h : IsSettling d n k lanes lanes' owners owners' shards olds news) (back : AreAllBack d n lanes owners) (lk : k < length lanes)
      (over : (i k : ℕ) (o : OwnerJob) (e : E) → i < length olds → k < length lanes → out (get_or olds i e) ≡ Full k → JOURNAL_MAX < length (sent_by i ((get_or owners k o).receiver).back))
      (mail_next : lanes' ≡ mail ∷ lanes'') (job_next : owners' ≡ job ∷ owners'') where
    mail_at : mail ≡ get_or lanes k mail
    mail_at = (next_in lanes lanes' lanes'' k mail h.lanes_left mail_next).0

    job_at : job ≡ get_or owners k job
    job_at = (next_in owners owners' owners'' k job h.owners_left job_next).0

    back_k : IsAllBack d n k mail job
    back_k = subst (λ (l : Lane). IsAllBack d n k l job) (sym mail_at) (subst (λ (o : OwnerJob). IsAllBack d n k (get_or lanes k mail) o) (sym job_at) (back.each k mail job lk))

    number_at : (job.owner).number ≡ k
    number_at = (back_k.after).number_is

    pub next_back : IsAllBack d n (job.owner).number mail job
    next_back = subst (λ (m : ℕ). IsAllBack d n m mail job) (sym number_at) back_k

    -- one lane more is settled
    pub settle_more : (owner : Owner) (news' : List E) → IsSettledShard d n owner.shard → ((i : ℕ) → IsAbout (job.owner).number (note_of i owner.notes))
        → ((i : ℕ) → HoldsSent (job.owner).number i (sent_by i (job.receiver).back) (note_of i owner.notes) (owner.shard).journal)
        → length news' ≡ length news → ((i : ℕ) (e : E) → i < length news → out (get_or news' i e) ≡ worse (out (get_or news i e)) (note_of i owner.notes))
        → IsSettling d n (k + 1) lanes lanes'' owners owners'' (shards ++ owner.shard ∷ []) olds news'
    settle_more owner news' settled about held many outs = record {
      lanes_left = (next_in lanes lanes' lanes'' k mail h.lanes_left mail_next).1;
      owners_left = (next_in owners owners' owners'' k job h.owners_left job_next).1;
      many = let m = h.many in omega (arith, length-append shards (owner.shard ∷ []));
      settled = All-push (IsSettledShard d n) shards owner.shard h.settled settled;
      many_olds = h.many_olds;
      many_news = many ∙ h.many_news;
      follows = λ i e l. subst (Follows (k + 1) (out (get_or olds i e))) (sym (outs i e (let m = h.many_news in omega arith))) (follows_more k (out (get_or olds i e)) (out (get_or news i e)) (note_of i owner.notes) (h.follows i e l) (about_k i));
      held = λ j i o e s lj l.
          let was = out (get_or news i e) in
          let note = note_of i owner.notes in
          let these = sent_by i ((get_or owners j o).receiver).back in
          subst (λ (x : Outcome). HoldsSent j i these x (get_or (shards ++ owner.shard ∷ []) j s).journal) (sym (outs i e (let m = h.many_news in omega arith)))
          (⊎_elim
          (λ (less : j < k). subst (λ (x : Sharded). HoldsSent j i these (worse was note) x.journal) (sym (get_or_append_left shards (owner.shard ∷ []) s j (let m = h.many in omega arith)))
          (held_later j k i these (get_or shards j s).journal was note (λ q. omega arith) (about_k i) (h.held j i o e s less l)))
          (λ ge. let same : k ≡ j = omega arith in
          subst (λ (x : Sharded). HoldsSent j i these (worse was note) x.journal) (sym (get_or_push shards owner.shard s j (h.many ∙ same)))
          (subst (λ (m : ℕ). HoldsSent m i (sent_by i ((get_or owners m o).receiver).back) (worse was note) (owner.shard).journal) same
          (held_now k i (sent_by i ((get_or owners k o).receiver).back) (owner.shard).journal (out (get_or olds i e)) was note settled.short (about_k i) (over i k o e (let m = h.many_olds in omega arith) lk) (h.follows i e l) (held_k i o))))
          (cases_lt j k));
    }
      where
        about_k : (i : ℕ) → IsAbout k (note_of i owner.notes)
        about_k i = subst (λ (m : ℕ). IsAbout m (note_of i owner.notes)) number_at (about i)

        held_k : (i : ℕ) (o : OwnerJob) → HoldsSent k i (sent_by i ((get_or owners k o).receiver).back) (note_of i owner.notes) (owner.shard).journal
        held_k i o =
            let lo : k < length owners = let m = back.many in omega arith in
            subst (λ (x : OwnerJob). HoldsSent k i (sent_by i (x.receiver).back) (note_of i owner.notes) (owner.shard).journal) (job_at ∙ get_or_default owners k job o lo)
            (subst (λ (m : ℕ). HoldsSent m i (sent_by i (job.receiver).back) (note_of i owner.notes) (owner.shard).journal) number_at (held i))

-- the owner applied one letter more of what is left
pub rest_more : (d : Definitions) (n k : ℕ) (old new : SettledState Entry) (entry : Entry) (owner : Owner) → GivesOne old entry new → OwnsAfter d n k (entries_in old.taken ++ entry ∷ []) owner → OwnsAfter d n k (entries_in new.taken) owner
rest_more d n k old new entry owner got h =
    subst (λ (l : List Entry). OwnsAfter d n k l owner) (sym (ap (λ (s : SettledState Entry). entries_in s.taken) got.2 ∙ map-append (λ (x : Letter Entry). x.message) old.taken (letter got.0 entry ∷ []))) h
