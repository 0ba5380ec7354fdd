-- The lanes are opened one by one, each with a sender for each source.
use Rattle.std.proofs.Common.{◌≡◌, ◌≤◌, ◌<◌, ◌+◌, arith, length-append, ℕ, zero, suc, List, [], ◌∷◌, ◌++◌, length, drop, get_or, set, slice_get, sym, refl, ap, subst, ◌∙◌, Some, ⊎_elim}
use Rattle.std.specs.Prelude.{All, Vec}
use Rattle.std.specs.declared.alloc.Global.{Global}
use Rattle.std.proofs.lemmas.Bool.{cases_lt}
use Rattle.std.proofs.lemmas.List.{get_or_append_left, get_or-set_other, get_or_push, length-set, map-append}
use Rattle.std.proofs.lemmas.List.Elements.{All-push}
use Rattle.stream_base.specs.Limits.{Definitions}
use Rattle.stream_base.specs.declared.entry.Entry.{Entry}
use Rattle.mail_lane.specs.declared.letter.Letter.{Letter}
use Rattle.mail_lane.specs.Lane.{Lane, ReceiverState, SenderState, letter, AreSendersOf, IsReceiverOf, ReceivesOne}
use Rattle.shard_core.specs.Shard.{Sharded}
use Rattle.fan_in.specs.declared.mail.owner.Owner.{Owner}
use Rattle.fan_in.specs.Owning.{OwnsAfter, entries_in}
use Rattle.fan_in.specs.declared.mail.owner_job.OwnerJob.{OwnerJob}
use Rattle.fan_in.specs.Posts.{GainBoxes, GainsBox, IsBoxOf, IsPost, OwnsLane}
use Rattle.fan_in.proofs.Lists.{next_is, place_more, push_at}

get_at : {A : Type 0} (xs : List A) (k : ℕ) (d : A) → k < length xs → slice_get xs k ≡ Some (get_or xs k d)
get_at [] k d l = absurd (omega arith)
get_at (x ∷ xs) zero d l = refl
get_at (x ∷ xs) (suc k) d l = get_at xs k d (omega arith)

-- one lane more, with its owner and a sender in each row
pub one_lane_more : (d : Definitions) (sources : ℕ) (lanes : List Lane) (owners : List OwnerJob) (old new : List (Vec (SenderState Entry) Global)) (lane : Lane) (owner : OwnerJob)
    → IsPost d sources lanes owners old → lane.senders ≡ sources → OwnsLane d sources (length lanes) lane owner → length new ≡ length old → GainBoxes lane old new
    → IsPost d sources (lanes ++ lane ∷ []) (owners ++ owner ∷ []) new
one_lane_more d sources lanes owners old new lane owner h many_senders owns n gain = record {
  owners_are = record {
    many = let m = (h.owners_are).many in omega (arith, length-append owners (owner ∷ []), length-append lanes (lane ∷ []));
    senders = λ k l lt. push_at (λ (a : Lane) (b : Lane). a.senders ≡ sources) lanes lanes lane lane refl (λ j x y lj. (h.owners_are).senders j x lj) many_senders k l l (omega (arith, length-append lanes (lane ∷ [])));
    owned = λ k l o lt. numbered k l o (omega (arith, length-append lanes (lane ∷ [])));
  };
  many = n ∙ h.many;
  rows_are = λ i row l. let r = h.rows_are i row l in let a = gain i row (let m = h.many in omega arith) in record {
    many = ap length a.adds ∙ (let m = r.many in omega (arith, length-append (get_or old i row).items (a.sender ∷ []), length-append lanes (lane ∷ [])));
    each = λ k d s lt. subst (λ (ss : List (SenderState Entry)). IsBoxOf (get_or (lanes ++ lane ∷ []) k d) i (get_or ss k s)) (sym a.adds)
        (push_at (λ (d : Lane) (s : SenderState Entry). IsBoxOf d i s) lanes (get_or old i row).items lane a.sender r.many r.each a.box k d s (omega (arith, length-append lanes (lane ∷ []))));
  };
  blank = λ i row l. let a = gain i row (let m = h.many in omega arith) in
      subst (λ (ss : List (SenderState Entry)). All (λ s. s.sent ≡ []) ss) (sym a.adds) (All-push (λ (s : SenderState Entry). s.sent ≡ []) (get_or old i row).items a.sender (h.blank i row l) a.sent_none);
}
  where
    -- each owner has the number of its lane
    numbered : (k : ℕ) (l : Lane) (o : OwnerJob) → k < length lanes + 1 → OwnsLane d sources k (get_or (lanes ++ lane ∷ []) k l) (get_or (owners ++ owner ∷ []) k o)
    numbered k l o lt =
        let m : length owners ≡ length lanes = (h.owners_are).many in
        ⊎_elim
        (λ (less : k < length lanes). subst (λ (a : Lane). OwnsLane d sources k a (get_or (owners ++ owner ∷ []) k o)) (sym (get_or_append_left lanes (lane ∷ []) l k less))
        (subst (λ (b : OwnerJob). OwnsLane d sources k (get_or lanes k l) b) (sym (get_or_append_left owners (owner ∷ []) o k (omega arith))) ((h.owners_are).owned k l o less)))
        (λ ge. let is : length lanes ≡ k = omega arith in
        subst (λ (a : Lane). OwnsLane d sources k a (get_or (owners ++ owner ∷ []) k o)) (sym (get_or_push lanes lane l k is))
        (subst (λ (b : OwnerJob). OwnsLane d sources k lane b) (sym (get_or_push owners owner o k (m ∙ is))) (subst (λ (n : ℕ). OwnsLane d sources n lane owner) is owns)))
        (cases_lt k (length lanes))

-- the first rows got their senders of a lane
pub record IsHandingBoxes (lane : Lane) (i : ℕ) (all left : List (SenderState Entry)) (old now : List (Vec (SenderState Entry) Global)) : Type 0 where
  pub left_is : left ≡ drop i all
  pub many : length now ≡ length old
  pub rest : (k : ℕ) (row : Vec (SenderState Entry) Global) → i ≤ k → get_or now k row ≡ get_or old k row
  pub gained : (k : ℕ) (row : Vec (SenderState Entry) Global) → k < i → GainsBox lane k (get_or old k row).items (get_or now k row).items

-- one row more got its sender
pub box_more : (lane : Lane) (i : ℕ) (all left left' : List (SenderState Entry)) (old now : List (Vec (SenderState Entry) Global)) (sender : SenderState Entry) (row row' : Vec (SenderState Entry) Global)
    → IsHandingBoxes lane i all left old now → AreSendersOf lane all → All (λ s. s.sent ≡ []) all → i < length old → length old ≡ length all → sender ≡ get_or left 0 sender → left' ≡ drop (i + 1) all
    → row'.items ≡ (get_or now i row).items ++ sender ∷ [] → IsHandingBoxes lane (i + 1) all left' old (set now i row')
box_more lane i all left left' old now sender row row' h senders unsent lo many first after adds =
    let la : i < length all = omega arith in
    let is : sender ≡ get_or all i sender = next_is all left i sender h.left_is first in
    let placed = senders.1 i sender (get_at all i sender la ∙ ap Some (sym is)) in
    let none : sender.sent ≡ [] = ap (λ (s : SenderState Entry). s.sent) is ∙ unsent i sender la in
    record {
      left_is = after;
      many = length-set now i row' ∙ h.many;
      rest = λ k ro lt. get_or-set_other now i k row' ro (λ e. omega arith) ∙ h.rest k ro (omega arith);
      gained = place_more (λ k (a b : Vec (SenderState Entry) Global). GainsBox lane k a.items b.items) i old now row row' h.many lo h.rest h.gained (record {
        sender = sender;
        adds = adds;
        box = record { lane_is = placed.0; number_is = placed.1 };
        sent_none = none;
      });
    }

-- the owner of a lane from which nothing was taken yet
pub owns_first : (d e : Definitions) (sources n k : ℕ) (lane : Lane) (receiver : ReceiverState Entry) (owner : Owner) (shard : Sharded) → e ≡ d → shard ≡ record { defs = e; sources = sources; journal = [] } → n ≡ k
    → IsReceiverOf lane receiver → (receiver.taken ≡ []) × (receiver.back ≡ []) → OwnsAfter shard.defs sources n [] owner → OwnsLane d sources k lane (record { receiver = receiver; owner = owner })
owns_first d e sources n k lane receiver owner shard same is number own none after = record {
  own = own;
  back_none = none.1;
  after = subst (λ (l : List (Letter Entry)). OwnsAfter d sources k (entries_in l) owner) (sym none.0)
      (subst (λ (j : ℕ). OwnsAfter d sources j [] owner) number (subst (λ (x : Definitions). OwnsAfter x sources n [] owner) (ap (λ (s : Sharded). s.defs) is ∙ same) after));
}

-- the owner applied what its receiver took
pub owns_more : (d : Definitions) (sources k : ℕ) (lane : Lane) (old new : OwnerJob) (mid : ReceiverState Entry) (entry : Entry) → OwnsLane d sources k lane old → ReceivesOne (old.receiver) entry mid → mid ≡ new.receiver
    → (OwnsAfter d sources k (entries_in (old.receiver).taken) old.owner → OwnsAfter d sources k (entries_in (old.receiver).taken ++ entry ∷ []) new.owner) → OwnsLane d sources k lane new
owns_more d sources k lane old new mid entry h got is step =
    let after : ReceiverState Entry = record { lane = (old.receiver).lane; senders = (old.receiver).senders; taken = (old.receiver).taken ++ letter got.0 entry ∷ []; back = (old.receiver).back } in
    let now : new.receiver ≡ after = sym is ∙ got.2 in
    let taken : entries_in (new.receiver).taken ≡ entries_in (old.receiver).taken ++ entry ∷ [] = ap (λ (r : ReceiverState Entry). entries_in r.taken) now ∙ map-append (λ (x : Letter Entry). x.message) (old.receiver).taken (letter got.0 entry ∷ []) in
    record {
      own = (ap (λ (r : ReceiverState Entry). r.lane) now ∙ (h.own).0, ap (λ (r : ReceiverState Entry). r.senders) now ∙ (h.own).1);
      back_none = ap (λ (r : ReceiverState Entry). r.back) now ∙ h.back_none;
      after = subst (λ (l : List Entry). OwnsAfter d sources k l new.owner) (sym taken) (step h.after);
    }
