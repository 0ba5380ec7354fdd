-- The owners of all lanes, before and after they applied what came.
use Rattle.std.proofs.Common.{◌≡◌, ◌<◌, arith, ℕ, List, length, get_or, sym, subst, ◌∙◌}
use Rattle.std.specs.Prelude.{All}
use Rattle.stream_base.specs.Limits.{Definitions}
use Rattle.mail_lane.specs.Lane.{Lane}
use Rattle.fan_in.specs.declared.mail.owner_job.OwnerJob.{OwnerJob}
use Rattle.fan_in.specs.Owners.{HaveOwned, MayOwn}
use Rattle.fan_in.specs.Posts.{AreOwned, OwnsLane}
use Rattle.fan_in.proofs.Lists.{some_of}

module _ (d : Definitions) (sources : ℕ) (lanes : List Lane) (owners : List OwnerJob) (owned : AreOwned d sources lanes owners) where
  numbered : (k : ℕ) (o : OwnerJob) → k < length owners → ((get_or owners k o).owner).number ≡ k
  numbered k o l =
      let ll : k < length lanes = let m = owned.many in omega arith in
      ((owned.owned k (some_of lanes k ll) o ll).after).number_is

  pub may_own : All (MayOwn d sources lanes) owners
  may_own k o l =
      let ll : k < length lanes = let m = owned.many in omega arith in
      let n = numbered k o l in (
        subst (λ (j : ℕ). j < length lanes) (sym n) ll,
        λ lane. subst (λ (j : ℕ). OwnsLane d sources j (get_or lanes j lane) (get_or owners k o)) (sym n) (owned.owned k lane o ll),
      )

  pub still_owned : (news : List OwnerJob) → HaveOwned d sources lanes owners news → AreOwned d sources lanes news
  still_owned news h = record {
    many = h.many ∙ owned.many;
    senders = owned.senders;
    owned = λ k l o lk.
        let lo : k < length owners = let m = owned.many in omega arith in
        subst (λ (j : ℕ). OwnsLane d sources j (get_or lanes j l) (get_or news k o)) (numbered k o lo) (h.owned k o lo l);
  }
