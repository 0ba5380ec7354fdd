-- From the desks that were opened and the feeds that were read to what is handed back.
use Rattle.std.proofs.Common.{◌≡◌, ◌≤◌, ◌<◌, ◌+◌, arith, ℕ, List, ◌++◌, length, get_or, sym, ap, subst, ◌∙◌, ◌⊎◌, ⊎_elim, Option, Some}
use Rattle.std.specs.Prelude.{All, IfSome, Vec}
use Rattle.std.specs.declared.alloc.Global.{Global}
use Rattle.stream_base.specs.declared.entry.Entry.{Entry}
use Rattle.stream_base.specs.declared.limits.TheConstants.{JOURNAL_MAX}
use Rattle.stream_base.specs.Model.Routes.{routed}
use Rattle.shard_core.specs.Shard.{Sharded}
use Rattle.source_feed.specs.FeedView.{FeedView}
use Rattle.turnstile.specs.declared.keeps.Keeps.{Ghosts}
use Rattle.turnstile.specs.declared.pass.Pass.{Pass}
use Rattle.turnstile.specs.declared.turnstile.Turnstile.{Turnstile}
use Rattle.turnstile.specs.Passes.{number, fixed, made, seen}
use Rattle.fan_in.specs.Closings.{AreStanding, IsClosed, IsSettled, MadeOwn}
use Rattle.fan_in.specs.Desks.{BookedState}
use Rattle.fan_in.specs.Floors.{AreSeats, IsFloor}
use Rattle.fan_in.specs.Gathering.{HoldsFirst, FeedEnded, IsFault, NamesOneOf}
use Rattle.fan_in.specs.Ports.{HasHanded}
use Rattle.fan_in.specs.Reading.{AreSame, HaveHanded, StandAt}
use Rattle.fan_in.specs.Works.{without_shards}
use Rattle.fan_in.specs.declared.fixed_part.FixedPart.{FixedPart}
use Rattle.fan_in.specs.declared.outcome.Outcome.{Outcome}
use Rattle.fan_in.specs.declared.outcome.Outcome.TheVariants.{Done, Fault, Full}
use Rattle.fan_in.proofs.Backs.{back_without}
use Rattle.fan_in.proofs.Lists.{some_of}
use Rattle.fan_in.specs.Seating.{pass_port}

pub fault_without : (o : Outcome) → IsFault (without_shards o)
fault_without Done = tt
fault_without (Full shard) = tt
fault_without (Fault fault) = tt

pub named_without : (shards : ℕ) (o : Outcome) → NamesOneOf shards (without_shards o)
named_without shards Done = tt
named_without shards (Full shard) = tt
named_without shards (Fault fault) = tt

-- the outcome stays where shards are handed out
pub back_of : {X : Type 0} (state : X → FeedView) (faults : X → ℕ) (a x y : X) (o p : Outcome) → y ≡ x → (p ≡ without_shards o) ⊎ (p ≡ o) → FeedEnded (state a) (state x) o (faults a) (faults x) → FeedEnded (state a) (state y) p (faults a) (faults y)
back_of state faults a x y o p e choice b =
    subst (λ z. FeedEnded (state a) (state z) p (faults a) (faults z)) (sym e)
    (⊎_elim (λ w. subst (λ q. FeedEnded (state a) (state x) q (faults a) (faults x)) (sym w) (back_without (state a) (state x) o (faults a) (faults x) b)) (λ w. subst (λ q. FeedEnded (state a) (state x) q (faults a) (faults x)) (sym w) b) choice)

module _ {g : Ghosts BookedState Entry FixedPart} where
  -- the passes of a source stand at the desks
  pub stand_at : (i : ℕ) (desks : List (Turnstile BookedState Entry FixedPart)) (f : Option FixedPart) (row : List (Pass BookedState Entry FixedPart g)) → length desks ≤ 16 → AreSeats f i desks row → StandAt pass_port desks row
  stand_at i desks f row few seats = record { few = few; many = seats.many; own = λ k d p lk. (seats.each k d p (let m = seats.many in omega arith)).own }

  -- they are those of the source
  pub all_of : (i : ℕ) (desks : List (Turnstile BookedState Entry FixedPart)) (f : FixedPart) (row : List (Pass BookedState Entry FixedPart g)) → i < f.sources → AreSeats (Some f) i desks row → All (λ p. (number p ≡ i + 1) × IfSome (fixed p) (λ f. i < f.sources)) row
  all_of i desks f row l seats k p lk =
      let ld : k < length desks = let m = seats.many in omega arith in
      let seat = seats.each k (some_of desks k ld) p ld in
      (seat.number_is, subst (λ (o : Option FixedPart). IfSome o (λ f. i < f.sources)) (sym seat.fixed_is) l)

  pub standing : (f : Option FixedPart) (sources : ℕ) (desks : List (Turnstile BookedState Entry FixedPart)) (zeros : List (Pass BookedState Entry FixedPart g)) (rows rows' : List (Vec (Pass BookedState Entry FixedPart g) Global))
      → IsFloor f sources desks zeros rows → length rows' ≡ sources → ((i : ℕ) (row : Vec (Pass BookedState Entry FixedPart g) Global) → i < sources → AreSame pass_port (get_or rows i row).items (get_or rows' i row).items)
      → ((i : ℕ) (row : Vec (Pass BookedState Entry FixedPart g) Global) → i < sources → MadeOwn i (get_or rows' i row).items) → AreStanding f sources desks zeros rows'
  standing f sources desks zeros rows rows' floor many same own = record {
    zeros_are = floor.zeros_are;
    many = many;
    rows_are = λ i row l. let seats = floor.rows_are i row l in let s = same i row l in record {
      many = s.many ∙ seats.many;
      each = λ k d p lk. let a = s.same k p (let m = seats.many in omega arith) in let b = seats.each k d p lk in record {
        own = a.turnstile ∙ b.own;
        number_is = a.number_same ∙ b.number_is;
        fixed_is = a.fixed_same ∙ b.fixed_is;
        born_none = a.born_same ∙ b.born_none;
      };
    };
    own = own;
  }

  part : (shards k i : ℕ) (entries : List Entry) (o : Outcome) (f : Option FixedPart) (shard : Sharded) (p : Pass BookedState Entry FixedPart g) → IsClosed f shard → IsSettled shard i p → HasHanded (routed shards k entries) k o (made p) (length (seen p) ≡ JOURNAL_MAX)
      → HoldsFirst shards k i entries o shard.journal
  part shards k i entries o f shard p closed settled has = record {
    prefix = (has.begins.0, has.begins.1 ∙ ap (λ l. l ++ has.begins.0) (sym settled.journal));
    whole = λ e. settled.journal ∙ has.whole e;
    full = λ e. let a = has.is_full e in let b = settled.seen_of in let c = closed.short in omega arith;
    lacks = λ e. subst (λ (l : List Entry). length l < length (routed shards k entries)) (sym settled.journal) (has.lacks e);
  }

  -- of the entries that a feed gave, a shard holds its part
  pub parts_of : (entries : List Entry) (shards k i : ℕ) (o : Outcome) (f : Option FixedPart) (shard : Sharded) (row : List (Pass BookedState Entry FixedPart g)) → IsClosed f shard → k < length row
      → ((p : Pass BookedState Entry FixedPart g) → IsSettled shard i (get_or row k p)) → HaveHanded pass_port shards entries o row → HoldsFirst shards k i entries o shard.journal
  parts_of entries shards k i o f shard row closed l settled h =
      let p = some_of row k l in part shards k i entries o f shard (get_or row k p) closed (settled p) (h k p l)
