use Rattle.std.proofs.Common.{sym, subst, ap, ◌∙◌, ◌≡◌, ◌<◌, length, get_or, arith, ⊎_elim, inl, inr}
use Rattle.fan_in.specs.Gathering.{HoldsFirst, IsFault, NamesOneOf}
use Rattle.fan_in.specs.Closings.{MadeOwn}
use Rattle.fan_in.specs.Reading.{HaveHanded}
use Rattle.fan_in.proofs.Final.{all_of, back_of, fault_without, named_without, parts_of, stand_at, standing}
use Rattle.fan_in.proofs.Lists.{some_of}
use Rattle.fan_in.proofs.Read.{all_ready}
use Rattle.fan_in.specs.Seating.{pass_port}
use Rattle.fan_in.proofs.turns.gather.TurnFeeds.gather.Goals as goal

pub read_out-ends-requires-clause-ready : goal.read_out-ends-requires-clause-ready
read_out-ends-requires-clause-ready g c κs within =
    let plan = c.args.plan.now in
    let floor = c.in-Ok.ensures.open in
    let few = plan.few_shards in
    rw c.deref.ensures.value (all_ready pass_port g.F.Feed.state c.in-Ok.floor.desks.items plan.sources c.args.feeds.items c.in-Ok.rows.items plan.some_sources c.requires.fresh floor.many
    (λ i row l. stand_at i c.in-Ok.floor.desks.items _ (get_or c.in-Ok.rows.items i row).items (omega (arith, c.in-Ok.ensures.shards)) (floor.rows_are i row l))
    (λ i row l. all_of i _ (record { defs = plan.defs; sources = plan.sources }) _ l (floor.rows_are i row l)) floor.blank)

pub hand_back-requires : goal.hand_back-requires
hand_back-requires g c =
    let one_each = c.requires.fresh.one_each in
    record {
      standing = standing _ _ _ _ c.in-Ok.rows.items _ c.in-Ok.ensures.open (c.read_out-ends.ensures.read.many_rows ∙ one_each)
          (λ i row l.
          let lf : i < length c.args.feeds.items = omega arith in
          let le : i < length c.read_out-ends.result.0.items = omega (arith, c.read_out-ends.ensures.read.many_ends) in
          (c.read_out-ends.ensures.read.read i (some_of c.args.feeds.items i lf) row (some_of c.read_out-ends.result.0.items i le) row lf).same)
          (λ i row l.
          let lf : i < length c.args.feeds.items = omega arith in
          let f = some_of c.args.feeds.items i lf in
          let le : i < length c.read_out-ends.result.0.items = omega (arith, c.read_out-ends.ensures.read.many_ends) in
          let e = some_of c.read_out-ends.result.0.items i le in
          subst (λ s. MadeOwn s (get_or c.read_out-ends.result.1.items i row).items) ((c.requires.fresh.fresh i f lf).of_source) (λ k p lk. ((c.read_out-ends.ensures.read.read i f row e row lf).read.from k p lk).own));
    }

pub returns-in-Ok-clause-gathered : goal.returns-in-Ok-clause-gathered
returns-in-Ok-clause-gathered g c =
    let plan = c.args.plan.now in
    let feeds = c.args.feeds.items in
    let ends = c.read_out-ends.result.0.items in
    let rows = c.read_out-ends.result.1.items in
    let one_each = c.requires.fresh.one_each in
    let many_ends = c.read_out-ends.ensures.read.many_ends in
    let many_rows = c.read_out-ends.ensures.read.many_rows in
    let outcomes = c.hand_back.ensures.outcomes in
    let shards : length c.deref.result.now ≡ plan.shards = ap length c.deref.ensures.value ∙ c.in-Ok.ensures.shards in
    record {
      many_ends = c.hand_back.ensures.same.many ∙ many_ends ∙ one_each;
      back = λ i f e l.
          let lf : i < length feeds = omega (arith, one_each) in
          let le : i < length ends = omega (arith, many_ends) in
          let row = some_of rows i (omega (arith, many_rows)) in
          back_of g.F.Feed.state g.F.Feed.faults _ _ _ _ _ (c.hand_back.ensures.same.feeds i e le) (⊎_elim (λ a. inl (a.1 i e le)) (λ a. inr (a.1 i e le)) outcomes) (c.read_out-ends.ensures.read.read i f row e row lf).read.back_is;
      named = λ i e l.
          let lf : i < length feeds = omega (arith, one_each) in
          let le : i < length ends = omega (arith, many_ends) in
          let f = some_of feeds i lf in
          let row = some_of rows i (omega (arith, many_rows)) in
          let named = subst (λ n. NamesOneOf n (get_or ends i e).outcome) shards (c.read_out-ends.ensures.read.read i f row e row lf).read.named in
          ⊎_elim (λ a. subst (NamesOneOf plan.shards) (sym (a.1 i e le)) (named_without plan.shards _))
          (λ a. subst (NamesOneOf plan.shards) (sym (a.1 i e le)) named) outcomes;
      many_shards = ⊎_elim (λ a. inl a.0) (λ a. inr (a.0 ∙ c.in-Ok.ensures.shards)) outcomes;
      none = λ none i e l.
          let le : i < length ends = omega (arith, many_ends, one_each) in
          ⊎_elim (λ a. subst IsFault (sym (a.1 i e le)) (fault_without _))
          (λ a. let n = ap length none in let m = a.0 in let some = plan.some_shards in absurd (omega (arith, c.in-Ok.ensures.shards))) outcomes;
      alike = λ k s l. (c.hand_back.ensures.closed.closed k s l).gathered;
      parts = λ k i s e lk l.
          let lf : i < length feeds = omega (arith, one_each) in
          let le : i < length ends = omega (arith, many_ends) in
          let lr : i < length rows = omega (arith, many_rows) in
          let row = some_of rows i lr in
          let closed = c.hand_back.ensures.closed in
          let shard = get_or c.hand_back.result.shards.items k s in
          let seats = c.in-Ok.ensures.open.rows_are i row l in
          let f = some_of feeds i lf in
          let read = c.read_out-ends.ensures.read.read i f row e row lf in
          ⊎_elim (λ a. let n = ap length a.0 in absurd (omega arith))
          (λ a.
          let long : k < length (get_or rows i row).items = let n = a.0 in let m = read.same in omega (arith, seats.many, m.many) in
          let now = (get_or c.hand_back.result.ends.items i e).feed in
          let before = subst (λ n. HaveHanded pass_port n (g.F.Feed.state (get_or ends i e).feed).gave (get_or ends i e).outcome (get_or rows i row).items) shards read.read.parts in
          let parts = subst (λ x. HaveHanded pass_port plan.shards (g.F.Feed.state x).gave (get_or ends i e).outcome (get_or rows i row).items) (sym (c.hand_back.ensures.same.feeds i e le)) before in
          subst (λ o. HoldsFirst plan.shards k i (g.F.Feed.state now).gave o shard.journal) (sym (a.1 i e le))
          (parts_of _ _ k i _ _ shard _ (closed.closed k s lk) long (λ p. closed.settled k i s row p lk lr) parts))
          outcomes;
    }
