use Rattle.std.proofs.Common.{sym, subst, ap, ◌∙◌, ◌≡◌, ◌<◌, length, get_or, arith, inr}
use Rattle.fan_in.specs.Gathering.{NamesOneOf}
use Rattle.fan_in.specs.Reading.{AreFrom, HaveHanded}
use Rattle.fan_in.specs.Settling.{Follows}
use Rattle.fan_in.specs.Sending.{sender_port}
use Rattle.fan_in.proofs.Lists.{some_of, written}
use Rattle.fan_in.proofs.Mailed.{all_of, back_at, sent_rows, stand_at}
use Rattle.fan_in.proofs.Outcomes.{named_follows, part_of}
use Rattle.fan_in.proofs.Read.{all_ready}
use Rattle.fan_in.proofs.mail.gather.MailFeeds.gather.Goals as goal

pub send_out-ends-requires-clause-ready : goal.send_out-ends-requires-clause-ready
send_out-ends-requires-clause-ready g c κs within =
    let plan = c.args.plan.now in
    let post = c.in-Ok.ensures.open.1 in
    let few = plan.few_shards in
    rw c.deref.ensures.value (all_ready sender_port g.F.Feed.state c.in-Ok.post.lanes.items plan.sources c.args.feeds.items c.in-Ok.rows.items plan.some_sources c.requires.fresh post.many
    (λ i row l. stand_at i c.in-Ok.post.lanes.items (get_or c.in-Ok.rows.items i row).items (omega (arith, c.in-Ok.ensures.open.0)) (post.rows_are i row l)) (λ i row l. all_of i _ _ (post.rows_are i row l)) post.blank)

pub settle_all-requires-clause-rows : goal.settle_all-requires-clause-rows
settle_all-requires-clause-rows g c κs within =
    let sent = c.send_out-ends.ensures.read in
    let one_each = c.requires.fresh.one_each in
    let open_many = c.in-Ok.ensures.open.1.many in
    sent_rows _ _ _ _ c.in-Ok.rows.items _ c.in-Ok.ensures.open.1 (sent.many_rows ∙ one_each)
    (λ i row box l. (sent.read i (some_of c.args.feeds.items i (omega (arith, one_each))) row (some_of c.send_out-ends.result.0.items i (omega (arith, sent.many_ends, one_each))) box (omega (arith, one_each))).same)
    (λ i k box s l lk.
    let lf : i < length c.args.feeds.items = omega (arith, one_each) in
    let f = some_of c.args.feeds.items i lf in
    subst (λ n. AreFrom n (get_or (get_or c.send_out-ends.result.1.items i box).items k s).sent) (c.requires.fresh.fresh i f lf).of_source
    ((sent.read i f (some_of c.in-Ok.rows.items i (omega (arith, open_many))) (some_of c.send_out-ends.result.0.items i (omega (arith, sent.many_ends))) box lf).read.from k s lk))

pub settle_all-requires-clause-over : goal.settle_all-requires-clause-over
settle_all-requires-clause-over g c κs within = rw c.as_mut_slice-in-Ok.ensures.value (λ i k box s e l full.
    let sent = c.send_out-ends.ensures.read in
    let one_each = c.requires.fresh.one_each in
    let lf : i < length c.args.feeds.items = omega (arith, sent.many_ends) in
    let row = some_of c.in-Ok.rows.items i (omega (arith, c.in-Ok.ensures.open.1.many, one_each)) in
    let read = sent.read i (some_of c.args.feeds.items i lf) row e box lf in
    let seats = c.in-Ok.ensures.open.1.rows_are i row (omega (arith, one_each)) in
    let lk = subst (NamesOneOf (length c.deref.result.now)) full read.read.named in
    (read.read.parts k s (omega (arith, lk, ap length c.deref.ensures.value, read.same.many, seats.many))).is_full full)

pub returns-in-Ok-clause-gathered : goal.returns-in-Ok-clause-gathered
returns-in-Ok-clause-gathered g c =
    let plan = c.args.plan.now in
    let n = plan.shards in
    let feeds = c.args.feeds.items in
    let opened = c.in-Ok.rows.items in
    let rows = c.send_out-ends.result.1.items in
    let handed = c.settle_all.new.shards.items in
    let one_each = c.requires.fresh.one_each in
    let many_ends = c.send_out-ends.ensures.read.many_ends in
    let many_rows = c.send_out-ends.ensures.read.many_rows in
    let open_many = c.in-Ok.ensures.open.1.many in
    let ends = c.send_out-ends.result.0 in
    let lent = c.as_mut_slice-in-Ok.ensures.value in
    let done = c.settle_all.new.ends in
    let many : length done ≡ length ends.items = c.settle_all.ensures.same.many ∙ ap length lent in
    let w = written ends.len ends.items done (omega (arith, ends.ok.0)) many in
    let follows = rw lent at c.settle_all.ensures.follows in
    let same = rw lent at c.settle_all.ensures.same.feeds in
    let shards : length c.in-Ok.post.lanes.items ≡ n = c.in-Ok.ensures.open.0 in
    let all_shards : length handed ≡ n = c.settle_all.ensures.many ∙ shards in
    record {
      many_ends = rw w (many ∙ many_ends ∙ one_each);
      back = λ i f e l.
          let lf : i < length feeds = omega (arith, one_each) in
          let le : i < length ends.items = omega (arith, many_ends) in
          let row = some_of opened i (omega (arith, open_many)) in
          let box = some_of rows i (omega (arith, many_rows)) in
          let sent = c.send_out-ends.ensures.read.read i f row e box lf in
          rw w (back_at g.F.Feed.state g.F.Feed.faults _ _ _ _ _ _ (same i e le) (follows i e le) sent.read.back_is);
      named = λ i e l.
          let lf : i < length feeds = omega (arith, one_each) in
          let le : i < length ends.items = omega (arith, many_ends, one_each) in
          let row = some_of opened i (omega (arith, open_many)) in
          let box = some_of rows i (omega (arith, many_rows)) in
          let sent = c.send_out-ends.ensures.read.read i (some_of feeds i lf) row e box lf in
          let named = subst (λ m. NamesOneOf m (get_or ends.items i e).outcome) (ap length c.deref.ensures.value) sent.read.named in
          rw w (subst (λ m. NamesOneOf m (get_or done i e).outcome) shards (named_follows _ _ _ named (follows i e le)));
      many_shards = inr all_shards;
      none = λ none i e l. let some = plan.some_shards in let m = ap length none in absurd (omega (arith, all_shards));
      alike = λ k s l. (c.settle_all.ensures.settled k s l).gathered;
      parts = λ k i s e lk l.
          let lf : i < length feeds = omega (arith, one_each) in
          let le : i < length ends.items = omega (arith, many_ends) in
          let row = some_of opened i (omega (arith, open_many)) in
          let box = some_of rows i (omega (arith, many_rows)) in
          let f = some_of feeds i lf in
          let sent = c.send_out-ends.ensures.read.read i f row e box lf in
          let senders = (get_or rows i box).items in
          let deref : length c.deref.result.now ≡ n = ap length c.deref.ensures.value ∙ shards in
          let many_senders : length senders ≡ n = sent.same.many ∙ (c.in-Ok.ensures.open.1.rows_are i row l).many ∙ shards in
          let own = (get_or ends.items i e).outcome in
          let before = subst (λ m. HaveHanded sender_port m (g.F.Feed.state (get_or ends.items i e).feed).gave own senders) deref sent.read.parts in
          let parts = subst (λ x. HaveHanded sender_port n (g.F.Feed.state x).gave own senders) (sym (same i e le)) before in
          let lb : k < length senders = omega (arith, all_shards) in
          let d = some_of senders k lb in
          let held = rw lent at c.settle_all.ensures.held in
          rw w (part_of n k i _ _ (get_or handed k s).journal own (get_or done i e).outcome _ (subst (λ m. Follows m own (get_or done i e).outcome) shards (follows i e le)) (parts k d lb) (held k i box d e s (omega (arith, shards, all_shards)) le));
    }
