-- The last of those that are left is given back.
use Rattle.std.proofs.Common.{◌≡◌, ◌≢◌, ℕ, subst, arith}
use Rattle.std.specs.Prelude.{IfSome}
use Rattle.outside.specs.Outside.{KeepsWord, back}
use Rattle.run_inputs.proofs.Opened.{all_given, none_given, one_given}
use Rattle.run_inputs.proofs.opening.close_feeds.Goals as goal

pub loop-feed-init : goal.loop-feed-init
loop-feed-init g c =
    let f = g.F.Files in
    none_given f.asked f.came f.told (λ x. g.F.Input.Source.reads x.from) (λ x. g.F.Input.Source.told x.from) c.args.feeds.items c.args.files.now

pub loop-feed-preserved : goal.loop-feed-preserved
loop-feed-preserved g c =
    let f = g.F.Files in
    let reads = g.F.Input.Source.reads in
    let word = g.F.Input.Source.told in
    let now = c.loop-feed.files in
    let new = c.give_back.new.self in
    let given = c.give_back.ensures in
    let is = c.into_source.ensures in
    one_given f.asked f.came f.told (λ x. reads x.from) (λ x. word x.from) c.pop.new.self.items c.loop-feed.feeds.items c.args.feeds.items c.in-Some.feed c.args.files.now now new
    c.in-Some.ensures.items c.loop-feed.invariant given.asked
    (subst (λ s. f.came new (reads s).place ≡ back (reads s)) is given.back)
    (subst (λ s. (i : ℕ) → i ≢ (reads s).place → f.came new i ≡ f.came now i) is given.others)
    (subst (λ s. IfSome (word s) (KeepsWord (reads s))) is given.word)
    given.same

pub returns : goal.returns
returns g c =
    let f = g.F.Files in
    all_given f.asked f.came f.told (λ x. g.F.Input.Source.reads x.from) (λ x. g.F.Input.Source.told x.from) c.loop-feed.feeds.items c.args.feeds.items c.args.files.now c.loop-feed.files (let none = c.in_default.ensures.cases in omega (arith, none.0)) c.loop-feed.invariant
