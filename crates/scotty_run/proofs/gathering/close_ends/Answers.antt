-- The last of those that are left is given back.
use Rattle.std.proofs.Common.{◌≡◌, ◌≢◌, ℕ, subst, arith}
use Rattle.std.specs.Prelude.{IfSome}
use Rattle.outside.specs.Outside.{KeepsWord, back}
use Rattle.run_inputs.proofs.Opened.{all_given, none_given, one_given}
use Rattle.scotty_run.proofs.gathering.close_ends.Goals as goal

pub loop-end-init : goal.loop-end-init
loop-end-init g c =
    let f = g.F.Files in
    none_given f.asked f.came f.told (λ x. g.F.Input.Source.reads x.feed.from) (λ x. g.F.Input.Source.told x.feed.from) c.args.ends.items c.args.files.now

pub loop-end-preserved : goal.loop-end-preserved
loop-end-preserved g c =
    let f = g.F.Files in
    let reads = g.F.Input.Source.reads in
    let word = g.F.Input.Source.told in
    let now = c.loop-end.files in
    let new = c.give_back.new.self in
    let given = c.give_back.ensures in
    let is = c.into_source.ensures in
    one_given f.asked f.came f.told (λ x. reads x.feed.from) (λ x. word x.feed.from) c.pop.new.self.items c.loop-end.ends.items c.args.ends.items c.in-Some.end c.args.files.now now new
    c.in-Some.ensures.items c.loop-end.invariant given.asked
    (subst (λ s. f.came new (reads s).place ≡ back (reads s)) is given.back)
    (subst (λ s. (i : ℕ) → i ≢ (reads s).place → f.came new i ≡ f.came now i) is given.others)
    (subst (λ s. IfSome (word s) (KeepsWord (reads s))) is given.word)
    given.same

pub returns : goal.returns
returns g c =
    let f = g.F.Files in
    all_given f.asked f.came f.told (λ x. g.F.Input.Source.reads x.feed.from) (λ x. g.F.Input.Source.told x.feed.from) c.loop-end.ends.items c.args.ends.items c.args.files.now c.loop-end.files (let none = c.in_default.ensures.cases in omega (arith, none.0)) c.loop-end.invariant
