-- The mark goes in where it is less, is there where it is equal, and goes on where it is greater.
use Rattle.std.proofs.Common.{◌≡◌, ◌∙◌, ◌++◌, ◌∷◌, [], get_or, ap, rules}
use Rattle.std.specs.Prelude.{insert}
use Rattle.std.specs.Ordering.{nat_cmp}
use Rattle.std.specs.declared.cmp.Ordering.TheVariants.{Less, Equal}
use Rattle.report_check.proofs.SortedPlaces.{goes_in, goes_last, is_there}
use Rattle.report_check.proofs.inserting.with_mark.Goals as goal

pub returns-in-Less : goal.returns-in-Less
returns-in-Less c =
    let marks = c.args.marks.now in
    let place = c.loop-place.place in
    let less : nat_cmp c.args.time (get_or marks place 0) ≡ Less = search rules in
    let put : c.insert.new.self.items ≡ insert c.loop-place.out.items place c.args.time = search rules in
    put ∙ ap (λ xs. insert xs place c.args.time) c.loop-place.invariant.same ∙ goes_in nat_cmp marks c.args.time place 0 c.loop-place-test.true c.loop-place.invariant.all less

pub returns-in-Equal : goal.returns-in-Equal
returns-in-Equal c =
    let marks = c.args.marks.now in
    let place = c.loop-place.place in
    let equal : nat_cmp c.args.time (get_or marks place 0) ≡ Equal = search rules in
    c.loop-place.invariant.same ∙ is_there nat_cmp marks c.args.time place 0 c.loop-place-test.true c.loop-place.invariant.all equal

pub returns : goal.returns
returns c =
    let marks = c.args.marks.now in
    let put : c.push.new.self.items ≡ c.loop-place.out.items ++ c.args.time ∷ [] = search rules in
    put ∙ ap (λ xs. xs ++ c.args.time ∷ []) c.loop-place.invariant.same ∙ goes_last nat_cmp marks c.args.time c.loop-place.place c.loop-place-test.false c.loop-place.invariant.all
