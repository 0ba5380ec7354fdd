-- The last time is the greatest.
use Rattle.std.proofs.Common.{◌≡◌, ◌≤◌, ◌-◌, length, get_or, ap, sym, subst, arith}
use Rattle.std.specs.Prelude.{nat_le}
use Rattle.std.proofs.lemmas.Bool.{leb-true}
use Rattle.slice_lists.proofs.PlaceFacts.{last_is, place_is_end, some_tuple}
use Rattle.tuple_chunks.proofs.places.are_by.Goals as goal

pub returns-else-is_empty-clause-end : goal.returns-else-is_empty-clause-end
returns-else-is_empty-clause-end c = λ e.
    let kept = c.args.tuples.now in
    place_is_end kept c.args.time some_tuple c.requires
    (λ i s. let at : length kept - 1 ≡ i = omega arith in
    subst (λ n. (get_or kept n some_tuple).time ≤ c.args.time) at (leb-true (get_or kept (length kept - 1) some_tuple).time c.args.time e))

pub returns-else-is_empty-clause-last : goal.returns-else-is_empty-clause-last
returns-else-is_empty-clause-last c = ap (λ n. nat_le n c.args.time) (sym (last_is c.args.tuples.now))
