-- After want of memory the key has its own list again.
use Rattle.std.proofs.Common.{◌≡◌, ◌∙◌, cond}
use Rattle.std.specs.BTreeMap.{is_at}
use Rattle.std.specs.Cmp.Lexicographic.{slice_cmp}
use Rattle.std.specs.Ordering.{nat_cmp}
use Rattle.tail_windows.specs.Following.{list_of}
use Rattle.tail_windows.proofs.Answering.{on_err_to}
use Rattle.tail_windows.proofs.Keyed.{own_or_other}
use Rattle.tail_windows.proofs.timelines.Timelines.put.Goals as goal

pub returns-clause-refused : goal.returns-clause-refused
returns-clause-refused g c other =
    let lists = c.make_place.new.self in
    let key = c.args.key.now in
    on_err_to c.put_there.result (list_of c.put_there.new.self other ≡ cond (is_at (slice_cmp nat_cmp key) other) (list_of lists key) (list_of lists other)) (list_of c.put_there.new.self other ≡ list_of c.args.self.now other)
    (λ is. is ∙ own_or_other lists key other ∙ c.make_place.ensures.same other) (c.put_there.ensures.refused other)
