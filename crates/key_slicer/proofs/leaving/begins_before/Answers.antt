-- All slices begin at the time of the first or later.
use Rattle.std.proofs.Common.{◌≤◌}
use Rattle.std.proofs.lemmas.Bool.{ltb-false}
use Rattle.key_slicer.proofs.SettleFacts.{all_from_first}
use Rattle.key_slicer.proofs.leaving.begins_before.Goals as goal

pub returns-in-Some : goal.returns-in-Some
returns-in-Some g c = λ late.
    let le : c.args.time ≤ c.in-Some.low = ltb-false c.in-Some.low c.args.time late in
    all_from_first c.args.time c.in-Some.low c.args.store.now.slices le c.in-Some.ensures.first.least
