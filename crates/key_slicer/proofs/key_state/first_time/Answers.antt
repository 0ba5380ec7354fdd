-- The first slice begins with the first tuple.
use Rattle.std.proofs.Common.{◌≡◌, ◌∙◌, [], rules, sym}
use Rattle.key_slicer.proofs.SettleFacts.{first_found, none_found}
use Rattle.key_slicer.proofs.key_state.first_time.Goals as goal

pub returns-in_err-first-clause-none : goal.returns-in_err-first-clause-none
returns-in_err-first-clause-none g c =
    let bare : c.args.store.now.slices ≡ [] = none_found c.args.store.now.slices (sym c.in_err-first.was ∙ c.slice_from.ensures.first) in
    search rules

pub returns-clause-first : goal.returns-clause-first
returns-clause-first g c =
    let first = first_found c.args.store.now.slices c.in_ok-first.first (sym c.in_ok-first.was ∙ c.slice_from.ensures.first) c.slice_from.ensures.holds.slices in
    record { least = first.least; is_one = first.is_one; early = first.early }
