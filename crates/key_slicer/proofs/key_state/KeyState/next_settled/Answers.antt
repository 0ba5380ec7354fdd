-- The first tuple is among the first ones that are settled; and none is where the store has none.
use Rattle.std.proofs.Common.{◌∙◌, arith, sym}
use Rattle.stream_base.specs.Model.Moments.{moment}
use Rattle.key_slicer.proofs.SettleFacts.{at_most_final, one_less, one_less_across}
use Rattle.key_slicer.proofs.StateFacts.{none_in_bare}
use Rattle.key_slicer.proofs.key_state.KeyState.next_settled.Goals as goal

pub returns-then-all_count_events-clause-none_before : goal.returns-then-all_count_events-clause-none_before
returns-then-all_count_events-clause-none_before g c = λ kept marks new fits rises below is.
    none_in_bare c.args.defs.now (moment kept marks new) c.args.self.now.store (fits.known.bare (sym c.all_count_events.ensures ∙ c.if-all_count_events.true))

pub returns-in-None-clause-none_before : goal.returns-in-None-clause-none_before
returns-in-None-clause-none_before g c = λ kept marks new fits rises below is.
    none_in_bare c.args.defs.now (moment kept marks new) c.args.self.now.store c.in-None.ensures.none

pub settled_by-requires-clause-some : goal.settled_by-requires-clause-some
settled_by-requires-clause-some g c = sym c.all_count_events.ensures ∙ c.if-all_count_events.false

pub returns-in-Some-clause-some_at : goal.returns-in-Some-clause-some_at
returns-in-Some-clause-some_at g c = λ kept marks fits final.
    let s = c.args.self.now in
    let d = c.args.defs.now in
    let one = c.in-Some.ensures.first.is_one in
    let by = c.settled_by.ensures.by_then kept marks one.0 fits one.1 (omega (arith, one.2)) final in
    (by.0, one_less g.P.KeyPart.stands d kept marks c.args.water c.settled_by.result s.next s.store s.parts.list.items one.0 fits one.1 by.1)

-- the first tuple isn't settled before, and is from then on
pub returns-in-Some-clause-across : goal.returns-in-Some-clause-across
returns-in-Some-clause-across g c = λ kept marks old new fits is_old is_new rises early late.
    let s = c.args.self.now in
    let d = c.args.defs.now in
    let one = c.in-Some.ensures.first.is_one in
    let by = c.settled_by.ensures.by_then kept marks one.0 fits one.1 (omega (arith, one.2)) (omega (arith, late, at_most_final new is_new)) in
    one_less_across g.P.KeyPart.stands d kept marks c.args.water old c.settled_by.result new s.next s.store s.parts.list.items one.0 fits one.1
    (c.settled_by.ensures.none_before kept marks old fits rises early is_old) late by.1
