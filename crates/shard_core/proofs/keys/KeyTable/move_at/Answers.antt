-- The moved state stands for the same lists.
use Rattle.std.proofs.Common.{◌≡◌, ◌≤◌, ◌+◌, ◌∙◌, ℕ, get_or, get_or-set_same, subst, sym}
use Rattle.std.proofs.lemmas.List.{get_or_default}
use Rattle.shard_core.specs.Engines.{BoundsMove, HasLists, StandsIn}
use Rattle.shard_core.specs.declared.slot.Slot.{Slot}
use Rattle.shard_core.proofs.keys.KeyTable.move_at.Goals as goal

pub move_to-requires-clause-movable : goal.move_to-requires-clause-movable
move_to-requires-clause-movable g c =
    let slot = c.index_mut.result.now in
    record {
      stands = subst (λ (s : Slot g.row.K.Denot). HasLists g.K.KeyWindows.fits c.args.defs.now s) (sym c.index_mut.ensures.value) (c.requires.movable.stands slot);
      rises = subst (λ (s : Slot g.row.K.Denot). s.water ≤ c.args.new) (sym c.index_mut.ensures.value) (c.requires.movable.rises slot);
      is_water = c.requires.movable.is_water;
    }

pub due-requires-clause-stands : goal.due-requires-clause-stands
due-requires-clause-stands g c =
    let fits = g.K.KeyWindows.fits in
    let d = c.args.defs.now in
    let new = c.move_to.new.self in
    let there : c.index.result.now ≡ new = c.index.ensures ∙ get_or-set_same c.args.self.now.slots.items c.args.place new c.index.result.now c.requires.movable.within in
    let old : HasLists fits d c.index_mut.result.now = subst (λ (s : Slot g.row.K.Denot). HasLists fits d s) (sym c.index_mut.ensures.value) (c.requires.movable.stands c.index_mut.result.now) in
    subst (λ (s : Slot g.row.K.Denot). HasLists fits d s) (sym there)
    (old.0, old.1, subst (λ (w : ℕ). fits d old.0 old.1 w new.state) (sym c.move_to.ensures.water) (c.move_to.ensures.fits old.0 old.1 old.2))

pub returns-clause-bound : goal.returns-clause-bound
returns-clause-bound g c = λ x kept marks stands.
    let slots = c.args.self.now.slots.items in
    let key_of = g.K.KeyWindows.key_of in
    let fits = g.K.KeyWindows.fits in
    let d = c.args.defs.now in
    let slot = c.index_mut.result.now in
    let same : get_or slots c.args.place x ≡ slot = get_or_default slots c.args.place x slot c.requires.movable.within ∙ sym c.index_mut.ensures.value in
    subst (λ (s : Slot g.row.K.Denot). (bound : ℕ) × BoundsMove g.K.KeyWindows.bounds_move key_of d kept marks c.args.new s bound × (c.move_to.new.steps ≤ c.args.steps.now + bound)) (sym same)
    (c.move_to.ensures.bound (kept (key_of slot.state)) (marks (key_of slot.state)) (subst (λ (s : Slot g.row.K.Denot). StandsIn key_of fits d kept marks s) same stands))
