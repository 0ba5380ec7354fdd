-- A tuple or mark leaves the watermark, and all entries are within their limits.
use Rattle.std.proofs.Common.{◌≡◌, ◌∙◌, ◌++◌, ◌∷◌, ℕ, List, [], ap, rules, subst, sym, ⊎_elim}
use Rattle.stream_base.specs.Model.Moments.{IsWater}
use Rattle.stream_base.specs.declared.entry.Entry.{Entry}
use Rattle.stream_base.specs.Model.Watermark.{water_of}
use Rattle.stream_base.specs.Model.What.{key_in}
use Rattle.model_laws.proofs.ChangesAfter.{water_of_keyed}
use Rattle.watermark_table.specs.Watched.{sources_of}
use Rattle.shard_core.specs.Shard.{AreKnown, IsKnown}
use Rattle.shard_core.proofs.Journals.{within_push}
use Rattle.shard_core.proofs.Waters.{water_is_water}
use Rattle.shard_core.proofs.past.Past.water_after.Goals as goal

-- the watermark behind a known entry
is_water : (sources : ℕ) (journal : List Entry) (e : Entry) (water : ℕ) → water ≡ water_of sources (journal ++ e ∷ []) → AreKnown sources journal → IsKnown sources e → IsWater water
is_water sources journal e water is known next = subst IsWater (sym is) (water_is_water sources (journal ++ e ∷ []) (within_push sources journal e known next).within)

pub returns-in-Tuple-clause-value : goal.returns-in-Tuple-clause-value
returns-in-Tuple-clause-value c =
    let J = c.self.inside.journal.items in
    let n = sources_of c.self.inside.waters in
    let e = c.args.entry.now in
    rw (← c.self.view_is) (c.water.ensures.journal J c.self.invariant.waters
    ∙ sym (⊎_elim (λ t. water_of_keyed n J e t.0 (ap key_in t.3)) (λ m. water_of_keyed n J e m.0 (ap key_in m.2)) c.in-Tuple.is))

pub returns-in-Tuple-clause-is_water : goal.returns-in-Tuple-clause-is_water
returns-in-Tuple-clause-is_water c =
    let J = c.self.inside.journal.items in
    let n = sources_of c.self.inside.waters in
    let e = c.args.entry.now in
    is_water n J e c.water.result
    (c.water.ensures.journal J c.self.invariant.waters
    ∙ sym (⊎_elim (λ t. water_of_keyed n J e t.0 (ap key_in t.3)) (λ m. water_of_keyed n J e m.0 (ap key_in m.2)) c.in-Tuple.is))
    c.self.invariant.journal_is.known (rw (← c.self.view_is) at c.requires)

pub returns-in-Water-clause-is_water : goal.returns-in-Water-clause-is_water
returns-in-Water-clause-is_water c =
    is_water (sources_of c.self.inside.waters) c.self.inside.journal.items c.args.entry.now _ (search rules) c.self.invariant.journal_is.known (rw (← c.self.view_is) at c.requires)

pub returns-in-Idle-clause-is_water : goal.returns-in-Idle-clause-is_water
returns-in-Idle-clause-is_water c =
    is_water (sources_of c.self.inside.waters) c.self.inside.journal.items c.args.entry.now _ (search rules) c.self.invariant.journal_is.known (rw (← c.self.view_is) at c.requires)

pub returns-in-End-clause-is_water : goal.returns-in-End-clause-is_water
returns-in-End-clause-is_water c =
    is_water (sources_of c.self.inside.waters) c.self.inside.journal.items c.args.entry.now _ (search rules) c.self.invariant.journal_is.known (rw (← c.self.view_is) at c.requires)
