-- The first time is not settled before the watermark, and is at it.
use Rattle.std.proofs.Common.{◌≡◌, ◌∙◌, ◌≤◌, ◌<◌, arith, false, refl, sym, true, ⊎_elim}
use Rattle.std.proofs.lemmas.Bool.{cases_lt, false≢true}
use Rattle.std.proofs.lemmas.List.Elements.{All-contains}
use Rattle.stream_base.specs.Model.Moments.{moment}
use Rattle.stream_base.specs.declared.kept.Kept.{Kept}
use Rattle.stream_base.specs.Model.Slices.{is_settled}
use Rattle.agg_store.specs.Stored.{tuples_of}
use Rattle.key_slicer.proofs.SettleFacts.{open_at, settled_then}
use Rattle.key_slicer.proofs.StateFacts.{all_stand}
use Rattle.key_slicer.proofs.key_state.KeyState.settled_by.Goals as goal

pub returns-clause-none_before : goal.returns-clause-none_before
returns-clause-none_before g c = λ kept marks new fits rises below is.
    let s = c.args.self.now in
    let d = c.args.defs.now in
    let m = moment kept marks c.args.water in
    let f = fits.known in
    let early : new < c.settled_by.result = ⊎_elim (λ lt. lt) (λ (le : c.settled_by.result ≤ new). absurd (omega (arith, below, c.water_from.ensures.first new is le))) (cases_lt new c.settled_by.result) in
    open_at g.P.KeyPart.stands d (λ i part. g.P.KeyPart.settles_at d i new part) c.requires.some kept marks c.args.water new s.next s.store s.parts.list.items c.args.time rises f
    (c.settled_by.ensures.settles m f.without s.store c.args.water new rises is (all_stand g.P.KeyPart.stands d m c.args.water s.next s.store s.parts.list.items refl f))
    (λ least o. c.settled_by.ensures.before new least early o) c.requires.first.least

pub returns-clause-by_then : goal.returns-clause-by_then
returns-clause-by_then g c = λ kept marks x fits there le final.
    let s = c.args.self.now in
    let d = c.args.defs.now in
    let m = moment kept marks c.args.water in
    let f = fits.known in
    let due = c.water_from.result in
    let stand = all_stand g.P.KeyPart.stands d m c.args.water s.next s.store s.parts.list.items refl f in
    ⊎_elim
    (λ (lt : c.args.water < due).
    let from : c.args.water ≤ due = omega arith in (
      lt,
      settled_then g.P.KeyPart.stands d (λ i part. g.P.KeyPart.settles_at d i due part) c.requires.some kept marks c.args.water due s.next s.store s.parts.list.items c.args.time x from f
          (c.settled_by.ensures.settles m f.without s.store c.args.water due from (c.water_from.ensures.is_water final) stand) (λ least o. c.settled_by.ensures.by_then due least c.water_from.ensures.from o) there le,
    ))
    (λ (ge : due ≤ c.args.water).
    let water = c.args.water in
    let late : c.settled_by.result ≤ water = omega (arith, ge, c.water_from.ensures.from) in
    let settled : is_settled d m x ≡ true =
    settled_then g.P.KeyPart.stands d (λ i part. g.P.KeyPart.settles_at d i water part) c.requires.some kept marks water water s.next s.store s.parts.list.items c.args.time x (omega arith) f
    (c.settled_by.ensures.settles m f.without s.store water water (omega arith) c.requires.stands.is_water stand) (λ least o. c.settled_by.ensures.by_then water least late o) there le in
    absurd (false≢true (sym (All-contains (λ (x : Kept). is_settled d m x ≡ false) (tuples_of s.store) x fits.none_settled there) ∙ settled)))
    (cases_lt c.args.water due)
