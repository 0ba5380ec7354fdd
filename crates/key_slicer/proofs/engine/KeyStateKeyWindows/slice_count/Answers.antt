-- The slices from the time on up to which all is settled are those of the unsettled tuples.
use Rattle.std.proofs.Common.{◌∙◌, ap, length, refl, sym}
use Rattle.stream_base.specs.Model.Moments.{moment}
use Rattle.held_laws.proofs.CountFacts.{no_slices}
use Rattle.key_slicer.proofs.StateFacts.{all_stand, slices_counted}
use Rattle.key_slicer.proofs.engine.KeyStateKeyWindows.slice_count.Goals as goal

pub returns-then-all_count_events : goal.returns-then-all_count_events
returns-then-all_count_events g c = λ kept marks w fits le.
    ap length (sym (no_slices c.args.defs.now (moment kept marks c.args.water) (sym c.all_count_events.ensures ∙ c.if-all_count_events.true)))

pub returns : goal.returns
returns g c = λ kept marks w fits le.
    let d = c.args.defs.now in
    let s = c.args.self.now in
    let m = moment kept marks w in
    let f = fits.known in
    c.count_from.ensures
    ∙ slices_counted g.P.KeyPart.stands d (λ i part. g.P.KeyPart.settles_at d i c.args.water part) (sym c.all_count_events.ensures ∙ c.if-all_count_events.false) kept marks w c.args.water s.next s.store s.parts.list.items c.first_unsettled-time.result le f
    c.first_unsettled-time.ensures.least
    (c.first_unsettled-time.ensures.settles m f.without s.store w le (all_stand g.P.KeyPart.stands d m w s.next s.store s.parts.list.items refl f))
