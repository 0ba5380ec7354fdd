-- The lists that it keeps are those that it fits.
use Rattle.std.proofs.Common.{◌≡◌, ◌∙◌, ap, length, sym, subst}
use Rattle.stream_base.specs.Model.Changes.{Moment}
use Rattle.stream_base.specs.Model.Moments.{moment}
use Rattle.stream_base.specs.Model.Slices.{runs_of, unsettled}
use Rattle.window_laws.specs.Positions.{HaveDistinctPositions}
use Rattle.plain_keys.proofs.plain_key.PlainKeyKeyWindows.slice_count.Goals as goal

pub slice_count-requires : goal.slice_count-requires
slice_count-requires c = record { distinct = subst (λ (m : Moment). HaveDistinctPositions m.kept) (sym c.view.ensures) c.vouch.ensures.distinct }

pub returns : goal.returns
returns c = λ kept marks w fits le.
    let d = c.args.defs.now in
    let at : c.view.result ≡ moment kept marks c.args.water = c.view.ensures ∙ (λ i. moment (fits.0 i) (fits.1 i) c.args.water) in
    c.slice_count.ensures ∙ ap (λ (m : Moment). length (runs_of d.windows m.marks (unsettled d m))) at
