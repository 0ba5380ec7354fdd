-- The first instance that ends after the watermark minus the lateness begins with the first tuple that isn't settled.
use Rattle.std.proofs.Common.{◌∙◌, ◌-◌, ap, sym}
use Rattle.stream_base.specs.Model.Changes.{Moment}
use Rattle.plain_windows.proofs.Turns.{all_settle, counts_settle, first_open}
use Rattle.plain_windows.proofs.slices.first_unsettled_in.Goals as goal

pub returns-then-counts_events : goal.returns-then-counts_events
returns-then-counts_events c =
    rw c.len.ensures (counts_settle c.args.lateness c.args.view.now c.args.window.now (sym c.counts_events.ensures ∙ c.if-counts_events.true))

pub returns-in-Some : goal.returns-in-Some
returns-in-Some c =
    let water = c.saturating_sub-water.ensures ∙ ap (λ (m : Moment). m.water - c.args.lateness) c.view.view_is in
    first_open c.args.lateness c.args.view.now c.args.window.now c.vouch-2.ensures c.requires.distinct c.vouch.ensures (sym c.counts_events.ensures ∙ c.if-counts_events.false) c.saturating_sub-water.result water c.in-Some.extent c.in-Some.ensures.inside (sym c.in-Some.ensures.found)

pub returns-in-None : goal.returns-in-None
returns-in-None c =
    let water = c.saturating_sub-water.ensures ∙ ap (λ (m : Moment). m.water - c.args.lateness) c.view.view_is in
    rw c.len-in-None.ensures
    (all_settle c.args.lateness c.args.view.now c.args.window.now c.vouch-2.ensures c.requires.distinct c.vouch.ensures (sym c.counts_events.ensures ∙ c.if-counts_events.false) c.saturating_sub-water.result water (sym c.in-None.ensures.found))
