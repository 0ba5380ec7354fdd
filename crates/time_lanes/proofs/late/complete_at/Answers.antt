-- None has ended where the watermark hasn't passed the time, and else the starts are multiples in a row.
use Rattle.std.proofs.Common.{◌∙◌, ◌-◌, ◌/◌, ap, length, sym}
use Rattle.std.specs.Prelude.{min}
use Rattle.time_lanes.specs.Told.{starts_from}
use Rattle.time_lanes.proofs.ToldFacts.{none_complete, starts_are, starts_hold, starts_in_time, starts_length}
use Rattle.time_lanes.proofs.late.complete_at.Goals as goal

pub returns-then-water-time-clause-starts : goal.returns-then-water-time-clause-starts
returns-then-water-time-clause-starts c =
    let span = c.args.span.now in
    none_complete span.length span.slide c.args.time c.args.water span.within.moves span.within.overlaps c.if-water-time.true

pub returns-then-water-time-clause-number : goal.returns-then-water-time-clause-number
returns-then-water-time-clause-number c = sym (ap length (returns-then-water-time-clause-starts c))

pub returns-clause-starts : goal.returns-clause-starts
returns-clause-starts c =
    let slide = c.args.span.now.slide in
    let first = c.saturating_sub.ensures in
    let count = c.saturating_sub-2.ensures in
    let least = c.min.ensures ∙ ap (min _) c.ended.ensures in
    starts_are c.args.span.now.length slide c.args.time c.args.water c.args.span.now.within.moves
    ∙ sym (λ i. starts_from slide (first i / slide) ((count ∙ (λ j. least j - (first j) / slide)) i))

pub returns-clause-number : goal.returns-clause-number
returns-clause-number c = sym (ap length (returns-clause-starts c) ∙ starts_length c.args.span.now.slide _ _)

pub returns-clause-within : goal.returns-clause-within
returns-clause-within c k below =
    let slide = c.args.span.now.slide in
    let first = c.saturating_sub.result / slide in
    starts_in_time slide first c.saturating_sub-2.result c.args.time c.ended.result k (c.saturating_sub-2.ensures ∙ ap (λ n. n - first) c.min.ensures) below

pub returns-clause-holds : goal.returns-clause-holds
returns-clause-holds c k below =
    let span = c.args.span.now in
    starts_hold span.length span.slide c.args.time (c.saturating_sub.result / span.slide) k span.within.moves (ap (λ n. n / span.slide) c.saturating_sub.ensures)
