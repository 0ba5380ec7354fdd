-- The state counts under the watermark of the past, its own or a later one; and of a key without a place nothing is kept.
use Rattle.std.proofs.Common.{◌≡◌, ◌∙◌, [], arith, get_or, length, rules, sym}
use Rattle.stream_base.specs.Model.Journal.{kept_of, marks_of}
use Rattle.stream_base.specs.Model.Moments.{moment}
use Rattle.stream_base.specs.Model.Watermark.{water_of}
use Rattle.key_windows.specs.Calls.{slices_at}
use Rattle.shard_core.specs.Engines.{AreCurrent, IsCurrent}
use Rattle.shard_core.proofs.Places.{current_at}
use Rattle.shard_core.proofs.keys.KeyTable.slice_count.Goals as goal

pub slice_count-requires : goal.slice_count-requires
slice_count-requires g c =
    let key_of = g.K.KeyWindows.key_of in
    let fits = g.K.KeyWindows.fits in
    let next = g.K.KeyWindows.next_position in
    let past = c.args.past.now in
    let d = c.defs.result.now in
    let table = c.args.self.now in
    let key = c.args.key.now in
    let place = c.in-Some.place in
    let slot = c.index-slot.result.now in
    let current : AreCurrent key_of fits next d past.sources past.journal table = rw c.defs.ensures.value c.requires in
    let due = get_or table.dues.items place 0 in
    let was : IsCurrent key_of fits next d past.sources past.journal key slot due = current_at key_of fits next d past.sources past.journal table key place slot current (search rules) c.index-slot.ensures in (
      slot.water,
      record {
        stands = (kept_of d.lateness past.sources key past.journal, marks_of d.lateness past.sources key past.journal, was.stands);
        to_come = record { rises = omega (arith, was.past, c.water.ensures.value); is_water = c.water.ensures.is_water };
      },
    )

pub returns-in-Some : goal.returns-in-Some
returns-in-Some g c =
    let key_of = g.K.KeyWindows.key_of in
    let fits = g.K.KeyWindows.fits in
    let next = g.K.KeyWindows.next_position in
    let past = c.args.past.now in
    let d = c.defs.result.now in
    let table = c.args.self.now in
    let key = c.args.key.now in
    let place = c.in-Some.place in
    let slot = c.index-slot.result.now in
    let same = c.defs.ensures.value in
    let water = c.water.ensures.value in
    let current : AreCurrent key_of fits next d past.sources past.journal table = rw c.defs.ensures.value c.requires in
    let due = get_or table.dues.items place 0 in
    let was : IsCurrent key_of fits next d past.sources past.journal key slot due = current_at key_of fits next d past.sources past.journal table key place slot current (search rules) c.index-slot.ensures in
    let kept = kept_of d.lateness past.sources key past.journal in
    let marks = marks_of d.lateness past.sources key past.journal in
    let counted : c.slice_count.result ≡ length (slices_at d (moment kept marks c.water.result)) = c.slice_count.ensures kept marks slot.water was.stands (omega (arith, was.past, water)) in
    counted
    ∙ (λ i. length (slices_at (same i) (moment (kept_of (same i).lateness past.sources key past.journal) (marks_of (same i).lateness past.sources key past.journal) (water i))))

pub returns-in-None : goal.returns-in-None
returns-in-None g c =
    let past = c.args.past.now in
    let d = past.defs in
    let key = c.args.key.now in
    let marks = marks_of d.lateness past.sources key past.journal in
    let none : kept_of d.lateness past.sources key past.journal ≡ [] = c.requires.nothing_kept key (search rules) in
    sym (λ i. length (slices_at d (moment (none i) marks (water_of past.sources past.journal))))
