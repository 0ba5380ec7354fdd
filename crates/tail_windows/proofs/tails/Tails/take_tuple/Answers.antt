-- A late tuple is dropped.
use Rattle.std.proofs.Common.{◌∙◌, ap, sym}
use Rattle.stream_base.specs.Model.Watermark.{water_of}
use Rattle.stream_base.specs.Model.What.{is_late, key_in}
use Rattle.tail_windows.specs.Following.{lateness_of, number_of_sources}
use Rattle.tail_windows.proofs.Answering.{late_follows}
use Rattle.tail_windows.proofs.tails.Tails.take_tuple.Goals as goal

pub returns-then-is_late : goal.returns-then-is_late
returns-then-is_late g c e is =
    let f = c.args.self.now in
    late_follows f e c.args.out.now.items c.args.steps.now c.args.key.now c.append_dropped.result c.append_dropped.new.out.items (ap key_in is)
    (λ j s. ap (is_late (lateness_of f) (water_of (number_of_sources f) j)) is ∙ sym (c.is_late.ensures j s) ∙ c.if-is_late.true)
    c.append_dropped.ensures.dropped (c.append_dropped.ensures.appended (f.def).count c.args.steps.now)
