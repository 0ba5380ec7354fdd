-- A tuple that isn't late comes to its key.
use Rattle.std.proofs.Common.{◌≡◌, ◌∙◌, ◌+◌, ◌<◌, ap, false, List, of_z, subst, sym, to_z, w64}
use Rattle.std.proofs.lemmas.Int.{to_z-of_z}
use Rattle.std.specs.Prelude.{nat_lt}
use Rattle.stream_base.specs.declared.entry.Entry.{Entry}
use Rattle.stream_base.specs.Model.Watermark.{water_of}
use Rattle.stream_base.specs.Model.What.{is_late}
use Rattle.tail_windows.specs.Following.{Followed, FollowsEntry, StandsFor, lateness_of, number_of_sources}
use Rattle.tail_windows.specs.Noted.{IsNoted}
use Rattle.tail_windows.specs.Samples.{sample_at}
use Rattle.tail_windows.specs.Tails.{end_of}
use Rattle.tail_windows.proofs.Answering.{sample_follows}
use Rattle.tail_windows.proofs.Noting.{noted_with_sample}
use Rattle.tail_windows.proofs.tails.Tails.put_tuple.Goals as goal

pub returns : goal.returns
returns g c e is =
    let f : Followed = record { def = c.self.inside.def; waters = c.self.inside.waters; lists = c.self.inside.keys } in
    let new : Followed = record { def = c.self.inside.def; waters = c.self.inside.waters; lists = c.put.new.self } in
    let same : f ≡ c.args.self.now = c.self.view_is in
    let accepted : (j : List Entry) → StandsFor f j → nat_lt (c.args.time + lateness_of f) (water_of (number_of_sources f) j) ≡ false =
    subst (λ (h : Followed). (j : List Entry) → StandsFor h j → nat_lt (c.args.time + lateness_of h) (water_of (number_of_sources h) j) ≡ false) (sym same) c.requires.accepted in
    subst (λ (h : Followed). FollowsEntry h e c.put.result new c.args.out.now.items c.put.new.out.items c.args.steps.now c.put.new.steps) same
    (sample_follows f e c.args.out.now.items c.args.steps.now c.put.result c.put.new.out.items c.put.new.steps c.put.ensures.appended
    (sample_at c.args.time (to_z w64 (of_z w64 c.args.value))) c.args.key.now c.args.time c.args.value c.water-water.result c.put.new.self (ap (sample_at c.args.time) (to_z-of_z w64 c.args.value c.ranges.value)) is
    (λ j s. ap (is_late (lateness_of f) (water_of (number_of_sources f) j)) is ∙ accepted j s)
    (λ j s. c.water-water.ensures.journal j s.waters)
    c.put.ensures.put c.put.ensures.refused c.put.ensures.changes)

pub invariant_of-self-2 : goal.invariant_of-self-2
invariant_of-self-2 g c =
    let period = (c.self.inside.def).period in
    let s = sample_at c.args.time (to_z w64 (of_z w64 c.args.value)) in
    let ready = c.self.invariant.1 in
    let own : (c.self.inside.waters).water < end_of period c.args.time → IsNoted c.note.new.self (end_of period c.args.time) c.args.key.now =
    λ late. subst (λ n. IsNoted c.note.new.self n c.args.key.now) c.end_of.ensures
    (c.in_ok-note.ensures.noted (subst (λ n. c.water-water.result < n) (sym c.end_of.ensures) (subst (λ w. w < end_of period c.args.time) (sym c.water-water.ensures.value) late))) in (
      c.self.invariant.0,
      record {
        journal = ready.journal;
        stands = ready.stands;
        noted = noted_with_sample c.put.result period (c.self.inside.waters).water c.self.inside.keys c.put.new.self c.self.inside.agenda c.note.new.self c.args.key.now s
            ready.noted c.note.ensures.kept own c.put.ensures.put c.put.ensures.refused;
      },
    )

pub invariant_of-self : goal.invariant_of-self
invariant_of-self g c =
    let ready = c.self.invariant.1 in (
      c.self.invariant.0,
      record { journal = ready.journal; stands = ready.stands; noted = λ k at d late. c.note.ensures.kept at k (ready.noted k at d late) },
    )
