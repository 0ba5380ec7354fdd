-- A watermark raises the one of its source.
use Rattle.std.proofs.Common.{◌≡◌, ◌∙◌, ◌++◌, ◌∷◌, [], ap, refl}
use Rattle.stream_base.specs.declared.no_memory.NoMemory.{NoMemory}
use Rattle.stream_base.specs.Model.Watermark.{water_of}
use Rattle.watermark_table.specs.Watched.{water_entry}
use Rattle.tail_windows.specs.Following.{Followed, number_of_sources}
use Rattle.tail_windows.proofs.Answering.{word_follows}
use Rattle.tail_windows.proofs.Noting.{ready_behind}
use Rattle.tail_windows.proofs.tails.Tails.take_water.Goals as goal

pub returns : goal.returns
returns g c =
    let f : Followed = record { def = c.self.inside.def; waters = c.self.inside.waters; lists = c.self.inside.keys } in
    let same : f ≡ c.args.self.now = c.self.view_is in
    word_follows {E = NoMemory} f c.args.self.now same (water_entry c.args.source c.args.time) c.args.out.now.items c.args.steps.now c.append_move.new.out.items c.append_move.new.steps c.raise.new.self c.raise.result c.append_move.ensures.appended refl c.raise.ensures
    (λ j s t. c.in_ok-append_move.ensures.changes j (water_entry c.args.source c.args.time) t refl (c.after-water.ensures.raised j s.waters c.requires.time ∙ ap (λ (h : Followed). water_of (number_of_sources h) (j ++ water_entry c.args.source c.args.time ∷ [])) same))

pub invariant_of-self : goal.invariant_of-self
invariant_of-self g c = (
  c.self.invariant.0,
  ready_behind (c.self.inside.def).period c.self.inside.waters c.raise.new.self c.self.inside.keys c.self.inside.agenda c.pass.new.self (water_entry c.args.source c.args.time) c.raise.result c.after-water.result c.raise.ensures
      (λ j s. c.after-water.ensures.raised j s c.requires.time) c.pass.ensures c.self.invariant.1,
)
