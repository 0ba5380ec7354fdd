-- The source holds the watermark back no more.
use Rattle.std.proofs.Common.{◌≡◌, ◌∙◌, ◌++◌, ◌∷◌, [], ap, refl}
use Rattle.stream_base.specs.declared.no_memory.NoMemory.{NoMemory}
use Rattle.stream_base.specs.Model.Watermark.{water_of}
use Rattle.watermark_table.specs.Watched.{idle_entry}
use Rattle.tail_windows.specs.Following.{Followed, number_of_sources}
use Rattle.tail_windows.proofs.Answering.{word_follows}
use Rattle.tail_windows.proofs.Noting.{ready_behind}
use Rattle.tail_windows.proofs.tails.Tails.take_idle.Goals as goal

pub returns : goal.returns
returns g c =
    let f : Followed = record { def = c.self.inside.def; waters = c.self.inside.waters; lists = c.self.inside.keys } in
    let same : f ≡ c.args.self.now = c.self.view_is in
    word_follows {E = NoMemory} f c.args.self.now same (idle_entry c.args.source) c.args.out.now.items c.args.steps.now c.append_move.new.out.items c.append_move.new.steps c.idle.new.self c.idle.result c.append_move.ensures.appended refl c.idle.ensures
    (λ j s t. c.in_ok-append_move.ensures.changes j (idle_entry c.args.source) t refl (c.after_idle-water.ensures j s.waters ∙ ap (λ (h : Followed). water_of (number_of_sources h) (j ++ idle_entry c.args.source ∷ [])) same))

pub invariant_of-self : goal.invariant_of-self
invariant_of-self g c = (
  c.self.invariant.0,
  ready_behind (c.self.inside.def).period c.self.inside.waters c.idle.new.self c.self.inside.keys c.self.inside.agenda c.pass.new.self (idle_entry c.args.source) c.idle.result c.after_idle-water.result c.idle.ensures
      c.after_idle-water.ensures c.pass.ensures c.self.invariant.1,
)
