-- The time of one window more is among the times.
use Rattle.std.proofs.Common.{◌∙◌, ◌-◌, ◌<◌, ℕ, ap, arith, get_or, length, subst, sym, ⊎_elim}
use Rattle.std.specs.Prelude.{min}
use Rattle.std.proofs.lemmas.Bool.{cases_eq}
use Rattle.window_laws.specs.After.{at_water}
use Rattle.window_laws.specs.Settled.{without_first}
use Rattle.key_parts.specs.Calls.{window_at}
use Rattle.key_parts.specs.Moves.{SettlesUpTo}
use Rattle.key_slicer.proofs.Loops.{is_there, least_all, least_more, stands_for_one}
use Rattle.key_slicer.proofs.parts.Parts.first_unsettled.Goals as goal

pub loop-window-preserved : goal.loop-window-preserved
loop-window-preserved g c =
    let d = c.args.defs.now in
    let i = c.loop-window.window in
    let parts = c.args.self.now.list.items in
    let within : i < length parts = omega (arith, c.requires.4.stood.as_many) in
    let there = is_there parts i c.index.result.now within c.index.ensures in
    let time_of = λ (j : ℕ) (part : g.row.P.Denot). g.P.KeyPart.settles_at d j c.args.water part in
    record {
      least = least_more time_of (c.args.water - d.lateness) parts i c.loop-window.time c.min-time.result c.index.result.now there (c.min-time.ensures ∙ ap (min c.loop-window.time) c.first_unsettled.ensures.value) c.loop-window.invariant.least;
      settles = λ m n s w le all j x jl. ⊎_elim
          (λ e. subst (λ k. SettlesUpTo d.lateness (at_water (without_first n m) c.args.water) (window_at d k) (time_of k (get_or parts k x))) (sym e)
          (subst (λ t. SettlesUpTo d.lateness (at_water (without_first n m) c.args.water) (window_at d i) t) (c.first_unsettled.ensures.value ∙ ap (time_of i) (there x))
          (c.first_unsettled.ensures.settles m n s w le (stands_for_one g.P.KeyPart.stands d w s parts m n i c.index.result.now within there all))))
          (λ ne. c.loop-window.invariant.settles m n s w le all j x (omega arith))
          (cases_eq j i);
    }

pub returns-clause-least : goal.returns-clause-least
returns-clause-least g c =
    let d = c.args.defs.now in
    least_all (λ (j : ℕ) (part : g.row.P.Denot). g.P.KeyPart.settles_at d j c.args.water part) (c.args.water - d.lateness) c.args.self.now.list.items c.loop-window.window c.loop-window.time (omega (arith, c.requires.4.stood.as_many)) c.loop-window.invariant.least

pub returns-clause-settles : goal.returns-clause-settles
returns-clause-settles g c = λ m n s w le all i x l. c.loop-window.invariant.settles m n s w le all i x (omega (arith, all.stood.as_many))
