-- By the later of two watermarks the time is settled in the windows of both.
use Rattle.std.proofs.Common.{◌≡◌, ◌<◌, arith, get_or, length, subst, sym, ⊎_elim}
use Rattle.std.proofs.lemmas.Bool.{cases_eq}
use Rattle.window_laws.specs.After.{at_water}
use Rattle.window_laws.specs.Settled.{without_first}
use Rattle.key_parts.specs.Calls.{window_at}
use Rattle.key_parts.specs.Moves.{SettlesUpTo}
use Rattle.key_slicer.proofs.Loops.{due_before, due_by_then, due_more, is_there, stands_for_one}
use Rattle.key_slicer.proofs.parts.Parts.settled_by.Goals as goal

pub loop-window-preserved : goal.loop-window-preserved
loop-window-preserved g c =
    let d = c.args.defs.now in
    let i = c.loop-window.window in
    let parts = c.args.self.now.list.items in
    let within : i < length parts = omega (arith, c.requires.key.4.stood.as_many) in
    let there = is_there parts i c.index.result.now within c.index.ensures in
    record {
      due = due_more (λ water j part. g.P.KeyPart.settles_at d j water part) d.lateness parts c.args.time i c.loop-window.due c.settled_by.result c.max-due.result c.index.result.now there c.max-due.ensures
          c.settled_by.ensures.before c.settled_by.ensures.by_then c.loop-window.invariant.due;
      settles = λ m n s w water le is all j x jl. ⊎_elim
          (λ e. subst (λ k. SettlesUpTo d.lateness (at_water (without_first n m) water) (window_at d k) (g.P.KeyPart.settles_at d k water (get_or parts k x))) (sym e)
          (subst (λ p. SettlesUpTo d.lateness (at_water (without_first n m) water) (window_at d i) (g.P.KeyPart.settles_at d i water p)) (there x)
          (c.settled_by.ensures.settles m n s w water le is (stands_for_one g.P.KeyPart.stands d w s parts m n i c.index.result.now within there all))))
          (λ ne. c.loop-window.invariant.settles m n s w water le is all j x (omega arith))
          (cases_eq j i);
    }

pub returns-clause-later : goal.returns-clause-later
returns-clause-later g c = omega (arith, c.loop-window.invariant.due.by_most c.loop-window.due (omega arith))

pub returns-clause-before : goal.returns-clause-before
returns-clause-before g c = λ water least l o.
    let d = c.args.defs.now in
    let parts = c.args.self.now.list.items in
    let all : c.loop-window.window ≡ length parts = omega (arith, c.requires.key.4.stood.as_many) in
    due_before (λ water i part. g.P.KeyPart.settles_at d i water part) d.lateness parts c.args.time c.loop-window.window c.loop-window.due water least all c.loop-window.invariant.due l o

pub returns-clause-by_then : goal.returns-clause-by_then
returns-clause-by_then g c = λ water least l o.
    let d = c.args.defs.now in
    let parts = c.args.self.now.list.items in
    let all : c.loop-window.window ≡ length parts = omega (arith, c.requires.key.4.stood.as_many) in
    due_by_then (λ water i part. g.P.KeyPart.settles_at d i water part) d.lateness parts c.args.time c.loop-window.window c.loop-window.due water least all c.loop-window.invariant.due l o

pub returns-clause-settles : goal.returns-clause-settles
returns-clause-settles g c = λ m n s w water le is all i x l. c.loop-window.invariant.settles m n s w water le is all i x (omega (arith, all.stood.as_many))
