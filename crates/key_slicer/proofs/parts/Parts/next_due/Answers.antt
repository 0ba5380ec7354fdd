-- A move to below the less of two numbers completes nothing of either's windows, and a move to it something of those of that number.
use Rattle.std.proofs.Common.{◌≡◌, ◌≤◌, ◌<◌, ◌+◌, [], ℕ, arith, length, subst, take, ⊎_elim}
use Rattle.std.specs.Prelude.{◌≢◌}
use Rattle.std.specs.List.{enumerate_from, flat_map}
use Rattle.std.proofs.lemmas.Bool.{cases_lt}
use Rattle.stream_base.specs.declared.def.Def.{Def}
use Rattle.stream_base.specs.declared.kind.Kind.TheVariants.{Marks}
use Rattle.stream_base.specs.declared.func.Func.TheVariants.{Count}
use Rattle.stream_base.specs.Laws.{completions}
use Rattle.key_slicer.proofs.Loops.{is_there, none_all, none_more, some_all, some_here, some_more, stands_for_one}
use Rattle.key_slicer.proofs.parts.Parts.next_due.Goals as goal

pub loop-window-preserved : goal.loop-window-preserved
loop-window-preserved g c =
    let d = c.args.defs.now in
    let i = c.loop-window.window in
    let parts = c.args.self.now.list.items in
    let def : Def = record { kind = Marks; func = Count } in
    let before = c.loop-window.due in
    let here = c.next_due.result in
    let least = c.min-due.result in
    record {
      none_before = λ key m n new all rises below.
          let within : i < length parts = omega (arith, all.stood.as_many) in
          let so_far : new < before = omega (arith, c.min-due.ensures) in
          let one : new < here = omega (arith, c.min-due.ensures) in
          none_more (completions key m new) d.windows i def (omega (arith, all.stood.as_many)) (c.loop-window.invariant.none_before key m n new all rises so_far)
          (c.next_due.ensures.none_before key m n new (stands_for_one g.P.KeyPart.stands d c.args.water c.args.store.now parts m n i c.index.result.now within (is_there parts i c.index.result.now within c.index.ensures) all) rises one);
      some_at = λ key m n all final.
          let within : i < length parts = omega (arith, all.stood.as_many) in
          let numbered : i < length d.windows = omega (arith, all.stood.as_many) in
          let some = λ (due : ℕ). flat_map (completions key m due) (enumerate_from 0 (take (i + 1) d.windows)) ≢ [] in
          ⊎_elim
          (λ (lt : before < here).
          let same : before ≡ least = omega (arith, c.min-due.ensures) in
          let at = c.loop-window.invariant.some_at key m n all (omega (arith, same, final)) in
          (omega (arith, at.0, same), subst some same (some_more (completions key m before) d.windows i def numbered at.1)))
          (λ (le : here ≤ before).
          let same : here ≡ least = omega (arith, c.min-due.ensures) in
          let at = c.next_due.ensures.some_at key m n (stands_for_one g.P.KeyPart.stands d c.args.water c.args.store.now parts m n i c.index.result.now within (is_there parts i c.index.result.now within c.index.ensures) all) (omega (arith, same, final)) in
          (omega (arith, at.0, same), subst some same (some_here (completions key m here) d.windows i def numbered at.1)))
          (cases_lt before here);
    }

pub returns-clause-none_before : goal.returns-clause-none_before
returns-clause-none_before g c = λ key m n new all rises below.
    none_all (completions key m new) c.args.defs.now.windows c.loop-window.window (omega arith) (c.loop-window.invariant.none_before key m n new all rises below)

pub returns-clause-some_at : goal.returns-clause-some_at
returns-clause-some_at g c = λ key m n all final.
    let at = c.loop-window.invariant.some_at key m n all final in
    (at.0, some_all (completions key m c.loop-window.due) c.args.defs.now.windows c.loop-window.window (omega arith) at.1)
