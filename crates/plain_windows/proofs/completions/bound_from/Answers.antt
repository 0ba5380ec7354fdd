-- The least of such numbers is one for each of the windows, and that of one of them.
use Rattle.std.proofs.Common.{◌≡◌, ◌≤◌, ◌<◌, get_or, arith, sym, subst, ⊎_elim}
use Rattle.std.proofs.lemmas.Bool.{cases_lt}
use Rattle.std.proofs.lemmas.List.{get_or_default}
use Rattle.std.proofs.lemmas.List.Elements.{Contains-get_or}
use Rattle.stream_base.specs.declared.def.Def.{Def}
use Rattle.stream_base.specs.declared.kind.Kind.TheVariants.{Marks}
use Rattle.stream_base.specs.declared.func.Func.TheVariants.{Count}
use Rattle.plain_windows.specs.Changing.{BringsBound, BringsNoneBelow, KeepsBounds}
use Rattle.plain_windows.proofs.Ahead.{ahead_put, brings_less, due_put}
use Rattle.plain_windows.proofs.completions.bound_from.Goals as goal

pub loop-def-preserved : goal.loop-def-preserved
loop-def-preserved c =
    let windows = c.windows_of-windows.result.now in
    let n = c.loop-def.def-index in
    let least = c.least_of-least.result in
    let own = c.in_ok-bound_of.field-0 in
    let before : least ≤ c.loop-def.least = omega (arith, c.least_of-least.ensures) in
    let within : least ≤ own = omega (arith, c.least_of-least.ensures) in
    record {
      none_below = λ j d lt.
          ⊎_elim
          (λ early. brings_less (get_or windows j d).kind c.args.time c.loop-def.least least before (c.loop-def.invariant.none_below j d early))
          (λ late. let e : j ≡ n = omega arith in
          subst (λ k. BringsNoneBelow (get_or windows k d).kind c.args.time least) (sym e)
          (subst (λ (w : Def). BringsNoneBelow w.kind c.args.time least) (get_or_default windows n _ d c.loop-def-test.true)
          (brings_less _ c.args.time own least within c.in_ok-bound_of.ensures.none_below)))
          (cases_lt j n);
      stay = λ j d lt.
          ⊎_elim
          (λ early. c.loop-def.invariant.stay j d early)
          (λ late. let e : j ≡ n = omega arith in
          subst (λ k. KeepsBounds (get_or windows k d).kind) (sym e)
          (subst (λ (w : Def). KeepsBounds w.kind) (get_or_default windows n _ d c.loop-def-test.true) c.in_ok-bound_of.ensures.stay))
          (cases_lt j n);
      brought = λ final.
          ⊎_elim
          (λ (lt : c.loop-def.least < own).
          let same : c.loop-def.least ≡ least = omega (arith, c.least_of-least.ensures) in
          let old = c.loop-def.invariant.brought (omega (arith, same)) in
          (old.0, omega (arith, old.1), λ d. subst (BringsBound (get_or windows old.0 d).kind c.args.time) same (old.2 d)))
          (λ (le : own ≤ c.loop-def.least).
          let same : own ≡ least = omega (arith, c.least_of-least.ensures) in (
            n,
            omega arith,
            λ d. subst (BringsBound (get_or windows n d).kind c.args.time) same
                (subst (λ (w : Def). BringsBound w.kind c.args.time own) (get_or_default windows n _ d c.loop-def-test.true) c.in_ok-bound_of.ensures.brought),
          ))
          (cases_lt c.loop-def.least own);
    }

pub returns-clause-ahead : goal.returns-clause-ahead
returns-clause-ahead c =
    rw (← c.windows_of-windows.ensures.value)
    (ahead_put c.windows_of-windows.result.now c.args.time c.loop-def.least
    (λ def m. subst (λ (w : Def). BringsNoneBelow w.kind c.args.time c.loop-def.least) m.2 (c.loop-def.invariant.none_below m.0 def (omega (arith, m.1, c.loop-def-test.false)))))

pub returns-clause-due : goal.returns-clause-due
returns-clause-due c =
    let windows = c.windows_of-windows.result.now in
    rw (← c.windows_of-windows.ensures.value)
    (due_put windows c.args.time c.loop-def.least
    (λ def m. subst (λ (w : Def). BringsNoneBelow w.kind c.args.time c.loop-def.least) m.2 (c.loop-def.invariant.none_below m.0 def (omega (arith, m.1, c.loop-def-test.false))))
    (λ def m. subst (λ (w : Def). KeepsBounds w.kind) m.2 (c.loop-def.invariant.stay m.0 def (omega (arith, m.1, c.loop-def-test.false))))
    (λ final.
    let one = c.loop-def.invariant.brought final in
    let def : Def = record { kind = Marks; func = Count } in
    (get_or windows one.0 def, Contains-get_or windows one.0 def (omega (arith, one.1)), one.2 def)))
