-- No session starts between the last tuple before the time and the end of its session.
use Rattle.std.proofs.Common.{◌≡◌, ◌-◌, suc, take, drop, subst, sym, arith}
use Rattle.stream_base.specs.Places.{IsPlaceOf}
use Rattle.stream_base.specs.declared.kept.Kept.{Kept}
use Rattle.plain_windows.proofs.RunFacts.{sessions_behind}
use Rattle.plain_windows.proofs.sessions.start_behind.Goals as goal

pub returns-clause-none_between : goal.returns-clause-none_between
returns-clause-none_between c from at =
    let kept = c.args.kept.now in
    let last = c.args.place - 1 in
    let place : suc last ≡ c.args.place = omega arith in
    sessions_behind c.args.gap from kept last c.end_of.result (take (c.end_of.result - last) (drop last kept)) (omega arith)
    (subst (λ n. IsPlaceOf (λ (x : Kept). x.time) kept from n) (sym place) at) c.end_of.ensures.run
