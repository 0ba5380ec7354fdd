-- Of these kinds the instances are intervals.
use Rattle.std.proofs.Common.{sym, subst}
use Rattle.stream_base.specs.declared.kind.Kind.{Kind}
use Rattle.stream_base.specs.Model.Windows.{instances_of}
use Rattle.plain_windows.specs.Changing.{BringsBound, BringsNoneBelow, KeepsBounds}
use Rattle.plain_windows.proofs.kinds.bound_of.Goals as goal

pub returns-in-Tumbling-clause-none_below : goal.returns-in-Tumbling-clause-none_below
unfolding instances_of
returns-in-Tumbling-clause-none_below c =
    rw (← c.window.view_is)
    (subst (λ (k : Kind). BringsNoneBelow k c.args.at.time c.bound_holding.result) (sym c.in-Tumbling.is)
    (λ kept marks. c.bound_holding.ensures.none_below kept))

pub returns-in-Tumbling-clause-brought : goal.returns-in-Tumbling-clause-brought
unfolding instances_of
returns-in-Tumbling-clause-brought c =
    rw (← c.window.view_is)
    (subst (λ (k : Kind). BringsBound k c.args.at.time c.bound_holding.result) (sym c.in-Tumbling.is)
    (record { later = c.bound_holding.ensures.later; brought = λ kept marks. c.bound_holding.ensures.brought kept }))

pub returns-in-Tumbling-clause-stay : goal.returns-in-Tumbling-clause-stay
unfolding instances_of
returns-in-Tumbling-clause-stay c =
    rw (← c.window.view_is)
    (subst KeepsBounds (sym c.in-Tumbling.is) (λ kept marks. c.bound_holding.ensures.stay kept))

pub returns-in-Sliding-clause-none_below : goal.returns-in-Sliding-clause-none_below
unfolding instances_of
returns-in-Sliding-clause-none_below c =
    rw (← c.window.view_is)
    (subst (λ (k : Kind). BringsNoneBelow k c.args.at.time c.bound_holding-in-Sliding.result) (sym c.in-Sliding.is)
    (λ kept marks. c.bound_holding-in-Sliding.ensures.none_below kept))

pub returns-in-Sliding-clause-brought : goal.returns-in-Sliding-clause-brought
unfolding instances_of
returns-in-Sliding-clause-brought c =
    rw (← c.window.view_is)
    (subst (λ (k : Kind). BringsBound k c.args.at.time c.bound_holding-in-Sliding.result) (sym c.in-Sliding.is)
    (record { later = c.bound_holding-in-Sliding.ensures.later; brought = λ kept marks. c.bound_holding-in-Sliding.ensures.brought kept }))

pub returns-in-Sliding-clause-stay : goal.returns-in-Sliding-clause-stay
unfolding instances_of
returns-in-Sliding-clause-stay c =
    rw (← c.window.view_is)
    (subst KeepsBounds (sym c.in-Sliding.is) (λ kept marks. c.bound_holding-in-Sliding.ensures.stay kept))
