use Rattle.std.proofs.Common.{sym, ap, subst, ◌∙◌}
use Rattle.fan_in.specs.Owning.{OwnsAfter, entries_in}
use Rattle.fan_in.proofs.Settled.{rest_more}
use Rattle.fan_in.proofs.mail.settling.apply_rest.Goals as goal

pub left-preserved : goal.left-preserved
left-preserved g c =
    let got = c.in-Some-next.ensures.some in (
      tt,
      tt,
      ap (λ s. s.sent) got.2 ∙ c.left.invariant.2,
      λ d n k a. rest_more d n k c.left.settled _ c.in-Some-next.message _ got (c.take_in.ensures.after d n k _ (c.left.invariant.3 d n k a)),
    )

pub returns-in-None-next-clause-after : goal.returns-in-None-next-clause-after
returns-in-None-next-clause-after g c d n k a = subst (λ s. OwnsAfter d n k (entries_in s.taken) c.left.owner) (sym c.in-None-next.ensures.none) (c.left.invariant.3 d n k a)
