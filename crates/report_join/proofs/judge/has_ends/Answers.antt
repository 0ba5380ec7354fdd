-- Both ends are there.
use Rattle.std.proofs.Common.{◌∙◌, sym}
use Rattle.std.proofs.lemmas.Bool.{false≢true}
use Rattle.report_join.proofs.judge.has_ends.Goals as goal

pub returns-then-begun : goal.returns-then-begun
returns-then-begun c = (
  λ t. let b = c.begins-begun.ensures.0 c.if-begun.true in let e = c.ends-ended.ensures.0 t in record { later = b.0; begins = b.1; before = e.0; ends = e.1 },
  λ h. c.ends-ended.ensures.1 (h.before, h.ends),
)

pub returns-else-begun : goal.returns-else-begun
returns-else-begun c = (λ t. absurd (false≢true (sym c.if-begun.false ∙ t)), λ h. c.begins-begun.ensures.1 (h.later, h.begins))
