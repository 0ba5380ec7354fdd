-- Definitions by their windows and their numbers.
use Rattle.std.proofs.Common.{◌≡◌, ◌∙◌, ◌↔◌, Bool, IsTrue, List, ap, sym}
use Rattle.stream_base.specs.declared.def.Def.{Def}
use Rattle.stream_base.specs.Limits.{Definitions}
use Rattle.part_laws.specs.Joined.{part_definitions}
use Rattle.part_text.specs.DefinitionsText.{HasNumbers}

pub definitions_told : (read d : Definitions) → read.windows ≡ d.windows → HasNumbers d.lateness 0 d.disorder read → read ≡ part_definitions d
definitions_told read d windows numbers = λ i. record {
  windows = windows i;
  lateness = numbers.lateness_is i;
  every = numbers.every_is i;
  disorder = numbers.disorder_is i;
}

pub told_numbers : (read d : Definitions) → read ≡ part_definitions d → HasNumbers d.lateness 0 d.disorder read
told_numbers read d is = record {
  lateness_is = ap (λ (x : Definitions). x.lateness) is;
  every_is = ap (λ (x : Definitions). x.every) is;
  disorder_is = ap (λ (x : Definitions). x.disorder) is;
}

pub told_windows : (read d : Definitions) → read ≡ part_definitions d → read.windows ≡ d.windows
told_windows read d is = ap (λ (x : Definitions). x.windows) is

-- whether lists of windows are the same, by lists that are equal to them
pub same_along : (a b c d : List Def) (r : Bool) → a ≡ c → b ≡ d → IsTrue r ↔ (a ≡ b) → IsTrue r ↔ (c ≡ d)
same_along a b c d r p q (h, k) = (λ t. sym p ∙ h t ∙ q, λ e. k (p ∙ e ∙ sym q))
