-- Definitions are equal where their windows and their numbers are.
use Rattle.std.proofs.Common.{◌≡◌, ◌∙◌, ◌↔◌, ℕ, IsTrue, Bool, subst, sym}
use Rattle.std.proofs.lemmas.Bool.{false≢true}
use Rattle.stream_base.specs.Limits.{Definitions}
use Rattle.part_text.specs.DefinitionsText.{HasNumbers}
use Rattle.part_text.proofs.DefinitionsTold.{definitions_told, told_numbers, told_windows}
use Rattle.part_text.proofs.defs_text.are_of_parts.Goals as goal

numbers_seen : (read d : Definitions) (lateness disorder : ℕ) (r : Bool) → lateness ≡ d.lateness → disorder ≡ d.disorder → IsTrue r ↔ HasNumbers lateness 0 disorder read → IsTrue r ↔ HasNumbers d.lateness 0 d.disorder read
numbers_seen read d lateness disorder r a b h = subst (λ l. IsTrue r ↔ HasNumbers l 0 d.disorder read) a (subst (λ n. IsTrue r ↔ HasNumbers lateness 0 n read) b h)

pub returns-then-windows : goal.returns-then-windows
returns-then-windows c =
    let read = c.args.read.now in
    let d = c.args.defs.now in
    let tested = c.has_numbers-numbers in
    let numbers : IsTrue tested.result ↔ HasNumbers d.lateness 0 d.disorder read
    = numbers_seen read d c.lateness.result c.disorder.result tested.result c.lateness.ensures.value c.disorder.ensures.value tested.ensures in
    let windows : read.windows ≡ d.windows = c.have_same_windows-windows.ensures.0 c.if-windows.true in
    (λ t. definitions_told read d windows (numbers.0 t), λ is. numbers.1 (told_numbers read d is))

pub returns-else-windows : goal.returns-else-windows
returns-else-windows c =
    (λ t. absurd (false≢true (sym c.if-windows.false ∙ t)), λ is. c.have_same_windows-windows.ensures.1 (told_windows c.args.read.now c.args.defs.now is))
