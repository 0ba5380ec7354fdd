use Rattle.std.proofs.Common.{arith}
use Rattle.std.proofs.lemmas.Grind.{common_steps}
use Rattle.command_words.proofs.WordFacts.{never_within, not_within}
use Rattle.command_words.proofs.words.number_within.Goals as goal
use Rattle.command_words.proofs.words.number_within.Goals.{else-is_spelled-via-then-is_spelled+then-least-number+else-number-most, else-is_spelled-via-then-is_spelled+else-least-number, else-is_spelled-via-else-is_spelled}

pub returns-else-is_spelled-clause-none : goal.returns-else-is_spelled-clause-none
returns-else-is_spelled-clause-none c =
    not_within c.args.least c.args.most c.args.word.now c.parse.result c.in-Ok.number (omega arith) c.parse.ensures.value.0 c.in-Ok.is
    (λ spelled low high. elim c.else-is_spelled.branch [
      | else-is_spelled-via-then-is_spelled+then-least-number+else-number-most w ↦ grind (arith, common_steps)
      | else-is_spelled-via-then-is_spelled+else-least-number w ↦ grind (arith, common_steps)
      | else-is_spelled-via-else-is_spelled w ↦ grind (arith, common_steps)
    ])

pub returns-in-Err-clause-none : goal.returns-in-Err-clause-none
returns-in-Err-clause-none c = never_within c.args.least c.args.most c.args.word.now c.parse.result _ (omega arith) c.parse.ensures.value.0 c.in-Err.is
