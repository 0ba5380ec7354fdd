use Rattle.std.proofs.Common.{rules, ◌≡◌, length, string_bytes}
use Rattle.command_words.specs.Words.{IsName}
use Rattle.command_words.proofs.WordFacts.{names_told}
use Rattle.std.proofs.lemmas.Iterator.{cases_from_all, YieldsList-from_slice}
use borrow.Author.Tests.{tests}
use Rattle.command_words.proofs.words.are_names.Goals as goal

pub returns : goal.returns
returns c = names_told string_bytes c.args.words.now c.all.result (cases_from_all _ _ _ (λ x. IsName (string_bytes x)) (λ x. length (string_bytes x) ≡ 0) c.all.ensures.ran (YieldsList-from_slice c.args.words.now cc) (λ x q k. search (rules, tests)) (λ x q k. search (rules, tests)))
