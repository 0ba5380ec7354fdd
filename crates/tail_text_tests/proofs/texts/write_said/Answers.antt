-- There are as many lists as entries.
use Rattle.std.proofs.Common.{◌∙◌, [], ◌∷◌, ℕ, ap}
use Rattle.std.proofs.lemmas.List.{length-map}
use Rattle.tail_text_tests.proofs.texts.write_said.Goals as goal

pub write_tails-requires : goal.write_tails-requires
write_tails-requires g c = ap (λ (n : ℕ). n ∷ []) (length-map c.in_ok-tails.tails.items (λ v. v.items) ∙ c.in_ok-tails.ensures)
