use Rattle.std.proofs.Common.{◌≡◌, ℕ, ◌<◌, List, [], ◌∷◌, length, ap, arith}
use Rattle.stream_base.specs.declared.entry.Entry.{Entry}
use Rattle.stream_base.specs.declared.what.What.TheVariants.{Water}
use Rattle.stream_base.specs.Examples.{from, water}
use Rattle.stream_base.specs.Model.What.{water_time}
use Rattle.model_examples.proofs.routes.unlawful_journals.Goals as goal

none_or_one : (xs : List Entry) (e : Entry) → xs ≡ [] → xs ≡ e ∷ [] → ⊥
none_or_one xs e none one = let zero_long : length xs ≡ 0 = ap length none in let one_long : length xs ≡ 1 = ap length one in absurd (omega arith)

one_or_two : (e f g : Entry) → e ∷ [] ≡ f ∷ g ∷ [] → ⊥
one_or_two e f g both = let long : length (e ∷ []) ≡ length (f ∷ g ∷ []) = ap length both in absurd (omega arith)

-- the time of the first watermark
abbrev first_water : List Entry → ℕ
first_water [] = 0
first_water (e ∷ es) = water_time e.what

swapped : water 7 ∷ water 5 ∷ [] ≡ water 5 ∷ water 7 ∷ [] → ⊥
swapped both = let first : first_water (water 7 ∷ water 5 ∷ []) ≡ first_water (water 5 ∷ water 7 ∷ []) = ap first_water both in absurd (omega arith)

pub returns-clause-repeated : goal.returns-clause-repeated
returns-clause-repeated c = λ lawful. one_or_two (water 5) (water 5) (water 5) (lawful.held 0 0 (omega arith) (omega arith))

pub returns-clause-of_no_source : goal.returns-clause-of_no_source
returns-clause-of_no_source c = λ lawful. let below : 1 < 1 = lawful.known 0 1 (water 5) (omega arith) (omega arith) in absurd (omega arith)

pub returns-clause-never_told : goal.returns-clause-never_told
returns-clause-never_told c = λ lawful. none_or_one (water 5 ∷ []) (water 5) (lawful.held 0 0 (omega arith) (omega arith)) (λ i. water 5 ∷ [])

pub returns-clause-missing : goal.returns-clause-missing
returns-clause-missing c = λ lawful. none_or_one [] (water 5) (λ i. []) (lawful.held 1 0 (omega arith) (omega arith))

pub returns-clause-swapped : goal.returns-clause-swapped
returns-clause-swapped c = λ lawful. swapped (lawful.held 0 0 (omega arith) (omega arith))

pub returns-clause-last_source : goal.returns-clause-last_source
returns-clause-last_source c = λ lawful. none_or_one [] (from 1 (Water 7)) (λ i. []) (lawful.held 0 1 (omega arith) (omega arith))

abbrev one_journal : List (List Entry)
one_journal = [] ∷ []

pub returns-clause-too_few : goal.returns-clause-too_few
returns-clause-too_few c = λ lawful. let few : length one_journal ≡ 2 = lawful.count in absurd (omega arith)

abbrev two_journals : List (List Entry)
two_journals = [] ∷ [] ∷ []

pub returns-clause-too_many : goal.returns-clause-too_many
returns-clause-too_many c = λ lawful. let many : length two_journals ≡ 1 = lawful.count in absurd (omega arith)
