-- Small worked cases, computed by the checker.
use Rattle.std.proofs.Common.{◌≡◌, ◌-◌, ◌^◌, ℕ, List, [], ◌∷◌, None, Some, refl}
use Rattle.agg_laws.specs.Counters.{next_count}
use Rattle.agg_laws.specs.Pairs.{within, inserted, replaced, without, value_at, least_key}

-- a counter goes up by one, and stays at its end
counts : next_count 6 ≡ 7
counts = refl

stays : next_count (2 ^ 64 - 1) ≡ 2 ^ 64 - 1
stays = refl

three_pairs : List (ℕ × ℕ)
three_pairs = (5, 2) ∷ (7, 4) ∷ (10, 1) ∷ []

-- a range has its start and not its end
in_range : within 5 7 three_pairs ≡ (5, 2) ∷ []
unfolding three_pairs
in_range = refl

backwards : within 8 5 three_pairs ≡ []
unfolding three_pairs
backwards = refl

-- a new pair goes to its place
placed : inserted 8 9 three_pairs ≡ (5, 2) ∷ (7, 4) ∷ (8, 9) ∷ (10, 1) ∷ []
unfolding three_pairs
placed = refl

changed : replaced 7 9 three_pairs ≡ (5, 2) ∷ (7, 9) ∷ (10, 1) ∷ []
unfolding three_pairs
changed = refl

taken_out : without 7 three_pairs ≡ (5, 2) ∷ (10, 1) ∷ []
unfolding three_pairs
taken_out = refl

found : value_at 7 three_pairs ≡ Some 4
unfolding three_pairs
found = refl

not_found : value_at 8 three_pairs ≡ None
unfolding three_pairs
not_found = refl

first_of_three : least_key three_pairs ≡ Some 5
unfolding three_pairs
first_of_three = refl
