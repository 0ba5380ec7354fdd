use Rattle.std.proofs.Common.{◌≡◌, ℕ, zero, suc, ◌<◌, [], ◌∷◌, length, get_or, refl, arith}
use Rattle.stream_base.specs.declared.entry.Entry.{Entry}
use Rattle.stream_base.specs.declared.what.What.TheVariants.{Water, End}
use Rattle.stream_base.specs.Examples.{end, from, one_source, one_source_by_shard, water}
use Rattle.stream_base.specs.Model.Routes.{entries_from, routed}
use Rattle.model_laws.proofs.Lawful.{all_below}
use Rattle.model_examples.proofs.routes.lawful_journals.Goals as goal

known_by_shard : (k i : ℕ) (e : Entry) → k < 2 → i < length (get_or one_source_by_shard k []) → (get_or (get_or one_source_by_shard k []) i e).source < 1
known_by_shard zero i e one two = all_below 1 (get_or one_source_by_shard 0 []) refl i e two
known_by_shard (suc zero) i e one two = all_below 1 (get_or one_source_by_shard 1 []) refl i e two
known_by_shard (suc (suc k)) i e one two = absurd (omega arith)

held_by_shard : (k s : ℕ) → k < 2 → s < 1 → entries_from s (get_or one_source_by_shard k []) ≡ routed 2 k (get_or (one_source ∷ []) s [])
held_by_shard zero zero one two = refl
held_by_shard (suc zero) zero one two = refl
held_by_shard (suc (suc k)) zero one two = absurd (omega arith)
held_by_shard k (suc s) one two = absurd (omega arith)

pub returns-clause-two_shards : goal.returns-clause-two_shards
returns-clause-two_shards c = record { count = refl; known = known_by_shard; held = held_by_shard }

known_in_one : (k i : ℕ) (e : Entry) → k < 1 → i < length (get_or ((from 1 (Water 7) ∷ water 5 ∷ end ∷ from 1 End ∷ []) ∷ []) k []) → (get_or (get_or ((from 1 (Water 7) ∷ water 5 ∷ end ∷ from 1 End ∷ []) ∷ []) k []) i e).source < 2
known_in_one zero i e one two = all_below 2 (from 1 (Water 7) ∷ water 5 ∷ end ∷ from 1 End ∷ []) refl i e two
known_in_one (suc k) i e one two = absurd (omega arith)

held_in_one : (k s : ℕ) → k < 1 → s < 2 → entries_from s (get_or ((from 1 (Water 7) ∷ water 5 ∷ end ∷ from 1 End ∷ []) ∷ []) k []) ≡ routed 1 k (get_or ((water 5 ∷ end ∷ []) ∷ (from 1 (Water 7) ∷ from 1 End ∷ []) ∷ []) s [])
held_in_one zero zero one two = refl
held_in_one zero (suc zero) one two = refl
held_in_one (suc k) s one two = absurd (omega arith)
held_in_one zero (suc (suc s)) one two = absurd (omega arith)

pub returns-clause-two_sources : goal.returns-clause-two_sources
returns-clause-two_sources c = record { count = refl; known = known_in_one; held = held_in_one }
