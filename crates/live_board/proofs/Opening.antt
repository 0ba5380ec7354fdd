-- Before the first entry nothing stands.
use Rattle.std.proofs.Common.{◌≡◌, ℕ, ◌+◌, zero, suc, [], ◌∷◌, length, map, ap₂, sym, refl, zero-le}
use Rattle.std.specs.Prelude.{replicate}
use Rattle.std.specs.List.{range_with_len}
use Rattle.stream_base.specs.Limits.{Definitions}
use Rattle.stream_base.specs.Model.Changes.{standing_rows}
use Rattle.stream_base.specs.Model.Journal.{keys_of}
use Rattle.model_laws.specs.Counts.{standing_count}
use Rattle.live_board.specs.Rule.{IsTallyIn}
use Rattle.live_board.specs.Tallies.{none_counted}
use Rattle.live_board.specs.declared.course.Course.{Course}

pub none_stands : (d : Definitions) (sources window : ℕ) → standing_count d sources [] window ≡ 0
unfolding standing_count standing_rows keys_of
none_stands d sources window = refl

none_of : (f : ℕ → ℕ) → ((w : ℕ) → f w ≡ 0) → (first n : ℕ) → map f (range_with_len first n) ≡ replicate n 0
none_of f zero_at first zero = refl
none_of f zero_at first (suc n) = ap₂ (λ x xs. x ∷ xs) (zero_at first) (none_of f zero_at (first + 1) n)

pub nothing_counted : (c : Course) → IsTallyIn c none_counted
nothing_counted c = record {
  within = zero-le;
  counts = sym (none_of (standing_count (c.defs).now (length (c.sources).now) []) (none_stands (c.defs).now (length (c.sources).now)) 0 32);
}
