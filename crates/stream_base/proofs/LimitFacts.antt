-- Definitions that pass no limit are within their limits.
use Rattle.std.proofs.Common.{◌≡◌, ◌≤◌, ◌<◌, ℕ, ltb, Bool, true, false, cond, not, List, length, None, Some, get_or, arith, refl}
use Rattle.std.proofs.lemmas.Bool.Decides.{nat_tests}
use Rattle.std.proofs.lemmas.List.Sums.{prefix_len_passes}
use Rattle.std.specs.List.{All, position, position_or_len}
use Rattle.stream_base.specs.declared.def.Def.{Def}
use Rattle.stream_base.specs.Limits.{is_beyond}
use Rattle.stream_base.specs.Kinds.{IsKindWithin, is_kind_within}
use Rattle.stream_base.proofs.KindFacts.{kind_within}

past : (m n : ℕ) → cond (ltb m n) (Some m) None ≡ None → n ≤ m
past m n h = grind (arith, nat_tests)

untrue : (b : Bool) → not b ≡ true → b ≡ false
untrue true h = cc
untrue false h = refl

-- where the first place that passes is the end, none passes
none_passes : {X : Type 0} (p : X → Bool) (xs : List X) → position p xs ≡ None → (k : ℕ) (d : X) → k < length xs → p (get_or xs k d) ≡ false
none_passes p xs h k d l =
    let reached : length xs ≤ position_or_len p xs = past (position_or_len p xs) (length xs) h in
    let passed : not (p (get_or xs k d)) ≡ true = prefix_len_passes (λ x. not (p x)) xs k d (omega arith) in
    untrue (p (get_or xs k d)) passed

pub kinds_within : (ws : List Def) → position is_beyond ws ≡ None → All (λ w. IsKindWithin w.kind) ws
kinds_within ws h k d l =
    let p : is_beyond (get_or ws k d) ≡ false = none_passes is_beyond ws h k d l in
    let q : is_kind_within ((get_or ws k d).kind) ≡ true = grind arith in
    kind_within ((get_or ws k d).kind) q
