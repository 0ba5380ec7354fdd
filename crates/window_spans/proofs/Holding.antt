-- Instances that a store holds, told one after another.
use Rattle.std.proofs.Common.{◌≡◌, ◌∙◌, ℕ, zero, suc, ◌+◌, ◌*◌, ◌<◌, ◌≤◌, List, [], ◌∷◌, ◌++◌, length, get_or, take, map, ap, sym, refl, arith, append_assoc}
use Rattle.stream_base.specs.declared.change.Change.{Change}
use Rattle.stream_base.specs.declared.change.Change.TheVariants.{New}
use Rattle.stream_base.specs.declared.func.Func.{Func}
use Rattle.stream_base.specs.Model.Changes.{row_of}
use Rattle.stream_base.specs.Model.Windows.{Instance}
use Rattle.agg_store.specs.Stored.{Stored}
use Rattle.window_spans.specs.declared.span.Span.{Span}
use Rattle.window_spans.specs.declared.standing.Standing.{Standing}
use Rattle.window_spans.specs.Held.{AreHeld, IsHeld}
use Rattle.window_spans.specs.Telling.{as_standing, row_for}
use Rattle.window_spans.proofs.Parts.{map_take_more, take_few}

abbrev no_instance : Instance
no_instance = record { low = 0; high = 0; bound = 0; chosen = [] }

pub held_length : (spans : List Span) (store : Stored) (is : List Instance) → AreHeld spans store is → length spans ≡ length is
held_length [] store [] h = refl
held_length [] store (i ∷ is) h = absurd h
held_length (s ∷ ss) store [] h = absurd h
held_length (s ∷ ss) store (i ∷ is) h = ap suc (held_length ss store is h.1)

held_at : (spans : List Span) (store : Stored) (is : List Instance) (k : ℕ) (d : Span) → AreHeld spans store is → k < length spans → IsHeld (get_or spans k d) store (get_or is k no_instance)
held_at [] store is k d h l = absurd (omega arith)
held_at (s ∷ ss) store [] k d h l = absurd h
held_at (s ∷ ss) store (i ∷ is) zero d h l = h.0
held_at (s ∷ ss) store (i ∷ is) (suc k) d h l = held_at ss store is k d h.1 (omega arith)

pub more_told : (window : ℕ) (key : List ℕ) (func : Func) (spans : List Span) (store : Stored) (is : List Instance) → AreHeld spans store is → (k : ℕ) → k < length spans → (before out pushed : List Change) (now : Standing)
    → out ≡ before ++ map (λ i. New (row_of window key func i)) (take k is)
    → pushed ≡ out ++ New (row_for window key now) ∷ []
    → ((i : Instance) → IsHeld (get_or spans k now.span) store i → now ≡ as_standing func i)
    → pushed ≡ before ++ map (λ i. New (row_of window key func i)) (take (k + 1) is)
more_told window key func spans store is h k l before out pushed now so_far push value =
    let it : now ≡ as_standing func (get_or is k no_instance) = value (get_or is k no_instance) (held_at spans store is k now.span h l) in
    let within : k < length is = omega (arith, held_length spans store is h) in
    push
    ∙ (λ j. so_far j ++ New (row_for window key (it j)) ∷ [])
    ∙ append_assoc before (map (λ i. New (row_of window key func i)) (take k is)) (New (row_of window key func (get_or is k no_instance)) ∷ [])
    ∙ ap (λ l. before ++ l) (sym (map_take_more (λ i. New (row_of window key func i)) is k no_instance within))

pub all_told : (spans : List Span) (store : Stored) (is : List Instance) → AreHeld spans store is → (k : ℕ) → length spans ≤ k → take k is ≡ is
all_told spans store is h k l = take_few k is (omega (arith, held_length spans store is h))

pub steps_more : (n k : ℕ) → n * (k + 1) ≡ n * k + n
steps_more n k = grind arith
