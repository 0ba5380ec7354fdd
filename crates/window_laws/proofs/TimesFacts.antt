-- Which instances a window has depends on the times of the tuples alone.
use Rattle.std.proofs.Common.{◌≡◌, ◌∙◌, ℕ, ◌+◌, ◌-◌, ◌*◌, ◌/◌, Bool, true, false, cond, List, [], ◌∷◌, ◌++◌, length, take, drop, map, ap, sym, refl}
use Rattle.std.specs.Prelude.{◌&&◌, nat_le, nat_lt}
use Rattle.std.specs.List.{filter, flat_map, range_with_len}
use Rattle.std.specs.Ordering.{nat_cmp}
use Rattle.std.proofs.lemmas.List.{drop-map, length-map, take-map}
use Rattle.stream_base.specs.declared.limits.TheConstants.{FINAL}
use Rattle.stream_base.specs.declared.kept.Kept.{Kept}
use Rattle.stream_base.specs.Model.Journal.{rising}
use Rattle.stream_base.specs.Model.Windows.{Instance, between_times, counted, first_time, glued, interval, is_selecting, is_within, last_time, pieces_of, ranks, session, sessions, spans, starts_holding, starts_of, stretches, within}
use Rattle.stream_base.proofs.Members.{filter_map_of, filter_same, map_same}
use Rattle.window_laws.specs.Instances.{with_each}

pub map_map : {X Y Z : Type 0} (g : Y → Z) (f : X → Y) (xs : List X) → map g (map f xs) ≡ map (λ x. g (f x)) xs
map_map g f [] = refl
map_map g f (x ∷ xs) = ap (λ l. g (f x) ∷ l) (map_map g f xs)

module _ (r : Kept → Kept) (keeps : (x : Kept) → (r x).time ≡ x.time) where
  flat_times : {Y : Type 0} (f : ℕ → List Y) (kept : List Kept) → flat_map (λ x. f x.time) (map r kept) ≡ flat_map (λ x. f x.time) kept
  flat_times f [] = refl
  flat_times f (x ∷ xs) = λ i. f (keeps x i) ++ flat_times f xs i

  within_each : (low high : ℕ) (kept : List Kept) → within low high (map r kept) ≡ map r (within low high kept)
  within_each low high kept =
      filter_map_of (is_within low high) r kept
      ∙ ap (map r) (filter_same (λ x. is_within low high (r x)) (is_within low high) kept (λ x c. λ i. nat_le low (keeps x i) && nat_lt (keeps x i) high))

  interval_each : (low high : ℕ) (kept : List Kept) → interval low high (map r kept) ≡ with_each r (interval low high kept)
  interval_each low high kept = λ i. record { low = low; high = high; bound = high; chosen = within_each low high kept i }

  pub spans_each : (length slide : ℕ) (kept : List Kept) → spans length slide (map r kept) ≡ map (with_each r) (spans length slide kept)
  spans_each length slide kept =
      ap (map (λ low. interval low (low + length) (map r kept))) (ap (rising nat_cmp) (flat_times (starts_holding length slide) kept))
      ∙ map_same (λ low. interval low (low + length) (map r kept)) (λ low. with_each r (interval low (low + length) kept)) (starts_of length slide kept) (λ low c. interval_each low (low + length) kept)
      ∙ sym (map_map (with_each r) (λ low. interval low (low + length) kept) (starts_of length slide kept))

  first_each : (run : List Kept) → first_time (map r run) ≡ first_time run
  first_each [] = refl
  first_each (x ∷ xs) = keeps x

  last_each : (run : List Kept) → last_time (map r run) ≡ last_time run
  last_each [] = refl
  last_each (x ∷ []) = keeps x
  last_each (x ∷ y ∷ ys) = last_each (y ∷ ys)

  session_each : (gap : ℕ) (run : List Kept) → session gap (map r run) ≡ with_each r (session gap run)
  session_each gap run = λ i. record { low = first_each run i; high = last_each run i + gap; bound = last_each run i + gap; chosen = map r run }

  module _ (cut : ℕ → ℕ → Bool) where
    abbrev by_cut : Kept → Kept → Bool
    by_cut x y = cut x.time y.time

    glued_each : (x : Kept) (pieces : List (List Kept)) → glued by_cut (r x) (map (map r) pieces) ≡ map (map r) (glued by_cut x pieces)
    glued_each x [] = refl
    glued_each x ([] ∷ pieces) = refl
    glued_each x ((y ∷ ys) ∷ pieces) =
        (λ i. cond (cut (keeps x i) (keeps y i)) ((r x ∷ []) ∷ (r y ∷ map r ys) ∷ map (map r) pieces) ((r x ∷ r y ∷ map r ys) ∷ map (map r) pieces))
        ∙ by (cut x.time y.time)
      where
        by : (b : Bool) → cond b ((r x ∷ []) ∷ (r y ∷ map r ys) ∷ map (map r) pieces) ((r x ∷ r y ∷ map r ys) ∷ map (map r) pieces) ≡ map (map r) (cond b ((x ∷ []) ∷ (y ∷ ys) ∷ pieces) ((x ∷ y ∷ ys) ∷ pieces))
        by true = refl
        by false = refl

    pub pieces_each : (kept : List Kept) → pieces_of by_cut (map r kept) ≡ map (map r) (pieces_of by_cut kept)
    pieces_each [] = refl
    pieces_each (x ∷ xs) = ap (glued by_cut (r x)) (pieces_each xs) ∙ glued_each x (pieces_of by_cut xs)

  pub sessions_each : (gap : ℕ) (kept : List Kept) → sessions gap (map r kept) ≡ map (with_each r) (sessions gap kept)
  sessions_each gap kept =
      ap (map (session gap)) (pieces_each (λ a b. nat_le gap (b - a)) kept)
      ∙ map_map (session gap) (map r) runs
      ∙ map_same (λ run. session gap (map r run)) (λ run. with_each r (session gap run)) runs (λ run c. session_each gap run)
      ∙ sym (map_map (with_each r) (session gap) runs)
    where
      runs : List (List Kept)
      runs = pieces_of (λ x y. nat_le gap (y.time - x.time)) kept

  between_each : (times : List ℕ) (kept : List Kept) → between_times times (map r kept) ≡ map (with_each r) (between_times times kept)
  between_each [] kept = refl
  between_each (a ∷ []) kept = refl
  between_each (a ∷ b ∷ times) kept = λ i. interval_each a b kept i ∷ between_each (b ∷ times) kept i

  pub stretches_each : (marks : List ℕ) (kept : List Kept) → stretches marks (map r kept) ≡ map (with_each r) (stretches marks kept)
  stretches_each marks kept =
      ap (filter is_selecting) (between_each (rising nat_cmp (0 ∷ marks ++ FINAL ∷ [])) kept)
      ∙ filter_map_of is_selecting (with_each r) all
      ∙ ap (map (with_each r)) (filter_same (λ i. is_selecting (with_each r i)) is_selecting all (λ i c. ap (nat_lt 0) (length-map i.chosen r)))
    where
      all : List Instance
      all = between_times (rising nat_cmp (0 ∷ marks ++ FINAL ∷ [])) kept

  ranks_each : (count : ℕ) (kept : List Kept) (n : ℕ) → ranks count (map r kept) n ≡ with_each r (ranks count kept n)
  ranks_each count kept n =
      let e : take count (drop (n * count) (map r kept)) ≡ map r (take count (drop (n * count) kept)) = ap (take count) (drop-map r (n * count) kept) ∙ take-map r count (drop (n * count) kept) in
      let l : last_time (take count (drop (n * count) (map r kept))) ≡ last_time (take count (drop (n * count) kept)) = ap last_time e ∙ last_each (take count (drop (n * count) kept)) in
      λ i. record { low = n * count; high = (n + 1) * count; bound = l i; chosen = e i }

  pub counted_each : (count : ℕ) (kept : List Kept) → counted count (map r kept) ≡ map (with_each r) (counted count kept)
  counted_each count kept =
      ap (λ n. map (ranks count (map r kept)) (range_with_len 0 (n / count))) (length-map kept r)
      ∙ map_same (ranks count (map r kept)) (λ n. with_each r (ranks count kept n)) (range_with_len 0 (length kept / count)) (λ n c. ranks_each count kept n)
      ∙ sym (map_map (with_each r) (ranks count kept) (range_with_len 0 (length kept / count)))
