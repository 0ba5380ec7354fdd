-- What the values from one place up to another come to.
use Rattle.std.proofs.Common.{◌≡◌, ◌≤◌, ◌<◌, ◌+◌, ℕ, List, [], ◌∷◌, ◌++◌, length, get_or, take, drop, sym, ap, ◌∙◌, arith}
use Rattle.std.specs.List.{All}
use Rattle.std.proofs.lemmas.List.{take-append-drop, drop-append-le, take-take, take_more, take_all, drop_all, length-take-le}
use Rattle.std.proofs.lemmas.List.Elements.{All-take, All-drop, All-get_or}
use Rattle.agg_laws.specs.Laws.{MonoidLaws, total}
use Rattle.agg_laws.proofs.Totals.{total-append, total_one}
use Rattle.agg_queue.specs.Ranges.{total_within}

-- a list up to a place is the part up to an earlier place and the part between
take_in_two : {M : Type 0} (values : List M) (mid to : ℕ) → mid ≤ to → take to values ≡ take mid values ++ drop mid (take to values)
take_in_two values mid to le =
    sym (ap (λ xs. xs ++ drop mid (take to values)) (sym (take-take mid to values le)) ∙ take-append-drop mid (take to values))

-- the part between two places is in two at a place between them
between_in_two : {M : Type 0} (values : List M) (from mid to : ℕ) → from ≤ mid → mid ≤ to → to ≤ length values → drop from (take to values) ≡ drop from (take mid values) ++ drop mid (take to values)
between_in_two values from mid to low high within =
    let long : from ≤ length (take mid values) = let e : length (take mid values) ≡ mid = length-take-le mid values (omega arith) in omega arith in
    ap (λ xs. drop from xs) (take_in_two values mid to high) ∙ drop-append-le from (take mid values) (drop mid (take to values)) long

-- up to the end these are all the later values
pub total_within-all : {M : Type 0} (empty : M) (op : M → M → M) (values : List M) (to : ℕ) → length values ≤ to → total_within empty op values 0 to ≡ total empty op values
total_within-all empty op values to le = ap (λ xs. total empty op xs) (take_all to values le)

module _ {M : Type 0} {IsValue : M → Type 0} {empty : M} {op : M → M → M} (laws : MonoidLaws IsValue empty op) where
  -- a range in two parts
  pub total_within-split : (values : List M) (from mid to : ℕ) → All IsValue values → from ≤ mid → mid ≤ to → to ≤ length values → op (total_within empty op values from mid) (total_within empty op values mid to) ≡ total_within empty op values from to
  total_within-split values from mid to h low high within =
      sym (ap (λ xs. total empty op xs) (between_in_two values from mid to low high within) ∙ total-append laws (drop from (take mid values)) (drop mid (take to values)) (All-drop IsValue from (take mid values) (All-take IsValue mid values h)) (All-drop IsValue mid (take to values) (All-take IsValue to values h)))

  -- a range of one value
  pub total_within-one : (values : List M) (i : ℕ) → All IsValue values → i < length values → total_within empty op values i (i + 1) ≡ get_or values i empty
  total_within-one values i h lt =
      let here : length (take i values) ≡ i = length-take-le i values (omega arith) in
      let from_here : drop i (take i values ++ get_or values i empty ∷ []) ≡ get_or values i empty ∷ [] =
      drop-append-le i (take i values) (get_or values i empty ∷ []) (omega arith) ∙ ap (λ xs. xs ++ get_or values i empty ∷ []) (drop_all i (take i values) (omega arith)) in
      ap (λ xs. total empty op (drop i xs)) (take_more values i empty lt) ∙ ap (λ xs. total empty op xs) from_here ∙ total_one laws (get_or values i empty) (All-get_or IsValue values i empty lt h)

  -- a range with one value more in front
  pub total_within-earlier : (values : List M) (i to : ℕ) → All IsValue values → i < to → to ≤ length values → op (get_or values i empty) (total_within empty op values (i + 1) to) ≡ total_within empty op values i to
  total_within-earlier values i to h lt within =
      ap (λ a. op a (total_within empty op values (i + 1) to)) (sym (total_within-one values i h (omega arith))) ∙ total_within-split values i (i + 1) to h (omega arith) (omega arith) within

  -- a range in three parts
  pub total_within-three : (values : List M) (from low high to : ℕ) → All IsValue values → from ≤ low → low ≤ high → high ≤ to → to ≤ length values → op (op (total_within empty op values from low) (total_within empty op values low high)) (total_within empty op values high to) ≡ total_within empty op values from to
  total_within-three values from low high to h first second third within =
      ap (λ a. op a (total_within empty op values high to)) (total_within-split values from low high h first second (omega arith)) ∙ total_within-split values from high to h (omega arith) third within
