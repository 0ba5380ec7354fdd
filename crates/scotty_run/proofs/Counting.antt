-- How many entries of all sources go to a shard, by the journal that holds them.
use Rattle.std.proofs.Common.{◌≡◌, ◌∙◌, ◌<◌, ◌≤◌, ◌+◌, ◌==◌, ℕ, zero, suc, Bool, true, false, cond, List, [], ◌∷◌, All, length, filter, map, get_or, sum_by, ap, refl, arith}
use Rattle.std.specs.Prelude.{nat_le, sum}
use Rattle.std.proofs.lemmas.Bool.Decides.{nat_tests}
use Rattle.std.proofs.lemmas.List.Elements.{All-head, All-tail}
use Rattle.std.proofs.lemmas.List.Sums.{sum-map, sum_by-cons}
use Rattle.stream_base.specs.declared.entry.Entry.{Entry}
use Rattle.stream_base.specs.Model.Routes.{entries_from}

-- the entries of sources from a number on
behind : ℕ → List Entry → List Entry
behind n journal = filter (λ e. nat_le n e.source) journal

length-cond : (b : Bool) (e : Entry) (es : List Entry) → length (cond b (e ∷ es) es) ≡ cond b 1 0 + length es
length-cond true e es = omega arith
length-cond false e es = omega arith

one_of : (n s : ℕ) → cond (nat_le n s) 1 0 ≡ cond (s == n) 1 0 + cond (nat_le (n + 1) s) 1 0
one_of n s = grind (arith, nat_tests)

splits : (n : ℕ) (journal : List Entry) → length (behind n journal) ≡ length (entries_from n journal) + length (behind (n + 1) journal)
unfolding behind
splits n [] = refl
splits n (e ∷ es) =
    let all = length-cond (nat_le n e.source) e (filter (λ x. nat_le n x.source) es) in
    let own = length-cond (e.source == n) e (entries_from n es) in
    let more = length-cond (nat_le (n + 1) e.source) e (filter (λ x. nat_le (n + 1) x.source) es) in
    let one = one_of n e.source in
    let later = splits n es in
    omega (arith, all, own, more, one, later)

none_behind : (n : ℕ) (journal : List Entry) → All (λ e. e.source < n) journal → length (behind n journal) ≡ 0
unfolding behind
none_behind n [] h = refl
none_behind n (e ∷ es) h =
    let below : e.source < n = All-head (λ (x : Entry). x.source < n) e es h in
    let test : nat_le n e.source ≡ false = grind (arith, nat_tests) in
    ap (λ b. length (cond b (e ∷ filter (λ (x : Entry). nat_le n x.source) es) (filter (λ (x : Entry). nat_le n x.source) es))) test ∙ none_behind n es (All-tail (λ (x : Entry). x.source < n) e es h)

all_behind : (journal : List Entry) → length (behind 0 journal) ≡ length journal
unfolding behind
all_behind [] = refl
all_behind (e ∷ es) = let later = all_behind es in let test : nat_le 0 e.source ≡ true = grind (arith, nat_tests) in
    ap (λ b. length (cond b (e ∷ filter (λ (x : Entry). nat_le 0 x.source) es) (filter (λ (x : Entry). nat_le 0 x.source) es))) test ∙ omega (arith, later)

module _ (f : List Entry → ℕ) (journal : List Entry) where
  at_most : (all : List (List Entry)) (n : ℕ) → ((i m : ℕ) → n + i ≡ m → i < length all → f (get_or all i []) ≤ length (entries_from m journal)) → sum_by f all ≤ length (behind n journal)
  at_most [] n h = omega arith
  at_most (x ∷ xs) n h =
      let first = h 0 n (omega arith) (omega arith) in
      let later = at_most xs (n + 1) (λ i m e l. h (suc i) m (omega (arith, e)) (omega (arith, l))) in
      omega (arith, first, later, sum_by-cons f x xs, splits n journal)

  at_least : (all : List (List Entry)) (n : ℕ) → length (behind (n + length all) journal) ≡ 0 → ((i m : ℕ) → n + i ≡ m → i < length all → length (entries_from m journal) ≤ f (get_or all i [])) → length (behind n journal) ≤ sum_by f all
  at_least [] n z h = let same : n + 0 ≡ n = omega arith in let none = ap (λ k. length (behind k journal)) same in omega (arith, z, none)
  at_least (x ∷ xs) n z h =
      let first = h 0 n (omega arith) (omega arith) in
      let same : (n + 1) + length xs ≡ n + length (x ∷ xs) = omega arith in
      let later = at_least xs (n + 1) (ap (λ k. length (behind k journal)) same ∙ z) (λ i m e l. h (suc i) m (omega (arith, e)) (omega (arith, l))) in
      omega (arith, first, later, sum_by-cons f x xs, splits n journal)

  more : (all : List (List Entry)) (n j : ℕ) → length (behind (n + length all) journal) ≡ 0 → ((i m : ℕ) → n + i ≡ m → i < length all → length (entries_from m journal) ≤ f (get_or all i [])) → j < length all → length (entries_from (n + j) journal) < f (get_or all j []) → length (behind n journal) < sum_by f all
  more [] n j z h l strict = absurd (omega (arith, l))
  more (x ∷ xs) n zero z h l strict =
      let same : (n + 1) + length xs ≡ n + length (x ∷ xs) = omega arith in
      let here : n + 0 ≡ n = omega arith in
      let first = ap (λ k. length (entries_from k journal)) here in
      let later = at_least xs (n + 1) (ap (λ k. length (behind k journal)) same ∙ z) (λ i m e k. h (suc i) m (omega (arith, e)) (omega (arith, k))) in
      omega (arith, first, strict, later, sum_by-cons f x xs, splits n journal)
  more (x ∷ xs) n (suc j) z h l strict =
      let same : (n + 1) + length xs ≡ n + length (x ∷ xs) = omega arith in
      let here : n + suc j ≡ (n + 1) + j = omega arith in
      let moved = ap (λ k. length (entries_from k journal)) here in
      let first = h 0 n (omega arith) (omega arith) in
      let later = more xs (n + 1) j (ap (λ k. length (behind k journal)) same ∙ z) (λ i m e k. h (suc i) m (omega (arith, e)) (omega (arith, k))) (omega (arith, l)) (omega (arith, moved, strict)) in
      omega (arith, first, later, sum_by-cons f x xs, splits n journal)

  -- where each source's entries are at most its own in a journal, all of them are at most the journal's
  pub sum_within : (all : List (List Entry)) → ((i : ℕ) → i < length all → f (get_or all i []) ≤ length (entries_from i journal)) → sum (map f all) ≤ length journal
  sum_within all h =
      let most = at_most all 0 (λ i m e l. let same : i ≡ m = omega (arith, e) in let own = h i l in let moved = ap (λ k. length (entries_from k journal)) same in omega (arith, own, moved)) in
      omega (arith, most, sum-map f all, all_behind journal)

  -- where a journal has of each source at most what the source has, and of one less, all of the sources' are more than the journal's
  pub sum_beyond : (all : List (List Entry)) (j : ℕ) → All (λ e. e.source < length all) journal → ((i : ℕ) → i < length all → length (entries_from i journal) ≤ f (get_or all i [])) → j < length all → length (entries_from j journal) < f (get_or all j []) → length journal < sum (map f all)
  sum_beyond all j known h l strict =
      let z : length (behind (0 + length all) journal) ≡ 0 = let same : 0 + length all ≡ length all = omega arith in ap (λ k. length (behind k journal)) same ∙ none_behind (length all) journal known in
      let here : 0 + j ≡ j = omega arith in
      let moved = ap (λ k. length (entries_from k journal)) here in
      let most = more all 0 j z (λ i m e k. let same : i ≡ m = omega (arith, e) in let own = h i k in let at = ap (λ n. length (entries_from n journal)) same in omega (arith, own, at)) l (omega (arith, moved, strict)) in
      omega (arith, most, sum-map f all, all_behind journal)
