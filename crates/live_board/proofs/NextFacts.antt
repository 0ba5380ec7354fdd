-- No entry of a source comes behind its end, and all entries together are as many as turns bring.
use Rattle.std.proofs.Common.{◌≡◌, ◌∙◌, ℕ, zero, suc, ◌+◌, ◌-◌, ◌<◌, ◌≤◌, Bool, true, false, List, [], ◌∷◌, ◌++◌, length, map, take, get_or, ap, sym, refl, arith, Option, None, Some, inl, inr, zero-le}
use Rattle.std.specs.Prelude.{◌==◌, ◌&&◌, ◌⊎◌, All, slice_get}
use Rattle.std.specs.List.{cons_option, flat_map, range_with_len}
use Rattle.std.proofs.lemmas.Bool.{and_parts, eqb-true}
use Rattle.std.proofs.lemmas.List.{get_or-take, length-append, length-take}
use Rattle.std.proofs.lemmas.List.Elements.{All-append, All-cons, All-nil}
use Rattle.std.proofs.lemmas.List.Folds.{list_any_none}
use Rattle.std.proofs.lemmas.List.Sums.{sum_by-cons}
use Rattle.std.proofs.lemmas.Option.{slice_get_within}
use Rattle.stream_base.specs.declared.entry.Entry.{Entry}
use Rattle.stream_base.specs.Model.Watermark.{has_ended}
use Rattle.stream_base.specs.Model.What.{is_end}
use Rattle.live_board.specs.Tallies.{turn, turns, turns_in}
use Rattle.live_board.specs.Turning.{AreEntriesIn, IsPlaced, before_turn}
use Rattle.live_board.specs.Watched.{entries_in}

-- what holds of each source's entry of a number holds of all in that turn
all_in_turn : (P : Entry → Type 0) (sources : List (List Entry)) (n : ℕ)
    → ((j : ℕ) (x : Entry) → j < length sources → slice_get (get_or sources j []) n ≡ Some x → P x) → All P (turn sources n)
all_in_turn P [] n h = All-nil P
all_in_turn P (s ∷ ss) n h = by (slice_get s n) (λ x is. h 0 x (omega arith) is) (all_in_turn P ss n (λ j x l is. h (suc j) x (omega (arith, l)) is))
  where
    by : (o : Option Entry) → ((x : Entry) → o ≡ Some x → P x) → All P (turn ss n) → All P (cons_option o (turn ss n))
    by None here there = there
    by (Some x) here there = All-cons P x (turn ss n) (here x refl) there

-- and of each number below one, of all before that turn
all_before : (P : Entry → Type 0) (sources : List (List Entry)) (first n : ℕ)
    → ((k j : ℕ) (x : Entry) → k < first + n → j < length sources → slice_get (get_or sources j []) k ≡ Some x → P x) → All P (flat_map (turn sources) (range_with_len first n))
all_before P sources first zero h = All-nil P
all_before P sources first (suc n) h =
    All-append P (turn sources first) (flat_map (turn sources) (range_with_len (first + 1) n))
    (all_in_turn P sources first (λ j x l is. h first j x (omega arith) l is))
    (all_before P sources (first + 1) n (λ k j x few l is. h k j x (omega (arith, few)) l is))

-- an entry that stands before another of its source is no end
nothing_ends : (sources : List (List Entry)) (i j n k : ℕ) (e x : Entry) → IsPlaced sources i n e → IsPlaced sources j k x → n < length (get_or sources i []) → (k < n) ⊎ (j < i)
    → (x.source == e.source && is_end x.what) ≡ false
nothing_ends sources i j n k e x p q within before = by (x.source == e.source && is_end x.what) refl before
  where
    by : (b : Bool) → (x.source == e.source && is_end x.what) ≡ b → (k < n) ⊎ (j < i) → b ≡ false
    by false is earlier = refl
    by true is (inl l) =
        let (same, ends) = and_parts (x.source == e.source) (is_end x.what) is in
        let alike : j ≡ i = sym q.own ∙ eqb-true x.source e.source same ∙ p.own in
        let last : k + 1 ≡ length (get_or sources i []) = q.last ends ∙ ap (λ m. length (get_or sources m [])) alike in
        absurd (omega (arith, l, last, within))
    by true is (inr l) =
        let (same, ends) = and_parts (x.source == e.source) (is_end x.what) is in
        let alike : j ≡ i = sym q.own ∙ eqb-true x.source e.source same ∙ p.own in
        absurd (omega (arith, l, alike))

-- the source of an entry that comes next hasn't ended
pub goes_on : (sources : List (List Entry)) (i n : ℕ) (e : Entry) → AreEntriesIn sources → i < length sources → slice_get (get_or sources i []) n ≡ Some e
    → has_ended e.source (before_turn sources n ++ turn (take i sources) n) ≡ false
goes_on sources i n e entries few has =
    let p : IsPlaced sources i n e = entries.placed i n e few has in
    let within : n < length (get_or sources i []) = slice_get_within (get_or sources i []) n e has in
    list_any_none (λ x. x.source == e.source && is_end x.what) (before_turn sources n ++ turn (take i sources) n)
    (All-append (λ x. (x.source == e.source && is_end x.what) ≡ false) (before_turn sources n) (turn (take i sources) n)
    (all_before (λ x. (x.source == e.source && is_end x.what) ≡ false) sources 0 n
    (λ k j x low l is. nothing_ends sources i j n k e x p (entries.placed j k x l is) within (inl (omega (arith, low)))))
    (all_in_turn (λ x. (x.source == e.source && is_end x.what) ≡ false) (take i sources) n
    (λ j x l is.
    let low : j < i = omega (arith, l, length-take i sources) in
    let all : j < length sources = omega (arith, l, length-take i sources) in
    nothing_ends sources i j n n e x p (entries.placed j n x all (ap (λ s. slice_get s n) (sym (get_or-take i sources j [] low)) ∙ is)) within (inr low))))

cons_more : (o : Option Entry) (xs : List Entry) → length (cons_option o xs) ≡ length (cons_option o []) + length xs
cons_more None xs = omega arith
cons_more (Some x) xs = omega arith

-- the entries of one source that turns bring
abbrev of_one : List Entry → List ℕ → List Entry
of_one s numbers = flat_map (λ k. cons_option (slice_get s k) []) numbers

one_more : (s : List Entry) (ss : List (List Entry)) (numbers : List ℕ) → length (flat_map (turn (s ∷ ss)) numbers) ≡ length (of_one s numbers) + length (flat_map (turn ss) numbers)
one_more s ss [] = refl
one_more s ss (k ∷ ks) =
    omega (
      arith,
      length-append (turn (s ∷ ss) k) (flat_map (turn (s ∷ ss)) ks),
      cons_more (slice_get s k) (turn ss k),
      length-append (cons_option (slice_get s k) []) (of_one s ks),
      length-append (turn ss k) (flat_map (turn ss) ks),
      one_more s ss ks,
    )

no_source : (numbers : List ℕ) → length (flat_map (turn []) numbers) ≡ 0
no_source [] = refl
no_source (k ∷ ks) = no_source ks

-- turns bring no more of a source than it has
one_source : (s : List Entry) (first n : ℕ) → length (of_one s (range_with_len first n)) ≤ length s - first
one_source s first zero = zero-le
one_source s first (suc n) =
    omega (arith, length-append (cons_option (slice_get s first) []) (of_one s (range_with_len (first + 1) n)), one_source s (first + 1) n, here (slice_get s first) (λ x is. slice_get_within s first x is))
  where
    here : (o : Option Entry) → ((x : Entry) → o ≡ Some x → first < length s) → length (cons_option o []) + (length s - (first + 1)) ≤ length s - first
    here None within = omega arith
    here (Some x) within = omega (arith, within x refl)

all_sources : (sources : List (List Entry)) (n : ℕ) → length (flat_map (turn sources) (range_with_len 0 n)) ≤ entries_in sources
all_sources [] n = omega (arith, no_source (range_with_len 0 n))
all_sources (s ∷ ss) n =
    omega (arith, one_more s ss (range_with_len 0 n), one_source s 0 n, all_sources ss n, sum_by-cons (λ (k : ℕ). k) (length s) (map length ss))

-- all turns together bring no more entries than all sources have
pub turns_within : (sources : List (List Entry)) → length (turns sources) ≤ entries_in sources
unfolding turns
turns_within sources = all_sources sources (turns_in sources)
