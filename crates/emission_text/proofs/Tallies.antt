-- What the rows of a window come to, row by row; and the lines of windows, one by one.
use Rattle.std.proofs.Common.{◌≡◌, ◌∙◌, ◌+◌, ◌-◌, ◌*◌, ◌^◌, ◌<◌, ◌≤◌, ◌++◌, ℕ, suc, true, false, cond, List, [], ◌∷◌, length, map, take, get_or, refl, sym, ap, subst, arith, Option, Some, None}
use Rattle.std.specs.Prelude.{◌==◌, ◌≢◌}
use Rattle.std.specs.List.{flat_map, last_or, range_with_len, sum}
use Rattle.std.proofs.lemmas.Bool.Decides.{nat_tests}
use Rattle.std.proofs.lemmas.List.{append-nil, length_push, map-append, take_more}
use Rattle.std.proofs.lemmas.List.Elements.{filter-append}
use Rattle.std.proofs.lemmas.List.Sums.{sum_by_push}
use Rattle.stream_base.specs.declared.row.Row.{Row}
use Rattle.stream_base.specs.Model.Final.{rows_of_window, window_lines}
use Rattle.emission_text.specs.Summary.{Grew, IsTallyOf, last_line, tally_line}
use Rattle.emission_text.specs.declared.tally.Tally.{Tally}

-- a tally of the rows of a window before an index
pub record IsTallyUpTo (window : ℕ) (rows : List Row) (i : ℕ) (t : Tally) : Type 0 where
  pub tally : IsTallyOf (rows_of_window window (take i rows)) t
  pub few : t.rows ≤ i
  pub small : t.numbers ≤ t.rows * 2 ^ 64

-- the rows of a window with one more
own_more : (window : ℕ) (rows : List Row) (i : ℕ) (d : Row) → i < length rows
    → rows_of_window window (take (i + 1) rows) ≡ rows_of_window window (take i rows) ++ cond ((get_or rows i d).window == window) (get_or rows i d ∷ []) []
own_more window rows i d h = ap (rows_of_window window) (take_more rows i d h) ∙ filter-append (λ row. row.window == window) (take i rows) (get_or rows i d ∷ [])

-- the sum of numbers with one more
pub sum_more : (xs : List ℕ) (x : ℕ) → sum (xs ++ x ∷ []) ≡ sum xs + x
sum_more xs x = sum_by_push (λ (n : ℕ). n) xs x

pub last_more : (first : Option Row) (xs : List Row) (x : Row) → last_or first (xs ++ x ∷ []) ≡ Some x
last_more first [] x = refl
last_more first (y ∷ ys) x = last_more (Some y) ys x

pub tally_more : (own : List Row) (t : Tally) (row : Row) → IsTallyOf own t
    → IsTallyOf (own ++ row ∷ []) (record { rows = t.rows + 1; numbers = t.numbers + row.number; last = Some row })
tally_more own t row h = record {
  rows = omega (arith, h.rows, length_push own row);
  numbers = rw (map-append (λ (row : Row). row.number) own (row ∷ []), sum_more (map (λ (row : Row). row.number) own) row.number, h.numbers) refl;
  last = sym (last_more None own row);
}

-- the lines of the windows that are left
pub windows_more : (rows : List Row) (window windows : ℕ) → window < windows
    → flat_map (window_lines rows) (range_with_len window (windows - window)) ≡ window_lines rows window ++ flat_map (window_lines rows) (range_with_len (window + 1) (windows - (window + 1)))
windows_more rows window windows h =
    let one : windows - window ≡ suc (windows - (window + 1)) = omega arith in
    ap (λ n. flat_map (window_lines rows) (range_with_len window n)) one

-- the lines of a window by its tally
pub tally-lines : (window : ℕ) (rows : List Row) (t : Tally) → IsTallyOf (rows_of_window window rows) t → tally_line window t.rows t.numbers ++ last_line t.last ≡ window_lines rows window
tally-lines window rows t h = rw (h.rows, h.numbers, h.last) refl

-- a row of the window is counted
is_own : (a b : ℕ) → a ≡ b → (a == b) ≡ true
is_own a b h = grind (arith, nat_tests)

is_other : (a b : ℕ) → a ≢ b → (a == b) ≡ false
is_other a b h = grind (arith, nat_tests)

pub counted_on : (window : ℕ) (rows : List Row) (i : ℕ) (row : Row) (old new : Tally) → i < length rows → row ≡ get_or rows i row → row.window ≡ window → IsTallyUpTo window rows i old
    → ((own : List Row) → IsTallyOf own old → IsTallyOf (own ++ row ∷ []) new) → Grew old new → IsTallyUpTo window rows (i + 1) new
counted_on window rows i row old new lt is own h counted grew =
    let more : rows_of_window window (take (i + 1) rows) ≡ rows_of_window window (take i rows) ++ row ∷ [] =
    own_more window rows i row lt ∙ ap (λ (r : Row). rows_of_window window (take i rows) ++ cond (r.window == window) (r ∷ []) []) (sym is)
    ∙ ap (λ b. rows_of_window window (take i rows) ++ cond b (row ∷ []) []) (is_own row.window window own) in
    let few : old.rows ≤ i = h.few in
    let small : old.numbers ≤ old.rows * 2 ^ 64 = h.small in
    record {
      tally = subst (λ (l : List Row). IsTallyOf l new) (sym more) (counted (rows_of_window window (take i rows)) h.tally);
      few = omega (arith, grew.rows);
      small = omega (arith, grew.rows, grew.numbers);
    }

-- and one of another window is passed over
pub passed_on : (window : ℕ) (rows : List Row) (i : ℕ) (row : Row) (t : Tally) → i < length rows → row ≡ get_or rows i row → row.window ≢ window → IsTallyUpTo window rows i t → IsTallyUpTo window rows (i + 1) t
passed_on window rows i row t lt is other h =
    let same : rows_of_window window (take (i + 1) rows) ≡ rows_of_window window (take i rows) =
    own_more window rows i row lt ∙ ap (λ (r : Row). rows_of_window window (take i rows) ++ cond (r.window == window) (r ∷ []) []) (sym is)
    ∙ ap (λ b. rows_of_window window (take i rows) ++ cond b (row ∷ []) []) (is_other row.window window other) ∙ append-nil (rows_of_window window (take i rows)) in
    let few : t.rows ≤ i = h.few in
    record { tally = subst (λ (l : List Row). IsTallyOf l t) (sym same) h.tally; few = omega arith; small = h.small }
