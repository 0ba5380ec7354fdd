-- What two stacks come to, and how the back becomes the front.
use Rattle.std.proofs.Common.{◌≡◌, ◌≤◌, ◌<◌, ◌+◌, ◌-◌, ℕ, zero, suc, List, [], ◌∷◌, length, get_or, take, drop, set, sym, ap, subst, ◌∙◌, arith, inl, inr}
use Rattle.std.specs.List.{All}
use Rattle.std.proofs.lemmas.List.{take-append-drop, drop_more, get_or-set_same, get_or-set_other, length-set, length-take-le, take_all, drop_all}
use Rattle.std.proofs.lemmas.List.Elements.{All-take, All-drop, All-get_or, All-tail}
use Rattle.std.proofs.lemmas.Bool.{cases_eq}
use Rattle.agg_laws.specs.Counters.{next_count}
use Rattle.agg_laws.specs.Laws.{MonoidLaws, total}
use Rattle.agg_laws.proofs.Totals.{total-append, total-cons}
use Rattle.agg_queue.specs.Lanes.{Lanes}
use Rattle.agg_queue.specs.Stacks.{AreStacked, AreSuffixTotals}

-- the cells have the aggregates of all the values from `from` on, the last of these is at hand, and each of the values cost a step
pub record TurnedOver {M : Type 0} (empty : M) (op : M → M → M) (before cells : Lanes M) (from : ℕ) (suffix : M) (old new : ℕ) : Type 0 where
  pub values : cells.values ≡ before.values
  pub aligned : length cells.aggregates ≡ length cells.values
  pub spare : cells.spare ≡ before.spare
  pub within : from ≤ length cells.values
  pub suffix_is : suffix ≡ total empty op (drop from cells.values)
  pub suffixes : AreSuffixTotals empty op cells.values cells.aggregates from
  pub cost : new + from ≤ old + length cells.values

module _ {M : Type 0} {IsValue : M → Type 0} {empty : M} {op : M → M → M} (laws : MonoidLaws IsValue empty op) where
  -- the front's aggregate and then the back's are the aggregate of all
  pub stacked_total : (values aggregates : List M) (front : ℕ) (back : M) → AreStacked IsValue empty op values aggregates front back → 0 < front → op (get_or aggregates 0 empty) back ≡ total empty op values
  stacked_total values aggregates front back s lt =
      let some : 0 < length (take front values) = rw (length-take-le front values s.within) lt in
      ap (λ a. op a back) (s.suffixes 0 (omega arith) some) ∙ ap (λ b. op (total empty op (take front values)) b) s.running ∙ sym (total-append laws (take front values) (drop front values) (All-take IsValue front values s.are_values) (All-drop IsValue front values s.are_values)) ∙ ap (λ xs. total empty op xs) (take-append-drop front values)

  -- the aggregate from one place earlier on
  pub suffix_more : (values : List M) (i : ℕ) → All IsValue values → i < length values → op (get_or values i empty) (total empty op (drop (i + 1) values)) ≡ total empty op (drop i values)
  suffix_more values i h lt =
      sym (ap (λ xs. total empty op xs) (drop_more values i empty lt) ∙ total-cons laws (get_or values i empty) (drop (i + 1) values) (All-get_or IsValue values i empty lt h) (All-drop IsValue (i + 1) values h))

  -- the aggregates are right from one place earlier on, where that one is written
  pub suffixes_more : (values aggregates : List M) (i : ℕ) (a : M) → length aggregates ≡ length values → i < length values → a ≡ total empty op (drop i values) → AreSuffixTotals empty op values aggregates (i + 1) → AreSuffixTotals empty op values (set aggregates i a) i
  suffixes_more values aggregates i a same lt e h k low high =
      elim (cases_eq k i) [
        | inl eq ↦ let here : i < length aggregates = omega arith in subst (λ (n : ℕ). get_or (set aggregates i a) n empty ≡ total empty op (drop n values)) (sym eq) (get_or-set_same aggregates i a empty here ∙ e)
        | inr ne ↦ get_or-set_other aggregates i k a empty ne ∙ h k (omega arith) high
      ]

  -- one more value is turned over
  pub turned_over-more : (before cells after : Lanes M) (i : ℕ) (value suffix next : M) (old new now : ℕ) → All IsValue before.values → TurnedOver empty op before cells i suffix old new → 0 < i → value ≡ get_or cells.values (i - 1) empty → next ≡ op value suffix → now ≡ next_count new → after.values ≡ cells.values → after.aggregates ≡ set cells.aggregates (i - 1) next → after.spare ≡ cells.spare → TurnedOver empty op before after (i - 1) next old now
  turned_over-more before cells after i value suffix next old new now h t lt is_value is_next is_now values aggregates spare =
      let all : All IsValue cells.values = subst (λ (xs : List M). All IsValue xs) (sym t.values) h in
      let in' : i - 1 < length cells.values = let w : i ≤ length cells.values = t.within in omega arith in
      let one_more : (i - 1) + 1 ≡ i = omega arith in
      let is_suffix : next ≡ total empty op (drop (i - 1) cells.values) =
      is_next ∙ ap (λ v. op v suffix) is_value ∙ ap (λ a. op (get_or cells.values (i - 1) empty) a) (t.suffix_is ∙ ap (λ n. total empty op (drop n cells.values)) (sym one_more)) ∙ suffix_more cells.values (i - 1) all in' in
      let before_that : AreSuffixTotals empty op cells.values cells.aggregates ((i - 1) + 1) = subst (λ (n : ℕ). AreSuffixTotals empty op cells.values cells.aggregates n) (sym one_more) t.suffixes in
      let written : AreSuffixTotals empty op cells.values (set cells.aggregates (i - 1) next) (i - 1) = suffixes_more cells.values cells.aggregates (i - 1) next t.aligned in' is_suffix before_that in
      let carried : AreSuffixTotals empty op after.values (set cells.aggregates (i - 1) next) (i - 1) = subst (λ (xs : List M). AreSuffixTotals empty op xs (set cells.aggregates (i - 1) next) (i - 1)) (sym values) written in
      record {
        values = values ∙ t.values;
        aligned = ap length aggregates ∙ length-set cells.aggregates (i - 1) next ∙ t.aligned ∙ ap length (sym values);
        spare = spare ∙ t.spare;
        within = rw values (omega arith);
        suffix_is = rw values is_suffix;
        suffixes = subst (λ (xs : List M). AreSuffixTotals empty op after.values xs (i - 1)) (sym aggregates) carried;
        cost = let c : new + i ≤ old + length cells.values = t.cost in rw values (omega arith);
      }

  -- where each aggregate runs up to the end, all is front
  pub stacked_all : (values aggregates : List M) (front : ℕ) (back : M) → All IsValue values → length aggregates ≡ length values → AreSuffixTotals empty op values aggregates 0 → front ≡ length values → back ≡ empty → AreStacked IsValue empty op values aggregates front back
  stacked_all values aggregates front back h same suffixes all none = record {
    are_values = h;
    aligned = same;
    within = omega arith;
    suffixes = let le : length values ≤ front = omega arith in rw (take_all front values le) suffixes;
    running = let le : length values ≤ front = omega arith in none ∙ ap (λ xs. total empty op xs) (sym (drop_all front values le));
  }

  stacked_without : (value : M) (rest aggregates : List M) (front : ℕ) (back : M) → AreStacked IsValue empty op (value ∷ rest) aggregates (suc front) back → AreStacked IsValue empty op rest (drop 1 aggregates) front back
  stacked_without value rest [] front back s = let e : 0 ≡ suc (length rest) = s.aligned in absurd (omega arith)
  stacked_without value rest (a ∷ gs) front back s = record {
    are_values = All-tail IsValue value rest s.are_values;
    aligned = let e : suc (length gs) ≡ suc (length rest) = s.aligned in omega arith;
    within = let le : suc front ≤ suc (length rest) = s.within in omega arith;
    suffixes = λ i low high. s.suffixes (suc i) (omega arith) (omega arith);
    running = s.running;
  }

  -- without the item at the front
  pub stacked_rest : (values rest aggregates left : List M) (value : M) (front : ℕ) (back : M) → AreStacked IsValue empty op values aggregates front back → 0 < front → values ≡ value ∷ rest → left ≡ drop 1 aggregates → AreStacked IsValue empty op rest left (front - 1) back
  stacked_rest values rest aggregates left value zero back s lt e d = absurd (omega arith)
  stacked_rest values rest aggregates left value (suc front) back s lt e d =
      let t : AreStacked IsValue empty op (value ∷ rest) aggregates (suc front) back = subst (λ (xs : List M). AreStacked IsValue empty op xs aggregates (suc front) back) e s in
      let one_less : suc front - 1 ≡ front = omega arith in
      rw (one_less, d) (stacked_without value rest aggregates front back t)
