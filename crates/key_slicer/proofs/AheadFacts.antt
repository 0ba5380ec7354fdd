-- Parts of a key that have missed nothing, and what is left of the steps that were paid for.
use Rattle.std.proofs.Common.{◌≡◌, ◌≤◌, ◌<◌, ◌+◌, ◌*◌, ◌++◌, ℕ, zero, suc, List, [], ◌∷◌, length, get_or, set, take, ap, arith, subst, sym, ⊎_elim}
use Rattle.std.specs.Prelude.{sum_by}
use Rattle.std.specs.List.{enumerate_from}
use Rattle.std.proofs.lemmas.Bool.{cases_eq}
use Rattle.std.proofs.lemmas.List.{get_or-set_other, get_or-set_same, get_or_append_left, get_or_push, length-append, length-set}
use Rattle.std.proofs.lemmas.List.Sums.{sum_by-cons, sum_by_push}
use Rattle.stream_base.specs.Limits.{Definitions}
use Rattle.stream_base.specs.declared.def.Def.{Def}
use Rattle.stream_base.specs.Laws.{completions}
use Rattle.stream_base.specs.Model.Changes.{Moment}
use Rattle.agg_store.specs.Stored.{IsAsBefore, Stored}
use Rattle.key_parts.specs.Work.{row_work}
use Rattle.key_slicer.specs.Parts.{EachPart, rooms}
use Rattle.key_slicer.specs.Work.{TakenUp, moved_work}
use Rattle.key_slicer.proofs.Loops.{numbered_end, summed_more}

-- ---- one part has changed
module _ {P : Type 0} where
  -- what holds of each part holds on, where it does of the one that has changed
  pub each_set : (holds : ℕ → P → Type 0) (i : ℕ) (now : List P) (old y : P) → i < length now → old ≡ get_or now i old → (holds i old → holds i y)
      → EachPart holds now → EachPart holds (set now i y)
  each_set holds i now old y l is on each = λ j x jl. ⊎_elim
      (λ e. subst (λ k. holds k (get_or (set now i y) k x)) (sym e) (subst (holds i) (sym (get_or-set_same now i y x l)) (on (subst (holds i) (sym is) (each i old l)))))
      (λ ne. subst (holds j) (sym (get_or-set_other now i j y x ne)) (each j x (omega (arith, jl, length-set now i y))))
      (cases_eq j i)

  -- and so at whatever watermark and store
  pub ahead_set : (is_ahead : ℕ → ℕ → Stored → P → Type 0) (i : ℕ) (start now : List P) (old y : P) → i < length now → old ≡ get_or now i old
      → ((w : ℕ) (s : Stored) → is_ahead i w s old → is_ahead i w s y)
      → ((w : ℕ) (s : Stored) → EachPart (λ j part. is_ahead j w s part) start → EachPart (λ j part. is_ahead j w s part) now)
      → (w : ℕ) (s : Stored) → EachPart (λ j part. is_ahead j w s part) start → EachPart (λ j part. is_ahead j w s part) (set now i y)
  ahead_set is_ahead i start now old y l is on so_far = λ w s each. each_set (λ j part. is_ahead j w s part) i now old y l is (on w s) (so_far w s each)

  -- what holds of each part holds on where one more comes behind them of which it does
  pub each_pushed : (holds : ℕ → P → Type 0) (i : ℕ) (parts later : List P) (y : P) → length parts ≡ i → later ≡ parts ++ y ∷ [] → EachPart holds parts → holds i y → EachPart holds later
  each_pushed holds i parts later y many is each last = subst (EachPart holds) (sym is) (λ j x jl. ⊎_elim
      (λ e. subst (λ k. holds k (get_or (parts ++ y ∷ []) k x)) (sym e) (subst (holds i) (sym (get_or_push parts y x i many)) last))
      (λ ne. let l : j < length parts = omega (arith, jl, ne, many, length-append parts (y ∷ [])) in subst (holds j) (sym (get_or_append_left parts (y ∷ []) x j l)) (each j x l))
      (cases_eq j i))

  -- ---- what is left of the steps that were paid for
  module _ (credit : P → ℕ) where
    abbrev left_from : ℕ → List P → ℕ
    left_from k parts = sum_by (λ (w : ℕ × P). credit w.1) (enumerate_from k parts)

    left_set : (k i : ℕ) (parts : List P) (x y : P) → i < length parts → left_from k (set parts i y) + credit (get_or parts i x) ≡ left_from k parts + credit y
    left_set k i [] x y l = absurd (omega arith)
    left_set k zero (p ∷ ps) x y l =
        let a : left_from k (y ∷ ps) ≡ credit y + left_from (k + 1) ps = sum_by-cons (λ (w : ℕ × P). credit w.1) (k, y) (enumerate_from (k + 1) ps) in
        let b : left_from k (p ∷ ps) ≡ credit p + left_from (k + 1) ps = sum_by-cons (λ (w : ℕ × P). credit w.1) (k, p) (enumerate_from (k + 1) ps) in
        omega (arith, a, b)
    left_set k (suc i) (p ∷ ps) x y l =
        let a : left_from k (p ∷ set ps i y) ≡ credit p + left_from (k + 1) (set ps i y) = sum_by-cons (λ (w : ℕ × P). credit w.1) (k, p) (enumerate_from (k + 1) (set ps i y)) in
        let b : left_from k (p ∷ ps) ≡ credit p + left_from (k + 1) ps = sum_by-cons (λ (w : ℕ × P). credit w.1) (k, p) (enumerate_from (k + 1) ps) in
        let e : left_from (k + 1) (set ps i y) + credit (get_or ps i x) ≡ left_from (k + 1) ps + credit y = left_set (k + 1) i ps x y (omega arith) in
        omega (arith, a, b, e)

    -- the sum changes by what the part has less or more
    pub credit_set : (i : ℕ) (now : List P) (old y : P) → i < length now → old ≡ get_or now i old → rooms (λ j part. credit part) (set now i y) + credit old ≡ rooms (λ j part. credit part) now + credit y
    credit_set i now old y l is = let e : credit old ≡ credit (get_or now i old) = ap credit is in omega (arith, e, left_set 0 i now old y l)

    -- there is none, and none in one part more
    pub credit_pushed : (parts later : List P) (y : P) → later ≡ parts ++ y ∷ [] → rooms (λ j part. credit part) parts ≡ 0 → credit y ≡ 0 → rooms (λ j part. credit part) later ≡ 0
    credit_pushed parts later y is none more =
        let all : left_from 0 (parts ++ y ∷ []) ≡ sum_by (λ (w : ℕ × P). credit w.1) (enumerate_from 0 parts ++ (0 + length parts, y) ∷ []) = ap (sum_by (λ (w : ℕ × P). credit w.1)) (numbered_end 0 parts y) in
        let pushed : sum_by (λ (w : ℕ × P). credit w.1) (enumerate_from 0 parts ++ (0 + length parts, y) ∷ []) ≡ left_from 0 parts + credit y = sum_by_push (λ (w : ℕ × P). credit w.1) (enumerate_from 0 parts) (0 + length parts, y) in
        let same : left_from 0 later ≡ left_from 0 (parts ++ y ∷ []) = ap (left_from 0) is in
        omega (arith, all, pushed, same, none, more)

    -- it has not risen, where that of the part has not
    pub credit_less : (i start : ℕ) (now : List P) (old y : P) → i < length now → old ≡ get_or now i old → credit y ≤ credit old → rooms (λ j part. credit part) now ≤ start
        → rooms (λ j part. credit part) (set now i y) ≤ start
    credit_less i start now old y l is less so_far = omega (arith, credit_set i now old y l is, less, so_far)

-- ---- the state of a key
module _ {P : Type 0} (is_ahead : ℕ → ℕ → Stored → P → Type 0) where
  -- room that the store makes has nothing to do with what the parts missed
  pub ahead_reserved : ((window water : ℕ) (s more : Stored) (part : P) → IsAsBefore s more → is_ahead window water s part → is_ahead window water more part)
      → (w : ℕ) (s t : Stored) (parts later : List P) → ((w : ℕ) (s : Stored) → EachPart (λ i part. is_ahead i w s part) parts → EachPart (λ i part. is_ahead i w s part) later)
      → IsAsBefore s t → EachPart (λ i part. is_ahead i w s part) parts → EachPart (λ i part. is_ahead i w t part) later
  ahead_reserved law w s t parts later stays e each = λ i x l. law i w s t _ e (stays w s each i x l)

  -- the same state, told in other words
  pub ahead_same : (w : ℕ) (s s' : Stored) (parts parts' : List P) → s' ≡ s → parts' ≡ parts → EachPart (λ i part. is_ahead i w s part) parts → EachPart (λ i part. is_ahead i w s' part) parts'
  ahead_same w s s' parts parts' es ep each = subst (λ t. EachPart (λ i part. is_ahead i w t part) parts') (sym es) (subst (EachPart (λ i part. is_ahead i w s part)) (sym ep) each)

-- ---- a move of the watermark
-- what one window takes
pub one_moved : (taken_up : TakenUp) (d : Definitions) (key : List ℕ) (m : Moment) (old new : ℕ) (store : Stored) (i : ℕ) (def : Def) (n : ℕ) → m.water ≡ old
    → n ≡ length (completions key m new (i, get_or d.windows i def))
    → 10 * taken_up d i store old new + row_work (get_or d.windows i def).kind store.reach * n ≡ moved_work taken_up d key m new store (i, get_or d.windows i def)
one_moved taken_up d key m old new store i def n is many =
    let a : taken_up d i store m.water new ≡ taken_up d i store old new = ap (λ w. taken_up d i store w new) is in
    let b : row_work (get_or d.windows i def).kind store.reach * n ≡ row_work (get_or d.windows i def).kind store.reach * length (completions key m new (i, get_or d.windows i def)) = ap (λ k. row_work (get_or d.windows i def).kind store.reach * k) many in
    omega (arith, a, b)

-- what one window more takes on credit
pub paid_more : (f : ℕ × Def → ℕ) (windows : List Def) (i : ℕ) (def : Def) (s t u a b c k l : ℕ) → i < length windows
    → t + b ≤ s + a + sum_by f (enumerate_from 0 (take i windows)) → u + l ≤ t + k + f (i, get_or windows i def) → c + k ≡ b + l
    → u + c ≤ s + a + sum_by f (enumerate_from 0 (take (i + 1) windows))
paid_more f windows i def s t u a b c k l within so_far cost changed = omega (arith, summed_more f windows i def within, so_far, cost, changed)

-- also where it catches up
pub caught_more : (f g : ℕ × Def → ℕ) (windows : List Def) (i : ℕ) (def : Def) (s t u a b c k l : ℕ) → i < length windows
    → t + b ≤ s + a + (sum_by f (enumerate_from 0 (take i windows)) + sum_by g (enumerate_from 0 (take i windows))) → u + l ≤ t + k + (f (i, get_or windows i def) + g (i, get_or windows i def)) → c + k ≡ b + l
    → u + c ≤ s + a + (sum_by f (enumerate_from 0 (take (i + 1) windows)) + sum_by g (enumerate_from 0 (take (i + 1) windows)))
caught_more f g windows i def s t u a b c k l within so_far cost changed = omega (arith, summed_more f windows i def within, summed_more g windows i def within, so_far, cost, changed)
