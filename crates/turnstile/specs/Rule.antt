-- The rule of the lock: a fact about its three words, its slot and the views of all passes, which holds between any two steps.
use Rattle.std.specs.Prelude.{◌≡◌, ◌==◌, ℕ, ◌+◌, ◌%◌, ◌^◌, ◌<◌, ◌≤◌, Bool, true, false, List, [], ◌∷◌, ◌++◌, Option, Some, None, IfSome, Contains, if◌then◌else◌}
use mathlib.Core.Option as maybe
use mathlib.Core.Option.{some, none}
use lib.ListN.{get_elem?}
use Rattle.atomic_table.specs.Table.{State}
use Rattle.turnstile.specs.declared.view.Stage.{Stage}
use Rattle.turnstile.specs.declared.view.Stage.TheVariants.{Idle, Waiting, Serving, Reached}
use Rattle.turnstile.specs.declared.view.Part.{Part}
use Rattle.turnstile.specs.declared.view.View.{View}
use Rattle.turnstile.specs.History.{of_number, BeginsWith}

-- a number for each member of the list, added up
abbrev pub total : {A : Type 0} → (A → ℕ) → List A → ℕ
total f [] = 0
total f (x ∷ xs) = f x + total f xs

-- the fact holds of each member
abbrev pub Each : {A : Type 0} → (A → Type 0) → List A → Type 0
Each P [] = Unit {0}
Each P (x ∷ xs) = P x × Each P xs

-- 1 where there is a number, else 0
abbrev pub one_if_some : Option ℕ → ℕ
one_if_some None = 0
one_if_some (Some n) = 1

-- 1 where it is the number n, else 0
abbrev pub one_if : ℕ → Option ℕ → ℕ
one_if n None = 0
one_if n (Some m) = if m == n then 1 else 0

-- 1 where there is a ticket, else 0
abbrev pub in_line : {I : Type 0} → Stage I → ℕ
in_line Idle = 0
in_line (Waiting k) = 1
in_line (Serving k list) = 1
in_line (Reached k) = 1

module _ {I F : Type 0} where
  -- the births of several parts, one after another
  abbrev pub births_of : List (Part I F) → List ℕ
  births_of [] = []
  births_of (p ∷ ps) = p.born ++ births_of ps

  abbrev pub parts : View I F → List (Part I F)
  parts v = v.main ∷ v.others

  -- how often the view has the number n
  abbrev pub times : ℕ → View I F → ℕ
  times n v = one_if n v.pending + total (λ p. one_if n p.number) (parts v)

  -- how many numbers the view has, and how many may still be drawn through it
  abbrev pub rights : View I F → ℕ
  rights v = (v.room + one_if_some v.pending) + total (λ p. one_if_some p.number) (parts v)

  abbrev pub waits : View I F → ℕ
  waits v = in_line v.stage

-- What the words and views don't show by themselves: how many tickets were drawn, how many turns have ended, the next number to draw, how many numbers passes were made with,
-- which seat has which ticket, whether the value is out, the list at the end of the last turn, the fixed part, and the numbers that pass zero gave
pub record Facts (I F : Type 0) : Type 0 where
  pub next : ℕ
  pub now : ℕ
  pub numbers : ℕ
  pub handed : ℕ
  pub owner : ℕ → ℕ
  pub busy : Bool
  pub log : List (ℕ × I)
  pub fixed : F
  pub births : List ℕ

module _ {I F : Type 0} (h : Facts I F) where
  -- a ticket that is out is one seat's; the value is out with the seat alone whose ticket is served
  abbrev pub StageOk : ℕ → Stage I → Type 0
  StageOk i Idle = Unit {0}
  StageOk i (Waiting k) = (h.now ≤ k) × (k < h.next) × (h.owner k ≡ i) × (k ≡ h.now → h.busy ≡ false)
  StageOk i (Serving k list) = (k ≡ h.now) × (k < h.next) × (h.owner k ≡ i) × (h.busy ≡ true) × (list ≡ h.log)
  StageOk i (Reached k) = (k ≡ h.now) × (k < h.next) × (h.owner k ≡ i) × (h.busy ≡ false)

  -- the list begins with what was seen; where there is a number, the items of the number are those that were made, and the fixed part is the value's
  pub record PartOk (p : Part I F) : Type 0 where
    pub seen : BeginsWith h.log p.seen
    pub own : IfSome p.number (λ n. (n < h.handed) × (of_number n h.log ≡ p.made) × (p.fixed ≡ Some h.fixed))

  -- the view with number 0 draws the numbers, and its births are all that were given
  pub record HasZero (v : View I F) : Type 0 where
    pub drawn : h.numbers ≡ h.handed + one_if_some v.pending
    pub left : h.numbers + v.room ≡ 2 ^ 62
    pub pending : IfSome v.pending (λ n. n ≡ h.handed)
    pub born : births_of (parts v) ≡ h.births

  -- no other view draws numbers or has births
  pub record LacksZero (v : View I F) : Type 0 where
    pub room : v.room ≡ 0
    pub pending : v.pending ≡ None
    pub born : births_of (parts v) ≡ []

  pub record ViewOk (i : ℕ) (v : View I F) : Type 0 where
    pub stage : StageOk i v.stage
    pub each : Each PartOk (parts v)
    pub line : waits v ≤ rights v
    pub zero : 0 < times 0 v → HasZero v
    pub other : times 0 v ≡ 0 → LacksZero v

  -- only numbers that were handed over have items; the births are the numbers from 1 on that were handed over
  pub record PastOk : Type 0 where
    pub some_number : 0 < h.handed
    pub made : (n : ℕ) → h.handed ≤ n → of_number n h.log ≡ []
    pub all_born : (n : ℕ) → 0 < n → n < h.handed → Contains h.births n
    pub none_else : (n : ℕ) → Contains h.births n → (0 < n) × (n < h.handed)

module _ {T I F : Type 0} (items : T → List (ℕ × I)) (fixed : T → F) where
  -- at home lies a value with that list and that fixed part
  abbrev pub SlotOk : Facts I F → Bool → List (maybe.Option T) → Type 0
  SlotOk h false homes = (x : T) × (homes ≡ some x ∷ []) × (items x ≡ h.log) × (fixed x ≡ h.fixed)
  SlotOk h true homes = homes ≡ none ∷ []

  pub record Holds (s : State T (View I F)) (h : Facts I F) : Type 0 where
    pub words : s.words ≡ (h.next % 2 ^ 64) ∷ (h.now % 2 ^ 64) ∷ h.numbers ∷ []
    pub slot : SlotOk h h.busy s.homes
    pub line : h.now + total waits s.views ≡ h.next
    pub in_turn : h.busy ≡ true → h.now < h.next
    pub rights : total rights s.views ≡ 2 ^ 62
    pub apart : (n : ℕ) → total (times n) s.views ≤ 1
    pub drawn : (n : ℕ) → h.numbers ≤ n → total (times n) s.views ≡ 0
    pub past : PastOk h
    pub each : (i : ℕ) (v : View I F) → get_elem? s.views i ≡ some v → ViewOk h i v

  abbrev pub Rule : State T (View I F) → Type 0
  Rule s = (h : Facts I F) × Holds s h
