-- What a contract says of a turnstile and its passes.
use Rattle.std.specs.Prelude.{◌≡◌, ℕ, ◌++◌, ◌≤◌, List, Option, Some, length, map, Contains, All}
use Rattle.turnstile.specs.declared.view.Part.{Part}
use Rattle.turnstile.specs.declared.keeps.Keeps.{Ghosts}
use Rattle.turnstile.specs.declared.pass.Pass.{Pass}
use Rattle.turnstile.specs.declared.turnstile.Turnstile.{Turnstile}
use Rattle.turnstile.specs.History.{BeginsWith, by_number, of_number}

module _ {T I F : Type 0} {g : Ghosts T I F} where
  -- the pass's number
  abbrev pub number : Pass T I F g → ℕ
  number p = p.number

  -- how many numbers may still be drawn through it
  abbrev pub room : Pass T I F g → ℕ
  room p = p.room

  -- the fixed part of the value, as the pass knows it
  abbrev pub fixed : Pass T I F g → Option F
  fixed p = p.seat.me.0.main.fixed

  -- the list that it has seen
  abbrev pub seen : Pass T I F g → List (ℕ × I)
  seen p = p.seat.me.0.main.seen

  -- the items that it made
  abbrev pub made : Pass T I F g → List I
  made p = p.seat.me.0.main.made

  -- the numbers that it gave to new passes
  abbrev pub born : Pass T I F g → List ℕ
  born p = p.seat.me.0.main.born

  -- all that it knows
  abbrev pub known : Pass T I F g → Part I F
  known p = p.seat.me.0.main

  -- it is a pass of this turnstile
  abbrev pub IsPassOf : Turnstile T I F → Pass T I F g → Type 0
  IsPassOf turnstile p = p.seat.table_id ≡ turnstile.table.shared.table_id

  -- the same turnstile, number, room, fixed part and births
  pub record IsSamePass (old new : Pass T I F g) : Type 0 where
    pub turnstile : new.seat.table_id ≡ old.seat.table_id
    pub number_same : number new ≡ number old
    pub room_same : room new ≡ room old
    pub fixed_same : fixed new ≡ fixed old
    pub born_same : born new ≡ born old

  -- the numbers of these passes, in order
  abbrev pub numbers : List (Pass T I F g) → List ℕ
  numbers passes = map number passes

  -- pass zero is among them, and so is each pass to which one of them gave its number
  abbrev pub AreAll : List (Pass T I F g) → Type 0
  AreAll passes = Contains (numbers passes) 0 × All (λ p. All (Contains (numbers passes)) (born p)) passes

  -- One turn. The value before it began with all that the pass had seen, and what stood there under the pass's number is what the pass had made. One call of the pass led to the
  -- value after it and to the reply, and added at most one item, with the pass's number. The pass has then seen the list after the call, and made what it had made and the item
  pub record IsTurn {R : Type 0} (does : T → T → ℕ → R → Type 0) (old new : Pass T I F g) (reply : R) : Type 0 where
    pub before : T
    pub after : T
    pub added : List I
    pub fixed_before : fixed old ≡ Some (g.fixed before)
    pub fixed_after : fixed old ≡ Some (g.fixed after)
    pub begins : BeginsWith (g.items before) (seen old)
    pub own : of_number (number old) (g.items before) ≡ made old
    pub call : does before after (number old) reply
    pub at_most_one : length added ≤ 1
    pub adds : g.items after ≡ g.items before ++ by_number (number old) added
    pub sees : seen new ≡ g.items after
    pub makes : made new ≡ made old ++ added
