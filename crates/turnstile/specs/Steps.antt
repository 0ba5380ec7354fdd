-- What each step tells the pass that takes it.
use Rattle.std.specs.Prelude.{◌≡◌, ◌≢◌, ℕ, ◌+◌, ◌-◌, ◌%◌, ◌^◌, ◌<◌, List, [], ◌∷◌, ◌++◌, Option, Some, None, IfSome, Contains, ◌≤◌, ◌⊎◌}
use Rattle.std.specs.Option.{unwrap_or}
use Rattle.atomic_table.specs.Table.{Me, Step}
use Rattle.turnstile.specs.declared.view.Stage.{Stage}
use Rattle.turnstile.specs.declared.view.Stage.TheVariants.{Idle, Waiting, Serving, Reached}
use Rattle.turnstile.specs.declared.view.Part.{Part}
use Rattle.turnstile.specs.declared.view.View.{View}
use Rattle.turnstile.specs.Rule.{Each, births_of, parts, times}
use Rattle.turnstile.specs.History.{of_number, BeginsWith, AddsAtMostOne, longer}

-- the items of a number that may be missing
abbrev pub made_in : {I : Type 0} → List (ℕ × I) → Option ℕ → List I
made_in list None = []
made_in list (Some n) = of_number n list

module _ {I F : Type 0} where
  -- a part that knows nothing
  abbrev pub blank : Part I F
  blank = record { number = None; fixed = None; seen = []; made = []; born = [] }

  -- a view with one part and no ticket, which has handed over all that it drew
  abbrev pub resting : Part I F → ℕ → View I F
  resting p room = record { main = p; others = []; room = room; pending = None; stage = Idle }

  -- the part of a new pass
  abbrev pub newcomer : ℕ → Option F → List (ℕ × I) → Part I F
  newcomer number fixed seen = record { number = Some number; fixed = fixed; seen = seen; made = []; born = [] }

  -- the view of pass zero
  abbrev pub first_view : F → View I F
  first_view f = resting (newcomer 0 (Some f) []) (2 ^ 62 - 1)

  -- the part after a turn that left the list
  abbrev pub turned_to : List (ℕ × I) → Part I F → Part I F
  turned_to list p = record p { seen = list; made = made_in list p.number }

  -- what a pass with this number and room knows between two calls; it has no value with it
  abbrev pub as_pass : {T : Type 0} → ℕ → ℕ → View I F → Me T (View I F)
  as_pass number room v = (resting (record v.main { number = Some number }) room, [])

  abbrev pub at_stage : Stage I → View I F → View I F
  at_stage stage v = record v { stage = stage }

  -- the number that the view has drawn
  abbrev pub drawn_number : View I F → ℕ
  drawn_number v = unwrap_or v.pending 0

  -- the view after it handed over the number that it had drawn
  abbrev pub handed_over : View I F → View I F
  handed_over v = record v { main = record v.main { born = v.main.born ++ drawn_number v ∷ [] }; pending = None }

  -- the view of the pass that gets that number: it has seen as much, and made nothing
  abbrev pub child : View I F → View I F
  child v = resting (newcomer (drawn_number v) v.main.fixed v.main.seen) 0

  -- a number was drawn, which is the number found: it is new, and with the room it makes up 2^62
  pub record DrawsNumber {T : Type 0} (m : Me T (View I F)) (r : ℕ) (m' : Me T (View I F)) : Type 0 where
    pub now_is : m' ≡ (record m.0 { room = m.0.room - 1; pending = Some r }, m.1)
    pub with_room : r + m.0.room ≡ 2 ^ 62
    pub positive : 0 < r
    pub unborn : Contains m.0.main.born r → ⊥

  abbrev pub drew_number : {T : Type 0} → Step T → Me T (View I F) → ℕ → Me T (View I F) → Type 0
  drew_number st m r m' = DrawsNumber m r m'

  -- a copy of what a view knows. It has no number, and has made and given nothing
  abbrev pub copy_of : View I F → View I F
  copy_of v = resting (record v.main { number = None; made = []; born = [] }) 0

  -- a view to which another was joined: it has the parts of both, and the sum of their rooms
  abbrev pub joined : View I F → View I F → View I F
  joined v w = record v { others = (w.main ∷ w.others) ++ v.others; room = v.room + w.room }

  -- what is left of a view that was joined away
  abbrev pub spent : View I F
  spent = resting blank 0

  -- a view that knows nothing came to be
  abbrev pub entered : {T : Type 0} → Step T → Me T (View I F) → ℕ → Me T (View I F) → Type 0
  entered st m r m' = m'.0 ≡ spent

  -- where the own ticket is served this was noted, and the value was left where it lies; else nothing changed
  abbrev pub ReachesAt : {T : Type 0} → Me T (View I F) → ℕ → Me T (View I F) → Stage I → Type 0
  ReachesAt m r m' Idle = Unit {0}
  ReachesAt m r m' (Waiting k) = (r ≡ k % 2 ^ 64 → m' ≡ (at_stage (Reached k) m.0, m.1)) × (r ≢ k % 2 ^ 64 → m' ≡ m)
  ReachesAt m r m' (Serving k list) = Unit {0}
  ReachesAt m r m' (Reached k) = Unit {0}

  abbrev pub reached : {T : Type 0} → Step T → Me T (View I F) → ℕ → Me T (View I F) → Type 0
  reached st m r m' = ReachesAt m r m' m.0.stage

  -- where a copy was joined, the longer of the two lists is what the pass has seen; it begins with both
  abbrev pub ComparesWith : {T : Type 0} → Me T (View I F) → Me T (View I F) → List (Part I F) → Type 0
  ComparesWith m m' [] = Unit {0}
  ComparesWith m m' (c ∷ cs) =
      let list = longer m.0.main.seen c.seen in
      (m' ≡ (record m.0 { main = record m.0.main { seen = list }; others = [] }, m.1)) × BeginsWith list m.0.main.seen × BeginsWith list c.seen

  abbrev pub compared : {T : Type 0} → Step T → Me T (View I F) → ℕ → Me T (View I F) → Type 0
  compared st m r m' = ComparesWith m m' m.0.others

module _ {T I F : Type 0} (items : T → List (ℕ × I)) (fixed : T → F) where
  -- a ticket was drawn, which is the number found
  abbrev pub drew : Step T → Me T (View I F) → ℕ → Me T (View I F) → Type 0
  drew st m r m' = (k : ℕ) × (r ≡ k % 2 ^ 64) × (m' ≡ (at_stage (Waiting k) m.0, m.1))

  -- the value x fits what the part knows
  pub record Fits (p : Part I F) (x : T) : Type 0 where
    pub seen : BeginsWith (items x) p.seen
    pub own : IfSome p.number (λ n. (of_number n (items x) ≡ p.made) × (p.fixed ≡ Some (fixed x)))

  -- where the own ticket is served the value was taken, and else nothing changed
  abbrev pub LooksAt : Me T (View I F) → ℕ → Me T (View I F) → Stage I → Type 0
  LooksAt m r m' Idle = Unit {0}
  LooksAt m r m' (Waiting k) =
      (r ≡ k % 2 ^ 64 → (x : T) × (m' ≡ (at_stage (Serving k (items x)) m.0, (0, x) ∷ m.1)) × Fits m.0.main x)
      × (r ≢ k % 2 ^ 64 → m' ≡ m)
  LooksAt m r m' (Serving k list) = Unit {0}
  LooksAt m r m' (Reached k) = Unit {0}

  abbrev pub looked : Step T → Me T (View I F) → ℕ → Me T (View I F) → Type 0
  looked st m r m' = LooksAt m r m' m.0.stage

  -- the value was given back, and the turn is over
  abbrev pub GivesBack : View I F → Me T (View I F) → List (ℕ × T) → Type 0
  GivesBack v m' [] = Unit {0}
  GivesBack v m' (c ∷ more) = m' ≡ (record v { main = turned_to (items c.1) v.main; stage = Idle }, more)

  abbrev pub passed : Step T → Me T (View I F) → ℕ → Me T (View I F) → Type 0
  passed st m r m' = GivesBack m.0 m' m.1

  -- what must hold where the value is given back: it is the pass's turn, and the value has the fixed part and at most one item more than it had as it was taken
  pub record IsReady (me : Me T (View I F)) : Type 0 where
    pub ticket : ℕ
    pub list : List (ℕ × I)
    pub value : T
    pub number : ℕ
    pub stage_is : me.0.stage ≡ Serving ticket list
    pub held : me.1 ≡ (0, value) ∷ []
    pub number_is : me.0.main.number ≡ Some number
    pub alone : me.0.others ≡ []
    pub fixed_is : me.0.main.fixed ≡ Some (fixed value)
    pub adds : AddsAtMostOne number list (items value)

  -- what the rule says of the value x where the view v, whose turn it is, closes the lock
  pub record Closes (v : View I F) (x : T) : Type 0 where
    pub each : Each (λ p. Fits p x) (parts v)
    pub apart : (n : ℕ) → times n v ≤ 1
    pub complete : 0 < times 0 v → (e : ℕ × I) → Contains (items x) e → (e.0 ≡ 0) ⊎ Contains (births_of (parts v)) e.0
