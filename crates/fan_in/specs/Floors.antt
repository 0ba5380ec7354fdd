-- The desks of all shards, pass zero of each, and for each source a row of passes, one of each desk.
use Rattle.std.specs.Prelude.{◌≡◌, ◌≤◌, ◌<◌, ◌+◌, ◌++◌, ℕ, List, [], ◌∷◌, length, All, Option, Some, slice_index_or, Vec}
use Rattle.std.specs.declared.alloc.Global.{Global}
use Rattle.stream_base.specs.declared.entry.Entry.{Entry}
use Rattle.turnstile.specs.declared.keeps.Keeps.{Ghosts}
use Rattle.turnstile.specs.declared.pass.Pass.{Pass}
use Rattle.turnstile.specs.declared.turnstile.Turnstile.{Turnstile}
use Rattle.turnstile.specs.Passes.{number, fixed, made, born, IsPassOf}
use Rattle.fan_in.specs.Desks.{BookedState, booked_items}
use Rattle.fan_in.specs.declared.fixed_part.FixedPart.{FixedPart}
use Rattle.fan_in.specs.declared.turns.floor.Floor.{Floor}
use Rattle.fan_in.specs.declared.plan.Plan.{Plan}

module _ {g : Ghosts BookedState Entry FixedPart} where
  -- pass zero of a desk, which made nothing and gave its numbers to the passes of so many sources
  pub record IsZero (desk : Turnstile BookedState Entry FixedPart) (f : Option FixedPart) (sources : ℕ) (pass : Pass BookedState Entry FixedPart g) : Type 0 where
    pub own : IsPassOf desk pass
    pub number_is : number pass ≡ 0
    pub fixed_is : fixed pass ≡ f
    pub made_none : made pass ≡ []
    pub born_are : All (λ n. (0 < n) × (n ≤ sources)) (born pass)

  -- the pass of a source at a desk: its number is one above the source's
  pub record IsSeat (desk : Turnstile BookedState Entry FixedPart) (f : Option FixedPart) (source : ℕ) (pass : Pass BookedState Entry FixedPart g) : Type 0 where
    pub own : IsPassOf desk pass
    pub number_is : number pass ≡ source + 1
    pub fixed_is : fixed pass ≡ f
    pub born_none : born pass ≡ []

  -- pass zero of each desk
  pub record AreZeros (f : Option FixedPart) (sources : ℕ) (desks : List (Turnstile BookedState Entry FixedPart)) (zeros : List (Pass BookedState Entry FixedPart g)) : Type 0 where
    pub many : length zeros ≡ length desks
    pub each : (k : ℕ) (d : Turnstile BookedState Entry FixedPart) (p : Pass BookedState Entry FixedPart g) → k < length desks
        → IsZero (slice_index_or desks k d) f sources (slice_index_or zeros k p)

  -- the passes of one source, one of each desk
  pub record AreSeats (f : Option FixedPart) (source : ℕ) (desks : List (Turnstile BookedState Entry FixedPart)) (row : List (Pass BookedState Entry FixedPart g)) : Type 0 where
    pub many : length row ≡ length desks
    pub each : (k : ℕ) (d : Turnstile BookedState Entry FixedPart) (p : Pass BookedState Entry FixedPart g) → k < length desks
        → IsSeat (slice_index_or desks k d) f source (slice_index_or row k p)

  -- a row got the pass of a source at one desk more, which made nothing yet
  pub record GainsSeat (desk : Turnstile BookedState Entry FixedPart) (f : Option FixedPart) (source : ℕ) (old new : List (Pass BookedState Entry FixedPart g)) : Type 0 where
    pub pass : Pass BookedState Entry FixedPart g
    pub adds : new ≡ old ++ pass ∷ []
    pub seat : IsSeat desk f source pass
    pub made_none : made pass ≡ []

  -- each row got the pass of its source
  abbrev pub GainSeats : Turnstile BookedState Entry FixedPart → Option FixedPart → List (Vec (Pass BookedState Entry FixedPart g) Global) → List (Vec (Pass BookedState Entry FixedPart g) Global) → Type 0
  GainSeats desk f old new = (i : ℕ) (row : Vec (Pass BookedState Entry FixedPart g) Global) → i < length old → GainsSeat desk f i (slice_index_or old i row).items (slice_index_or new i row).items

  -- all desks that were opened so far, with the passes of so many sources
  pub record IsFloor (f : Option FixedPart) (sources : ℕ) (desks : List (Turnstile BookedState Entry FixedPart)) (zeros : List (Pass BookedState Entry FixedPart g)) (rows : List (Vec (Pass BookedState Entry FixedPart g) Global)) : Type 0 where
    pub zeros_are : AreZeros f sources desks zeros
    pub many : length rows ≡ sources
    pub rows_are : (i : ℕ) (row : Vec (Pass BookedState Entry FixedPart g) Global) → i < sources → AreSeats f i desks (slice_index_or rows i row).items
    pub blank : (i : ℕ) (row : Vec (Pass BookedState Entry FixedPart g) Global) → i < sources → All (λ p. made p ≡ []) (slice_index_or rows i row).items

-- what each desk of a plan knows
abbrev pub known_in : Plan → Option FixedPart
known_in plan = Some (record { defs = plan.defs; sources = plan.sources })

-- a floor of this plan, of the desks that were opened so far, and the rows of their passes
abbrev pub IsFloorOf : Plan → Floor → List (Vec (Pass BookedState Entry FixedPart booked_items) Global) → Type 0
IsFloorOf plan floor rows = IsFloor (known_in plan) plan.sources floor.desks.items floor.zeros.items rows
