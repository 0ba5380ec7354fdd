-- The desks are closed from the last one down, and each takes the last pass of each row.
use Rattle.std.specs.Prelude.{◌≡◌, ◌≤◌, ◌<◌, ◌+◌, ◌-◌, ℕ, List, length, take, All, Option, IfSome, slice_index_or, Vec}
use Rattle.std.specs.declared.alloc.Global.{Global}
use Rattle.stream_base.specs.declared.entry.Entry.{Entry}
use Rattle.stream_base.specs.declared.limits.TheConstants.{JOURNAL_MAX}
use Rattle.stream_base.specs.Model.Routes.{entries_from}
use Rattle.shard_core.specs.Shard.{Sharded}
use Rattle.turnstile.specs.declared.keeps.Keeps.{Ghosts}
use Rattle.turnstile.specs.declared.pass.Pass.{Pass}
use Rattle.turnstile.specs.declared.turnstile.Turnstile.{Turnstile}
use Rattle.turnstile.specs.Passes.{made, seen}
use Rattle.fan_in.specs.Desks.{BookedState, booked_items}
use Rattle.fan_in.specs.Floors.{AreSeats, AreZeros, IsSeat, known_in}
use Rattle.fan_in.specs.Gathering.{IsGathered}
use Rattle.fan_in.specs.declared.fixed_part.FixedPart.{FixedPart}
use Rattle.fan_in.specs.declared.turns.floor.Floor.{Floor}
use Rattle.fan_in.specs.declared.plan.Plan.{Plan}

-- the shard of a closed desk
pub record IsClosed (f : Option FixedPart) (shard : Sharded) : Type 0 where
  pub gathered : IfSome f (λ f. IsGathered f.defs f.sources shard)
  pub short : length shard.journal ≤ JOURNAL_MAX

module _ {g : Ghosts BookedState Entry FixedPart} where
  -- what a shard's journal has of a source is what the source's pass made, and it is no shorter than the list that the pass has seen
  pub record IsSettled (shard : Sharded) (source : ℕ) (pass : Pass BookedState Entry FixedPart g) : Type 0 where
    pub journal : entries_from source shard.journal ≡ made pass
    pub seen_of : length (seen pass) ≤ length shard.journal

  -- the last pass of a row
  abbrev pub last_of : List (Pass BookedState Entry FixedPart g) → Pass BookedState Entry FixedPart g → Pass BookedState Entry FixedPart g
  last_of row p = slice_index_or row (length row - 1) p

  -- the last pass of a source's row is its seat at this desk, and made entries of the source alone
  pub record EndsAt (desk : Turnstile BookedState Entry FixedPart) (f : Option FixedPart) (source : ℕ) (row : List (Pass BookedState Entry FixedPart g)) : Type 0 where
    pub some : 0 < length row
    pub seat : (p : Pass BookedState Entry FixedPart g) → IsSeat desk f source (last_of row p)
    pub own : (p : Pass BookedState Entry FixedPart g) → All (λ e. e.source ≡ source) (made (last_of row p))

  -- so does each row
  abbrev pub EndAt : Turnstile BookedState Entry FixedPart → Option FixedPart → List (Vec (Pass BookedState Entry FixedPart g) Global) → Type 0
  EndAt desk f rows = (i : ℕ) (row : Vec (Pass BookedState Entry FixedPart g) Global) → i < length rows → EndsAt desk f i (slice_index_or rows i row).items

  -- each row lost its last pass
  pub record LoseLast (old new : List (Vec (Pass BookedState Entry FixedPart g) Global)) : Type 0 where
    pub many : length new ≡ length old
    pub each : (i : ℕ) (row : Vec (Pass BookedState Entry FixedPart g) Global) → i < length old
        → (slice_index_or new i row).items ≡ take (length (slice_index_or old i row).items - 1) (slice_index_or old i row).items

  -- pass zero, and behind it the last pass of each row
  pub record IsColumn (zero : Pass BookedState Entry FixedPart g) (rows : List (Vec (Pass BookedState Entry FixedPart g) Global)) (column : List (Pass BookedState Entry FixedPart g)) : Type 0 where
    pub many : length column ≡ length rows + 1
    pub first : (p : Pass BookedState Entry FixedPart g) → slice_index_or column 0 p ≡ zero
    pub each : (i : ℕ) (row : Vec (Pass BookedState Entry FixedPart g) Global) (p : Pass BookedState Entry FixedPart g) → i < length rows
        → slice_index_or column (i + 1) p ≡ last_of (slice_index_or rows i row).items p

  -- a shard is settled with the last pass of each row
  abbrev pub SettlesLast : Sharded → List (Vec (Pass BookedState Entry FixedPart g) Global) → Type 0
  SettlesLast shard rows = (i : ℕ) (row : Vec (Pass BookedState Entry FixedPart g) Global) (p : Pass BookedState Entry FixedPart g) → i < length rows → IsSettled shard i (last_of (slice_index_or rows i row).items p)

  -- the shards of all desks: each is settled with the passes of its desk
  pub record AreClosed (f : Option FixedPart) (rows : List (Vec (Pass BookedState Entry FixedPart g) Global)) (shards : List Sharded) : Type 0 where
    pub closed : All (IsClosed f) shards
    pub settled : (k i : ℕ) (s : Sharded) (row : Vec (Pass BookedState Entry FixedPart g) Global) (p : Pass BookedState Entry FixedPart g) → k < length shards → i < length rows
        → IsSettled (slice_index_or shards k s) i (slice_index_or (slice_index_or rows i row).items k p)

  -- the passes made entries of this source alone
  abbrev pub MadeOwn : ℕ → List (Pass BookedState Entry FixedPart g) → Type 0
  MadeOwn source passes = All (λ p. All (λ e. e.source ≡ source) (made p)) passes

  -- desks with pass zero of each, and rows of their passes, one a source, which made entries of their source alone
  pub record AreStanding (f : Option FixedPart) (sources : ℕ) (desks : List (Turnstile BookedState Entry FixedPart)) (zeros : List (Pass BookedState Entry FixedPart g)) (rows : List (Vec (Pass BookedState Entry FixedPart g) Global)) : Type 0 where
    pub zeros_are : AreZeros f sources desks zeros
    pub many : length rows ≡ sources
    pub rows_are : (i : ℕ) (row : Vec (Pass BookedState Entry FixedPart g) Global) → i < sources → AreSeats f i desks (slice_index_or rows i row).items
    pub own : (i : ℕ) (row : Vec (Pass BookedState Entry FixedPart g) Global) → i < sources → MadeOwn i (slice_index_or rows i row).items

-- a floor of this plan, whose rows of passes made entries of their sources alone
abbrev pub IsStandingOf : Plan → Floor → List (Vec (Pass BookedState Entry FixedPart booked_items) Global) → Type 0
IsStandingOf plan floor rows = AreStanding (known_in plan) plan.sources floor.desks.items floor.zeros.items rows
