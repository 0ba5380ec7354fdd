-- All passes of one desk, taken from the rows, and what a desk's journal is that was closed with them.
use Rattle.std.proofs.Common.{◌≡◌, ◌≤◌, ◌<◌, ◌+◌, ◌-◌, ℕ, List, length, take, get_or}
use Rattle.std.specs.Prelude.{Vec}
use Rattle.std.specs.declared.alloc.Global.{Global}
use Rattle.stream_base.specs.declared.entry.Entry.{Entry}
use Rattle.turnstile.specs.declared.keeps.Keeps.{Ghosts}
use Rattle.turnstile.specs.declared.pass.Pass.{Pass}
use Rattle.fan_in.specs.Closings.{last_of}
use Rattle.fan_in.specs.Desks.{BookedState}
use Rattle.fan_in.specs.declared.fixed_part.FixedPart.{FixedPart}

module _ {g : Ghosts BookedState Entry FixedPart} where
  -- the first rows lost their last passes, which stand behind pass zero
  pub record IsTaking (first_pass : Pass BookedState Entry FixedPart g) (i : ℕ) (old now : List (Vec (Pass BookedState Entry FixedPart g) Global)) (column : List (Pass BookedState Entry FixedPart g)) : Type 0 where
    pub many : length column ≡ i + 1
    pub first : (p : Pass BookedState Entry FixedPart g) → get_or column 0 p ≡ first_pass
    pub each : (k : ℕ) (row : Vec (Pass BookedState Entry FixedPart g) Global) (p : Pass BookedState Entry FixedPart g) → k < i → get_or column (k + 1) p ≡ last_of (get_or old k row).items p
    pub rows_many : length now ≡ length old
    pub rest : (k : ℕ) (row : Vec (Pass BookedState Entry FixedPart g) Global) → i ≤ k → get_or now k row ≡ get_or old k row
    pub cut : (k : ℕ) (row : Vec (Pass BookedState Entry FixedPart g) Global) → k < i → (get_or now k row).items ≡ take (length (get_or old k row).items - 1) (get_or old k row).items
