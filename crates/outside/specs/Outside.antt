-- What calls on the outside do to bytes, to counts and to what is logged.
use Rattle.std.specs.Prelude.{◌≡◌, ◌≤◌, ◌<◌, ◌⊎◌, ◌++◌, ◌==◌, ℕ, Bool, true, false, List, [], ◌∷◌, if◌then◌else◌}

-- a count of faults rose: it grew, or it stands at its last value
abbrev pub Rose : ℕ → ℕ → Type 0
Rose before after = (before < after) ⊎ (after ≡ 18446744073709551615)

-- what was read of a source: the number of the open that it came from, all that it gave so far, in order, whether the last read that had room gave nothing, and how many reads have failed
pub record Reads : Type 0 where
  pub place : ℕ
  pub given : List ℕ
  pub ended : Bool
  pub faults : ℕ

-- nothing was read of the source of this open yet
abbrev pub nothing_read : ℕ → Reads
nothing_read place = record { place = place; given = []; ended = false; faults = 0 }

-- the list is empty
abbrev pub is_nothing : List ℕ → Bool
is_nothing [] = true
is_nothing (byte ∷ bytes) = false

-- one read with this room gave these bytes: nothing, where there was room, is the end
abbrev pub with_read : ℕ → List ℕ → Reads → Reads
with_read room bytes reads =
    record reads { given = reads.given ++ bytes; ended = if room == 0 then reads.ended else is_nothing bytes }

-- one read failed: nothing was given, and the count rose
pub record HasFailed (old new : Reads) : Type 0 where
  pub same : new ≡ record old { faults = new.faults }
  pub rose : Rose old.faults new.faults
  pub never_falls : old.faults ≤ new.faults

-- a source that tells its bytes gives them in order, and all of them up to its end
pub record KeepsWord (reads : Reads) (bytes : List ℕ) : Type 0 where
  pub left : List ℕ
  pub parts : bytes ≡ reads.given ++ left
  pub all : reads.ended ≡ true → left ≡ []

-- what became of an open: none was asked for, it was refused, its source is out, or that came back with what was read of it
pub data Came : Type 0 where
  unasked : Came
  refused : Came
  out : Came
  back : Reads → Came

-- what became of each open, with this of one number
abbrev pub with_came : ℕ → Came → (ℕ → Came) → ℕ → Came
with_came place came others i = if i == place then came else others i
