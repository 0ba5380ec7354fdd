-- How a text goes out to a sink.
-- `taken` says which bytes it took so far, and `faults` how many writes failed.
use Rattle.std.specs.Prelude.{◌≡◌, ◌++◌, ℕ, List, take, Result, Ok, Err}
use Rattle.outside.specs.Outside.{Rose}
use Rattle.outside.specs.declared.source.Failed.{Failed}

module _ {K : Type 0} (taken : K → List ℕ) (faults : K → ℕ) where
  -- the whole text went out, behind what was written before, and no write failed
  pub record Appends (text : List ℕ) (old new : K) : Type 0 where
    pub appended : taken new ≡ taken old ++ text
    pub quiet : faults new ≡ faults old

  -- a prefix of the text went out, and no write failed; `left` is what is left of the text
  pub record AppendsPrefix (text left : List ℕ) (old new : K) : Type 0 where
    pub prefix : List ℕ
    pub splits : text ≡ prefix ++ left
    pub appended : taken new ≡ taken old ++ prefix
    pub quiet : faults new ≡ faults old

  -- a write failed, and some number of the text's first bytes went out before it
  pub record Fails (text : List ℕ) (old new : K) : Type 0 where
    pub count : ℕ
    pub appended : taken new ≡ taken old ++ take count text
    pub failed : Rose (faults old) (faults new)

  -- the text is written whole; or a write fails
  abbrev pub Writes : List ℕ → K → K → Result (Unit {0}) Failed → Type 0
  Writes text old new (Ok done) = Appends text old new
  Writes text old new (Err fault) = Fails text old new
