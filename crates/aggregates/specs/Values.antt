-- Which numbers make a value of an aggregate function: each part lies within its type.
use Rattle.std.specs.Prelude.{◌<◌, ◌^◌, ℕ, ℤ, Option, IfSome, FitsSigned}
use Rattle.std.specs.Int.{w64, w128}

-- a count of 64 bits
abbrev pub IsCount : ℕ → Type 0
IsCount n = n < 2 ^ 64

-- a sum of 128 bits
abbrev pub IsSum : ℤ → Type 0
IsSum z = FitsSigned w128 z

-- none, or a number of 64 bits
abbrev pub IsPick : Option ℤ → Type 0
IsPick o = IfSome o (λ v. FitsSigned w64 v)

-- a sum and a count
abbrev pub IsMean : ℤ × ℕ → Type 0
IsMean m = IsSum m.0 × IsCount m.1

-- none, or a run's first number, its last and its rises
abbrev pub IsRun : Option (ℤ × ℤ × ℕ) → Type 0
IsRun o = IfSome o (λ r. FitsSigned w64 r.0 × FitsSigned w64 r.1 × IsCount r.2)

-- a factor and a summand modulo 2^64
abbrev pub IsTrace : ℕ × ℕ → Type 0
IsTrace t = IsCount t.0 × IsCount t.1
