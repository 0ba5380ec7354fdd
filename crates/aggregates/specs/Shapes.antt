-- The structs that keep two parts, from what the function keeps.
use Rattle.std.specs.Prelude.{ℕ, ℤ}
use Rattle.aggregates.specs.declared.mean.Mean.{Mean}
use Rattle.aggregates.specs.declared.trace.Trace.{Trace}

-- a sum and a count
abbrev pub mean_of : ℤ × ℕ → Mean
mean_of m = record { sum = m.0; count = m.1 }

-- a factor and a summand
abbrev pub trace_of : ℕ × ℕ → Trace
trace_of t = record { a = t.0; b = t.1 }
