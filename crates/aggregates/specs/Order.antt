-- Which functions a partial shows, and those of which the order of values makes no difference.
use Rattle.std.specs.Prelude.{◌≡◌}
use Rattle.stream_base.specs.declared.func.Func.{Func}
use Rattle.stream_base.specs.declared.func.Func.TheVariants.{Count, Sum, Min, Max, Mean, First, Last, Rises, Trace}

-- of two values it makes no difference which comes first
abbrev pub Commutes : {M : Type 0} → (M → Type 0) → (M → M → M) → Type 0
Commutes {M} IsValue op = (x y : M) → IsValue x → IsValue y → op x y ≡ op y x

-- every function
abbrev pub IsAny : Func → Type 0
IsAny func = Unit {0}

-- a function of which the order of values makes no difference
abbrev pub IsOrderFree : Func → Type 0
IsOrderFree Count = Unit {0}
IsOrderFree Sum = Unit {0}
IsOrderFree Min = Unit {0}
IsOrderFree Max = Unit {0}
IsOrderFree Mean = Unit {0}
IsOrderFree First = ⊥
IsOrderFree Last = ⊥
IsOrderFree Rises = ⊥
IsOrderFree Trace = ⊥
