-- The least and the greatest of some values as two numbers.
use Rattle.std.proofs.Common.{◌≡◌, ℤ, pos, negsuc, Bool, true, false, Option, None, Some, sym, refl}
use Rattle.std.specs.Prelude.{FitsSigned, int_lt, unwrap_or, if◌then◌else◌}
use Rattle.std.specs.Int.{w64}
use Rattle.aggregates.specs.declared.extremes.Extremes.TheInside.{Inside}

-- one of them, none where the greatest lies below the least
abbrev pub picked : Inside → ℤ → Option ℤ
picked a value = if int_lt a.most a.least then None else Some value

-- the least and the greatest
abbrev pub range_of : Inside → Option ℤ × Option ℤ
range_of a = (picked a a.least, picked a a.most)

-- both are numbers of 64 bits, and of no values the least is above every other and the greatest below
pub record AreExtremes (a : Inside) : Type 0 where
  pub least : FitsSigned w64 a.least
  pub most : FitsSigned w64 a.most
  pub none : int_lt a.most a.least ≡ true → (a.least ≡ pos 9223372036854775807) × (a.most ≡ negsuc 9223372036854775807)

abbrev pub extremes_of : Option ℤ × Option ℤ → Inside
extremes_of r = record { least = unwrap_or r.0 (pos 9223372036854775807); most = unwrap_or r.1 (negsuc 9223372036854775807) }

shown_back : (b : Bool) (value end : ℤ) → (b ≡ true → value ≡ end) → unwrap_or (if b then None else Some value) end ≡ value
shown_back true value end h = sym (h refl)
shown_back false value end h = refl

pub extremes_of-range : (a : Inside) → AreExtremes a → extremes_of (range_of a) ≡ a
extremes_of-range a h =
    let least : unwrap_or (picked a a.least) (pos 9223372036854775807) ≡ a.least = shown_back (int_lt a.most a.least) a.least (pos 9223372036854775807) (λ e. (h.none e).0) in
    let most : unwrap_or (picked a a.most) (negsuc 9223372036854775807) ≡ a.most = shown_back (int_lt a.most a.least) a.most (negsuc 9223372036854775807) (λ e. (h.none e).1) in
    λ i. record { least = least i; most = most i }
