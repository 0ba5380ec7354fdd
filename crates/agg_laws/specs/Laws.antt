-- What a monoid is, and what values in order come to.
use Rattle.std.specs.Prelude.{◌≡◌, List, fold}

-- the unit is a value, two values combine to a value, the unit changes no value on either side, and of three values it doesn't matter which two are combined first
pub record MonoidLaws {M : Type 0} (IsValue : M → Type 0) (empty : M) (op : M → M → M) : Type 0 where
  pub unit_is_value : IsValue empty
  pub closed : (x y : M) → IsValue x → IsValue y → IsValue (op x y)
  pub left_unit : (x : M) → IsValue x → op empty x ≡ x
  pub right_unit : (x : M) → IsValue x → op x empty ≡ x
  pub assoc : (x y z : M) → IsValue x → IsValue y → IsValue z → op (op x y) z ≡ op x (op y z)

-- the values combined in order, from the unit
abbrev pub total : {M : Type 0} → M → (M → M → M) → List M → M
total empty op values = fold op empty values
