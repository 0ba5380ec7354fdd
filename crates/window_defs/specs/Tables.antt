-- What stands at the keys of a TOML table.
use Rattle.std.specs.Prelude.{ℕ, ℤ, pos, Bool, false, not, ◌||◌, List, [], ◌∷◌, Option, Some}
use Rattle.std.specs.Option.{option_and_then, option_map_or}
use Rattle.toml.specs.Data.{Data, Items, no_items, item, Members, no_members, member, get_member, as_str, as_integer, as_array}

-- the string at a key
abbrev pub text_at : List ℕ → Members → Option (List ℕ)
text_at key fields = option_and_then as_str (get_member key fields)

-- the integer at a key
abbrev pub integer_at : List ℕ → Members → Option ℤ
integer_at key fields = option_and_then as_integer (get_member key fields)

-- the integer at a key, and 0 where the key is missing; what is there and no integer gives none
abbrev pub integer_or_zero : List ℕ → Members → Option ℤ
integer_or_zero key fields = option_map_or as_integer (get_member key fields) (Some (pos 0))

-- the elements of an array
abbrev pub elements_of : Items → List Data
elements_of no_items = []
elements_of (item value rest) = value ∷ elements_of rest

-- the elements of the array at a key
abbrev pub array_at : List ℕ → Members → Option (List Data)
array_at key fields = option_and_then (λ value. option_and_then (λ items. Some (elements_of items)) (as_array value)) (get_member key fields)

-- a key is there that isn't known
abbrev pub has_other : (List ℕ → Bool) → Members → Bool
has_other is_known no_members = false
has_other is_known (member key value rest) = not (is_known key) || has_other is_known rest
