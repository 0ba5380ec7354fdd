-- Bytes in pieces.
use Rattle.std.specs.Prelude.{◌<◌, ℕ, List, [], length, Option, None, Some, All, Vec}
use Rattle.std.specs.List.{flat_map}
use Rattle.std.specs.declared.alloc.Global.{Global}

-- the bytes of pieces, one behind the other
abbrev pub bytes_in : List (Vec ℕ Global) → List ℕ
bytes_in pieces = flat_map (λ piece. piece.items) pieces

-- the bytes of a piece, if there is one
abbrev pub bytes_of : Option (Vec ℕ Global) → List ℕ
bytes_of None = []
bytes_of (Some piece) = piece.items

-- no piece is empty
abbrev pub AreFull : List (Vec ℕ Global) → Type 0
AreFull pieces = All (λ piece. 0 < length piece.items) pieces
