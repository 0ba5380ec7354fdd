-- How a key lies in its cells.
use Rattle.std.specs.Prelude.{◌≡◌, ◌≤◌, ℕ, List, length, take}
use Rattle.std.proofs.Common.{sym}
use Rattle.stream_base.specs.Key.{IsKey, zero_padded}
use Rattle.stream_base.specs.declared.key_text.KeyText.TheInside.{Inside}

-- the bytes of the key
abbrev pub bytes_of : Inside → List ℕ
bytes_of a = take a.len a.cells

-- the first cells are a key, and the others are zero
pub record IsPadded (a : Inside) : Type 0 where
  pub key : IsKey (bytes_of a)
  pub within : a.len ≤ 64
  pub len : a.len ≡ length (bytes_of a)
  pub padded : a.cells ≡ zero_padded (bytes_of a)

-- the cells of a key
abbrev pub cells_of : List ℕ → Inside
cells_of key = record { cells = zero_padded key; len = length key }

pub cells_of-bytes : (a : Inside) → IsPadded a → cells_of (bytes_of a) ≡ a
cells_of-bytes a h =
    let cells : zero_padded (bytes_of a) ≡ a.cells = sym h.padded in
    let len : length (bytes_of a) ≡ a.len = sym h.len in
    λ i. record { cells = cells i; len = len i }
