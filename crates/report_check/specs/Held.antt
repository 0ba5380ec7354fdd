-- A key with its plain lists.
use Rattle.std.specs.Prelude.{ℕ, List}
use Rattle.stream_base.specs.declared.kept.Kept.{Kept}

-- a key, what is kept of it in event order, and its marks, rising
pub record Held : Type 0 where
  pub key : List ℕ
  pub kept : List Kept
  pub marks : List ℕ
