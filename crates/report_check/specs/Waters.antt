-- The least of watermarks, where there is one.
use Rattle.std.specs.Prelude.{ℕ, List, Option, None, Some, fold, min}
use Rattle.stream_base.specs.Model.Watermark.{least_or_zero}

-- the lesser of a watermark and one more
abbrev pub lesser : Option ℕ → ℕ → ℕ
lesser None water = water
lesser (Some least) water = min least water

-- the least of a watermark and further ones
abbrev pub least_with : Option ℕ → List ℕ → ℕ
least_with None waters = least_or_zero waters
least_with (Some least) waters = fold min least waters
