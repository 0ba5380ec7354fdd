-- The first span that ends after a time, and the last that starts by one.
use Rattle.std.specs.Prelude.{◌-◌, ◌^◌, ℕ, List, Option, filter, find, fold, max, nat_le, nat_lt}
use Rattle.std.specs.Option.{option_map_or}
use Rattle.window_spans.specs.declared.span.Span.{Span}

-- the first of some spans that ends after a time, if there is one
abbrev pub first_after : ℕ → List Span → Option Span
first_after time spans = find (λ s. nat_lt time s.high) spans

-- its end, and the greatest number of 64 bits where there is none
abbrev pub end_after : ℕ → List Span → ℕ
end_after time spans = option_map_or (λ s. s.high) (first_after time spans) (2 ^ 64 - 1)

-- its start, and the greatest number of 64 bits where there is none
abbrev pub start_after : ℕ → List Span → ℕ
start_after time spans = option_map_or (λ s. s.low) (first_after time spans) (2 ^ 64 - 1)

-- the greatest end of those spans that start at or before a time, and 0 where there is none
abbrev pub end_of_last_begun : ℕ → List Span → ℕ
end_of_last_begun time spans =
    fold (λ end s. max end s.high) 0 (filter (λ s. nat_le s.low time) spans)
