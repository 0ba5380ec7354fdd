-- Where the slices of a key are cut.
use Rattle.std.specs.Prelude.{◌≤◌, ◌<◌, ◌||◌, ◌&&◌, ◌⊎◌, ℕ, Bool, List, nat_lt, nat_le}
use Rattle.std.specs.List.{Any, list_any}
use Rattle.stream_base.specs.declared.def.Def.{Def}
use Rattle.stream_base.specs.Kinds.{CutsBetween, cuts_between}

-- there is a cut between two times, the first at or before the second: a window cuts between them, or a mark lies after the first and at or before the second
abbrev pub HasCut : List Def → List ℕ → ℕ → ℕ → Type 0
HasCut windows marks low high = Any (λ w. CutsBetween w.kind low high) windows ⊎ Any (λ mark. (low < mark) × (mark ≤ high)) marks

-- whether there is a cut, as it is computed
abbrev pub has_cut : List Def → List ℕ → ℕ → ℕ → Bool
has_cut windows marks low high =
    list_any (λ w. cuts_between w.kind low high) windows || list_any (λ m. nat_lt low m && nat_le m high) marks
