-- What of a store of slices is asked where instances are told from it.
use Rattle.std.specs.Prelude.{◌≡◌, List, [], ◌∷◌, All}
use Rattle.stream_base.specs.declared.kept.Kept.{Kept}
use Rattle.stream_base.specs.Model.Windows.{Instance, within}
use Rattle.slice_lists.specs.Runs.{IsAligned}
use Rattle.agg_store.specs.Stored.{Stored, tuples_of}
use Rattle.window_spans.specs.declared.span.Span.{Span}
use Rattle.window_spans.specs.Spans.{span_of}

-- no slice has tuples on both sides of the start or of the end of a span
pub record IsAlignedWith (slices : List (List Kept)) (s : Span) : Type 0 where
  pub low : IsAligned slices s.low
  pub high : IsAligned slices s.high

abbrev pub AreAlignedWith : List (List Kept) → List Span → Type 0
AreAlignedWith slices spans = All (IsAlignedWith slices) spans

-- the store holds exactly the tuples that an instance over this span selects
pub record IsHeld (s : Span) (store : Stored) (i : Instance) : Type 0 where
  pub span : span_of i ≡ s
  pub chosen : within i.low i.high (tuples_of store) ≡ i.chosen

-- the same of each of some spans and its instance
abbrev pub AreHeld : List Span → Stored → List Instance → Type 0
AreHeld [] store [] = Unit {0}
AreHeld [] store (i ∷ is) = ⊥
AreHeld (s ∷ ss) store [] = ⊥
AreHeld (s ∷ ss) store (i ∷ is) = IsHeld s store i × AreHeld ss store is
