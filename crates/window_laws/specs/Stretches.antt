-- What becomes of the intervals between marks where a tuple or a mark comes.
use Rattle.std.specs.Prelude.{◌≡◌, ◌≤◌, ◌<◌, ◌++◌, ℕ, List, [], ◌∷◌, filter, fold, map, max, min, nat_le, nat_lt, All, if◌then◌else◌}
use Rattle.std.specs.BTreeSet.{insert_key}
use Rattle.std.specs.Ordering.{nat_cmp}
use Rattle.stream_base.specs.declared.change.Change.{Change}
use Rattle.stream_base.specs.declared.change.Change.TheVariants.{Gone, New}
use Rattle.stream_base.specs.declared.func.Func.{Func}
use Rattle.stream_base.specs.declared.kept.Kept.{Kept}
use Rattle.stream_base.specs.declared.limits.TheConstants.{FINAL}
use Rattle.stream_base.specs.Model.Changes.{Moment, row_of}
use Rattle.stream_base.specs.Model.Journal.{put_in_order}
use Rattle.stream_base.specs.Model.Windows.{Instance, interval, is_selecting, stretches}
use Rattle.window_laws.specs.After.{complete_at}
use Rattle.window_laws.specs.Late.{interval_change}

-- the least mark after a time, and the final time where there is none
abbrev pub next_mark : List ℕ → ℕ → ℕ
next_mark marks time = fold min FINAL (filter (λ mark. nat_lt time mark) marks)

-- the greatest mark at or before a time, and 0 where there is none
abbrev pub last_mark : List ℕ → ℕ → ℕ
last_mark marks time = fold max 0 (filter (λ mark. nat_le mark time) marks)

-- the interval over tuples, if it selects one
abbrev pub if_selecting : ℕ → ℕ → List Kept → List Instance
if_selecting low high kept = filter is_selecting (interval low high kept ∷ [])

-- the interval that holds the tuple selects it too; those in front and behind stay
pub record IsPutInStretches (kept : List Kept) (x : Kept) (old new : List Instance) : Type 0 where
  pub low : ℕ
  pub high : ℕ
  pub front : List Instance
  pub back : List Instance
  pub starts : low ≤ x.time
  pub ends : x.time < high
  pub was : old ≡ front ++ (if_selecting low high kept ++ back)
  pub is : new ≡ front ++ (interval low high (put_in_order kept x) ∷ back)
  pub end_before : All (λ i. i.high ≤ low) front
  pub start_behind : All (λ i. high ≤ i.low) back

-- the interval that holds the mark gives way to its two parts, of which the first is empty where it begins at the mark; those in front and behind stay
pub record IsMarkedInStretches (kept : List Kept) (time : ℕ) (old new : List Instance) : Type 0 where
  pub low : ℕ
  pub high : ℕ
  pub front : List Instance
  pub back : List Instance
  pub starts : low ≤ time
  pub ends : time < high
  pub was : old ≡ front ++ (if_selecting low high kept ++ back)
  pub is : new ≡ front ++ ((if_selecting low time kept ++ if_selecting time high kept) ++ back)
  pub end_before : All (λ i. i.high ≤ low) front
  pub start_behind : All (λ i. high ≤ i.low) back

-- a tuple retracts no interval between marks, and changes the one that holds it, if that is complete
pub record AreChangesOfHolder (window : ℕ) (key : List ℕ) (func : Func) (m : Moment) (x : Kept) (gone come : List Change) : Type 0 where
  pub put : IsPutInStretches m.kept x (stretches m.marks m.kept)
      (stretches m.marks (put_in_order m.kept x))
  pub goes : gone ≡ []
  pub comes : come
      ≡ (if nat_le put.high m.water then interval_change window key func put.low put.high m.kept x ∷ []
      else [])

-- a mark at a known edge changes nothing; inside an interval it retracts it where it stood, and emits each part that stands
pub record AreChangesOfParting (window : ℕ) (key : List ℕ) (func : Func) (m : Moment) (time : ℕ) (gone come : List Change) : Type 0 where
  pub marked : IsMarkedInStretches m.kept time (stretches m.marks m.kept)
      (stretches (insert_key nat_cmp m.marks time) m.kept)
  pub edge_goes : marked.low ≡ time → gone ≡ []
  pub edge_comes : marked.low ≡ time → come ≡ []
  pub goes : marked.low < time
      → gone ≡ map (λ i. Gone (row_of window key func i))
      (complete_at m.water (if_selecting marked.low marked.high m.kept))
  pub comes : marked.low < time
      → come ≡ map (λ i. New (row_of window key func i))
      (complete_at m.water
      (if_selecting marked.low time m.kept ++ if_selecting time marked.high m.kept))
