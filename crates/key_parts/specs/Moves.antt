-- What becomes of the store of a key where a tuple or a mark comes, and where settled slices leave.
use Rattle.std.specs.Prelude.{◌≡◌, ◌≤◌, ◌<◌, ◌+◌, ◌-◌, ℕ, true, false, [], length, All}
use Rattle.std.specs.BTreeSet.{insert_key}
use Rattle.std.specs.List.{Contains, flat_map, list_all}
use Rattle.std.specs.List.Sorted.{IsStrictlyIncreasing}
use Rattle.std.specs.Ordering.{nat_cmp}
use Rattle.stream_base.specs.Limits.{Definitions}
use Rattle.stream_base.specs.declared.def.Def.{Def}
use Rattle.stream_base.specs.declared.kept.Kept.{Kept}
use Rattle.stream_base.specs.declared.limits.TheConstants.{JOURNAL_MAX, TIME_MAX}
use Rattle.stream_base.specs.Model.Changes.{Moment}
use Rattle.stream_base.specs.Model.Journal.{put_in_order}
use Rattle.stream_base.specs.Model.Slices.{is_settled_in}
use Rattle.stream_base.specs.Kinds.{is_events}
use Rattle.window_laws.specs.Positions.{AreKept}
use Rattle.slice_lists.specs.Runs.{parted_at}
use Rattle.slice_lists.specs.Touched.{slices_from}
use Rattle.agg_store.specs.Entered.{IsPut}
use Rattle.agg_store.specs.Stored.{IsSliced, IsStore, Stored, tuples_of}
use Rattle.key_parts.specs.Held.{IsHeld}

-- what a key's lists keep beside their order: each tuple has a position of its own below the next one, times are within the limit, and there are few tuples
pub record AreLists (m : Moment) (next : ℕ) : Type 0 where
  pub kept : AreKept m.kept
  pub times : All (λ x. x.time ≤ TIME_MAX) m.kept
  pub below : All (λ x. x.position < next) m.kept
  pub few : length m.kept ≤ next
  pub most : next ≤ JOURNAL_MAX
  pub rising : IsStrictlyIncreasing m.marks
  pub mark_times : All (λ mark. mark ≤ TIME_MAX) m.marks

-- the store took the tuple in
pub record IsStored (d : Definitions) (before : Stored) (x : Kept) (after : Stored) : Type 0 where
  pub put : IsPut d.windows before x after
  pub tuples : tuples_of after ≡ put_in_order (tuples_of before) x
  pub sliced : IsSliced d.windows after
  pub marks : after.marks ≡ before.marks
  pub dropped : after.dropped ≡ before.dropped

-- each window counts events
abbrev pub all_count_events : Definitions → Type 0
all_count_events d = list_all (λ w. is_events w.kind) d.windows ≡ true

-- a tuple comes: where some window doesn't count events the store took it in, and else it is settled at once and the store stays as it was
pub data Comes (d : Definitions) (n : ℕ) (before : Stored) (x : Kept) : ℕ → Stored → Type 0 where
  Enters : {after : Stored} → list_all (λ w. is_events w.kind) d.windows ≡ false → IsStored d before x after → Comes d n before x n after
  Leaves : all_count_events d → before.slices ≡ [] → Comes d n before x (n + 1) before

-- a tuple at the next position that isn't late comes to a key
pub record IsPutStep (d : Definitions) (m : Moment) (n : ℕ) (before : Stored) (x : Kept) (more : ℕ) (after : Stored) : Type 0 where
  pub lists : AreLists m x.position
  pub next : x.position < JOURNAL_MAX
  pub time : x.time ≤ TIME_MAX
  pub in_time : m.water ≤ x.time + d.lateness
  pub store : IsStore before
  pub held : IsHeld d m n before
  pub comes : Comes d n before x more after

-- a mark that isn't late comes to a key, and the store took it in
pub record IsMarkStep (d : Definitions) (m : Moment) (n : ℕ) (before : Stored) (time : ℕ) (after : Stored) : Type 0 where
  pub lists : (next : ℕ) × AreLists m next
  pub early : time ≤ TIME_MAX
  pub in_time : m.water ≤ time + d.lateness
  pub store : IsStore before
  pub held : IsHeld d m n before
  pub tuples : tuples_of after ≡ tuples_of before
  pub slices : after.slices ≡ flat_map (parted_at time) before.slices
  pub sliced : IsSliced d.windows after
  pub marks : after.marks ≡ insert_key nat_cmp before.marks time
  pub dropped : after.dropped ≡ before.dropped

-- up to a time and no further the tuples of a key are settled in a window
pub record SettlesUpTo (lateness : ℕ) (m : Moment) (w : Def) (time : ℕ) : Type 0 where
  pub before : (x : Kept) → Contains m.kept x → x.time < time → is_settled_in lateness m x w ≡ true
  pub behind : (x : Kept) → Contains m.kept x → time ≤ x.time → is_settled_in lateness m x w ≡ false

-- the slices before a time leave, at or before the watermark minus the lateness
pub record IsPurge (d : Definitions) (m : Moment) (n : ℕ) (before : Stored) (time more : ℕ) (after : Stored) : Type 0 where
  pub lists : (next : ℕ) × AreLists m next
  pub bounded : time ≤ m.water - d.lateness
  pub store : IsStore before
  pub held : IsHeld d m n before
  pub slices : after.slices ≡ slices_from time before.slices
  pub still_held : IsHeld d m more after
