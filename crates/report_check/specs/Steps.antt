-- A journal and the entry behind it.
use Rattle.std.specs.Prelude.{◌≡◌, ◌++◌, ℕ, false, List, [], ◌∷◌}
use Rattle.stream_base.specs.declared.entry.Entry.{Entry}
use Rattle.stream_base.specs.Limits.{AreWithinLimits, Definitions}
use Rattle.stream_base.specs.Model.Watermark.{water_of}
use Rattle.stream_base.specs.Model.What.{is_late}
use Rattle.report_check.specs.Readable.{IsReadable}

-- a journal of so many sources under definitions, the entry behind it, and the watermarks before the entry and behind it
pub record Passage : Type 0 where
  pub defs : Definitions
  pub sources : ℕ
  pub past : List Entry
  pub entry : Entry
  pub old : ℕ
  pub new : ℕ

abbrev pub passage : Definitions → ℕ → List Entry → Entry → ℕ → ℕ → Passage
passage defs sources past entry old new =
    record { defs = defs; sources = sources; past = past; entry = entry; old = old; new = new }

-- the journal behind a step
abbrev pub behind : Passage → List Entry
behind s = s.past ++ s.entry ∷ []

-- a step is from a journal to one with an entry more that isn't late, and has the watermarks of both
pub record IsStep (s : Passage) : Type 0 where
  pub limits : AreWithinLimits s.defs
  pub on_time : is_late s.defs.lateness (water_of s.sources s.past) s.entry.what ≡ false
  pub old_is : s.old ≡ water_of s.sources s.past
  pub new_is : s.new ≡ water_of s.sources (behind s)
  pub readable : IsReadable (behind s)
