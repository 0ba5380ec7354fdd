-- What is known of the keys of a journal, kept as plain lists, and one entry more.
use Rattle.std.specs.Prelude.{◌≡◌, ◌++◌, ℕ, List, [], ◌∷◌, map, All}
use Rattle.std.specs.BTreeSet.{insert_key}
use Rattle.std.specs.Cmp.Lexicographic.{slice_cmp}
use Rattle.std.specs.Ordering.{nat_cmp}
use Rattle.std.specs.declared.cmp.Ordering.{Ordering}
use Rattle.stream_base.specs.declared.change.Change.{Change}
use Rattle.stream_base.specs.declared.entry.Entry.{Entry}
use Rattle.stream_base.specs.declared.kept.Kept.{Kept}
use Rattle.stream_base.specs.Limits.{Definitions}
use Rattle.stream_base.specs.Model.Changes.{Moment, changes_of_key, moment_of}
use Rattle.stream_base.specs.Model.Journal.{keys_of, put_in_order}
use Rattle.stream_base.specs.Model.Watermark.{water_of}
use Rattle.report_check.specs.Held.{Held}
use Rattle.report_check.specs.declared.ledger.Ledger.{Ledger}
use Rattle.report_check.specs.Steps.{Passage, behind}

-- the moment at which a key has these lists
abbrev pub moment_in : Held → ℕ → Moment
moment_in h water = record { kept = h.kept; marks = h.marks; water = water }

-- a key with no tuple and no mark
abbrev pub nothing_of : List ℕ → Held
nothing_of key = record { key = key; kept = []; marks = [] }

-- with one tuple more, or one mark more
abbrev pub held_with_tuple : Held → Kept → Held
held_with_tuple h x = record { key = h.key; kept = put_in_order h.kept x; marks = h.marks }

abbrev pub held_with_mark : Held → ℕ → Held
held_with_mark h time = record { key = h.key; kept = h.kept; marks = insert_key nat_cmp h.marks time }

-- two keys' lists compared by the bytes of their keys
abbrev pub by_key : Held → Held → Ordering
by_key a b = slice_cmp nat_cmp a.key b.key

abbrev pub keys_in : List Held → List (List ℕ)
keys_in lists = map (λ h. h.key) lists

-- the lists of a key are those that it has after a journal
abbrev pub StandsAfter : Definitions → ℕ → List Entry → Held → Type 0
StandsAfter d sources journal h = moment_in h (water_of sources journal) ≡ moment_of d sources h.key journal

-- a ledger has the watermark of a journal, and the lists of each of its keys, by the bytes of the keys
pub record IsLedger (d : Definitions) (sources : ℕ) (journal : List Entry) (l : Ledger) : Type 0 where
  pub of_sources : l.sources ≡ sources
  pub water_is : l.water ≡ water_of sources journal
  pub keys_are : keys_in l.keys.items ≡ keys_of journal
  pub stand : All (StandsAfter d sources journal) l.keys.items

-- a ledger of a journal that has the key of the next entry already
pub record IsReadyFor (d : Definitions) (sources : ℕ) (journal : List Entry) (e : Entry) (l : Ledger) : Type 0 where
  pub of_sources : l.sources ≡ sources
  pub water_is : l.water ≡ water_of sources journal
  pub keys_are : keys_in l.keys.items ≡ keys_of (journal ++ e ∷ [])
  pub stand : All (StandsAfter d sources journal) l.keys.items

-- a key's lists are those before a step, or behind it
abbrev pub StandsBefore : Passage → Held → Type 0
StandsBefore s h = StandsAfter s.defs s.sources s.past h

abbrev pub StandsBehind : Passage → Held → Type 0
StandsBehind s h = StandsAfter s.defs s.sources (behind s) h

-- the changes of a key by a step
abbrev pub changes_in : Passage → List ℕ → List Change
changes_in s key = changes_of_key s.defs s.sources s.past s.entry key

-- a key's lists went on by a step, and its changes were appended
pub record IsFollowed (s : Passage) (old new : Held) (before out : List Change) : Type 0 where
  pub same_key : new.key ≡ old.key
  pub stands : StandsBehind s new
  pub told : out ≡ before ++ changes_in s old.key
