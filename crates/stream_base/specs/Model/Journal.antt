-- Journals: acceptance, and what is kept of a key.
use Rattle.std.specs.Prelude.{ℕ, List, [], ◌∷◌, ◌++◌, length, fold, insert, if◌then◌else◌, nat_lt}
use Rattle.std.specs.List.{filter_map, position_or_len}
use Rattle.std.specs.Ordering.{nat_cmp}
use Rattle.std.specs.declared.cmp.Ordering.{Ordering}
use Rattle.std.specs.BTreeSet.{insert_key}
use Rattle.std.specs.Cmp.Lexicographic.{slice_cmp}
use Rattle.stream_base.specs.declared.entry.Entry.{Entry}
use Rattle.stream_base.specs.declared.kept.Kept.{Kept}
use Rattle.stream_base.specs.Model.Watermark.{water_of}
use Rattle.stream_base.specs.Model.What.{is_late, key_in, mark_in, tuple_in}

-- the entries behind `before`, each with its position, that are not late at their own place
unfoldable pub on_time_after : ℕ → ℕ → List Entry → List Entry → List (ℕ × Entry)
on_time_after lateness sources before [] = []
on_time_after lateness sources before (e ∷ es) =
    if is_late lateness (water_of sources before) e.what
    then on_time_after lateness sources (before ++ e ∷ []) es
    else (length before, e) ∷ on_time_after lateness sources (before ++ e ∷ []) es

-- the entries of a journal, each with its position, that are not late at their own place
abbrev pub on_time : ℕ → ℕ → List Entry → List (ℕ × Entry)
on_time lateness sources journal = on_time_after lateness sources [] journal

-- the tuples of the key, in the order of their positions
abbrev pub tuples_in : List ℕ → List (ℕ × Entry) → List Kept
tuples_in key entries = filter_map (λ p. tuple_in key p.0 (p.1).what) entries

-- a tuple put at its place in event order: before the first tuple of a later time
abbrev pub put_in_order : List Kept → Kept → List Kept
put_in_order kept x = insert kept (position_or_len (λ y. nat_lt x.time y.time) kept) x

-- tuples in event order: by time, and at one time in the order in which they came
abbrev pub in_event_order : List Kept → List Kept
in_event_order arrivals = fold put_in_order [] arrivals

-- distinct elements in their order
abbrev pub rising : {K : Type 0} → (K → K → Ordering) → List K → List K
rising cmp ks = fold (insert_key cmp) [] ks

-- the times of the marks of the key, rising
abbrev pub marks_in : List ℕ → List (ℕ × Entry) → List ℕ
marks_in key entries = rising nat_cmp (filter_map (λ p. mark_in key (p.1).what) entries)

-- what is kept of a key: its accepted tuples, in event order
unfoldable pub kept_of : ℕ → ℕ → List ℕ → List Entry → List Kept
kept_of lateness sources key journal = in_event_order (tuples_in key (on_time lateness sources journal))

-- the times of the accepted marks of a key, rising
unfoldable pub marks_of : ℕ → ℕ → List ℕ → List Entry → List ℕ
marks_of lateness sources key journal = marks_in key (on_time lateness sources journal)

-- the keys of a journal, in the order of their bytes
unfoldable pub keys_of : List Entry → List (List ℕ)
keys_of journal = rising (slice_cmp nat_cmp) (filter_map (λ e. key_in e.what) journal)
