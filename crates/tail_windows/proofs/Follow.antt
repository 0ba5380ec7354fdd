-- What an entry changes, and what a follower stands for behind it.
use Rattle.std.proofs.Common.{◌≡◌, ◌∙◌, ℕ, ℤ, ◌<◌, ◌≤◌, Bool, true, false, cond, List, [], ◌∷◌, ◌++◌, length, ap, ap₂, sym, refl, subst, None, Some}
use Rattle.std.specs.BTreeMap.{is_at}
use Rattle.std.specs.Cmp.Lexicographic.{slice_cmp}
use Rattle.std.specs.List.{All, Contains, flat_map}
use Rattle.std.specs.List.Sorted.{IsStrictlySortedBy}
use Rattle.std.specs.Ordering.{is_eq, nat_cmp}
use Rattle.std.specs.Cmp.{tied_itself}
use Rattle.std.proofs.lemmas.Bool.{false≢true}
use Rattle.std.proofs.lemmas.Cmp.{nat_list_cmp_total}
use Rattle.std.proofs.lemmas.Map.Lookups.{exact_bytes}
use Rattle.std.proofs.lemmas.Map.Views.{tells_apart}
use Rattle.std.proofs.lemmas.Slice.Eq.{bytes_eq-Decides}
use Rattle.stream_base.specs.declared.entry.Entry.{Entry}
use Rattle.stream_base.specs.declared.kept.Kept.{Kept}
use Rattle.stream_base.specs.declared.what.What.{What}
use Rattle.stream_base.specs.declared.what.What.TheVariants.{Tuple, Mark, Water, Idle, End}
use Rattle.stream_base.specs.Model.Journal.{keys_of, kept_of, put_in_order}
use Rattle.stream_base.specs.Model.Watermark.{water_of}
use Rattle.stream_base.specs.Model.What.{is_late, is_progress, key_in, tuple_in}
use Rattle.stream_base.proofs.ChangeFacts.{flat_map_none, flat_map_same}
use Rattle.stream_base.proofs.EventOrder.{kept_positions_below}
use Rattle.stream_base.proofs.Growing.{kept_of_late, kept_of_nil, kept_of_other, kept_of_tuple}
use Rattle.model_laws.proofs.Absent.{key_comes, nothing_kept}
use Rattle.model_laws.proofs.ChangesAfter.{keys_in_order, keys_of_water, water_of_keyed}
use Rattle.model_laws.proofs.WatermarkFacts.{water_rises}
use Rattle.watermark_table.specs.Watched as table
use Rattle.watermark_table.proofs.Tables.{stands_behind_keyed}
use Rattle.tail_windows.specs.Following.{Followed, StandsFor, changes_behind, lateness_of, list_of, number_of_sources}
use Rattle.tail_windows.specs.Samples.{put_sample, sample_of, samples_of}
use Rattle.tail_windows.specs.Tails.{tail_changes_after, tail_changes_between, tail_changes_of_key}
use Rattle.tail_windows.specs.Walks.{moved_changes}
use Rattle.tail_windows.specs.declared.change.TailChange.TheVariants.{Dropped}
use Rattle.tail_windows.specs.declared.def.TailDef.{TailDef}
use Rattle.tail_windows.specs.declared.sample.Sample.{Sample}
use Rattle.tail_windows.proofs.Changed.{by_a_move}
use Rattle.tail_windows.proofs.Keyed.{flat_map_one, other_tuple, same_flat}
use Rattle.tail_windows.proofs.Stripping.{put_of_samples}
use Rattle.tail_windows.proofs.TailLaws.{nothing_at_rest}

-- ---- what an entry says
no_tuple_on_progress : (key : List ℕ) (position : ℕ) (what : What) → is_progress what ≡ true → tuple_in key position what ≡ None
no_tuple_on_progress key position (Tuple of time value) h = absurd (false≢true h)
no_tuple_on_progress key position (Mark of time) h = absurd (false≢true h)
no_tuple_on_progress key position (Water time) h = refl
no_tuple_on_progress key position Idle h = refl
no_tuple_on_progress key position End h = refl

not_late_on_progress : (lateness water : ℕ) (what : What) → is_progress what ≡ true → is_late lateness water what ≡ false
not_late_on_progress lateness water (Tuple key time value) h = absurd (false≢true h)
not_late_on_progress lateness water (Mark key time) h = absurd (false≢true h)
not_late_on_progress lateness water (Water time) h = refl
not_late_on_progress lateness water Idle h = refl
not_late_on_progress lateness water End h = refl

-- a key found by itself, and by no other
at_itself : (key : List ℕ) → is_at (slice_cmp nat_cmp key) key ≡ true
at_itself key = ap is_eq (tied_itself nat_list_cmp_total key)

own_tuple : (key : List ℕ) (position time : ℕ) (value : ℤ) → tuple_in key position (Tuple key time value) ≡ Some (record { position = position; time = time; value = value })
own_tuple key position time value = ap (λ b. cond b (Some (record { position = position; time = time; value = value })) None) ((bytes_eq-Decides key key).1 refl)

module _ (def : TailDef) (lateness sources : ℕ) (journal : List Entry) (e : Entry) where
  -- a late entry is dropped, and nothing else changes
  pub late_is_dropped : is_late lateness (water_of sources journal) e.what ≡ true → tail_changes_after def lateness sources journal e ≡ Dropped ∷ []
  unfolding tail_changes_after
  late_is_dropped late = ap (λ b. cond b (Dropped ∷ []) (flat_map (tail_changes_of_key def lateness sources journal e) (keys_of (journal ++ e ∷ [])))) late

  on_time_changes : is_late lateness (water_of sources journal) e.what ≡ false → tail_changes_after def lateness sources journal e ≡ flat_map (tail_changes_of_key def lateness sources journal e) (keys_of (journal ++ e ∷ []))
  unfolding tail_changes_after
  on_time_changes on_time = ap (λ b. cond b (Dropped ∷ []) (flat_map (tail_changes_of_key def lateness sources journal e) (keys_of (journal ++ e ∷ [])))) on_time

  -- a key whose tuples stay, where the watermark does
  at_rest : (key : List ℕ) → kept_of lateness sources key (journal ++ e ∷ []) ≡ kept_of lateness sources key journal → water_of sources (journal ++ e ∷ []) ≡ water_of sources journal → tail_changes_of_key def lateness sources journal e key ≡ []
  at_rest key kept water =
      ap₂ (λ k w. tail_changes_between def key (kept_of lateness sources key journal) (water_of sources journal) k w) kept water
      ∙ nothing_at_rest def key (kept_of lateness sources key journal) (water_of sources journal)

  -- a tuple that isn't late changes its key alone
  pub tuple_changes : (key : List ℕ) (time : ℕ) (value : ℤ) → e.what ≡ Tuple key time value → is_late lateness (water_of sources journal) e.what ≡ false
      → tail_changes_after def lateness sources journal e
      ≡ tail_changes_between def key (kept_of lateness sources key journal) (water_of sources journal) (put_in_order (kept_of lateness sources key journal) (record { position = length journal; time = time; value = value })) (water_of sources journal)
  tuple_changes key time value is on_time =
      on_time_changes on_time
      ∙ flat_map_one nat_list_cmp_total (tail_changes_of_key def lateness sources journal e) (keys_of (journal ++ e ∷ [])) key (keys_in_order (journal ++ e ∷ [])) (key_comes journal e key keyed)
      (λ other ne. at_rest other (kept_of_other lateness sources other journal e (other_tuple other key (length journal) e.what keyed ne)) water)
      ∙ ap₂ (λ k w. tail_changes_between def key (kept_of lateness sources key journal) (water_of sources journal) k w)
      (kept_of_tuple lateness sources key journal e (record { position = length journal; time = time; value = value }) on_time (ap (tuple_in key (length journal)) is ∙ own_tuple key (length journal) time value))
      water
    where
      keyed : key_in e.what ≡ Some key
      keyed = ap key_in is

      water : water_of sources (journal ++ e ∷ []) ≡ water_of sources journal
      water = water_of_keyed sources journal e key keyed

  -- a mark that isn't late changes nothing
  pub mark_changes : (key : List ℕ) (time : ℕ) → e.what ≡ Mark key time → is_late lateness (water_of sources journal) e.what ≡ false → tail_changes_after def lateness sources journal e ≡ []
  mark_changes key time is on_time =
      on_time_changes on_time
      ∙ flat_map_none (tail_changes_of_key def lateness sources journal e) (keys_of (journal ++ e ∷ []))
      (λ other c. at_rest other (kept_of_other lateness sources other journal e (ap (tuple_in other (length journal)) is)) (water_of_keyed sources journal e key (ap key_in is)))

-- ---- what a follower stands for
module _ (f : Followed) (journal : List Entry) (e : Entry) (stands : StandsFor f journal) where
  -- an entry of a key that leaves what is kept of all keys
  pub stands_behind_same : (key : List ℕ) → key_in e.what ≡ Some key → ((other : List ℕ) → kept_of (lateness_of f) (number_of_sources f) other (journal ++ e ∷ []) ≡ kept_of (lateness_of f) (number_of_sources f) other journal) → StandsFor f (journal ++ e ∷ [])
  stands_behind_same key keyed same = record {
    waters = stands_behind_keyed f.waters journal e key keyed stands.waters;
    lists = λ other. stands.lists other ∙ ap samples_of (sym (same other));
  }

  pub stands_behind_late : (key : List ℕ) → key_in e.what ≡ Some key → is_late (lateness_of f) (water_of (number_of_sources f) journal) e.what ≡ true → StandsFor f (journal ++ e ∷ [])
  stands_behind_late key keyed late = stands_behind_same key keyed (λ other. kept_of_late (lateness_of f) (number_of_sources f) other journal e late)

  pub stands_behind_mark : (key : List ℕ) (time : ℕ) → e.what ≡ Mark key time → StandsFor f (journal ++ e ∷ [])
  stands_behind_mark key time is = stands_behind_same key (ap key_in is) (λ other. kept_of_other (lateness_of f) (number_of_sources f) other journal e (ap (tuple_in other (length journal)) is))

  -- a tuple that isn't late, put among the samples of its key
  pub stands_behind_tuple : (key : List ℕ) (time : ℕ) (value : ℤ) (lists : List (List ℕ × List Sample)) → e.what ≡ Tuple key time value → is_late (lateness_of f) (water_of (number_of_sources f) journal) e.what ≡ false
      → ((other : List ℕ) → list_of lists other ≡ cond (is_at (slice_cmp nat_cmp key) other) (put_sample (list_of f.lists key) (record { time = time; value = value })) (list_of f.lists other))
      → StandsFor (record { def = f.def; waters = f.waters; lists = lists }) (journal ++ e ∷ [])
  stands_behind_tuple key time value lists is on_time put = record {
    waters = stands_behind_keyed f.waters journal e key (ap key_in is) stands.waters;
    lists = λ other. put other ∙ by other (is_at (slice_cmp nat_cmp key) other) refl;
  }
    where
      x : Kept
      x = record { position = length journal; time = time; value = value }

      by : (other : List ℕ) (b : Bool) → is_at (slice_cmp nat_cmp key) other ≡ b
          → cond b (put_sample (list_of f.lists key) (record { time = time; value = value })) (list_of f.lists other) ≡ samples_of (kept_of (lateness_of f) (number_of_sources f) other (journal ++ e ∷ []))
      by other true at =
          let same : key ≡ other = tells_apart exact_bytes key other at in
          ap (λ l. put_sample l (sample_of x)) (stands.lists key)
          ∙ sym (put_of_samples (kept_of (lateness_of f) (number_of_sources f) key journal) x)
          ∙ ap samples_of (sym (kept_of_tuple (lateness_of f) (number_of_sources f) key journal e x on_time (ap (tuple_in key (length journal)) is ∙ own_tuple key (length journal) time value)))
          ∙ ap (λ k. samples_of (kept_of (lateness_of f) (number_of_sources f) k (journal ++ e ∷ []))) same
      by other false at =
          stands.lists other
          ∙ ap samples_of (sym (kept_of_other (lateness_of f) (number_of_sources f) other journal e (other_tuple other key (length journal) e.what (ap key_in is)
          (λ same. false≢true (sym at ∙ ap (λ k. is_at (slice_cmp nat_cmp key) k) same ∙ at_itself key)))))

  -- a word on progress
  pub stands_behind_word : (new : table.Watched) → is_progress e.what ≡ true → table.IsSameTable f.waters new → table.StandsFor new (journal ++ e ∷ []) → StandsFor (record { def = f.def; waters = new; lists = f.lists }) (journal ++ e ∷ [])
  stands_behind_word new word same waters = record {
    waters = waters;
    lists = λ other.
        stands.lists other
        ∙ ap samples_of (sym (kept_of_other (lateness_of f) (number_of_sources f) other journal e (no_tuple_on_progress other (length journal) e.what word)))
        ∙ ap₂ (λ l s. samples_of (kept_of l s other (journal ++ e ∷ []))) (sym same.lateness) (sym same.sources);
  }

  -- what it brings: of each key that is due what the move of the watermark does
  pub word_changes : (new : ℕ) (due : List (List ℕ)) → is_progress e.what ≡ true → IsStrictlySortedBy (slice_cmp nat_cmp) due → new ≡ water_of (number_of_sources f) (journal ++ e ∷ [])
      → ((key : List ℕ) → ¬ Contains due key → moved_changes f.def key (water_of (number_of_sources f) journal) new (list_of f.lists key) ≡ [])
      → changes_behind f journal e ≡ flat_map (λ key. moved_changes f.def key (water_of (number_of_sources f) journal) new (list_of f.lists key)) due
  word_changes new due word sorted is others =
      on_time_changes f.def lateness sources journal e (not_late_on_progress lateness (water_of sources journal) e.what word)
      ∙ ap (flat_map (tail_changes_of_key f.def lateness sources journal e)) (keys_of_water journal e word)
      ∙ flat_map_same (tail_changes_of_key f.def lateness sources journal e) (λ key. moved_changes f.def key old new (list_of f.lists key)) (keys_of journal) (λ key c. of_key key)
      ∙ same_flat (λ key. moved_changes f.def key old new (list_of f.lists key)) (keys_of journal) due (keys_in_order journal) sorted
      (λ key absent. ap (moved_changes f.def key old new) (stands.lists key ∙ ap samples_of (nothing_kept lateness sources key journal absent))) others
    where
      lateness : ℕ
      lateness = lateness_of f

      sources : ℕ
      sources = number_of_sources f

      old : ℕ
      old = water_of sources journal

      of_key : (key : List ℕ) → tail_changes_of_key f.def lateness sources journal e key ≡ moved_changes f.def key old new (list_of f.lists key)
      of_key key =
          ap₂ (λ k w. tail_changes_between f.def key (kept_of lateness sources key journal) old k w) (kept_of_other lateness sources key journal e (no_tuple_on_progress key (length journal) e.what word)) (sym is)
          ∙ by_a_move f.def key (kept_of lateness sources key journal) old new (subst (λ n. old ≤ n) (sym is) (water_rises sources journal e))
          ∙ ap (moved_changes f.def key old new) (sym (stands.lists key))

pub older_tuples : (lateness sources : ℕ) (key : List ℕ) (journal : List Entry) → All (λ y. y.position < length journal) (kept_of lateness sources key journal)
older_tuples lateness sources key journal = kept_positions_below lateness sources key journal

-- a follower of no entry
pub stands_for_none : (def : TailDef) (waters : table.Watched) → table.StandsFor waters [] → StandsFor (record { def = def; waters = waters; lists = [] }) []
stands_for_none def waters stands = record { waters = stands; lists = λ key. ap samples_of (sym (kept_of_nil waters.lateness (table.sources_of waters) key)) }
