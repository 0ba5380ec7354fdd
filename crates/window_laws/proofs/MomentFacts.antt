-- What is known of a key after one entry more.
use Rattle.std.proofs.Common.{◌≡◌, ℕ, true, false, Some, None, List, [], ◌∷◌, ◌++◌, length, refl}
use Rattle.std.proofs.lemmas.Bool.{false≢true}
use Rattle.stream_base.specs.declared.entry.Entry.{Entry}
use Rattle.stream_base.specs.declared.kept.Kept.{Kept}
use Rattle.stream_base.specs.declared.what.What.{What}
use Rattle.stream_base.specs.declared.what.What.TheVariants.{Tuple, Mark, Water, Idle, End}
use Rattle.stream_base.specs.Limits.{Definitions}
use Rattle.stream_base.specs.Model.Changes.{moment_of}
use Rattle.stream_base.specs.Model.Watermark.{water_of}
use Rattle.stream_base.specs.Model.What.{is_late, is_progress, mark_in, tuple_in}
use Rattle.model_laws.proofs.Absent.{tuple_is_keyed}
use Rattle.model_laws.proofs.ChangesAfter.{moment_of_water, water_of_keyed}
use Rattle.stream_base.proofs.Growing.{kept_of_late, kept_of_other, kept_of_tuple, marks_of_late, marks_of_mark, marks_of_other}
use Rattle.model_laws.proofs.WatermarkFacts.{water_of_same}
use Rattle.window_laws.specs.After.{at_water, with_mark, with_tuple}
use Rattle.window_laws.proofs.AfterFacts.{mark_is_keyed, mark_is_no_tuple, tuple_is_no_mark}

module _ (d : Definitions) (sources : ℕ) (key : List ℕ) (before : List Entry) (e : Entry) where
  pub moment_of_tuple : (x : Kept) → is_late d.lateness (water_of sources before) e.what ≡ false → tuple_in key (length before) e.what ≡ Some x → moment_of d sources key (before ++ e ∷ []) ≡ with_tuple (moment_of d sources key before) x
  moment_of_tuple x on_time it =
      let k = kept_of_tuple d.lateness sources key before e x on_time it in
      let m = marks_of_other d.lateness sources key before e (tuple_is_no_mark key key (length before) e.what x it) in
      let w = water_of_keyed sources before e key (tuple_is_keyed key (length before) e.what x it) in
      λ i. record { kept = k i; marks = m i; water = w i }

  pub moment_of_mark : (time : ℕ) → is_late d.lateness (water_of sources before) e.what ≡ false → mark_in key e.what ≡ Some time → moment_of d sources key (before ++ e ∷ []) ≡ with_mark (moment_of d sources key before) time
  moment_of_mark time on_time it =
      let k = kept_of_other d.lateness sources key before e (mark_is_no_tuple key key (length before) e.what time it) in
      let m = marks_of_mark d.lateness sources key before e time on_time it in
      let w = water_of_keyed sources before e key (mark_is_keyed key e.what time it) in
      λ i. record { kept = k i; marks = m i; water = w i }

  pub moment_of_progress : is_progress e.what ≡ true → moment_of d sources key (before ++ e ∷ []) ≡ at_water (moment_of d sources key before) (water_of sources (before ++ e ∷ []))
  moment_of_progress h = moment_of_water d sources key before e h

  pub moment_of_late : is_late d.lateness (water_of sources before) e.what ≡ true → moment_of d sources key (before ++ e ∷ []) ≡ moment_of d sources key before
  moment_of_late late =
      let k = kept_of_late d.lateness sources key before e late in
      let m = marks_of_late d.lateness sources key before e late in
      let w = water_of_same sources before e (no_progress e.what late) in
      λ i. record { kept = k i; marks = m i; water = w i }
    where
      no_progress : (what : What) → is_late d.lateness (water_of sources before) what ≡ true → is_progress what ≡ false
      no_progress (Tuple k t v) h = refl
      no_progress (Mark k t) h = refl
      no_progress (Water t) h = absurd (false≢true h)
      no_progress Idle h = absurd (false≢true h)
      no_progress End h = absurd (false≢true h)

  pub moment_of_other : is_progress e.what ≡ false → tuple_in key (length before) e.what ≡ None → mark_in key e.what ≡ None → moment_of d sources key (before ++ e ∷ []) ≡ moment_of d sources key before
  moment_of_other h tuple mark =
      let k = kept_of_other d.lateness sources key before e tuple in
      let m = marks_of_other d.lateness sources key before e mark in
      let w = water_of_same sources before e h in
      λ i. record { kept = k i; marks = m i; water = w i }
