-- A tuple or a mark after the watermark changes nothing.
use Rattle.std.proofs.Common.{◌≡◌, ◌∙◌, ℕ, ◌<◌, Bool, true, false, cond, Some, None, List, [], ◌∷◌, ◌++◌, length, ap, sym, refl}
use Rattle.std.specs.BTreeSet.{insert_key}
use Rattle.std.specs.List.{Contains}
use Rattle.std.specs.Ordering.{nat_cmp}
use Rattle.std.specs.Str.{bytes_eq}
use Rattle.std.proofs.lemmas.List.Elements.{All-contains}
use Rattle.stream_base.specs.declared.def.Def.{Def}
use Rattle.stream_base.specs.declared.entry.Entry.{Entry}
use Rattle.stream_base.specs.declared.kept.Kept.{Kept}
use Rattle.stream_base.specs.declared.limits.TheConstants.{FINAL}
use Rattle.stream_base.specs.declared.what.What.{What}
use Rattle.stream_base.specs.declared.what.What.TheVariants.{Tuple, Mark, Water, Idle, End}
use Rattle.stream_base.specs.Limits.{AreWithinLimits, Definitions}
use Rattle.stream_base.specs.Kinds.{IsKindWithin}
use Rattle.stream_base.specs.Model.Changes.{changes_after, moment_of, standing_at}
use Rattle.stream_base.specs.Model.Journal.{kept_of, marks_of, put_in_order}
use Rattle.stream_base.specs.Model.Watermark.{water_of}
use Rattle.stream_base.specs.Model.What.{is_late, key_in, mark_in, tuple_in}
use Rattle.stream_base.specs.Model.Windows.{standing_of}
use Rattle.stream_base.proofs.ChangeFacts.{no_changes}
use Rattle.model_laws.proofs.ChangesAfter.{changes_of_keyed, rises_after, water_of_keyed}
use Rattle.model_laws.proofs.Absent.{bytes_eq_true, tuple_is_keyed}
use Rattle.stream_base.proofs.EventOrder.{kept_times_do_not_fall}
use Rattle.stream_base.proofs.Growing.{kept_of_other, kept_of_tuple, marks_of_mark, marks_of_other}
use Rattle.window_laws.proofs.KindFacts.{tuple_after_stands, mark_after_stands}

-- ---- the changes of an entry
pub mark_is_keyed : (key : List ℕ) (what : What) (time : ℕ) → mark_in key what ≡ Some time → key_in what ≡ Some key
mark_is_keyed key (Mark k t) time h = by (bytes_eq k key) refl h
  where
    by : (b : Bool) → bytes_eq k key ≡ b → cond b (Some t) None ≡ Some time → Some k ≡ Some key
    by true e g = ap Some (bytes_eq_true k key e)
    by false e g = cc
mark_is_keyed key (Tuple k t v) time h = cc
mark_is_keyed key (Water t) time h = cc
mark_is_keyed key Idle time h = cc
mark_is_keyed key End time h = cc

pub mark_is_no_tuple : (key of : List ℕ) (position : ℕ) (what : What) (time : ℕ) → mark_in of what ≡ Some time → tuple_in key position what ≡ None
mark_is_no_tuple key of position (Tuple k t v) time h = cc
mark_is_no_tuple key of position (Mark k t) time h = refl
mark_is_no_tuple key of position (Water t) time h = cc
mark_is_no_tuple key of position Idle time h = cc
mark_is_no_tuple key of position End time h = cc

pub tuple_is_no_mark : (key of : List ℕ) (position : ℕ) (what : What) (x : Kept) → tuple_in of position what ≡ Some x → mark_in key what ≡ None
tuple_is_no_mark key of position (Tuple k t v) x h = refl
tuple_is_no_mark key of position (Mark k t) x h = cc
tuple_is_no_mark key of position (Water t) x h = cc
tuple_is_no_mark key of position Idle x h = cc
tuple_is_no_mark key of position End x h = cc

pub tuple_after_changes_nothing : (d : Definitions) (sources : ℕ) (before : List Entry) (e : Entry) (key : List ℕ) (x : Kept) → AreWithinLimits d → tuple_in key (length before) e.what ≡ Some x → x.time < FINAL → water_of sources before < x.time → is_late d.lateness (water_of sources before) e.what ≡ false → changes_after d sources before e ≡ []
tuple_after_changes_nothing d sources before e key x limits it f l on_time =
    let keyed : key_in e.what ≡ Some key = tuple_is_keyed key (length before) e.what x it in
    changes_of_keyed d sources before e key limits keyed on_time
    ∙ no_changes d.windows key (moment_of d sources key before) (moment_of d sources key (before ++ e ∷ [])) (rises_after d sources key before limits) (λ def c. sym (same keyed def c))
  where
    same : key_in e.what ≡ Some key → (def : Def) → Contains d.windows def → standing_at def (moment_of d sources key (before ++ e ∷ [])) ≡ standing_at def (moment_of d sources key before)
    same keyed def c =
        let k : kept_of d.lateness sources key (before ++ e ∷ []) ≡ put_in_order (kept_of d.lateness sources key before) x = kept_of_tuple d.lateness sources key before e x on_time it in
        let m : marks_of d.lateness sources key (before ++ e ∷ []) ≡ marks_of d.lateness sources key before = marks_of_other d.lateness sources key before e (tuple_is_no_mark key key (length before) e.what x it) in
        let w : water_of sources (before ++ e ∷ []) ≡ water_of sources before = water_of_keyed sources before e key keyed in
        (λ i. standing_of def.kind (k i) (m i) (w i))
        ∙ tuple_after_stands def.kind (kept_of d.lateness sources key before) (marks_of d.lateness sources key before) (water_of sources before) x (All-contains (λ w. IsKindWithin w.kind) d.windows def limits.kinds c) (kept_times_do_not_fall d.lateness sources key before) f l

pub mark_after_changes_nothing : (d : Definitions) (sources : ℕ) (before : List Entry) (e : Entry) (key : List ℕ) (time : ℕ) → AreWithinLimits d → mark_in key e.what ≡ Some time → time < FINAL → water_of sources before < time → is_late d.lateness (water_of sources before) e.what ≡ false → changes_after d sources before e ≡ []
mark_after_changes_nothing d sources before e key time limits it f l on_time =
    let keyed : key_in e.what ≡ Some key = mark_is_keyed key e.what time it in
    changes_of_keyed d sources before e key limits keyed on_time
    ∙ no_changes d.windows key (moment_of d sources key before) (moment_of d sources key (before ++ e ∷ [])) (rises_after d sources key before limits) (λ def c. sym (same keyed def c))
  where
    same : key_in e.what ≡ Some key → (def : Def) → Contains d.windows def → standing_at def (moment_of d sources key (before ++ e ∷ [])) ≡ standing_at def (moment_of d sources key before)
    same keyed def c =
        let k : kept_of d.lateness sources key (before ++ e ∷ []) ≡ kept_of d.lateness sources key before = kept_of_other d.lateness sources key before e (mark_is_no_tuple key key (length before) e.what time it) in
        let m : marks_of d.lateness sources key (before ++ e ∷ []) ≡ insert_key nat_cmp (marks_of d.lateness sources key before) time = marks_of_mark d.lateness sources key before e time on_time it in
        let w : water_of sources (before ++ e ∷ []) ≡ water_of sources before = water_of_keyed sources before e key keyed in
        (λ i. standing_of def.kind (k i) (m i) (w i))
        ∙ mark_after_stands def.kind (kept_of d.lateness sources key before) (marks_of d.lateness sources key before) (water_of sources before) time f l
