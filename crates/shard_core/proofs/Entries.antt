-- The table of keys, one tuple or mark on.
use Rattle.std.proofs.Common.{◌≡◌, ◌∙◌, ◌≤◌, ◌+◌, ℕ, ℤ, true, false, cond, eqb, ◌&&◌, List, [], ◌∷◌, ◌++◌, length, get_or, set, ap, sym, refl, subst, arith, None, Some, inl, length-append}
use Rattle.std.specs.BTreeSet.{insert_key}
use Rattle.std.specs.Ordering.{nat_cmp}
use Rattle.std.specs.Str.{bytes_eq}
use Rattle.std.proofs.lemmas.Bool.Decides.{nat_tests}
use Rattle.std.proofs.lemmas.Bool.{false_from_ne_true, le-ltb}
use Rattle.key_windows.specs.Calls.{changes_by_mark, changes_by_put}
use Rattle.key_windows.specs.Dues.{IsDueNumber}
use Rattle.stream_base.specs.Limits.{AreWithinLimits, Definitions}
use Rattle.stream_base.specs.declared.entry.Entry.{Entry}
use Rattle.stream_base.specs.declared.kept.Kept.{Kept}
use Rattle.stream_base.specs.declared.what.What.{What}
use Rattle.stream_base.specs.declared.what.What.TheVariants.{Tuple, Mark, Water, Idle, End}
use Rattle.stream_base.specs.Model.Changes.{Moment, changes_after, changes_between, moment_of}
use Rattle.stream_base.specs.Model.Journal.{kept_of, marks_of, put_in_order}
use Rattle.stream_base.specs.Model.Watermark.{water_of}
use Rattle.stream_base.specs.Model.What.{is_late, key_in, mark_in, tuple_in}
use Rattle.model_laws.proofs.Absent.{bytes_eq_true}
use Rattle.model_laws.proofs.ChangesAfter.{changes_of_keyed, water_of_keyed}
use Rattle.stream_base.proofs.Growing.{kept_of_other, kept_of_tuple, marks_of_mark, marks_of_other}
use Rattle.stream_base.specs.Model.Moments.{kept_at, moment}
use Rattle.shard_core.specs.declared.keys.KeyTable.{KeyTable}
use Rattle.shard_core.specs.declared.slot.Slot.{Slot}
use Rattle.shard_core.specs.Engines.{AreCurrent, IsCurrent, place_of_key}
use Rattle.shard_core.specs.Shard.{Sharded}
use Rattle.shard_core.specs.Work.{IsTakenWithin}
use Rattle.shard_core.proofs.Places.{IsSameFor, current_at, replaced}

-- ---- what an entry is to a key
bytes_eq_self : (key : List ℕ) → bytes_eq key key ≡ true
bytes_eq_self [] = refl
bytes_eq_self (byte ∷ key) = let own : eqb byte byte ≡ true = grind (arith, nat_tests) in ap (λ b. b && bytes_eq key key) own ∙ bytes_eq_self key

own_tuple : (key : List ℕ) (position time : ℕ) (value : ℤ) (what : What) → what ≡ Tuple key time value → tuple_in key position what ≡ Some (kept_at position time value)
own_tuple key position time value what is = ap (tuple_in key position) is ∙ ap (λ b. cond b (Some (kept_at position time value)) None) (bytes_eq_self key)

own_mark : (key : List ℕ) (time : ℕ) (what : What) → what ≡ Mark key time → mark_in key what ≡ Some time
own_mark key time what is = ap (mark_in key) is ∙ ap (λ b. cond b (Some time) None) (bytes_eq_self key)

other_tuple : (key of : List ℕ) (position : ℕ) (what : What) → key_in what ≡ Some of → (key ≡ of → ⊥) → tuple_in key position what ≡ None
other_tuple key of position (Tuple k time value) h ne = ap (λ b. cond b (Some (kept_at position time value)) None) (false_from_ne_true (bytes_eq k key) (λ e. ne (let same : k ≡ of = cc in sym (bytes_eq_true k key e) ∙ same)))
other_tuple key of position (Mark k time) h ne = refl
other_tuple key of position (Water time) h ne = refl
other_tuple key of position Idle h ne = refl
other_tuple key of position End h ne = refl

other_mark : (key of : List ℕ) (what : What) → key_in what ≡ Some of → (key ≡ of → ⊥) → mark_in key what ≡ None
other_mark key of (Tuple k time value) h ne = refl
other_mark key of (Mark k time) h ne = ap (λ b. cond b (Some time) None) (false_from_ne_true (bytes_eq k key) (λ e. ne (let same : k ≡ of = cc in sym (bytes_eq_true k key e) ∙ same)))
other_mark key of (Water time) h ne = refl
other_mark key of Idle h ne = refl
other_mark key of End h ne = refl

-- a tuple or mark of one key changes nothing of another
pub others_stay : (d : Definitions) (sources : ℕ) (journal : List Entry) (e : Entry) (of : List ℕ) → key_in e.what ≡ Some of → (key : List ℕ) → (key ≡ of → ⊥) → IsSameFor d sources journal (journal ++ e ∷ []) key
others_stay d sources journal e of keyed key ne = record {
  kept = kept_of_other d.lateness sources key journal e (other_tuple key of (length journal) e.what keyed ne);
  marks = marks_of_other d.lateness sources key journal e (other_mark key of e.what keyed ne);
}

not_late : (time lateness water : ℕ) → water ≤ time + lateness → (key : List ℕ) (value : ℤ) (what : What) → what ≡ Tuple key time value → is_late lateness water what ≡ false
not_late time lateness water h key value what is = ap (is_late lateness water) is ∙ le-ltb (time + lateness) water h

mark_not_late : (time lateness water : ℕ) → water ≤ time + lateness → (key : List ℕ) (what : What) → what ≡ Mark key time → is_late lateness water what ≡ false
mark_not_late time lateness water h key what is = ap (is_late lateness water) is ∙ le-ltb (time + lateness) water h

module _ (d : Definitions) (sources : ℕ) (journal : List Entry) (e : Entry) (key : List ℕ) (time : ℕ) where
  -- after a tuple
  module _ (value : ℤ) (is : e.what ≡ Tuple key time value) (accepted : water_of sources journal ≤ time + d.lateness) where
    pub kept_with_tuple : kept_of d.lateness sources key (journal ++ e ∷ []) ≡ put_in_order (kept_of d.lateness sources key journal) (kept_at (length journal) time value)
    kept_with_tuple = kept_of_tuple d.lateness sources key journal e (kept_at (length journal) time value) (not_late time d.lateness (water_of sources journal) accepted key value e.what is) (own_tuple key (length journal) time value e.what is)

    pub marks_with_tuple : marks_of d.lateness sources key (journal ++ e ∷ []) ≡ marks_of d.lateness sources key journal
    marks_with_tuple = marks_of_other d.lateness sources key journal e (ap (mark_in key) is)

    pub moment_with_tuple : moment_of d sources key (journal ++ e ∷ []) ≡ moment (put_in_order (kept_of d.lateness sources key journal) (kept_at (length journal) time value)) (marks_of d.lateness sources key journal) (water_of sources journal)
    moment_with_tuple = λ i. moment (kept_with_tuple i) (marks_with_tuple i) (water_of_keyed sources journal e key (ap key_in is) i)

    pub changes_of_tuple : AreWithinLimits d → changes_after d sources journal e ≡ changes_by_put d key (kept_of d.lateness sources key journal) (marks_of d.lateness sources key journal) (water_of sources journal) (kept_at (length journal) time value)
    changes_of_tuple limits =
        changes_of_keyed d sources journal e key limits (ap key_in is) (not_late time d.lateness (water_of sources journal) accepted key value e.what is)
        ∙ ap (changes_between d.windows key (moment_of d sources key journal)) moment_with_tuple

  -- after a mark
  module _ (is : e.what ≡ Mark key time) (accepted : water_of sources journal ≤ time + d.lateness) where
    pub kept_with_mark : kept_of d.lateness sources key (journal ++ e ∷ []) ≡ kept_of d.lateness sources key journal
    kept_with_mark = kept_of_other d.lateness sources key journal e (ap (tuple_in key (length journal)) is)

    pub marks_with_mark : marks_of d.lateness sources key (journal ++ e ∷ []) ≡ insert_key nat_cmp (marks_of d.lateness sources key journal) time
    marks_with_mark = marks_of_mark d.lateness sources key journal e time (mark_not_late time d.lateness (water_of sources journal) accepted key e.what is) (own_mark key time e.what is)

    pub moment_with_mark : moment_of d sources key (journal ++ e ∷ []) ≡ moment (kept_of d.lateness sources key journal) (insert_key nat_cmp (marks_of d.lateness sources key journal) time) (water_of sources journal)
    moment_with_mark = λ i. moment (kept_with_mark i) (marks_with_mark i) (water_of_keyed sources journal e key (ap key_in is) i)

    pub changes_of_mark : AreWithinLimits d → changes_after d sources journal e ≡ changes_by_mark d key (kept_of d.lateness sources key journal) (marks_of d.lateness sources key journal) (water_of sources journal) time
    changes_of_mark limits =
        changes_of_keyed d sources journal e key limits (ap key_in is) (mark_not_late time d.lateness (water_of sources journal) accepted key e.what is)
        ∙ ap (changes_between d.windows key (moment_of d sources key journal)) moment_with_mark

-- ---- the steps
-- a bound between the moments of a key before and behind an entry is one for the entry
pub taken_within : (bounds : Definitions → List ℕ → Moment → Moment → ℕ → ℕ → Type 0) (s : Sharded) (e : Entry) (key : List ℕ) (time old new : ℕ) (of : List ℕ) (before after : Moment)
    → of ≡ key → before ≡ moment_of s.defs s.sources key s.journal → moment_of s.defs s.sources key (s.journal ++ e ∷ []) ≡ after
    → (bound : ℕ) × bounds s.defs of before after time bound × (new ≤ old + bound) → IsTakenWithin bounds s e key time old new
taken_within bounds s e key time old new of before after own first last h = record {
  bound = h.0;
  is_bound = subst (λ m. bounds s.defs key (moment_of s.defs s.sources key s.journal) m time h.0) (sym last)
      (subst (λ m. bounds s.defs key m after time h.0) first (subst (λ k. bounds s.defs k before after time h.0) own h.1));
  within = h.2;
}

-- an entry is a tuple of one key and one time alone
pub tuple_alike : (bounds : Definitions → List ℕ → Moment → Moment → ℕ → ℕ → Type 0) (s : Sharded) (e : Entry) (key other : List ℕ) (time later : ℕ) (value more : ℤ) (old new : ℕ)
    → e.what ≡ Tuple key time value → e.what ≡ Tuple other later more → IsTakenWithin bounds s e key time old new → IsTakenWithin bounds s e other later old new
tuple_alike bounds s e key other time later value more old new is so w =
    let same : key ≡ other = cc in
    let at : time ≡ later = cc in
    subst (λ k. IsTakenWithin bounds s e k later old new) same (subst (λ t. IsTakenWithin bounds s e key t old new) at w)

-- and so a mark
pub mark_alike : (bounds : Definitions → List ℕ → Moment → Moment → ℕ → ℕ → Type 0) (s : Sharded) (e : Entry) (key other : List ℕ) (time later old new : ℕ)
    → e.what ≡ Mark key time → e.what ≡ Mark other later → IsTakenWithin bounds s e key time old new → IsTakenWithin bounds s e other later old new
mark_alike bounds s e key other time later old new is so w =
    let same : key ≡ other = cc in
    let at : time ≡ later = cc in
    subst (λ k. IsTakenWithin bounds s e k later old new) same (subst (λ t. IsTakenWithin bounds s e key t old new) at w)

-- ---- the table
module _ {K : Type 0} (key_of : K → List ℕ) (fits : Definitions → List Kept → List ℕ → ℕ → K → Type 0) (next_position : K → ℕ) (d : Definitions) (sources : ℕ) (journal : List Entry) (e : Entry) (key : List ℕ) (keyed : key_in e.what ≡ Some key) where
  -- where the slot of the entry's key is that of the longer journal, and its due number is one there, so is the table
  pub numbered_table : (old new : KeyTable K) (p : ℕ) (slot new_slot : Slot K) (due : ℕ)
      → AreCurrent key_of fits next_position d sources journal old
      → place_of_key old key ≡ Some p
      → slot ≡ get_or old.slots.items p slot
      → slot.water ≡ water_of sources journal
      → new.index ≡ old.index
      → new.slots.items ≡ set old.slots.items p new_slot
      → new.dues.items ≡ set old.dues.items p due
      → key_of new_slot.state ≡ key_of slot.state
      → new_slot.water ≡ slot.water
      → next_position new_slot.state ≤ length journal + 1
      → (fits d (kept_of d.lateness sources key journal) (marks_of d.lateness sources key journal) slot.water slot.state → fits d (kept_of d.lateness sources key (journal ++ e ∷ [])) (marks_of d.lateness sources key (journal ++ e ∷ [])) new_slot.water new_slot.state)
      → (fits d (kept_of d.lateness sources key (journal ++ e ∷ [])) (marks_of d.lateness sources key (journal ++ e ∷ [])) new_slot.water new_slot.state → IsDueNumber fits d key (kept_of d.lateness sources key (journal ++ e ∷ [])) (marks_of d.lateness sources key (journal ++ e ∷ [])) new_slot.water new_slot.state due)
      → AreCurrent key_of fits next_position d sources (journal ++ e ∷ []) new
  numbered_table old new p slot new_slot due c at there w index slots dues same_key same_water next stands number =
      let was : IsCurrent key_of fits next_position d sources journal key slot (get_or old.dues.items p 0) = current_at key_of fits next_position d sources journal old key p slot c at there in
      let own : key_of new_slot.state ≡ key = same_key ∙ was.of_key in
      let still : water_of sources (journal ++ e ∷ []) ≡ water_of sources journal = water_of_keyed sources journal e key keyed in
      let now : fits d (kept_of d.lateness sources key (journal ++ e ∷ [])) (marks_of d.lateness sources key (journal ++ e ∷ [])) new_slot.water new_slot.state = stands was.stands in
      replaced key_of fits next_position d sources journal (journal ++ e ∷ []) old new key p new_slot due c at index slots dues
      (others_stay d sources journal e key keyed) (rw length-append (omega arith)) still
      (record {
        of_key = own;
        stands = now;
        position = rw length-append next;
        is_water = rw same_water was.is_water;
        past = omega (arith, same_water, w, still);
        not_due = inl (same_water ∙ w ∙ sym still);
        number = number now;
      })

  -- and where the due number is one for whatever lists the slot stands for
  pub keyed_table : (old new : KeyTable K) (p : ℕ) (slot new_slot : Slot K) (due : ℕ)
      → AreCurrent key_of fits next_position d sources journal old
      → place_of_key old key ≡ Some p
      → slot ≡ get_or old.slots.items p slot
      → slot.water ≡ water_of sources journal
      → new.index ≡ old.index
      → new.slots.items ≡ set old.slots.items p new_slot
      → new.dues.items ≡ set old.dues.items p due
      → key_of new_slot.state ≡ key_of slot.state
      → new_slot.water ≡ slot.water
      → next_position new_slot.state ≤ length journal + 1
      → (fits d (kept_of d.lateness sources key journal) (marks_of d.lateness sources key journal) slot.water slot.state → fits d (kept_of d.lateness sources key (journal ++ e ∷ [])) (marks_of d.lateness sources key (journal ++ e ∷ [])) new_slot.water new_slot.state)
      → ((kept : List Kept) (marks : List ℕ) → fits d kept marks new_slot.water new_slot.state → IsDueNumber fits d (key_of new_slot.state) kept marks new_slot.water new_slot.state due)
      → AreCurrent key_of fits next_position d sources (journal ++ e ∷ []) new
  keyed_table old new p slot new_slot due c at there w index slots dues same_key same_water next stands number =
      let own : key_of new_slot.state ≡ key = same_key ∙ (current_at key_of fits next_position d sources journal old key p slot c at there).of_key in
      numbered_table old new p slot new_slot due c at there w index slots dues same_key same_water next stands
      (λ now. subst (λ l. IsDueNumber fits d l (kept_of d.lateness sources key (journal ++ e ∷ [])) (marks_of d.lateness sources key (journal ++ e ∷ [])) new_slot.water new_slot.state due) own (number (kept_of d.lateness sources key (journal ++ e ∷ [])) (marks_of d.lateness sources key (journal ++ e ∷ [])) now))
