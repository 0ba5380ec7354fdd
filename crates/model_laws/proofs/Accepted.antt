-- What is kept of a key is what its journal has of it that wasn't late.
use Rattle.std.proofs.Common.{◌≡◌, ◌∙◌, ℕ, ◌<◌, ◌≤◌, Bool, true, false, cond, List, [], ◌∷◌, ◌++◌, length, take, ap, sym, refl, subst, ⊎_elim, arith, Option, None, Some}
use Rattle.std.specs.Prelude.{◌↔◌, slice_get, ◌&&◌, ◌^◌, FitsSigned, nat_le, nat_lt, pos, negsuc, ℤ}
use Rattle.std.specs.BTreeSet.{insert_key}
use Rattle.std.specs.Int.{w64}
use Rattle.std.specs.List.{All, Contains, position_or_len}
use Rattle.std.specs.Option.{option_map_or}
use Rattle.std.specs.Ordering.{nat_cmp}
use Rattle.std.specs.Str.{bytes_eq}
use Rattle.std.proofs.lemmas.Bool.{and_parts, cases_lt, leb-true}
use Rattle.std.proofs.lemmas.List.{length_push, take-append-le}
use Rattle.std.proofs.lemmas.Map.Lookups.{exact_unsigned}
use Rattle.std.proofs.lemmas.Option.{slice_get_within, get_or_from_slice_get, same_Some, none-some}
use Rattle.std.proofs.Math.Seq.{take-append_seam}
use Rattle.stream_base.specs.declared.entry.Entry.{Entry}
use Rattle.stream_base.specs.declared.kept.Kept.{Kept}
use Rattle.stream_base.specs.declared.limits.TheConstants.{TIME_MAX}
use Rattle.stream_base.specs.declared.what.What.{What}
use Rattle.stream_base.specs.declared.what.What.TheVariants.{Tuple, Mark, Water, Idle, End}
use Rattle.stream_base.specs.Limits.{is_value}
use Rattle.stream_base.specs.Key.{is_key}
use Rattle.stream_base.specs.Model.Journal.{kept_of, marks_of, put_in_order}
use Rattle.stream_base.specs.Model.Journals.{is_entry_within, AreEntriesWithin}
use Rattle.stream_base.specs.Model.Watermark.{water_of}
use Rattle.stream_base.specs.Model.What.{is_late, is_what_within, mark_in, tuple_in}
use Rattle.stream_base.specs.Laws.{IsAcceptedTuple, IsAcceptedMark, accepted_tuple, accepted_mark}
use Rattle.stream_base.proofs.Distinct.{All_from_members}
use Rattle.stream_base.proofs.EventOrder.{from_the_front, position_of_tuple}
use Rattle.model_laws.proofs.Fronts.{slice_get_front, slice_get_seam}
use Rattle.stream_base.proofs.Growing.{kept_of_nil, kept_of_push, kept_of_tuple, marks_of_mark, marks_of_nil, marks_of_push}
use Rattle.stream_base.proofs.Members.{Contains-insert_cases, Contains-insert_new, Contains-insert_old}
use Rattle.stream_base.proofs.Rising.{none_in_nil, Contains-insert_key, Contains-insert_key_cases, Contains-insert_key_self}

-- what an entry is read as, unless it is late
read_in_time : {X : Type 0} (late : Bool) (o : Option X) (x : X) → cond late None o ≡ Some x → (late ≡ false) × (o ≡ Some x)
read_in_time true o x h = absurd (none-some x h)
read_in_time false o x h = (refl, h)

module _ (lateness sources : ℕ) (key : List ℕ) where
  -- ---- tuples
  tuple_stays : (journal : List Entry) (e : Entry) (x : Kept) → IsAcceptedTuple lateness sources key journal x → IsAcceptedTuple lateness sources key (journal ++ e ∷ []) x
  tuple_stays journal e x h =
      let within : x.position < length journal = slice_get_within journal x.position h.entry h.stands in
      record {
        entry = h.entry;
        stands = slice_get_front journal (e ∷ []) x.position within ∙ h.stands;
        says = h.says;
        in_time = ap (λ j. is_late lateness (water_of sources j) h.entry.what) (take-append-le x.position journal (e ∷ []) (omega arith)) ∙ h.in_time;
      }

  tuple_was : (journal : List Entry) (e : Entry) (x : Kept) → x.position < length journal → IsAcceptedTuple lateness sources key (journal ++ e ∷ []) x → IsAcceptedTuple lateness sources key journal x
  tuple_was journal e x within h = record {
    entry = h.entry;
    stands = sym (slice_get_front journal (e ∷ []) x.position within) ∙ h.stands;
    says = h.says;
    in_time = ap (λ j. is_late lateness (water_of sources j) h.entry.what) (sym (take-append-le x.position journal (e ∷ []) (omega arith))) ∙ h.in_time;
  }

  tuple_comes : (journal : List Entry) (e : Entry) (x : Kept) → accepted_tuple lateness sources key journal e ≡ Some x → IsAcceptedTuple lateness sources key (journal ++ e ∷ []) x
  tuple_comes journal e x h =
      let (on_time, says) = read_in_time (is_late lateness (water_of sources journal) e.what) (tuple_in key (length journal) e.what) x h in
      let place : length journal ≡ x.position = sym (position_of_tuple key (length journal) e.what x says) in
      let stands : slice_get (journal ++ e ∷ []) (length journal) ≡ Some e = slice_get_seam journal e [] in
      let in_time : is_late lateness (water_of sources (take (length journal) (journal ++ e ∷ []))) e.what ≡ false = ap (λ j. is_late lateness (water_of sources j) e.what) (take-append_seam journal (e ∷ [])) ∙ on_time in
      record {
        entry = e;
        stands = subst (λ k. slice_get (journal ++ e ∷ []) k ≡ Some e) place stands;
        says = subst (λ k. tuple_in key k e.what ≡ Some x) place says;
        in_time = subst (λ k. is_late lateness (water_of sources (take k (journal ++ e ∷ []))) e.what ≡ false) place in_time;
      }

  kept_tuples_accepted : (journal : List Entry) (x : Kept) → Contains (kept_of lateness sources key journal) x → IsAcceptedTuple lateness sources key journal x
  kept_tuples_accepted = from_the_front (λ j. (x : Kept) → Contains (kept_of lateness sources key j) x → IsAcceptedTuple lateness sources key j x)
      (λ x c. absurd (none_in_nil x (subst (λ l. Contains l x) (kept_of_nil lateness sources key) c)))
      (λ j e before x c. by j e before x (accepted_tuple lateness sources key j e) refl (subst (λ l. Contains l x) (kept_of_push lateness sources key j e) c))
    where
      by : (j : List Entry) (e : Entry) → ((x : Kept) → Contains (kept_of lateness sources key j) x → IsAcceptedTuple lateness sources key j x) → (x : Kept) (o : Option Kept) → accepted_tuple lateness sources key j e ≡ o
          → Contains (option_map_or (put_in_order (kept_of lateness sources key j)) o (kept_of lateness sources key j)) x → IsAcceptedTuple lateness sources key (j ++ e ∷ []) x
      by j e before x None a c = tuple_stays j e x (before x c)
      by j e before x (Some y) a c =
          ⊎_elim
          (λ same. tuple_comes j e x (a ∙ ap Some same))
          (λ d. tuple_stays j e x (before x d))
          (Contains-insert_cases (kept_of lateness sources key j) (position_or_len (λ z. nat_lt y.time z.time) (kept_of lateness sources key j)) y x c)

  accepted_tuples_kept : (journal : List Entry) (x : Kept) → IsAcceptedTuple lateness sources key journal x → Contains (kept_of lateness sources key journal) x
  accepted_tuples_kept = from_the_front (λ j. (x : Kept) → IsAcceptedTuple lateness sources key j x → Contains (kept_of lateness sources key j) x)
      (λ x h. absurd (none-some h.entry h.stands))
      (λ j e before x h. ⊎_elim (λ within. old j e x (before x (tuple_was j e x within h))) (λ behind. new j e x h (at_end j e x behind h)) (cases_lt x.position (length j)))
    where
      old : (j : List Entry) (e : Entry) (x : Kept) → Contains (kept_of lateness sources key j) x → Contains (kept_of lateness sources key (j ++ e ∷ [])) x
      old j e x c = subst (λ l. Contains l x) (sym (kept_of_push lateness sources key j e)) (by (accepted_tuple lateness sources key j e))
        where
          by : (o : Option Kept) → Contains (option_map_or (put_in_order (kept_of lateness sources key j)) o (kept_of lateness sources key j)) x
          by None = c
          by (Some y) = Contains-insert_old (kept_of lateness sources key j) (position_or_len (λ z. nat_lt y.time z.time) (kept_of lateness sources key j)) y x c

      at_end : (j : List Entry) (e : Entry) (x : Kept) → length j ≤ x.position → IsAcceptedTuple lateness sources key (j ++ e ∷ []) x → x.position ≡ length j
      at_end j e x behind h = let within : x.position < length (j ++ e ∷ []) = slice_get_within (j ++ e ∷ []) x.position h.entry h.stands in omega (arith, length_push j e)

      new : (j : List Entry) (e : Entry) (x : Kept) → IsAcceptedTuple lateness sources key (j ++ e ∷ []) x → x.position ≡ length j → Contains (kept_of lateness sources key (j ++ e ∷ [])) x
      new j e x h place =
          let same : h.entry ≡ e = same_Some h.entry e (sym h.stands ∙ subst (λ k. slice_get (j ++ e ∷ []) k ≡ Some e) (sym place) (slice_get_seam j e [])) in
          let says : tuple_in key (length j) e.what ≡ Some x = subst (λ k. tuple_in key k e.what ≡ Some x) place (subst (λ (f : Entry). tuple_in key x.position f.what ≡ Some x) same h.says) in
          let front : take x.position (j ++ e ∷ []) ≡ j = ap (λ k. take k (j ++ e ∷ [])) place ∙ take-append_seam j (e ∷ []) in
          let in_time : is_late lateness (water_of sources j) e.what ≡ false = subst (λ i. is_late lateness (water_of sources i) e.what ≡ false) front (subst (λ (f : Entry). is_late lateness (water_of sources (take x.position (j ++ e ∷ []))) f.what ≡ false) same h.in_time) in
          subst (λ l. Contains l x) (sym (kept_of_tuple lateness sources key j e x in_time says)) (Contains-insert_new (kept_of lateness sources key j) (position_or_len (λ z. nat_lt x.time z.time) (kept_of lateness sources key j)) x)

  pub kept_exactly : (journal : List Entry) (x : Kept) → Contains (kept_of lateness sources key journal) x ↔ IsAcceptedTuple lateness sources key journal x
  kept_exactly journal x = (kept_tuples_accepted journal x, accepted_tuples_kept journal x)

  -- two kept tuples of one position are one
  pub kept_by_position : (journal : List Entry) (x y : Kept) → Contains (kept_of lateness sources key journal) x → Contains (kept_of lateness sources key journal) y → x.position ≡ y.position → x ≡ y
  kept_by_position journal x y c d place =
      let h : IsAcceptedTuple lateness sources key journal x = kept_tuples_accepted journal x c in
      let k : IsAcceptedTuple lateness sources key journal y = kept_tuples_accepted journal y d in
      let same : h.entry ≡ k.entry = same_Some h.entry k.entry (sym h.stands ∙ ap (slice_get journal) place ∙ k.stands) in
      let says : tuple_in key x.position h.entry.what ≡ Some y = subst (λ (f : Entry). tuple_in key x.position f.what ≡ Some y) (sym same) (subst (λ p. tuple_in key p k.entry.what ≡ Some y) (sym place) k.says) in
      same_Some x y (sym h.says ∙ says)

  -- ---- marks
  mark_stays : (journal : List Entry) (e : Entry) (time : ℕ) → IsAcceptedMark lateness sources key journal time → IsAcceptedMark lateness sources key (journal ++ e ∷ []) time
  mark_stays journal e time h =
      let within : h.position < length journal = slice_get_within journal h.position h.entry h.stands in
      record {
        position = h.position;
        entry = h.entry;
        stands = slice_get_front journal (e ∷ []) h.position within ∙ h.stands;
        says = h.says;
        in_time = ap (λ j. is_late lateness (water_of sources j) h.entry.what) (take-append-le h.position journal (e ∷ []) (omega arith)) ∙ h.in_time;
      }

  mark_comes : (journal : List Entry) (e : Entry) (time : ℕ) → accepted_mark lateness sources key journal e ≡ Some time → IsAcceptedMark lateness sources key (journal ++ e ∷ []) time
  mark_comes journal e time h =
      let (on_time, says) = read_in_time (is_late lateness (water_of sources journal) e.what) (mark_in key e.what) time h in
      record {
        position = length journal;
        entry = e;
        stands = slice_get_seam journal e [];
        says = says;
        in_time = ap (λ j. is_late lateness (water_of sources j) e.what) (take-append_seam journal (e ∷ [])) ∙ on_time;
      }

  marks_accepted : (journal : List Entry) (time : ℕ) → Contains (marks_of lateness sources key journal) time → IsAcceptedMark lateness sources key journal time
  marks_accepted = from_the_front (λ j. (time : ℕ) → Contains (marks_of lateness sources key j) time → IsAcceptedMark lateness sources key j time)
      (λ time c. absurd (none_in_nil time (subst (λ l. Contains l time) (marks_of_nil lateness sources key) c)))
      (λ j e before time c. by j e before time (accepted_mark lateness sources key j e) refl (subst (λ l. Contains l time) (marks_of_push lateness sources key j e) c))
    where
      by : (j : List Entry) (e : Entry) → ((time : ℕ) → Contains (marks_of lateness sources key j) time → IsAcceptedMark lateness sources key j time) → (time : ℕ) (o : Option ℕ) → accepted_mark lateness sources key j e ≡ o
          → Contains (option_map_or (insert_key nat_cmp (marks_of lateness sources key j)) o (marks_of lateness sources key j)) time → IsAcceptedMark lateness sources key (j ++ e ∷ []) time
      by j e before time None a c = mark_stays j e time (before time c)
      by j e before time (Some t) a c =
          ⊎_elim
          (λ same. mark_comes j e time (a ∙ ap Some same))
          (λ d. mark_stays j e time (before time d))
          (Contains-insert_key_cases nat_cmp t (marks_of lateness sources key j) time c)

  accepted_marks : (journal : List Entry) (time : ℕ) → IsAcceptedMark lateness sources key journal time → Contains (marks_of lateness sources key journal) time
  accepted_marks = from_the_front (λ j. (time : ℕ) → IsAcceptedMark lateness sources key j time → Contains (marks_of lateness sources key j) time)
      (λ time h. absurd (none-some h.entry h.stands))
      (λ j e before time h. ⊎_elim (λ within. old j e time (before time (was j e time h within))) (λ behind. new j e time h (at_end j e time h behind)) (cases_lt h.position (length j)))
    where
      was : (j : List Entry) (e : Entry) (time : ℕ) (h : IsAcceptedMark lateness sources key (j ++ e ∷ []) time) → h.position < length j → IsAcceptedMark lateness sources key j time
      was j e time h within = record {
        position = h.position;
        entry = h.entry;
        stands = sym (slice_get_front j (e ∷ []) h.position within) ∙ h.stands;
        says = h.says;
        in_time = ap (λ j. is_late lateness (water_of sources j) h.entry.what) (sym (take-append-le h.position j (e ∷ []) (omega arith))) ∙ h.in_time;
      }

      old : (j : List Entry) (e : Entry) (time : ℕ) → Contains (marks_of lateness sources key j) time → Contains (marks_of lateness sources key (j ++ e ∷ [])) time
      old j e time c = subst (λ l. Contains l time) (sym (marks_of_push lateness sources key j e)) (by (accepted_mark lateness sources key j e))
        where
          by : (o : Option ℕ) → Contains (option_map_or (insert_key nat_cmp (marks_of lateness sources key j)) o (marks_of lateness sources key j)) time
          by None = c
          by (Some t) = Contains-insert_key nat_cmp t (marks_of lateness sources key j) time c

      at_end : (j : List Entry) (e : Entry) (time : ℕ) (h : IsAcceptedMark lateness sources key (j ++ e ∷ []) time) → length j ≤ h.position → h.position ≡ length j
      at_end j e time h behind = let within : h.position < length (j ++ e ∷ []) = slice_get_within (j ++ e ∷ []) h.position h.entry h.stands in omega (arith, length_push j e)

      new : (j : List Entry) (e : Entry) (time : ℕ) (h : IsAcceptedMark lateness sources key (j ++ e ∷ []) time) → h.position ≡ length j → Contains (marks_of lateness sources key (j ++ e ∷ [])) time
      new j e time h place =
          let same : h.entry ≡ e = same_Some h.entry e (sym h.stands ∙ subst (λ k. slice_get (j ++ e ∷ []) k ≡ Some e) (sym place) (slice_get_seam j e [])) in
          let says : mark_in key e.what ≡ Some time = subst (λ (f : Entry). mark_in key f.what ≡ Some time) same h.says in
          let front : take h.position (j ++ e ∷ []) ≡ j = ap (λ k. take k (j ++ e ∷ [])) place ∙ take-append_seam j (e ∷ []) in
          let in_time : is_late lateness (water_of sources j) e.what ≡ false = subst (λ i. is_late lateness (water_of sources i) e.what ≡ false) front (subst (λ (f : Entry). is_late lateness (water_of sources (take h.position (j ++ e ∷ []))) f.what ≡ false) same h.in_time) in
          subst (λ l. Contains l time) (sym (marks_of_mark lateness sources key j e time in_time says)) (Contains-insert_key_self nat_cmp exact_unsigned time (marks_of lateness sources key j))

  pub marks_exactly : (journal : List Entry) (time : ℕ) → Contains (marks_of lateness sources key journal) time ↔ IsAcceptedMark lateness sources key journal time
  marks_exactly journal time = (marks_accepted journal time, accepted_marks journal time)

-- ---- limits
fits : (value : ℤ) → is_value value ≡ true → FitsSigned w64 value
fits (pos n) h = let most : n ≤ 9223372036854775807 = leb-true n 9223372036854775807 h in record { sfits = omega arith }
fits (negsuc n) h = let most : n ≤ 9223372036854775807 = leb-true n 9223372036854775807 (and_parts (nat_le n 9223372036854775807) true h).0 in record { sfits = omega arith }

tuple_within : (key : List ℕ) (position : ℕ) (what : What) (x : Kept) → is_what_within what ≡ true → tuple_in key position what ≡ Some x → (x.time ≤ TIME_MAX) × FitsSigned w64 x.value
tuple_within key position (Tuple of time value) x h says = by (bytes_eq of key) says
  where
    parts : (nat_le time TIME_MAX ≡ true) × ((is_value value && is_key of) ≡ true)
    parts = and_parts (nat_le time TIME_MAX) (is_value value && is_key of) h

    by : (b : Bool) → cond b (Some (record { position = position; time = time; value = value })) None ≡ Some x → (x.time ≤ TIME_MAX) × FitsSigned w64 x.value
    by true e =
        let same : record { position = position; time = time; value = value } ≡ x = same_Some (record { position = position; time = time; value = value }) x e in (
          subst (λ (y : Kept). y.time ≤ TIME_MAX) same (leb-true time TIME_MAX parts.0),
          subst (λ (y : Kept). FitsSigned w64 y.value) same (fits value (and_parts (is_value value) (is_key of) parts.1).0),
        )
    by false e = absurd (none-some x e)
tuple_within key position (Mark of time) x h says = absurd (none-some x says)
tuple_within key position (Water time) x h says = absurd (none-some x says)
tuple_within key position Idle x h says = absurd (none-some x says)
tuple_within key position End x h says = absurd (none-some x says)

mark_within : (key : List ℕ) (what : What) (time : ℕ) → is_what_within what ≡ true → mark_in key what ≡ Some time → time ≤ TIME_MAX
mark_within key (Tuple of at value) time h says = absurd (none-some time says)
mark_within key (Mark of at) time h says = by (bytes_eq of key) says
  where
    by : (b : Bool) → cond b (Some at) None ≡ Some time → time ≤ TIME_MAX
    by true e = subst (λ t. t ≤ TIME_MAX) (same_Some at time e) (leb-true at TIME_MAX (and_parts (nat_le at TIME_MAX) (is_key of) h).0)
    by false e = absurd (none-some time e)
mark_within key (Water at) time h says = absurd (none-some time says)
mark_within key Idle time h says = absurd (none-some time says)
mark_within key End time h says = absurd (none-some time says)

what_within : (journal : List Entry) (k : ℕ) (e : Entry) → AreEntriesWithin journal → slice_get journal k ≡ Some e → is_what_within e.what ≡ true
what_within journal k e h stands =
    let lt : k < length journal = slice_get_within journal k e stands in
    let within : is_entry_within e ≡ true = subst (λ f. is_entry_within f ≡ true) (get_or_from_slice_get journal k e e stands) (h k e lt) in
    (and_parts (nat_lt e.source (2 ^ 16)) (is_what_within e.what) within).1

pub kept_values_fit : (lateness sources : ℕ) (key : List ℕ) (journal : List Entry) → AreEntriesWithin journal → All (λ x. FitsSigned w64 x.value) (kept_of lateness sources key journal)
kept_values_fit lateness sources key journal h = All_from_members (λ x. FitsSigned w64 x.value) (kept_of lateness sources key journal)
    (λ x c. let a : IsAcceptedTuple lateness sources key journal x = kept_tuples_accepted lateness sources key journal x c in (tuple_within key x.position a.entry.what x (what_within journal x.position a.entry h a.stands) a.says).1)

pub kept_times_within : (lateness sources : ℕ) (key : List ℕ) (journal : List Entry) → AreEntriesWithin journal → All (λ x. x.time ≤ TIME_MAX) (kept_of lateness sources key journal)
kept_times_within lateness sources key journal h = All_from_members (λ (x : Kept). x.time ≤ TIME_MAX) (kept_of lateness sources key journal)
    (λ x c. let a : IsAcceptedTuple lateness sources key journal x = kept_tuples_accepted lateness sources key journal x c in (tuple_within key x.position a.entry.what x (what_within journal x.position a.entry h a.stands) a.says).0)

pub marks_within : (lateness sources : ℕ) (key : List ℕ) (journal : List Entry) → AreEntriesWithin journal → All (λ time. time ≤ TIME_MAX) (marks_of lateness sources key journal)
marks_within lateness sources key journal h = All_from_members (λ time. time ≤ TIME_MAX) (marks_of lateness sources key journal)
    (λ time c. let a : IsAcceptedMark lateness sources key journal time = marks_accepted lateness sources key journal time c in mark_within key a.entry.what time (what_within journal a.position a.entry h a.stands) a.says)
