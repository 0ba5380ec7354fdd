-- What is known of a key where nothing was dropped, and at the end.
use Rattle.std.proofs.Common.{◌≡◌, ◌∙◌, ℕ, ◌+◌, ◌≤◌, false, cond, List, [], ◌∷◌, ◌++◌, length, take, ap, sym, refl, subst, arith, append_assoc, Some}
use Rattle.std.specs.Prelude.{slice_get}
use Rattle.std.specs.List.{All, Contains, enumerate_from}
use Rattle.std.proofs.lemmas.Bool.Decides.{nat_tests}
use Rattle.std.proofs.lemmas.List.{append-nil, length_push}
use Rattle.std.proofs.lemmas.List.Elements.{All-take}
use Rattle.std.proofs.lemmas.Option.{get_or_from_slice_get, slice_get_within}
use Rattle.stream_base.specs.declared.entry.Entry.{Entry}
use Rattle.stream_base.specs.declared.kept.Kept.{Kept}
use Rattle.stream_base.specs.declared.limits.TheConstants.{FINAL}
use Rattle.stream_base.specs.declared.what.What.{What}
use Rattle.stream_base.specs.declared.what.What.TheVariants.{Tuple, Mark, Water, Idle, End}
use Rattle.stream_base.specs.Laws.{AreInEventOrder, IsAcceptedMark, IsAcceptedTuple}
use Rattle.stream_base.specs.Model.Final.{final_moment}
use Rattle.stream_base.specs.Model.Journal.{in_event_order, kept_of, marks_in, marks_of, on_time_after, tuples_in}
use Rattle.stream_base.specs.Model.Watermark.{water_of}
use Rattle.stream_base.specs.Model.What.{is_late, mark_in, tuple_in, water_time}
use Rattle.model_laws.proofs.Accepted.{kept_exactly, marks_exactly}
use Rattle.stream_base.proofs.EventOrder.{kept_in_event_order}
use Rattle.model_laws.proofs.WatermarkBounds.{water_at_most}
use Rattle.slice_lists.proofs.Order.{All-split}
use Rattle.final_rows.specs.AtEnd.{NothingIsDropped}

-- ---- nothing was dropped
all_on_time : (lateness sources : ℕ) (before es : List Entry) → ((front : List Entry) (e : Entry) (back : List Entry) → es ≡ front ++ e ∷ back → is_late lateness (water_of sources (before ++ front)) e.what ≡ false)
    → on_time_after lateness sources before es ≡ enumerate_from (length before) es
unfolding on_time_after
all_on_time lateness sources before [] h = refl
all_on_time lateness sources before (e ∷ es) h =
    let now : is_late lateness (water_of sources before) e.what ≡ false = subst (λ b. is_late lateness (water_of sources b) e.what ≡ false) (append-nil before) (h [] e es refl) in
    let later : on_time_after lateness sources (before ++ e ∷ []) es ≡ enumerate_from (length before + 1) es =
    subst (λ n. on_time_after lateness sources (before ++ e ∷ []) es ≡ enumerate_from n es) (length_push before e)
    (all_on_time lateness sources (before ++ e ∷ []) es (λ front f back is. subst (λ b. is_late lateness (water_of sources b) f.what ≡ false) (sym (append_assoc before (e ∷ []) front)) (h (e ∷ front) f back (ap (λ t. e ∷ t) is)))) in
    ap (λ b. cond {A = List (ℕ × Entry)} b (on_time_after lateness sources (before ++ e ∷ []) es) ((length before, e) ∷ on_time_after lateness sources (before ++ e ∷ []) es)) now
    ∙ ap (λ t. (length before, e) ∷ t) later

pub kept_whole : (lateness sources : ℕ) (key : List ℕ) (journal : List Entry) → NothingIsDropped lateness sources journal → kept_of lateness sources key journal ≡ (final_moment journal key).kept
unfolding kept_of
kept_whole lateness sources key journal h = ap (λ l. in_event_order (tuples_in key l)) (all_on_time lateness sources [] journal h)

pub marks_whole : (lateness sources : ℕ) (key : List ℕ) (journal : List Entry) → NothingIsDropped lateness sources journal → marks_of lateness sources key journal ≡ (final_moment journal key).marks
unfolding marks_of
marks_whole lateness sources key journal h = ap (marks_in key) (all_on_time lateness sources [] journal h)

-- ---- entries whose watermarks are at most final, none of which is dropped at the greatest lateness
abbrev pub AreEarly : List Entry → Type 0
AreEarly entries = All (λ e. water_time e.what ≤ FINAL) entries

never_late : (water : ℕ) (what : What) → water ≤ FINAL → is_late FINAL water what ≡ false
never_late water (Tuple key time value) h = grind (arith, nat_tests)
never_late water (Mark key time) h = grind (arith, nat_tests)
never_late water (Water time) h = refl
never_late water Idle h = refl
never_late water End h = refl

none_dropped : (entries : List Entry) → AreEarly entries → NothingIsDropped FINAL 0 entries
none_dropped entries early before e after is =
    let front = (All-split (λ (x : Entry). water_time x.what ≤ FINAL) before (e ∷ after) (subst AreEarly is early)).0 in
    never_late (water_of 0 before) e.what (water_at_most 0 before front)

early_front : (n : ℕ) (entries : List Entry) → AreEarly entries → AreEarly (take n entries)
early_front n entries early = All-take (λ (x : Entry). water_time x.what ≤ FINAL) n entries early

-- a key's tuples and marks at the end are those of the entries
module _ (key : List ℕ) (entries : List Entry) (early : AreEarly entries) where
  pub kept_stands : (x : Kept) → Contains (final_moment entries key).kept x → IsAcceptedTuple FINAL 0 key entries x
  kept_stands x c = (kept_exactly FINAL 0 key entries x).0 (subst (λ l. Contains l x) (sym (kept_whole FINAL 0 key entries (none_dropped entries early))) c)

  pub stands_kept : (position : ℕ) (e : Entry) (x : Kept) → slice_get entries position ≡ Some e → tuple_in key position e.what ≡ Some x → x.position ≡ position → Contains (final_moment entries key).kept x
  stands_kept position e x stands says at =
      subst (λ l. Contains l x) (kept_whole FINAL 0 key entries (none_dropped entries early))
      ((kept_exactly FINAL 0 key entries x).1 (record {
        entry = e;
        stands = subst (λ n. slice_get entries n ≡ Some e) (sym at) stands;
        says = subst (λ n. tuple_in key n e.what ≡ Some x) (sym at) says;
        in_time = never_late (water_of 0 (take x.position entries)) e.what (water_at_most 0 (take x.position entries) (early_front x.position entries early));
      }))

  pub mark_stands : (time : ℕ) → Contains (final_moment entries key).marks time → IsAcceptedMark FINAL 0 key entries time
  mark_stands time c = (marks_exactly FINAL 0 key entries time).0 (subst (λ l. Contains l time) (sym (marks_whole FINAL 0 key entries (none_dropped entries early))) c)

  pub stands_marked : (position : ℕ) (e : Entry) (time : ℕ) → slice_get entries position ≡ Some e → mark_in key e.what ≡ Some time → Contains (final_moment entries key).marks time
  stands_marked position e time stands says =
      subst (λ l. Contains l time) (marks_whole FINAL 0 key entries (none_dropped entries early))
      ((marks_exactly FINAL 0 key entries time).1 (record {
        position = position;
        entry = e;
        stands = stands;
        says = says;
        in_time = never_late (water_of 0 (take position entries)) e.what (water_at_most 0 (take position entries) (early_front position entries early));
      }))

  pub final_in_event_order : AreInEventOrder (final_moment entries key).kept
  final_in_event_order = subst AreInEventOrder (kept_whole FINAL 0 key entries (none_dropped entries early)) (kept_in_event_order FINAL 0 key entries)

pub Contains-stands : (entries : List Entry) (position : ℕ) (e : Entry) → slice_get entries position ≡ Some e → Contains entries e
Contains-stands entries position e stands = (position, slice_get_within entries position e stands, get_or_from_slice_get entries position e e stands)
