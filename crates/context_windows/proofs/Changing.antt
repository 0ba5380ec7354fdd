-- What is told of sessions are their changes.
use Rattle.std.proofs.Common.{◌≡◌, ◌∙◌, ℕ, suc, ◌+◌, ◌<◌, ◌≤◌, Bool, true, false, cond, not, List, [], ◌∷◌, ◌++◌, length, map, ap, sym, refl, subst, arith, Option, None, Some, append_assoc}
use Rattle.std.specs.Prelude.{◌&&◌, ◌||◌, ◌==◌, nat_le, nat_lt, option_to_list, find, pos}
use Rattle.std.specs.List.{All, Contains, filter, filter_map, flat_map, list_any, cons_option}
use Rattle.std.proofs.lemmas.Bool.{and_parts, false_from_ne_true, lt-ltb, ltb-true}
use Rattle.std.proofs.lemmas.List.{length-append, map-append}
use Rattle.std.proofs.lemmas.List.Elements.{All-cons, All-nil, All-head, All-tail, All-weaker, All-filter, All-contains, filter-append, Contains-append_right}
use Rattle.stream_base.specs.declared.change.Change.{Change}
use Rattle.stream_base.specs.declared.change.Change.TheVariants.{Gone, New, Again}
use Rattle.stream_base.specs.declared.def.Def.{Def}
use Rattle.stream_base.specs.declared.func.Func.{Func}
use Rattle.stream_base.specs.declared.kept.Kept.{Kept}
use Rattle.stream_base.specs.Laws.{becomes_complete, completions}
use Rattle.stream_base.specs.Model.Changes.{Moment, are_same_tuples, emission, emissions, emitted, former_of, is_same, retractions, row_of}
use Rattle.stream_base.specs.Model.Journal.{put_in_order}
use Rattle.stream_base.specs.Model.Windows.{Instance, sessions, within}
use Rattle.stream_base.proofs.Members.{filter_has, filter_members}
use Rattle.stream_base.proofs.Rising.{Contains-head, Contains-tail}
use Rattle.window_laws.specs.After.{complete_at, emissions_between, retractions_between, with_tuple}
use Rattle.window_laws.specs.Sessions.{AreChangesOfNear, IsPutInSessions, joined_session}
use Rattle.window_laws.proofs.PartFacts.{session_changes}
use Rattle.agg_store.specs.Stored.{Stored, tuples_of}
use Rattle.slice_lists.proofs.SliceEdits.{put_length}
use Rattle.window_spans.specs.declared.span.Span.{Span}
use Rattle.window_spans.specs.declared.standing.Standing.{Standing}
use Rattle.window_spans.specs.Held.{AreHeld, IsHeld}
use Rattle.window_spans.specs.Spans.{asked_of, due_of, goes, is_due, is_near, is_same_span, joined_span, near_of, span_alone, span_of, spans_with, stands}
use Rattle.window_spans.specs.Telling.{as_standing, come_of, gone_of, row_for, told_as}
use Rattle.window_spans.proofs.Apart.{high_rises}
use Rattle.context_windows.specs.Spanned.{FollowsSessions, HoldsSessions, IsSession, Remembers, Spanned, changes_of, gap_of, near_standing, sessions_after}
use Rattle.context_windows.proofs.Following.{asked_is, bounds_are_ends, completions_are, due_is, gap_some, joined_is, near_complete, session_kind, session_within, spans_become, spans_near}
use Rattle.window_laws.proofs.SessionFacts.{put_times, sessions_after_put}

or_false : (b : Bool) → (b || false) ≡ b
or_false true = refl
or_false false = refl

-- ---- one session in the place of some
module _ (window : ℕ) (key : List ℕ) (func : Func) (water : ℕ) (j : Instance) (ends : j.bound ≡ j.high) where
  stays_or_goes : (i : Instance) → list_any (is_same i) (complete_at water (j ∷ [])) ≡ (stands water (span_of j) && is_same_span (span_of i) (span_of j))
  stays_or_goes i = ap (λ n. list_any (is_same i) (cond (nat_le n water) (j ∷ []) [])) ends ∙ by (nat_le j.high water)
    where
      by : (b : Bool) → list_any (is_same i) (cond b (j ∷ []) []) ≡ (b && is_same i j)
      by true = or_false (is_same i j)
      by false = refl

  pub gone_are : (near : List Instance) → retractions_between window key func near (complete_at water (j ∷ [])) ≡ gone_of window key water (span_of j) (map (as_standing func) near)
  gone_are [] = refl
  gone_are (i ∷ is) =
      ap (λ b. cons_option (cond b None (Some (Gone (row_of window key func i)))) (retractions_between window key func is (complete_at water (j ∷ [])))) (stays_or_goes i)
      ∙ by (stands water (span_of j) && is_same_span (span_of i) (span_of j)) (gone_are is)
    where
      by : (b : Bool) → retractions_between window key func is (complete_at water (j ∷ [])) ≡ gone_of window key water (span_of j) (map (as_standing func) is)
          → cons_option (cond b None (Some (Gone (row_of window key func i)))) (retractions_between window key func is (complete_at water (j ∷ []))) ≡ map (λ s. Gone (row_for window key s)) (cond (not b) (as_standing func i ∷ filter (λ s. goes water (span_of j) s.span) (map (as_standing func) is)) (filter (λ s. goes water (span_of j) s.span) (map (as_standing func) is)))
      by true h = h
      by false h = ap (λ l. Gone (row_of window key func i) ∷ l) h

  told_of : (near : List Instance) → All (λ i. are_same_tuples i.chosen j.chosen ≡ false) near → emission window key func near j ≡ Some (told_as window key (as_standing func j) (find (λ s. is_same_span (span_of j) s.span) (map (as_standing func) near)))
  told_of [] a = refl
  told_of (i ∷ is) a = by (is_same j i) (told_of is (All-tail (λ i. are_same_tuples i.chosen j.chosen ≡ false) i is a))
    where
      by : (b : Bool) → emission window key func is j ≡ Some (told_as window key (as_standing func j) (find (λ s. is_same_span (span_of j) s.span) (map (as_standing func) is)))
          → emitted window key func j (cond b (Some i) (find (is_same j) is)) ≡ Some (told_as window key (as_standing func j) (cond b (Some (as_standing func i)) (find (λ s. is_same_span (span_of j) s.span) (map (as_standing func) is))))
      by true h = ap (λ b. cond b None (Some (Again (row_of window key func j) (former_of func i)))) (All-head (λ i. are_same_tuples i.chosen j.chosen ≡ false) i is a)
      by false h = h

  pub come_are : (near : List Instance) → All (λ i. are_same_tuples i.chosen j.chosen ≡ false) near → emissions_between window key func near (complete_at water (j ∷ [])) ≡ come_of window key water (map (as_standing func) near) (as_standing func j)
  come_are near a = ap (λ n. filter_map (emission window key func near) (cond (nat_le n water) (j ∷ []) [])) ends ∙ by (nat_le j.high water)
    where
      by : (b : Bool) → filter_map (emission window key func near) (cond b (j ∷ []) []) ≡ cond b (told_as window key (as_standing func j) (find (λ s. is_same_span (span_of j) s.span) (map (as_standing func) near)) ∷ []) []
      by true = ap (λ o. cons_option o []) (told_of near a)
      by false = refl

-- ---- the session with a tuple more selects more
same_length : (xs ys : List Kept) → are_same_tuples xs ys ≡ true → length xs ≡ length ys
same_length [] [] e = refl
same_length [] (y ∷ ys) e = absurd (ne e)
  where
    ne : false ≡ true → ⊥
    ne e = cc
same_length (x ∷ xs) [] e = absurd (ne e)
  where
    ne : false ≡ true → ⊥
    ne e = cc
same_length (x ∷ xs) (y ∷ ys) e = ap suc (same_length xs ys (and_parts (x.position == y.position) (are_same_tuples xs ys) e).1)

longer_differs : (xs ys : List Kept) → length xs < length ys → are_same_tuples xs ys ≡ false
longer_differs xs ys l = false_from_ne_true (are_same_tuples xs ys) (λ e. let n = same_length xs ys e in omega arith)

each_within : (near : List Instance) → All (λ (i : Instance). length i.chosen ≤ length (flat_map (λ (i : Instance). i.chosen) near)) near
each_within [] = All-nil (λ (i : Instance). length i.chosen ≤ 0)
each_within (i ∷ is) =
    All-cons (λ (k : Instance). length k.chosen ≤ length (flat_map (λ (i : Instance). i.chosen) (i ∷ is))) i is
    (omega (arith, length-append i.chosen (flat_map (λ (i : Instance). i.chosen) is)))
    (All-weaker (λ (k : Instance). length k.chosen ≤ length (flat_map (λ (i : Instance). i.chosen) is)) (λ k. length k.chosen ≤ length (flat_map (λ (i : Instance). i.chosen) (i ∷ is))) (λ k l. omega (arith, length-append i.chosen (flat_map (λ (i : Instance). i.chosen) is))) is (each_within is))

pub joined_differs : (gap : ℕ) (near : List Instance) (x : Kept) → All (λ (i : Instance). are_same_tuples i.chosen (joined_session gap near x).chosen ≡ false) near
joined_differs gap near x =
    All-weaker (λ (i : Instance). length i.chosen ≤ length (flat_map (λ (i : Instance). i.chosen) near)) (λ i. are_same_tuples i.chosen (joined_session gap near x).chosen ≡ false)
    (λ i l. longer_differs i.chosen (put_in_order (flat_map (λ (i : Instance). i.chosen) near) x) (omega (arith, put_length (flat_map (λ (i : Instance). i.chosen) near) x)))
    near (each_within near)

-- ---- retractions of two lists
gone_both : (window : ℕ) (key : List ℕ) (water : ℕ) (span : Span) (xs ys : List Standing) → gone_of window key water span (xs ++ ys) ≡ gone_of window key water span xs ++ gone_of window key water span ys
gone_both window key water span xs ys =
    ap (map (λ s. Gone (row_for window key s))) (filter-append (λ (s : Standing). goes water span s.span) xs ys)
    ∙ map-append (λ (s : Standing). Gone (row_for window key s)) (filter (λ s. goes water span s.span) xs) (filter (λ s. goes water span s.span) ys)

-- ---- a put
module _ (window : ℕ) (def : Def) (key : List ℕ) (m : Moment) (x : Kept) (s : Spanned) (e : IsSession def.kind) (f : FollowsSessions (gap_of def.kind) m.kept s) (le : s.forgotten ≤ x.time) where
  abbrev known : AreChangesOfNear window key def.func (gap_of def.kind) m x (retractions key m (with_tuple m x) (window, def)) (emissions key m (with_tuple m x) (window, def))
  known = session_changes window key (gap_of def.kind) def m x (session_kind def.kind e) (session_within def.kind e) f.in_order

  abbrev one : Instance
  one = joined_session (gap_of def.kind) known.put.near x

  -- the spans near the tuple become that of its session
  span_is : joined_span (gap_of def.kind) x.time (near_of (gap_of def.kind) x.time s.spans) ≡ span_of (joined_session (gap_of def.kind) (session_changes window key (gap_of def.kind) def m x (session_kind def.kind e) (session_within def.kind e) f.in_order).put.near x)
  span_is =
      ap (joined_span (gap_of def.kind) x.time) (spans_near (gap_of def.kind) (gap_some def.kind e) m.kept x f.in_order known.put s.forgotten le s.spans f.spans)
      ∙ joined_is (gap_of def.kind) (gap_some def.kind e) m.kept x f.in_order known.put

  one_ends : x.time < (joined_session (gap_of def.kind) (session_changes window key (gap_of def.kind) def m x (session_kind def.kind e) (session_within def.kind e) f.in_order).put.near x).high
  one_ends =
      let g : 1 ≤ gap_of def.kind = gap_some def.kind e in
      let a : x.time + gap_of def.kind ≤ (joined_span (gap_of def.kind) x.time (near_of (gap_of def.kind) x.time s.spans)).high = high_rises (span_alone (gap_of def.kind) x.time) (near_of (gap_of def.kind) x.time s.spans) in
      let b : (joined_span (gap_of def.kind) x.time (near_of (gap_of def.kind) x.time s.spans)).high ≡ (joined_session (gap_of def.kind) known.put.near x).high = ap (λ (t : Span). t.high) span_is in
      omega arith

  one_after : Contains (sessions_after (gap_of def.kind) x.time (put_in_order m.kept x)) (joined_session (gap_of def.kind) (session_changes window key (gap_of def.kind) def m x (session_kind def.kind e) (session_within def.kind e) f.in_order).put.near x)
  one_after =
      filter_has (λ (i : Instance). nat_lt x.time i.high) (sessions (gap_of def.kind) (put_in_order m.kept x)) (joined_session (gap_of def.kind) known.put.near x)
      (subst (λ l. Contains l (joined_session (gap_of def.kind) known.put.near x)) (sym known.put.is)
      (Contains-append_right known.put.front (joined_session (gap_of def.kind) known.put.near x ∷ known.put.back) (joined_session (gap_of def.kind) known.put.near x) (Contains-head (joined_session (gap_of def.kind) known.put.near x) known.put.back)))
      (lt-ltb x.time (joined_session (gap_of def.kind) known.put.near x).high one_ends)

  pub put_follows : (new : Spanned) → new.spans ≡ spans_with (gap_of def.kind) x.time s.spans → new.forgotten ≡ s.forgotten → FollowsSessions (gap_of def.kind) (put_in_order m.kept x) new
  put_follows new is same = record {
    in_order = put_times m.kept x f.in_order;
    spans = is
        ∙ spans_become (gap_of def.kind) (gap_some def.kind e) m.kept x f.in_order known.put s.forgotten le s.spans f.spans
        (joined_is (gap_of def.kind) (gap_some def.kind e) m.kept x f.in_order known.put) one_ends
        ∙ ap (λ n. map span_of (sessions_after (gap_of def.kind) n (put_in_order m.kept x))) (sym same);
  }

  pub put_told : (water : ℕ) (store : Stored) → m.water ≡ water → Remembers def x.time water m.kept s → HoldsSessions (gap_of def.kind) x.time (put_in_order m.kept x) store
      → (span : Span) → span ≡ joined_span (gap_of def.kind) x.time (near_of (gap_of def.kind) x.time s.spans)
      → (first second : Option Standing) → option_to_list first ++ option_to_list second ≡ s.stood
      → (out one_gone gone all : List Change) → one_gone ≡ out ++ gone_of window key water span (option_to_list first) → gone ≡ one_gone ++ gone_of window key water span (option_to_list second)
      → ((i : Instance) → IsHeld span store i → all ≡ gone ++ come_of window key water (option_to_list first ++ option_to_list second) (as_standing def.func i))
      → all ≡ out ++ changes_of key m (with_tuple m x) (window, def)
  put_told water store at r held span is first second stood out one_gone gone all g1 g2 told =
      let j : Instance = joined_session (gap_of def.kind) known.put.near x in
      let over : span ≡ span_of j = is ∙ span_is in
      let near : option_to_list first ++ option_to_list second ≡ map (as_standing def.func) (complete_at water known.put.near) = stood ∙ r.stood ∙ ap (map (as_standing def.func)) (near_complete (gap_of def.kind) (gap_some def.kind e) m.kept x f.in_order known.put water) in
      let it : IsHeld span store j = record {
        span = sym over;
        chosen = All-contains (λ (i : Instance). within i.low i.high (tuples_of store) ≡ i.chosen) (sessions_after (gap_of def.kind) x.time (put_in_order m.kept x)) j held.chosen one_after;
      } in
      let goes : retractions key m (with_tuple m x) (window, def) ≡ gone_of window key water span (option_to_list first ++ option_to_list second) =
      known.goes
      ∙ ap (λ w. retractions_between window key def.func (complete_at w known.put.near) (complete_at w (j ∷ []))) at
      ∙ gone_are window key def.func water j refl (complete_at water known.put.near)
      ∙ (λ k. gone_of window key water (sym over k) (sym near k)) in
      let comes : emissions key m (with_tuple m x) (window, def) ≡ come_of window key water (option_to_list first ++ option_to_list second) (as_standing def.func j) =
      known.comes
      ∙ ap (λ w. emissions_between window key def.func (complete_at w known.put.near) (complete_at w (j ∷ []))) at
      ∙ come_are window key def.func water j refl (complete_at water known.put.near) (All-filter (λ (i : Instance). nat_le i.bound water) (λ (i : Instance). are_same_tuples i.chosen j.chosen ≡ false) known.put.near (joined_differs (gap_of def.kind) known.put.near x))
      ∙ ap (λ l. come_of window key water l (as_standing def.func j)) (sym near) in
      told j it
      ∙ ap (λ l. l ++ come_of window key water (option_to_list first ++ option_to_list second) (as_standing def.func j))
      (g2 ∙ ap (λ l. l ++ gone_of window key water span (option_to_list second)) g1
      ∙ append_assoc out (gone_of window key water span (option_to_list first)) (gone_of window key water span (option_to_list second))
      ∙ ap (λ l. out ++ l) (sym (gone_both window key water span (option_to_list first) (option_to_list second))))
      ∙ append_assoc out (gone_of window key water span (option_to_list first ++ option_to_list second)) (come_of window key water (option_to_list first ++ option_to_list second) (as_standing def.func j))
      ∙ (λ k. out ++ (sym goes k ++ sym comes k))

-- ---- what is kept before a put
held_all : (gap time : ℕ) (kept : List Kept) (store : Stored) → HoldsSessions gap time kept store → (is : List Instance) → ((i : Instance) → Contains is i → Contains (sessions_after gap time kept) i) → AreHeld (map span_of is) store is
held_all gap time kept store h [] c = tt
held_all gap time kept store h (i ∷ is) c = (
  record {
    span = refl;
    chosen = All-contains (λ (i : Instance). within i.low i.high (tuples_of store) ≡ i.chosen) (sessions_after gap time kept) i h.chosen (c i (Contains-head i is));
  },
  held_all gap time kept store h is (λ k d. c k (Contains-tail i is k d)),
)

pub held_of : (gap time : ℕ) (kept : List Kept) (store : Stored) → HoldsSessions gap time kept store → (q : Instance → Bool) → ((i : Instance) → q i ≡ true → time < i.high) → AreHeld (map span_of (filter q (sessions gap kept))) store (filter q (sessions gap kept))
held_of gap time kept store h q later =
    held_all gap time kept store h (filter q (sessions gap kept))
    (λ i c. let d = filter_members q (sessions gap kept) i c in filter_has (λ (i : Instance). nat_lt time i.high) (sessions gap kept) i d.0 (lt-ltb time i.high (later i d.1)))

-- two optional spans that are those of some instances
pub record AreBoth (first second : Option Span) (store : Stored) (is : List Instance) : Type 0 where
  pub front : List Instance
  pub back : List Instance
  pub whole : is ≡ front ++ back
  pub held_front : AreHeld (option_to_list first) store front
  pub held_back : AreHeld (option_to_list second) store back

pub both_of : (first second : Option Span) (store : Stored) (is : List Instance) → option_to_list first ++ option_to_list second ≡ map span_of is → AreHeld (map span_of is) store is → AreBoth first second store is
both_of None second store is e h = record {
  front = [];
  back = is;
  whole = refl;
  held_front = tt;
  held_back = subst (λ l. AreHeld l store is) (sym e) h;
}
both_of (Some s) second store [] e h = absurd (ne e)
  where
    ne : s ∷ option_to_list second ≡ [] → ⊥
    ne e = cc
both_of (Some s) second store (i ∷ is) e h =
    let a = subst (λ l. AreHeld l store (i ∷ is)) (sym e) h in
    record { front = i ∷ []; back = is; whole = refl; held_front = (a.0, tt); held_back = a.1 }

pub stood_are : (func : Func) (first second : Option Span) (r q : Option Standing) (store : Stored) (is : List Instance) → AreBoth first second store is
    → ((is : List Instance) → AreHeld (option_to_list first) store is → option_to_list r ≡ map (as_standing func) is)
    → ((is : List Instance) → AreHeld (option_to_list second) store is → option_to_list q ≡ map (as_standing func) is)
    → option_to_list r ++ option_to_list q ≡ map (as_standing func) is
stood_are func first second r q store is b f g =
    (λ k. f b.front b.held_front k ++ g b.back b.held_back k)
    ∙ sym (map-append (as_standing func) b.front b.back)
    ∙ ap (map (as_standing func)) (sym b.whole)

pub remembered : (def : Def) (time water : ℕ) (kept : List Kept) (old new : Spanned) (store : Stored) → IsSession def.kind → FollowsSessions (gap_of def.kind) kept old → old.forgotten ≤ time → HoldsSessions (gap_of def.kind) time kept store
    → (first second : Option Span) → option_to_list first ++ option_to_list second ≡ asked_of (gap_of def.kind) time water old.spans
    → (r q : Option Standing) → new.stood ≡ option_to_list r ++ option_to_list q
    → ((is : List Instance) → AreHeld (option_to_list first) store is → option_to_list r ≡ map (as_standing def.func) is)
    → ((is : List Instance) → AreHeld (option_to_list second) store is → option_to_list q ≡ map (as_standing def.func) is)
    → Remembers def time water kept new
remembered def time water kept old new store e f le held first second asked r q stood told_first told_second = record {
  stood = stood
      ∙ stood_are def.func first second r q store (near_standing (gap_of def.kind) time water kept)
      (both_of first second store (near_standing (gap_of def.kind) time water kept) (asked ∙ asked_is (gap_of def.kind) (gap_some def.kind e) kept (record { position = 0; time = time; value = pos 0 }) f.in_order p water old.forgotten le old.spans f.spans) held_near)
      told_first told_second;
}
  where
    p : IsPutInSessions (gap_of def.kind) (record { position = 0; time = time; value = pos 0 }) (sessions (gap_of def.kind) kept) (sessions (gap_of def.kind) (put_in_order kept (record { position = 0; time = time; value = pos 0 })))
    p = sessions_after_put (gap_of def.kind) kept (record { position = 0; time = time; value = pos 0 }) (gap_some def.kind e) f.in_order

    near_later : (i : Instance) → is_near (gap_of def.kind) time (span_of i) ≡ true → time < i.high
    near_later i t = ltb-true time i.high (and_parts (nat_lt time i.high) (nat_lt i.low (time + gap_of def.kind)) t).0

    held_near : AreHeld (map span_of (near_standing (gap_of def.kind) time water kept)) store (near_standing (gap_of def.kind) time water kept)
    held_near =
        held_all (gap_of def.kind) time kept store held (near_standing (gap_of def.kind) time water kept)
        (λ i c.
        let a = filter_members (λ (i : Instance). nat_le i.bound water) (filter (λ (i : Instance). is_near (gap_of def.kind) time (span_of i)) (sessions (gap_of def.kind) kept)) i c in
        let b = filter_members (λ (i : Instance). is_near (gap_of def.kind) time (span_of i)) (sessions (gap_of def.kind) kept) i a.0 in
        filter_has (λ (i : Instance). nat_lt time i.high) (sessions (gap_of def.kind) kept) i b.0 (lt-ltb time i.high (near_later i b.1)))

-- ---- a move of the watermark
held_due : (gap old new : ℕ) (kept : List Kept) (store : Stored) → HoldsSessions gap old kept store → AreHeld (map span_of (filter (becomes_complete old new) (sessions gap kept))) store (filter (becomes_complete old new) (sessions gap kept))
held_due gap old new kept store held =
    subst (λ l. AreHeld (map span_of l) store l) (sym (bounds_are_ends gap old new kept))
    (held_of gap old kept store held (λ (i : Instance). is_due old new (span_of i)) (λ i t. ltb-true old i.high (and_parts (nat_lt old i.high) (nat_le i.high new) t).0))

pub move_told : (window : ℕ) (def : Def) (key : List ℕ) (m : Moment) (old new : ℕ) (s : Spanned) (store : Stored) → IsSession def.kind → FollowsSessions (gap_of def.kind) m.kept s → s.forgotten ≤ old → m.water ≡ old → HoldsSessions (gap_of def.kind) old m.kept store
    → (spans : List Span) → spans ≡ due_of old new s.spans → (out all : List Change)
    → ((is : List Instance) → AreHeld spans store is → all ≡ out ++ map (λ i. New (row_of window key def.func i)) is)
    → all ≡ out ++ completions key m new (window, def)
move_told window def key m old new s store e f le at held spans is out all told =
    told (filter (becomes_complete old new) (sessions (gap_of def.kind) m.kept))
    (subst (λ l. AreHeld l store (filter (becomes_complete old new) (sessions (gap_of def.kind) m.kept))) (sym (is ∙ due_is (gap_of def.kind) old new m.kept s f le))
    (held_due (gap_of def.kind) old new m.kept store held))
    ∙ ap (λ l. out ++ l)
    (ap (λ w. map (λ i. New (row_of window key def.func i)) (filter (becomes_complete w new) (sessions (gap_of def.kind) m.kept))) (sym at)
    ∙ sym (completions_are window def key m new e))
