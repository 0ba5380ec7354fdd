-- Spans that follow the sessions of tuples.
use Rattle.std.proofs.Common.{false, ap, ◌≡◌, ◌∙◌, ℕ, ◌+◌, ◌<◌, ◌≤◌, Bool, cond, List, [], ◌∷◌, ◌++◌, length, take, map, max, min, ◌-◌, sym, refl, subst, arith, ⊎_elim}
use Rattle.std.specs.Prelude.{nat_le, nat_lt}
use Rattle.std.specs.List.{All, filter}
use Rattle.std.proofs.lemmas.Bool.{and_left, cases_lt, le-ltb, lt-ltb}
use Rattle.std.proofs.lemmas.List.{length-map, map-append}
use Rattle.std.proofs.lemmas.List.Elements.{All-head, All-tail, All-weaker, filter-append}
use Rattle.stream_base.specs.declared.change.Change.TheVariants.{New}
use Rattle.stream_base.specs.declared.def.Def.{Def}
use Rattle.stream_base.specs.declared.kept.Kept.{Kept}
use Rattle.stream_base.specs.declared.kind.Kind.{Kind}
use Rattle.stream_base.specs.declared.kind.Kind.TheVariants.{Session}
use Rattle.stream_base.specs.Laws.{TimesDoNotFall, becomes_complete, completions}
use Rattle.stream_base.specs.Kinds.{is_events, IsKindWithin}
use Rattle.stream_base.specs.Model.Changes.{Moment, row_of}
use Rattle.stream_base.specs.Model.Journal.{put_in_order}
use Rattle.stream_base.specs.Model.Windows.{Instance, first_time, instances_of, last_time, pieces_of, session, sessions}
use Rattle.stream_base.proofs.Members.{filter_map_of}
use Rattle.window_laws.specs.After.{complete_at}
use Rattle.slice_lists.specs.Runs.{AreInOrder, AreParted, IsPartFrom, IsRun}
use Rattle.window_laws.specs.Sessions.{IsPutInSessions, joined_session}
use Rattle.window_laws.proofs.InstanceFacts.{gap_cut, session_far, session_near, session_runs}
use Rattle.stream_base.proofs.Filters.{filter_all}
use Rattle.slice_lists.proofs.Order.{All-map_of, All-split, IsApart, IsNear, run_spans, runs_are_runs}
use Rattle.slice_lists.proofs.RunEdits.{parted}
use Rattle.slice_lists.specs.declared.slice.Slice.{Slice}
use Rattle.slice_lists.specs.Slices.{joined}
use Rattle.slice_lists.proofs.SliceEdits.{entered_shown}
use Rattle.slice_lists.proofs.SliceOrder.{first_below_last}
use Rattle.window_spans.specs.declared.span.Span.{Span}
use Rattle.window_spans.specs.Spans.{asked_of, due_of, is_due, is_near, joined_span, near_of, span_of, spans_with, stands}
use Rattle.window_spans.proofs.Parts.{filter_alike, filter_twice, fewer_pass, take_few}
use Rattle.context_windows.specs.Spanned.{FollowsSessions, IsSession, Spanned, gap_of, near_standing, sessions_after}
use Rattle.context_windows.proofs.Thirds.{InThirds, backs_later, mids_are, spans_back, spans_front, spans_mid}

pub session_kind : (kind : Kind) → IsSession kind → kind ≡ Session (gap_of kind)
session_kind (Session gap) h = refl
session_kind kind h = absurd h

pub no_events : (kind : Kind) → IsSession kind → is_events kind ≡ false
no_events kind h = ap is_events (session_kind kind h)

pub sessions_are : (kind : Kind) (kept : List Kept) (marks : List ℕ) → IsSession kind → instances_of kind kept marks ≡ sessions (gap_of kind) kept
unfolding instances_of
sessions_are kind kept marks h = ap (λ k. instances_of k kept marks) (session_kind kind h)

pub session_within : (kind : Kind) → IsSession kind → IsKindWithin kind
session_within (Session gap) h = h
session_within kind h = absurd h

pub gap_some : (kind : Kind) → IsSession kind → 1 ≤ gap_of kind
gap_some (Session gap) h = h.0
gap_some kind h = absurd h

-- the runs of the sessions
abbrev runs_by : ℕ → List Kept → List (List Kept)
runs_by gap kept = pieces_of (λ x y. nat_le gap (y.time - x.time)) kept

-- each session ends behind its start
pub sessions_proper : (gap : ℕ) (kept : List Kept) → 1 ≤ gap → TimesDoNotFall kept → All (λ (i : Instance). i.low < i.high) (sessions gap kept)
sessions_proper gap kept some h =
    All-map_of (λ (i : Instance). i.low < i.high) (session gap) (runs_by gap kept)
    (All-weaker (IsRun (IsNear (gap_cut gap))) (λ run. first_time run < last_time run + gap)
    (λ run r. let s : first_time run ≤ last_time run = (run_spans (IsNear (gap_cut gap)) (IsApart (gap_cut gap)) gap (session_near gap) (λ a b. session_far gap a b some) run r).1 in omega arith)
    (runs_by gap kept)
    (runs_are_runs (IsNear (gap_cut gap)) (IsApart (gap_cut gap)) gap (session_near gap) (λ a b. session_far gap a b some) (runs_by gap kept) (session_runs gap kept h)))

-- a session is that of its run
pub own_sessions : (gap : ℕ) (runs : List (List Kept)) → All (λ (i : Instance). i ≡ session gap i.chosen) (map (session gap) runs)
own_sessions gap runs = All-map_of (λ (i : Instance). i ≡ session gap i.chosen) (session gap) runs (λ k d l. refl)

pub own_runs : (gap : ℕ) (runs : List (List Kept)) → map (λ (i : Instance). i.chosen) (map (session gap) runs) ≡ runs
own_runs gap [] = refl
own_runs gap (run ∷ runs) = ap (λ r. run ∷ r) (own_runs gap runs)

-- ---- tests of times
pub later_forgotten : (f t h : ℕ) → nat_lt (max f t) h ≡ cond (nat_lt f h) (nat_lt t h) false
later_forgotten f t h =
    ⊎_elim
    (λ l. ⊎_elim
    (λ m. lt-ltb (max f t) h (omega arith) ∙ sym (ap (λ b. cond b (nat_lt t h) false) (lt-ltb f h l) ∙ lt-ltb t h m))
    (λ m. le-ltb (max f t) h (omega arith) ∙ sym (ap (λ b. cond b (nat_lt t h) false) (lt-ltb f h l) ∙ le-ltb t h m))
    (cases_lt t h))
    (λ l. le-ltb (max f t) h (omega arith) ∙ sym (ap (λ b. cond b (nat_lt t h) false) (le-ltb f h l)))
    (cases_lt f h)

-- a test that fails of what is forgotten
pub only_later : (f h : ℕ) (b : Bool) → (h ≤ f → b ≡ false) → b ≡ cond (nat_lt f h) b false
only_later f h b n =
    ⊎_elim
    (λ l. sym (ap (λ c. cond c b false) (lt-ltb f h l)))
    (λ l. n l ∙ sym (ap (λ c. cond c b false) (le-ltb f h l)))
    (cases_lt f h)

-- forgetting more
pub follows_later : (gap time : ℕ) (kept : List Kept) (old new : Spanned) → FollowsSessions gap kept old → new.spans ≡ filter (λ s. nat_lt time s.high) old.spans → new.forgotten ≡ max old.forgotten time → FollowsSessions gap kept new
follows_later gap time kept old new f is at = record {
  in_order = f.in_order;
  spans = is
      ∙ ap (filter (λ s. nat_lt time s.high)) f.spans
      ∙ filter_map_of (λ s. nat_lt time s.high) span_of (sessions_after gap old.forgotten kept)
      ∙ ap (map span_of) (filter_twice (λ (i : Instance). nat_lt time i.high) (λ i. nat_lt old.forgotten i.high) (λ i. nat_lt (max old.forgotten time) i.high) (λ i. later_forgotten old.forgotten time i.high) (sessions gap kept))
      ∙ ap (λ n. map span_of (sessions_after gap n kept)) (sym at);
}

-- ---- what becomes complete
pub bounds_are_ends : (gap old new : ℕ) (kept : List Kept) → filter (becomes_complete old new) (sessions gap kept) ≡ filter (λ (i : Instance). is_due old new (span_of i)) (sessions gap kept)
bounds_are_ends gap old new kept =
    filter_map_of (becomes_complete old new) (session gap) (runs_by gap kept)
    ∙ sym (filter_map_of (λ (i : Instance). is_due old new (span_of i)) (session gap) (runs_by gap kept))

pub due_is : (gap old new : ℕ) (kept : List Kept) (s : Spanned) → FollowsSessions gap kept s → s.forgotten ≤ old → due_of old new s.spans ≡ map span_of (filter (becomes_complete old new) (sessions gap kept))
due_is gap old new kept s f le =
    ap (due_of old new) f.spans
    ∙ filter_map_of (is_due old new) span_of (sessions_after gap s.forgotten kept)
    ∙ ap (map span_of) (filter_twice (λ (i : Instance). is_due old new (span_of i)) (λ i. nat_lt s.forgotten i.high) (λ i. is_due old new (span_of i)) (λ i. only_later s.forgotten i.high (is_due old new (span_of i)) (λ l. and_left (nat_lt old i.high) (nat_le i.high new) (le-ltb old i.high (omega arith)))) (sessions gap kept)
    ∙ sym (bounds_are_ends gap old new kept))

pub completions_are : (window : ℕ) (def : Def) (key : List ℕ) (m : Moment) (new : ℕ) → IsSession def.kind → completions key m new (window, def) ≡ map (λ i. New (row_of window key def.func i)) (filter (becomes_complete m.water new) (sessions (gap_of def.kind) m.kept))
unfolding instances_of
completions_are window def key m new e = ap (λ k. map (λ i. New (row_of window key def.func i)) (filter (becomes_complete m.water new) (instances_of k m.kept m.marks))) (session_kind def.kind e)

pub completions_length : (window : ℕ) (def : Def) (key : List ℕ) (m : Moment) (old new : ℕ) (s : Spanned) → IsSession def.kind → FollowsSessions (gap_of def.kind) m.kept s → s.forgotten ≤ old → m.water ≡ old → length (due_of old new s.spans) ≡ length (completions key m new (window, def))
completions_length window def key m old new s e f le at =
    ap length (due_is (gap_of def.kind) old new m.kept s f le)
    ∙ length-map (filter (becomes_complete old new) (sessions (gap_of def.kind) m.kept)) span_of
    ∙ ap (λ w. length (filter (becomes_complete w new) (sessions (gap_of def.kind) m.kept))) (sym at)
    ∙ sym (length-map (filter (becomes_complete m.water new) (sessions (gap_of def.kind) m.kept)) (λ i. New (row_of window key def.func i)))
    ∙ ap length (sym (completions_are window def key m new e))

pub in_order_of : (gap : ℕ) → 1 ≤ gap → (runs : List (List Kept)) → AreParted (IsNear (gap_cut gap)) (IsApart (gap_cut gap)) runs → AreInOrder runs
in_order_of gap some [] a = tt
in_order_of gap some (run ∷ runs) a = (near run a.0, apart runs a.1, in_order_of gap some runs a.2)
  where
    near : (run : List Kept) → IsRun (IsNear (gap_cut gap)) run → IsRun (λ a b. a ≤ b) run
    near [] r = absurd r
    near (y ∷ []) r = tt
    near (y ∷ z ∷ zs) r = (r.0.0, near (z ∷ zs) r.1)

    apart : (runs : List (List Kept)) → IsPartFrom (IsApart (gap_cut gap)) run runs → IsPartFrom (λ a b. a < b) run runs
    apart [] b = tt
    apart (next ∷ rest) b = let l = session_far gap (last_time run) (first_time next) some b in omega arith

-- a session as it shows, by its run
joined_of : (gap : ℕ) → 1 ≤ gap → (x : Kept) (near : List Instance) → length near ≤ 2 → All (λ (i : Instance). i ≡ session gap i.chosen) near → AreParted (IsNear (gap_cut gap)) (IsApart (gap_cut gap)) (map (λ (i : Instance). i.chosen) near) → joined_span gap x.time (map span_of near) ≡ span_of (joined_session gap near x)
joined_of gap some x [] few own a = refl
joined_of gap some x (i ∷ []) few own a =
    let o : AreInOrder (i.chosen ∷ []) = in_order_of gap some (i.chosen ∷ []) a in
    let e : i ≡ session gap i.chosen = All-head (λ (i : Instance). i ≡ session gap i.chosen) i [] own in
    let low : i.low ≡ first_time i.chosen = ap (λ (j : Instance). j.low) e in
    let high : i.high ≡ last_time i.chosen + gap = ap (λ (j : Instance). j.high) e in
    let s = entered_shown (i.chosen ∷ []) x (omega arith) o in
    let f : first_time (put_in_order (joined (i.chosen ∷ [])) x) ≡ min (first_time i.chosen) x.time = ap (λ (t : Slice). t.low) s in
    let l : last_time (put_in_order (joined (i.chosen ∷ [])) x) ≡ max (last_time i.chosen) x.time = ap (λ (t : Slice). t.high) s in
    let lows : min x.time i.low ≡ first_time (put_in_order (joined (i.chosen ∷ [])) x) = omega arith in
    let highs : max (x.time + gap) i.high ≡ last_time (put_in_order (joined (i.chosen ∷ [])) x) + gap = omega arith in
    λ k. record { low = lows k; high = highs k }
joined_of gap some x (i ∷ j ∷ []) few own a =
    let o : AreInOrder (i.chosen ∷ j.chosen ∷ []) = in_order_of gap some (i.chosen ∷ j.chosen ∷ []) a in
    let e : i ≡ session gap i.chosen = All-head (λ (i : Instance). i ≡ session gap i.chosen) i (j ∷ []) own in
    let g : j ≡ session gap j.chosen = All-head (λ (i : Instance). i ≡ session gap i.chosen) j [] (All-tail (λ (i : Instance). i ≡ session gap i.chosen) i (j ∷ []) own) in
    let low : i.low ≡ first_time i.chosen = ap (λ (j : Instance). j.low) e in
    let high : i.high ≡ last_time i.chosen + gap = ap (λ (j : Instance). j.high) e in
    let low2 : j.low ≡ first_time j.chosen = ap (λ (j : Instance). j.low) g in
    let high2 : j.high ≡ last_time j.chosen + gap = ap (λ (j : Instance). j.high) g in
    let between : last_time i.chosen < first_time j.chosen = o.1 in
    let span1 : first_time i.chosen ≤ last_time i.chosen = first_below_last i.chosen o.0 in
    let span2 : first_time j.chosen ≤ last_time j.chosen = first_below_last j.chosen o.2.0 in
    let s = entered_shown (i.chosen ∷ j.chosen ∷ []) x (omega arith) o in
    let f : first_time (put_in_order (joined (i.chosen ∷ j.chosen ∷ [])) x) ≡ min (first_time i.chosen) x.time = ap (λ (t : Slice). t.low) s in
    let l : last_time (put_in_order (joined (i.chosen ∷ j.chosen ∷ [])) x) ≡ max (last_time j.chosen) x.time = ap (λ (t : Slice). t.high) s in
    let lows : min (min x.time i.low) j.low ≡ first_time (put_in_order (joined (i.chosen ∷ j.chosen ∷ [])) x) = omega arith in
    let highs : max (max (x.time + gap) i.high) j.high ≡ last_time (put_in_order (joined (i.chosen ∷ j.chosen ∷ [])) x) + gap = omega arith in
    λ k. record { low = lows k; high = highs k }
joined_of gap some x (i ∷ j ∷ k ∷ is) few own a = absurd (omega arith)

-- ---- a tuple and the sessions near it
module _ (gap : ℕ) (some : 1 ≤ gap) (kept : List Kept) (x : Kept) (h : TimesDoNotFall kept) (p : IsPutInSessions gap x (sessions gap kept) (sessions gap (put_in_order kept x))) where
  all_proper : All (λ (i : Instance). i.low < i.high) p.front × All (λ (i : Instance). i.low < i.high) (p.near ++ p.back)
  all_proper = All-split (λ (i : Instance). i.low < i.high) p.front (p.near ++ p.back) (subst (All (λ (i : Instance). i.low < i.high)) p.was (sessions_proper gap kept some h))

  -- those in front of the tuple, near it and behind it
  thirds : InThirds gap x.time (sessions gap kept) p.front p.near p.back
  thirds = record {
    was = p.was;
    fronts = λ k d l. let a = p.end_before k d l in let b = all_proper.0 k d l in (a, omega arith);
    mids = λ k d l. (p.end_near k d l, p.start_near k d l);
    backs = λ k d l.
        let a = p.start_behind k d l in
        let b = (All-split (λ (i : Instance). i.low < i.high) p.near p.back all_proper.1).1 k d l in
        (a, omega arith);
  }

  -- which sessions are near
  near_are : filter (λ (i : Instance). is_near gap x.time (span_of i)) (sessions gap kept) ≡ p.near
  near_are = mids_are gap x.time (sessions gap kept) p.front p.near p.back thirds

  module _ (forgotten : ℕ) (le : forgotten ≤ x.time) (spans : List Span) (is : spans ≡ map span_of (sessions_after gap forgotten kept)) where
    pub spans_near : near_of gap x.time spans ≡ map span_of p.near
    spans_near = spans_mid gap x.time (sessions gap kept) p.front p.near p.back thirds forgotten le spans is

    pub spans_become : joined_span gap x.time (map span_of p.near) ≡ span_of (joined_session gap p.near x) → x.time < (joined_session gap p.near x).high → spans_with gap x.time spans ≡ map span_of (sessions_after gap forgotten (put_in_order kept x))
    spans_become same ends =
        (λ k. spans_front gap x.time (sessions gap kept) p.front p.near p.back thirds forgotten le spans is k ++ joined_span gap x.time (spans_near k) ∷ spans_back gap x.time (sessions gap kept) p.front p.near p.back thirds forgotten le spans is k)
        ∙ ap (λ s. map span_of (filter (λ i. nat_lt forgotten i.high) p.front) ++ s ∷ map span_of p.back) same
        ∙ sym (map-append span_of (filter (λ i. nat_lt forgotten i.high) p.front) (joined_session gap p.near x ∷ p.back))
        ∙ ap (map span_of) (sym new_parts)
      where
        new_parts : sessions_after gap forgotten (put_in_order kept x) ≡ filter (λ i. nat_lt forgotten i.high) p.front ++ (joined_session gap p.near x ∷ p.back)
        new_parts =
            ap (filter (λ i. nat_lt forgotten i.high)) p.is
            ∙ filter-append (λ (i : Instance). nat_lt forgotten i.high) p.front (joined_session gap p.near x ∷ p.back)
            ∙ ap (λ l. filter (λ i. nat_lt forgotten i.high) p.front ++ l)
            (ap (λ b. cond b (joined_session gap p.near x ∷ filter (λ i. nat_lt forgotten i.high) p.back) (filter (λ i. nat_lt forgotten i.high) p.back)) (lt-ltb forgotten (joined_session gap p.near x).high (omega arith))
            ∙ ap (λ l. joined_session gap p.near x ∷ l) (filter_all (λ (i : Instance). nat_lt forgotten i.high) p.back (backs_later gap x.time (sessions gap kept) p.front p.near p.back thirds forgotten le)))

  -- ---- the one session that they become
  near_runs : AreParted (IsNear (gap_cut gap)) (IsApart (gap_cut gap)) (map (λ (i : Instance). i.chosen) p.near)
  near_runs =
      let all : runs_by gap kept ≡ map (λ (i : Instance). i.chosen) p.front ++ (map (λ (i : Instance). i.chosen) p.near ++ map (λ (i : Instance). i.chosen) p.back) =
      sym (own_runs gap (runs_by gap kept))
      ∙ ap (map (λ (i : Instance). i.chosen)) p.was
      ∙ map-append (λ (i : Instance). i.chosen) p.front (p.near ++ p.back)
      ∙ ap (λ l. map (λ (i : Instance). i.chosen) p.front ++ l) (map-append (λ (i : Instance). i.chosen) p.near p.back) in
      let a = subst (AreParted (IsNear (gap_cut gap)) (IsApart (gap_cut gap))) all (session_runs gap kept h) in
      (parted (IsNear (gap_cut gap)) (IsApart (gap_cut gap)) (map (λ (i : Instance). i.chosen) p.near) (map (λ (i : Instance). i.chosen) p.back)
      (parted (IsNear (gap_cut gap)) (IsApart (gap_cut gap)) (map (λ (i : Instance). i.chosen) p.front) (map (λ (i : Instance). i.chosen) p.near ++ map (λ (i : Instance). i.chosen) p.back) a).1).0

  near_own : All (λ (i : Instance). i ≡ session gap i.chosen) p.near
  near_own =
      let a = subst (All (λ (i : Instance). i ≡ session gap i.chosen)) p.was (own_sessions gap (runs_by gap kept)) in
      (All-split (λ (i : Instance). i ≡ session gap i.chosen) p.near p.back (All-split (λ (i : Instance). i ≡ session gap i.chosen) p.front (p.near ++ p.back) a).1).0

  pub joined_is : joined_span gap x.time (map span_of p.near) ≡ span_of (joined_session gap p.near x)
  joined_is = joined_of gap some x p.near p.at_most_two near_own near_runs

  -- ---- those that stand of the sessions near it
  near_ends : All (λ (i : Instance). i.bound ≡ i.high) p.near
  near_ends = All-weaker (λ (i : Instance). i ≡ session gap i.chosen) (λ i. i.bound ≡ i.high) (λ i e. ap (λ (j : Instance). j.bound) e ∙ sym (ap (λ (j : Instance). j.high) e)) p.near near_own

  pub near_complete : (water : ℕ) → near_standing gap x.time water kept ≡ complete_at water p.near
  near_complete water = ap (complete_at water) near_are

  pub standing_spans : (water : ℕ) → filter (stands water) (map span_of p.near) ≡ map span_of (complete_at water p.near)
  standing_spans water =
      filter_map_of (stands water) span_of p.near
      ∙ ap (map span_of) (filter_alike (λ (i : Instance). nat_le i.high water) (λ (i : Instance). nat_le i.bound water) p.near (All-weaker (λ (i : Instance). i.bound ≡ i.high) (λ i. nat_le i.high water ≡ nat_le i.bound water) (λ i e. ap (λ n. nat_le n water) (sym e)) p.near near_ends))

  pub asked_is : (water forgotten : ℕ) → forgotten ≤ x.time → (spans : List Span) → spans ≡ map span_of (sessions_after gap forgotten kept) → asked_of gap x.time water spans ≡ map span_of (near_standing gap x.time water kept)
  asked_is water forgotten le spans is =
      ap (λ l. take 2 (filter (stands water) l)) (spans_near forgotten le spans is)
      ∙ ap (take 2) (standing_spans water)
      ∙ take_few 2 (map span_of (complete_at water p.near)) (omega (arith, length-map (complete_at water p.near) span_of, fewer_pass (λ (i : Instance). nat_le i.bound water) p.near, p.at_most_two))
      ∙ ap (map span_of) (sym (near_complete water))
