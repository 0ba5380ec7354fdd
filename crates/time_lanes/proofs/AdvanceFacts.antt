-- A lane that follows a move of the watermark.
use Rattle.std.proofs.Common.{◌≡◌, ◌∙◌, ℕ, ℤ, ◌+◌, ◌-◌, ◌*◌, ◌/◌, ◌<◌, ◌≤◌, max, true, false, cond, List, [], ◌++◌, length, map, ap, sym, subst, arith, inl, inr}
use Rattle.std.specs.Prelude.{◌⊎◌}
use Rattle.std.proofs.lemmas.Bool.{cases_Bool, cases_lt, le-ltb, lt-ltb}
use Rattle.std.proofs.lemmas.Nat.{le-div}
use Rattle.std.proofs.Math.Nat.{div-mul-le_self}
use Rattle.stream_base.specs.declared.change.Change.{Change}
use Rattle.stream_base.specs.declared.def.Def.{Def}
use Rattle.stream_base.specs.declared.kept.Kept.{Kept}
use Rattle.stream_base.specs.declared.kind.Kind.{Kind}
use Rattle.stream_base.specs.Laws.{completions}
use Rattle.stream_base.specs.Kinds.{is_timed, length_of, slide_of}
use Rattle.stream_base.specs.Model.Moments.{moment}
use Rattle.slice_lists.specs.Runs.{AreInOrder, runs_within}
use Rattle.window_laws.specs.Walk.{due_from, next_start}
use Rattle.window_laws.proofs.WalkFacts.{to_next}
use Rattle.agg_store.specs.Stored.{Stored}
use Rattle.time_lanes.specs.Held.{Holding, HoldsFrom, partials_of}
use Rattle.time_lanes.specs.Lane.{Knows, MissesNoSlice, Laned, fresh_partials, fresh_to}
use Rattle.time_lanes.specs.Told.{new_at}
use Rattle.time_lanes.specs.Moves.{AreApartAbove}
use Rattle.time_lanes.specs.Spans.{IsEdge, IsSpan, last_end}
use Rattle.time_lanes.proofs.MoveFacts.{completions_told}
use Rattle.time_lanes.proofs.Ranges.{fewer_from, none_turned, number_in_two}
use Rattle.time_lanes.proofs.WalkFacts.{end_by, start_behind, times_mono}

module _ (len slide : ℕ) (span : IsSpan len slide) where
  -- ---- starts and ends rise with the watermark
  pub next_rises : (old new : ℕ) → old ≤ new → next_start len slide old ≤ next_start len slide new
  next_rises old new h =
      let q : (old + slide - len) / slide ≤ (new + slide - len) / slide = le-div ((old + slide - len) / slide) (new + slide - len) slide span.moves (omega (arith, div-mul-le_self (old + slide - len) slide)) in
      times_mono ((old + slide - len) / slide) ((new + slide - len) / slide) slide q

  -- what the last end is
  pub last_is : (time : ℕ) → ((time < len) × (last_end len slide time ≡ 0)) ⊎ ((len ≤ time) × (last_end len slide time ≡ (time - len) / slide * slide + len))
  last_is time = by (cases_lt time len)
    where
      by : (time < len) ⊎ (len ≤ time) → ((time < len) × (last_end len slide time ≡ 0)) ⊎ ((len ≤ time) × (last_end len slide time ≡ (time - len) / slide * slide + len))
      by (inl l) = inl (l, ap (λ b. cond b 0 ((time - len) / slide * slide + len)) (lt-ltb time len l))
      by (inr l) = inr (l, ap (λ b. cond b 0 ((time - len) / slide * slide + len)) (le-ltb time len l))

  pub last_at_most : (time : ℕ) → last_end len slide time ≤ time
  last_at_most time = elim (last_is time) [ inl h ↦ omega (arith, h.1) | inr h ↦ omega (arith, h.0, h.1, div-mul-le_self (time - len) slide) ]

  pub last_is_edge : (time : ℕ) → IsEdge len slide (last_end len slide time)
  last_is_edge time = elim (last_is time) [ inl h ↦ inl h.1 | inr h ↦ inr ((time - len) / slide, h.1) ]

  pub last_rises : (old new : ℕ) → old ≤ new → last_end len slide old ≤ last_end len slide new
  last_rises old new h = elim (last_is old) [
    | inl e ↦ omega (arith, e.1)
    | inr e ↦ omega (arith, e.1, end_by len slide ((old - len) / slide) new span.moves (omega (arith, h, e.0, div-mul-le_self (old - len) slide)))
  ]

  -- the next interval begins behind the start of the last one that is complete
  pub start_in_last : (time : ℕ) → last_end len slide time - len ≤ next_start len slide time
  start_in_last time = elim (last_is time) [
    | inl e ↦ omega (arith, e.1)
    | inr e ↦ omega (arith, e.1, start_behind len slide ((time - len) / slide) time span.moves (omega (arith, e.0, div-mul-le_self (time - len) slide)))
  ]

  pub ends_above : (time : ℕ) → time < next_start len slide time + len
  ends_above time = to_next len slide span.moves span.overlaps time ((time + slide - len) / slide) (omega arith)

  -- ---- what is held where a lane begins to move
  module _ {M : Type 0} (old : ℕ) (s : Stored) (lane : Laned M) (held : Holding M) (partials : held.partials ≡ fresh_partials lane) (to : held.to ≡ fresh_to lane) where
    pub begins : (of_values : List ℤ → M) → (lane.stale ≡ false → lane.partials ≡ partials_of of_values (runs_within (next_start len slide old) lane.to s.slices)) → HoldsFrom of_values (next_start len slide old) s held
    begins of_values h = by (cases_Bool lane.stale)
      where
        by : (lane.stale ≡ true) ⊎ (lane.stale ≡ false) → held.partials ≡ partials_of of_values (runs_within (next_start len slide old) held.to s.slices)
        by (inl t) =
            let zero : held.to ≡ 0 = to ∙ ap (λ b. cond b 0 lane.to) t in
            partials ∙ ap (λ b. cond b [] lane.partials) t ∙ sym (ap (partials_of of_values) (none_turned (next_start len slide old) held.to s.slices (omega arith)))
        by (inr f) =
            let same : held.to ≡ lane.to = to ∙ ap (λ b. cond b 0 lane.to) f in
            partials ∙ ap (λ b. cond b [] lane.partials) f ∙ h f ∙ ap (λ n. partials_of of_values (runs_within (next_start len slide old) n s.slices)) (sym same)

    pub goes_to : lane.to ≤ last_end len slide old → held.to ≤ last_end len slide old
    goes_to h = by (cases_Bool lane.stale)
      where
        by : (lane.stale ≡ true) ⊎ (lane.stale ≡ false) → held.to ≤ last_end len slide old
        by (inl t) = omega (arith, to ∙ ap (λ b. cond b 0 lane.to) t)
        by (inr f) = omega (arith, to ∙ ap (λ b. cond b 0 lane.to) f)

  -- ---- slices that are taken up in a move
  module _ (old new : ℕ) (order : old ≤ new) (slices : List (List Kept)) (o : AreInOrder slices) (to : ℕ) (reached : to ≤ last_end len slide old) where
    abbrev start : ℕ
    start = next_start len slide old

    abbrev early : ℕ
    early = last_end len slide old

    abbrev late : ℕ
    late = last_end len slide new

    -- those up to the old watermark, and those behind it
    two_parts : length (runs_within (max (next_start len slide old) to) (last_end len slide new) slices) ≤ length (runs_within (max (next_start len slide old) to) (last_end len slide old) slices) + length (runs_within (last_end len slide old) (last_end len slide new) slices)
    two_parts = by (cases_lt (last_end len slide old) (max (next_start len slide old) to))
      where
        by : (last_end len slide old < max (next_start len slide old) to) ⊎ (max (next_start len slide old) to ≤ last_end len slide old) → length (runs_within (max (next_start len slide old) to) (last_end len slide new) slices) ≤ length (runs_within (max (next_start len slide old) to) (last_end len slide old) slices) + length (runs_within (last_end len slide old) (last_end len slide new) slices)
        by (inl l) = omega (arith, fewer_from (last_end len slide old) (max (next_start len slide old) to) (last_end len slide new) slices (omega arith) o)
        by (inr l) = omega (arith, number_in_two (max (next_start len slide old) to) (last_end len slide old) (last_end len slide new) slices l (last_rises old new order) o)

    pub taken_at_most : length (runs_within (max (next_start len slide old) to) (last_end len slide new) slices) ≤ length (runs_within (last_end len slide old) (last_end len slide new) slices) + length (runs_within (last_end len slide old - len) (last_end len slide old) slices)
    taken_at_most = omega (arith, two_parts, fewer_from (last_end len slide old - len) (max (next_start len slide old) to) (last_end len slide old) slices (omega (arith, start_in_last old)) o)

    pub taken_where_none_missed : runs_within to (last_end len slide old) slices ≡ [] → length (runs_within (max (next_start len slide old) to) (last_end len slide new) slices) ≤ length (runs_within (last_end len slide old) (last_end len slide new) slices)
    taken_where_none_missed none = omega (arith, two_parts, fewer_from to (max (next_start len slide old) to) (last_end len slide old) slices (omega arith) o, ap length none)

    -- those that are held and those that are taken up lie between the next start and the last end
    pub held_and_taken : length (runs_within (next_start len slide old) to slices) + length (runs_within (max (next_start len slide old) to) (last_end len slide new) slices) ≤ length (runs_within (next_start len slide old) (last_end len slide new) slices)
    held_and_taken = by (cases_lt (next_start len slide old) to)
      where
        by : (next_start len slide old < to) ⊎ (to ≤ next_start len slide old) → length (runs_within (next_start len slide old) to slices) + length (runs_within (max (next_start len slide old) to) (last_end len slide new) slices) ≤ length (runs_within (next_start len slide old) (last_end len slide new) slices)
        by (inl l) =
            let from : max (next_start len slide old) to ≡ to = omega arith in
            omega (arith, ap (λ n. length (runs_within n (last_end len slide new) slices)) from, number_in_two (next_start len slide old) to (last_end len slide new) slices (omega arith) (omega (arith, reached, last_rises old new order)) o)
        by (inr l) =
            let from : max (next_start len slide old) to ≡ next_start len slide old = omega arith in
            omega (arith, ap (λ n. length (runs_within n (last_end len slide new) slices)) from, ap length (none_turned (next_start len slide old) to slices l))

-- ---- a window's numbers
-- what a lane knows, of intervals of a length and a slide
pub record KnowsAt {M : Type 0} (of_values : List ℤ → M) (len slide water : ℕ) (s : Stored) (lane : Laned M) : Type 0 where
  pub reached : lane.to ≤ last_end len slide water
  pub edge : IsEdge len slide lane.to
  pub held : lane.stale ≡ false → lane.partials ≡ partials_of of_values (runs_within (next_start len slide water) lane.to s.slices)

module _ (kind : Kind) (len slide : ℕ) (l : len ≡ length_of kind) (m : slide ≡ slide_of kind) where
  pub knows_at : {M : Type 0} {of_values : List ℤ → M} (water : ℕ) (s : Stored) (lane : Laned M) → Knows of_values kind water s lane → KnowsAt of_values len slide water s lane
  knows_at {M} {of_values} water s lane k =
      subst (λ n. KnowsAt of_values n slide water s lane) (sym l)
      (subst (λ n. KnowsAt of_values (length_of kind) n water s lane) (sym m) record { reached = k.reached; edge = k.edge; held = k.held })

  pub knows_of : {M : Type 0} {of_values : List ℤ → M} (water : ℕ) (s : Stored) (lane : Laned M) → KnowsAt of_values len slide water s lane → Knows of_values kind water s lane
  knows_of {M} {of_values} water s lane k =
      let n : KnowsAt of_values (length_of kind) (slide_of kind) water s lane = subst (λ n. KnowsAt of_values (length_of kind) n water s lane) m (subst (λ n. KnowsAt of_values n slide water s lane) l k) in
      record { reached = n.reached; edge = n.edge; held = n.held }

  -- the slices that are taken up
  pub taken_is : {M : Type 0} (start to old new : ℕ) (lane : Laned M) (slices : List (List Kept)) → start ≡ next_start len slide old → to ≡ fresh_to lane
      → length (runs_within (max start to) (last_end len slide new) slices) ≡ length (runs_within (max (next_start (length_of kind) (slide_of kind) old) (fresh_to lane)) (last_end (length_of kind) (slide_of kind) new) slices)
  taken_is start to old new lane slices s t =
      (λ i. length (runs_within (max (s i) (t i)) (last_end len slide new) slices))
      ∙ (λ i. length (runs_within (max (next_start (l i) (m i) old) (fresh_to lane)) (last_end (l i) (m i) new) slices))

  pub between_is : (old new : ℕ) (slices : List (List Kept)) → length (runs_within (last_end len slide old) (last_end len slide new) slices) ≡ length (runs_within (last_end (length_of kind) (slide_of kind) old) (last_end (length_of kind) (slide_of kind) new) slices)
  between_is old new slices = λ i. length (runs_within (last_end (l i) (m i) old) (last_end (l i) (m i) new) slices)

  pub until_is : (old new : ℕ) (slices : List (List Kept)) → length (runs_within (next_start len slide old) (last_end len slide new) slices) ≡ length (runs_within (next_start (length_of kind) (slide_of kind) old) (last_end (length_of kind) (slide_of kind) new) slices)
  until_is old new slices = λ i. length (runs_within (next_start (l i) (m i) old) (last_end (l i) (m i) new) slices)

  pub in_last_is : (old : ℕ) (slices : List (List Kept)) → length (runs_within (last_end len slide old - len) (last_end len slide old) slices) ≡ length (runs_within (last_end (length_of kind) (slide_of kind) old - length_of kind) (last_end (length_of kind) (slide_of kind) old) slices)
  in_last_is old slices = λ i. length (runs_within (last_end (l i) (m i) old - l i) (last_end (l i) (m i) old) slices)

  pub due_is : (start old new : ℕ) (kept : List Kept) → start ≡ next_start len slide old → length (due_from len slide kept start new) ≡ length (due_from (length_of kind) (slide_of kind) kept (next_start (length_of kind) (slide_of kind) old) new)
  due_is start old new kept s =
      (λ i. length (due_from len slide kept (s i) new)) ∙ (λ i. length (due_from (l i) (m i) kept (next_start (l i) (m i) old) new))

-- what is left to take up behind a walk is among what was left
pub left_at_most : (slices : List (List Kept)) → AreInOrder slices → (told next to to_then last last_then : ℕ) → told ≤ next → to_then ≡ to → last_then ≡ last → length (runs_within (max next to_then) last_then slices) ≤ length (runs_within (max told to) last slices)
left_at_most slices o told next to to_then last last_then h t e =
    omega (arith, fewer_from (max told to) (max next to_then) last slices (omega arith) o, ap (λ n. length (runs_within (max next to_then) n slices)) e)

-- what is told are the completions
pub move_changes : (window : ℕ) (key : List ℕ) (def : Def) (old new : ℕ) (gone kept : List Kept) (marks : List ℕ) (len slide start : ℕ) (before after : List Change) → is_timed def.kind ≡ true → IsSpan (length_of def.kind) (slide_of def.kind) → AreApartAbove def.kind old gone → len ≡ length_of def.kind → slide ≡ slide_of def.kind → start ≡ next_start len slide old
    → after ≡ before ++ map (new_at window key def.func len kept) (due_from len slide kept start new) → after ≡ before ++ completions key (moment (gone ++ kept) marks old) new (window, def)
move_changes window key def old new gone kept marks len slide start before after timed span apart l m s h =
    h
    ∙ (λ i. before ++ map (new_at window key def.func len kept) (due_from len slide kept (s i) new))
    ∙ (λ i. before ++ map (new_at window key def.func (l i) kept) (due_from (l i) (m i) kept (next_start (l i) (m i) old) new))
    ∙ ap (λ q. before ++ q) (completions_told window key def old new gone kept marks timed span apart)

pub fresh_at_most : {M : Type 0} (lane : Laned M) (last : ℕ) → lane.to ≤ last → fresh_to lane ≤ last
fresh_at_most lane last h = by (cases_Bool lane.stale)
  where
    by : (lane.stale ≡ true) ⊎ (lane.stale ≡ false) → fresh_to lane ≤ last
    by (inl t) = omega (arith, ap (λ b. cond b 0 lane.to) t)
    by (inr f) = omega (arith, ap (λ b. cond b 0 lane.to) f)

-- none is missed in the end
pub none_missed_at : (kind : Kind) (len slide : ℕ) → len ≡ length_of kind → slide ≡ slide_of kind → (water : ℕ) (slices : List (List Kept)) (to : ℕ) → last_end len slide water ≤ to → runs_within to (last_end (length_of kind) (slide_of kind) water) slices ≡ []
none_missed_at kind len slide l m water slices to h =
    (λ i. runs_within to (last_end (sym l i) (sym m i) water) slices) ∙ none_turned to (last_end len slide water) slices h

-- and none in the beginning
pub missed_at : {M : Type 0} (kind : Kind) (len slide : ℕ) → len ≡ length_of kind → slide ≡ slide_of kind → (water : ℕ) (s : Stored) (lane : Laned M) → MissesNoSlice kind water s lane → runs_within (fresh_to lane) (last_end len slide water) s.slices ≡ []
missed_at kind len slide l m water s lane k =
    ap (λ b. runs_within (cond b 0 lane.to) (last_end len slide water) s.slices) k.fresh
    ∙ (λ i. runs_within lane.to (last_end (l i) (m i) water) s.slices)
    ∙ k.none_missed
