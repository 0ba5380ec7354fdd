-- What holds of each kind of window, by its cases: what becomes of its instances. A new kind adds its own here.
use Rattle.std.proofs.Common.{◌≡◌, ℕ, ◌+◌, ◌-◌, ◌<◌, ◌≤◌, false, List, ◌∷◌, ◌++◌, length, sym, refl, arith, inl, inr, map}
use Rattle.std.specs.Prelude.{◌⊎◌, nat_le}
use Rattle.std.specs.List.{Any, All, Contains}
use Rattle.std.specs.List.Sorted.{IsNonDecreasingBy}
use Rattle.std.specs.Ordering.{nat_cmp}
use Rattle.std.proofs.lemmas.Bool.{false≢true}
use Rattle.stream_base.specs.declared.limits.TheConstants.{FINAL}
use Rattle.stream_base.specs.declared.kept.Kept.{Kept}
use Rattle.stream_base.specs.declared.kind.Kind.{Kind}
use Rattle.stream_base.specs.declared.kind.Kind.TheVariants.{Tumbling, Sliding, Session, Marks, Events}
use Rattle.stream_base.specs.Laws.{TimesDoNotFall}
use Rattle.stream_base.specs.Kinds.{CutsBetween, IsKindWithin, is_events}
use Rattle.stream_base.specs.Model.Journal.{put_in_order}
use Rattle.stream_base.specs.Model.Windows.{Instance, instances_of, pieces_of, standing_of, within}
use Rattle.stream_base.proofs.Rising.{Contains-tail}
use Rattle.stream_base.proofs.KindFacts.{timed_stand_at_put}
use Rattle.window_laws.specs.Instances.{completed, incomplete, KeepsTimes, with_each}
use Rattle.slice_lists.proofs.Order.{nd_tail}
use Rattle.window_laws.proofs.InstanceFacts.{session_bounds_are_ends, spans_bounds, sessions_bounds, stretches_bounds, counted_bounds, sessions_select, split_at_water, moved_on, session_runs, span_bounds_are_ends, stretch_bounds_are_ends, spans_hold, stretches_hold}
use Rattle.window_laws.proofs.TimesFacts.{spans_each, sessions_each, stretches_each, counted_each}
use Rattle.stream_base.specs.Model.Changes.{Moment}
use Rattle.window_laws.specs.Positions.{AreKept}
use Rattle.window_laws.specs.Settled.{IsSettledAt}
use Rattle.window_laws.proofs.StretchFacts.{stretch_holding}
use Rattle.window_laws.proofs.HoldingFacts.{session_edge, session_holding, span_edge, span_holding, span_of_other, stretch_edge}
use Rattle.std.specs.BTreeSet.{insert_key}
use Rattle.window_laws.proofs.StandFacts.{sessions_stand, stretches_stand, marked_stand, counts_stand}
use Rattle.window_laws.proofs.LeaveFacts.{spans_leave, stretch_of_other, stretches_leave, glued_leaves, glued_still}
use Rattle.window_laws.specs.After.{with_mark, with_tuple}
use Rattle.window_laws.proofs.SettlingFacts.{sessions_stay_at_put, sessions_were_at_put, spans_stay_at_put, spans_were_at_put, stretches_stay_at_mark, stretches_stay_at_put, stretches_were_at_mark, stretches_were_at_put}

-- ---- bounds and selections
-- the bounds of the instances of a window don't fall
pub bounds_do_not_fall : (kind : Kind) (kept : List Kept) (marks : List ℕ) → IsKindWithin kind → TimesDoNotFall kept → IsNonDecreasingBy (λ (i : Instance). i.bound) (instances_of kind kept marks)
unfolding instances_of
bounds_do_not_fall (Tumbling length) kept marks k h = spans_bounds length length kept
bounds_do_not_fall (Sliding length slide) kept marks k h = spans_bounds length slide kept
bounds_do_not_fall (Session gap) kept marks k h = sessions_bounds gap kept k.0 h
bounds_do_not_fall Marks kept marks k h = stretches_bounds marks kept
bounds_do_not_fall (Events count) kept marks k h = counted_bounds count kept k.0 h

-- an instance selects the tuples within its span, but for events
pub spans_hold_selections : (kind : Kind) (kept : List Kept) (marks : List ℕ) → IsKindWithin kind → is_events kind ≡ false → TimesDoNotFall kept → All (λ (i : Instance). i.chosen ≡ within i.low i.high kept) (instances_of kind kept marks)
unfolding instances_of
spans_hold_selections (Tumbling length) kept marks k e h = spans_hold length length kept
spans_hold_selections (Sliding length slide) kept marks k e h = spans_hold length slide kept
spans_hold_selections (Session gap) kept marks k e h = sessions_select gap kept k.0 h
spans_hold_selections Marks kept marks k e h = stretches_hold marks kept
spans_hold_selections (Events count) kept marks k e h = absurd (false≢true (sym e))

-- the bound of an instance is its end, but for events
pub bounds_are_ends : (kind : Kind) (kept : List Kept) (marks : List ℕ) → is_events kind ≡ false → All (λ (i : Instance). i.bound ≡ i.high) (instances_of kind kept marks)
unfolding instances_of
bounds_are_ends (Tumbling length) kept marks e = span_bounds_are_ends length length kept
bounds_are_ends (Sliding length slide) kept marks e = span_bounds_are_ends length slide kept
bounds_are_ends (Session gap) kept marks e = session_bounds_are_ends gap kept
bounds_are_ends Marks kept marks e = stretch_bounds_are_ends marks kept
bounds_are_ends (Events count) kept marks e = absurd (false≢true (sym e))

-- what stands comes first, and a move of the watermark adds to it behind
pub standing_comes_first : (kind : Kind) (kept : List Kept) (marks : List ℕ) (water : ℕ) → IsKindWithin kind → TimesDoNotFall kept → instances_of kind kept marks ≡ standing_of kind kept marks water ++ incomplete water (instances_of kind kept marks)
standing_comes_first kind kept marks water k h = split_at_water water (instances_of kind kept marks) (bounds_do_not_fall kind kept marks k h)

pub move_adds_behind : (kind : Kind) (kept : List Kept) (marks : List ℕ) (old new : ℕ) → IsKindWithin kind → TimesDoNotFall kept → old ≤ new → standing_of kind kept marks new ≡ standing_of kind kept marks old ++ completed old new (instances_of kind kept marks)
move_adds_behind kind kept marks old new k h le = moved_on old new (instances_of kind kept marks) le (bounds_do_not_fall kind kept marks k h)

-- only times count
pub instances_each : (r : Kept → Kept) (kind : Kind) (kept : List Kept) (marks : List ℕ) → KeepsTimes r → instances_of kind (map r kept) marks ≡ map (with_each r) (instances_of kind kept marks)
unfolding instances_of
instances_each r (Tumbling length) kept marks keeps = spans_each r keeps length length kept
instances_each r (Sliding length slide) kept marks keeps = spans_each r keeps length slide kept
instances_each r (Session gap) kept marks keeps = sessions_each r keeps gap kept
instances_each r Marks kept marks keeps = stretches_each r keeps marks kept
instances_each r (Events count) kept marks keeps = counted_each r keeps count kept

-- each kept tuple is held by an instance, but for events
pub holding : (kind : Kind) (kept : List Kept) (marks : List ℕ) (x : Kept) → IsKindWithin kind → is_events kind ≡ false → TimesDoNotFall kept → x.time < FINAL → Contains kept x → (i : Instance) × Contains (instances_of kind kept marks) i × (i.low ≤ x.time) × (x.time < i.high)
unfolding instances_of
holding (Tumbling length) kept marks x k e h f c = span_holding length length k.0 (omega arith) kept x c
holding (Sliding length slide) kept marks x k e h f c = span_holding length slide k.2 k.3 kept x c
holding (Session gap) kept marks x k e h f c = session_holding gap kept x k.0 h c
holding Marks kept marks x k e h f c = stretch_holding marks kept x f c
holding (Events count) kept marks x k e h f c = absurd (false≢true (sym e))

-- ---- what stands
-- it stays where a tuple comes at or after the watermark, but for event counts
pub tuple_at_stands : (kind : Kind) (kept : List Kept) (marks : List ℕ) (water : ℕ) (x : Kept) → IsKindWithin kind → is_events kind ≡ false → TimesDoNotFall kept → x.time < FINAL → water ≤ x.time → standing_of kind (put_in_order kept x) marks water ≡ standing_of kind kept marks water
unfolding instances_of
tuple_at_stands (Tumbling length) kept marks water x k e h f l = timed_stand_at_put (Tumbling length) kept marks water x k refl l
tuple_at_stands (Sliding length slide) kept marks water x k e h f l = timed_stand_at_put (Sliding length slide) kept marks water x k refl l
tuple_at_stands (Session gap) kept marks water x k e h f l = sessions_stand gap kept x water k.0 h l
tuple_at_stands Marks kept marks water x k e h f l = stretches_stand marks kept x water f l
tuple_at_stands (Events count) kept marks water x k e h f l = absurd (false≢true (sym e))

-- and for those too where it comes strictly after it
pub tuple_after_stands : (kind : Kind) (kept : List Kept) (marks : List ℕ) (water : ℕ) (x : Kept) → IsKindWithin kind → TimesDoNotFall kept → x.time < FINAL → water < x.time → standing_of kind (put_in_order kept x) marks water ≡ standing_of kind kept marks water
tuple_after_stands (Events count) kept marks water x k h f l = counts_stand count water kept marks x k.0 h l
tuple_after_stands kind kept marks water x k h f l = tuple_at_stands kind kept marks water x k refl h f (omega arith)

-- and where a mark comes after it
pub mark_after_stands : (kind : Kind) (kept : List Kept) (marks : List ℕ) (water time : ℕ) → time < FINAL → water < time → standing_of kind kept (insert_key nat_cmp marks time) water ≡ standing_of kind kept marks water
unfolding instances_of
mark_after_stands Marks kept marks water time f l = marked_stand marks kept time water f l
mark_after_stands kind kept marks water time f l = refl

-- ---- one tuple leaves
-- every instance of a window whose span holds the time ends at or before another time
abbrev pub EndBy : Kind → List Kept → List ℕ → ℕ → ℕ → Type 0
EndBy kind kept marks end time = (i : Instance) → Contains (instances_of kind kept marks) i → i.low ≤ time → time < i.high → i.high ≤ end

-- a tuple that leaves takes no instance along that is still to end
pub first_leaves : (kind : Kind) (x : Kept) (kept : List Kept) (marks : List ℕ) (end : ℕ) → IsKindWithin kind → is_events kind ≡ false → TimesDoNotFall (x ∷ kept) → EndBy kind (x ∷ kept) marks end x.time → incomplete end (instances_of kind (x ∷ kept) marks) ≡ incomplete end (instances_of kind kept marks)
unfolding instances_of
first_leaves (Tumbling length) x kept marks end k e h ends = spans_leave length length k.0 (omega arith) x kept end ends
first_leaves (Sliding length slide) x kept marks end k e h ends = spans_leave length slide k.2 k.3 x kept end ends
first_leaves (Session gap) x kept marks end k e h ends = glued_leaves gap k.0 end x (pieces_of (λ x y. nat_le gap (y.time - x.time)) kept) (session_runs gap kept (nd_tail (λ (z : Kept). z.time) x kept h)) (session_runs gap (x ∷ kept) h) ends
first_leaves Marks x kept marks end k e h ends = stretches_leave marks x kept end ends
first_leaves (Events count) x kept marks end k e h ends = absurd (false≢true (sym e))

-- and what ended still does
pub end_by_behind : (kind : Kind) (x : Kept) (kept : List Kept) (marks : List ℕ) (end : ℕ) (z : Kept) → IsKindWithin kind → is_events kind ≡ false → TimesDoNotFall (x ∷ kept) → Contains kept z → EndBy kind (x ∷ kept) marks end z.time → EndBy kind kept marks end z.time
unfolding instances_of
end_by_behind (Tumbling length) x kept marks end z k e h c ends i d l r =
    let j = span_of_other length length kept (x ∷ kept) i z k.0 (omega arith) d (Contains-tail x kept z c) l r in
    omega (arith, j.3, ends j.0 j.1 (omega (arith, j.2)) (omega (arith, j.3)))
end_by_behind (Sliding length slide) x kept marks end z k e h c ends i d l r =
    let j = span_of_other length slide kept (x ∷ kept) i z k.2 k.3 d (Contains-tail x kept z c) l r in
    omega (arith, j.3, ends j.0 j.1 (omega (arith, j.2)) (omega (arith, j.3)))
end_by_behind (Session gap) x kept marks end z k e h c ends i d l r =
    let j = glued_still gap k.0 end x (pieces_of (λ x y. nat_le gap (y.time - x.time)) kept) (session_runs gap kept (nd_tail (λ (z : Kept). z.time) x kept h)) (session_runs gap (x ∷ kept) h) i d in
    omega (arith, j.3, ends j.0 j.1 (omega (arith, j.2)) (omega (arith, j.3)))
end_by_behind Marks x kept marks end z k e h c ends i d l r =
    let j = stretch_of_other marks kept (x ∷ kept) i z d (Contains-tail x kept z c) l r in
    omega (arith, j.3, ends j.0 j.1 (omega (arith, j.2)) (omega (arith, j.3)))
end_by_behind (Events count) x kept marks end z k e h c ends i d l r = absurd (false≢true (sym e))

-- ---- what is settled
module _ (lateness : ℕ) (m : Moment) (a : AreKept m.kept) where
  -- a tuple that isn't late unsettles nothing
  pub stays_at_put : (kind : Kind) (y z : Kept) → IsKindWithin kind → is_events kind ≡ false → y.time < FINAL → m.water ≤ y.time + lateness → Contains m.kept z → IsSettledAt lateness kind m z.time → IsSettledAt lateness kind (with_tuple m y) z.time
  unfolding instances_of
  stays_at_put (Tumbling length) y z k e f w d s = spans_stay_at_put lateness m length length k.0 (omega arith) y z d s
  stays_at_put (Sliding length slide) y z k e f w d s = spans_stay_at_put lateness m length slide k.2 k.3 y z d s
  stays_at_put (Session gap) y z k e f w d s = sessions_stay_at_put lateness m gap k.0 a y z w d s
  stays_at_put Marks y z k e f w d s = stretches_stay_at_put lateness m y z f w d s
  stays_at_put (Events count) y z k e f w d s = absurd (false≢true (sym e))

  -- nor does a tuple settle another
  pub was_at_put : (kind : Kind) (y z : Kept) → IsKindWithin kind → is_events kind ≡ false → y.time < FINAL → Contains m.kept z → IsSettledAt lateness kind (with_tuple m y) z.time → IsSettledAt lateness kind m z.time
  unfolding instances_of
  was_at_put (Tumbling length) y z k e f d s = spans_were_at_put lateness m length length k.0 (omega arith) y z d s
  was_at_put (Sliding length slide) y z k e f d s = spans_were_at_put lateness m length slide k.2 k.3 y z d s
  was_at_put (Session gap) y z k e f d s = sessions_were_at_put lateness m gap k.0 a y z d s
  was_at_put Marks y z k e f d s = stretches_were_at_put lateness m y z f d s
  was_at_put (Events count) y z k e f d s = absurd (false≢true (sym e))

  -- a mark that isn't late unsettles nothing
  pub stays_at_mark : (kind : Kind) (t : ℕ) (z : Kept) → is_events kind ≡ false → t < FINAL → m.water ≤ t + lateness → Contains m.kept z → IsSettledAt lateness kind m z.time → IsSettledAt lateness kind (with_mark m t) z.time
  unfolding instances_of
  stays_at_mark Marks t z e f w d s = stretches_stay_at_mark lateness m t z f w d s
  stays_at_mark (Events count) t z e f w d s = absurd (false≢true (sym e))
  stays_at_mark kind t z e f w d s = s

  -- a mark settles only where its time plus the lateness is the watermark
  pub was_at_mark : (kind : Kind) (t : ℕ) (z : Kept) → is_events kind ≡ false → t < FINAL → m.water < t + lateness → Contains m.kept z → IsSettledAt lateness kind (with_mark m t) z.time → IsSettledAt lateness kind m z.time
  unfolding instances_of
  was_at_mark Marks t z e f w d s = stretches_were_at_mark lateness m t z f w d s
  was_at_mark (Events count) t z e f w d s = absurd (false≢true (sym e))
  was_at_mark kind t z e f w d s = s

-- ---- edges
-- an edge of an instance cuts between two tuples at its sides: the window does, or a mark lies between
module _ (kept : List Kept) (marks : List ℕ) (h : TimesDoNotFall kept) (early : All (λ (z : Kept). z.time < FINAL) kept) where
  pub edge_cuts : (kind : Kind) (i : Instance) → IsKindWithin kind → is_events kind ≡ false → Contains (instances_of kind kept marks) i → (t : ℕ) → (t ≡ i.low) ⊎ (t ≡ i.high) → (a b : Kept) → Contains kept a → Contains kept b → a.time < t → t ≤ b.time → CutsBetween kind a.time b.time ⊎ Any (λ m. (a.time < m) × (m ≤ b.time)) marks
  unfolding instances_of
  edge_cuts (Tumbling length) i k e c t at a b d f l r = inl (span_edge length length kept i t a.time b.time k.0 (omega arith) c at l r)
  edge_cuts (Sliding length slide) i k e c t at a b d f l r = inl (span_edge length slide kept i t a.time b.time k.2 k.3 c at l r)
  edge_cuts (Session gap) i k e c t at a b d f l r = inl (session_edge gap kept i t a b k.0 h c at d l r)
  edge_cuts Marks i k e c t at a b d f l r = inr (stretch_edge marks kept i t a b early c at f l r)
  edge_cuts (Events count) i k e c t at a b d f l r = absurd (false≢true (sym e))
