-- What a lane knows of its store's slices after a call on the store.
use Rattle.std.proofs.Common.{◌≡◌, ◌∙◌, ℕ, ℤ, zero, suc, ◌+◌, ◌-◌, ◌*◌, ◌/◌, ◌<◌, ◌≤◌, Bool, true, false, cond, not, List, [], ◌∷◌, ◌++◌, length, ap, sym, refl, subst, arith, inl, inr}
use Rattle.std.specs.Prelude.{◌⊎◌, ◌&&◌, ◌||◌, nat_le, nat_lt}
use Rattle.std.specs.List.{All, Contains, filter, flat_map}
use Rattle.std.proofs.lemmas.Bool.{and_right, cases_Bool, cases_lt, false≢true, le-leb, le-ltb, leb-true, lt-leb, ltb-false, lt-ltb, ltb-true, and_parts}
use Rattle.std.proofs.Math.Nat.{div-mul-le_self}
use Rattle.std.proofs.lemmas.List.Elements.{All-contains, filter-append}
use Rattle.stream_base.specs.declared.def.Def.{Def}
use Rattle.stream_base.specs.declared.kept.Kept.{Kept}
use Rattle.stream_base.specs.declared.kind.Kind.{Kind}
use Rattle.stream_base.specs.declared.kind.Kind.TheVariants.{Tumbling, Sliding}
use Rattle.stream_base.specs.Kinds.{CutsBetween, IsKindWithin, is_timed, length_of, slide_of}
use Rattle.stream_base.specs.Model.Cuts.{has_cut}
use Rattle.stream_base.specs.Model.Journal.{put_in_order}
use Rattle.stream_base.specs.Model.Windows.{first_time, last_time}
use Rattle.stream_base.proofs.CutFacts.{cut_decides}
use Rattle.stream_base.proofs.Members.{filter_members}
use Rattle.stream_base.proofs.Rising.{Contains-head, Contains-tail}
use Rattle.slice_lists.specs.Runs.{AreInOrder, IsRun, parted_at, runs_within}
use Rattle.stream_base.proofs.KindFacts.{timed_cuts}
use Rattle.window_laws.specs.Walk.{next_start_of}
use Rattle.slice_lists.proofs.RunEdits.{parted}
use Rattle.slice_lists.proofs.RunFacts.{put_behind, put_first}
use Rattle.slice_lists.specs.Touched.{is_near, slices_from}
use Rattle.agg_store.specs.Entered.{IsPut, slices_near}
use Rattle.slice_lists.specs.Slices.{joined}
use Rattle.agg_store.specs.Stored.{IsSliced, IsStore, Stored}
use Rattle.slice_lists.proofs.SliceOrder.{IsApart, IsNear, first_below_last, times_of_order}
use Rattle.time_lanes.specs.Held.{partials_of}
use Rattle.time_lanes.specs.Lane.{IsAsBefore, IsSameUpTo, Knows, MissesNoSlice, Laned}
use Rattle.time_lanes.specs.Spans.{ArePartedAt, IsEdge, IsWindowAt, last_end, last_end_by}
use Rattle.time_lanes.proofs.Ranges.{begins_in, before_it, behind_it, passed, skipped}
use Rattle.time_lanes.proofs.ServedFacts.{parted_at_edges, stands_among}

-- ---- an edge of a window cuts
edge_cuts : (kind : Kind) (edge a b : ℕ) → is_timed kind ≡ true → IsEdge (length_of kind) (slide_of kind) edge → a < edge → edge ≤ b → CutsBetween kind a b
edge_cuts kind edge a b t (inl z) l r = absurd (omega arith)
edge_cuts kind edge a b t (inr h) l r = timed_cuts kind a b t (h.0, inr (omega (arith, h.1), omega (arith, h.1)))

-- ---- slices that begin behind an edge are not of the interval
none_from : (low edge : ℕ) (runs : List (List Kept)) → ((run : List Kept) → Contains runs run → edge ≤ first_time run) → runs_within low edge runs ≡ []
none_from low edge [] h = refl
none_from low edge (run ∷ runs) h = skipped low edge run runs (behind_it low edge (first_time run) (h run (Contains-head run runs))) ∙ none_from low edge runs (λ r c. h r (Contains-tail run runs r c))

-- where a slice of some that begin behind it takes in a tuple behind it, it begins behind it too
first_of_joined : (edge : ℕ) (runs : List (List Kept)) (x : Kept) → AreInOrder runs → ((run : List Kept) → Contains runs run → edge ≤ first_time run) → edge ≤ x.time → edge ≤ first_time (put_in_order (joined runs) x)
first_of_joined edge [] x o h l = l
first_of_joined edge ([] ∷ runs) x o h l = absurd o.0
first_of_joined edge ((y ∷ ys) ∷ runs) x o h l = by (cases_lt x.time y.time)
  where
    first : edge ≤ y.time
    first = h (y ∷ ys) (Contains-head (y ∷ ys) runs)

    by : (x.time < y.time) ⊎ (y.time ≤ x.time) → edge ≤ first_time (put_in_order (y ∷ ys ++ joined runs) x)
    by (inl m) = subst (λ q. edge ≤ first_time q) (sym (put_first y (ys ++ joined runs) x (lt-ltb x.time y.time m))) l
    by (inr m) = subst (λ q. edge ≤ first_time q) (sym (put_behind y (ys ++ joined runs) x (le-ltb x.time y.time m))) first

-- the first of those from a time on, where the last one is
first_from : (time : ℕ) (run : List Kept) → IsRun IsNear run → time ≤ last_time run → time ≤ first_time (filter (λ x. nat_le time x.time) run)
first_from time [] r m = absurd r
first_from time (y ∷ []) r m = subst (λ b. time ≤ first_time (cond b (y ∷ []) [])) (sym (le-leb time y.time m)) m
first_from time (y ∷ z ∷ zs) r m = by (first_from time (z ∷ zs) r.1 m) (cases_lt y.time time)
  where
    by : time ≤ first_time (filter (λ x. nat_le time x.time) (z ∷ zs)) → (y.time < time) ⊎ (time ≤ y.time) → time ≤ first_time (filter (λ x. nat_le time x.time) (y ∷ z ∷ zs))
    by h (inl l) = subst (λ b. time ≤ first_time (cond b (y ∷ filter (λ x. nat_le time x.time) (z ∷ zs)) (filter (λ x. nat_le time x.time) (z ∷ zs)))) (sym (lt-leb time y.time l)) h
    by h (inr l) = subst (λ b. time ≤ first_time (cond b (y ∷ filter (λ x. nat_le time x.time) (z ∷ zs)) (filter (λ x. nat_le time x.time) (z ∷ zs)))) (sym (le-leb time y.time l)) l

-- and of those before it, where the first one is
first_before : (time : ℕ) (run : List Kept) → IsRun IsNear run → first_time run < time → first_time (filter (λ x. nat_lt x.time time) run) ≡ first_time run
first_before time [] r m = absurd r
first_before time (y ∷ ys) r m = ap (λ b. first_time (cond b (y ∷ filter (λ x. nat_lt x.time time) ys) (filter (λ x. nat_lt x.time time) ys))) (lt-ltb y.time time m)

-- a slice that a mark parts begins and ends behind each edge at or before the mark
one_parted : (low edge time : ℕ) (run : List Kept) → IsRun IsNear run → edge ≤ time → (last_time run < edge) ⊎ (edge ≤ first_time run) → runs_within low edge (parted_at time run) ≡ runs_within low edge (run ∷ [])
one_parted low edge time run r l (inl h) =
    ap (λ b. runs_within low edge (cond b (filter (λ x. nat_lt x.time time) run ∷ filter (λ x. nat_le time x.time) run ∷ []) (run ∷ [])))
    (and_right (nat_lt (first_time run) time) (nat_le time (last_time run)) (lt-leb time (last_time run) (omega arith)))
one_parted low edge time run r l (inr h) = by (cases_Bool (nat_lt (first_time run) time && nat_le time (last_time run)))
  where
    by : ((nat_lt (first_time run) time && nat_le time (last_time run)) ≡ true) ⊎ ((nat_lt (first_time run) time && nat_le time (last_time run)) ≡ false) → runs_within low edge (parted_at time run) ≡ runs_within low edge (run ∷ [])
    by (inr f) = ap (λ b. runs_within low edge (cond b (filter (λ x. nat_lt x.time time) run ∷ filter (λ x. nat_le time x.time) run ∷ []) (run ∷ []))) f
    by (inl t) =
        let p = and_parts (nat_lt (first_time run) time) (nat_le time (last_time run)) t in
        let front = first_before time run r (ltb-true (first_time run) time p.0) in
        let back = first_from time run r (leb-true time (last_time run) p.1) in
        ap (λ b. runs_within low edge (cond b (filter (λ x. nat_lt x.time time) run ∷ filter (λ x. nat_le time x.time) run ∷ []) (run ∷ []))) t
        ∙ skipped low edge (filter (λ x. nat_lt x.time time) run) (filter (λ x. nat_le time x.time) run ∷ []) (behind_it low edge (first_time (filter (λ x. nat_lt x.time time) run)) (omega (arith, front)))
        ∙ skipped low edge (filter (λ x. nat_le time x.time) run) [] (behind_it low edge (first_time (filter (λ x. nat_le time x.time) run)) (omega (arith, back)))
        ∙ sym (skipped low edge run [] (behind_it low edge (first_time run) h))

module _ (windows : List Def) (window : ℕ) (def : Def) (old : Stored) (kinds : All (λ w. IsKindWithin w.kind) windows) (stands : IsWindowAt windows window def) (timed : is_timed def.kind ≡ true) (o : IsStore old) (sliced : IsSliced windows old) where
  edges : ArePartedAt (length_of def.kind) (slide_of def.kind) old.slices
  edges = parted_at_edges windows window def old (length_of def.kind) (slide_of def.kind) kinds stands timed sliced refl refl

  -- a slice lies on one side of an edge
  side : (edge : ℕ) → IsEdge (length_of def.kind) (slide_of def.kind) edge → (run : List Kept) → Contains old.slices run → (last_time run < edge) ⊎ (edge ≤ first_time run)
  side edge (inl z) run c = inr (omega arith)
  side edge (inr h) run c = subst (λ e. (last_time run < e) ⊎ (e ≤ first_time run)) (sym h.1) (All-contains (λ (r : List Kept). (last_time r < h.0 * slide_of def.kind + length_of def.kind) ⊎ (h.0 * slide_of def.kind + length_of def.kind ≤ first_time r)) old.slices run (edges.ends (times_of_order old.slices o.slices.ordered) h.0) c)

  -- a tuple behind an edge isn't near to a slice before it
  near_behind : (edge : ℕ) (x : Kept) → IsEdge (length_of def.kind) (slide_of def.kind) edge → edge ≤ x.time → (run : List Kept) → Contains (slices_near windows x.time old) run → first_time run ≤ last_time run → edge ≤ first_time run
  near_behind edge x e l run c f =
      let m = filter_members (is_near (has_cut windows old.marks) x.time) old.slices run c in
      elim (side edge e run m.0) [
        | inr h ↦ h
        | inl h ↦ absurd (false≢true (sym (far h) ∙ m.1))
      ]
    where
      far : last_time run < edge → is_near (has_cut windows old.marks) x.time run ≡ false
      far h =
          let a = stands_among windows window def stands in
          let cut : has_cut windows old.marks (last_time run) x.time ≡ true = (cut_decides windows old.marks (last_time run) x.time kinds).1 (inl (a.0, def, a.1, a.2, edge_cuts def.kind edge (last_time run) x.time timed e h l)) in
          ap (λ b. cond b (not (has_cut windows old.marks x.time (first_time run))) (nat_lt x.time (last_time run) || not (has_cut windows old.marks (last_time run) x.time))) (le-ltb x.time (first_time run) (omega arith))
          ∙ (λ i. le-ltb x.time (last_time run) (omega arith) i || not (cut i))

  spans : (runs : List (List Kept)) → AreInOrder runs → (run : List Kept) → Contains runs run → first_time run ≤ last_time run
  spans runs a run c = All-contains (λ (r : List Kept). first_time r ≤ last_time r) runs run (all runs a) c
    where
      all : (runs : List (List Kept)) → AreInOrder runs → All (λ r. first_time r ≤ last_time r) runs
      all [] a k d l = absurd (omega arith)
      all (r ∷ runs) a zero d l = first_below_last r a.0
      all (r ∷ runs) a (suc k) d l = all runs a.2 k d (omega arith)

  pub tuple_stays : (new : Stored) (x : Kept) → IsPut windows old x new → IsSameUpTo def.kind x.time old new
  tuple_stays new x p low edge e l =
      ap (runs_within low edge) p.is
      ∙ filter-append (begins_in low edge) p.before (put_in_order (joined near) x ∷ p.behind)
      ∙ ap (λ q. runs_within low edge p.before ++ q) (skipped low edge (put_in_order (joined near) x) p.behind (behind_it low edge (first_time (put_in_order (joined near) x)) (first_of_joined edge near x near_order all_behind l)))
      ∙ sym
      (ap (runs_within low edge) p.was
      ∙ filter-append (begins_in low edge) p.before (near ++ p.behind)
      ∙ ap (λ q. runs_within low edge p.before ++ q) (filter-append (begins_in low edge) near p.behind ∙ ap (λ q. q ++ runs_within low edge p.behind) (none_from low edge near all_behind)))
    where
      near : List (List Kept)
      near = slices_near windows x.time old

      near_order : AreInOrder near
      near_order = (parted IsNear IsApart near p.behind (parted IsNear IsApart p.before (near ++ p.behind) (subst AreInOrder p.was o.slices.ordered)).1).0

      all_behind : (run : List Kept) → Contains near run → edge ≤ first_time run
      all_behind run c = near_behind edge x e l run c (spans near near_order run c)

  -- ---- a mark
  pub mark_stays : (new : Stored) (time : ℕ) → new.slices ≡ flat_map (parted_at time) old.slices → IsSameUpTo def.kind time old new
  mark_stays new time is low edge e l = ap (runs_within low edge) is ∙ each old.slices o.slices.ordered (λ run c. side edge e run c)
    where
      each : (runs : List (List Kept)) → AreInOrder runs → ((run : List Kept) → Contains runs run → (last_time run < edge) ⊎ (edge ≤ first_time run)) → runs_within low edge (flat_map (parted_at time) runs) ≡ runs_within low edge runs
      each [] a h = refl
      each (run ∷ runs) a h =
          filter-append (begins_in low edge) (parted_at time run) (flat_map (parted_at time) runs)
          ∙ (λ i. one_parted low edge time run a.0 l (h run (Contains-head run runs)) i ++ each runs a.2 (λ r c. h r (Contains-tail run runs r c)) i)
          ∙ sym (filter-append (begins_in low edge) (run ∷ []) runs)

-- ---- what a lane knows
pub knows_stays : {M : Type 0} {of_values : List ℤ → M} (kind : Kind) (water time : ℕ) (old new : Stored) (lane : Laned M) → IsSameUpTo kind time old new → lane.to ≤ time → Knows of_values kind water old lane → Knows of_values kind water new lane
knows_stays {M} {of_values} kind water time old new lane same l k = record {
  reached = k.reached;
  edge = k.edge;
  held = λ f. k.held f ∙ ap (partials_of of_values) (sym (same (next_start_of kind water) lane.to k.edge l));
}

last_edge : (len slide time : ℕ) → IsEdge len slide (last_end len slide time)
last_edge len slide time = by (cases_lt time len)
  where
    by : (time < len) ⊎ (len ≤ time) → IsEdge len slide (last_end len slide time)
    by (inl l) = inl (ap (λ b. cond b 0 ((time - len) / slide * slide + len)) (lt-ltb time len l))
    by (inr l) = inr ((time - len) / slide, ap (λ b. cond b 0 ((time - len) / slide * slide + len)) (le-ltb time len l))

pub knows_all_stays : {M : Type 0} (kind : Kind) (water time : ℕ) (old new : Stored) (lane : Laned M) → IsSameUpTo kind time old new → last_end_by kind water ≤ time → MissesNoSlice kind water old lane → MissesNoSlice kind water new lane
knows_all_stays kind water time old new lane same l k = record {
  fresh = k.fresh;
  none_missed = same lane.to (last_end_by kind water) (last_edge (length_of kind) (slide_of kind) water) l ∙ k.none_missed;
}

pub last_by : (kind : Kind) (water : ℕ) → last_end_by kind water ≤ water
last_by kind water = by (cases_lt water (length_of kind))
  where
    by : (water < length_of kind) ⊎ (length_of kind ≤ water) → last_end_by kind water ≤ water
    by (inl l) = omega (arith, ap (λ b. cond b 0 ((water - length_of kind) / slide_of kind * slide_of kind + length_of kind)) (lt-ltb water (length_of kind) l))
    by (inr l) = omega (arith, ap (λ b. cond b 0 ((water - length_of kind) / slide_of kind * slide_of kind + length_of kind)) (le-ltb water (length_of kind) l), div-mul-le_self (water - length_of kind) (slide_of kind))

-- ---- a touch
neither : (a b : Bool) → (a || b) ≡ false → (a ≡ false) × (b ≡ false)
neither true b e = absurd (false≢true (sym e))
neither false b e = (refl, e)

pub knows_touched : {M : Type 0} {of_values : List ℤ → M} (kind : Kind) (water time : ℕ) (old new : Stored) (lane after : Laned M) → IsSameUpTo kind time old new → after.stale ≡ (lane.stale || nat_lt time lane.to) → after.partials ≡ lane.partials → after.to ≡ lane.to → Knows of_values kind water old lane → Knows of_values kind water new after
knows_touched {M} {of_values} kind water time old new lane after same s p t k = record {
  reached = subst (λ n. n ≤ last_end_by kind water) (sym t) k.reached;
  edge = subst (IsEdge (length_of kind) (slide_of kind)) (sym t) k.edge;
  held = λ f.
      let n = neither lane.stale (nat_lt time lane.to) (sym s ∙ f) in
      p ∙ k.held n.0 ∙ ap (partials_of of_values) (sym (same (next_start_of kind water) lane.to k.edge (ltb-false time lane.to n.1)) ∙ ap (λ n. runs_within (next_start_of kind water) n new.slices) (sym t));
}

pub knows_all_touched : {M : Type 0} {of_values : List ℤ → M} (kind : Kind) (water time : ℕ) (old new : Stored) (lane after : Laned M) → IsSameUpTo kind time old new → last_end_by kind water ≤ time → after.stale ≡ (lane.stale || nat_lt time lane.to) → after.to ≡ lane.to → Knows of_values kind water old lane → MissesNoSlice kind water old lane → MissesNoSlice kind water new after
knows_all_touched kind water time old new lane after same l s t k a =
    let n = knows_all_stays kind water time old new lane same l a in
    let r = k.reached in
    record {
      fresh = s ∙ (λ i. n.fresh i || le-ltb time lane.to (omega arith) i);
      none_missed = ap (λ n. runs_within n (last_end_by kind water) new.slices) t ∙ n.none_missed;
    }

-- ---- a purge
purge_stays : (low high time : ℕ) (runs : List (List Kept)) → time ≤ low → runs_within low high (slices_from time runs) ≡ runs_within low high runs
purge_stays low high time [] l = refl
purge_stays low high time (run ∷ runs) l = by (purge_stays low high time runs l) (cases_lt (first_time run) time)
  where
    by : runs_within low high (slices_from time runs) ≡ runs_within low high runs → (first_time run < time) ⊎ (time ≤ first_time run) → runs_within low high (slices_from time (run ∷ runs)) ≡ runs_within low high (run ∷ runs)
    by h (inl e) = ap (λ b. runs_within low high (cond b (run ∷ slices_from time runs) (slices_from time runs))) (lt-leb time (first_time run) e) ∙ h ∙ sym (skipped low high run runs (before_it low high (first_time run) (omega arith)))
    by h (inr e) = ap (λ b. runs_within low high (cond b (run ∷ slices_from time runs) (slices_from time runs))) (le-leb time (first_time run) e) ∙ ap (λ q. cond (begins_in low high run) (run ∷ q) q) h

none_left : (low high time : ℕ) (runs : List (List Kept)) → runs_within low high runs ≡ [] → runs_within low high (slices_from time runs) ≡ []
none_left low high time [] e = refl
none_left low high time (run ∷ runs) e = by (none_left low high time runs) (cases_Bool (begins_in low high run)) (cases_Bool (nat_le time (first_time run)))
  where
    by : (runs_within low high runs ≡ [] → runs_within low high (slices_from time runs) ≡ []) → (begins_in low high run ≡ true) ⊎ (begins_in low high run ≡ false) → (nat_le time (first_time run) ≡ true) ⊎ (nat_le time (first_time run) ≡ false) → runs_within low high (slices_from time (run ∷ runs)) ≡ []
    by h (inl t) b = absurd (let n : length (run ∷ runs_within low high runs) ≡ 0 = ap length (sym (passed low high run runs t) ∙ e) in omega arith)
    by h (inr f) (inr g) = ap (λ b. runs_within low high (cond b (run ∷ slices_from time runs) (slices_from time runs))) g ∙ h (sym (skipped low high run runs f) ∙ e)
    by h (inr f) (inl g) = ap (λ b. runs_within low high (cond b (run ∷ slices_from time runs) (slices_from time runs))) g ∙ skipped low high run (slices_from time runs) f ∙ h (sym (skipped low high run runs f) ∙ e)

pub knows_purged : {M : Type 0} {of_values : List ℤ → M} (kind : Kind) (water time : ℕ) (old new : Stored) (lane : Laned M) → new.slices ≡ slices_from time old.slices → time ≤ next_start_of kind water → Knows of_values kind water old lane → Knows of_values kind water new lane
knows_purged {M} {of_values} kind water time old new lane is l k = record {
  reached = k.reached;
  edge = k.edge;
  held = λ f. k.held f ∙ ap (partials_of of_values) (sym (ap (runs_within (next_start_of kind water) lane.to) is ∙ purge_stays (next_start_of kind water) lane.to time old.slices l));
}

pub knows_all_purged : {M : Type 0} (kind : Kind) (water time : ℕ) (old new : Stored) (lane : Laned M) → new.slices ≡ slices_from time old.slices → MissesNoSlice kind water old lane → MissesNoSlice kind water new lane
knows_all_purged kind water time old new lane is k = record {
  fresh = k.fresh;
  none_missed = ap (runs_within lane.to (last_end_by kind water)) is ∙ none_left lane.to (last_end_by kind water) time old.slices k.none_missed;
}

-- ---- room
pub knows_with_room : {M : Type 0} {of_values : List ℤ → M} (kind : Kind) (water : ℕ) (s : Stored) (old new : Laned M) → IsAsBefore old new → Knows of_values kind water s old → Knows of_values kind water s new
knows_with_room {M} {of_values} kind water s old new b k = record {
  reached = subst (λ n. n ≤ last_end_by kind water) (sym b.to) k.reached;
  edge = subst (IsEdge (length_of kind) (slide_of kind)) (sym b.to) k.edge;
  held = λ f. b.partials ∙ k.held (sym b.stale ∙ f) ∙ ap (λ n. partials_of of_values (runs_within (next_start_of kind water) n s.slices)) (sym b.to);
}

pub knows_all_with_room : {M : Type 0} (kind : Kind) (water : ℕ) (s : Stored) (old new : Laned M) → IsAsBefore old new → MissesNoSlice kind water s old → MissesNoSlice kind water s new
knows_all_with_room kind water s old new b k = record {
  fresh = b.stale ∙ k.fresh;
  none_missed = ap (λ n. runs_within n (last_end_by kind water) s.slices) b.to ∙ k.none_missed;
}
