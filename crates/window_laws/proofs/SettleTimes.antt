-- When a tuple settles in a window, by its kind.
use Rattle.std.proofs.Common.{◌≡◌, ◌∙◌, ℕ, ◌+◌, ◌-◌, ◌*◌, ◌/◌, ◌<◌, ◌≤◌, true, false, List, ◌∷◌, ◌++◌, ap, sym, subst, arith, inl, inr, append_assoc}
use Rattle.std.specs.Prelude.{◌↔◌, nat_le}
use Rattle.std.specs.List.{All, Contains}
use Rattle.std.proofs.lemmas.List.Elements.{All-contains, Contains-append_cases, Contains-append_right}
use Rattle.std.proofs.lemmas.Nat.{le-div}
use Rattle.stream_base.specs.declared.def.Def.{Def}
use Rattle.stream_base.specs.declared.kept.Kept.{Kept}
use Rattle.stream_base.specs.declared.kind.Kind.{Kind}
use Rattle.stream_base.specs.declared.kind.Kind.TheVariants.{Session, Marks}
use Rattle.stream_base.specs.declared.limits.TheConstants.{FINAL}
use Rattle.stream_base.specs.Laws.{TimesDoNotFall}
use Rattle.stream_base.specs.Kinds.{length_of, slide_of, IsKindWithin, is_events, is_timed}
use Rattle.stream_base.specs.Model.Changes.{Moment}
use Rattle.stream_base.specs.Model.Slices.{is_settled_in}
use Rattle.stream_base.specs.Model.Windows.{Instance, instances_of, pieces_of, sessions, spans}
use Rattle.stream_base.proofs.Rising.{Contains-cons_cases, Contains-head}
use Rattle.window_laws.specs.Positions.{AreKept}
use Rattle.stream_base.proofs.KindFacts.{timed_counts_not, timed_instances, timed_within}
use Rattle.window_laws.specs.Settled.{last_end_of}
use Rattle.window_laws.specs.Stretches.{next_mark}
use Rattle.window_laws.proofs.InstanceFacts.{session_runs}
use Rattle.window_laws.proofs.NextMarks.{stretch_span}
use Rattle.slice_lists.proofs.Order.{amid}
use Rattle.window_laws.proofs.SettledFacts.{settled_by_times, times_settle}
use Rattle.window_laws.proofs.HoldingFacts.{span_at, sessions_apart, span_low}
use Rattle.window_laws.proofs.StretchFacts.{stretch_holding}

times_mono : (a b c : ℕ) → a ≤ b → a * c ≤ b * c
times_mono a b c h = grind arith

-- ---- tumbling and sliding
module _ (length slide : ℕ) (moves : 1 ≤ slide) (overlaps : slide ≤ length) (kept : List Kept) (x : Kept) (lateness water : ℕ) where
  last_span : Contains kept x → ((i : Instance) → Contains (spans length slide kept) i → i.low ≤ x.time → x.time < i.high → i.high + lateness ≤ water) → x.time / slide * slide + length + lateness ≤ water
  last_span c all = let i = span_at length slide moves overlaps kept x c in omega (arith, all i.0 i.1 i.2 i.3, i.4)

  each_span : x.time / slide * slide + length + lateness ≤ water → (i : Instance) → Contains (spans length slide kept) i → i.low ≤ x.time → x.time < i.high → i.high + lateness ≤ water
  each_span le i c l r =
      let s = span_low length slide kept i moves overlaps c in
      let k : s.0 ≤ x.time / slide = le-div s.0 x.time slide moves (omega (arith, s.1)) in
      omega (arith, s.2, times_mono s.0 (x.time / slide) slide k)

pub timed_settles : (lateness : ℕ) (m : Moment) (x : Kept) (w : Def) → AreKept m.kept → IsKindWithin w.kind → is_timed w.kind ≡ true → Contains m.kept x → (is_settled_in lateness m x w ≡ true) ↔ (last_end_of w.kind x.time + lateness ≤ m.water)
timed_settles lateness m x w a k t c =
    let s = timed_within w.kind t k in
    let e = timed_counts_not w.kind t in (
      λ settled. last_span (length_of w.kind) (slide_of w.kind) s.0 s.1 m.kept x lateness m.water c
          (subst Ended (timed_instances w.kind m.kept m.marks t) (settled_by_times lateness m x w a k e c settled)),
      λ over. times_settle lateness m x w a k e c
          (subst Ended (sym (timed_instances w.kind m.kept m.marks t)) (each_span (length_of w.kind) (slide_of w.kind) s.0 s.1 m.kept x lateness m.water over)),
    )
  where
    Ended : List Instance → Type 0
    Ended is = (i : Instance) → Contains is i → i.low ≤ x.time → x.time < i.high → i.high + lateness ≤ m.water

-- ---- sessions
-- of two sessions that hold a time there is but one
one_session : (gap : ℕ) (kept : List Kept) (i j : Instance) (t : ℕ) → 1 ≤ gap → TimesDoNotFall kept → Contains (sessions gap kept) i → Contains (sessions gap kept) j → i.low ≤ t → t < i.high → j.low ≤ t → t < j.high → i ≡ j
one_session gap kept i j t some h c d l r u v =
    let a = amid (sessions gap kept) i c in
    elim (Contains-append_cases a.front (i ∷ a.back) j (subst (λ s. Contains s j) a.is d)) [
      | inl f ↦ absurd (let e : j.high ≤ i.low = All-contains (λ (k : Instance). k.high ≤ i.low) a.front j (fronts i a.front a.back a.is) f in omega arith)
      | inr f ↦ elim (Contains-cons_cases i a.back j f) [
        | inl e ↦ e
        | inr b ↦ absurd (let g = amid a.back j b in
            let is : sessions gap kept ≡ (a.front ++ i ∷ g.front) ++ j ∷ g.back = a.is ∙ ap (λ s. a.front ++ i ∷ s) g.is ∙ sym (append_assoc a.front (i ∷ g.front) (j ∷ g.back)) in
            let e : i.high ≤ j.low = All-contains (λ (k : Instance). k.high ≤ j.low) (a.front ++ i ∷ g.front) i (fronts j (a.front ++ i ∷ g.front) g.back is) (Contains-append_right a.front (i ∷ g.front) i (Contains-head i g.front)) in
            omega arith)
      ]
    ]
  where
    fronts : (k : Instance) (front back : List Instance) → sessions gap kept ≡ front ++ k ∷ back → All (λ (n : Instance). n.high ≤ k.low) front
    fronts k front back e = sessions_apart gap (pieces_of (λ x y. nat_le gap (y.time - x.time)) kept) some (session_runs gap kept h) front k back e

pub session_settles : (lateness gap : ℕ) (m : Moment) (x : Kept) (w : Def) (i : Instance) → AreKept m.kept → w.kind ≡ Session gap → IsKindWithin w.kind → Contains m.kept x → Contains (sessions gap m.kept) i → i.low ≤ x.time → x.time < i.high → (is_settled_in lateness m x w ≡ true) ↔ (i.high + lateness ≤ m.water)
unfolding instances_of
session_settles lateness gap m x w i a e k c d l r = (
  λ s. settled_by_times lateness m x w a k none c s i (subst (λ (kind : Kind). Contains (instances_of kind m.kept m.marks) i) (sym e) d) l r,
  λ le. times_settle lateness m x w a k none c (λ j b u v. let same : i ≡ j = one_session gap m.kept i j x.time (subst IsKindWithin e k).0 a.in_order d (subst (λ (kind : Kind). Contains (instances_of kind m.kept m.marks) j) e b) l r u v in subst (λ (n : Instance). n.high + lateness ≤ m.water) same le),
)
  where
    none : is_events w.kind ≡ false
    none = ap is_events e

-- ---- intervals between marks
pub marks_settle : (lateness : ℕ) (m : Moment) (x : Kept) (w : Def) → AreKept m.kept → w.kind ≡ Marks → Contains m.kept x → (is_settled_in lateness m x w ≡ true) ↔ (next_mark m.marks x.time + lateness ≤ m.water)
unfolding instances_of
marks_settle lateness m x w a e c = (
  λ s. let i = stretch_holding m.marks m.kept x early c in
      let g : (i.0).high + lateness ≤ m.water = settled_by_times lateness m x w a k none c s i.0 (subst (λ (kind : Kind). Contains (instances_of kind m.kept m.marks) i.0) (sym e) i.1) i.2 i.3 in
      subst (λ n. n + lateness ≤ m.water) (stretch_span m.marks m.kept i.0 x early c i.1 i.2 i.3).1 g,
  λ le. times_settle lateness m x w a k none c (λ j b u v. subst (λ n. n + lateness ≤ m.water) (sym (stretch_span m.marks m.kept j x early c (subst (λ (kind : Kind). Contains (instances_of kind m.kept m.marks) j) e b) u v).1) le),
)
  where
    none : is_events w.kind ≡ false
    none = ap is_events e

    k : IsKindWithin w.kind
    k = subst IsKindWithin (sym e) tt

    early : x.time < FINAL
    early = All-contains (λ (z : Kept). z.time < FINAL) m.kept x a.early c
