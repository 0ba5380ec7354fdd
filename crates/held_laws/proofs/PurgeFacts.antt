-- Slices of settled tuples leave the store, and the slices part where tuples cease to be settled.
use Rattle.std.proofs.Common.{◌≡◌, ◌∙◌, ℕ, ◌+◌, ◌-◌, ◌<◌, ◌≤◌, Bool, true, false, not, List, [], ◌∷◌, ◌++◌, length, get_or, take, drop, ap, sym, subst, arith, inl, inr}
use Rattle.std.specs.Prelude.{◌⊎◌, ◌&&◌, max, nat_le, nat_lt}
use Rattle.std.specs.List.{All, Contains, list_any}
use Rattle.std.proofs.Math.Seq.{drop-append_seam, take-add, take-append_seam}
use Rattle.std.proofs.lemmas.Bool.{and_left, and_right, cases_Bool, cases_lt, false≢true, le-ltb, leb-true, lt-leb}
use Rattle.std.proofs.lemmas.List.{drop-drop, get_or-take, length-append, length-drop, length-take, take-append-drop}
use Rattle.std.proofs.lemmas.List.Concat.{flat_map-append}
use Rattle.std.proofs.lemmas.List.Elements.{All-append, All-contains, Contains-append_left}
use Rattle.std.proofs.lemmas.List.Folds.{list_any_none}
use Rattle.stream_base.specs.declared.kept.Kept.{Kept}
use Rattle.stream_base.specs.Laws.{TimesDoNotFall}
use Rattle.stream_base.specs.Limits.{Definitions}
use Rattle.stream_base.specs.Model.Changes.{Moment}
use Rattle.stream_base.specs.Model.Cuts.{has_cut}
use Rattle.stream_base.specs.Model.Slices.{is_settled}
use Rattle.stream_base.specs.Model.Windows.{first_time, last_time}
use Rattle.stream_base.proofs.Distinct.{All_from_members}
use Rattle.stream_base.proofs.Members.{filter_has, filter_members, flat_map_has, flat_map_members}
use Rattle.stream_base.proofs.Rising.{Contains-cons_cases, Contains-head, Contains-tail, none_in_nil}
use Rattle.stream_base.specs.Places.{IsPlaceOf}
use Rattle.slice_lists.specs.Runs.{AreParted, IsAligned, IsRun}
use Rattle.window_laws.specs.Positions.{AreKept}
use Rattle.window_laws.specs.Settled.{MayLeave, without_first}
use Rattle.window_laws.proofs.EdgeFacts.{aligned}
use Rattle.slice_lists.proofs.Order.{IsApart, IsNear, pieces_in_order, run_spans, runs_are_runs}
use Rattle.window_laws.proofs.SettledFacts.{cut_behind_settled}
use Rattle.slice_lists.specs.Touched.{marks_left}
use Rattle.slice_lists.specs.Slices.{joined}
use Rattle.agg_store.specs.Stored.{IsSliced, IsStore, Stored, tuples_of}
use Rattle.slice_lists.proofs.LeaveFacts.{from_place}
use Rattle.key_parts.specs.Held.{AreSameBehind, IsHeld}
use Rattle.key_parts.specs.Moves.{AreLists, IsPurge}
use Rattle.held_laws.specs.Dropped.{IsDropped}
use Rattle.held_laws.specs.Settling.{IsSettledUpTo}
use Rattle.held_laws.proofs.AlikeFacts.{rest_kept, settled_alike}
use Rattle.held_laws.proofs.SliceFacts.{place_among, slices_by_key}

-- ---- the marks that are left behind a time
left_alike : (dropped time after : ℕ) (some left all : List ℕ) → left ≡ marks_left time some → after ≡ max dropped time → AreSameBehind dropped some all → AreSameBehind after left all
left_alike dropped time after some left all l e a = record {
  there = λ mark b c. a.there mark (omega (arith, e)) (filter_members test some mark (subst (λ ms. Contains ms mark) l c)).0;
  back = λ mark b c. subst (λ ms. Contains ms mark) (sym l) (filter_has test some mark (a.back mark (omega (arith, e)) c) (ap not (list_any_none (λ n. nat_lt mark n && nat_le n time) some (λ k d g. none (get_or some k d) mark (omega (arith, e)) (cases_lt mark (get_or some k d))))));
}
  where
    test : ℕ → Bool
    test m = not (list_any (λ n. nat_lt m n && nat_le n time) some)

    none : (n mark : ℕ) → time < mark → (mark < n) ⊎ (n ≤ mark) → (nat_lt mark n && nat_le n time) ≡ false
    none n mark b (inl l) = and_right (nat_lt mark n) (nat_le n time) (lt-leb n time (omega arith))
    none n mark b (inr l) = and_left (nat_lt mark n) (nat_le n time) (le-ltb mark n l)

-- ---- a store that holds a key
module _ (d : Definitions) (m : Moment) (n : ℕ) (s : Stored) (h : IsHeld d m n s) (o : IsStore s) where
  kept : AreKept (drop n m.kept)
  kept = rest_kept d m n h.may_leave

  in_order : TimesDoNotFall (tuples_of s)
  in_order = subst TimesDoNotFall (sym h.tuples) kept.in_order

  held : (x : Kept) → Contains (tuples_of s) x → Contains (drop n m.kept) x
  held x c = subst (λ l. Contains l x) h.tuples c

  abbrev cut : ℕ → ℕ → Bool
  cut = has_cut d.windows m.marks

  each_run : All (IsRun (IsNear (has_cut d.windows m.marks))) s.slices
  each_run = runs_are_runs (IsNear (has_cut d.windows m.marks)) (IsApart (has_cut d.windows m.marks)) 0 (λ a b g. g.0) (λ a b g. omega (arith, g.0)) s.slices (subst (AreParted (IsNear (has_cut d.windows m.marks)) (IsApart (has_cut d.windows m.marks))) (sym (slices_by_key d m n s h o)) (pieces_in_order (has_cut d.windows m.marks) (tuples_of s) in_order))

  from_first : (run : List Kept) → Contains s.slices run → (x : Kept) → Contains run x → first_time run ≤ x.time
  from_first run c x b = (All-contains (λ (z : Kept). (first_time run ≤ z.time) × (z.time ≤ last_time run)) run x (run_spans (IsNear (has_cut d.windows m.marks)) (IsApart (has_cut d.windows m.marks)) 0 (λ a b g. g.0) (λ a b g. omega (arith, g.0)) run (All-contains (IsRun (IsNear (has_cut d.windows m.marks))) s.slices run each_run c)).0 b).0

  of_slice : (run : List Kept) → Contains s.slices run → (x : Kept) → Contains run x → Contains (drop n m.kept) x
  of_slice run c x b = held x (flat_map_has (λ (run : List Kept). run) s.slices run x c b)

  -- ---- the slices part where tuples cease to be settled
  pub parts_at : (time : ℕ) → IsSettledUpTo d (without_first n m) time → IsAligned s.slices time
  parts_at time u =
      subst (λ l. IsAligned l time) (sym (slices_by_key d m n s h o))
      (aligned d.windows m.marks (tuples_of s) in_order time
      (λ a b f g l r. cut_behind_settled d (without_first n m) a b (h.may_leave).kinds kept (held a f) (held b g) (omega arith) (u.before a (held a f) l) (u.behind b (held b g) r)))

  -- ---- the tuples of a slice are settled where its first one is
  run_settles : (run : List Kept) → IsRun (IsNear (has_cut d.windows m.marks)) run → ((x : Kept) → Contains run x → Contains (drop n m.kept) x) → (time : ℕ) → ((x : Kept) → Contains (drop n m.kept) x → x.time < time → is_settled d (without_first n m) x ≡ true) → first_time run < time → (x : Kept) → Contains run x → is_settled d (without_first n m) x ≡ true
  run_settles [] r has time b l x c = absurd r
  run_settles (y ∷ ys) r has time b l x c = onward y ys r has (b y (has y (Contains-head y ys)) l) x c
    where
      onward : (y : Kept) (ys : List Kept) → IsRun (IsNear (has_cut d.windows m.marks)) (y ∷ ys) → ((x : Kept) → Contains (y ∷ ys) x → Contains (drop n m.kept) x) → is_settled d (without_first n m) y ≡ true → (x : Kept) → Contains (y ∷ ys) x → is_settled d (without_first n m) x ≡ true
      onward y [] r has s x c = elim (Contains-cons_cases y [] x c) [ inl e ↦ subst (λ z. is_settled d (without_first n m) z ≡ true) e s | inr g ↦ absurd (none_in_nil x g) ]
      onward y (z ∷ zs) r has s x c = elim (Contains-cons_cases y (z ∷ zs) x c) [
        | inl e ↦ subst (λ z. is_settled d (without_first n m) z ≡ true) e s
        | inr g ↦ onward z zs r.1 (λ w f. has w (Contains-tail y (z ∷ zs) w f))
            (elim (cases_Bool (is_settled d (without_first n m) z)) [
              | inl t ↦ t
              | inr u ↦ absurd (false≢true (sym r.0.1 ∙ cut_behind_settled d (without_first n m) y z (h.may_leave).kinds kept (has y (Contains-head y (z ∷ zs))) (has z (Contains-tail y (z ∷ zs) z (Contains-head z zs))) r.0.0 s u))
            ])
            x g
      ]

  -- ---- slices of settled tuples leave
  module _ (time next : ℕ) (after : Stored) (lists : AreLists m next) (bounded : time ≤ m.water - d.lateness)
      (settled : (x : Kept) → Contains (drop n m.kept) x → x.time < time → is_settled d (without_first n m) x ≡ true)
      (drops : IsDropped time s after) (sliced : IsSliced d.windows after) (count : ℕ) (place : IsPlaceOf first_time s.slices time count) where
    abbrev gone : List Kept
    gone = joined (take count s.slices)

    is_left : after.slices ≡ drop count s.slices
    is_left = drops.slices ∙ from_place s.slices time count place

    parts : drop n m.kept ≡ gone ++ tuples_of after
    parts =
        sym h.tuples
        ∙ ap joined (sym (take-append-drop count s.slices))
        ∙ flat_map-append (λ (run : List Kept). run) (take count s.slices) (drop count s.slices)
        ∙ ap (λ l. gone ++ joined l) (sym is_left)

    abbrev more : ℕ
    more = n + length gone

    tuples_left : tuples_of after ≡ drop more m.kept
    tuples_left = sym (sym (drop-drop (length gone) n m.kept) ∙ ap (drop (length gone)) parts ∙ drop-append_seam gone (tuples_of after))

    gone_settled : (x : Kept) → Contains gone x → is_settled d m x ≡ true
    gone_settled x c =
        let f : (run : List Kept) × Contains (take count s.slices) run × Contains run x = flat_map_members (λ (run : List Kept). run) (take count s.slices) x c in
        let among : Contains s.slices f.0 = subst (λ l. Contains l f.0) (take-append-drop count s.slices) (Contains-append_left (take count s.slices) (drop count s.slices) f.0 f.1) in
        let early : first_time f.0 < time = All-contains (λ run. first_time run < time) (take count s.slices) f.0 begun f.1 in
        settled_alike d m n h.may_leave x (of_slice f.0 among x f.2)
        ∙ run_settles f.0 (All-contains (IsRun (IsNear (has_cut d.windows m.marks))) s.slices f.0 each_run among) (of_slice f.0 among) time settled early x f.2
      where
        begun : All (λ run. first_time run < time) (take count s.slices)
        begun k d l =
            let below : k < count = omega (arith, length-take count s.slices) in
            subst (λ run. first_time run < time) (sym (get_or-take count s.slices k d below)) (place.before k d (omega arith) below)

    more_may_leave : MayLeave d m more
    more_may_leave = record {
      kinds = (h.may_leave).kinds;
      kept = (h.may_leave).kept;
      few = omega (arith, (h.may_leave).few, ap length parts, length-drop n m.kept, length-append gone (tuples_of after));
      are_settled = subst (All (λ x. is_settled d m x ≡ true)) (sym (take-add n (length gone) m.kept ∙ ap (λ l. take n m.kept ++ l) (ap (take (length gone)) parts ∙ take-append_seam gone (tuples_of after))))
          (All-append (λ x. is_settled d m x ≡ true) (take n m.kept) gone (h.may_leave).are_settled (All_from_members (λ x. is_settled d m x ≡ true) gone gone_settled));
    }

    left_behind : (x : Kept) → Contains (tuples_of after) x → max s.dropped time ≤ x.time
    left_behind x c =
        let f : (run : List Kept) × Contains after.slices run × Contains run x = flat_map_members (λ (run : List Kept). run) after.slices x c in
        let g : Contains s.slices f.0 × (nat_le time (first_time f.0) ≡ true) = filter_members (λ run. nat_le time (first_time run)) s.slices f.0 (subst (λ l. Contains l f.0) drops.slices f.1) in
        let old : s.dropped ≤ x.time = All-contains (λ (x : Kept). s.dropped ≤ x.time) (tuples_of s) x h.behind (flat_map_has (λ (run : List Kept). run) s.slices f.0 x g.0 f.2) in
        omega (arith, leb-true time (first_time f.0) g.1, from_first f.0 g.0 x f.2)

    pub is_purge : (more : ℕ) × IsPurge d m n s time more after
    is_purge = (
      more,
      record {
        lists = (next, lists);
        bounded = bounded;
        store = o;
        held = h;
        slices = drops.slices;
        still_held = record {
          may_leave = more_may_leave;
          tuples = tuples_left;
          sliced = sliced;
          behind = subst (λ t. All (λ (x : Kept). t ≤ x.time) (tuples_of after)) (sym drops.dropped) (All_from_members (λ (x : Kept). max s.dropped time ≤ x.time) (tuples_of after) left_behind);
          bounded = omega (arith, drops.dropped, h.bounded, bounded);
          marks = left_alike s.dropped time after.dropped s.marks after.marks m.marks drops.marks drops.dropped h.marks;
        };
      },
    )

pub purged : (d : Definitions) (m : Moment) (n next time : ℕ) (before after : Stored) → IsHeld d m n before → AreLists m next → IsStore before → time ≤ m.water - d.lateness
    → ((x : Kept) → Contains (drop n m.kept) x → x.time < time → is_settled d (without_first n m) x ≡ true)
    → IsDropped time before after → IsSliced d.windows after → (more : ℕ) × IsPurge d m n before time more after
purged d m n next time before after h lists o bounded settled drops sliced =
    let p = place_among time before.slices (o.slices).ordered in
    is_purge d m n before h o time next after lists bounded settled drops sliced p.0 p.1

pub parts_where_settled : (d : Definitions) (m : Moment) (n time : ℕ) (s : Stored) → IsHeld d m n s → IsStore s → IsSettledUpTo d (without_first n m) time → IsAligned s.slices time
parts_where_settled d m n time s h o u = parts_at d m n s h o time u
