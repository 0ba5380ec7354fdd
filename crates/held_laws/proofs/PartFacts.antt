-- What parts ask of a store that holds a key.
use Rattle.std.proofs.Common.{◌≡◌, ◌∙◌, ℕ, ◌<◌, List, length, drop, ap, sym, refl, subst, arith}
use Rattle.std.specs.Prelude.{◌^◌, nat_lt}
use Rattle.std.specs.List.{All, Contains}
use Rattle.std.proofs.lemmas.List.{length-drop}
use Rattle.std.proofs.lemmas.List.Elements.{All-contains, All-contains_itself, All-filter, All-weaker}
use Rattle.stream_base.specs.declared.def.Def.{Def}
use Rattle.stream_base.specs.declared.kept.Kept.{Kept}
use Rattle.stream_base.specs.declared.kind.Kind.TheVariants.{Marks, Session}
use Rattle.stream_base.specs.declared.limits.TheConstants.{FINAL, JOURNAL_MAX}
use Rattle.stream_base.specs.Laws.{TimesDoNotFall}
use Rattle.stream_base.specs.Limits.{Definitions}
use Rattle.stream_base.specs.Kinds.{IsKindWithin}
use Rattle.stream_base.specs.Model.Changes.{Moment}
use Rattle.stream_base.specs.Model.Windows.{Instance, instances_of, sessions, stretches, within}
use Rattle.window_laws.specs.Positions.{AreKept}
use Rattle.slice_lists.specs.Runs.{IsAligned}
use Rattle.window_laws.proofs.InstanceFacts.{sessions_select}
use Rattle.window_laws.proofs.KindFacts.{spans_hold_selections}
use Rattle.agg_store.specs.Stored.{IsStore, Stored, tuples_of}
use Rattle.context_windows.specs.Aligned.{IsOfSessions, IsOfWindows}
use Rattle.context_windows.specs.Spanned.{HoldsSessions, IsSession}
use Rattle.context_windows.specs.Marked.{HoldsStretches, IsEdge}
use Rattle.context_windows.proofs.Aligning.{edges_aligned}
use Rattle.key_parts.specs.Held.{IsHeld}
use Rattle.key_parts.specs.Moves.{AreLists}
use Rattle.held_laws.proofs.AlikeFacts.{left_kept}
use Rattle.held_laws.proofs.SliceFacts.{slices_of_key}

module _ (d : Definitions) (m : Moment) (n : ℕ) (s : Stored) (h : IsHeld d m n s) where
  kept : AreKept (drop n m.kept)
  kept = left_kept n m.kept (h.may_leave).kept

  few_left : (next : ℕ) → AreLists m next → length (drop n m.kept) < 2 ^ 64
  few_left next l =
      let most : JOURNAL_MAX < 2 ^ 64 = omega arith in
      omega (arith, length-drop n m.kept, l.few, l.most)

  held_within : (is : List Instance) → All (λ (i : Instance). i.chosen ≡ within i.low i.high (drop n m.kept)) is → All (λ (i : Instance). within i.low i.high (tuples_of s) ≡ i.chosen) is
  held_within is a = All-weaker (λ (i : Instance). i.chosen ≡ within i.low i.high (drop n m.kept)) (λ i. within i.low i.high (tuples_of s) ≡ i.chosen) (λ i e. ap (within i.low i.high) h.tuples ∙ sym e) is a

  of_windows : IsOfWindows d.windows s
  of_windows = record {
    kinds = (h.may_leave).kinds;
    sliced = h.sliced;
    in_order = subst TimesDoNotFall (sym h.tuples) kept.in_order;
    early = subst (All (λ (x : Kept). x.time < FINAL)) (sym h.tuples) kept.early;
  }

pub holds_sessions : (d : Definitions) (m : Moment) (n next : ℕ) (s : Stored) (w : Def) (gap time : ℕ) → IsHeld d m n s → AreLists m next → Contains d.windows w → w.kind ≡ Session gap → HoldsSessions gap time (drop n m.kept) s
holds_sessions d m n next s w gap time h l c e =
    let k : IsKindWithin (Session gap) = subst IsKindWithin e (All-contains (λ w. IsKindWithin w.kind) d.windows w (h.may_leave).kinds c) in
    let a : All (λ (i : Instance). i.chosen ≡ within i.low i.high (drop n m.kept)) (sessions gap (drop n m.kept)) = sessions_select gap (drop n m.kept) k.0 (kept d m n s h).in_order in
    record {
      chosen = All-filter (λ i. nat_lt time i.high) (λ i. within i.low i.high (tuples_of s) ≡ i.chosen) (sessions gap (drop n m.kept)) (held_within d m n s h (sessions gap (drop n m.kept)) a);
    }

pub holds_stretches : (d : Definitions) (m : Moment) (n next : ℕ) (s : Stored) (time : ℕ) → IsHeld d m n s → AreLists m next → HoldsStretches time m.marks (drop n m.kept) s
unfolding instances_of
holds_stretches d m n next s time h l =
    let a : All (λ (i : Instance). i.chosen ≡ within i.low i.high (drop n m.kept)) (stretches m.marks (drop n m.kept)) = spans_hold_selections Marks (drop n m.kept) m.marks tt refl (kept d m n s h).in_order in
    record {
      chosen = All-filter (λ i. nat_lt time i.high) (λ i. within i.low i.high (tuples_of s) ≡ i.chosen) (stretches m.marks (drop n m.kept)) (held_within d m n s h (stretches m.marks (drop n m.kept)) a);
    }

pub few_held : (d : Definitions) (m : Moment) (n next : ℕ) (s : Stored) → IsHeld d m n s → AreLists m next → length (tuples_of s) < 2 ^ 64
few_held d m n next s h l = subst (λ xs. length xs < 2 ^ 64) (sym h.tuples) (few_left d m n s h next l)

pub slices_of_windows : (d : Definitions) (m : Moment) (n : ℕ) (s : Stored) → IsHeld d m n s → IsOfWindows d.windows s
slices_of_windows d m n s h = of_windows d m n s h

pub slices_of_sessions : (d : Definitions) (m : Moment) (n : ℕ) (s : Stored) (w : Def) → IsHeld d m n s → Contains d.windows w → IsSession w.kind → IsOfSessions d.windows w (drop n m.kept) s
slices_of_sessions d m n s w h c k = record {
  sliced = of_windows d m n s h;
  member = c;
  session = k;
  early = (kept d m n s h).early;
  some = subst (All (Contains (drop n m.kept))) (sym h.tuples) (All-contains_itself (drop n m.kept));
}

-- with all marks of the key
pub parts_at_edges : (d : Definitions) (m : Moment) (n : ℕ) (s : Stored) (e : ℕ) → IsHeld d m n s → IsStore s → IsEdge m.marks e → IsAligned s.slices e
parts_at_edges d m n s e h o g =
    let w = of_windows d m n s h in
    edges_aligned d.windows
    (record { slices = s.slices; marks = m.marks; dropped = s.dropped; spare = s.spare; reach = s.reach }) e
    (record { kinds = w.kinds; sliced = slices_of_key d m n s h o; in_order = w.in_order; early = w.early }) g
