-- What is held of a key is a store.
use Rattle.std.proofs.Common.{◌≡◌, ◌∙◌, ◌<◌, ◌≤◌, ℕ, List, [], ◌∷◌, true, arith, subst, sym, w64, ⊎_elim}
use Rattle.std.specs.Prelude.{All, FitsSigned}
use Rattle.std.specs.List.Sorted.{IsStrictlyIncreasing}
use Rattle.std.proofs.lemmas.Bool.{cases_lt, false≢true}
use Rattle.std.proofs.lemmas.List.Elements.{All-cons, All-drop, All-filter, All-nil}
use Rattle.std.proofs.lemmas.List.Kept.{IsStrictlyIncreasing-filter}
use Rattle.stream_base.specs.Limits.{Definitions}
use Rattle.stream_base.specs.Kinds.{IsKindWithin}
use Rattle.stream_base.specs.declared.def.Def.{Def}
use Rattle.stream_base.specs.declared.kept.Kept.{Kept}
use Rattle.stream_base.specs.declared.limits.TheConstants.{TIME_MAX}
use Rattle.stream_base.specs.Laws.{TimesDoNotFall}
use Rattle.stream_base.specs.Model.Changes.{Moment}
use Rattle.stream_base.specs.Model.Cuts.{has_cut}
use Rattle.stream_base.specs.Model.Slices.{runs_of}
use Rattle.stream_base.proofs.EventOrder.{All_put}
use Rattle.model_laws.proofs.CutLaws.{no_cut_at_one_time}
use Rattle.slice_lists.specs.Runs.{AreInOrder, AreParted, IsPartFrom, IsRun}
use Rattle.slice_lists.proofs.Order.{All-split, IsApart, IsNear, pieces_in_order}
use Rattle.slice_lists.specs.Slices.{AreSlices, joined}
use Rattle.slice_lists.specs.Touched.{marks_left, slices_from}
use Rattle.slice_lists.proofs.MarkFacts.{rising_more}
use Rattle.slice_lists.proofs.WithinFacts.{all_joined}
use Rattle.agg_store.specs.Stored.{IsAsBefore, IsStore, Stored, tuples_of}
use Rattle.key_parts.specs.Held.{IsHeld}
use Rattle.key_parts.specs.Moves.{AreLists, Comes, IsMarkStep, IsPurge, IsPutStep}
use Rattle.key_parts.specs.Moves.Comes.{Enters, Leaves}
use Rattle.held_laws.proofs.AlikeFacts.{rest_kept}
use Rattle.held_laws.proofs.PartFacts.{few_held}

-- ---- runs that are parted in one way are so in a weaker way
module _ (near apart near_too apart_too : ℕ → ℕ → Type 0) (inside : (a b : ℕ) → near a b → near_too a b) (between : (a b : ℕ) → apart a b → apart_too a b) where
  one_so : (run : List Kept) → IsRun near run → IsRun near_too run
  one_so [] r = absurd r
  one_so (x ∷ []) r = tt
  one_so (x ∷ y ∷ ys) r = (inside x.time y.time r.0, one_so (y ∷ ys) r.1)

  parted_so : (runs : List (List Kept)) → AreParted near apart runs → AreParted near_too apart_too runs
  parted_so [] a = tt
  parted_so (run ∷ runs) a = (one_so run a.0, next_so runs a.1, parted_so runs a.2)
    where
      next_so : (others : List (List Kept)) → IsPartFrom apart run others → IsPartFrom apart_too run others
      next_so [] p = tt
      next_so (next ∷ others) p = between _ _ p

-- times rise from slice to slice, since there is no cut at one time
runs_rise : (windows : List Def) (marks : List ℕ) (kept : List Kept) → All (λ w. IsKindWithin w.kind) windows → TimesDoNotFall kept → AreInOrder (runs_of windows marks kept)
runs_rise windows marks kept kinds times =
    parted_so (IsNear (has_cut windows marks)) (IsApart (has_cut windows marks)) (λ a b. a ≤ b) (λ a b. a < b) (λ a b h. h.0) rise
    (runs_of windows marks kept) (pieces_in_order (has_cut windows marks) kept times)
  where
    rise : (a b : ℕ) → IsApart (has_cut windows marks) a b → a < b
    rise a b h = ⊎_elim (λ (l : a < b). l)
        (λ (g : b ≤ a). let e : b ≡ a = omega (arith, g, h.0) in absurd (false≢true (sym (no_cut_at_one_time windows marks a kinds) ∙ subst (λ t. has_cut windows marks a t ≡ true) e h.1)))
        (cases_lt a b)

-- ---- what is held of a key is in order and in time
pub store_held : (d : Definitions) (m : Moment) (n next : ℕ) (s : Stored) → IsHeld d m n s → AreLists m next → All (λ x. FitsSigned w64 x.value) (tuples_of s) → IsStrictlyIncreasing s.marks → IsStore s
store_held d m n next s h lists values marks = record {
  slices = record {
    ordered = subst AreInOrder (sym h.sliced) (runs_rise d.windows s.marks (tuples_of s) (h.may_leave).kinds (subst TimesDoNotFall (sym h.tuples) (rest_kept d m n h.may_leave).in_order));
    in_time = subst (All (λ (x : Kept). x.time ≤ TIME_MAX)) (sym h.tuples) (All-drop (λ (x : Kept). x.time ≤ TIME_MAX) n m.kept lists.times);
    values = values;
    counted = few_held d m n next s h lists;
  };
  marks = marks;
}

-- a store of other room
pub store_with_room : (s t : Stored) → IsAsBefore s t → IsStore s → IsStore t
store_with_room s t e o = record { slices = subst AreSlices (sym e.slices) o.slices; marks = subst IsStrictlyIncreasing (sym e.marks) o.marks }

-- ---- what comes to it, and what leaves
pub store_put : (d : Definitions) (m next_m : Moment) (n next : ℕ) (s : Stored) (x : Kept) (more : ℕ) (after : Stored) → IsPutStep d m n s x more after → IsHeld d next_m more after → AreLists next_m next → FitsSigned w64 x.value → IsStore after
store_put d m next_m n next s x more after p held lists value = by more after p.comes held
  where
    by : (more : ℕ) (after : Stored) → Comes d n s x more after → IsHeld d next_m more after → IsStore after
    by more after (Enters some i) held = store_held d next_m more next after held lists
        (subst (All (λ (y : Kept). FitsSigned w64 y.value)) (sym i.tuples) (All_put (λ (y : Kept). FitsSigned w64 y.value) (tuples_of s) x p.store.slices.values value))
        (subst IsStrictlyIncreasing (sym i.marks) p.store.marks)
    by more after (Leaves all none) held = p.store

pub store_marked : (d : Definitions) (m next_m : Moment) (n next : ℕ) (s : Stored) (time : ℕ) (after : Stored) → IsMarkStep d m n s time after → IsHeld d next_m n after → AreLists next_m next → IsStore after
store_marked d m next_m n next s time after p held lists = store_held d next_m n next after held lists
    (subst (All (λ (y : Kept). FitsSigned w64 y.value)) (sym p.tuples) p.store.slices.values)
    (subst IsStrictlyIncreasing (sym p.marks) (rising_more s.marks time p.store.marks))

each_run : (P : Kept → Type 0) (runs : List (List Kept)) → All P (joined runs) → All (All P) runs
each_run P [] a = All-nil (All P)
each_run P (run ∷ runs) a = let s : All P run × All P (joined runs) = All-split P run (joined runs) a in All-cons (All P) run runs s.0 (each_run P runs s.1)

pub store_purged : (d : Definitions) (m : Moment) (n next time more : ℕ) (s after : Stored) → IsPurge d m n s time more after → AreLists m next → after.marks ≡ marks_left time s.marks → IsStore after
store_purged d m n next time more s after p lists marks = store_held d m more next after p.still_held lists
    (subst (λ ss. All (λ (y : Kept). FitsSigned w64 y.value) (joined ss)) (sym p.slices)
    (all_joined (λ (y : Kept). FitsSigned w64 y.value) (slices_from time s.slices) (All-filter _ (All (λ (y : Kept). FitsSigned w64 y.value)) s.slices (each_run (λ (y : Kept). FitsSigned w64 y.value) s.slices p.store.slices.values))))
    (subst IsStrictlyIncreasing (sym marks) (IsStrictlyIncreasing-filter _ s.marks p.store.marks))
