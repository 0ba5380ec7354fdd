-- A tuple that comes into a store.
use Rattle.std.proofs.Common.{◌≡◌, ◌∙◌, ℕ, ◌+◌, ◌-◌, ◌≤◌, List, ◌∷◌, ◌++◌, length, take, drop, ap, sym, subst, arith, length-drop, length-take}
use Rattle.std.specs.Prelude.{FitsSigned, filter}
use Rattle.std.specs.Int.{w64}
use Rattle.stream_base.specs.declared.def.Def.{Def}
use Rattle.stream_base.specs.declared.kept.Kept.{Kept}
use Rattle.stream_base.specs.declared.limits.TheConstants.{TIME_MAX}
use Rattle.stream_base.specs.Limits.{AreWithinLimits, Definitions}
use Rattle.stream_base.specs.Model.Cuts.{has_cut}
use Rattle.stream_base.specs.Model.Journal.{put_in_order}
use Rattle.stream_base.specs.Model.Slices.{runs_of}
use Rattle.stream_base.specs.Model.Windows.{first_time}
use Rattle.stream_base.specs.Places.{IsPlaceOf}
use Rattle.slice_lists.specs.Runs.{AreRuns}
use Rattle.slice_lists.proofs.RunEdits.{pieces_are_runs, runs_are_pieces}
use Rattle.slice_lists.specs.Touched.{is_near}
use Rattle.slice_lists.specs.Sides.{IsFirstEntered, IsLastEntered}
use Rattle.slice_lists.specs.Slices.{AreSlices, CanEnter, Sliced, entered_at, joined, slices_between}
use Rattle.slice_lists.proofs.NearFacts.{IsEdit, edit}
use Rattle.slice_lists.proofs.SliceEdits.{entered_tuples, in_three}

-- what is sliced are runs
pub are_runs : (windows : List Def) (marks : List ℕ) (slices : List (List Kept)) → slices ≡ runs_of windows marks (joined slices) → AreRuns (has_cut windows marks) slices
are_runs windows marks slices e = subst (AreRuns (has_cut windows marks)) (sym e) (pieces_are_runs (has_cut windows marks) (joined slices))

pub are_sliced : (windows : List Def) (marks : List ℕ) (slices : List (List Kept)) → AreRuns (has_cut windows marks) slices → slices ≡ runs_of windows marks (joined slices)
are_sliced windows marks slices a = sym (runs_are_pieces (has_cut windows marks) slices a)

-- the edit that the places make
pub edit_of : (d : Definitions) (marks : List ℕ) (slices : List (List Kept)) (x : Kept) (at from to : ℕ) → AreWithinLimits d → AreSlices slices → slices ≡ runs_of d.windows marks (joined slices) → IsPlaceOf first_time slices (x.time + 1) at
    → IsFirstEntered (has_cut d.windows marks) slices at x.time from → IsLastEntered (has_cut d.windows marks) slices at x.time to → IsEdit d.windows marks slices from to x
edit_of d marks slices x at from to limits h e place first last = edit d.windows marks slices x limits.kinds h.ordered (are_runs d.windows marks slices e) at from to place first last

pub can_enter : (windows : List Def) (marks : List ℕ) (s : Sliced) (x : Kept) (from to : ℕ) → IsEdit windows marks s.slices from to x → 1 ≤ s.spare → x.time ≤ TIME_MAX → FitsSigned w64 x.value → CanEnter from to x s
can_enter windows marks s x from to h room time value = record {
  room = room;
  order = h.order;
  within = h.within;
  few = h.few;
  time = time;
  value = value;
  ordered = h.ordered;
  between = h.between;
}

pub edit_at : (d : Definitions) (marks before behind : List ℕ) (slices : List (List Kept)) (x : Kept) (at from to : ℕ) → AreWithinLimits d → AreSlices slices → slices ≡ runs_of d.windows marks (joined slices) → IsPlaceOf first_time slices (x.time + 1) at → before ≡ marks → behind ≡ marks
    → IsFirstEntered (has_cut d.windows before) slices at x.time from → IsLastEntered (has_cut d.windows behind) slices at x.time to → IsEdit d.windows marks slices from to x
edit_at d marks before behind slices x at from to limits h e place b f first last =
    edit_of d marks slices x at from to limits h e place
    (subst (λ ms. IsFirstEntered (has_cut d.windows ms) slices at x.time from) b first)
    (subst (λ ms. IsLastEntered (has_cut d.windows ms) slices at x.time to) f last)

module _ (windows : List Def) (marks : List ℕ) (slices new : List (List Kept)) (x y : Kept) (from to : ℕ) (h : IsEdit windows marks slices from to x) (same : y ≡ x) (made : new ≡ entered_at from to y slices) where
  is : new ≡ entered_at from to x slices
  is = made ∙ ap (λ z. entered_at from to z slices) same

  pub sliced_again : new ≡ runs_of windows marks (joined new)
  sliced_again = is ∙ are_sliced windows marks (entered_at from to x slices) h.sliced ∙ ap (λ l. runs_of windows marks (joined l)) (sym is)

  pub tuples_with : joined new ≡ put_in_order (joined slices) x
  tuples_with = ap joined is ∙ sym (entered_tuples slices from to x h.order h.ordered)

  pub was_before : slices ≡ take from slices ++ (filter (is_near (has_cut windows marks) x.time) slices ++ drop to slices)
  was_before = in_three slices from to x h.order ∙ ap (λ l. take from slices ++ (l ++ drop to slices)) (sym h.near)

  pub is_then : new ≡ take from slices ++ put_in_order (joined (filter (is_near (has_cut windows marks) x.time) slices)) x ∷ drop to slices
  is_then = is ∙ ap (λ l. take from slices ++ put_in_order (joined l) x ∷ drop to slices) (sym h.near)

pub near_length : (windows : List Def) (marks : List ℕ) (slices : List (List Kept)) (x : Kept) (from to : ℕ) → IsEdit windows marks slices from to x → length (filter (is_near (has_cut windows marks) x.time) slices) ≡ to - from
near_length windows marks slices x from to h = ap length h.near ∙ omega (arith, length-take (to - from) (drop from slices), length-drop from slices, h.within)

pub near_joined : (windows : List Def) (marks : List ℕ) (slices : List (List Kept)) (x : Kept) (from to : ℕ) → IsEdit windows marks slices from to x → length (joined (filter (is_near (has_cut windows marks) x.time) slices)) ≡ length (joined (slices_between from to slices))
near_joined windows marks slices x from to h = ap (λ l. length (joined l)) h.near
