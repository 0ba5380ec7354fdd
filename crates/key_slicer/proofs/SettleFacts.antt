-- When tuples of a key are settled.
use Rattle.std.proofs.Common.{◌≡◌, ◌∙◌, ◌≤◌, ◌<◌, ◌+◌, ◌-◌, ℕ, true, false, not, List, [], ◌∷◌, ap, sym, refl, subst, arith, inl, inr}
use Rattle.std.specs.Prelude.{◌≢◌, All, None, Some, find, nat_le, option_map}
use Rattle.std.specs.List.{Contains, list_all}
use Rattle.std.proofs.lemmas.Bool.{false≢true, le-leb}
use Rattle.std.proofs.lemmas.List.Elements.{All-cons, All-contains, All-head, All-weaker}
use Rattle.stream_base.specs.Limits.{Definitions}
use Rattle.stream_base.specs.declared.kept.Kept.{Kept}
use Rattle.stream_base.specs.declared.limits.TheConstants.{FINAL, TIME_MAX}
use Rattle.stream_base.specs.Model.Changes.{Moment}
use Rattle.stream_base.specs.Model.Slices.{is_settled, unsettled}
use Rattle.stream_base.specs.Kinds.{is_events}
use Rattle.stream_base.specs.Model.Windows.{first_time, last_time}
use Rattle.stream_base.proofs.Members.{filter_has, filter_members}
use Rattle.stream_base.proofs.Rising.{Contains-head}
use Rattle.window_laws.specs.After.{at_water}
use Rattle.window_laws.specs.Settled.{without_first}
use Rattle.window_laws.proofs.SettledMoves.{move_keeps_settled}
use Rattle.stream_base.proofs.Filters.{filter_all}
use Rattle.stream_base.specs.Model.Moments.{IsWater, moment}
use Rattle.slice_lists.proofs.Order.{runs_behind}
use Rattle.slice_lists.specs.declared.slice.Slice.{Slice}
use Rattle.slice_lists.specs.Touched.{slices_from}
use Rattle.slice_lists.specs.Slices.{AreSlices, joined, slice_of}
use Rattle.agg_store.specs.Stored.{Stored, tuples_of}
use Rattle.slice_lists.proofs.SliceOrder.{IsApart, IsNear, first_below_last}
use Rattle.key_parts.specs.Calls.{Standing, window_at}
use Rattle.key_parts.specs.Held.{IsHeld}
use Rattle.key_parts.specs.Moves.{SettlesUpTo}
use Rattle.held_laws.specs.Settling.{NoneSettled}
use Rattle.held_laws.proofs.AlikeFacts.{of_rest, settled_alike_all}
use Rattle.held_laws.proofs.HoldFacts.{held_after_move}
use Rattle.held_laws.proofs.OpenFacts.{open_from, unsettled_are_held}
use Rattle.key_slicer.specs.Parts.{EachPart, IsLeastOf}
use Rattle.key_slicer.specs.States.{Fits, StandsFor}
use Rattle.key_slicer.proofs.Loops.{least_there}
use Rattle.key_slicer.proofs.StateFacts.{up_to_time}

-- ---- the first slice
-- it begins no later than any, at the time of the first tuple
pub record IsFirst (slices : List (List Kept)) (time : ℕ) : Type 0 where
  pub least : All (λ run. time ≤ first_time run) slices
  pub is_one : (x : Kept) × Contains (joined slices) x × (x.time ≡ time)
  pub early : time ≤ TIME_MAX

found : (run : List Kept) (runs : List (List Kept)) → find (λ run. nat_le 0 (first_time run)) (run ∷ runs) ≡ Some run
found run runs = rw (le-leb 0 (first_time run) (omega arith)) refl

pub none_found : (slices : List (List Kept)) → None ≡ option_map slice_of (find (λ run. nat_le 0 (first_time run)) slices) → slices ≡ []
none_found [] e = refl
none_found (run ∷ runs) e = let f : None ≡ Some (slice_of run) = e ∙ ap (option_map slice_of) (found run runs) in cc (f)

some_is : {X : Type 0} (x y : X) → Some x ≡ Some y → x ≡ y
some_is x y e = cc

pub first_found : (slices : List (List Kept)) (slice : Slice) → Some slice ≡ option_map slice_of (find (λ run. nat_le 0 (first_time run)) slices) → AreSlices slices → IsFirst slices slice.low
first_found [] slice e a = cc
first_found ([] ∷ runs) slice e a = absurd (a.ordered).0
first_found ((x ∷ xs) ∷ runs) slice e a =
    let is : slice.low ≡ x.time = ap (λ (s : Slice). s.low) (some_is slice (slice_of (x ∷ xs)) (e ∙ ap (option_map slice_of) (found (x ∷ xs) runs))) in
    record {
      least = subst (λ t. All (λ run. t ≤ first_time run) ((x ∷ xs) ∷ runs)) (sym is) begins;
      is_one = (x, Contains-head x _, sym is);
      early = omega (arith, is, All-head (λ (y : Kept). y.time ≤ TIME_MAX) x _ a.in_time);
    }
  where
    begins : All (λ run. x.time ≤ first_time run) ((x ∷ xs) ∷ runs)
    begins =
        All-cons (λ q. x.time ≤ first_time q) (x ∷ xs) runs (omega arith)
        (All-weaker (λ q. (last_time (x ∷ xs) + 0 ≤ first_time q) × (first_time q ≤ last_time q)) (λ q. x.time ≤ first_time q) (λ q h. omega (arith, h.0, ends)) runs (runs_behind IsNear IsApart 0 (λ a b h. h) (λ a b h. omega (arith, h)) (x ∷ xs) runs a.ordered))
      where
        ends : x.time ≤ last_time (x ∷ xs)
        ends = first_below_last (x ∷ xs) (a.ordered).0

-- all slices begin there or later
pub all_from_first : (time low : ℕ) (slices : List (List Kept)) → time ≤ low → All (λ run. low ≤ first_time run) slices → slices_from time slices ≡ slices
all_from_first time low slices l a = filter_all (λ run. nat_le time (first_time run)) slices (All-weaker (λ run. low ≤ first_time run) (λ run. nat_le time (first_time run) ≡ true) (λ run g. le-leb time (first_time run) (omega arith)) slices a)

-- ---- before a watermark, and at it
module _ {P : Type 0} (stands : Standing P) (d : Definitions) (settles_at : ℕ → P → ℕ) (some : list_all (λ w. is_events w.kind) d.windows ≡ false) where
  -- under a watermark at which the first time is not settled, no tuple is
  pub open_at : (kept : List Kept) (marks : List ℕ) (water new next : ℕ) (s : Stored) (parts : List P) (low : ℕ) → water ≤ new → (f : StandsFor stands d (moment kept marks water) next s parts)
      → EachPart (λ i part. SettlesUpTo d.lateness (at_water (without_first f.without (moment kept marks water)) new) (window_at d i) (settles_at i part)) parts
      → ((least : ℕ) → IsLeastOf settles_at (new - d.lateness) parts least → least ≤ low) → All (λ run. low ≤ first_time run) s.slices → NoneSettled d (moment kept marks new) s
  open_at kept marks water new next s parts low l f each le first =
      let m : Moment = moment kept marks water in
      let held = held_after_move d m f.without s new f.held l in
      let o = least_there settles_at (new - d.lateness) parts in
      open_from d (moment kept marks new) f.without o.0 s s held f.store (up_to_time stands d settles_at some m new next s parts o.0 f o.1 each) (sym (all_from_first o.0 low s.slices (le o.0 o.1) first))

  -- at a watermark at which a time is settled, so are the tuples of that time and of earlier ones
  pub settled_then : (kept : List Kept) (marks : List ℕ) (water due next : ℕ) (s : Stored) (parts : List P) (low : ℕ) (x : Kept) → water ≤ due → (f : StandsFor stands d (moment kept marks water) next s parts)
      → EachPart (λ i part. SettlesUpTo d.lateness (at_water (without_first f.without (moment kept marks water)) due) (window_at d i) (settles_at i part)) parts
      → ((least : ℕ) → IsLeastOf settles_at (due - d.lateness) parts least → low < least) → Contains (tuples_of s) x → x.time ≤ low → is_settled d (moment kept marks due) x ≡ true
  settled_then kept marks water due next s parts low x l f each le c b =
      let m : Moment = moment kept marks water in
      let held = held_after_move d m f.without s due f.held l in
      let rest : Contains ((without_first f.without m).kept) x = subst (λ l. Contains l x) (f.held).tuples c in
      let o = least_there settles_at (due - d.lateness) parts in
      settled_alike_all d (moment kept marks due) f.without x held.may_leave rest
      ∙ (up_to_time stands d settles_at some m due next s parts o.0 f o.1 each).before x rest (omega (arith, le o.0 o.1, b))

-- other tuples are unsettled where one that was is no more
module _ {P : Type 0} (stands : Standing P) (d : Definitions) where
  pub one_less : (kept : List Kept) (marks : List ℕ) (water due next : ℕ) (s : Stored) (parts : List P) (x : Kept) → Fits stands d kept marks water next s parts → Contains (tuples_of s) x
      → is_settled d (moment kept marks due) x ≡ true → unsettled d (moment kept marks due) ≢ unsettled d (moment kept marks water)
  one_less kept marks water due next s parts x f c settled = λ same.
      let there : Contains (unsettled d (moment kept marks due)) x = subst (λ l. Contains l x) (sym (same ∙ unsettled_are_held d (moment kept marks water) f.known.without s f.known.held f.none_settled)) c in
      let not_then : not (is_settled d (moment kept marks due) x) ≡ true = (filter_members (λ x. not (is_settled d (moment kept marks due) x)) kept x there).1 in
      false≢true (sym (ap not settled) ∙ not_then)

  -- from each watermark at which none is settled to each one behind that at which one is
  pub one_less_across : (kept : List Kept) (marks : List ℕ) (water old due new next : ℕ) (s : Stored) (parts : List P) (x : Kept) → Fits stands d kept marks water next s parts → Contains (tuples_of s) x
      → NoneSettled d (moment kept marks old) s → due ≤ new → is_settled d (moment kept marks due) x ≡ true → unsettled d (moment kept marks new) ≢ unsettled d (moment kept marks old)
  one_less_across kept marks water old due new next s parts x f c open_ late settled = λ same.
      let m : Moment = moment kept marks due in
      let h : IsHeld d (moment kept marks water) f.known.without s = f.known.held in
      let has : Contains kept x = of_rest d (moment kept marks water) f.known.without h.may_leave x (subst (λ l. Contains l x) h.tuples c) in
      let still : is_settled d (moment kept marks new) x ≡ true = move_keeps_settled d m new x h.may_leave.kinds h.may_leave.kept late has settled in
      let is_open : is_settled d (moment kept marks old) x ≡ false = All-contains (λ y. is_settled d (moment kept marks old) y ≡ false) (tuples_of s) x open_ c in
      let there : Contains (unsettled d (moment kept marks old)) x = filter_has (λ y. not (is_settled d (moment kept marks old) y)) kept x has (ap not is_open) in
      let not_then : not (is_settled d (moment kept marks new) x) ≡ true = (filter_members (λ y. not (is_settled d (moment kept marks new) y)) kept x (subst (λ l. Contains l x) (sym same) there)).1 in
      false≢true (sym (ap not still) ∙ not_then)

-- a watermark lies up to the final one
pub at_most_final : (water : ℕ) → IsWater water → water ≤ FINAL
at_most_final water (inl within) = omega (arith, within)
at_most_final water (inr final) = omega (arith, final)
