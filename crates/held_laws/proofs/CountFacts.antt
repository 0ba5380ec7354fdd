-- How many slices of unsettled tuples there are.
use Rattle.std.proofs.Common.{◌≡◌, ◌∙◌, ℕ, ◌≤◌, false, not, [], drop, ap, sym, refl, inl, inr}
use Rattle.std.specs.Prelude.{nat_le}
use Rattle.std.specs.List.{Contains, filter}
use Rattle.std.proofs.lemmas.Bool.{cases_lt, le-leb, lt-leb}
use Rattle.stream_base.specs.declared.kept.Kept.{Kept}
use Rattle.stream_base.specs.Limits.{Definitions}
use Rattle.stream_base.specs.Model.Changes.{Moment}
use Rattle.stream_base.specs.Model.Slices.{is_settled, runs_of, unsettled}
use Rattle.stream_base.specs.Model.Windows.{first_time}
use Rattle.stream_base.proofs.Distinct.{All_from_members}
use Rattle.stream_base.proofs.Members.{filter_same}
use Rattle.window_laws.specs.After.{at_water}
use Rattle.slice_lists.specs.Runs.{IsAligned}
use Rattle.window_laws.specs.Settled.{without_first}
use Rattle.stream_base.proofs.Filters.{filter_none}
use Rattle.stream_base.specs.Places.{IsPlaceOf}
use Rattle.slice_lists.specs.Touched.{slices_from}
use Rattle.slice_lists.specs.Slices.{joined}
use Rattle.agg_store.specs.Stored.{IsStore, Stored}
use Rattle.slice_lists.proofs.LeaveFacts.{from_place, left_sliced, tuples_left}
use Rattle.key_parts.specs.Held.{IsHeld}
use Rattle.key_parts.specs.Moves.{all_count_events}
use Rattle.held_laws.specs.Settling.{IsSettledUpTo}
use Rattle.held_laws.proofs.AlikeFacts.{unsettled_left}
use Rattle.held_laws.proofs.HoldFacts.{all_settled, held_after_move}
use Rattle.held_laws.proofs.PurgeFacts.{parts_where_settled}
use Rattle.held_laws.proofs.SliceFacts.{place_among, slices_of_key}

module _ (d : Definitions) (m : Moment) (n time : ℕ) (s : Stored) (h : IsHeld d m n s) (o : IsStore s) (u : IsSettledUpTo d (without_first n m) time) where
  aligned : IsAligned s.slices time
  aligned = parts_where_settled d m n time s h o u

  module _ (count : ℕ) (place : IsPlaceOf first_time s.slices time count) where
    unsettled_are : unsettled d m ≡ joined (drop count s.slices)
    unsettled_are =
        unsettled_left d m n h.may_leave
        ∙ filter_same (λ x. not (is_settled d (without_first n m) x)) (λ (x : Kept). nat_le time x.time) (drop n m.kept) same
        ∙ ap (filter (λ (x : Kept). nat_le time x.time)) (sym h.tuples)
        ∙ tuples_left s.slices time count place (o.slices).ordered aligned
      where
        same : (x : Kept) → Contains (drop n m.kept) x → not (is_settled d (without_first n m) x) ≡ nat_le time x.time
        same x c = elim (cases_lt x.time time) [
          | inl l ↦ ap not (u.before x c l) ∙ sym (lt-leb time x.time l)
          | inr l ↦ ap not (u.behind x c l) ∙ sym (le-leb time x.time l)
        ]

    pub slices_are : runs_of d.windows m.marks (unsettled d m) ≡ slices_from time s.slices
    slices_are =
        ap (runs_of d.windows m.marks) unsettled_are
        ∙ sym (left_sliced d.windows m.marks m.marks s.slices time count place (o.slices).ordered aligned (λ a b l. refl) (slices_of_key d m n s h o))
        ∙ sym (from_place s.slices time count place)

pub unsettled_slices : (d : Definitions) (m : Moment) (n water time : ℕ) (s : Stored) → IsHeld d m n s → IsStore s → m.water ≤ water → IsSettledUpTo d (at_water (without_first n m) water) time → runs_of d.windows m.marks (unsettled d (at_water m water)) ≡ slices_from time s.slices
unsettled_slices d m n water time s h o l u = let p = place_among time s.slices (o.slices).ordered in slices_are d (at_water m water) n time s (held_after_move d m n s water h l) o u p.0 p.1

none_unsettled : (d : Definitions) (m : Moment) → all_count_events d → unsettled d m ≡ []
none_unsettled d m e = filter_none (λ x. not (is_settled d m x)) m.kept (All_from_members (λ x. not (is_settled d m x) ≡ false) m.kept (λ x c. ap not (all_settled d m x e)))

pub no_slices : (d : Definitions) (m : Moment) → all_count_events d → runs_of d.windows m.marks (unsettled d m) ≡ []
no_slices d m e = ap (runs_of d.windows m.marks) (none_unsettled d m e)

-- from the time on up to which tuples are settled the store holds the unsettled ones
pub unsettled_from : (d : Definitions) (m : Moment) (n time : ℕ) (s : Stored) → IsHeld d m n s → IsStore s → IsSettledUpTo d (without_first n m) time → unsettled d m ≡ joined (slices_from time s.slices)
unsettled_from d m n time s h o u =
    let p = place_among time s.slices (o.slices).ordered in
    unsettled_are d m n time s h o u p.0 p.1 ∙ ap joined (sym (from_place s.slices time p.0 p.1))
