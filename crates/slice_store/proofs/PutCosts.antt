-- What a tuple costs that enters one slice, by how many slices begin later.
use Rattle.std.proofs.Common.{◌≡◌, ◌∙◌, ℕ, ◌+◌, ◌-◌, ◌<◌, ◌≤◌, List, [], ◌∷◌, length, get_or, ap, sym, subst, arith, inl, inr, Bool}
use Rattle.std.specs.Prelude.{filter}
use Rattle.std.proofs.lemmas.List.{append-nil, length-drop}
use Rattle.stream_base.specs.declared.def.Def.{Def}
use Rattle.stream_base.specs.declared.kept.Kept.{Kept}
use Rattle.stream_base.specs.Model.Cuts.{has_cut}
use Rattle.stream_base.specs.Model.Windows.{first_time}
use Rattle.stream_base.specs.Places.{IsPlaceOf}
use Rattle.partials.specs.Apart.{SpendsNear}
use Rattle.slice_lists.specs.Sides.{IsLastEntered}
use Rattle.slice_lists.specs.Slices.{joined}
use Rattle.slice_lists.specs.Touched.{is_near, slices_from}
use Rattle.slice_lists.proofs.LeaveFacts.{from_place}
use Rattle.slice_lists.proofs.NearFacts.{IsEdit}
use Rattle.slice_lists.proofs.PutFacts.{near_length}
use Rattle.slice_lists.proofs.SliceFacts.{one_between}
use Rattle.slice_store.specs.Following.{refolded}
use Rattle.slice_store.proofs.CostFacts.{spends_more}

-- none of the slices up to the place is left out
not_before : (cut : ℕ → ℕ → Bool) (slices : List (List Kept)) (at time to : ℕ) → IsLastEntered cut slices at time to → at ≤ to
not_before cut slices at time to last = elim last [
  | inl h ↦ let e : to ≡ at + 1 = h.1 in omega arith
  | inr h ↦ let e : to ≡ at = h.1 in omega arith
]

module _ (Near : ℕ → ℕ → Type 0) (windows : List Def) (marks : List ℕ) (slices : List (List Kept)) (x : Kept) (at from to reach made makes : ℕ) (e : IsEdit windows marks slices from to x) (place : IsPlaceOf first_time slices (x.time + 1) at) (last : IsLastEntered (has_cut windows marks) slices at x.time to) where
  pub near_put : (to ≡ from + 1 → first_time (get_or slices from []) ≤ x.time → SpendsNear Near (length slices - to) reach (2 + refolded x.time (get_or slices from [])) made makes)
      → (run : List Kept) → filter (is_near (has_cut windows marks) x.time) slices ≡ run ∷ [] → first_time run ≤ x.time → SpendsNear Near (length (slices_from (x.time + 1) slices)) reach (2 + refolded x.time run) made makes
  near_put entered run is late =
      let one : to ≡ from + 1 = omega (arith, near_length windows marks slices x from to e, ap length is, e.order) in
      let within = e.within in
      let l : from < length slices = omega arith in
      let own : get_or slices from [] ≡ run = sym (one_between from to slices one l) ∙ ap joined (sym e.near ∙ is) ∙ append-nil run in
      let cost : SpendsNear Near (length slices - to) reach (2 + refolded x.time run) made makes = subst (λ r. SpendsNear Near (length slices - to) reach (2 + refolded x.time r) made makes) own (entered one (subst (λ r. first_time r ≤ x.time) (sym own) late)) in
      let later = ap length (from_place slices (x.time + 1) at place) in
      spends_more Near (length slices - to) (length (slices_from (x.time + 1) slices)) reach (2 + refolded x.time run) (2 + refolded x.time run) made made makes cost
      (omega (arith, later, length-drop at slices, not_before (has_cut windows marks) slices at x.time to last)) (omega arith)
