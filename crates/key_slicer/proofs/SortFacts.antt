-- Changes window by window, and in the order of an engine's.
use Rattle.std.proofs.Common.{◌≡◌, ◌∙◌, ℕ, Bool, true, false, not, List, [], ◌∷◌, ◌++◌, Option, None, Some, ap, sym, refl, append-nil, cond, length, length-append}
use Rattle.std.specs.Prelude.{filter}
use Rattle.std.specs.List.{cons_option, enumerate_from, filter_map, find, flat_map, list_any}
use Rattle.std.proofs.lemmas.List.Elements.{filter-append}
use Rattle.std.proofs.lemmas.List.Filters.{length-filter_both}
use Rattle.stream_base.specs.declared.change.Change.{Change}
use Rattle.stream_base.specs.declared.change.Change.TheVariants.{Gone, New, Again}
use Rattle.stream_base.specs.declared.def.Def.{Def}
use Rattle.stream_base.specs.declared.func.Func.{Func}
use Rattle.stream_base.specs.Model.Changes.{Moment, are_same_tuples, changes_between, emission, emissions, emitted, former_of, is_same, retraction, retractions, row_of, standing_at}
use Rattle.stream_base.specs.Model.Windows.{Instance}
use Rattle.stream_base.proofs.ChangeFacts.{flat_map_same}
use Rattle.key_slicer.specs.Parts.{turns}
use Rattle.key_slicer.specs.Sorted.{is_gone}

-- ---- filters of what elements give
module _ {X : Type 0} (p : Change → Bool) (f : X → Option Change) where
  kept_one : (o : Option Change) → ((c : Change) → o ≡ Some c → p c ≡ true) → (rest kept : List Change) → filter p rest ≡ kept → filter p (cons_option o rest) ≡ cons_option o kept
  kept_one None h rest kept e = e
  kept_one (Some c) h rest kept e = ap (λ b. cond b (c ∷ filter p rest) (filter p rest)) (h c refl) ∙ ap (λ cs. c ∷ cs) e

  left_one : (o : Option Change) → ((c : Change) → o ≡ Some c → p c ≡ false) → (rest : List Change) → filter p rest ≡ [] → filter p (cons_option o rest) ≡ []
  left_one None h rest e = e
  left_one (Some c) h rest e = ap (λ b. cond b (c ∷ filter p rest) (filter p rest)) (h c refl) ∙ e

  -- all that the elements give passes
  kept_all : ((x : X) (c : Change) → f x ≡ Some c → p c ≡ true) → (xs : List X) → filter p (filter_map f xs) ≡ filter_map f xs
  kept_all h [] = refl
  kept_all h (x ∷ xs) = kept_one (f x) (h x) (filter_map f xs) (filter_map f xs) (kept_all h xs)

  -- nothing passes
  left_all : ((x : X) (c : Change) → f x ≡ Some c → p c ≡ false) → (xs : List X) → filter p (filter_map f xs) ≡ []
  left_all h [] = refl
  left_all h (x ∷ xs) = left_one (f x) (h x) (filter_map f xs) (left_all h xs)

picked : (b : Bool) (g c : Change) → (if_none : Bool) → is_gone g ≡ if_none → cond b None (Some g) ≡ Some c → is_gone c ≡ if_none
picked true g c v e h = cc
picked false g c v e h = let same : g ≡ c = cc in ap is_gone (sym same) ∙ e

retraction_gone : (window : ℕ) (key : List ℕ) (func : Func) (now : List Instance) (i : Instance) (c : Change) → retraction window key func now i ≡ Some c → is_gone c ≡ true
retraction_gone window key func now i c h = picked (list_any (is_same i) now) (Gone (row_of window key func i)) c true refl h

emission_stays : (window : ℕ) (key : List ℕ) (func : Func) (before : List Instance) (i : Instance) (c : Change) → emission window key func before i ≡ Some c → is_gone c ≡ false
emission_stays window key func before i c h = by (find (is_same i) before) h
  where
    by : (o : Option Instance) → emitted window key func i o ≡ Some c → is_gone c ≡ false
    by None e = let same : New (row_of window key func i) ≡ c = cc in ap is_gone (sym same)
    by (Some old) e = picked (are_same_tuples old.chosen i.chosen) (Again (row_of window key func i) (former_of func old)) c false refl e

-- ---- one window
abbrev others : Change → Bool
others c = not (is_gone c)

module _ (key : List ℕ) (old new : Moment) where
  gone_of_turns : (w : ℕ × Def) → filter is_gone (turns key old new w) ≡ retractions key old new w
  gone_of_turns w =
      filter-append is_gone (retractions key old new w) (emissions key old new w)
      ∙ (λ k. kept_all is_gone (retraction w.0 key (w.1).func (standing_at w.1 new)) (retraction_gone w.0 key (w.1).func (standing_at w.1 new)) (standing_at w.1 old) k
      ++ left_all is_gone (emission w.0 key (w.1).func (standing_at w.1 old)) (emission_stays w.0 key (w.1).func (standing_at w.1 old)) (standing_at w.1 new) k)
      ∙ append-nil (retractions key old new w)

  others_of_turns : (w : ℕ × Def) → filter others (turns key old new w) ≡ emissions key old new w
  others_of_turns w =
      filter-append others (retractions key old new w) (emissions key old new w)
      ∙ (λ k. left_all others (retraction w.0 key (w.1).func (standing_at w.1 new)) (λ i c h. ap not (retraction_gone w.0 key (w.1).func (standing_at w.1 new) i c h)) (standing_at w.1 old) k
      ++ kept_all others (emission w.0 key (w.1).func (standing_at w.1 old)) (λ i c h. ap not (emission_stays w.0 key (w.1).func (standing_at w.1 old) i c h)) (standing_at w.1 new) k)

  -- ---- all windows
  filter-flat_map : {X : Type 0} (p : Change → Bool) (f : X → List Change) (xs : List X) → filter p (flat_map f xs) ≡ flat_map (λ x. filter p (f x)) xs
  filter-flat_map p f [] = refl
  filter-flat_map p f (x ∷ xs) = filter-append p (f x) (flat_map f xs) ∙ ap (λ ys. filter p (f x) ++ ys) (filter-flat_map p f xs)

  -- the retractions of all windows and then all others are the changes
  pub sorted_turns : (windows : List Def)
      → filter is_gone (flat_map (turns key old new) (enumerate_from 0 windows)) ++ filter (λ c. not (is_gone c)) (flat_map (turns key old new) (enumerate_from 0 windows)) ≡ changes_between windows key old new
  unfolding changes_between
  sorted_turns windows =
      let numbered = enumerate_from 0 windows in
      let gone : filter is_gone (flat_map (turns key old new) numbered) ≡ flat_map (retractions key old new) numbered = filter-flat_map is_gone (turns key old new) numbered ∙ flat_map_same (λ w. filter is_gone (turns key old new w)) (retractions key old new) numbered (λ w c. gone_of_turns w) in
      let come : filter others (flat_map (turns key old new) numbered) ≡ flat_map (emissions key old new) numbered = filter-flat_map others (turns key old new) numbered ∙ flat_map_same (λ w. filter others (turns key old new w)) (emissions key old new) numbered (λ w c. others_of_turns w) in
      λ i. gone i ++ come i

  -- they are as many
  pub as_many_turns : (windows : List Def) → length (changes_between windows key old new) ≡ length (flat_map (turns key old new) (enumerate_from 0 windows))
  as_many_turns windows =
      let all = flat_map (turns key old new) (enumerate_from 0 windows) in
      ap length (sym (sorted_turns windows))
      ∙ length-append (filter is_gone all) (filter others all)
      ∙ length-filter_both is_gone others (λ c. refl) all

  -- appended so, they are the changes
  pub appended_sorted : (windows : List Def) (empty scratch shown out later : List Change) → empty ≡ [] → scratch ≡ empty ++ flat_map (turns key old new) (enumerate_from 0 windows) → shown ≡ scratch
      → later ≡ out ++ (filter is_gone shown ++ filter (λ c. not (is_gone c)) shown) → later ≡ out ++ changes_between windows key old new
  appended_sorted windows empty scratch shown out later none made same appended =
      let all : shown ≡ flat_map (turns key old new) (enumerate_from 0 windows) = same ∙ made ∙ ap (λ es. es ++ flat_map (turns key old new) (enumerate_from 0 windows)) none in
      appended ∙ (λ i. out ++ (filter is_gone (all i) ++ filter (λ c. not (is_gone c)) (all i))) ∙ ap (λ cs. out ++ cs) (sorted_turns windows)
