-- What becomes of an instance, by what is found in its place.
use Rattle.std.proofs.Common.{◌≡◌, ◌∙◌, ℕ, true, false, cond, List, [], ◌∷◌, ap, sym, None, Some}
use Rattle.std.specs.List.{find}
use Rattle.std.specs.Option.{option_to_list}
use Rattle.stream_base.specs.declared.change.Change.TheVariants.{Gone, New, Again}
use Rattle.stream_base.specs.declared.def.Def.{Def}
use Rattle.stream_base.specs.declared.kept.Kept.{Kept}
use Rattle.stream_base.specs.Model.Changes.{Moment, are_same_tuples, emitted, former_of, row_of, standing_at}
use Rattle.stream_base.specs.Model.Windows.{Instance}
use Rattle.plain_windows.specs.declared.extent.Extent.{Extent}
use Rattle.plain_windows.specs.Changing.{come_of, gone_of, is_over}
use Rattle.plain_windows.specs.Extents.{instance_in}
use Rattle.plain_windows.proofs.Looking.{any_where_found, none_where_not_found}

module _ (key : List ℕ) (m : Moment) (window : ℕ) (def : Def) (kept : List Kept) (e : Extent) where
  abbrev this : Instance
  this = instance_in kept e

  -- it still stands
  pub stays : (j : Instance) → Some j ≡ find (is_over e) (standing_at def m) → gone_of key m (window, def) this ≡ []
  stays j f = ap (λ b. option_to_list (cond b None (Some (Gone (row_of window key def.func this))))) (any_where_found (is_over e) (standing_at def m) j (sym f))

  -- it stands no longer
  pub goes : None ≡ find (is_over e) (standing_at def m) → gone_of key m (window, def) this ≡ Gone (row_of window key def.func this) ∷ []
  goes f = ap (λ b. option_to_list (cond b None (Some (Gone (row_of window key def.func this))))) (none_where_not_found (is_over e) (standing_at def m) (sym f))

  -- it is new
  pub comes : None ≡ find (is_over e) (standing_at def m) → come_of key m (window, def) this ≡ New (row_of window key def.func this) ∷ []
  comes f = ap (λ o. option_to_list (emitted window key def.func this o)) (sym f)

  -- it stood, and selected the same tuples
  pub keeps : (j : Instance) → Some j ≡ find (is_over e) (standing_at def m) → are_same_tuples j.chosen this.chosen ≡ true → come_of key m (window, def) this ≡ []
  keeps j f same =
      ap (λ o. option_to_list (emitted window key def.func this o)) (sym f)
      ∙ ap (λ b. option_to_list (cond b None (Some (Again (row_of window key def.func this) (former_of def.func j))))) same

  -- it stood, and selected others
  pub comes_again : (j : Instance) → Some j ≡ find (is_over e) (standing_at def m) → are_same_tuples j.chosen this.chosen ≡ false → come_of key m (window, def) this ≡ Again (row_of window key def.func this) (former_of def.func j) ∷ []
  comes_again j f differ =
      ap (λ o. option_to_list (emitted window key def.func this o)) (sym f)
      ∙ ap (λ b. option_to_list (cond b None (Some (Again (row_of window key def.func this) (former_of def.func j))))) differ
