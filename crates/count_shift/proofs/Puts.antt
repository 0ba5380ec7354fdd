-- A put and a move of the watermark, from what was searched for and told.
use Rattle.std.proofs.Common.{◌≡◌, ◌∙◌, ℕ, ◌+◌, ◌-◌, ◌/◌, ◌<◌, ◌≤◌, List, ◌++◌, map, ap, sym, subst, arith, append_assoc}
use Rattle.std.specs.Prelude.{Some, insert, length, min, slice_get}
use Rattle.std.proofs.lemmas.List.Edits.{length-insert, get_or-insert_at}
use Rattle.std.proofs.lemmas.Option.{slice_get-get_or}
use Rattle.std.specs.List.{remove, range_with_len}
use Rattle.stream_base.specs.declared.change.Change.{Change}
use Rattle.stream_base.specs.declared.def.Def.{Def}
use Rattle.stream_base.specs.declared.kept.Kept.{Kept}
use Rattle.stream_base.specs.Laws.{TimesDoNotFall, completions}
use Rattle.stream_base.specs.Model.Changes.{emissions}
use Rattle.stream_base.specs.Model.Journal.{put_in_order}
use Rattle.stream_base.specs.Model.Moments.{moment}
use Rattle.count_shift.specs.Counting.{IsEvents, IsNextPosition, again_behind, count_of, new_behind, put_changes, upper, upper_after}
use Rattle.count_shift.specs.Lane.{FollowsTuples, Laned}
use Rattle.count_shift.proofs.Behind.{move_told_behind, put_told_behind}
use Rattle.count_shift.proofs.Upper.{parts_at_upper, put_at_upper, put_taken_out, times_of_put, next_position_of_put}
use Rattle.count_shift.proofs.Shift.{count_is_within, put_numbers}

-- a tuple was put at its rank among those that a lane has, and how far the watermark had come was searched for before
pub record IsPutAt (def : Def) (lane : Laned) (items : List Kept) (x : Kept) (water count gone rank reached after : ℕ) : Type 0 where
  pub events : IsEvents def.kind
  pub ordered : TimesDoNotFall lane.kept
  pub count_is : count ≡ count_of def.kind
  pub gone_is : gone ≡ lane.gone
  pub rank_is : rank ≡ upper lane.kept x.time
  pub reached_is : reached ≡ upper lane.kept water
  pub after_is : after ≡ upper_after lane.kept x.time water
  pub put : items ≡ insert lane.kept rank x

module _ (window : ℕ) (def : Def) (key : List ℕ) (lane : Laned) (items : List Kept) (x : Kept) (water count gone rank reached after : ℕ) (f : IsPutAt def lane items x water count gone rank reached after) where
  pub items_are : items ≡ put_in_order lane.kept x
  items_are = f.put ∙ ap (λ r. insert lane.kept r x) f.rank_is ∙ sym (put_at_upper lane.kept x f.ordered)

  before_are : remove items rank ≡ lane.kept
  before_are = ap (λ l. remove l rank) f.put ∙ put_taken_out lane.kept rank x (omega (arith, f.rank_is, (parts_at_upper lane.kept x.time f.ordered).within))

  pub items_in_order : TimesDoNotFall items
  items_in_order = subst TimesDoNotFall (sym items_are) (times_of_put lane.kept x f.ordered)

  pub next_of_items : (next : ℕ) → IsNextPosition lane.kept x.position → x.position < next → IsNextPosition items next
  next_of_items next n l = subst (λ l. IsNextPosition l next) (sym items_are) (next_position_of_put lane.kept x next f.ordered n l)

  pub put_stands : (place : ℕ) → place ≡ rank → slice_get items place ≡ Some x
  put_stands place is =
      (λ j. slice_get (f.put j) (is j))
      ∙ slice_get-get_or (insert lane.kept rank x) rank x (omega (arith, length-insert lane.kept rank x within, within))
      ∙ ap Some (get_or-insert_at lane.kept rank x x within)
    where
      within : rank ≤ length lane.kept
      within = omega (arith, f.rank_is, (parts_at_upper lane.kept x.time f.ordered).within)

  pub put_told_by : (kept : List Kept) (marks : List ℕ) (out again all : List Change) → FollowsTuples (count_of def.kind) (min x.time water) kept lane → IsNextPosition kept x.position
      → again ≡ out ++ map (again_behind gone window key def.func count (remove items rank) items) (range_with_len (rank / count) (reached / count - rank / count))
      → all ≡ again ++ map (new_behind gone window key def.func count items) (range_with_len (reached / count) (after / count - reached / count))
      → all ≡ out ++ emissions key (moment kept marks water) (moment (put_in_order kept x) marks water) (window, def)
  put_told_by kept marks out again all follows n first then =
      then
      ∙ ap (λ l. l ++ map (new_behind gone window key def.func count items) (range_with_len (reached / count) (after / count - reached / count))) first
      ∙ append_assoc out (map (again_behind gone window key def.func count (remove items rank) items) (range_with_len (rank / count) (reached / count - rank / count))) (map (new_behind gone window key def.func count items) (range_with_len (reached / count) (after / count - reached / count)))
      ∙ (λ j. out ++ (map (again_behind (f.gone_is j) window key def.func (f.count_is j) (before_are j) (items_are j)) (range_with_len (f.rank_is j / f.count_is j) (f.reached_is j / f.count_is j - f.rank_is j / f.count_is j)) ++ map (new_behind (f.gone_is j) window key def.func (f.count_is j) (items_are j)) (range_with_len (f.reached_is j / f.count_is j) (f.after_is j / f.count_is j - f.reached_is j / f.count_is j))))
      ∙ ap (λ l. out ++ l) (put_told_behind window def key f.events (min x.time water) kept lane follows marks x water (omega arith) (omega arith) n)

  pub number_of_put : (reached / count - rank / count) + (after / count - reached / count) ≡ put_changes (count_of def.kind) lane.kept x.time water
  number_of_put =
      (λ j. (f.reached_is j / f.count_is j - f.rank_is j / f.count_is j) + (f.after_is j / f.count_is j - f.reached_is j / f.count_is j))
      ∙ put_numbers (count_of def.kind) lane.kept x.time water (count_is_within def.kind f.events).0 f.ordered

-- what is told of a move of the watermark
pub move_told : (window : ℕ) (def : Def) (key : List ℕ) (lane : Laned) (old new count gone stood stand : ℕ) → IsEvents def.kind → count ≡ count_of def.kind → gone ≡ lane.gone → stood ≡ upper lane.kept old → stand ≡ upper lane.kept new
    → (kept : List Kept) (marks : List ℕ) (out all : List Change) → FollowsTuples (count_of def.kind) (min old new) kept lane
    → all ≡ out ++ map (new_behind gone window key def.func count lane.kept) (range_with_len (stood / count) (stand / count - stood / count))
    → all ≡ out ++ completions key (moment kept marks old) new (window, def)
move_told window def key lane old new count gone stood stand e count_is gone_is stood_is stand_is kept marks out all follows told =
    told
    ∙ (λ j. out ++ map (new_behind (gone_is j) window key def.func (count_is j) lane.kept) (range_with_len (stood_is j / count_is j) (stand_is j / count_is j - stood_is j / count_is j)))
    ∙ ap (λ l. out ++ l) (move_told_behind window def key e (min old new) kept lane follows marks old new (omega arith) (omega arith))
