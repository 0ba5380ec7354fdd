-- What stands depends on the times of tuples alone, and how many changes a tuple causes neither on its value nor on its position.
use Rattle.std.proofs.Common.{◌≡◌, ◌∙◌, ℕ, ◌-◌, Bool, true, false, cond, eqb, List, [], ◌∷◌, length, map, ap, refl, arith, Option, None, Some}
use Rattle.std.specs.Prelude.{◌&&◌, ◌||◌}
use Rattle.std.specs.List.{Contains, cons_option, filter, filter_map, find, list_any}
use Rattle.stream_base.specs.declared.change.Change.{Change}
use Rattle.stream_base.specs.declared.change.Change.TheVariants.{Again, Gone}
use Rattle.stream_base.specs.declared.func.Func.{Func}
use Rattle.stream_base.specs.declared.kept.Kept.{Kept}
use Rattle.stream_base.specs.declared.kind.Kind.{Kind}
use Rattle.stream_base.specs.Model.Changes.{are_same_tuples, emission, emitted, former_of, is_same, retraction, row_of}
use Rattle.stream_base.specs.Model.Windows.{Instance, instances_of, is_complete, standing_of}
use Rattle.stream_base.proofs.Members.{filter_map_of}
use Rattle.stream_base.proofs.Rising.{Contains-head, Contains-tail}
use Rattle.window_laws.specs.Instances.{KeepsTimes, with_each}
use Rattle.plain_windows.proofs.Walks.{found}
use Rattle.window_laws.proofs.KindFacts.{instances_each}

module _ (r : Kept → Kept) (times : KeepsTimes r) where
  pub standing_mapped : (kind : Kind) (kept : List Kept) (marks : List ℕ) (water : ℕ) → standing_of kind (map r kept) marks water ≡ map (with_each r) (standing_of kind kept marks water)
  standing_mapped kind kept marks water =
      ap (filter (is_complete water)) (instances_each r kind kept marks times) ∙ filter_map_of (is_complete water) (with_each r) (instances_of kind kept marks)

  -- what stood is retracted alike
  any_mapped : (i : Instance) (is : List Instance) → list_any (is_same i) (map (with_each r) is) ≡ list_any (is_same i) is
  any_mapped i [] = refl
  any_mapped i (j ∷ js) = ap (λ b. is_same i j || b) (any_mapped i js)

  pub gone_mapped : (window : ℕ) (key : List ℕ) (func : Func) (now before : List Instance) → filter_map (retraction window key func (map (with_each r) now)) before ≡ filter_map (retraction window key func now) before
  gone_mapped window key func now [] = refl
  gone_mapped window key func now (i ∷ is) =
      λ k. cons_option (cond (any_mapped i now k) None (Some (Gone (row_of window key func i)))) (gone_mapped window key func now is k)

  -- ---- emissions are as many, where no earlier selection tells the tuples apart

  same_mapped : (before now : List Kept) → ((z : Kept) → Contains before z → (y : Kept) → eqb z.position (r y).position ≡ eqb z.position y.position) → are_same_tuples before (map r now) ≡ are_same_tuples before now
  same_mapped [] [] h = refl
  same_mapped [] (y ∷ ys) h = refl
  same_mapped (z ∷ zs) [] h = refl
  same_mapped (z ∷ zs) (y ∷ ys) h = λ i. h z (Contains-head z zs) y i && same_mapped zs ys (λ w c. h w (Contains-tail z zs w c)) i

  one_mapped : (window : ℕ) (key : List ℕ) (func : Func) (i : Instance) (o : Option Instance) (rest others : List Change)
      → ((old : Instance) → o ≡ Some old → are_same_tuples old.chosen (map r i.chosen) ≡ are_same_tuples old.chosen i.chosen)
      → length rest ≡ length others → length (cons_option (emitted window key func (with_each r i) o) rest) ≡ length (cons_option (emitted window key func i o) others)
  one_mapped window key func i None rest others h e = omega arith
  one_mapped window key func i (Some old) rest others h e =
      ap (λ b. length (cons_option (cond b None (Some (Again (row_of window key func (with_each r i)) (former_of func old)))) rest)) (h old refl)
      ∙ by (are_same_tuples old.chosen i.chosen)
    where
      by : (b : Bool) → length (cons_option (cond b None (Some (Again (row_of window key func (with_each r i)) (former_of func old)))) rest) ≡ length (cons_option (cond b None (Some (Again (row_of window key func i) (former_of func old)))) others)
      by true = e
      by false = omega arith

  pub come_mapped : (window : ℕ) (key : List ℕ) (func : Func) (before now : List Instance)
      → ((old : Instance) → Contains before old → (z : Kept) → Contains old.chosen z → (y : Kept) → eqb z.position (r y).position ≡ eqb z.position y.position)
      → length (filter_map (emission window key func before) (map (with_each r) now)) ≡ length (filter_map (emission window key func before) now)
  come_mapped window key func before [] h = refl
  come_mapped window key func before (i ∷ is) h =
      one_mapped window key func i (find (is_same i) before) (filter_map (emission window key func before) (map (with_each r) is)) (filter_map (emission window key func before) is)
      (λ old e. same_mapped old.chosen i.chosen (h old (found (is_same i) before old e).0))
      (come_mapped window key func before is h)
