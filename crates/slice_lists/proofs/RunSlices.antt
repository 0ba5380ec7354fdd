-- Slices under definitions and marks.
use Rattle.std.proofs.Common.{◌≡◌, ◌∙◌, ◌≤◌, ◌<◌, ℕ, Bool, true, false, List, [], ◌∷◌, ◌++◌, sym, refl}
use Rattle.std.proofs.lemmas.Bool.{false≢true}
use Rattle.stream_base.specs.declared.def.Def.{Def}
use Rattle.stream_base.specs.declared.kept.Kept.{Kept}
use Rattle.stream_base.specs.Model.Cuts.{has_cut}
use Rattle.stream_base.specs.Model.Journal.{put_in_order}
use Rattle.stream_base.specs.Model.Windows.{first_time, last_time}
use Rattle.slice_lists.specs.Runs.{ArePartFrom, AreRuns, IsPartFrom}
use Rattle.slice_lists.proofs.RunFacts.{cut_farther, cut_earlier}
use Rattle.slice_lists.proofs.RunEdits.{added, fronted, entered, extended, merged}

-- where there is no cut, there is none between times that lie between
uncut : (b c : Bool) → (b ≡ true → c ≡ true) → c ≡ false → b ≡ false
uncut true c f h = absurd (false≢true (sym h ∙ f refl))
uncut false c f h = refl

pub entered_slice : (windows : List Def) (marks : List ℕ) (before : List (List Kept)) (p : List Kept) (behind : List (List Kept)) (x : Kept) → AreRuns (has_cut windows marks) (before ++ p ∷ behind) → first_time p ≤ x.time → x.time < last_time p → AreRuns (has_cut windows marks) (before ++ put_in_order p x ∷ behind)
entered_slice windows marks =
    entered (λ a b. has_cut windows marks a b ≡ false) (λ a b. has_cut windows marks a b ≡ true)
    (λ a b c l r h. uncut (has_cut windows marks a b) (has_cut windows marks a c) (cut_farther a b c l r windows marks) h)
    (λ a b c l r h. uncut (has_cut windows marks b c) (has_cut windows marks a c) (cut_earlier a b c l r windows marks) h)

pub extended_slice : (cut : ℕ → ℕ → Bool) (before : List (List Kept)) (p : List Kept) (behind : List (List Kept)) (x : Kept) → AreRuns cut (before ++ p ∷ behind) → cut (last_time p) x.time ≡ false → IsPartFrom (λ a b. cut a b ≡ true) (x ∷ []) behind → AreRuns cut (before ++ (p ++ x ∷ []) ∷ behind)
extended_slice cut = extended (λ a b. cut a b ≡ false) (λ a b. cut a b ≡ true)

pub merged_slices : (cut : ℕ → ℕ → Bool) (before : List (List Kept)) (p q : List Kept) (behind : List (List Kept)) (x : Kept) → AreRuns cut (before ++ p ∷ q ∷ behind) → cut (last_time p) x.time ≡ false → cut x.time (first_time q) ≡ false → AreRuns cut (before ++ (p ++ x ∷ q) ∷ behind)
merged_slices cut = merged (λ a b. cut a b ≡ false) (λ a b. cut a b ≡ true)

pub slice_alone : (cut : ℕ → ℕ → Bool) (before behind : List (List Kept)) (x : Kept) → AreRuns cut (before ++ behind) → ArePartFrom (λ a b. cut a b ≡ true) before ((x ∷ []) ∷ []) → IsPartFrom (λ a b. cut a b ≡ true) (x ∷ []) behind → AreRuns cut (before ++ (x ∷ []) ∷ behind)
slice_alone cut = added (λ a b. cut a b ≡ false) (λ a b. cut a b ≡ true)

pub fronted_slice : (cut : ℕ → ℕ → Bool) (before : List (List Kept)) (q : List Kept) (behind : List (List Kept)) (x : Kept) → AreRuns cut (before ++ q ∷ behind) → ArePartFrom (λ a b. cut a b ≡ true) before ((x ∷ []) ∷ []) → cut x.time (first_time q) ≡ false → AreRuns cut (before ++ (x ∷ q) ∷ behind)
fronted_slice cut = fronted (λ a b. cut a b ≡ false) (λ a b. cut a b ≡ true)
