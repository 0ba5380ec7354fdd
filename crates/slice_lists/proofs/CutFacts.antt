-- Cuts by definitions and by marks.
use Rattle.std.proofs.Common.{◌≡◌, ◌∙◌, ℕ, Bool, true, false, List, [], refl}
use Rattle.std.specs.Prelude.{◌||◌, ◌&&◌, nat_lt, nat_le}
use Rattle.std.specs.List.{list_any}
use Rattle.stream_base.specs.declared.def.Def.{Def}
use Rattle.stream_base.specs.Model.Cuts.{has_cut}
use Rattle.stream_base.specs.Kinds.{cuts_between}

pub cut_by_mark : (windows : List Def) (marks : List ℕ) (low high : ℕ) (w m : Bool) → w ≡ has_cut windows [] low high → m ≡ list_any (λ k. nat_lt low k && nat_le k high) marks → (w || m) ≡ has_cut windows marks low high
cut_by_mark windows marks low high w m e f = (λ i. (e ∙ or_false (list_any (λ (d : Def). cuts_between d.kind low high) windows)) i || f i)
  where
    or_false : (b : Bool) → (b || false) ≡ b
    or_false true = refl
    or_false false = refl
