-- What holds of each number below another, and of that one too.
use Rattle.std.proofs.Common.{◌≡◌, ◌∙◌, ℕ, ◌+◌, ◌<◌, Bool, true, false, ltb, List, [], length, get_or, None, refl, subst, arith}
use Rattle.stream_base.specs.declared.entry.Entry.{Entry}
use Rattle.stream_base.specs.Model.Routes.{IsLawful}
use Rattle.stream_base.specs.Limits.{Definitions}
use Rattle.stream_base.specs.Model.Journals.{journals_of}
use Rattle.stream_base.specs.Model.Text.{Form, report_of}
use Rattle.report_check.specs.Findings.{AreJudged, IsRight, form_in, report_in}
use Rattle.std.proofs.lemmas.Bool.Decides.{nat_tests}

pub one_more : (P : ℕ → Type 0) (n : ℕ) → ((k : ℕ) → k < n → P k) → P n → (k : ℕ) → k < n + 1 → P k
one_more P n before at k h = by (ltb k n) refl
  where
    by : (b : Bool) → ltb k n ≡ b → P k
    by true t = before k (grind (arith, nat_tests))
    by false t = let same : n ≡ k = grind (arith, nat_tests) in subst P same at

-- journals that are all right are lawful
pub lawful_where_right : (shards : ℕ) (sources journals : List (List Entry)) → length journals ≡ shards → AreJudged (length journals) sources journals None → IsLawful shards sources journals
lawful_where_right shards sources journals count right = record {
  count = count;
  known = λ k i e below inside. (right' k below).no_further i e inside;
  held = λ k s below known. (right' k below).routed s known;
}
  where
    right' : (k : ℕ) → k < length journals → IsRight shards sources k (get_or journals k [])
    right' k below = subst (λ n. IsRight n sources k (get_or journals k [])) count (right k below)

-- a text that is told in the form of another, of the journals in it, is that one's report
pub told_report : (d : Definitions) (n : ℕ) (sources : List (List Entry)) (text told : List ℕ) (form : Form) (journals : List (List Entry)) → n ≡ length sources → form ≡ form_in text → journals ≡ journals_of text
    → told ≡ report_of form d n journals → told ≡ report_in d (length sources) text
unfolding report_in
told_report d n sources text told form journals count same are is = is ∙ (λ i. report_of (same i) d (count i) (are i))
