-- Sources that were read whole gave all bytes that they tell.
use Rattle.std.proofs.Common.{◌≡◌, ◌∙◌, ◌<◌, ◌+◌, ◌++◌, ℕ, suc, List, [], ◌∷◌, length, get_or, Option, Some, ap, sym, subst, refl, arith, append_assoc, append-nil, length-append}
use Rattle.std.specs.Prelude.{IfSome}
use Rattle.std.proofs.lemmas.List.{get_or-append-add}
use Rattle.outside.specs.Outside.{Came, KeepsWord, back}
use Rattle.outside.specs.Whole.{all_read}
use Rattle.scotty_run.specs.Answer.{IsReportOfFiles}
use Rattle.scotty_run.specs.InMemory.{AllTell, IsReportOfTold, Tells}
use Rattle.run_inputs.specs.Outside.{AreOver, IsOver, Opens, Telling}
use Rattle.command_words.specs.Words.{Run}

-- what was read up to its end is what is told
word_is_all : (place : ℕ) (given bytes : List ℕ) → KeepsWord (all_read place given) bytes → bytes ≡ given
word_is_all place given bytes h = h.parts ∙ ap (λ (l : List ℕ). given ++ l) (h.all refl) ∙ append-nil given

told_is : (o : Option (List ℕ)) (place : ℕ) (given bytes : List ℕ) → o ≡ Some bytes → IfSome o (KeepsWord (all_read place given)) → bytes ≡ given
told_is o place given bytes is h = word_is_all place given bytes (subst (λ (x : Option (List ℕ)). IfSome x (KeepsWord (all_read place given))) is h)

module _ (told : Telling) (run : Run) (opens : Opens) (asked : opens.after ≡ (opens.before ++ run.defs ∷ []) ++ run.sources) (tell : AllTell told (run.defs ∷ run.sources)) (over : AreOver told opens) where
  names : opens.after ≡ opens.before ++ run.defs ∷ run.sources
  names = asked ∙ append_assoc opens.before (run.defs ∷ []) run.sources

  size : length opens.after ≡ length opens.before + suc (length run.sources)
  size = ap length names ∙ length-append opens.before (run.defs ∷ run.sources)

  -- the open at a place among those of the run
  pub tells_at : (i place : ℕ) (given : List ℕ) (P : List ℕ → Type 0) → i < suc (length run.sources) → length opens.before + i ≡ place → opens.came place ≡ back (all_read place given) → P given → Tells told (get_or (run.defs ∷ run.sources) i []) P
  tells_at i place given P l at came h =
      let name : get_or opens.after place [] ≡ get_or (run.defs ∷ run.sources) i [] = ap (λ (k : ℕ). get_or opens.after k []) (sym at) ∙ ap (λ (a : List (List ℕ)). get_or a (length opens.before + i) []) names ∙ get_or-append-add opens.before (run.defs ∷ run.sources) i [] in
      let kept = subst (λ (c : Came). IsOver (told (get_or opens.after place [])) c) came (over place (omega (arith, at)) (omega (arith, at, l, size))) in
      let t = tell i l in
      (t.0, t.1, subst P (sym (told_is (told (get_or (run.defs ∷ run.sources) i [])) place given t.0 t.1 (subst (λ (n : List ℕ). IfSome (told n) (KeepsWord (all_read place given))) name kept))) h)

pub of_told : (told : Telling) (run : Run) (opens : Opens) (text : List ℕ) → AllTell told (run.defs ∷ run.sources) → AreOver told opens → IsReportOfFiles run opens text → IsReportOfTold told run text
of_told told run opens text tell over files = record {
  d = files.d;
  definitions =
      let own = files.definitions in
      tells_at told run opens (files.sources).asked tell over 0 (length opens.before + 0) own.bytes _ (omega arith) refl own.whole own.spelled;
  all = files.all;
  many = (files.sources).many;
  sources = λ i l.
      let own = (files.sources).each i l in
      let at : length opens.before + suc i ≡ length (opens.before ++ run.defs ∷ []) + i = let n = length-append opens.before (run.defs ∷ []) in omega (arith, n) in
      tells_at told run opens (files.sources).asked tell over (suc i) (length (opens.before ++ run.defs ∷ []) + i) own.bytes _ (omega (arith, l)) at own.whole own.spelled;
  report = files.written;
}
