-- The last read, and what stands in place of reads that are lacking.
use Rattle.std.proofs.Common.{◌≡◌, ◌∙◌, ℕ, ◌-◌, ◌≤◌, List, [], ◌∷◌, ◌++◌, length, ap, sym, subst, arith, le_trans, get_or, Option}
use Rattle.std.specs.Prelude.{All, Vec, map}
use Rattle.std.specs.declared.alloc.Global.{Global}
use Rattle.std.proofs.Math.Seq.{get_or-append_seam}
use Rattle.std.proofs.lemmas.List.{length-append, map-append}
use Rattle.std.proofs.lemmas.List.Elements.{All-get_or, All-push}
use Rattle.std.proofs.lemmas.List.Sorted.{IsNonDecreasingBy-push}
use Rattle.std.proofs.lemmas.Option.{get_or_from_slice_get}
use Rattle.left_right.specs.declared.Absorb.{Ghosts}
use Rattle.left_right.specs.declared.writer.Writer.{Writer}
use Rattle.live_board.specs.Ending.{AreReadsIn, HasShownAll}
use Rattle.live_board.specs.Rule.{IsTallyIn, sources_of}
use Rattle.live_board.specs.Tallies.{turns}
use Rattle.live_board.specs.Watching.{AreReads}
use Rattle.live_board.specs.Writing.{IsAt}
use Rattle.live_board.specs.declared.board.Board.{Board}
use Rattle.live_board.specs.declared.course.Course.{Course}
use Rattle.live_board.specs.declared.tally.Tally.{Tally}

-- one read more, of all entries
pub reads_push : (c : Course) (reads : List Tally) (last : Tally) → AreReads c reads → IsTallyIn c last → length (turns (sources_of c)) ≤ last.entries → AreReads c (reads ++ last ∷ [])
reads_push c reads last h tally all = record {
  each = All-push (λ t. IsTallyIn c t) reads last h.each tally;
  rise = IsNonDecreasingBy-push (λ t. t.entries) reads last h.rise
      (λ d some. le_trans (All-get_or (λ t. IsTallyIn c t) reads (length reads - 1) d (omega (arith, some)) h.each).within all);
}

-- it is the last of them
pub reads_end : (c : Course) (many : ℕ) (reads : List Tally) (last : Tally) → AreReads c reads → length reads ≡ many → IsTallyIn c last → length (turns (sources_of c)) ≤ last.entries → AreReadsIn c many (reads ++ last ∷ [])
reads_end c many reads last h long tally all =
    let more : AreReads c (reads ++ last ∷ []) = reads_push c reads last h tally all in
    record {
      many = omega (arith, length-append reads (last ∷ []), long);
      each = more.each;
      rise = more.rise;
      last = λ t is.
          let same : last ≡ t = sym (get_or-append_seam reads last [] last) ∙ ap (λ n. get_or (reads ++ last ∷ []) n last) long ∙ get_or_from_slice_get (reads ++ last ∷ []) many t last is in
          omega (arith, ap (λ (u : Tally). u.entries) same, tally.within, all);
    }

-- the reads of one reader more
pub lists_push : (c : Course) (many : ℕ) (lists : List (Vec Tally Global)) (v : Vec Tally Global) → All (AreReadsIn c many) (map (λ w. w.items) lists) → AreReadsIn c many v.items
    → All (AreReadsIn c many) (map (λ w. w.items) (lists ++ v ∷ []))
lists_push c many lists v each one =
    subst (All (AreReadsIn c many)) (sym (map-append (λ (w : Vec Tally Global). w.items) lists (v ∷ []))) (All-push (AreReadsIn c many) (map (λ w. w.items) lists) v.items each one)

module _ {O P A S : Type 0} {g : Ghosts Board O S} where
  -- a writer that shows a board of all entries
  pub shows_all : (c : Course) (b : Board) (w : Writer Board O (Option Board) P A S g) → IsAt b w → b.course ≡ c → (b.tally).entries ≡ length (turns (sources_of c)) → HasShownAll c w
  shows_all c b w at course all = record {
    at = subst (λ x. IsAt x w) (sym at.shown) at;
    course = ap (λ (x : Board). x.course) at.shown ∙ course;
    all = ap (λ (x : Board). (x.tally).entries) at.shown ∙ all;
  }
