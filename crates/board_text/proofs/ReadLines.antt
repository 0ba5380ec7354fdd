-- The lines of reads, part by part.
use Rattle.std.proofs.Common.{◌≡◌, ◌+◌, ◌<◌, ◌++◌, ℕ, List, [], ◌∷◌, length, map, take, drop, get_or, sym, ap, ◌∙◌, append_assoc, refl}
use Rattle.std.specs.Prelude.{decimal}
use Rattle.std.proofs.lemmas.List.{at_drop_more}
use Rattle.stream_base.specs.Model.Text.{line_of}
use Rattle.live_board.specs.declared.tally.Tally.{Tally}
use Rattle.board_text.specs.Lines.{counts_text, read_front}
use Rattle.board_text.specs.Reads.{read_line, reader_lines, readers_lines}

-- the line of numbers behind a first field
counts-line : (first : List ℕ) (counts : List ℕ) → line_of (first ∷ map (λ n. decimal n) counts) ≡ first ++ (counts_text counts ++ 10 ∷ [])
counts-line first [] = refl
counts-line first (n ∷ counts) =
    ap (λ text. first ++ (32 ∷ text)) (counts-line (decimal n) counts ∙ sym (append_assoc (decimal n) (counts_text counts) (10 ∷ [])))

-- the line of a read is its front, and then its counts
pub read-line : (windows reader : ℕ) (t : Tally) → read_front reader t.entries ++ (counts_text (take windows t.counts) ++ 10 ∷ []) ≡ read_line windows reader t
read-line windows reader t =
    let counts = counts_text (take windows t.counts) ++ 10 ∷ [] in
    ap (λ text. 98 ∷ 32 ∷ text) (append_assoc (decimal reader) (32 ∷ decimal t.entries) counts
    ∙ ap (λ text. decimal reader ++ (32 ∷ text)) (sym (counts-line (decimal t.entries) (take windows t.counts))))

-- the lines of readers from a number on are those of the first of them, and then those of the others
pub readers-more : {X : Type 0} (items : X → List Tally) (windows : ℕ) (lists : List X) (k : ℕ) (list : X) (reads : List Tally) → k < length lists → list ≡ get_or lists k list → reads ≡ items list
    → readers_lines windows k (map items (drop k lists)) ≡ reader_lines windows k reads ++ readers_lines windows (k + 1) (map items (drop (k + 1) lists))
readers-more items windows lists k list reads within is own =
    at_drop_more (λ rest. readers_lines windows k (map items rest)) lists k list within
    ∙ ap (λ found. reader_lines windows k found ++ readers_lines windows (k + 1) (map items (drop (k + 1) lists))) (sym (own ∙ ap items is))
