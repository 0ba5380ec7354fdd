-- One read more.
use Rattle.std.proofs.Common.{◌≡◌, ◌∙◌, ◌≤◌, ◌-◌, List, [], ◌∷◌, ◌++◌, length, Option, Some, All, refl, subst, le_refl, le_trans, arith, zero-le}
use Rattle.std.proofs.lemmas.List.Elements.{All-contains, All-get_or, All-nil, All-push}
use Rattle.stream_base.proofs.Distinct.{All_from_members}
use Rattle.std.proofs.lemmas.List.Sorted.{IsNonDecreasingBy-push, IsNonDecreasingBy-short}
use Rattle.live_board.specs.declared.board.Board.{Board}
use Rattle.live_board.specs.declared.course.Course.{Course}
use Rattle.live_board.specs.declared.tally.Tally.{Tally}
use Rattle.live_board.specs.Rule.{HasRead, IsLater, IsSeen, IsTallyIn}

pub read_more : (c : Course) (before behind : Option Board) (reads : List Tally) (x : Board) → HasRead c before reads → IsSeen before x x behind → HasRead c behind (reads ++ x.tally ∷ [])
read_more c before behind reads x h s =
    let l : IsLater h.board x = s.later h.board h.seen_is in
    let few : All (λ t. t.entries ≤ (x.tally).entries) reads = All_from_members (λ t. t.entries ≤ (x.tally).entries) reads (λ t c. le_trans (All-contains (λ t. t.entries ≤ ((h.board).tally).entries) reads t h.reads_are.few c) l.no_less) in
    record {
      board = x;
      seen_is = s.seen;
      course = l.same ∙ h.course;
      reads_are = record {
        each = All-push (λ t. IsTallyIn c t) reads x.tally h.reads_are.each (subst (λ k. IsTallyIn k x.tally) (l.same ∙ h.course) s.tally);
        few = All-push (λ t. t.entries ≤ (x.tally).entries) reads x.tally few (le_refl _);
        rise = IsNonDecreasingBy-push (λ t. t.entries) reads x.tally h.reads_are.rise (λ d some. All-get_or (λ t. t.entries ≤ (x.tally).entries) reads (length reads - 1) d (omega (arith, some)) few);
      };
    }

-- a reader that was told of a board has read nothing yet
pub nothing_read : (b : Board) (seen : Option Board) → seen ≡ Some b → HasRead b.course seen []
nothing_read b seen is = record {
  board = b;
  seen_is = is;
  course = refl;
  reads_are = record {
    each = All-nil (λ t. IsTallyIn b.course t);
    few = All-nil (λ t. t.entries ≤ (b.tally).entries);
    rise = IsNonDecreasingBy-short (λ t. t.entries) [] zero-le;
  };
}
