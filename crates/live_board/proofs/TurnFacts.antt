-- Which entry comes next in turn.
use Rattle.std.proofs.Common.{◌≡◌, false, ◌∙◌, ℕ, zero, suc, ◌+◌, ◌<◌, ◌≤◌, List, [], ◌∷◌, ◌++◌, length, take, drop, get_or, ap, sym, subst, arith, Option, None, Some, Result, Ok, Err, inl, inr}
use Rattle.std.specs.Prelude.{◌⊎◌, OnOk, Vec, slice_get}
use Rattle.std.specs.declared.alloc.Global.{Global}
use Rattle.shard_core.specs.Shard.{Sharded, sharded_with}
use Rattle.live_board.specs.Authoring.{CountsAll, HasNext, IsAuthor}
use Rattle.live_board.specs.Writing.{IsAt, board_of}
use Rattle.live_board.specs.Rule.{sources_of}
use Rattle.live_board.specs.declared.author.Author.{Author}
use Rattle.live_board.specs.declared.course.Course.{Course}
use Rattle.std.specs.List.{cons_option, flat_map, range_with_len}
use Rattle.std.proofs.lemmas.Grind.{flat_map-append}
use Rattle.std.proofs.lemmas.List.{append-nil, length-append, append_assoc, drop_more, get_or-map, length-map, take_more, take_all, take-append-drop}
use Rattle.std.proofs.lemmas.List.Elements.{filter_map-append}
use Rattle.stream_base.specs.declared.entry.Entry.{Entry}
use Rattle.live_board.specs.Tallies.{turn, turns, turns_in}
use Rattle.live_board.specs.Turning.{AreEntriesIn, IsPlaced, before_turn}
use Rattle.live_board.proofs.NextFacts.{goes_on}
use Rattle.stream_base.specs.Model.Watermark.{has_ended}

range_more : (a n : ℕ) → range_with_len a (suc n) ≡ range_with_len a n ++ (a + n) ∷ []
range_more a zero = let e : a ≡ a + 0 = omega arith in ap (λ k. k ∷ []) e
range_more a (suc n) =
    let e : (a + 1) + n ≡ a + suc n = omega arith in
    ap (λ l. a ∷ l) (range_more (a + 1) n ∙ ap (λ k. range_with_len (a + 1) n ++ k ∷ []) e)

before_more : (sources : List (List Entry)) (n : ℕ) → before_turn sources (suc n) ≡ before_turn sources n ++ turn sources n
before_more sources n =
    let e : 0 + n ≡ n = omega arith in
    ap (flat_map (turn sources)) (range_more 0 n ∙ ap (λ k. range_with_len 0 n ++ k ∷ []) e)
    ∙ flat_map-append (turn sources) (range_with_len 0 n) (n ∷ [])
    ∙ ap (λ l. before_turn sources n ++ l) (append-nil (turn sources n))

pub next_turn : (sources : List (List Entry)) (n : ℕ) → before_turn sources (n + 1) ≡ before_turn sources n ++ turn sources n
next_turn sources n = let e : n + 1 ≡ suc n = omega arith in ap (before_turn sources) e ∙ before_more sources n

-- what stands behind a turn
behind_turn : (sources : List (List Entry)) (n most : ℕ) → n < most → (rest : List Entry) × (before_turn sources most ≡ before_turn sources n ++ (turn sources n ++ rest))
behind_turn sources n zero h = absurd (omega (arith, h))
behind_turn sources n (suc m) h = by (split n m h) (behind_turn sources n m)
  where
    split : (a b : ℕ) → a < suc b → (a ≡ b) ⊎ (a < b)
    split a b l = grind (arith, l)

    by : (n ≡ m) ⊎ (n < m) → (n < m → (rest : List Entry) × (before_turn sources m ≡ before_turn sources n ++ (turn sources n ++ rest))) → (rest : List Entry) × (before_turn sources (suc m) ≡ before_turn sources n ++ (turn sources n ++ rest))
    by (inl e) further = ([], before_more sources m ∙ ap (λ k. before_turn sources k ++ turn sources k) (sym e) ∙ ap (λ l. before_turn sources n ++ l) (sym (append-nil (turn sources n))))
    by (inr l) further =
        let (rest, is) = further l in (
          rest ++ turn sources m,
          before_more sources m ∙ ap (λ l. l ++ turn sources m) is
              ∙ append_assoc (before_turn sources n) (turn sources n ++ rest) (turn sources m)
              ∙ ap (λ l. before_turn sources n ++ l) (append_assoc (turn sources n) rest (turn sources m)),
        )

-- one source more of a turn
pub source_more : (sources : List (List Entry)) (n i : ℕ) (d : List Entry) → i < length sources → turn (take (i + 1) sources) n ≡ turn (take i sources) n ++ cons_option (slice_get (get_or sources i d) n) []
source_more sources n i d l =
    ap (λ s. turn s n) (take_more sources i d l)
    ∙ filter_map-append (λ (entries : List Entry). slice_get entries n) (take i sources) (get_or sources i d ∷ [])

turn_at : (sources : List (List Entry)) (n i : ℕ) (d : List Entry) (e : Entry) → i < length sources → slice_get (get_or sources i d) n ≡ Some e → turn sources n ≡ turn (take i sources) n ++ e ∷ turn (drop (i + 1) sources) n
turn_at sources n i d e l has =
    ap (λ s. turn s n) (sym (take-append-drop i sources))
    ∙ filter_map-append (λ (entries : List Entry). slice_get entries n) (take i sources) (drop i sources)
    ∙ ap (λ s. turn (take i sources) n ++ turn s n) (drop_more sources i d l)
    ∙ ap (λ o. turn (take i sources) n ++ cons_option o (turn (drop (i + 1) sources) n)) has

-- the entry that a source has comes next
pub comes_next : (sources : List (List Entry)) (n i : ℕ) (d : List Entry) (e : Entry) → n < turns_in sources → i < length sources → slice_get (get_or sources i d) n ≡ Some e
    → (behind : List Entry) × (turns sources ≡ (before_turn sources n ++ turn (take i sources) n) ++ e ∷ behind)
unfolding turns
comes_next sources n i d e within l has =
    let (rest, is) = behind_turn sources n (turns_in sources) within in (
      turn (drop (i + 1) sources) n ++ rest,
      is
          ∙ ap (λ t. before_turn sources n ++ (t ++ rest)) (turn_at sources n i d e l has)
          ∙ ap (λ t. before_turn sources n ++ t) (append_assoc (turn (take i sources) n) (e ∷ turn (drop (i + 1) sources) n) rest)
          ∙ sym (append_assoc (before_turn sources n) (turn (take i sources) n) (e ∷ (turn (drop (i + 1) sources) n ++ rest))),
    )

-- what follows where a call was answered
pub ok_more : {T E : Type 0} (r : Result T E) (P Q : Type 0) → (P → Q) → OnOk r P → OnOk r Q
ok_more (Ok x) P Q f h = f h
ok_more (Err e) P Q f h = h

-- the writer with one entry more
pub author_more : (c : Course) (a b : Author) (e : Entry) → HasNext c a e → b.shard ≡ sharded_with a.shard e → CountsAll (a.shard).defs (a.shard).sources ((a.shard).journal ++ e ∷ []) b.tally → IsAt (board_of c b.tally) b.writer
    → IsAuthor c ((a.shard).journal ++ e ∷ []) b
author_more c a b e h is counts at = record {
  at = at;
  applied = ap (λ (s : Sharded). s.journal) is;
  counted = counts.entries;
  defs = ap (λ (s : Sharded). s.defs) is ∙ h.author.defs;
  sources = ap (λ (s : Sharded). s.sources) is ∙ h.author.sources;
  rest = h.behind;
  begins = h.comes ∙ sym (append_assoc (a.shard).journal (e ∷ []) h.behind);
}

-- an entry that comes next may be written
pub has_next : (c : Course) (a : Author) (n i : ℕ) (e : Entry) → IsAuthor c (before_turn (sources_of c) n ++ turn (take i (sources_of c)) n) a → AreEntriesIn (sources_of c)
    → n < turns_in (sources_of c) → i < length (sources_of c) → slice_get (get_or (sources_of c) i []) n ≡ Some e → HasNext c a e
has_next c a n i e h entries within l has =
    let (behind, comes) = comes_next (sources_of c) n i [] e within l has in
    let p : IsPlaced (sources_of c) i n e = entries.placed i n e l has in
    let front : List Entry = before_turn (sources_of c) n ++ turn (take i (sources_of c)) n in
    record {
      author = subst (λ j. IsAuthor c j a) (sym h.applied) h;
      next = record {
        known = record { source = subst (λ k. e.source < k) (sym h.sources) (omega (arith, p.own, l, length-map (c.sources).now (λ (v : Vec Entry Global). v.items))); within = p.within };
        goes_on = subst (λ j. has_ended e.source j ≡ false) (sym h.applied) (goes_on (sources_of c) i n e entries l has);
        few = omega (arith, entries.few, ap length comes, length-append front (e ∷ behind), ap length h.applied);
      };
      behind = behind;
      comes = comes ∙ ap (λ j. j ++ e ∷ behind) (sym h.applied);
    }

pub with_source : (c : Course) (a b : Author) (n i : ℕ) (o : Option Entry) → i < length (sources_of c) → slice_get (get_or (sources_of c) i []) n ≡ o → IsAuthor c ((before_turn (sources_of c) n ++ turn (take i (sources_of c)) n) ++ cons_option o []) b
    → IsAuthor c (before_turn (sources_of c) n ++ turn (take (i + 1) (sources_of c)) n) b
with_source c a b n i o l has h =
    subst (λ j. IsAuthor c j b)
    (append_assoc (before_turn (sources_of c) n) (turn (take i (sources_of c)) n) (cons_option o [])
    ∙ ap (λ t. before_turn (sources_of c) n ++ t) (ap (λ p. turn (take i (sources_of c)) n ++ cons_option p []) (sym has) ∙ sym (source_more (sources_of c) n i [] l)))
    h

pub source_at : (c : Course) (i : ℕ) (v : Vec Entry Global) → i < length (c.sources).now → get_or (sources_of c) i [] ≡ (get_or (c.sources).now i v).items
source_at c i v l = get_or-map (λ w. w.items) (c.sources).now i v [] l

pub turn_over : (c : Course) (a : Author) (n i : ℕ) → length (c.sources).now ≤ i → IsAuthor c (before_turn (sources_of c) n ++ turn (take i (sources_of c)) n) a → IsAuthor c (before_turn (sources_of c) (n + 1)) a
turn_over c a n i all h =
    subst (λ j. IsAuthor c j a)
    (ap (λ s. before_turn (sources_of c) n ++ turn s n) (take_all i (sources_of c) (omega (arith, all, length-map (c.sources).now (λ (v : Vec Entry Global). v.items)))) ∙ sym (next_turn (sources_of c) n))
    h

pub of_source : (c : Course) (i : ℕ) → i < length (c.sources).now → i < length (sources_of c)
of_source c i l = omega (arith, l, length-map (c.sources).now (λ (v : Vec Entry Global). v.items))

-- a source that has no entry of this number
pub with_none : (c : Course) (a : Author) (n i : ℕ) → i < length (sources_of c) → slice_get (get_or (sources_of c) i []) n ≡ None → IsAuthor c (before_turn (sources_of c) n ++ turn (take i (sources_of c)) n) a
    → IsAuthor c (before_turn (sources_of c) n ++ turn (take (i + 1) (sources_of c)) n) a
with_none c a n i l has h =
    with_source c a a n i None l has (subst (λ j. IsAuthor c j a) (sym (append-nil (before_turn (sources_of c) n ++ turn (take i (sources_of c)) n))) h)

pub all_turns : (c : Course) (a : Author) (n : ℕ) → n ≡ turns_in (sources_of c) → IsAuthor c (before_turn (sources_of c) n) a → IsAuthor c (turns (sources_of c)) a
unfolding turns
all_turns c a n is h = subst (λ k. IsAuthor c (before_turn (sources_of c) k) a) is h
