-- What may be watched can be written, and what was read can be ended.
use Rattle.std.proofs.Common.{◌≡◌, ◌∙◌, ℕ, ◌<◌, ◌≤◌, true, List, [], ◌++◌, length, take, ap, sym, refl, subst, arith, le_trans, get_or, Some}
use Rattle.std.specs.Prelude.{All, Vec, slice_get}
use Rattle.std.specs.declared.alloc.Global.{Global}
use Rattle.std.proofs.lemmas.List.{length-map}
use Rattle.std.proofs.Math.Seq.{take-append_seam}
use Rattle.std.proofs.lemmas.List.Elements.{All-get_or}
use Rattle.std.proofs.lemmas.Option.{get_or_from_slice_get, slice_get_within}
use Rattle.stream_base.specs.declared.entry.Entry.{Entry}
use Rattle.stream_base.specs.declared.limits.TheConstants.{JOURNAL_MAX}
use Rattle.stream_base.specs.Model.Journals.{is_entry_within}
use Rattle.live_board.proofs.NextFacts.{turns_within}
use Rattle.live_board.specs.Authoring.{IsAuthor}
use Rattle.live_board.specs.Ending.{AreReadsIn, HasShownAll}
use Rattle.live_board.specs.Rule.{sources_of}
use Rattle.live_board.specs.Tallies.{turns}
use Rattle.live_board.specs.Turning.{AreEntriesIn}
use Rattle.live_board.specs.Watched.{AreReadsOf, IsWatched, MayWatch, entries_in}
use Rattle.live_board.specs.Watching.{HasWatched, IsReady, MayEnd}
use Rattle.live_board.specs.declared.author.Author.{Author}
use Rattle.live_board.specs.declared.course.Course.{Course}
use Rattle.live_board.specs.declared.tally.Tally.{Tally}
use Rattle.live_board.specs.declared.watcher.Watcher.{Watcher}
use Rattle.live_board.specs.Writing.{board_of}
use Rattle.live_board.proofs.EndFacts.{shows_all}

-- what holds of all holds of the one at a place
at_place : {X : Type 0} (P : X → Type 0) (xs : List X) (n : ℕ) (x : X) → All P xs → slice_get xs n ≡ Some x → P x
at_place P xs n x all has = subst P (get_or_from_slice_get xs n x x has) (All-get_or P xs n x (slice_get_within xs n x has) all)

-- sources that may be watched may be written
pub entries_from : (readers reads : ℕ) (sources : List (List Entry)) → MayWatch readers reads sources → entries_in sources ≤ JOURNAL_MAX → AreEntriesIn sources
entries_from readers reads sources may few = record {
  placed = λ i n e low has.
      let m = may.entries i low in
      record {
        own = at_place (λ x. x.source ≡ i) (get_or sources i []) n e m.own has;
        within = at_place (λ x. is_entry_within x ≡ true) (get_or sources i []) n e m.within has;
        last = λ ends. (m.ends n e has).0 ends;
      };
  few = le_trans (turns_within sources) few;
}

-- each watcher that was ready and has watched may end
pub may_end : (c : Course) (many : ℕ) (old new : List Watcher) → length new ≡ length old → All (IsReady c many) old
    → ((i : ℕ) (w : Watcher) → i < length old → HasWatched c many (get_or old i w) (get_or new i w)) → All (λ w. MayEnd c many w.reads) new
may_end c many old new same ready watched k d few =
    let low : k < length old = omega (arith, few, same) in
    let h = watched k d low in
    record {
      reads_are = h.reads;
      few = h.few;
      room = omega (arith, h.room, (ready k d low).room);
    }

-- what was lent of a list comes back whole
pub whole_back : (n : ℕ) (new rest : List Watcher) → n ≡ length new → take n (new ++ rest) ≡ new
whole_back n new rest is = ap (λ k. take k (new ++ rest)) is ∙ take-append_seam new rest

-- an author of the whole course has shown all of it
pub shown_all : (c : Course) (a : Author) → IsAuthor c (turns (sources_of c)) a → HasShownAll c a.writer
shown_all c a h = shows_all c (board_of c a.tally) a.writer h.at refl h.counted

-- the shard of such an author has all entries, and with the reads of all readers it was watched
pub watched_all : (c : Course) (a : Author) (readers many : ℕ) (lists : List (List Tally)) → IsAuthor c (turns (sources_of c)) a → length lists ≡ readers → All (AreReadsIn c many) lists
    → IsWatched (c.defs).now (sources_of c) readers many a.shard lists
watched_all c a readers many lists h one each =
    let all : length (sources_of c) ≡ length (c.sources).now = length-map (c.sources).now (λ (v : Vec Entry Global). v.items) in
    record {
      defs = h.defs;
      sources_are = h.sources ∙ sym all;
      journal = h.applied;
      one_each = one;
      reads_are = subst (λ n. All (AreReadsOf (c.defs).now n (turns (sources_of c)) many) lists) (sym all) each;
    }
