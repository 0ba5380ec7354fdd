-- The tally behind an entry may be shown next.
use Rattle.std.proofs.Common.{[], ◌∷◌, ◌++◌, ap, arith, length-append, subst, sym}
use Rattle.live_board.proofs.Authors.{counts_of_front, tally_of_front}
use Rattle.live_board.proofs.TurnFacts.{author_more, ok_more}
use Rattle.live_board.specs.Authoring.{IsAuthor}
use Rattle.live_board.specs.Rule.{with_tally}
use Rattle.live_board.specs.Writing.{IsAt, shown_by}
use Rattle.live_board.specs.declared.author.Author.{Author}
use Rattle.live_board.proofs.author.write_one.Goals as goal

pub apply-requires-clause-counts : goal.apply-requires-clause-counts
apply-requires-clause-counts g c =
    let a = c.requires.next.author in
    rw a.defs (rw a.sources (counts_of_front _ _ _ _ _ c.args.by.tally a.at.tally a.begins a.counted))

pub publish-writer-requires : goal.publish-writer-requires
publish-writer-requires g c =
    let a = c.requires.next.author in
    record {
      may = record {
        at = subst (λ b. IsAt b c.args.by.writer) (sym a.at.shown) a.at;
        tally = rw a.at.shown (tally_of_front _ _ _ c.args.by.shard.journal c.requires.next.behind c.args.entry.now c.in-Ok.next c.requires.next.comes (rw a.defs at (rw a.sources at c.in-Ok.ensures.counts)));
        no_less = rw a.at.shown (omega (arith, c.in-Ok.ensures.counts.entries, a.counted, length-append c.args.by.shard.journal (c.args.entry.now ∷ [])));
      };
    }

pub returns-in-Ok-clause-ok : goal.returns-in-Ok-clause-ok
returns-in-Ok-clause-ok g c =
    let a = c.requires.next.author in
    let new : Author = record { writer = c.publish-writer.result.0; shard = c.apply.new.shard; tally = c.in-Ok.next } in
    ok_more c.publish-writer.result.1 (IsAt (with_tally (shown_by c.args.by.writer) c.in-Ok.next) c.publish-writer.result.0) (IsAuthor c.args.course.now (c.args.by.shard.journal ++ c.args.entry.now ∷ []) new)
    (λ at. author_more c.args.course.now c.args.by new c.args.entry.now c.requires.next c.in-Ok.ensures.applied c.in-Ok.ensures.counts
    (subst (λ b. IsAt b c.publish-writer.result.0) (ap (λ b. with_tally b c.in-Ok.next) a.at.shown) at))
    c.publish-writer.ensures.shown
