-- The entries are watched, unless they are too many.
use Rattle.std.proofs.Common.{◌≡◌, ◌<◌, ◌≤◌, Result, Ok, Err, ⊎_elim}
use Rattle.std.proofs.lemmas.Bool.{cases_lt}
use Rattle.stream_base.specs.declared.limits.TheConstants.{JOURNAL_MAX}
use Rattle.live_board.specs.Watched.{entries_in}
use Rattle.live_board.specs.declared.watch_fault.WatchFault.TheVariants.{Full}
use Rattle.report_check.specs.Findings.{lists_of}
use Rattle.scotty_run.proofs.watching.watch_read.Goals as goal

no_err : {T E : Type 0} (r : Result T E) (x : T) (e : E) → r ≡ Ok x → r ≡ Err e → ⊥
no_err r x e h k = cc

pub returns-in-Ok-clause-watched : goal.returns-in-Ok-clause-watched
returns-in-Ok-clause-watched g c =
    let all = lists_of c.args.sources.now in
    record {
      few = ⊎_elim (λ (more : JOURNAL_MAX < entries_in all). absurd (no_err c.watch_entries.result c.in-Ok.watched Full c.in-Ok.is (c.watch_entries.ensures.full.1 more))) (λ few. few) (cases_lt JOURNAL_MAX (entries_in all));
      is_watched = c.in-Ok.ensures.watched;
    }
