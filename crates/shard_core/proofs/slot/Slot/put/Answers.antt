-- With room made it stands for the same lists.
use Rattle.std.proofs.Common.{ℕ, List, rules, subst}
use Rattle.stream_base.specs.Model.Journal.{put_in_order}
use Rattle.key_windows.specs.Dues.{IsDueNumber}
use Rattle.shard_core.proofs.slot.Slot.put.Goals as goal

pub put-stays-requires-clause-comes : goal.put-stays-requires-clause-comes
put-stays-requires-clause-comes g c =
    let old = c.requires.accepted.stands in
    record {
      stands = (old.0, old.1, c.reserve_put.ensures.stays old.0 old.1 c.args.self.now.water old.2);
      in_time = search rules;
      ready = search rules;
      spare = search rules;
    }

-- what is due stays with the room that was made, and then with the tuple
pub returns-clause-due : goal.returns-clause-due
returns-clause-due g c = λ kept marks due stands number stays.
    let fits = g.K.KeyWindows.fits in
    let key_of = g.K.KeyWindows.key_of in
    let d = c.args.defs.now in
    let old = c.args.self.now in
    let new = c.put-stays.new.self in
    let ready = c.reserve_put.ensures.stays kept marks old.water stands in
    subst (λ (k : List ℕ). IsDueNumber fits d k (put_in_order kept c.args.x) marks old.water new due) c.reserve_put.ensures.key (record {
      quiet = c.put-stays.ensures.due stays kept marks due ready (record {
        nothing_changes = λ later rises below. rw c.reserve_put.ensures.key (number.quiet.nothing_changes later rises below);
        waits = λ later is rises below. c.reserve_put.ensures.stays kept marks later (number.quiet.waits later is rises below);
      });
      exact = c.put-stays.ensures.exact stays kept marks due ready (rw c.reserve_put.ensures.key number.exact);
    })
