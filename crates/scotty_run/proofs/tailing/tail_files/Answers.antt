-- The shards are filled, and behind that their journals are followed.
use Rattle.std.proofs.Common.{◌≡◌, subst, sym}
use Rattle.emission_text.specs.declared.fault.Fault.{Fault}
use Rattle.emission_text.specs.declared.fault.Fault.TheVariants.{NoMemory}
use Rattle.run_inputs.specs.Outside.{opens_of}
use Rattle.scotty_run.specs.Tailing.{AreShardsOfLast, HasTails, IsTailedOf, StopsAtLast}
use Rattle.scotty_run.proofs.LastTexts.{of_sources, sources_stop}
use Rattle.run_inputs.proofs.Results.{if_err, if_ok}
use Rattle.scotty_run.proofs.tailing.tail_files.Goals as goal

pub tail_shards-requires : goal.tail_shards-requires
tail_shards-requires g c =
    let f = g.F.Files in
    of_sources c.args.command.now (opens_of f.asked f.came c.args.files.now c.last_shards.new.files) c.in-Ok.shards.items c.in-Ok.ensures.ok

pub returns-in-Err : goal.returns-in-Err
returns-in-Err g c = record { files = c.in-Err.ensures.files; ok = tt; stopped = c.in-Err.ensures.stopped }

pub returns-in-Ok : goal.returns-in-Ok
returns-in-Ok g c =
    let f = g.F.Files in
    let l = c.args.command.now in
    let opens = opens_of f.asked f.came c.args.files.now c.last_shards.new.files in
    let shards = c.in-Ok.shards.items in
    record {
      files = c.in-Ok.ensures.files;
      ok = if_ok c.tail_shards.result (HasTails l shards) (IsTailedOf l opens) c.tail_shards.ensures.tails
          (λ t h. record { shards = subst (AreShardsOfLast l opens) (sym h.same) c.in-Ok.ensures.ok; tails = h.tails });
      stopped = if_err c.tail_shards.result (λ (fault : Fault). fault ≡ NoMemory) (StopsAtLast l opens) c.tail_shards.ensures.memory
          (λ fault is. subst (StopsAtLast l opens) (sym is) (sources_stop l opens NoMemory tt));
    }
