-- One instance more is told behind those so far.
use Rattle.std.proofs.Common.{◌∙◌, ◌≤◌, ◌<◌, ◌+◌, ◌*◌, ◌++◌, length, map, ap, arith, rules}
use Rattle.stream_base.specs.declared.change.Change.TheVariants.{New}
use Rattle.stream_base.specs.Model.Changes.{row_of}
use Rattle.window_spans.proofs.Holding.{all_told, more_told, steps_more}
use Rattle.window_spans.proofs.telling.tell_all.Goals as goal

pub loop-span-preserved : goal.loop-span-preserved
loop-span-preserved g c =
    let k = c.loop-span.span-index in
    let within : k < length c.args.spans.now = search rules in
    record {
      told = λ is h. more_told c.args.teller.now.window c.args.teller.now.key.now c.args.func c.args.spans.now (g.S.AggStore.stored c.args.store.now) is h k within c.args.out.now.items c.loop-span.out.items c.tell_new.new.out.items c.standing-now.result (c.loop-span.invariant.told is h) c.tell_new.ensures.items (λ i j. c.standing-now.ensures.value i (search rules));
      len = search rules;
      capacity = search rules;
      cost = omega (arith, steps_more (64 * ((g.S.AggStore.stored c.args.store.now).reach + 2)) k);
    }

pub returns-clause-told : goal.returns-clause-told
returns-clause-told g c = λ is h.
    let all : length c.args.spans.now ≤ c.loop-span.span-index = search rules in
    c.loop-span.invariant.told is h
    ∙ ap (λ l. c.args.out.now.items ++ map (λ i. New (row_of c.args.teller.now.window c.args.teller.now.key.now c.args.func i)) l) (all_told c.args.spans.now (g.S.AggStore.stored c.args.store.now) is h c.loop-span.span-index all)
