-- One tuple more keeps the lists a key's.
use Rattle.std.proofs.Common.{◌+◌, ◌≤◌, List, sym, subst}
use Rattle.stream_base.specs.declared.kept.Kept.{Kept}
use Rattle.stream_base.proofs.EventOrder.{times_do_not_fall}
use Rattle.plain_keys.specs.States.{IsState, State}
use Rattle.plain_keys.proofs.Keeps.{state_put}
use Rattle.plain_keys.proofs.plain_key.PlainKey.put_ahead.Goals as goal

pub put_in-requires-clause-place : goal.put_in-requires-clause-place
put_in-requires-clause-place c = record {
  in_order = times_do_not_fall c.self.inside.kept.items c.self.invariant.lists.in_order;
  within = c.requires.next.time;
}

pub invariant_of-self : goal.invariant_of-self
invariant_of-self c =
    let s = c.self.inside in
    subst (λ (ks : List Kept). IsState ks s.marks.items (c.args.x.position + 1)) (sym c.put_in.ensures)
    (state_put s.kept.items s.marks.items s.next c.args.x.position c.args.x.time c.args.x.value c.self.invariant (subst (λ (t : State). t.next ≤ c.args.x.position) (sym c.self.view_is) c.requires.next.position) c.requires.next.few c.requires.next.time)
