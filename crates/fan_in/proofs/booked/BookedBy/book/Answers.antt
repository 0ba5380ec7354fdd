use Rattle.std.proofs.Common.{◌≡◌, ◌∙◌, All, length, ap, sym, subst}
use Rattle.fan_in.specs.Desks.{BookedState, booked_with, items_of}
use Rattle.fan_in.specs.NumberLogs.{numbers_in}
use Rattle.fan_in.proofs.Desks.{one_more_each, still_made}
use Rattle.fan_in.proofs.booked.BookedBy.book.Goals as goal

pub invariant_of-self-2 : goal.invariant_of-self-2
invariant_of-self-2 g c =
    let before : BookedState = record { shard = c.self.inside.shard; numbers = numbers_in c.self.inside.numbers } in
    let after : BookedState = record { shard = c.apply.new.self; numbers = numbers_in c.with_number.result } in
    let applied = c.in_ok-applied.ensures.applies in
    let booked : after ≡ booked_with before c.args.number c.args.entry.now = cc (applied.applied, c.with_number.ensures) in
    record {
      numbered = ap (λ (b : BookedState). length b.numbers) booked ∙ one_more_each before c.args.number c.args.entry.now c.self.invariant.numbered ∙ ap (λ (b : BookedState). length (b.shard).journal) (sym booked);
      journal = applied.journal;
      made = subst (λ (b : BookedState). All (λ item. g.N.Numbering.may item.0 item.1) (items_of b)) (sym booked) (still_made g.N.Numbering.may before c.args.number c.args.entry.now c.self.invariant.numbered c.requires.numbered c.self.invariant.made);
    }
