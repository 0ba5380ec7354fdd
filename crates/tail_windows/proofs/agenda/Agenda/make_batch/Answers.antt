-- An empty batch is as none.
use Rattle.std.proofs.Common.{◌≡◌, ◌∙◌, false, subst, sym}
use Rattle.std.specs.Prelude.{is_some}
use Rattle.std.specs.BTreeMap.{is_at}
use Rattle.std.specs.Map.{lookup}
use Rattle.std.specs.Ordering.{nat_cmp}
use Rattle.tail_windows.specs.Noted.{IsNoted}
use Rattle.tail_windows.proofs.Noting.{noted_with_empty}
use Rattle.tail_windows.proofs.agenda.Agenda.make_batch.Goals.{in-Some-1, in-None-1}
use Rattle.tail_windows.proofs.agenda.Agenda.make_batch.Goals as goal

pub returns-in_ok-insert-clause-kept : goal.returns-in_ok-insert-clause-kept
returns-in_ok-insert-clause-kept c a k d =
    let batches = (c.self.inside.batches).entries in
    let absent : is_some (lookup (is_at (nat_cmp c.args.at)) batches) ≡ false = sym c.contains_key.ensures ∙ c.if-not-contains_key.true in
    let there : IsNoted (c.insert.new.self).entries a k =
    noted_with_empty batches (c.insert.new.self).entries c.args.at c.new.result absent (λ q. c.in_ok-insert.ensures.updates.0 q) a k (subst (λ l. IsNoted l a k) (sym c.self.view_is) d) in
    elim c.match-branch-2.branch [
      | in-Some-1 w ↦ subst (λ l. IsNoted l a k) (sym w.self-is) there
      | in-None-1 w ↦ subst (λ l. IsNoted l a k) (sym w.self-is) there
    ]
