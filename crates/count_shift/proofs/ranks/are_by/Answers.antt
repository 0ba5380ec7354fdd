-- Where the last tuple has a time at or before this one, all have.
use Rattle.std.proofs.Common.{◌≤◌, ◌-◌, length, subst, arith}
use Rattle.std.proofs.lemmas.Bool.{leb-true}
use Rattle.std.proofs.lemmas.List.{get_or_default}
use Rattle.stream_base.specs.declared.kept.Kept.{Kept}
use Rattle.count_shift.proofs.Upper.{all_by}
use Rattle.count_shift.proofs.ranks.are_by.Goals as goal

pub returns-else-is_empty : goal.returns-else-is_empty
returns-else-is_empty c = λ yes.
    let kept = c.args.items.now in
    all_by kept c.args.time c.requires (λ d some. subst (λ (x : Kept). x.time ≤ c.args.time) (get_or_default kept (length kept - 1) _ d (omega arith)) (leb-true _ c.args.time yes))
