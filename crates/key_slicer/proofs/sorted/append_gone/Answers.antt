-- There is room for all.
use Rattle.std.proofs.Common.{not, arith, refl}
use Rattle.std.proofs.lemmas.List.Filters.{length-filter_both}
use Rattle.key_slicer.specs.Sorted.{is_gone}
use Rattle.key_slicer.proofs.sorted.append_gone.Goals as goal

pub loop-change-init : goal.loop-change-init
loop-change-init c = record {
  capacity = refl;
  room = omega (arith, length-filter_both is_gone (λ change. not (is_gone change)) (λ x. refl) c.args.changes.now, c.requires);
  all = refl;
}
