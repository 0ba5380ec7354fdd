-- One is gone where none is found in its place.
use Rattle.std.proofs.Common.{◌∙◌, ◌++◌, length, ap, sym, append-nil, arith, refl}
use Rattle.plain_windows.specs.Extents.{instance_in}
use Rattle.plain_windows.proofs.Fates.{goes, stays}
use Rattle.plain_windows.proofs.fate.gone.Goals as goal

pub push_reserved-requires : goal.push_reserved-requires
push_reserved-requires g c =
    let owner = c.args.owner.now in
    let one = ap length (goes owner.key.now c.args.new.now owner.place owner.window c.args.old.now.kept c.args.extent.now c.in-None.ensures.found) in
    omega (arith, c.requires.spare)

pub returns-in-Some : goal.returns-in-Some
returns-in-Some g c =
    let owner = c.args.owner.now in
    record {
      items =
          sym (append-nil c.args.out.now.items)
          ∙ ap (λ l. c.args.out.now.items ++ l) (sym (stays owner.key.now c.args.new.now owner.place owner.window c.args.old.now.kept c.args.extent.now (instance_in c.args.new.now.kept c.in-Some.field-0) c.in-Some.ensures.found));
      capacity = refl;
    }

pub returns-in-None : goal.returns-in-None
returns-in-None g c =
    let owner = c.args.owner.now in
    let gone = goes owner.key.now c.args.new.now owner.place owner.window c.args.old.now.kept c.args.extent.now c.in-None.ensures.found in
    record { items = cc; capacity = cc }
