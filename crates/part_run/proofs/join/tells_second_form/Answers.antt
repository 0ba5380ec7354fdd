-- The first of the texts is the vector at the first place.
use Rattle.std.proofs.Common.{◌≡◌, ◌∙◌, ◌<◌, List, ℕ, arith, get_or, length, subst, sym, []}
use Rattle.std.specs.Prelude.{◌↔◌, IsTrue}
use Rattle.report_check.specs.Findings.{lists_of}
use Rattle.part_run.specs.Joining.{BeginsSecond}
use Rattle.part_run.proofs.Joins.{bytes_at}
use Rattle.part_run.proofs.join.tells_second_form.Goals as goal

pub returns : goal.returns
returns c =
    let inside : 0 < length c.args.texts.now = omega (arith, c.requires) in
    let first : c.deref.result.now ≡ get_or (lists_of c.args.texts.now) 0 [] = c.deref.ensures.value ∙ sym (bytes_at c.args.texts.now 0 c.index-texts-0.result inside c.index-texts-0.is) in
    subst (λ (b : List ℕ). IsTrue c.is_second_form.result ↔ BeginsSecond b) first c.is_second_form.ensures
