-- The part keeps its tuples, or those behind stand in a part of their own.
use Rattle.std.proofs.Common.{◌≡◌, ◌∙◌, ◌+◌, ◌++◌, ◌<◌, ap, arith, length, rules, set, sym}
use Rattle.std.specs.Prelude.{insert}
use Rattle.std.specs.List.{flat_map}
use Rattle.std.proofs.lemmas.List.{append-nil}
use Rattle.tuple_chunks.specs.Parts.{tuples_in}
use Rattle.tuple_chunks.proofs.PartFacts.{parts_divided, parts_same}
use Rattle.tuple_chunks.proofs.row.settle_part.Goals as goal

pub returns-in_err-back-clause-tuples : goal.returns-in_err-back-clause-tuples
returns-in_err-back-clause-tuples g c =
    let f = g.P.Part.tuples in
    let parts = c.reserve.new.self.items in
    let o = c.index_mut-part.result.now in
    let within : c.args.at < length parts = omega (arith, c.requires.within, c.reserve.ensures.len) in
    parts_same f parts c.args.at o c.settle.new.self within (c.in_err-back.ensures.kept ∙ ap f c.index_mut-part.ensures.value)
    ∙ ap (flat_map f) c.reserve.ensures.items

pub returns-in-None-clause-tuples : goal.returns-in-None-clause-tuples
returns-in-None-clause-tuples g c =
    let f = g.P.Part.tuples in
    let parts = c.reserve.new.self.items in
    let o = c.index_mut-part.result.now in
    let p = c.settle.new.self in
    let within : c.args.at < length parts = omega (arith, c.requires.within, c.reserve.ensures.len) in
    let whole : f o ≡ f p ++ tuples_in f c.in_ok-back.field-0 = c.in_ok-back.ensures.whole in
    let same : f p ≡ f o = sym (whole ∙ ap (λ b. f p ++ tuples_in f b) c.in-None.is ∙ append-nil (f p)) in
    parts_same f parts c.args.at o p within (same ∙ ap f c.index_mut-part.ensures.value)
    ∙ ap (flat_map f) c.reserve.ensures.items

pub returns-in-Some-clause-tuples : goal.returns-in-Some-clause-tuples
returns-in-Some-clause-tuples g c =
    let f = g.P.Part.tuples in
    let parts = c.reserve.new.self.items in
    let o = c.index_mut-part.result.now in
    let p = c.settle.new.self in
    let within : c.args.at < length parts = omega (arith, c.requires.within, c.reserve.ensures.len) in
    let whole : f o ≡ f p ++ tuples_in f c.in_ok-back.field-0 = c.in_ok-back.ensures.whole in
    let both : f o ≡ f p ++ f c.in-Some.back = whole ∙ ap (λ b. f p ++ tuples_in f b) c.in-Some.is in
    let put : c.insert.new.self.items ≡ insert (set parts c.args.at p) (c.args.at + 1) c.in-Some.back = search rules in
    ap (flat_map f) put
    ∙ parts_divided f parts c.args.at o p c.in-Some.back within (ap f (sym c.index_mut-part.ensures.value) ∙ both)
    ∙ ap (flat_map f) c.reserve.ensures.items
