-- One part has the tuple more.
use Rattle.std.proofs.Common.{◌∙◌, ap, length, arith}
use Rattle.stream_base.specs.Model.Journal.{put_in_order}
use Rattle.slice_lists.proofs.SliceEdits.{put_length}
use Rattle.tuple_chunks.proofs.PartFacts.{put_parts, put_there}
use Rattle.tuple_chunks.proofs.row.put_in_part.Goals as goal

pub returns-clause-tuples : goal.returns-clause-tuples
returns-clause-tuples g c =
    let f = g.P.Part.tuples in
    let o = c.index_mut-part.result.now in
    put_there f c.args.parts.now.items c.args.x c.args.at o c.put.new.self c.requires.entry (c.put.ensures ∙ ap (λ p. put_in_order (f p) c.args.x) c.index_mut-part.ensures.value)

pub returns-clause-parts : goal.returns-clause-parts
returns-clause-parts g c =
    let f = g.P.Part.tuples in
    let o = c.index_mut-part.result.now in
    put_parts f c.args.parts.now.items c.args.x c.args.at o c.put.new.self c.requires.parts c.requires.entry (c.put.ensures ∙ ap (λ p. put_in_order (f p) c.args.x) c.index_mut-part.ensures.value)
    (omega (arith, ap length c.put.ensures, put_length (f o) c.args.x))
