-- The number in the line spells it.
use Rattle.std.proofs.Common.{◌≡◌, ◌∙◌, ◌++◌, ◌∷◌, [], ◌-◌, ◌^◌, ap, min}
use Rattle.std.specs.Str.{bytes_eq}
use Rattle.stream_base.specs.Model.Journals.{after_word, number_in}
use Rattle.report_lines.proofs.Reading.{header_by_number}
use Rattle.report_lines.proofs.read.spells_header.Goals as goal

pub returns : goal.returns
returns c =
    let number : c.number_in.result ≡ min (number_in (after_word c.args.line.now)) (2 ^ 64 - 1) = c.number_in.ensures ∙ ap (λ digits. min (number_in digits) (2 ^ 64 - 1)) c.split_word.ensures.rest in
    c.spells.ensures
    ∙ (ap (λ text. bytes_eq text (c.args.line.now ++ 10 ∷ [])) c.tell_header.ensures
    ∙ header_by_number c.args.line.now c.number_in.result number)
