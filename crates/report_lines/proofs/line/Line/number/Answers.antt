-- A number of 64 bits has at most twenty digits, and they are written in front of what was there.
use Rattle.std.proofs.Common.{◌≡◌, ◌∙◌, ◌++◌, ◌≤◌, ap, arith, decimal, length, rules}
use Rattle.std.proofs.lemmas.Fmt.{length-decimal-le}
use Rattle.report_lines.specs.Lines.{Lined}
use Rattle.report_lines.proofs.line.Line.number.Goals as goal

pub write_digits-self-inside-requires : goal.write_digits-self-inside-requires
write_digits-self-inside-requires c =
    let few : length (decimal c.args.number) ≤ 20 = length-decimal-le 20 c.args.number (omega arith) (omega arith) (omega arith) in
    let room : c.self.inside.start ≡ c.args.self.now.room = ap (λ (l : Lined). l.room) c.self.view_is in
    (omega (arith, few, room, c.requires), search rules)

pub returns : goal.returns
returns c =
    let few : length (decimal c.args.number) ≤ 20 = length-decimal-le 20 c.args.number (omega arith) (omega arith) (omega arith) in
    let room : c.self.inside.start ≡ c.args.self.now.room = ap (λ (l : Lined). l.room) c.self.view_is in
    record {
      text = c.write_digits-self-inside.ensures.written ∙ ap (λ (l : Lined). decimal c.args.number ++ l.text) c.self.view_is;
      room = omega (arith, few, room, c.write_digits-self-inside.ensures.start);
    }
