use Rattle.std.proofs.Common.{◌≡◌, true, false, ap, sym, ◌∙◌, Err}
use Rattle.fan_in.proofs.Desks.{ended_of}
use Rattle.fan_in.proofs.turns.pass.PassBySourcePort.hand_in.Goals as goal

pub unreachable-requires : goal.unreachable-requires
unreachable-requires g c =
    let ended = ended_of c.args.entry.now c.args.self.now (c.offer_through.ensures.ended (c.in-Err-Ended.is ∙ ap Err c.in-Err-Ended.field-0-is)) c.requires.own_source.0 in
    let no : true ≡ false = sym ended ∙ c.requires.may.running in
    absurd (cc)
