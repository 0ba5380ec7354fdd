use Rattle.fan_in.proofs.Desks.{booked_of, found_ended, offered_of, refused_of}
use Rattle.fan_in.proofs.desk.offer_through.Goals as goal

pub returns : goal.returns
returns g c =
    let entry = c.args.entry.now in
    let turn = booked_of g.N.Numbering.may entry c.args.pass.now c.turn.new.pass c.turn.result c.turn.ensures.turn in
    record {
      answered = record {
        same = c.turn.ensures.same;
        offered = offered_of entry c.args.pass.now c.turn.new.pass c.turn.result turn;
        refused = refused_of entry c.args.pass.now c.turn.new.pass c.turn.result turn;
      };
      ended = found_ended g.N.Numbering.may entry c.args.pass.now c.turn.new.pass c.turn.result c.turn.ensures.turn;
    }
