use Rattle.fan_in.proofs.Desks.{adds}
use Rattle.fan_in.proofs.desk.OfferTurnCallBookedBy.run.Goals as goal

pub returns-clause-items : goal.returns-clause-items
returns-clause-items g c = adds c.args.value.now c.book.new.self c.args.number c.args.self.entry.now c.book.result c.book.ensures.books.numbered c.book.ensures.books.booked c.book.ensures.books.refused
