use Rattle.window_defs.specs.Reading.{reading_of}
use Rattle.window_defs.proofs.ReadingFacts.{when_read, when_refused, reading_sound}
use Rattle.window_defs.proofs.read.read_defs.Goals as goal

pub returns-clause-ok : goal.returns-clause-ok
returns-clause-ok c = when_read c.read.result (reading_of c.args.bytes.now) c.read.ensures

pub returns-clause-refused : goal.returns-clause-refused
returns-clause-refused c = when_refused c.read.result (reading_of c.args.bytes.now) c.read.ensures

pub returns-clause-memory : goal.returns-clause-memory
returns-clause-memory c = reading_sound c.args.bytes.now
