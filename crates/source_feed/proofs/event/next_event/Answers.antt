use Rattle.std.proofs.Common.{sym, ◌∙◌}
use Rattle.csv.specs.Records.{fields_of}
use Rattle.source_feed.specs.RecordsLeft.{records_left}
use Rattle.source_feed.proofs.EventSteps.{refuses, event_next}
use Rattle.source_feed.proofs.event.next_event.Goals as goal

-- the record has an event
pub returns-in-Ok : goal.returns-in-Ok
returns-in-Ok g c =
    let took = rw c.if-not-branch.false at c.in_ok-next_data.ensures in record {
      on = took.0;
      event = c.in-Ok.ensures.event;
      next = took.1 ∙ event_next c.args.number.now c.next_data.new.number (fields_of c.next_data.new.fields) (records_left g.R.Read.remaining c.next_data.new.reader) c.in-Ok.what took.0.further (sym c.in-Ok.ensures.value);
    }

-- the record is refused
pub returns-in-Err : goal.returns-in-Err
returns-in-Err g c =
    let took = rw c.if-not-branch.false at c.in_ok-next_data.ensures in
    took.1 ∙ refuses c.next_data.new.number (fields_of c.next_data.new.fields) (records_left g.R.Read.remaining c.next_data.new.reader) c.in-Err.why (sym c.in-Err.ensures.value)
