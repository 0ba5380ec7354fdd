use Rattle.std.specs.List.{filter_map}
use Rattle.stream_base.specs.declared.entry.Entry.{Entry}
use Rattle.stream_base.specs.Model.Journal.{marks_of, on_time}
use Rattle.stream_base.specs.Model.What.{mark_in}
use Rattle.std.proofs.Common.{ℕ}
use Rattle.model_laws.proofs.Accepted.{marks_exactly}
use Rattle.stream_base.proofs.Rising.{nat_rising_increases}
use Rattle.model_laws.proofs.kept.marks_are_those_in_time.Goals as goal

pub returns-clause-exactly : goal.returns-clause-exactly
returns-clause-exactly c = marks_exactly

pub returns-clause-rising : goal.returns-clause-rising
unfolding marks_of
returns-clause-rising c = λ lateness sources key journal. nat_rising_increases (filter_map (λ (p : ℕ × Entry). mark_in key (p.1).what) (on_time lateness sources journal))
