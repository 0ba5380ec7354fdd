-- The statuses of a run.
use Rattle.std.specs.Prelude.{ℕ}
use Rattle.window_defs.specs.declared.defs_fault.DefsFault.{DefsFault}
use Rattle.window_defs.specs.declared.defs_fault.DefsFault.TheVariants.{Long, Toml, Shape, Limit, Many, NoMemory as NoRoom}
use Rattle.emission_text.specs.declared.fault.Fault.{Fault}
use Rattle.emission_text.specs.declared.fault.Fault.TheVariants as fault
use Rattle.report_check.specs.declared.finding.Finding.{Finding}
use Rattle.report_check.specs.declared.finding.Finding.TheVariants.{Lawful, Text, Shards, Journal}
use Rattle.run_inputs.specs.declared.status.Status.{Status}
use Rattle.run_inputs.specs.declared.status.Status.TheVariants.{Done, Usage, BadDefs, OpenFault, BadRow, ReadFault, Full, NoMemory, WriteFault, Unlawful}

-- the code with which the program ends
abbrev pub code_of : Status → ℕ
code_of Done = 0
code_of Usage = 1
code_of BadDefs = 2
code_of OpenFault = 3
code_of BadRow = 4
code_of ReadFault = 5
code_of Full = 6
code_of NoMemory = 7
code_of WriteFault = 8
code_of Unlawful = 9

-- the status for refused definitions, unless memory ran out
abbrev pub defs_status : DefsFault → Status
defs_status Long = BadDefs
defs_status Toml = BadDefs
defs_status (Shape window) = BadDefs
defs_status (Limit window) = BadDefs
defs_status Many = BadDefs
defs_status NoRoom = NoMemory

-- the status for a fault
abbrev pub status_of : Fault → Status
status_of fault.Usage = Usage
status_of (fault.Defs cause) = defs_status cause
status_of (fault.Unopened place) = OpenFault
status_of (fault.Row source number why) = BadRow
status_of (fault.Read place) = ReadFault
status_of (fault.FullSource source) = Full
status_of (fault.FullShard shard) = Full
status_of fault.ReportOpen = OpenFault
status_of fault.ReportRead = ReadFault
status_of fault.ReportFull = Full
status_of fault.NoMemory = NoMemory

-- the status for a finding
abbrev pub finding_status : Finding → Status
finding_status Lawful = Done
finding_status (Text line) = Unlawful
finding_status (Shards found) = Unlawful
finding_status (Journal shard source) = Unlawful
