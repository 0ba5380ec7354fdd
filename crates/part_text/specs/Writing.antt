-- A writer of records that stands between two of them.
use Rattle.std.specs.Prelude.{◌≡◌, ℕ, false, List, [], Option, if◌then◌else◌}
use Rattle.std.specs.Io.KnownBytes.{Appends}
use Rattle.csv.specs.Writing.{default_writer, fields_written, has_written, text_written, writer_setup}
use Rattle.csv.specs.declared.writer.Writer.{Writer}
use Rattle.stream_base.specs.declared.what.What.{What}
use Rattle.stream_base.specs.Model.Routes.{goes_to}
use Rattle.part_laws.specs.Parts.{event_text}

-- the record of an event that goes to the shard, and nothing of another
abbrev pub own_text : ℕ → ℕ → What → List ℕ
own_text shards k what = if goes_to shards k what then event_text what else []

-- a writer with the crate's defaults that has ended each record that it began
pub record IsBetween {W : Type 0} (writer : Writer W) : Type 0 where
  pub setup : writer_setup writer ≡ default_writer
  pub fields : fields_written writer ≡ 0
  pub clean : has_written writer ≡ false

-- this text was written, of records that were ended; `contents` says what the writer underneath holds
pub record WritesText {W : Type 0} (contents : W → Option (List ℕ)) (text : List ℕ) (old new : Writer W) : Type 0 where
  pub between : IsBetween new
  pub appended : Appends (text_written contents old) (text_written contents new) text
