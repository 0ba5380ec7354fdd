-- What the adapters over memory are in contracts.
use Rattle.std.specs.Prelude.{◌≡◌, ◌+◌, ◌-◌, ◌^◌, ◌==◌, ◌&&◌, ◌||◌, ℕ, Bool, false, not, List, Option, Some, None, min, length}
use Rattle.std.specs.List.{find, list_any}
use Rattle.std.specs.Option.{option_map}
use Rattle.std.specs.Str.{bytes_eq}
use Rattle.outside.specs.Outside.{Reads}

-- a source in memory: what is left, which calls fail, the number of the next call, the most that one call gives, all its bytes, and what was read
pub record MemSourceState : Type 0 where
  pub left : List ℕ
  pub failing : List ℕ
  pub calls : ℕ
  pub piece : ℕ
  pub whole : List ℕ
  pub reads : Reads

-- a sink in memory: what was written, the room that is left, which calls fail, the number of the next call, the faults so far, and the most that one call takes
pub record MemSinkState : Type 0 where
  pub bytes : List ℕ
  pub room : ℕ
  pub failing : List ℕ
  pub calls : ℕ
  pub faults : ℕ
  pub piece : ℕ

-- a file in memory: its name, its bytes, which reads fail, and whether it can't be opened
pub record MemFileState : Type 0 where
  pub name : List ℕ
  pub bytes : List ℕ
  pub failing : List ℕ
  pub refuse : Bool

-- the file has this name
abbrev pub is_named : List ℕ → MemFileState → Bool
is_named name file = bytes_eq file.name name

-- the bytes of the first file of this name
abbrev pub bytes_under : List MemFileState → List ℕ → Option (List ℕ)
bytes_under files name = option_map (λ file. file.bytes) (find (is_named name) files)

-- there is a file, and it isn't refused
abbrev pub is_open_to : Option MemFileState → Bool
is_open_to None = false
is_open_to (Some file) = not file.refuse

-- the first file of this name can be opened
abbrev pub can_open : List MemFileState → List ℕ → Bool
can_open files name = is_open_to (find (is_named name) files)

-- the call of this number was told to fail
abbrev pub is_told_to_fail : List ℕ → ℕ → Bool
is_told_to_fail failing call = list_any (λ number. number == call) failing

-- the number of the next call, which stands still at its type's end
abbrev pub next_call : ℕ → ℕ
next_call call = min (call + 1) (2 ^ 64 - 1)

-- how much one call hands over: all that is there, as far as the piece and the room let it
abbrev pub handed_over : ℕ → ℕ → ℕ → ℕ
handed_over piece room there = min (min piece room) there

-- a write of these bytes fails: no room is left for them, and there are some, or the call was told to fail
abbrev pub must_fail : MemSinkState → List ℕ → Bool
must_fail sink bytes = (sink.room == 0 && not (length bytes == 0)) || is_told_to_fail sink.failing sink.calls

-- this is the source of the first file of this name, of which nothing was read: its bytes, the reads of it that fail, and at most the piece for each
pub record IsOpened (files : List MemFileState) (name : List ℕ) (piece : ℕ) (source : MemSourceState) : Type 0 where
  pub file : MemFileState
  pub found : find (is_named name) files ≡ Some file
  pub left : source.left ≡ file.bytes
  pub failing : source.failing ≡ file.failing
  pub calls : source.calls ≡ 0
  pub pieces : source.piece ≡ piece
