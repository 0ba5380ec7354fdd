-- What the files of a part give, and why they stop it; and the same of the definitions of parts.
use Rattle.std.specs.Prelude.{◌≡◌, ◌≤◌, ◌<◌, ◌⊎◌, ℕ, List, [], ◌∷◌, length, Option, Ok}
use Rattle.stream_base.specs.Limits.{Definitions}
use Rattle.stream_base.specs.declared.entry.Entry.{Entry}
use Rattle.source_feed.specs.declared.whole.TheConstants.{SOURCE_MAX}
use Rattle.window_defs.specs.Reading.{reading_of}
use Rattle.part_laws.specs.Joined.{part_definitions}
use Rattle.part_laws.specs.Parts.{part_text}
use Rattle.part_text.specs.DefinitionsText.{definitions_text}
use Rattle.part_text.specs.Holding.{IsHeld}
use Rattle.emission_text.specs.declared.fault.Fault.{Fault}
use Rattle.emission_text.specs.declared.fault.Fault.TheVariants.{NoMemory}
use Rattle.run_inputs.specs.Causes.{AreAllRead, AreDefinitionsRead, StopsAtDefs, StopsAtSources}
use Rattle.run_inputs.specs.Outside.{Opens, behind}
use Rattle.part_run.specs.Words.{Part}
use Rattle.part_run.specs.declared.part_fault.PartFault.{PartFault}
use Rattle.part_run.specs.declared.part_fault.PartFault.TheVariants.{Run, LongPart, UnreadDefs, NotReport, Misplaced}

-- the one source of these names was read whole and isn't refused, and this is the part of its entries for the shard
pub record IsPartIn (names : List (List ℕ)) (d : Definitions) (shards k : ℕ) (opens : Opens) (bytes : List ℕ) : Type 0 where
  pub entries : List Entry
  pub source : AreAllRead names d opens (entries ∷ [])
  pub part_is : bytes ≡ part_text shards k entries

-- and by the definitions
pub record IsPartOfFiles (p : Part) (opens : Opens) (bytes : List ℕ) : Type 0 where
  pub d : Definitions
  pub definitions : AreDefinitionsRead opens d
  pub part_in : IsPartIn p.sources d p.shards p.shard (behind (p.defs ∷ []) opens) bytes

-- and it isn't longer than a source may be
pub record IsShortPart (p : Part) (opens : Opens) (bytes : List ℕ) : Type 0 where
  pub part : IsPartOfFiles p opens bytes
  pub short : length bytes ≤ SOURCE_MAX

-- what is held of the part of the one source of these names; the same of the words of a part, under definitions that were read, and by the files
pub record HoldsPartIn (names : List (List ℕ)) (d : Definitions) (shards k : ℕ) (opens : Opens) (held : Option (List ℕ)) : Type 0 where
  pub bytes : List ℕ
  pub part : IsPartIn names d shards k opens bytes
  pub held_is : IsHeld bytes held

abbrev pub HoldsPartUnder : Definitions → Part → Opens → Option (List ℕ) → Type 0
HoldsPartUnder d p = HoldsPartIn p.sources d p.shards p.shard

pub record HoldsPartOfFiles (p : Part) (opens : Opens) (held : Option (List ℕ)) : Type 0 where
  pub bytes : List ℕ
  pub part : IsPartOfFiles p opens bytes
  pub held_is : IsHeld bytes held

-- the definitions were accepted, and the source stops the part
pub record StopsBehindDefs (p : Part) (opens : Opens) (fault : Fault) : Type 0 where
  pub d : Definitions
  pub definitions : AreDefinitionsRead opens d
  pub cause : StopsAtSources p.sources 0 d (behind (p.defs ∷ []) opens) fault

-- why the files of a part stop it: the definitions do, or they are accepted and the source does
abbrev pub StopsAtPart : Part → Opens → Fault → Type 0
StopsAtPart p opens fault = StopsAtDefs p.defs opens fault ⊎ StopsBehindDefs p opens fault

-- why there is no part: the files stop it, or it would be longer than a source may be
abbrev pub StopsPart : Part → Opens → PartFault → Type 0
StopsPart p opens (Run fault) = StopsAtPart p opens fault
StopsPart p opens LongPart = (bytes : List ℕ) × IsPartOfFiles p opens bytes × (SOURCE_MAX < length bytes)
StopsPart p opens UnreadDefs = ⊥
StopsPart p opens (NotReport report) = ⊥
StopsPart p opens (Misplaced report number) = ⊥

-- the text is that of the definitions of parts under these, and spells them
pub record SpellsParts (d : Definitions) (text : List ℕ) : Type 0 where
  pub text_is : text ≡ definitions_text (part_definitions d)
  pub read_back : reading_of text ≡ Ok (part_definitions d)

-- and these are the definitions that the file spells
pub record AreDefsOfFile (opens : Opens) (text : List ℕ) : Type 0 where
  pub d : Definitions
  pub definitions : AreDefinitionsRead opens d
  pub spelled : SpellsParts d text

-- why the definitions of parts under these aren't spelled: their text isn't read back as they are, or memory ran out
abbrev pub StopsSpelling : Definitions → PartFault → Type 0
StopsSpelling d (Run fault) = fault ≡ NoMemory
StopsSpelling d LongPart = ⊥
StopsSpelling d UnreadDefs = ¬ (reading_of (definitions_text (part_definitions d)) ≡ Ok (part_definitions d))
StopsSpelling d (NotReport report) = ⊥
StopsSpelling d (Misplaced report number) = ⊥

-- why there are no definitions of parts: the file stops it, or their text isn't read back as they are
abbrev pub StopsDefs : List ℕ → Opens → PartFault → Type 0
StopsDefs name opens (Run fault) = StopsAtDefs name opens fault
StopsDefs name opens LongPart = ⊥
StopsDefs name opens UnreadDefs = (d : Definitions) × AreDefinitionsRead opens d × StopsSpelling d UnreadDefs
StopsDefs name opens (NotReport report) = ⊥
StopsDefs name opens (Misplaced report number) = ⊥
