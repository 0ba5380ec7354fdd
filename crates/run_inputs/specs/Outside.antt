-- What a call opened and what was read there, and how calls that open and read files end.
use Rattle.std.specs.Prelude.{◌≡◌, ◌≤◌, ◌<◌, ◌+◌, ◌++◌, ◌⊎◌, ℕ, List, [], ◌∷◌, length, map, take, Option, Result, IfOk, IfErr, IfSome, slice_index_or, string_bytes, String, ⊤}
use Rattle.std.specs.declared.alloc.Global.{Global}
use Rattle.outside.specs.Outside.{Came, KeepsWord, Reads, back, nothing_read, out, refused, unasked}
use Rattle.outside.specs.Whole.{all_read}
use Rattle.emission_text.specs.declared.fault.Fault.{Fault}

-- the bytes under each name, where they are told
abbrev pub Telling : Type 0
Telling = List ℕ → Option (List ℕ)

-- the opens of a call: all names that were asked for before it, and after it, in order, and what became of the open of each number
pub record Opens : Type 0 where
  pub before : List (List ℕ)
  pub after : List (List ℕ)
  pub came : ℕ → Came

-- the opens of a call on files, which were these before it, and these after it
abbrev pub opens_of : {F : Type 0} → (F → List (List ℕ)) → (F → ℕ → Came) → F → F → Opens
opens_of asked came old new = record { before = asked old; after = asked new; came = came new }

-- the call opened these names, in this order, and no others
abbrev pub Asks : List (List ℕ) → Opens → Type 0
Asks names opens = opens.after ≡ opens.before ++ names

-- the opens of the call behind those of these names
abbrev pub behind : List (List ℕ) → Opens → Opens
behind names opens = record { before = opens.before ++ names; after = opens.after; came = opens.came }

-- what became of the open at this place among those of the call
abbrev pub came_at : Opens → ℕ → Came
came_at opens i = opens.came (length opens.before + i)

-- the source that was opened there was read whole, and came back: these are its bytes
abbrev pub WasReadWhole : Opens → ℕ → List ℕ → Type 0
WasReadWhole opens i bytes = came_at opens i ≡ back (all_read (length opens.before + i) bytes)

-- the source that was opened there came back, and nothing of it was read
abbrev pub WasNotRead : Opens → ℕ → Type 0
WasNotRead opens i = came_at opens i ≡ back (nothing_read (length opens.before + i))

-- the source that was opened there came back, and this holds of what was read of it
abbrev pub CameBack : Opens → ℕ → (Reads → Type 0) → Type 0
CameBack opens i P = (reads : Reads) × (came_at opens i ≡ back reads) × P reads

-- an open is over: it was refused, or its source came back; what that gave is how the bytes begin that the file tells, if it tells any, and all of them where its end was seen
abbrev pub IsOver : Option (List ℕ) → Came → Type 0
IsOver told unasked = ⊥
IsOver told refused = ⊤
IsOver told out = ⊥
IsOver told (back reads) = IfSome told (KeepsWord reads)

-- all opens of the call are over, by what the files of these names tell
abbrev pub AreOver : Telling → Opens → Type 0
AreOver told opens = (i : ℕ) → length opens.before ≤ i → i < length opens.after → IsOver (told (slice_index_or opens.after i [])) (opens.came i)

module _ {F : Type 0} (asked : F → List (List ℕ)) (came : F → ℕ → Came) (told : F → Telling) where
  -- how a call that may open files of these names leaves them: it opened the first ones of the names, in order, and nothing else; each of these opens is over; those of before it are as they were, and so is what is told
  pub record OpensInOrder (names : List (List ℕ)) (old new : F) : Type 0 where
    pub count : ℕ
    pub in_order : asked new ≡ asked old ++ take count names
    pub over : AreOver (told old) (opens_of asked came old new)
    pub earlier : (i : ℕ) → i < length (asked old) → came new i ≡ came old i
    pub same : (which : List ℕ) → told new which ≡ told old which

  -- how such a call ends: with a value of which `good` holds, by its opens, or with a fault that `stop` explains by them
  pub record Ends {A : Type 0} (names : List (List ℕ)) (old new : F) (result : Result A Fault) (good : Opens → A → Type 0) (stop : Opens → Fault → Type 0) : Type 0 where
    pub files : OpensInOrder names old new
    pub ok : IfOk result (good (opens_of asked came old new))
    pub stopped : IfErr result (stop (opens_of asked came old new))

  -- how a call ends whose words are the names of the files
  abbrev pub EndsOver : {A : Type 0} → List (String Global) → F → F → Result A Fault → (List (List ℕ) → Opens → A → Type 0) → (List (List ℕ) → Opens → Fault → Type 0) → Type 0
  EndsOver words old new result good stop = Ends (map string_bytes words) old new result (good (map string_bytes words)) (stop (map string_bytes words))

  -- how a call ends that opens the file of one name, reads it and gives it back
  pub record ReadsFile {A : Type 0} (name : List ℕ) (old new : F) (result : Result A Fault) (good : Opens → A → Type 0) (stop : Opens → Fault → Type 0) : Type 0 where
    pub opened : Asks (name ∷ []) (opens_of asked came old new)
    pub ends : Ends (name ∷ []) old new result good stop

  -- each of these is given back: the place of its open has what was read of it
  module _ {E : Type 0} (reads : E → Reads) (word : E → Option (List ℕ)) where
    -- these came from opens in a row, of which the first has this number
    abbrev pub ArePlaced : ℕ → List E → Type 0
    ArePlaced base given = (i : ℕ) (e : E) → i < length given → (reads (slice_index_or given i e)).place ≡ base + i

    pub record GivesBack (given : List E) (old new : F) : Type 0 where
      pub asked_same : asked new ≡ asked old
      pub back_at : (base : ℕ) → ArePlaced base given → (i : ℕ) (e : E) → i < length given → came new (base + i) ≡ back (reads (slice_index_or given i e))
      pub others : (base : ℕ) → ArePlaced base given → (i : ℕ) → (i < base) ⊎ (base + length given ≤ i) → came new i ≡ came old i
      pub word_kept : (i : ℕ) (e : E) → i < length given → IfSome (word (slice_index_or given i e)) (KeepsWord (reads (slice_index_or given i e)))
      pub same : (which : List ℕ) → told new which ≡ told old which
