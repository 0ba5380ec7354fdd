-- What opens show of files that tell their bytes, where no call failed.
use Rattle.std.proofs.Common.{◌≡◌, ◌∙◌, ◌<◌, ◌+◌, ◌++◌, ℕ, true, List, [], ◌∷◌, length, take, get_or, Option, Some, None, ap, sym, subst, refl, arith, append-nil, append_assoc, length-append}
use Rattle.std.proofs.lemmas.List.{get_or-append-add, get_or-take, length-take-le}
use Rattle.stream_base.specs.Limits.{Definitions}
use Rattle.stream_base.specs.declared.entry.Entry.{Entry}
use Rattle.outside.specs.Outside.{Came, KeepsWord, Reads, back, refused}
use Rattle.outside.specs.Whole.{all_read}
use Rattle.source_feed.specs.FeedView.{given_then}
use Rattle.window_defs.specs.Reading.{reading_of}
use Rattle.std.specs.Prelude.{Ok}
use Rattle.run_inputs.specs.Causes.{AreDefinitionsRead, HasFailedRead, IsSourceRead, stream_at}
use Rattle.scotty_run.specs.InMemory.{Tells}
use Rattle.run_inputs.specs.Outside.{Asks, Opens, Telling, behind, came_at}
use Rattle.answer_laws.specs.Once.{AreWell, IsWell}

some_same : {X : Type 0} {x y : X} → Some x ≡ Some y → x ≡ y
some_same e = cc

back_same : {a b : Reads} → back a ≡ back b → a ≡ b
back_same e = cc

-- a file tells one list of bytes
pub tells_both : (told : Telling) (name : List ℕ) (P Q : List ℕ → Type 0) → Tells told name P → Tells told name Q → (bytes : List ℕ) × P bytes × Q bytes
tells_both told name P Q p q = (p.0, p.2, subst Q (some_same (sym q.1 ∙ p.1)) q.2)

-- all that was read up to the end is all that is told
all_told : (place : ℕ) (given bytes : List ℕ) → KeepsWord (all_read place given) bytes → bytes ≡ given
all_told place given bytes h = h.parts ∙ ap (λ (l : List ℕ). given ++ l) (h.all refl) ∙ append-nil given

pub word_is_all : (reads : Reads) (bytes : List ℕ) → reads.ended ≡ true → KeepsWord reads bytes → bytes ≡ reads.given
word_is_all reads bytes ended h = h.parts ∙ ap (λ (l : List ℕ). reads.given ++ l) (h.all ended) ∙ append-nil reads.given

-- of what came back from an open that went well
pub well_back : (told : Telling) (name : List ℕ) (came : Came) (reads : Reads) → IsWell (told name) came → came ≡ back reads → Tells told name (KeepsWord reads)
well_back told name came reads w e =
    let same : w.reads ≡ reads = back_same (sym w.came_back ∙ e) in
    (w.bytes, w.tells, subst (λ (r : Reads). KeepsWord r w.bytes) same w.word)

pub well_whole : (told : Telling) (name : List ℕ) (came : Came) (place : ℕ) (given : List ℕ) (P : List ℕ → Type 0) → IsWell (told name) came → came ≡ back (all_read place given) → P given → Tells told name P
well_whole told name came place given P w e h =
    let t = well_back told name came (all_read place given) w e in
    (t.0, t.1, subst P (sym (all_told place given t.0 t.2)) h)

-- nothing failed
pub well_is_unrefused : (told : Option (List ℕ)) (came : Came) → IsWell told came → came ≡ refused → ⊥
well_is_unrefused told came w e = let b : back w.reads ≡ refused = sym w.came_back ∙ e in cc

pub well_is_quiet : (told : Option (List ℕ)) (came : Came) (reads : Reads) → IsWell told came → came ≡ back reads → HasFailedRead reads → ⊥
well_is_quiet told came reads w e h =
    let q : reads.faults ≡ 0 = ap (λ (r : Reads). r.faults) (back_same (sym e ∙ w.came_back)) ∙ w.quiet in
    omega (arith, q, h)

module _ (told : Telling) (opens : Opens) (well : AreWell told opens) where
  -- the opens behind the first ones went well
  pub well_behind : (names : List (List ℕ)) → AreWell told (behind names opens)
  well_behind names i low high = well i (let n = length-append opens.before names in omega (arith, n, low)) high

  -- the open at a place among those of the call
  pub well_at : (names : List (List ℕ)) → Asks names opens → (i : ℕ) → i < length names → IsWell (told (get_or names i [])) (came_at opens i)
  well_at names asked i l =
      let size : length opens.after ≡ length opens.before + length names = ap length asked ∙ length-append opens.before names in
      let name : get_or opens.after (length opens.before + i) [] ≡ get_or names i [] = ap (λ (a : List (List ℕ)). get_or a (length opens.before + i) []) asked ∙ get_or-append-add opens.before names i [] in
      subst (λ (n : List ℕ). IsWell (told n) (came_at opens i)) name (well (length opens.before + i) (omega arith) (omega (arith, l, size)))

  -- the same of opens up to one of the names
  pub well_before : (names : List (List ℕ)) (source : ℕ) → source < length names → Asks (take (source + 1) names) opens → IsWell (told (get_or names source [])) (came_at opens source)
  well_before names source l asked =
      let size = length-take-le (source + 1) names (omega (arith, l)) in
      subst (λ (n : List ℕ). IsWell (told n) (came_at opens source)) (get_or-take (source + 1) names source [] (omega arith))
      (well_at (take (source + 1) names) asked source (omega (arith, size)))

  -- definitions that were read are those that the bytes of the file spell
  pub definitions_told : (name : List ℕ) (later : List (List ℕ)) (d : Definitions) → Asks (name ∷ later) opens → AreDefinitionsRead opens d → Tells told name (λ bytes. reading_of bytes ≡ Ok d)
  definitions_told name later d asked h = well_whole told name (came_at opens 0) (length opens.before + 0) h.bytes _ (well_at (name ∷ later) asked 0 (omega arith)) h.whole h.spelled

  -- a source that was read spells its entries
  pub source_told : (names : List (List ℕ)) (d : Definitions) (i : ℕ) (entries : List Entry) → Asks names opens → i < length names → IsSourceRead opens d i entries
      → Tells told (get_or names i []) (λ bytes. stream_at d i bytes ≡ given_then entries None)
  source_told names d i entries asked l h = well_whole told (get_or names i []) (came_at opens i) (length opens.before + i) h.bytes _ (well_at names asked i l) h.whole h.spelled

-- opens of one name and then of others, and the others' alone
pub asked_first : (opens : Opens) (name : List ℕ) (later : List (List ℕ)) → Asks later (behind (name ∷ []) opens) → Asks (name ∷ later) opens
asked_first opens name later asked = asked ∙ append_assoc opens.before (name ∷ []) later
