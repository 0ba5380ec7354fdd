-- A journal is followed, entry by entry.
use Rattle.std.proofs.Common.{◌≡◌, ◌∙◌, ◌+◌, ◌<◌, ◌≤◌, ◌++◌, ℕ, ◌^◌, ltb, leb, ◌&&◌, true, List, [], ◌∷◌, Some, All, length, take, drop, get_or, slice_get, map, suc, refl, ap, sym, subst, append_assoc, append-nil, arith}
use Rattle.std.specs.Prelude.{Vec}
use Rattle.std.proofs.Math.ListN.{drop_of_length-le}
use Rattle.std.proofs.lemmas.Bool.{and_parts, leb-true}
use Rattle.std.proofs.lemmas.List.{at_drop_more, length-map, take_more}
use Rattle.std.proofs.lemmas.List.Elements.{All-contains}
use Rattle.std.proofs.lemmas.Option.{get_or_from_slice_get, slice_get_within}
use Rattle.stream_base.specs.Key.{is_key}
use Rattle.stream_base.specs.Limits.{is_value}
use Rattle.stream_base.specs.declared.entry.Entry.{Entry}
use Rattle.stream_base.specs.declared.limits.TheConstants.{TIME_MAX}
use Rattle.stream_base.specs.declared.what.What.{What}
use Rattle.stream_base.specs.declared.what.What.TheVariants.{Tuple, Mark, Water, Idle, End}
use Rattle.stream_base.specs.Model.Journals.{is_entry_within}
use Rattle.stream_base.specs.Model.What.{is_what_within}
use Rattle.tail_windows.specs.Following.{Followed, StandsFor, changes_behind, lateness_of, number_of_sources, time_in}
use Rattle.tail_windows.specs.Tails.{tail_changes_after}
use Rattle.tail_windows.specs.declared.def.TailDef.{TailDef}
use Rattle.tail_windows.specs.declared.change.TailChange.{TailChange}
use Rattle.tail_text.specs.Following.{HasFollowed}
use Rattle.tail_text.specs.Texts.{ByPosition, tail_changes_behind, tail_changes_in}

-- how far a journal is followed: its first entries, so many; with the changes of the others, those that are listed are all
pub record IsAlong (def : TailDef) (lateness sources : ℕ) (journal : List Entry) (position : ℕ) (f : Followed) (lists : ByPosition) : Type 0 where
  pub def_is : f.def ≡ def
  pub lateness_is : lateness_of f ≡ lateness
  pub sources_are : number_of_sources f ≡ sources
  pub stands : StandsFor f (take position journal)
  pub lists_are : lists ++ tail_changes_behind def lateness sources (take position journal) (drop position journal) ≡ tail_changes_in def lateness sources journal

-- an entry's time is within the limit
time_within : (what : What) → is_what_within what ≡ true → time_in what ≤ TIME_MAX
time_within (Tuple key time value) h = leb-true time TIME_MAX (and_parts (leb time TIME_MAX) (is_value value && is_key key) h).0
time_within (Mark key time) h = leb-true time TIME_MAX (and_parts (leb time TIME_MAX) (is_key key) h).0
time_within (Water time) h = leb-true time TIME_MAX h
time_within Idle h = omega arith
time_within End h = omega arith

pub entry_time : (e : Entry) → is_entry_within e ≡ true → time_in e.what ≤ TIME_MAX
entry_time e h = time_within e.what (and_parts (ltb e.source (2 ^ 16)) (is_what_within e.what) h).1

-- what holds of all entries holds of the one at a position
pub at_position : (P : Entry → Type 0) (journal : List Entry) (position : ℕ) (e : Entry) → All P journal → slice_get journal position ≡ Some e → P e
at_position P journal position e all found =
    subst P (get_or_from_slice_get journal position e e found) (all position e (slice_get_within journal position e found))

-- one entry more
taken_more : (journal : List Entry) (position : ℕ) (e : Entry) → slice_get journal position ≡ Some e → take position journal ++ e ∷ [] ≡ take (position + 1) journal
taken_more journal position e found =
    ap (λ x. take position journal ++ x ∷ []) (sym (get_or_from_slice_get journal position e e found))
    ∙ sym (take_more journal position e (slice_get_within journal position e found))

behind_more : (def : TailDef) (lateness sources : ℕ) (journal : List Entry) (position : ℕ) (e : Entry) → slice_get journal position ≡ Some e
    → tail_changes_behind def lateness sources (take position journal) (drop position journal)
    ≡ tail_changes_after def lateness sources (take position journal) e ∷ tail_changes_behind def lateness sources (take (position + 1) journal) (drop (position + 1) journal)
behind_more def lateness sources journal position e found =
    at_drop_more (tail_changes_behind def lateness sources (take position journal)) journal position e (slice_get_within journal position e found)
    ∙ ap (λ x. tail_changes_after def lateness sources (take position journal) x ∷ tail_changes_behind def lateness sources (take position journal ++ x ∷ []) (drop (position + 1) journal)) (get_or_from_slice_get journal position e e found)
    ∙ ap (λ before. tail_changes_after def lateness sources (take position journal) e ∷ tail_changes_behind def lateness sources before (drop (position + 1) journal)) (taken_more journal position e found)

-- the changes are those by the definitions
own_changes : (f : Followed) (def : TailDef) (lateness sources : ℕ) (journal : List Entry) (e : Entry) → f.def ≡ def → lateness_of f ≡ lateness → number_of_sources f ≡ sources
    → changes_behind f journal e ≡ tail_changes_after def lateness sources journal e
own_changes f def lateness sources journal e d l s =
    ap (λ x. tail_changes_after x (lateness_of f) (number_of_sources f) journal e) d
    ∙ ap (λ x. tail_changes_after def x (number_of_sources f) journal e) l
    ∙ ap (λ x. tail_changes_after def lateness x journal e) s

pub along_more : (def : TailDef) (lateness sources : ℕ) (journal : List Entry) (position : ℕ) (e : Entry) (old new : Followed) (lists later : ByPosition)
    → IsAlong def lateness sources journal position old lists → slice_get journal position ≡ Some e → HasFollowed old (take position journal) e new lists later
    → IsAlong def lateness sources journal (position + 1) new later
along_more def lateness sources journal position e old new lists later a found h = record {
  def_is = h.same.def ∙ a.def_is;
  lateness_is = h.same.lateness ∙ a.lateness_is;
  sources_are = h.same.sources ∙ a.sources_are;
  stands = subst (StandsFor new) (taken_more journal position e found) h.stands;
  lists_are =
      let rest = tail_changes_behind def lateness sources (take (position + 1) journal) (drop (position + 1) journal) in
      ap (λ l. l ++ rest) h.kept
      ∙ append_assoc lists (changes_behind old (take position journal) e ∷ []) rest
      ∙ ap (λ c. lists ++ c ∷ rest) (own_changes old def lateness sources (take position journal) e a.def_is a.lateness_is a.sources_are)
      ∙ ap (λ l. lists ++ l) (sym (behind_more def lateness sources journal position e found))
      ∙ a.lists_are;
}

-- at the end all changes are listed
pub along_end : (def : TailDef) (lateness sources : ℕ) (journal : List Entry) (position : ℕ) (f : Followed) (lists : ByPosition) → length journal ≤ position
    → IsAlong def lateness sources journal position f lists → lists ≡ tail_changes_in def lateness sources journal
along_end def lateness sources journal position f lists past a =
    sym (append-nil lists)
    ∙ ap (λ rest. lists ++ tail_changes_behind def lateness sources (take position journal) rest) (sym (drop_of_length-le journal {i = position} past))
    ∙ a.lists_are

-- there are as many lists as entries
pub length_behind : (def : TailDef) (lateness sources : ℕ) (before es : List Entry) → length (tail_changes_behind def lateness sources before es) ≡ length es
length_behind def lateness sources before [] = refl
length_behind def lateness sources before (e ∷ es) = ap suc (length_behind def lateness sources (before ++ e ∷ []) es)

pub as_many : {Z : Type 0} (def : TailDef) (lateness sources : ℕ) (journal : List Entry) (vectors : List (Vec TailChange Z)) → map (λ v. v.items) vectors ≡ tail_changes_in def lateness sources journal → length vectors ≡ length journal
as_many def lateness sources journal vectors is = sym (length-map vectors (λ v. v.items)) ∙ ap length is ∙ length_behind def lateness sources [] journal
