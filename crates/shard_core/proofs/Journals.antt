-- A journal that is longer by one entry.
use Rattle.std.proofs.Common.{◌≡◌, ◌∙◌, ◌<◌, ℕ, zero, suc, List, [], ◌∷◌, ◌++◌, length, take, ap, sym, refl, subst, arith, true, false, Some, None, ◌⊎◌, inl, inr, length-append}
use Rattle.std.specs.Prelude.{slice_get}
use Rattle.std.proofs.lemmas.List.{take-append-le}
use Rattle.std.proofs.lemmas.List.Elements.{All-push}
use Rattle.std.proofs.Math.Seq.{take-append_seam}
use Rattle.stream_base.specs.Limits.{AreWithinLimits}
use Rattle.stream_base.specs.declared.entry.Entry.{Entry}
use Rattle.stream_base.specs.Model.Watermark.{has_ended}
use Rattle.stream_base.specs.Model.Journals.{is_entry_within}
use Rattle.watermark_table.specs.Watched.{StandsFor, sources_of}
use Rattle.shard_core.specs.declared.past.Past.TheInside.{Inside}
use Rattle.shard_core.specs.Past.{IsPast}
use Rattle.shard_core.specs.Shard.{AreKnown, HasNothingBehindAnEnd, IsJournal, IsKnown, IsNext}

none_some : {X : Type 0} {x : X} → None ≡ Some x → ⊥
none_some h = cc

-- where an element of a list with one more stands
slice_get_push : {X : Type 0} (xs : List X) (y x : X) (n : ℕ) → slice_get (xs ++ y ∷ []) n ≡ Some x → ((slice_get xs n ≡ Some x) × (n < length xs)) ⊎ ((x ≡ y) × (n ≡ length xs))
slice_get_push [] y x zero h = inr (cc, refl)
slice_get_push [] y x (suc n) h = absurd (none_some h)
slice_get_push (z ∷ xs) y x zero h = inl (h, omega arith)
slice_get_push (z ∷ xs) y x (suc n) h = elim (slice_get_push xs y x n h) [ inl p ↦ inl (p.0, omega (arith, p.1)) | inr p ↦ inr (p.0, ap suc p.1) ]

open_push : (journal : List Entry) (e : Entry) → HasNothingBehindAnEnd journal → has_ended e.source journal ≡ false → HasNothingBehindAnEnd (journal ++ e ∷ [])
open_push journal e before goes n x at =
    elim (slice_get_push journal e x n at) [
      | inl p ↦ ap (has_ended x.source) (take-append-le n journal (e ∷ []) (omega (arith, p.1))) ∙ before n x p.0
      | inr p ↦ (λ i. has_ended (p.0 i).source (take (p.1 i) (journal ++ e ∷ []))) ∙ ap (has_ended e.source) (take-append_seam journal (e ∷ [])) ∙ goes
    ]

pub within_push : (sources : ℕ) (journal : List Entry) (e : Entry) → AreKnown sources journal → IsKnown sources e → AreKnown sources (journal ++ e ∷ [])
within_push sources journal e h k = record {
  known_sources = All-push (λ x. x.source < sources) journal e h.known_sources k.source;
  within = All-push (λ x. is_entry_within x ≡ true) journal e h.within k.within;
}

-- a journal with its next entry
pub journal_push : (sources : ℕ) (journal : List Entry) (e : Entry) → IsJournal sources journal → IsNext sources journal e
    → IsJournal sources (journal ++ e ∷ [])
journal_push sources journal e h next = record {
  short = rw length-append (omega arith);
  known = within_push sources journal e h.known next.known;
  open_before = open_push journal e h.open_before next.goes_on;
}

-- what is kept of the past, one entry on
pub past_push : (old new : Inside) (e : Entry) → IsPast old
    → new.defs ≡ old.defs
    → new.sources ≡ old.sources
    → sources_of new.waters ≡ sources_of old.waters
    → (new.waters).lateness ≡ (old.waters).lateness
    → StandsFor new.waters (old.journal.items ++ e ∷ [])
    → new.journal.items ≡ old.journal.items ++ e ∷ []
    → IsNext (sources_of old.waters) old.journal.items e
    → IsPast new
past_push old new e h defs number sources lateness stands journal next = record {
  limits = subst AreWithinLimits (sym defs) h.limits;
  sources = sources ∙ h.sources ∙ sym number;
  some = rw number h.some;
  lateness = lateness ∙ h.lateness ∙ ap (λ d. d.lateness) (sym defs);
  waters = subst (StandsFor new.waters) (sym journal) stands;
  journal_is = rw (sources, journal) (journal_push (sources_of old.waters) old.journal.items e h.journal_is next);
}
