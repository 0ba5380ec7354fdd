-- The changes at a position of a journal.
use Rattle.std.proofs.Common.{◌≡◌, ◌∙◌, ℕ, ◌<◌, ◌≤◌, List, [], ◌∷◌, ◌++◌, length, take, ap, arith}
use Rattle.std.specs.Prelude.{slice_get}
use Rattle.std.specs.Option.{option_map_or}
use Rattle.std.proofs.lemmas.List.{take-append-le}
use Rattle.std.proofs.lemmas.Option.{slice_get_past}
use Rattle.std.proofs.Math.Seq.{take-append_seam}
use Rattle.stream_base.specs.declared.entry.Entry.{Entry}
use Rattle.stream_base.specs.Limits.{Definitions}
use Rattle.stream_base.specs.Model.Changes.{changes_after, changes_at}
use Rattle.model_laws.proofs.Fronts.{slice_get_front, slice_get_seam}

-- they are those of the entry there, behind the entries before it
pub changes_at_entry : (d : Definitions) (sources : ℕ) (before : List Entry) (e : Entry) (more : List Entry) → changes_at d sources (before ++ e ∷ more) (length before) ≡ changes_after d sources before e
changes_at_entry d sources before e more =
    ap (λ o. option_map_or (changes_after d sources (take (length before) (before ++ e ∷ more))) o []) (slice_get_seam before e more)
    ∙ ap (λ j. changes_after d sources j e) (take-append_seam before (e ∷ more))

-- they stay as the journal grows
pub changes_at_stay : (d : Definitions) (sources : ℕ) (journal more : List Entry) (position : ℕ) → position < length journal → changes_at d sources (journal ++ more) position ≡ changes_at d sources journal position
changes_at_stay d sources journal more position l =
    ap (λ o. option_map_or (changes_after d sources (take position (journal ++ more))) o []) (slice_get_front journal more position l)
    ∙ ap (λ j. option_map_or (changes_after d sources j) (slice_get journal position) []) (take-append-le position journal more (omega arith))

-- and there are none behind its end
pub changes_beyond : (d : Definitions) (sources : ℕ) (journal : List Entry) (position : ℕ) → length journal ≤ position → changes_at d sources journal position ≡ []
changes_beyond d sources journal position l = ap (λ o. option_map_or (changes_after d sources (take position journal)) o []) (slice_get_past journal position l)
