-- The changes of a journal lead to what stands behind it.
use Rattle.std.proofs.Common.{◌≡◌, ◌∙◌, ◌+◌, ℕ, List, [], ◌∷◌, ◌++◌, Some, ap, slice_get, sym, take, append_assoc}
use Rattle.std.proofs.lemmas.List.{append-nil, take_more}
use Rattle.std.proofs.lemmas.List.Sums.{fold-append}
use Rattle.std.proofs.lemmas.Option.{get_or_from_slice_get, slice_get_within}
use Rattle.stream_base.specs.Limits.{AreWithinLimits, Definitions}
use Rattle.stream_base.specs.declared.change.Change.{Change}
use Rattle.stream_base.specs.declared.entry.Entry.{Entry}
use Rattle.stream_base.specs.Model.Changes.{changes_after, standing_rows}
use Rattle.model_laws.specs.Rows.{after_change, rows_after}
use Rattle.model_laws.proofs.RowChanges.{nothing_first, rows_follow}
use Rattle.shard_core.specs.Flat.{joined}
use Rattle.shard_core.specs.Shard.{changes_behind}

-- from what stands behind some entries, the changes of further ones lead to what stands behind all
lead_on : (d : Definitions) (sources : ℕ) → AreWithinLimits d → (before es : List Entry)
    → rows_after (standing_rows d sources before) (joined (changes_behind d sources before es)) ≡ standing_rows d sources (before ++ es)
lead_on d sources limits before [] = ap (standing_rows d sources) (sym (append-nil before))
lead_on d sources limits before (e ∷ es) =
    fold-append after_change (standing_rows d sources before) (changes_after d sources before e) (joined (changes_behind d sources (before ++ e ∷ []) es))
    ∙ ap (λ rows. rows_after rows (joined (changes_behind d sources (before ++ e ∷ []) es))) (sym (rows_follow d sources before e limits))
    ∙ lead_on d sources limits (before ++ e ∷ []) es
    ∙ ap (standing_rows d sources) (append_assoc before (e ∷ []) es)

pub changes_lead_there : (d : Definitions) (sources : ℕ) → AreWithinLimits d → (journal : List Entry) → rows_after [] (joined (changes_behind d sources [] journal)) ≡ standing_rows d sources journal
changes_lead_there d sources limits journal =
    ap (λ rows. rows_after rows (joined (changes_behind d sources [] journal))) (sym (nothing_first d sources))
    ∙ lead_on d sources limits [] journal

-- the rows behind one change more
pub rows_behind_more : (changes : List Change) (at : ℕ) (change : Change) → slice_get changes at ≡ Some change
    → rows_after [] (take (at + 1) changes) ≡ after_change (rows_after [] (take at changes)) change
rows_behind_more changes at change is =
    ap (rows_after []) (take_more changes at change (slice_get_within changes at change is) ∙ ap (λ x. take at changes ++ x ∷ []) (get_or_from_slice_get changes at change change is))
    ∙ fold-append after_change [] (take at changes) (change ∷ [])
