-- The final rows are in their order, each once.
use Rattle.std.proofs.Common.{◌≡◌, ℕ, List, sym, subst₂}
use Rattle.std.specs.declared.cmp.Ordering.TheVariants.{Less}
use Rattle.std.specs.Cmp.Lexicographic.{slice_cmp}
use Rattle.std.specs.List.{Contains}
use Rattle.std.specs.List.Sorted.{IsStrictlySortedBy}
use Rattle.std.specs.Ordering.{nat_cmp}
use Rattle.std.proofs.lemmas.Cmp.{nat_list_cmp_total}
use Rattle.std.proofs.lemmas.List.Elements.{All-contains}
use Rattle.stream_base.specs.declared.def.Def.{Def}
use Rattle.stream_base.specs.declared.entry.Entry.{Entry}
use Rattle.stream_base.specs.declared.limits.TheConstants.{FINAL}
use Rattle.stream_base.specs.Laws.{RiseByStart, by_row}
use Rattle.stream_base.specs.Limits.{AreWithinLimits, Definitions}
use Rattle.stream_base.specs.Kinds.{IsKindWithin}
use Rattle.stream_base.specs.Model.Changes.{rows_at, standing_at}
use Rattle.stream_base.specs.Model.Final.{all_entries, final_moment, final_rows}
use Rattle.stream_base.specs.Model.Journal.{keys_of}
use Rattle.model_laws.proofs.ChangeOrder.{sorted_flat_map}
use Rattle.model_laws.proofs.ChangesAfter.{keys_in_order}
use Rattle.stream_base.proofs.KindFacts.{standing_rises}
use Rattle.stream_base.proofs.EventOrder.{times_do_not_fall}
use Rattle.model_laws.proofs.StandingRows.{by_row_total, less_by_key, rows_at_in_order}
use Rattle.final_rows.specs.AtEnd.{AreUntied}
use Rattle.final_rows.proofs.EachShard.{early_all, own_key}
use Rattle.final_rows.proofs.Moments.{final_in_event_order}

pub final_rows_in_order : (d : Definitions) (sources : List (List Entry)) → AreWithinLimits d → AreUntied sources → IsStrictlySortedBy by_row (final_rows d sources)
unfolding final_rows
final_rows_in_order d sources limits u =
    sorted_flat_map by_row_total nat_list_cmp_total (λ key. rows_at d.windows key (final_moment (all_entries sources) key))
    (λ k l a b less c e.
    less_by_key a b (subst₂ (λ x y. slice_cmp nat_cmp x y ≡ Less) (sym (own_key d.windows k (final_moment (all_entries sources) k) a c)) (sym (own_key d.windows l (final_moment (all_entries sources) l) b e)) less))
    (keys_of (all_entries sources)) (keys_in_order (all_entries sources))
    (λ key c. rows_at_in_order d.windows key (final_moment (all_entries sources) key) (rises key))
  where
    rises : (key : List ℕ) (def : Def) → Contains d.windows def → RiseByStart (standing_at def (final_moment (all_entries sources) key))
    rises key def c =
        standing_rises def.kind (final_moment (all_entries sources) key).kept (final_moment (all_entries sources) key).marks FINAL
        (All-contains (λ (w : Def). IsKindWithin w.kind) d.windows def limits.kinds c)
        (times_do_not_fall (final_moment (all_entries sources) key).kept (final_in_event_order key (all_entries sources) (early_all sources u)))
