-- What a shard keeps: with no entry, and with one entry more.
use Rattle.std.proofs.Common.{◌≡◌, ◌∙◌, ℕ, List, [], ◌∷◌, ◌++◌, length, ap, subst, sym, None, Some}
use Rattle.std.specs.BTreeMap.{is_at}
use Rattle.std.specs.Cmp.Lexicographic.{slice_cmp}
use Rattle.std.specs.Map.{lookup}
use Rattle.std.specs.Ordering.{nat_cmp}
use Rattle.std.proofs.lemmas.Cmp.{nat_list_cmp_total}
use Rattle.stream_base.specs.Limits.{AreWithinLimits, Definitions}
use Rattle.stream_base.specs.declared.change.Change.{Change}
use Rattle.stream_base.specs.declared.entry.Entry.{Entry}
use Rattle.stream_base.specs.declared.kept.Kept.{Kept}
use Rattle.stream_base.specs.Model.Changes.{changes_after}
use Rattle.stream_base.proofs.Growing.{kept_of_nil, marks_of_nil}
use Rattle.stream_base.proofs.Rising.{sorted_nil}
use Rattle.shard_core.specs.declared.keys.KeyTable.{KeyTable}
use Rattle.shard_core.specs.Engines.{AreCurrent, IsTableWith, place_of_key}
use Rattle.shard_core.specs.Flat.{IsShard, ends_from, joined}
use Rattle.shard_core.specs.Recorded.{IsSameShard, Recorded}
use Rattle.shard_core.specs.Shard.{changes_behind}
use Rattle.shard_core.proofs.FlatFacts.{flat_push}

none_some : {X : Type 0} {x : X} → None ≡ Some x → ⊥
none_some h = cc

module _ {K : Type 0} (key_of : K → List ℕ) (fits : Definitions → List Kept → List ℕ → ℕ → K → Type 0) (next_position : K → ℕ) where
  pub empty_table : (d : Definitions) (sources : ℕ) (t : KeyTable K) → t.index ≡ [] → t.slots.items ≡ [] → t.dues.items ≡ [] → AreCurrent key_of fits next_position d sources [] t
  empty_table d sources t index slots dues = record {
    in_order = rw index (sorted_nil nat_list_cmp_total);
    aligned = ap length dues ∙ sym (ap length slots);
    counted = ap length slots ∙ sym (ap length index);
    placed = λ key p at. absurd (none_some (sym (nowhere key) ∙ at));
    current = λ key p x at. absurd (none_some (sym (nowhere key) ∙ at));
    nothing_kept = λ key at. kept_of_nil d.lateness sources key;
    no_marks = λ key at. marks_of_nil d.lateness sources key;
  }
    where
      nowhere : (key : List ℕ) → place_of_key t key ≡ None
      nowhere key = ap (lookup (is_at (slice_cmp nat_cmp key))) index

  pub empty_shard : (past : Recorded) (t : KeyTable K) (changes : List Change) (ends : List ℕ) → AreWithinLimits past.defs → past.journal ≡ [] → t.index ≡ [] → t.slots.items ≡ [] → t.dues.items ≡ [] → changes ≡ [] → ends ≡ []
      → IsShard key_of fits next_position past t changes ends
  empty_shard past t changes ends limits none index slots dues no_changes no_ends = record {
    limits = limits;
    keys_are = rw none (empty_table past.defs past.sources t index slots dues);
    changes_are = no_changes ∙ ap (λ j. joined (changes_behind past.defs past.sources [] j)) (sym none);
    ends_are = no_ends ∙ ap (λ j. ends_from 0 (changes_behind past.defs past.sources [] j)) (sym none);
  }

  pub longer_shard : (old ready new : Recorded) (e : Entry) (t : KeyTable K) (changes longer : List Change) (ends more : List ℕ)
      → AreWithinLimits old.defs
      → changes ≡ joined (changes_behind old.defs old.sources [] old.journal)
      → ends ≡ ends_from 0 (changes_behind old.defs old.sources [] old.journal)
      → IsSameShard old ready → ready.journal ≡ old.journal
      → IsSameShard ready new → new.journal ≡ ready.journal ++ e ∷ []
      → IsTableWith key_of fits next_position ready e t
      → longer ≡ changes ++ changes_after ready.defs ready.sources ready.journal e
      → more ≡ ends ++ length longer ∷ []
      → IsShard key_of fits next_position new t longer more
  longer_shard old ready new e t changes longer ends more limits are ends_are s j s' j' table longer_is more_is =
      let flat : (longer ≡ joined (changes_behind ready.defs ready.sources [] (ready.journal ++ e ∷ []))) × (more ≡ ends_from 0 (changes_behind ready.defs ready.sources [] (ready.journal ++ e ∷ []))) =
      flat_push ready.defs ready.sources ready.journal e changes longer ends more
      (are ∙ (λ i. joined (changes_behind (sym s.defs i) (sym s.sources i) [] (sym j i))))
      (ends_are ∙ (λ i. ends_from 0 (changes_behind (sym s.defs i) (sym s.sources i) [] (sym j i))))
      longer_is more_is in
      record {
        limits = subst AreWithinLimits (sym (s'.defs ∙ s.defs)) limits;
        keys_are = rw (s'.defs, s'.sources, j') table;
        changes_are = flat.0 ∙ (λ i. joined (changes_behind (sym s'.defs i) (sym s'.sources i) [] (sym j' i)));
        ends_are = flat.1 ∙ (λ i. ends_from 0 (changes_behind (sym s'.defs i) (sym s'.sources i) [] (sym j' i)));
      }
