-- How a call ends that reads a file and goes on behind it.
use Rattle.std.proofs.Common.{◌≡◌, ◌∙◌, ◌<◌, ◌+◌, ◌++◌, ℕ, suc, List, [], ◌∷◌, length, take, get_or, Result, Ok, Err, ap, sym, subst, arith, append_assoc, length-append, ⊎_elim}
use Rattle.std.proofs.lemmas.Bool.{cases_lt}
use Rattle.std.proofs.lemmas.List.{get_or_append_left}
use Rattle.outside.specs.Outside.{Came, back}
use Rattle.outside.specs.Whole.{all_read}
use Rattle.stream_base.specs.Limits.{Definitions}
use Rattle.emission_text.specs.declared.fault.Fault.{Fault}
use Rattle.run_inputs.specs.Causes.{AreDefinitionsRead}
use Rattle.run_inputs.specs.Judging.{IsReportRead}
use Rattle.run_inputs.specs.Outside.{Asks, Ends, IsOver, Opens, OpensInOrder, ReadsFile, Telling, behind, came_at, opens_of}
use Rattle.run_inputs.proofs.Results.{if_err, if_ok}

-- definitions that were read at the first open stay read
pub definitions_as : (opens more : Opens) (d : Definitions) → more.before ≡ opens.before → came_at more 0 ≡ came_at opens 0 → AreDefinitionsRead opens d → AreDefinitionsRead more d
definitions_as opens more d same at h = record {
  bytes = h.bytes;
  whole = at ∙ h.whole ∙ ap (λ (b : List (List ℕ)). back (all_read (length b + 0) h.bytes)) (sym same);
  spelled = h.spelled;
}

-- and so is a report
pub report_as : (opens more : Opens) (text : List ℕ) → more.before ≡ opens.before → came_at more 0 ≡ came_at opens 0 → IsReportRead opens text → IsReportRead more text
report_as opens more text same at h = record {
  whole = at ∙ h.whole ∙ ap (λ (b : List (List ℕ)). back (all_read (length b + 0) text)) (sym same);
  short = h.short;
}

module _ {F : Type 0} (asked : F → List (List ℕ)) (came : F → ℕ → Came) (told : F → Telling) where
  module _ (name : List ℕ) (old mid new : F) (opened : Asks (name ∷ []) (opens_of asked came old mid)) where
    -- what holds of the opens behind the first holds of them by all opens
    pub as_behind : (P : Opens → Type 0) → P (opens_of asked came mid new) → P (behind (name ∷ []) (opens_of asked came old new))
    as_behind P h = subst (λ (b : List (List ℕ)). P (record { before = b; after = asked new; came = came new })) opened h

    mid_size : length (asked mid) ≡ length (asked old) + 1
    mid_size = ap length opened ∙ length-append (asked old) (name ∷ [])

    module _ (names : List (List ℕ)) (first : OpensInOrder asked came told (name ∷ []) old mid) (later : OpensInOrder asked came told names mid new) where
      -- what became of the first open stays
      pub first_stays : came_at (opens_of asked came old new) 0 ≡ came_at (opens_of asked came old mid) 0
      first_stays = later.earlier (length (asked old) + 0) (omega (arith, mid_size))

      -- one name and then others are opened in order
      pub then_others : OpensInOrder asked came told (name ∷ names) old new
      then_others = record {
        count = suc later.count;
        in_order = later.in_order ∙ ap (λ (a : List (List ℕ)). a ++ take later.count names) opened ∙ append_assoc (asked old) (name ∷ []) (take later.count names);
        over = λ i least within. ⊎_elim
            (λ (less : i < length (asked mid)).
            subst (λ (c : Came). IsOver (told old (get_or (asked new) i [])) c) (sym (later.earlier i less))
            (subst (λ (n : List ℕ). IsOver (told old n) (came mid i)) (sym (at i less)) (first.over i least less)))
            (λ past. subst (λ t. IsOver t (came new i)) (first.same (get_or (asked new) i [])) (later.over i past within))
            (cases_lt i (length (asked mid)));
        earlier = λ i less. later.earlier i (omega (arith, less, mid_size)) ∙ first.earlier i less;
        same = λ which. later.same which ∙ first.same which;
      }
        where
          at : (i : ℕ) → i < length (asked mid) → get_or (asked new) i [] ≡ get_or (asked mid) i []
          at i less = ap (λ (a : List (List ℕ)). get_or a i []) later.in_order ∙ get_or_append_left (asked mid) (take later.count names) [] i less

  -- of the names that may be opened, the first alone was
  pub first_alone : (name : List ℕ) (names : List (List ℕ)) (old mid : F) → Asks (name ∷ []) (opens_of asked came old mid) → OpensInOrder asked came told (name ∷ []) old mid → OpensInOrder asked came told (name ∷ names) old mid
  first_alone name names old mid opened first = record {
    count = 1;
    in_order = opened;
    over = first.over;
    earlier = first.earlier;
    same = first.same;
  }

  module _ {A B : Type 0} (good : Opens → A → Type 0) (stop : Opens → Fault → Type 0) (found : Opens → B → Type 0) (stopped : Opens → Fault → Type 0)
      (name known : List ℕ) (is : name ≡ known) (names : List (List ℕ)) (old mid : F) where
    -- a fault of the first file ends the call
    pub ends_at : (fault : Fault) → ReadsFile asked came told name old mid (Err fault) good stop
        → (stop (opens_of asked came old mid) fault → stopped (opens_of asked came old mid) fault)
        → Ends asked came told (known ∷ names) old mid (Err fault) found stopped
    ends_at fault read why = record {
      files = subst (λ n. OpensInOrder asked came told (n ∷ names) old mid) is (first_alone name names old mid read.opened (read.ends).files);
      ok = tt;
      stopped = why (read.ends).stopped;
    }

    -- behind the first file the call ends as what comes there does
    pub ends_behind : (new : F) (x : A) (r : Result B Fault) (found_there : Opens → B → Type 0) (stopped_there : Opens → Fault → Type 0)
        → ReadsFile asked came told name old mid (Ok x) good stop → Ends asked came told names mid new r found_there stopped_there
        → (came_at (opens_of asked came old new) 0 ≡ came_at (opens_of asked came old mid) 0 → good (opens_of asked came old mid) x → (y : B) → found_there (behind (known ∷ []) (opens_of asked came old new)) y → found (opens_of asked came old new) y)
        → (came_at (opens_of asked came old new) 0 ≡ came_at (opens_of asked came old mid) 0 → good (opens_of asked came old mid) x → (fault : Fault) → stopped_there (behind (known ∷ []) (opens_of asked came old new)) fault → stopped (opens_of asked came old new) fault)
        → Ends asked came told (known ∷ names) old new r found stopped
    ends_behind new x r found_there stopped_there read there held why =
        let opened = subst (λ n. Asks (n ∷ []) (opens_of asked came old mid)) is read.opened in
        let first = subst (λ n. OpensInOrder asked came told (n ∷ []) old mid) is (read.ends).files in
        let stays = first_stays known old mid new opened names first there.files in
        record {
          files = then_others known old mid new opened names first there.files;
          ok = if_ok r (found_there (opens_of asked came mid new)) (found (opens_of asked came old new)) there.ok
              (λ y h. held stays (read.ends).ok y (as_behind known old mid new opened (λ o. found_there o y) h));
          stopped = if_err r (stopped_there (opens_of asked came mid new)) (stopped (opens_of asked came old new)) there.stopped
              (λ fault h. why stays (read.ends).ok fault (as_behind known old mid new opened (λ o. stopped_there o fault) h));
        }
