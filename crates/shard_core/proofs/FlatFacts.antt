-- The changes under the entries, one behind the other.
use Rattle.std.proofs.Common.{◌≡◌, ◌∙◌, ◌≤◌, ◌<◌, ◌+◌, ◌-◌, ℕ, zero, suc, List, [], ◌∷◌, ◌++◌, length, get_or, take, drop, ap, sym, refl, subst, arith, cond, false, append_assoc, length-append}
use Rattle.std.specs.Prelude.{slice_get, ◌==◌}
use Rattle.std.specs.Option.{option_map_or}
use Rattle.std.proofs.lemmas.Bool.{ne_eqb}
use Rattle.std.proofs.lemmas.List.{append-nil, drop-drop, drop_at, length-drop, take_at}
use Rattle.std.proofs.lemmas.List.Concat.{flat_map-append}
use Rattle.stream_base.specs.Limits.{Definitions}
use Rattle.stream_base.specs.declared.change.Change.{Change}
use Rattle.stream_base.specs.declared.entry.Entry.{Entry}
use Rattle.stream_base.specs.Model.Changes.{changes_after, changes_at}
use Rattle.shard_core.specs.Flat.{ends_from, joined, start_at}
use Rattle.shard_core.specs.Shard.{changes_behind}

-- ---- the changes behind a journal
pub length-changes_behind : (d : Definitions) (sources : ℕ) (before es : List Entry) → length (changes_behind d sources before es) ≡ length es
length-changes_behind d sources before [] = refl
length-changes_behind d sources before (e ∷ es) = ap suc (length-changes_behind d sources (before ++ e ∷ []) es)

-- the changes at a position are those of its entry behind the entries before it
at_position : (d : Definitions) (sources : ℕ) (before es : List Entry) (p : ℕ) → p < length es → get_or (changes_behind d sources before es) p [] ≡ option_map_or (λ e. changes_after d sources (before ++ take p es) e) (slice_get es p) []
at_position d sources before [] p h = absurd (omega arith)
at_position d sources before (e ∷ es) zero h = ap (λ bs. changes_after d sources bs e) (sym (append-nil before))
at_position d sources before (e ∷ es) (suc p) h =
    at_position d sources (before ++ e ∷ []) es p (omega arith)
    ∙ ap (λ bs. option_map_or (λ x. changes_after d sources bs x) (slice_get es p) []) (append_assoc before (e ∷ []) (take p es))

pub changes_at_position : (d : Definitions) (sources : ℕ) (journal : List Entry) (p : ℕ) → p < length journal → get_or (changes_behind d sources [] journal) p [] ≡ changes_at d sources journal p
changes_at_position d sources journal p h = at_position d sources [] journal p h

behind_push : (d : Definitions) (sources : ℕ) (before es : List Entry) (e : Entry) → changes_behind d sources before (es ++ e ∷ []) ≡ changes_behind d sources before es ++ changes_after d sources (before ++ es) e ∷ []
behind_push d sources before [] e = ap (λ bs. changes_after d sources bs e ∷ []) (sym (append-nil before))
behind_push d sources before (x ∷ es) e =
    ap (λ cs. changes_after d sources before x ∷ cs)
    (behind_push d sources (before ++ x ∷ []) es e
    ∙ ap (λ bs. changes_behind d sources (before ++ x ∷ []) es ++ changes_after d sources bs e ∷ []) (append_assoc before (x ∷ []) es))

-- ---- lists put together
length-ends : (start : ℕ) (lists : List (List Change)) → length (ends_from start lists) ≡ length lists
length-ends start [] = refl
length-ends start (cs ∷ lists) = ap suc (length-ends (start + length cs) lists)

pub joined_push : (lists : List (List Change)) (more : List Change) → joined (lists ++ more ∷ []) ≡ joined lists ++ more
joined_push lists more = flat_map-append (λ cs. cs) lists (more ∷ []) ∙ ap (λ ys. joined lists ++ ys) (append-nil more)

pub ends_push : (start : ℕ) (lists : List (List Change)) (more : List Change) → ends_from start (lists ++ more ∷ []) ≡ ends_from start lists ++ (start + length (joined lists) + length more) ∷ []
ends_push start [] more = ap (λ n. (n + length more) ∷ []) (omega arith)
ends_push start (cs ∷ lists) more =
    ap (λ es. (start + length cs) ∷ es)
    (ends_push (start + length cs) lists more
    ∙ ap (λ n. ends_from (start + length cs) lists ++ (n + length more) ∷ []) (omega (arith, length-append cs (joined lists))))

-- where the list at a position begins, from the first list's start
abbrev begins : ℕ → List (List Change) → ℕ → ℕ
begins start lists zero = start
begins start lists (suc p) = get_or (ends_from start lists) p 0

begins_later : (start : ℕ) (cs : List Change) (lists : List (List Change)) (p : ℕ) → begins start (cs ∷ lists) (suc p) ≡ begins (start + length cs) lists p
begins_later start cs lists zero = refl
begins_later start cs lists (suc p) = refl

-- the list at a position lies between where it begins and where it ends
record Lies (all : List Change) (begin end : ℕ) (list : List Change) : Type 0 where
  rises : begin ≤ end
  within : end ≤ length all
  part : take (end - begin) (drop begin all) ≡ list

lies : (all : List Change) (start : ℕ) (lists : List (List Change)) (p : ℕ) → start ≤ length all → drop start all ≡ joined lists → p < length lists → Lies all (begins start lists p) (get_or (ends_from start lists) p 0) (get_or lists p [])
lies all start [] p s h l = absurd (omega arith)
lies all start (cs ∷ lists) zero s h l =
    let as_long : length all - start ≡ length cs + length (joined lists) = sym (length-drop start all) ∙ ap length h ∙ length-append cs (joined lists) in
    let size : start + length cs - start ≡ length cs = omega arith in
    record {
      rises = omega arith;
      within = omega (arith, as_long);
      part = (λ i. take (size i) (h i)) ∙ take_at cs (joined lists) (length cs) refl;
    }
lies all start (cs ∷ lists) (suc p) s h l =
    let as_long : length all - start ≡ length cs + length (joined lists) = sym (length-drop start all) ∙ ap length h ∙ length-append cs (joined lists) in
    let rest : drop (start + length cs) all ≡ joined lists = sym (drop-drop (length cs) start all) ∙ ap (drop (length cs)) h ∙ drop_at cs (joined lists) (length cs) refl in
    subst (λ b. Lies all b (get_or (ends_from (start + length cs) lists) p 0) (get_or lists p [])) (sym (begins_later start cs lists p)) (lies all (start + length cs) lists p (omega (arith, as_long)) rest (omega arith))

start_is : (lists : List (List Change)) (p : ℕ) → start_at (ends_from 0 lists) p ≡ begins 0 lists p
start_is lists zero = refl
start_is lists (suc p) =
    let later : (suc p == 0) ≡ false = ne_eqb (suc p) 0 (λ e. omega arith) in
    let before : suc p - 1 ≡ p = omega arith in
    (λ i. cond (later i) 0 (get_or (ends_from 0 lists) (before i) 0))

-- the changes under the entry at a position, as they are kept
module _ (d : Definitions) (sources : ℕ) (journal : List Entry) (changes : List Change) (ends : List ℕ) (changes_are : changes ≡ joined (changes_behind d sources [] journal)) (ends_are : ends ≡ ends_from 0 (changes_behind d sources [] journal)) (p : ℕ) (h : p < length journal) where
  there : Lies changes (start_at ends p) (get_or ends p 0) (get_or (changes_behind d sources [] journal) p [])
  there =
      rw (ends_are, start_is (changes_behind d sources [] journal) p)
      (lies changes 0 (changes_behind d sources [] journal) p (omega arith) changes_are (rw (length-changes_behind d sources [] journal) h))

  pub has_end : p < length ends
  has_end = rw (ends_are, length-ends 0 (changes_behind d sources [] journal), length-changes_behind d sources [] journal) h

  pub starts_before : start_at ends p ≤ get_or ends p 0
  starts_before = there.rises

  pub ends_within : get_or ends p 0 ≤ length changes
  ends_within = there.within

  pub part_is : take (get_or ends p 0 - start_at ends p) (drop (start_at ends p) changes) ≡ changes_at d sources journal p
  part_is = there.part ∙ changes_at_position d sources journal p h

-- one entry more, with its changes behind all others and its end
pub flat_push : (d : Definitions) (sources : ℕ) (journal : List Entry) (e : Entry) (changes longer : List Change) (ends more : List ℕ)
    → changes ≡ joined (changes_behind d sources [] journal) → ends ≡ ends_from 0 (changes_behind d sources [] journal)
    → longer ≡ changes ++ changes_after d sources journal e → more ≡ ends ++ length longer ∷ []
    → (longer ≡ joined (changes_behind d sources [] (journal ++ e ∷ []))) × (more ≡ ends_from 0 (changes_behind d sources [] (journal ++ e ∷ [])))
flat_push d sources journal e changes longer ends more are ends_are longer_is more_is =
    let new : List Change = changes_after d sources journal e in
    let pushed : changes_behind d sources [] (journal ++ e ∷ []) ≡ changes_behind d sources [] journal ++ new ∷ [] = behind_push d sources [] journal e in
    let size : length longer ≡ 0 + length (joined (changes_behind d sources [] journal)) + length new = ap length longer_is ∙ length-append changes new ∙ ap (λ l. length l + length new) are ∙ omega arith in (
      longer_is ∙ ap (λ l. l ++ new) are ∙ sym (joined_push (changes_behind d sources [] journal) new) ∙ ap joined (sym pushed),
      more_is ∙ (λ i. ends_are i ++ size i ∷ []) ∙ sym (ends_push 0 (changes_behind d sources [] journal) new) ∙ ap (ends_from 0) (sym pushed),
    )
