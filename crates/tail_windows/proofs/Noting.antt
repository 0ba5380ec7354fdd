-- What is noted of the ends of periods, and what is left of it behind a watermark.
use Rattle.std.proofs.Common.{◌≡◌, ◌∙◌, ℕ, ◌<◌, ◌≤◌, Bool, true, false, cond, List, [], ◌∷◌, ◌++◌, map, take, drop, ap, sym, refl, subst, inl, inr, ⊎_elim, arith, Option, None, Some, Ok, Err}
use Rattle.std.specs.Prelude.{◌⊎◌, ◌&&◌, IfNone, IfSome, Result, not, slice_get, is_some, nat_le, nat_lt, unwrap_or}
use Rattle.std.specs.BTreeMap.{is_at}
use Rattle.std.specs.BTreeSet.{insert_key}
use Rattle.std.specs.Cmp.Lexicographic.{slice_cmp}
use Rattle.std.specs.List.{Contains, position_or_len}
use Rattle.std.specs.Map.{lookup}
use Rattle.std.specs.Cmp.{tied_itself}
use Rattle.std.specs.Ordering.{is_eq, is_lt, nat_cmp}
use Rattle.std.specs.BTreeMap.Range.{range_contains}
use Rattle.std.specs.declared.ops.Bound.TheVariants.{Included, Unbounded}
use Rattle.std.specs.Result.{OnErr, OnOk}
use Rattle.std.proofs.lemmas.Bool.{and_parts, false≢true, false_from_ne_true}
use Rattle.std.proofs.lemmas.Bool.Decides.{nat_tests}
use Rattle.std.proofs.lemmas.Cmp.{nat_cmp_total}
use Rattle.std.proofs.lemmas.List.{take-append-drop}
use Rattle.std.proofs.lemmas.List.Elements.{Contains-append_cases, Contains-append_left}
use Rattle.std.proofs.lemmas.Map.Lookups.{exact_bytes, exact_unsigned}
use Rattle.std.proofs.lemmas.Map.Views.{Contains-from_lookup, tells_apart}
use Rattle.stream_base.specs.declared.entry.Entry.{Entry}
use Rattle.stream_base.specs.Model.Watermark.{water_of}
use Rattle.stream_base.proofs.Distinct.{All_from_members}
use Rattle.stream_base.proofs.Filters.{filter_none}
use Rattle.stream_base.proofs.Rising.{none_in_nil, Contains-cons_cases, Contains-insert_key, Contains-insert_key_self}
use Rattle.model_laws.proofs.WatermarkFacts.{water_rises}
use Rattle.watermark_table.specs.Watched as table
use Rattle.tail_windows.specs.Following.{list_of}
use Rattle.tail_windows.specs.Noted.{AreNoted, IsNoted, IsReached, IsReady, keys_at}
use Rattle.tail_windows.specs.Samples.{ends_in, put_sample, row_before}
use Rattle.tail_windows.specs.Tails.{end_of}
use Rattle.tail_windows.specs.Walks.{moved_changes}
use Rattle.tail_windows.specs.declared.change.TailChange.TheVariants.{New}
use Rattle.tail_windows.specs.declared.def.TailDef.{TailDef}
use Rattle.tail_windows.specs.declared.sample.Sample.{Sample}
use Rattle.tail_windows.proofs.Ends.{behind_among, end_among, end_is_among}

-- ---- the keys at an end
-- the batch in which a key is noted
pub noted_entry : (batches : List (ℕ × List (List ℕ))) (at : ℕ) (k : List ℕ) → IsNoted batches at k → (b : List (List ℕ)) × Contains batches (at, b) × Contains b k
noted_entry batches at k c = by (lookup (is_at (nat_cmp at)) batches) refl c
  where
    by : (o : Option (List (List ℕ))) → lookup (is_at (nat_cmp at)) batches ≡ o → Contains (unwrap_or o []) k → (b : List (List ℕ)) × Contains batches (at, b) × Contains b k
    by None e c = absurd (none_in_nil k c)
    by (Some b) e c = (b, Contains-from_lookup (tells_apart exact_unsigned) at b batches e, c)

-- an end that is reached lies in the range up to the watermark
pub in_reach : (at water : ℕ) → at ≤ water → range_contains nat_cmp Unbounded (Included water) at ≡ true
in_reach at water le = ap not (false_from_ne_true (is_lt (nat_cmp water at)) (λ h. let lt : water < at = grind (arith, nat_tests, h) in absurd (omega arith)))

-- an empty batch for an end that has none leaves what is noted
pub noted_with_empty : (old new : List (ℕ × List (List ℕ))) (at : ℕ) (l : List (List ℕ)) → is_some (lookup (is_at (nat_cmp at)) old) ≡ false
    → ((q : ℕ) → lookup (is_at (nat_cmp q)) new ≡ cond (is_at (nat_cmp at) q) (Some l) (lookup (is_at (nat_cmp q)) old))
    → (a : ℕ) (k : List ℕ) → IsNoted old a k → IsNoted new a k
noted_with_empty old new at l absent put a k c = subst (λ o. Contains (unwrap_or o []) k) (sym (put a)) (by (is_at (nat_cmp at) a) refl)
  where
    none : (o : Option (List (List ℕ))) → is_some o ≡ false → Contains (unwrap_or o []) k → ⊥
    none None e d = none_in_nil k d
    none (Some b) e d = false≢true (sym e)

    by : (b : Bool) → is_at (nat_cmp at) a ≡ b → Contains (unwrap_or (cond b (Some l) (lookup (is_at (nat_cmp a)) old)) []) k
    by true here =
        let same : at ≡ a = tells_apart exact_unsigned at a here in
        absurd (none (lookup (is_at (nat_cmp at)) old) absent (subst (λ n. Contains (keys_at old n) k) (sym same) c))
    by false here = c

module _ {E : Type 0} (answer : Result (Unit {0}) E) (old new : List (ℕ × List (List ℕ))) (at : ℕ) (key : List ℕ)
    (added : (a : ℕ) → OnOk answer (keys_at new a ≡ cond (is_at (nat_cmp at) a) (insert_key (slice_cmp nat_cmp) (keys_at old at) key) (keys_at old a)))
    (refused : (a : ℕ) → OnErr answer (keys_at new a ≡ cond (is_at (nat_cmp at) a) (keys_at old at) (keys_at old a))) where
  -- a key that is put in leaves what is noted
  pub noted_with_key : (a : ℕ) (k : List ℕ) → IsNoted old a k → IsNoted new a k
  noted_with_key a k c = by answer (added a) (refused a)
    where
      more : (b : Bool) → is_at (nat_cmp at) a ≡ b → Contains (cond b (insert_key (slice_cmp nat_cmp) (keys_at old at) key) (keys_at old a)) k
      more true here =
          let same : at ≡ a = tells_apart exact_unsigned at a here in
          Contains-insert_key (slice_cmp nat_cmp) key (keys_at old at) k (subst (λ n. Contains (keys_at old n) k) (sym same) c)
      more false here = c

      as_many : (b : Bool) → is_at (nat_cmp at) a ≡ b → Contains (cond b (keys_at old at) (keys_at old a)) k
      as_many true here =
          let same : at ≡ a = tells_apart exact_unsigned at a here in
          subst (λ n. Contains (keys_at old n) k) (sym same) c
      as_many false here = c

      by : (r : Result (Unit {0}) E) → OnOk r (keys_at new a ≡ cond (is_at (nat_cmp at) a) (insert_key (slice_cmp nat_cmp) (keys_at old at) key) (keys_at old a))
          → OnErr r (keys_at new a ≡ cond (is_at (nat_cmp at) a) (keys_at old at) (keys_at old a)) → Contains (keys_at new a) k
      by (Ok u) is left = subst (λ l. Contains l k) (sym is) (more (is_at (nat_cmp at) a) refl)
      by (Err u) put_in is = subst (λ l. Contains l k) (sym is) (as_many (is_at (nat_cmp at) a) refl)

  -- and it is noted itself
  pub key_noted : OnOk answer (IsNoted new at key)
  key_noted = by answer (added at)
    where
      itself : is_at (nat_cmp at) at ≡ true
      itself = ap is_eq (tied_itself nat_cmp_total at)

      by : (r : Result (Unit {0}) E) → OnOk r (keys_at new at ≡ cond (is_at (nat_cmp at) at) (insert_key (slice_cmp nat_cmp) (keys_at old at) key) (keys_at old at)) → OnOk r (IsNoted new at key)
      by (Ok u) is =
          let put : keys_at new at ≡ insert_key (slice_cmp nat_cmp) (keys_at old at) key = is ∙ ap (λ b. cond b (insert_key (slice_cmp nat_cmp) (keys_at old at) key) (keys_at old at)) itself in
          subst (λ l. Contains l key) (sym put) (Contains-insert_key_self (slice_cmp nat_cmp) exact_bytes key (keys_at old at))
      by (Err u) is = tt

-- what is noted behind the first end stays without it
pub noted_behind_first : (p : ℕ × List (List ℕ)) (rest : List (ℕ × List (List ℕ))) (at : ℕ) (k : List ℕ) → p.0 < at → IsNoted (p ∷ rest) at k → IsNoted rest at k
noted_behind_first p rest at k later c =
    let other : is_at (nat_cmp at) p.0 ≡ false = false_from_ne_true (is_at (nat_cmp at) p.0) (λ here. let same : at ≡ p.0 = tells_apart exact_unsigned at p.0 here in absurd (omega arith)) in
    subst (λ b. Contains (unwrap_or (cond b (Some p.1) (lookup (is_at (nat_cmp at)) rest)) []) k) other c

first_end : Option (ℕ × List (List ℕ)) → ℕ
first_end None = 0
first_end (Some p) = p.0

-- once a first end that is reached has left, what is noted behind the watermark is there still
pub popped : (old new : List (ℕ × List (List ℕ))) (water : ℕ) (r : Option (ℕ × List (List ℕ))) → IsReached old water → IfSome r (λ p. old ≡ p ∷ new) → IfNone r (new ≡ old)
    → (at : ℕ) (k : List ℕ) → IsNoted old at k → water < at → IsNoted new at k
unfolding first_end
popped old new water None reached is none at k c later = subst (λ l. IsNoted l at k) (sym none) c
popped old new water (Some p) (e, first, le) is none at k c later =
    let same : p.0 ≡ e.0 = ap first_end (sym (ap (λ l. slice_get l 0) is) ∙ first) in
    noted_behind_first p new at k (omega arith) (subst (λ l. IsNoted l at k) is c)

-- ---- one sample more
among_with : (samples : List Sample) (s x : Sample) → Contains (put_sample samples s) x → (s ≡ x) ⊎ Contains samples x
among_with samples s x c =
    let n : ℕ = position_or_len (λ (y : Sample). nat_lt s.time y.time) samples in
    ⊎_elim
    (λ d. inr (subst (λ l. Contains l x) (take-append-drop n samples) (Contains-append_left (take n samples) (drop n samples) x d)))
    (λ d. ⊎_elim (λ e. inl e) (λ f. inr (behind_among samples n x f)) (Contains-cons_cases s (drop n samples) x d))
    (Contains-append_cases (take n samples) (s ∷ drop n samples) x c)

end_with : (period : ℕ) (samples : List Sample) (s : Sample) (at : ℕ) → Contains (ends_in period (put_sample samples s)) at → (end_of period s.time ≡ at) ⊎ Contains (ends_in period samples) at
end_with period samples s at c =
    let (x, there, is) = end_among period (put_sample samples s) at c in
    ⊎_elim
    (λ e. inl (ap (λ (z : Sample). end_of period z.time) e ∙ is))
    (λ d. inr (subst (λ n. Contains (ends_in period samples) n) is (end_is_among period samples x d)))
    (among_with samples s x there)

module _ {E : Type 0} (answer : Result (Unit {0}) E) (period water : ℕ) (lists new : List (List ℕ × List Sample)) (batches more : List (ℕ × List (List ℕ))) (key : List ℕ) (s : Sample)
    (noted : AreNoted period lists batches water) (kept : (a : ℕ) (k : List ℕ) → IsNoted batches a k → IsNoted more a k) (own : water < end_of period s.time → IsNoted more (end_of period s.time) key)
    (put : (other : List ℕ) → OnOk answer (list_of new other ≡ cond (is_at (slice_cmp nat_cmp key) other) (put_sample (list_of lists key) s) (list_of lists other)))
    (refused : (other : List ℕ) → OnErr answer (list_of new other ≡ list_of lists other)) where
  -- with a sample of a key whose end is noted, all are
  pub noted_with_sample : AreNoted period new more water
  noted_with_sample k at c late = by answer (put k) (refused k)
    where
      own_by : (b : Bool) → is_at (slice_cmp nat_cmp key) k ≡ b → Contains (ends_in period (cond b (put_sample (list_of lists key) s) (list_of lists k))) at → IsNoted more at k
      own_by true here d =
          let same : key ≡ k = tells_apart exact_bytes key k here in
          ⊎_elim
          (λ (e : end_of period s.time ≡ at). subst (λ q. IsNoted more at q) same (subst (λ n. IsNoted more n key) e (own (omega arith))))
          (λ old. kept at k (noted k at (subst (λ q. Contains (ends_in period (list_of lists q)) at) same old) late))
          (end_with period (list_of lists key) s at d)
      own_by false here d = kept at k (noted k at d late)

      by : (r : Result (Unit {0}) E) → OnOk r (list_of new k ≡ cond (is_at (slice_cmp nat_cmp key) k) (put_sample (list_of lists key) s) (list_of lists k)) → OnErr r (list_of new k ≡ list_of lists k) → IsNoted more at k
      by (Ok u) is left = own_by (is_at (slice_cmp nat_cmp key) k) refl (subst (λ l. Contains (ends_in period l) at) is c)
      by (Err u) put_in is = kept at k (noted k at (subst (λ l. Contains (ends_in period l) at) is c) late)

-- ---- a move of the watermark
-- of a key that isn't due nothing comes
pub none_of_others : (def : TailDef) (lists : List (List ℕ × List Sample)) (batches : List (ℕ × List (List ℕ))) (due : List (List ℕ)) (old new : ℕ) → AreNoted def.period lists batches old
    → ((at : ℕ) (k : List ℕ) → IsNoted batches at k → at ≤ new → Contains due k)
    → (k : List ℕ) → ¬ Contains due k → moved_changes def k old new (list_of lists k) ≡ []
none_of_others def lists batches due old new noted found k absent =
    ap (map (λ at. New (row_before def k (list_of lists k) at)))
    (filter_none (λ at. nat_lt old at && nat_le at new) (ends_in def.period (list_of lists k))
    (All_from_members (λ at. (nat_lt old at && nat_le at new) ≡ false) (ends_in def.period (list_of lists k))
    (λ at c. false_from_ne_true (nat_lt old at && nat_le at new)
    (λ here.
    let both : (nat_lt old at ≡ true) × (nat_le at new ≡ true) = and_parts (nat_lt old at) (nat_le at new) here in
    let late : old < at = grind (arith, nat_tests, both.0) in
    let reached : at ≤ new = grind (arith, nat_tests, both.1) in
    absent (found at k (noted k at c late) reached)))))

-- behind a word on progress the watermark has not fallen, so the periods that end after it are noted still
pub ready_behind : (period : ℕ) (old new : table.Watched) (lists : List (List ℕ × List Sample)) (batches left : List (ℕ × List (List ℕ))) (e : Entry) (answer water : ℕ) → table.HasTaken old e new answer
    → ((journal : List Entry) → table.StandsFor old journal → water ≡ water_of (table.sources_of old) (journal ++ e ∷ []))
    → ((at : ℕ) (k : List ℕ) → IsNoted batches at k → water < at → IsNoted left at k) → IsReady period old lists batches → IsReady period new lists left
ready_behind period old new lists batches left e answer water takes is kept ready = record {
  journal = ready.journal ++ e ∷ [];
  stands = behind;
  noted = λ k at c late.
      let later : old.water < at = omega (arith, rises, late) in
      let beyond : water < at = omega (arith, same, late) in
      kept at k (ready.noted k at c later) beyond;
}
  where
    behind : table.StandsFor new (ready.journal ++ e ∷ [])
    behind = takes.stands ready.journal ready.stands

    same : water ≡ new.water
    same = is ready.journal ready.stands ∙ ap (λ n. water_of n (ready.journal ++ e ∷ [])) (sym (takes.same).sources) ∙ sym behind.water

    rises : old.water ≤ new.water
    rises =
        let up : water_of (table.sources_of old) ready.journal ≤ water_of (table.sources_of old) (ready.journal ++ e ∷ []) = water_rises (table.sources_of old) ready.journal e in
        let was : old.water ≡ water_of (table.sources_of old) ready.journal = (ready.stands).water in
        let now : water ≡ water_of (table.sources_of old) (ready.journal ++ e ∷ []) = is ready.journal ready.stands in
        omega (arith, same)

-- no entry yet
pub ready_for_none : (period : ℕ) (waters : table.Watched) → table.StandsFor waters [] → IsReady period waters [] []
ready_for_none period waters stands = record {
  journal = [];
  stands = stands;
  noted = λ k at c late. let (s, there, is) = end_among period [] at c in absurd (none_in_nil s there);
}
