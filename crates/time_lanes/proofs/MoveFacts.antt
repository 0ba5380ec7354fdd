-- What a move of the watermark completes.
use Rattle.std.proofs.Common.{◌≡◌, ◌∙◌, ℕ, ◌+◌, ◌*◌, ◌<◌, ◌≤◌, Bool, true, List, [], ◌++◌, map, ap, refl, sym, subst, arith, inl, inr}
use Rattle.std.specs.Prelude.{◌&&◌, nat_le, nat_lt}
use Rattle.std.specs.List.{Contains, filter}
use Rattle.std.specs.Ordering.{nat_cmp}
use Rattle.std.proofs.lemmas.Bool.{and_from, and_parts, false≢true, le-leb, leb-true, lt-ltb}
use Rattle.std.proofs.lemmas.Cmp.{nat_cmp_total}
use Rattle.std.proofs.lemmas.Simd.{map-map}
use Rattle.std.proofs.lemmas.List.Elements.{Contains-append_cases, Contains-append_right}
use Rattle.std.proofs.lemmas.List.Kept.{IsStrictlySortedBy-filter}
use Rattle.stream_base.specs.declared.change.Change.TheVariants.{New}
use Rattle.stream_base.specs.declared.def.Def.{Def}
use Rattle.stream_base.specs.declared.func.Func.{Func}
use Rattle.stream_base.specs.declared.kept.Kept.{Kept}
use Rattle.stream_base.specs.declared.kind.Kind.{Kind}
use Rattle.stream_base.specs.declared.kind.Kind.TheVariants.{Tumbling, Sliding}
use Rattle.stream_base.specs.Laws.{becomes_complete, completions}
use Rattle.stream_base.specs.Kinds.{is_timed, length_of, slide_of}
use Rattle.stream_base.specs.Model.Changes.{row_of}
use Rattle.stream_base.specs.Model.Windows.{instances_of, interval, is_within, spans, starts_of, within}
use Rattle.stream_base.proofs.KindFacts.{timed_instances}
use Rattle.stream_base.proofs.Members.{filter_has, filter_members, map_same}
use Rattle.stream_base.proofs.Rising.{none_in_nil, same_members_same_list}
use Rattle.stream_base.proofs.Spans.{starts_of_has, starts_of_is_sorted, starts_of_members}
use Rattle.stream_base.specs.Model.Moments.{moment}
use Rattle.window_laws.specs.Walk.{due_from, next_start, next_start_of}
use Rattle.window_laws.proofs.WalkFacts.{completed_from, to_next}
use Rattle.time_lanes.specs.Told.{new_at}
use Rattle.time_lanes.specs.Moves.{AreApartAbove, completed_starts}
use Rattle.time_lanes.specs.Spans.{IsSpan}
use Rattle.time_lanes.proofs.LateFacts.{nothing_dropped, over}

-- ---- without what was dropped
module _ (len slide : ℕ) (span : IsSpan len slide) (old new : ℕ) (gone kept : List Kept) (apart : (k : ℕ) → old < k * slide + len → within (k * slide) (k * slide + len) gone ≡ []) where
  abbrev test : ℕ → Bool
  test low = nat_le (next_start len slide old) low && nat_le (low + len) new

  above : (k a : ℕ) → a ≡ k * slide → test a ≡ true → old < k * slide + len
  above k a e t =
      let p = leb-true (next_start len slide old) a (and_parts (nat_le (next_start len slide old) a) (nat_le (a + len) new) t).0 in
      to_next len slide span.moves span.overlaps old k (omega arith)

  not_gone : (k : ℕ) (x : Kept) → old < k * slide + len → Contains gone x → k * slide ≤ x.time → x.time < k * slide + len → ⊥
  not_gone k x h c low high =
      let inside : is_within (k * slide) (k * slide + len) x ≡ true = and_from (nat_le (k * slide) x.time) (nat_lt x.time (k * slide + len)) (le-leb (k * slide) x.time low) (lt-ltb x.time (k * slide + len) high) in
      none_in_nil x (subst (λ l. Contains l x) (apart k h) (filter_has (is_within (k * slide) (k * slide + len)) gone x c inside))

  there : (a : ℕ) → Contains (filter test (starts_of len slide (gone ++ kept))) a → Contains (filter test (starts_of len slide kept)) a
  there a c =
      let m = filter_members test (starts_of len slide (gone ++ kept)) a c in
      let h = starts_of_members len slide span.moves span.overlaps (gone ++ kept) a m.0 in
      let high = above h.0 a h.3 m.1 in
      filter_has test (starts_of len slide kept) a
      (elim (Contains-append_cases gone kept h.1 h.2) [
        | inl d ↦ absurd (not_gone h.0 h.1 high d (omega (arith, h.3, h.4)) (omega (arith, h.3, h.5)))
        | inr d ↦ subst (Contains (starts_of len slide kept)) (sym h.3) (starts_of_has len slide span.moves span.overlaps kept h.1 h.0 d (omega (arith, h.3, h.4)) (omega (arith, h.3, h.5)))
      ])
      m.1

  back : (a : ℕ) → Contains (filter test (starts_of len slide kept)) a → Contains (filter test (starts_of len slide (gone ++ kept))) a
  back a c =
      let m = filter_members test (starts_of len slide kept) a c in
      let h = starts_of_members len slide span.moves span.overlaps kept a m.0 in
      filter_has test (starts_of len slide (gone ++ kept)) a
      (subst (Contains (starts_of len slide (gone ++ kept))) (sym h.3) (starts_of_has len slide span.moves span.overlaps (gone ++ kept) h.1 h.0 (Contains-append_right gone kept h.1 h.2) (omega (arith, h.3, h.4)) (omega (arith, h.3, h.5))))
      m.1

  same_due : due_from len slide (gone ++ kept) (next_start len slide old) new ≡ due_from len slide kept (next_start len slide old) new
  same_due =
      same_members_same_list nat_cmp_total (filter test (starts_of len slide (gone ++ kept))) (filter test (starts_of len slide kept))
      (IsStrictlySortedBy-filter nat_cmp test (starts_of len slide (gone ++ kept)) (starts_of_is_sorted len slide (gone ++ kept)))
      (IsStrictlySortedBy-filter nat_cmp test (starts_of len slide kept) (starts_of_is_sorted len slide kept))
      there back

  same_new : (window : ℕ) (key : List ℕ) (func : Func) (low : ℕ) → Contains (due_from len slide kept (next_start len slide old) new) low → new_at window key func len (gone ++ kept) low ≡ new_at window key func len kept low
  same_new window key func low c =
      let m = filter_members test (starts_of len slide kept) low c in
      let h = starts_of_members len slide span.moves span.overlaps kept low m.0 in
      let none : within low (low + len) gone ≡ [] = subst (λ n. within n (n + len) gone ≡ []) (sym h.3) (apart h.0 (above h.0 low h.3 m.1)) in
      ap (λ i. New (row_of window key func i)) (over low (low + len) (gone ++ kept) kept (nothing_dropped low (low + len) gone kept none))

  pub told_without : (window : ℕ) (key : List ℕ) (func : Func) → map (new_at window key func len (gone ++ kept)) (due_from len slide (gone ++ kept) (next_start len slide old) new) ≡ map (new_at window key func len kept) (due_from len slide kept (next_start len slide old) new)
  told_without window key func =
      ap (map (new_at window key func len (gone ++ kept))) same_due
      ∙ map_same (new_at window key func len (gone ++ kept)) (new_at window key func len kept) (due_from len slide kept (next_start len slide old) new) (same_new window key func)

pub completions_told : (window : ℕ) (key : List ℕ) (def : Def) (old new : ℕ) (gone kept : List Kept) (marks : List ℕ) → is_timed def.kind ≡ true → IsSpan (length_of def.kind) (slide_of def.kind) → AreApartAbove def.kind old gone
    → map (new_at window key def.func (length_of def.kind) kept) (completed_starts def.kind kept old new) ≡ completions key (moment (gone ++ kept) marks old) new (window, def)
completions_told window key def old new gone kept marks timed span apart =
    sym (told_without (length_of def.kind) (slide_of def.kind) span old new gone kept apart window key def.func)
    ∙ sym
    (ap (λ l. map (λ i. New (row_of window key def.func i)) (filter (becomes_complete old new) l)) (timed_instances def.kind (gone ++ kept) marks timed)
    ∙ ap (map (λ i. New (row_of window key def.func i))) (completed_from (length_of def.kind) (slide_of def.kind) (gone ++ kept) old new span.moves span.overlaps)
    ∙ map-map (λ i. New (row_of window key def.func i)) (λ low. interval low (low + length_of def.kind) (gone ++ kept)) (due_from (length_of def.kind) (slide_of def.kind) (gone ++ kept) (next_start_of def.kind old) new))
