-- Sources that may be watched.
use Rattle.std.proofs.Common.{◌≡◌, ◌∙◌, ℕ, zero, suc, ◌+◌, ◌^◌, ◌<◌, true, false, List, [], ◌∷◌, ◌++◌, length, map, ap, sym, refl, subst, arith, get_or, Some, inl, inr}
use Rattle.std.specs.Prelude.{◌⊎◌, ◌↔◌, All, Vec, slice_get}
use Rattle.std.specs.declared.alloc.Global.{Global}
use Rattle.std.proofs.Math.Seq.{get_or-append_seam}
use Rattle.std.proofs.lemmas.Bool.{false≢true}
use Rattle.std.proofs.lemmas.List.{get_or_append_left, length-append}
use Rattle.std.proofs.lemmas.List.Elements.{All-get_or, All-push}
use Rattle.std.proofs.lemmas.Option.{get_or_from_slice_get, slice_get_within}
use Rattle.stream_base.specs.declared.entry.Entry.{Entry}
use Rattle.stream_base.specs.declared.what.What.TheVariants.{End}
use Rattle.stream_base.specs.Model.Journals.{is_entry_within}
use Rattle.stream_base.specs.Model.What.{is_end}
use Rattle.live_board.specs.Watched.{AreEntriesOf, MayWatch}

last_or_before : (n many : ℕ) → n < many + 1 → (n < many) ⊎ (n ≡ many)
last_or_before n many l = grind (arith, l)

-- entries of a source that are no ends, and then its end
pub ended : (source : ℕ) (xs : List Entry) (e : Entry) → All (λ x. x.source ≡ source) xs → All (λ x. is_entry_within x ≡ true) xs → All (λ x. is_end x.what ≡ false) xs
    → e.source ≡ source → is_entry_within e ≡ true → is_end e.what ≡ true → AreEntriesOf source (xs ++ e ∷ [])
ended source xs e own within open_ones own_end within_end is_last = record {
  some = omega (arith, length-append xs (e ∷ []));
  own = All-push (λ x. x.source ≡ source) xs e own own_end;
  within = All-push (λ x. is_entry_within x ≡ true) xs e within within_end;
  ends = λ n x has. by n x (get_or_from_slice_get (xs ++ e ∷ []) n x x has)
      (last_or_before n (length xs) (omega (arith, slice_get_within (xs ++ e ∷ []) n x has, length-append xs (e ∷ []))));
}
  where
    by : (n : ℕ) (x : Entry) → get_or (xs ++ e ∷ []) n x ≡ x → (n < length xs) ⊎ (n ≡ length xs) → (is_end x.what ≡ true) ↔ (n + 1 ≡ length (xs ++ e ∷ []))
    by n x is (inl l) =
        let goes_on : is_end x.what ≡ false = subst (λ y. is_end y.what ≡ false) (sym (get_or_append_left xs (e ∷ []) x n l) ∙ is) (All-get_or (λ y. is_end y.what ≡ false) xs n x l open_ones) in
        (λ t. absurd (false≢true (sym goes_on ∙ t)), λ same. absurd (omega (arith, l, same, length-append xs (e ∷ []))))
    by n x is (inr l) =
        let same : e ≡ x = sym (get_or-append_seam xs e [] x) ∙ ap (λ k. get_or (xs ++ e ∷ []) k x) (sym l) ∙ is in
        (λ t. omega (arith, l, length-append xs (e ∷ [])), λ t. subst (λ y. is_end y.what ≡ true) same is_last)

-- an end of any source is within its limits
pub end_within : (source : ℕ) → source < 2 ^ 16 → is_entry_within (record { source = source; what = End }) ≡ true
end_within source l = grind (arith, l)

-- one source, for one reader
pub may_watch_one : (first : List Entry) → AreEntriesOf 0 first → MayWatch 1 3 (first ∷ [])
may_watch_one first a = record {
  some_readers = omega arith;
  few_readers = omega arith;
  few_reads = omega arith;
  some_sources = omega arith;
  few_sources = omega arith;
  entries = by;
}
  where
    by : (i : ℕ) → i < 1 → AreEntriesOf i (get_or (first ∷ []) i [])
    by zero l = a
    by (suc k) l = absurd (omega (arith, l))

-- two sources, for two readers
pub may_watch_two : (first second : List Entry) → AreEntriesOf 0 first → AreEntriesOf 1 second → MayWatch 2 3 (first ∷ second ∷ [])
may_watch_two first second a b = record {
  some_readers = omega arith;
  few_readers = omega arith;
  few_reads = omega arith;
  some_sources = omega arith;
  few_sources = omega arith;
  entries = by;
}
  where
    by : (i : ℕ) → i < 2 → AreEntriesOf i (get_or (first ∷ second ∷ []) i [])
    by zero l = a
    by (suc zero) l = b
    by (suc (suc k)) l = absurd (omega (arith, l))
