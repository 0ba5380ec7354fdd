-- A journal that is longer by one entry: its watermarks, and what is kept of a key.
use Rattle.std.proofs.Common.{◌≡◌, ◌∙◌, ℕ, Bool, true, false, cond, List, [], ◌∷◌, ◌++◌, length, fold, ap, sym, refl, subst, Option, None, Some, append_assoc}
use Rattle.std.specs.List.{filter_map, cons_option}
use Rattle.std.specs.Option.{option_map_or}
use Rattle.std.specs.Ordering.{nat_cmp}
use Rattle.std.specs.BTreeSet.{insert_key}
use Rattle.std.specs.Cmp.Lexicographic.{slice_cmp}
use Rattle.std.proofs.lemmas.List.{append-nil}
use Rattle.std.proofs.lemmas.List.Elements.{filter_map-append}
use Rattle.stream_base.specs.declared.entry.Entry.{Entry}
use Rattle.stream_base.specs.declared.kept.Kept.{Kept}
use Rattle.stream_base.specs.Model.Journal.{on_time_after, on_time, tuples_in, put_in_order, in_event_order, marks_in, kept_of, marks_of, keys_of}
use Rattle.stream_base.specs.Model.Watermark.{water_of}
use Rattle.stream_base.specs.Model.What.{is_late, tuple_in, mark_in, key_in}
use Rattle.stream_base.specs.Laws.{accepted_tuple, accepted_mark, on_time_entry}

-- what is on time after one entry more
pub on_time_after_push : (lateness sources : ℕ) (before es : List Entry) (e : Entry) → on_time_after lateness sources before (es ++ e ∷ []) ≡ on_time_after lateness sources before es ++ on_time_entry lateness sources (before ++ es) e
unfolding on_time_after
on_time_after_push lateness sources before [] e = subst (λ b. on_time_entry lateness sources before e ≡ on_time_entry lateness sources b e) (sym (append-nil before)) refl
on_time_after_push lateness sources before (x ∷ es) e =
    by (is_late lateness (water_of sources before) x.what)
    (subst (λ b. on_time_after lateness sources (before ++ x ∷ []) (es ++ e ∷ []) ≡ on_time_after lateness sources (before ++ x ∷ []) es ++ on_time_entry lateness sources b e) (append_assoc before (x ∷ []) es) (on_time_after_push lateness sources (before ++ x ∷ []) es e))
  where
    by : (b : Bool) → on_time_after lateness sources (before ++ x ∷ []) (es ++ e ∷ []) ≡ on_time_after lateness sources (before ++ x ∷ []) es ++ on_time_entry lateness sources (before ++ x ∷ es) e
        → cond {A = List (ℕ × Entry)} b (on_time_after lateness sources (before ++ x ∷ []) (es ++ e ∷ [])) ((length before, x) ∷ on_time_after lateness sources (before ++ x ∷ []) (es ++ e ∷ []))
        ≡ cond {A = List (ℕ × Entry)} b (on_time_after lateness sources (before ++ x ∷ []) es) ((length before, x) ∷ on_time_after lateness sources (before ++ x ∷ []) es) ++ on_time_entry lateness sources (before ++ x ∷ es) e
    by true h = h
    by false h = λ i. (length before, x) ∷ h i

pub on_time_push : (lateness sources : ℕ) (journal : List Entry) (e : Entry) → on_time lateness sources (journal ++ e ∷ []) ≡ on_time lateness sources journal ++ on_time_entry lateness sources journal e
on_time_push lateness sources journal e = on_time_after_push lateness sources [] journal e

-- the tuples of a key after one entry more
pub tuples_in_push : (key : List ℕ) (entries : List (ℕ × Entry)) (p : ℕ × Entry) → tuples_in key (entries ++ p ∷ []) ≡ tuples_in key entries ++ tuples_in key (p ∷ [])
tuples_in_push key entries p = filter_map-append (λ q. tuple_in key q.0 (q.1).what) entries (p ∷ [])

module _ {A B S : Type 0} (f : S → B → S) (h : A → Option B) where
  fold_over : (s : S) (xs ys : List B) → fold f s (xs ++ ys) ≡ fold f (fold f s xs) ys
  fold_over s [] ys = refl
  fold_over s (x ∷ xs) ys = fold_over (f s x) xs ys

  fold_one : (s : S) (left_out : Bool) (a : A) → fold f s (filter_map h (cond left_out [] (a ∷ []))) ≡ option_map_or (f s) (cond left_out None (h a)) s
  fold_one s true a = refl
  fold_one s false a = by (h a)
    where
      by : (o : Option B) → fold f s (cons_option o []) ≡ option_map_or (f s) o s
      by None = refl
      by (Some b) = refl

  fold_of_more : (s : S) (xs : List A) (left_out : Bool) (a : A) → fold f s (filter_map h (xs ++ cond left_out [] (a ∷ []))) ≡ option_map_or (f (fold f s (filter_map h xs))) (cond left_out None (h a)) (fold f s (filter_map h xs))
  fold_of_more s xs left_out a =
      ap (fold f s) (filter_map-append h xs (cond left_out [] (a ∷ [])))
      ∙ fold_over s (filter_map h xs) (filter_map h (cond left_out [] (a ∷ [])))
      ∙ fold_one (fold f s (filter_map h xs)) left_out a

-- what is kept of a key after one entry more: the entry is put in order where it is a tuple of the key that is not late
pub kept_of_push : (lateness sources : ℕ) (key : List ℕ) (journal : List Entry) (e : Entry) → kept_of lateness sources key (journal ++ e ∷ []) ≡ option_map_or (put_in_order (kept_of lateness sources key journal)) (accepted_tuple lateness sources key journal e) (kept_of lateness sources key journal)
unfolding kept_of
kept_of_push lateness sources key journal e =
    ap (λ l. in_event_order (tuples_in key l)) (on_time_push lateness sources journal e)
    ∙ fold_of_more put_in_order (λ (q : ℕ × Entry). tuple_in key q.0 (q.1).what) [] (on_time lateness sources journal) (is_late lateness (water_of sources journal) e.what) (length journal, e)

-- the marks of a key after one entry more
pub marks_of_push : (lateness sources : ℕ) (key : List ℕ) (journal : List Entry) (e : Entry) → marks_of lateness sources key (journal ++ e ∷ []) ≡ option_map_or (insert_key nat_cmp (marks_of lateness sources key journal)) (accepted_mark lateness sources key journal e) (marks_of lateness sources key journal)
unfolding marks_of
marks_of_push lateness sources key journal e =
    ap (λ l. marks_in key l) (on_time_push lateness sources journal e)
    ∙ fold_of_more (insert_key nat_cmp) (λ (q : ℕ × Entry). mark_in key (q.1).what) [] (on_time lateness sources journal) (is_late lateness (water_of sources journal) e.what) (length journal, e)

-- the keys after one entry more
pub keys_of_push : (journal : List Entry) (e : Entry) → keys_of (journal ++ e ∷ []) ≡ option_map_or (insert_key (slice_cmp nat_cmp) (keys_of journal)) (key_in e.what) (keys_of journal)
unfolding keys_of
keys_of_push journal e = fold_of_more (insert_key (slice_cmp nat_cmp)) (λ (x : Entry). key_in x.what) [] journal false e

-- the same by cases
pub kept_of_late : (lateness sources : ℕ) (key : List ℕ) (journal : List Entry) (e : Entry) → is_late lateness (water_of sources journal) e.what ≡ true → kept_of lateness sources key (journal ++ e ∷ []) ≡ kept_of lateness sources key journal
kept_of_late lateness sources key journal e late =
    kept_of_push lateness sources key journal e ∙ ap (λ b. option_map_or (put_in_order (kept_of lateness sources key journal)) (cond b None (tuple_in key (length journal) e.what)) (kept_of lateness sources key journal)) late

pub kept_of_tuple : (lateness sources : ℕ) (key : List ℕ) (journal : List Entry) (e : Entry) (x : Kept) → is_late lateness (water_of sources journal) e.what ≡ false → tuple_in key (length journal) e.what ≡ Some x → kept_of lateness sources key (journal ++ e ∷ []) ≡ put_in_order (kept_of lateness sources key journal) x
kept_of_tuple lateness sources key journal e x on_time it =
    kept_of_push lateness sources key journal e ∙ (λ i. option_map_or (put_in_order (kept_of lateness sources key journal)) (cond (on_time i) None (it i)) (kept_of lateness sources key journal))

pub kept_of_other : (lateness sources : ℕ) (key : List ℕ) (journal : List Entry) (e : Entry) → tuple_in key (length journal) e.what ≡ None → kept_of lateness sources key (journal ++ e ∷ []) ≡ kept_of lateness sources key journal
kept_of_other lateness sources key journal e it = kept_of_push lateness sources key journal e ∙ by (is_late lateness (water_of sources journal) e.what) (tuple_in key (length journal) e.what) it
  where
    by : (b : Bool) (o : Option Kept) → o ≡ None → option_map_or (put_in_order (kept_of lateness sources key journal)) (cond b None o) (kept_of lateness sources key journal) ≡ kept_of lateness sources key journal
    by true o h = refl
    by false o h = rw h refl

pub marks_of_late : (lateness sources : ℕ) (key : List ℕ) (journal : List Entry) (e : Entry) → is_late lateness (water_of sources journal) e.what ≡ true → marks_of lateness sources key (journal ++ e ∷ []) ≡ marks_of lateness sources key journal
marks_of_late lateness sources key journal e late =
    marks_of_push lateness sources key journal e ∙ ap (λ b. option_map_or (insert_key nat_cmp (marks_of lateness sources key journal)) (cond b None (mark_in key e.what)) (marks_of lateness sources key journal)) late

pub marks_of_mark : (lateness sources : ℕ) (key : List ℕ) (journal : List Entry) (e : Entry) (time : ℕ) → is_late lateness (water_of sources journal) e.what ≡ false → mark_in key e.what ≡ Some time → marks_of lateness sources key (journal ++ e ∷ []) ≡ insert_key nat_cmp (marks_of lateness sources key journal) time
marks_of_mark lateness sources key journal e time on_time it =
    marks_of_push lateness sources key journal e ∙ (λ i. option_map_or (insert_key nat_cmp (marks_of lateness sources key journal)) (cond (on_time i) None (it i)) (marks_of lateness sources key journal))

pub marks_of_other : (lateness sources : ℕ) (key : List ℕ) (journal : List Entry) (e : Entry) → mark_in key e.what ≡ None → marks_of lateness sources key (journal ++ e ∷ []) ≡ marks_of lateness sources key journal
marks_of_other lateness sources key journal e it = marks_of_push lateness sources key journal e ∙ by (is_late lateness (water_of sources journal) e.what) (mark_in key e.what) it
  where
    by : (b : Bool) (o : Option ℕ) → o ≡ None → option_map_or (insert_key nat_cmp (marks_of lateness sources key journal)) (cond b None o) (marks_of lateness sources key journal) ≡ marks_of lateness sources key journal
    by true o h = refl
    by false o h = rw h refl

-- what stands of an empty journal
pub kept_of_nil : (lateness sources : ℕ) (key : List ℕ) → kept_of lateness sources key [] ≡ []
unfolding kept_of on_time_after
kept_of_nil lateness sources key = refl

pub marks_of_nil : (lateness sources : ℕ) (key : List ℕ) → marks_of lateness sources key [] ≡ []
unfolding marks_of on_time_after
marks_of_nil lateness sources key = refl

pub keys_of_nil : keys_of [] ≡ []
unfolding keys_of
keys_of_nil = refl
