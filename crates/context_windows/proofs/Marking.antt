-- What is told of the intervals between marks are their changes.
use Rattle.std.proofs.Common.{◌≡◌, ◌∙◌, ℕ, ◌+◌, ◌*◌, ◌-◌, ◌<◌, ◌≤◌, Bool, true, false, cond, List, [], ◌∷◌, ◌++◌, length, map, Option, None, Some, ap, sym, refl, subst, arith, inl, inr, ⊎_elim, append_assoc}
use Rattle.std.specs.Prelude.{◌⊎◌, ◌&&◌, ◌==◌, find, nat_le, nat_lt, option_to_list}
use Rattle.std.specs.BTreeSet.{insert_key}
use Rattle.std.specs.List.{Contains, filter}
use Rattle.std.specs.Ordering.{nat_cmp}
use Rattle.std.proofs.lemmas.Bool.{and_from, and_left, and_right, cases_Bool, cases_lt, eq-eqb, le-leb, lt-leb, lt-ltb, le-ltb, ltb-true, ltb-false}
use Rattle.std.proofs.lemmas.List.{append-nil, map-append}
use Rattle.std.proofs.lemmas.List.Elements.{Contains-append_left, Contains-append_right, filter-append}
use Rattle.stream_base.specs.declared.change.Change.{Change}
use Rattle.stream_base.specs.declared.change.Change.TheVariants.{Gone, New, Again}
use Rattle.stream_base.specs.declared.func.Func.{Func}
use Rattle.stream_base.specs.declared.kept.Kept.{Kept}
use Rattle.stream_base.specs.declared.limits.TheConstants.{FINAL}
use Rattle.stream_base.specs.Model.Changes.{Moment, emissions, former_of, retractions, row_of}
use Rattle.stream_base.specs.Model.Journal.{put_in_order}
use Rattle.stream_base.specs.Model.Windows.{Instance, interval, is_complete, is_selecting, is_within, stretches, within}
use Rattle.stream_base.proofs.Rising.{Contains-head}
use Rattle.window_laws.specs.After.{complete_at, with_mark, with_tuple}
use Rattle.window_laws.specs.Late.{interval_change}
use Rattle.window_laws.specs.Stretches.{AreChangesOfHolder, AreChangesOfParting, IsMarkedInStretches, if_selecting}
use Rattle.stream_base.proofs.Filters.{filter_all}
use Rattle.window_laws.proofs.PartFacts.{holder_changes, parting_changes}
use Rattle.window_laws.proofs.StretchFacts.{empty_interval}
use Rattle.agg_store.specs.Stored.{Stored, tuples_of}
use Rattle.window_spans.specs.declared.span.Span.{Span}
use Rattle.window_spans.specs.declared.standing.Standing.{Standing}
use Rattle.window_spans.specs.Held.{IsHeld}
use Rattle.window_spans.specs.Parted.{back_of, come_if, front_of, gone_if, head_before, part_if}
use Rattle.window_spans.specs.Spans.{is_same_span, near_of, span_of}
use Rattle.window_spans.specs.Telling.{as_standing, come_of, told_as}
use Rattle.window_spans.proofs.Parts.{filter_twice}
use Rattle.context_windows.specs.Marked.{AreEnoughFrom, FollowsMarks, HoldsStretches, Marked, RemembersHolder, holder_in, marks_window, parted_of, stretches_after}
use Rattle.context_windows.specs.Spanned.{changes_of}
use Rattle.context_windows.proofs.Enough.{enough_with}
use Rattle.context_windows.proofs.Stretching.{held_each, holder_is, marked_thirds, put_thirds}
use Rattle.context_windows.proofs.Thirds.{backs_later, mids_are, spans_back, spans_front, spans_mid}

-- ---- a put
same_span : (s : Span) → is_same_span s s ≡ true
same_span s = and_from (s.low == s.low) (s.high == s.high) (eq-eqb s.low s.low refl) (eq-eqb s.high s.high refl)

holder_told : (window : ℕ) (key : List ℕ) (func : Func) (water low high : ℕ) (kept : List Kept) (x : Kept)
    → cond (nat_le high water) (interval_change window key func low high kept x ∷ []) [] ≡ come_of window key water (map (as_standing func) (complete_at water (if_selecting low high kept))) (as_standing func (interval low high (put_in_order kept x)))
holder_told window key func water low high kept x = case (is_selecting (interval low high kept)) (cases_Bool (nat_le high water))
  where
    again : Change
    again = Again (row_of window key func (interval low high (put_in_order kept x))) (former_of func (interval low high kept))

    case : (c : Bool) → (nat_le high water ≡ true) ⊎ (nat_le high water ≡ false)
        → cond (nat_le high water) (cond c (Again (row_of window key func (interval low high (put_in_order kept x))) (former_of func (interval low high kept))) (New (row_of window key func (interval low high (put_in_order kept x)))) ∷ []) []
        ≡ cond (nat_le high water) (told_as window key (as_standing func (interval low high (put_in_order kept x))) (find (λ s. is_same_span (record { low = low; high = high }) s.span) (map (as_standing func) (filter (is_complete water) (cond c (interval low high kept ∷ []) [])))) ∷ []) []
    case false d = refl
    case true (inl e) =
        (λ i. cond (e i) (Again (row_of window key func (interval low high (put_in_order kept x))) (former_of func (interval low high kept)) ∷ []) [])
        ∙ ap (λ b. told_as window key (as_standing func (interval low high (put_in_order kept x))) (cond b (Some (as_standing func (interval low high kept))) None) ∷ []) (sym (same_span (record { low = low; high = high })))
        ∙ sym (λ i. cond (e i) (told_as window key (as_standing func (interval low high (put_in_order kept x))) (find (λ s. is_same_span (record { low = low; high = high }) s.span) (map (as_standing func) (cond (e i) (interval low high kept ∷ []) []))) ∷ []) [])
    case true (inr e) =
        (λ i. cond (e i) (Again (row_of window key func (interval low high (put_in_order kept x))) (former_of func (interval low high kept)) ∷ []) [])
        ∙ sym (λ i. cond (e i) (told_as window key (as_standing func (interval low high (put_in_order kept x))) (find (λ s. is_same_span (record { low = low; high = high }) s.span) (map (as_standing func) (cond (nat_le high water) (interval low high kept ∷ []) []))) ∷ []) [])

pub marks_put_told : (window : ℕ) (func : Func) (key : List ℕ) (m : Moment) (x : Kept) (s : Marked) → x.time < FINAL → FollowsMarks m.marks m.kept s → s.forgotten ≤ x.time
    → (water : ℕ) (store : Stored) → m.water ≡ water → RemembersHolder func x.time water m.marks m.kept s → HoldsStretches x.time m.marks (put_in_order m.kept x) store
    → (span : Span) → span ≡ holder_in x.time s.spans s.marks → (stood : Option Standing) → option_to_list stood ≡ s.stood
    → (out all : List Change) → ((i : Instance) → IsHeld span store i → all ≡ out ++ come_of window key water (option_to_list stood ++ []) (as_standing func i))
    → all ≡ out ++ changes_of key m (with_tuple m x) (window, marks_window func)
marks_put_told window func key m x s early f le water store at r held span is stood kept_so out all told =
    let known : AreChangesOfHolder window key func m x (retractions key m (with_tuple m x) (window, marks_window func)) (emissions key m (with_tuple m x) (window, marks_window func)) = holder_changes window key (marks_window func) m x refl f.in_order early in
    let q = known.put in
    let j : Instance = interval q.low q.high (put_in_order m.kept x) in
    let over : span ≡ span_of j = is ∙ holder_is m.marks m.kept x s early f le q in
    let member : Contains (stretches m.marks (put_in_order m.kept x)) j = subst (λ l. Contains l j) (sym q.is) (Contains-append_right q.front (j ∷ q.back) j (Contains-head j q.back)) in
    let it : IsHeld span store j = subst (λ t. IsHeld t store j) (sym over) (held_each x.time m.marks (put_in_order m.kept x) store held j member q.ends) in
    let near : option_to_list stood ++ [] ≡ map (as_standing func) (complete_at water (if_selecting q.low q.high m.kept)) =
    append-nil (option_to_list stood)
    ∙ kept_so ∙ r.stood
    ∙ ap (λ l. map (as_standing func) (complete_at water l)) (mids_are 1 x.time (stretches m.marks m.kept) q.front (if_selecting q.low q.high m.kept) q.back (put_thirds m.marks m.kept x (stretches m.marks (put_in_order m.kept x)) q)) in
    let comes : emissions key m (with_tuple m x) (window, marks_window func) ≡ come_of window key water (option_to_list stood ++ []) (as_standing func j) =
    known.comes
    ∙ ap (λ w. cond (nat_le q.high w) (interval_change window key func q.low q.high m.kept x ∷ []) []) at
    ∙ holder_told window key func water q.low q.high m.kept x
    ∙ ap (λ l. come_of window key water l (as_standing func j)) (sym near) in
    told j it ∙ ap (λ l. out ++ l) (λ k. sym known.goes k ++ sym comes k)

-- ---- parts of an interval
only_if : (b c : Bool) → b ≡ false → b ≡ cond c b false
only_if b true e = refl
only_if b false e = e

within_twice : (low high a b : ℕ) → low ≤ a → b ≤ high → (xs : List Kept) → within a b (within low high xs) ≡ within a b xs
within_twice low high a b l h xs = filter_twice (is_within a b) (is_within low high) (is_within a b) (λ x. test x.time) xs
  where
    test : (t : ℕ) → (nat_le a t && nat_lt t b) ≡ cond (nat_le low t && nat_lt t high) (nat_le a t && nat_lt t b) false
    test t =
        ⊎_elim
        (λ m. only_if (nat_le a t && nat_lt t b) (nat_le low t && nat_lt t high) (and_left (nat_le a t) (nat_lt t b) (lt-leb a t m)))
        (λ m. ⊎_elim
        (λ n. sym (ap (λ c. cond c (nat_le a t && nat_lt t b) false) (and_from (nat_le low t) (nat_lt t high) (le-leb low t (omega arith)) (lt-ltb t high (omega arith)))))
        (λ n. only_if (nat_le a t && nat_lt t b) (nat_le low t && nat_lt t high) (and_right (nat_le a t) (nat_lt t b) (le-ltb t b n)))
        (cases_lt t b))
        (cases_lt t a)

no_tuple : (xs : List Kept) → nat_lt 0 (length xs) ≡ false → xs ≡ []
no_tuple [] e = refl
no_tuple (x ∷ xs) e = absurd (let l = ltb-false 0 (length (x ∷ xs)) e in omega arith)

-- where an interval selects nothing, its parts don't either
sub_empty : (low high a b : ℕ) (kept : List Kept) → low ≤ a → b ≤ high → is_selecting (interval low high kept) ≡ false → if_selecting a b kept ≡ []
sub_empty low high a b kept l h e =
    let none : within a b kept ≡ [] = sym (within_twice low high a b l h kept) ∙ ap (within a b) (no_tuple (within low high kept) e) in
    let not : is_selecting (interval a b kept) ≡ false = ap (λ ys. nat_lt 0 (length ys)) none ∙ le-ltb 0 0 (omega arith) in
    ap (λ c. cond c (interval a b kept ∷ []) []) not

-- a part that has a tuple and stands
come_is : (window : ℕ) (key : List ℕ) (func : Func) (water low high : ℕ) (kept : List Kept) (filled : Bool) → filled ≡ is_selecting (interval low high kept) → come_if window key func filled water (interval low high kept) ≡ map (λ i. New (row_of window key func i)) (complete_at water (if_selecting low high kept))
come_is window key func water low high kept filled e = ap (λ f. come_if window key func f water (interval low high kept)) e ∙ by (is_selecting (interval low high kept)) (nat_le high water)
  where
    by : (c b : Bool) → cond (c && nat_le high water) (New (row_of window key func (interval low high kept)) ∷ []) [] ≡ map (λ i. New (row_of window key func i)) (filter (is_complete water) (cond c (interval low high kept ∷ []) []))
    by false b = refl
    by true b = one (nat_le high water)
      where
        one : (b : Bool) → cond b (New (row_of window key func (interval low high kept)) ∷ []) [] ≡ map (λ i. New (row_of window key func i)) (cond b (interval low high kept ∷ []) [])
        one true = refl
        one false = refl

-- a part that has a tuple and isn't forgotten
part_is : (forgotten low high : ℕ) (kept : List Kept) (filled : Bool) → filled ≡ is_selecting (interval low high kept) → option_to_list (part_if filled forgotten (record { low = low; high = high })) ≡ map span_of (filter (λ (i : Instance). nat_lt forgotten i.high) (if_selecting low high kept))
part_is forgotten low high kept filled e = ap (λ f. option_to_list (part_if f forgotten (record { low = low; high = high }))) e ∙ by (is_selecting (interval low high kept))
  where
    by : (c : Bool) → option_to_list (cond (c && nat_lt forgotten high) (Some (record { low = low; high = high })) None) ≡ map span_of (filter (λ (i : Instance). nat_lt forgotten i.high) (cond c (interval low high kept ∷ []) []))
    by false = refl
    by true = one (nat_lt forgotten high)
      where
        one : (b : Bool) → option_to_list (cond b (Some (record { low = low; high = high })) None) ≡ map span_of (cond b (interval low high kept ∷ []) [])
        one true = refl
        one false = refl

pub record IsParted (time low high : ℕ) (kept : List Kept) (s : Span) : Type 0 where
  pub span : s ≡ record { low = low; high = high }
  pub filled : is_selecting (interval low high kept) ≡ true
  pub before : low < time

head_some : (time low high : ℕ) (kept : List Kept) (s : Span) → head_before time (map span_of (if_selecting low high kept)) ≡ Some s → IsParted time low high kept s
head_some time low high kept s e = by (is_selecting (interval low high kept)) refl e
  where
    by : (c : Bool) → is_selecting (interval low high kept) ≡ c → head_before time (map span_of (cond c (interval low high kept ∷ []) [])) ≡ Some s → IsParted time low high kept s
    by false t e = absurd (ne e)
      where
        ne : None ≡ Some s → ⊥
        ne e = cc
    by true t e = one (nat_lt low time) refl e
      where
        one : (b : Bool) → nat_lt low time ≡ b → cond b (Some (record { low = low; high = high })) None ≡ Some s → IsParted time low high kept s
        one true l e = record { span = (let same : s ≡ record { low = low; high = high } = cc in same); filled = t; before = ltb-true low time l }
        one false l e = absurd (ne e)
          where
            ne : None ≡ Some s → ⊥
            ne e = cc

head_none : (time low high : ℕ) (kept : List Kept) → head_before time (map span_of (if_selecting low high kept)) ≡ None → (is_selecting (interval low high kept) ≡ false) ⊎ (time ≤ low)
head_none time low high kept e = by (is_selecting (interval low high kept)) refl e
  where
    by : (c : Bool) → is_selecting (interval low high kept) ≡ c → head_before time (map span_of (cond c (interval low high kept ∷ []) [])) ≡ None → (is_selecting (interval low high kept) ≡ false) ⊎ (time ≤ low)
    by false t e = inl t
    by true t e = one (nat_lt low time) refl e
      where
        one : (b : Bool) → nat_lt low time ≡ b → cond {A = Option Span} b (Some (record { low = low; high = high })) None ≡ None → (is_selecting (interval low high kept) ≡ false) ⊎ (time ≤ low)
        one true l e = absurd (ne (record { low = low; high = high }) e)
          where
            ne : (t : Span) → Some t ≡ None → ⊥
            ne t e = cc
        one false l e = inr (ltb-false low time l)

-- ---- a mark
marked_known : (marks : List ℕ) (time : ℕ) (s new : Marked) → new.forgotten ≡ s.forgotten → new.marks ≡ insert_key nat_cmp s.marks time → AreEnoughFrom s.forgotten s.marks marks → AreEnoughFrom new.forgotten new.marks (insert_key nat_cmp marks time)
marked_known marks time s new at same k =
    subst (λ n. AreEnoughFrom n new.marks (insert_key nat_cmp marks time)) (sym at)
    (subst (λ ms. AreEnoughFrom s.forgotten ms (insert_key nat_cmp marks time)) (sym same) (enough_with s.forgotten s.marks marks time k))

module _ (marks : List ℕ) (kept : List Kept) (time : ℕ) (s : Marked) (f : FollowsMarks marks kept s) (le : s.forgotten ≤ time) (p : IsMarkedInStretches kept time (stretches marks kept) (stretches (insert_key nat_cmp marks time) kept)) where
  near : near_of 1 time s.spans ≡ map span_of (if_selecting p.low p.high kept)
  near = spans_mid 1 time (stretches marks kept) p.front (if_selecting p.low p.high kept) p.back (marked_thirds marks kept time (stretches (insert_key nat_cmp marks time) kept) p) s.forgotten le s.spans f.spans

  parted_some : (span : Span) → parted_of time s.spans ≡ Some span → IsParted time p.low p.high kept span
  parted_some span e = head_some time p.low p.high kept span (sym (ap (head_before time) near) ∙ e)

  parted_none : parted_of time s.spans ≡ None → (is_selecting (interval p.low p.high kept) ≡ false) ⊎ (time ≤ p.low)
  parted_none e = head_none time p.low p.high kept (sym (ap (head_before time) near) ∙ e)

  -- its parts, by what the store holds
  module _ (store : Stored) (held : HoldsStretches time marks kept store) (span : Span) (e : parted_of time s.spans ≡ Some span) where
    it : IsParted time p.low p.high kept span
    it = parted_some span e

    abbrev whole_of : Instance
    whole_of = interval p.low p.high kept

    whole : IsHeld (span_of (interval p.low p.high kept)) store (interval p.low p.high kept)
    whole =
        held_each time marks kept store held (interval p.low p.high kept)
        (subst (λ l. Contains l (interval p.low p.high kept)) (sym p.was)
        (Contains-append_right p.front (if_selecting p.low p.high kept ++ p.back) (interval p.low p.high kept)
        (Contains-append_left (if_selecting p.low p.high kept) p.back (interval p.low p.high kept)
        (subst (λ b. Contains (cond b (interval p.low p.high kept ∷ []) []) (interval p.low p.high kept)) (sym (parted_some span e).filled) (Contains-head (interval p.low p.high kept) [])))))
        p.ends

    held_part : (a b : ℕ) → p.low ≤ a → b ≤ p.high → within a b (tuples_of store) ≡ within a b kept
    held_part a b l h = sym (within_twice p.low p.high a b l h (tuples_of store)) ∙ ap (within a b) whole.chosen ∙ within_twice p.low p.high a b l h kept

    filled_part : (a b : ℕ) → p.low ≤ a → b ≤ p.high → (filled : Bool) → filled ≡ nat_lt 0 (length (within a b (tuples_of store))) → filled ≡ is_selecting (interval a b kept)
    filled_part a b l h filled e = e ∙ ap (λ ys. nat_lt 0 (length ys)) (held_part a b l h)

    is_part : (a b : ℕ) → p.low ≤ a → b ≤ p.high → IsHeld (record { low = a; high = b }) store (interval a b kept)
    is_part a b l h = record { span = refl; chosen = held_part a b l h }

    abbrev front_is : (front : Span) → front ≡ front_of time span → front ≡ record { low = p.low; high = time }
    front_is front g = g ∙ ap (front_of time) (parted_some span e).span

    abbrev back_is : (back : Span) → back ≡ back_of time span → back ≡ record { low = time; high = p.high }
    back_is back g = g ∙ ap (back_of time) (parted_some span e).span

    pub mark_follows : (new : Marked) (front back : Span) → front ≡ front_of time span → back ≡ back_of time span
        → (ff bf : Bool) → ff ≡ nat_lt 0 (length (within front.low front.high (tuples_of store))) → bf ≡ nat_lt 0 (length (within back.low back.high (tuples_of store)))
        → new.spans ≡ filter (λ s. nat_le s.high time) s.spans ++ ((option_to_list (part_if ff s.forgotten front) ++ option_to_list (part_if bf s.forgotten back)) ++ filter (λ t. nat_le (time + 1) t.low) s.spans)
        → new.marks ≡ insert_key nat_cmp s.marks time → new.forgotten ≡ s.forgotten → FollowsMarks (insert_key nat_cmp marks time) kept new
    mark_follows new front back fe be ff bf fi bi is same at =
        let t = marked_thirds marks kept time (stretches (insert_key nat_cmp marks time) kept) p in
        let mid = if_selecting p.low p.high kept in
        let fs = if_selecting p.low time kept in
        let bs = if_selecting time p.high kept in
        let late : time < p.high = p.ends in
        let early : p.low < time = it.before in
        let fp : front ≡ record { low = p.low; high = time } = front_is front fe in
        let bp : back ≡ record { low = time; high = p.high } = back_is back be in
        let ffs : ff ≡ is_selecting (interval p.low time kept) = filled_part p.low time (omega arith) (omega arith) ff (fi ∙ ap (λ (k : Span). nat_lt 0 (length (within k.low k.high (tuples_of store)))) fp) in
        let bfs : bf ≡ is_selecting (interval time p.high kept) = filled_part time p.high (omega arith) (omega arith) bf (bi ∙ ap (λ (k : Span). nat_lt 0 (length (within k.low k.high (tuples_of store)))) bp) in
        let q : Instance → Bool = λ i. nat_lt s.forgotten i.high in
        let new_parts : stretches_after s.forgotten (insert_key nat_cmp marks time) kept ≡ filter (λ (i : Instance). nat_lt s.forgotten i.high) p.front ++ ((filter (λ (i : Instance). nat_lt s.forgotten i.high) fs ++ filter (λ (i : Instance). nat_lt s.forgotten i.high) bs) ++ p.back) =
        ap (filter (λ (i : Instance). nat_lt s.forgotten i.high)) p.is
        ∙ filter-append (λ (i : Instance). nat_lt s.forgotten i.high) p.front ((fs ++ bs) ++ p.back)
        ∙ ap (λ l. filter (λ (i : Instance). nat_lt s.forgotten i.high) p.front ++ l)
        (filter-append (λ (i : Instance). nat_lt s.forgotten i.high) (fs ++ bs) p.back
        ∙ (λ k. filter-append (λ (i : Instance). nat_lt s.forgotten i.high) fs bs k ++ filter_all (λ (i : Instance). nat_lt s.forgotten i.high) p.back (backs_later 1 time (stretches marks kept) p.front mid p.back t s.forgotten le) k)) in
        record {
          in_order = f.in_order;
          known = marked_known marks time s new at same f.known;
          spans = is
              ∙ (λ k. spans_front 1 time (stretches marks kept) p.front mid p.back t s.forgotten le s.spans f.spans k
              ++ ((option_to_list (part_if ff s.forgotten (fp k)) ++ option_to_list (part_if bf s.forgotten (bp k))) ++ spans_back 1 time (stretches marks kept) p.front mid p.back t s.forgotten le s.spans f.spans k))
              ∙ (λ k. map span_of (filter (λ (i : Instance). nat_lt s.forgotten i.high) p.front) ++ ((part_is s.forgotten p.low time kept ff ffs k ++ part_is s.forgotten time p.high kept bf bfs k) ++ map span_of p.back))
              ∙ sym (map-append span_of (filter (λ (i : Instance). nat_lt s.forgotten i.high) p.front) ((filter (λ (i : Instance). nat_lt s.forgotten i.high) fs ++ filter (λ (i : Instance). nat_lt s.forgotten i.high) bs) ++ p.back)
              ∙ ap (λ l. map span_of (filter (λ (i : Instance). nat_lt s.forgotten i.high) p.front) ++ l)
              (map-append span_of (filter (λ (i : Instance). nat_lt s.forgotten i.high) fs ++ filter (λ (i : Instance). nat_lt s.forgotten i.high) bs) p.back
              ∙ ap (λ l. l ++ map span_of p.back) (map-append span_of (filter (λ (i : Instance). nat_lt s.forgotten i.high) fs) (filter (λ (i : Instance). nat_lt s.forgotten i.high) bs))))
              ∙ ap (map span_of) (sym new_parts)
              ∙ ap (λ n. map span_of (stretches_after n (insert_key nat_cmp marks time) kept)) (sym at);
        }

  -- where no interval with a tuple is parted
  same_stretches : parted_of time s.spans ≡ None → stretches (insert_key nat_cmp marks time) kept ≡ stretches marks kept
  same_stretches e =
      p.is
      ∙ ap (λ l. p.front ++ (l ++ p.back))
      (⊎_elim
      (λ l. ⊎_elim
      (λ n. (λ k. sub_empty p.low p.high p.low time kept (omega arith) (let late : time < p.high = p.ends in omega arith) n k ++ sub_empty p.low p.high time p.high kept (omega arith) (omega arith) n k) ∙ sym (sub_empty p.low p.high p.low p.high kept (omega arith) (omega arith) n))
      (λ g. absurd (omega arith))
      (parted_none e))
      (λ g. let same : time ≡ p.low = (let a : p.low ≤ time = p.starts in omega arith) in (λ k. empty_interval p.low time kept g k ++ if_selecting (same k) p.high kept))
      (cases_lt p.low time))
      ∙ sym p.was

  pub mark_leaves : parted_of time s.spans ≡ None → (new : Marked) → new.spans ≡ s.spans → new.marks ≡ insert_key nat_cmp s.marks time → new.forgotten ≡ s.forgotten → FollowsMarks (insert_key nat_cmp marks time) kept new
  mark_leaves e new is same at = record {
    in_order = f.in_order;
    known = marked_known marks time s new at same f.known;
    spans = is ∙ f.spans
        ∙ ap (λ l. map span_of (filter (λ (i : Instance). nat_lt s.forgotten i.high) l)) (sym (same_stretches e))
        ∙ ap (λ n. map span_of (stretches_after n (insert_key nat_cmp marks time) kept)) (sym at);
  }

module _ (window : ℕ) (func : Func) (key : List ℕ) (m : Moment) (time : ℕ) (s : Marked) (early : time < FINAL) (f : FollowsMarks m.marks m.kept s) (le : s.forgotten ≤ time) where
  abbrev known : AreChangesOfParting window key func m time (retractions key m (with_mark m time) (window, marks_window func)) (emissions key m (with_mark m time) (window, marks_window func))
  known = parting_changes window key (marks_window func) m time refl f.in_order early

  pub mark_tells_none : parted_of time s.spans ≡ None → changes_of key m (with_mark m time) (window, marks_window func) ≡ []
  mark_tells_none e =
      let p = known.marked in
      ⊎_elim
      (λ l. ⊎_elim
      (λ n.
      let late : time < p.high = p.ends in
      let whole : if_selecting p.low p.high m.kept ≡ [] = sub_empty p.low p.high p.low p.high m.kept (omega arith) (omega arith) n in
      let goes = known.goes l ∙ ap (λ k. map (λ i. Gone (row_of window key func i)) (complete_at m.water k)) whole in
      let comes = known.comes l ∙ (λ k. map (λ i. New (row_of window key func i)) (complete_at m.water (sub_empty p.low p.high p.low time m.kept (omega arith) (omega arith) n k ++ sub_empty p.low p.high time p.high m.kept (omega arith) (omega arith) n k))) in
      (λ k. goes k ++ comes k))
      (λ g. absurd (omega arith))
      (parted_none m.marks m.kept time s f le p e))
      (λ g. let same : p.low ≡ time = (let a : p.low ≤ time = p.starts in omega arith) in (λ k. known.edge_goes same k ++ known.edge_comes same k))
      (cases_lt p.low time)

  pub mark_tells : (water : ℕ) (store : Stored) → m.water ≡ water → HoldsStretches time m.marks m.kept store → (span : Span) → parted_of time s.spans ≡ Some span
      → (front back : Span) → front ≡ front_of time span → back ≡ back_of time span
      → (ff bf : Bool) → ff ≡ nat_lt 0 (length (within front.low front.high (tuples_of store))) → bf ≡ nat_lt 0 (length (within back.low back.high (tuples_of store)))
      → (out one two all : List Change)
      → ((i : Instance) → IsHeld span store i → i.bound ≡ i.high → one ≡ out ++ gone_if window key func water i)
      → ((i : Instance) → IsHeld front store i → two ≡ one ++ come_if window key func ff water i)
      → ((i : Instance) → IsHeld back store i → all ≡ two ++ come_if window key func bf water i)
      → all ≡ out ++ changes_of key m (with_mark m time) (window, marks_window func)
  mark_tells water store at held span e front back fe be ff bf fi bi out one two all gone first second =
      let p = known.marked in
      let it : IsParted time p.low p.high m.kept span = parted_some m.marks m.kept time s f le p span e in
      let late : time < p.high = p.ends in
      let before : p.low < time = it.before in
      let fp : front ≡ record { low = p.low; high = time } = front_is m.marks m.kept time s f le p store held span e front fe in
      let bp : back ≡ record { low = time; high = p.high } = back_is m.marks m.kept time s f le p store held span e back be in
      let ffs : ff ≡ is_selecting (interval p.low time m.kept) = filled_part m.marks m.kept time s f le p store held span e p.low time (omega arith) (omega arith) ff (fi ∙ ap (λ (k : Span). nat_lt 0 (length (within k.low k.high (tuples_of store)))) fp) in
      let bfs : bf ≡ is_selecting (interval time p.high m.kept) = filled_part m.marks m.kept time s f le p store held span e time p.high (omega arith) (omega arith) bf (bi ∙ ap (λ (k : Span). nat_lt 0 (length (within k.low k.high (tuples_of store)))) bp) in
      let i : Instance = interval p.low p.high m.kept in
      let j : Instance = interval p.low time m.kept in
      let k : Instance = interval time p.high m.kept in
      let hi : IsHeld span store i = subst (λ t. IsHeld t store i) (sym it.span) (whole m.marks m.kept time s f le p store held span e) in
      let hj : IsHeld front store j = subst (λ t. IsHeld t store j) (sym fp) (is_part m.marks m.kept time s f le p store held span e p.low time (omega arith) (omega arith)) in
      let hk : IsHeld back store k = subst (λ t. IsHeld t store k) (sym bp) (is_part m.marks m.kept time s f le p store held span e time p.high (omega arith) (omega arith)) in
      let goes : retractions key m (with_mark m time) (window, marks_window func) ≡ gone_if window key func water i =
      known.goes before
      ∙ (λ n. map (λ i. Gone (row_of window key func i)) (complete_at (at n) (cond (it.filled n) (i ∷ []) []))) in
      let comes : emissions key m (with_mark m time) (window, marks_window func) ≡ come_if window key func ff water j ++ come_if window key func bf water k =
      known.comes before
      ∙ ap (λ w. map (λ i. New (row_of window key func i)) (complete_at w (if_selecting p.low time m.kept ++ if_selecting time p.high m.kept))) at
      ∙ ap (map (λ i. New (row_of window key func i))) (filter-append (is_complete water) (if_selecting p.low time m.kept) (if_selecting time p.high m.kept))
      ∙ map-append (λ i. New (row_of window key func i)) (complete_at water (if_selecting p.low time m.kept)) (complete_at water (if_selecting time p.high m.kept))
      ∙ (λ n. sym (come_is window key func water p.low time m.kept ff ffs) n ++ sym (come_is window key func water time p.high m.kept bf bfs) n) in
      second k hk
      ∙ ap (λ l. l ++ come_if window key func bf water k) (first j hj ∙ ap (λ l. l ++ come_if window key func ff water j) (gone i hi refl))
      ∙ append_assoc (out ++ gone_if window key func water i) (come_if window key func ff water j) (come_if window key func bf water k)
      ∙ append_assoc out (gone_if window key func water i) (come_if window key func ff water j ++ come_if window key func bf water k)
      ∙ (λ n. out ++ (sym goes n ++ sym comes n))

-- ---- the steps of three tellings
pub three_costs : (n a b c d s t u v : ℕ) → t ≤ s + n * (b - a) → u ≤ t + n * (c - b) → v ≤ u + n * (d - c) → a ≤ b → b ≤ c → c ≤ d → v ≤ s + n * (d - a)
three_costs n a b c d s t u v f g h l m o =
    let whole : d - a ≡ (b - a) + ((c - b) + (d - c)) = omega arith in
    let parts : n * (d - a) ≡ n * (b - a) + (n * (c - b) + n * (d - c)) = ap (λ k. n * k) whole ∙ spread n (b - a) (c - b) (d - c) in
    omega arith
  where
    spread : (n x y z : ℕ) → n * (x + (y + z)) ≡ n * x + (n * y + n * z)
    spread n x y z = grind arith
