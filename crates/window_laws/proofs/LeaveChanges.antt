-- What leaves changes no result to come.
use Rattle.std.proofs.Common.{◌≡◌, ◌∙◌, ℕ, ◌+◌, ◌-◌, ◌<◌, ◌≤◌, Bool, true, false, cond, List, [], ◌∷◌, ◌++◌, length, take, drop, map, ap, sym, refl, subst, arith, inl, inr, zero, suc}
use Rattle.std.specs.Prelude.{◌⊎◌, nat_le, nat_lt}
use Rattle.std.specs.BTreeSet.{insert_key}
use Rattle.std.specs.List.{All, Contains, filter}
use Rattle.std.specs.Ordering.{nat_cmp}
use Rattle.std.proofs.Math.Seq.{drop-append_seam, take-append_seam}
use Rattle.std.proofs.lemmas.Bool.{and_parts, cases_Bool, false≢true, le-ltb, lt-ltb, ltb-true}
use Rattle.std.proofs.lemmas.List.{append-nil, length-append, length-take, take-append-drop}
use Rattle.std.proofs.lemmas.List.Elements.{All-contains, All-head, All-tail, Contains-append_left, Contains-append_right, filter-append, filter_passes}
use Rattle.std.proofs.lemmas.List.Sorted.{IsNonDecreasingBy-drop}
use Rattle.stream_base.specs.declared.change.Change.TheVariants.{New}
use Rattle.stream_base.specs.declared.def.Def.{Def}
use Rattle.stream_base.specs.declared.func.Func.{Func}
use Rattle.stream_base.specs.declared.kept.Kept.{Kept}
use Rattle.stream_base.specs.declared.kind.Kind.{Kind}
use Rattle.stream_base.specs.declared.kind.Kind.TheVariants.{Marks}
use Rattle.stream_base.specs.declared.limits.TheConstants.{FINAL}
use Rattle.stream_base.specs.Laws.{RiseByStart, TimesDoNotFall, becomes_complete, completions}
use Rattle.stream_base.specs.Limits.{Definitions}
use Rattle.stream_base.specs.Kinds.{IsKindWithin, is_events}
use Rattle.stream_base.specs.Model.Changes.{Moment, emissions, retractions, row_of}
use Rattle.stream_base.specs.Model.Journal.{put_in_order}
use Rattle.stream_base.specs.Model.Slices.{is_settled, is_settled_in, unsettled}
use Rattle.stream_base.specs.Model.Windows.{Instance, instances_of, interval, is_selecting, is_within, stretches, within}
use Rattle.stream_base.proofs.ChangeFacts.{none_emitted, none_retracted}
use Rattle.stream_base.proofs.Distinct.{All_from_members}
use Rattle.stream_base.proofs.KindFacts.{instances_rise, standing_rises}
use Rattle.stream_base.proofs.Members.{Contains-insert_new}
use Rattle.window_laws.specs.After.{at_water, complete_at, emissions_between, retractions_between, with_mark, with_tuple}
use Rattle.window_laws.specs.Instances.{incomplete}
use Rattle.window_laws.specs.Positions.{AreKept}
use Rattle.window_laws.specs.Settled.{IsSettledAt, MayLeave, settled, without_first}
use Rattle.window_laws.specs.Stretches.{IsMarkedInStretches, if_selecting}
use Rattle.window_laws.proofs.InstanceFacts.{split_at_water}
use Rattle.window_laws.proofs.KindFacts.{bounds_do_not_fall, tuple_at_stands, EndBy, first_leaves, end_by_behind, stays_at_put}
use Rattle.window_laws.proofs.LeaveFacts.{not_within}
use Rattle.window_laws.proofs.MiddleFacts.{complete_come, complete_gone}
use Rattle.stream_base.proofs.Filters.{filter_none}
use Rattle.slice_lists.proofs.RunFacts.{put_behind}
use Rattle.window_laws.proofs.SessionFacts.{put_times}
use Rattle.window_laws.proofs.SettledFacts.{all_member, settled_by_times, settled_first}
use Rattle.window_laws.proofs.SettledMoves.{mark_keeps_settled, move_keeps_settled, settled_lies_before, tuple_keeps_settled}
use Rattle.window_laws.proofs.HoldingFacts.{has_interval}
use Rattle.window_laws.proofs.StretchFacts.{parted_span, stretches_after_mark}
use Rattle.stream_base.proofs.Rising.{Contains-head, Contains-tail}
use Rattle.slice_lists.proofs.Order.{nd_tail}

-- so many tuples leave
pub firsts_leave : (kind : Kind) (n : ℕ) (kept : List Kept) (marks : List ℕ) (end : ℕ) → IsKindWithin kind → is_events kind ≡ false → TimesDoNotFall kept → ((z : Kept) → Contains (take n kept) z → EndBy kind kept marks end z.time) → incomplete end (instances_of kind kept marks) ≡ incomplete end (instances_of kind (drop n kept) marks)
firsts_leave kind zero kept marks end k e h ends = refl
firsts_leave kind (suc n) [] marks end k e h ends = refl
firsts_leave kind (suc n) (x ∷ kept) marks end k e h ends =
    first_leaves kind x kept marks end k e h (ends x (Contains-head x (take n kept)))
    ∙ firsts_leave kind n kept marks end k e (nd_tail (λ (z : Kept). z.time) x kept h)
    (λ z c. end_by_behind kind x kept marks end z k e h (taken n kept z c) (ends z (Contains-tail x (take n kept) z c)))
  where
    taken : (n : ℕ) (kept : List Kept) (z : Kept) → Contains (take n kept) z → Contains kept z
    taken n kept z c = subst (λ l. Contains l z) (take-append-drop n kept) (Contains-append_left (take n kept) (drop n kept) z c)

-- ---- the first tuples of a list
taken : (n : ℕ) (kept : List Kept) (z : Kept) → Contains (take n kept) z → Contains kept z
taken n kept z c = subst (λ l. Contains l z) (take-append-drop n kept) (Contains-append_left (take n kept) (drop n kept) z c)

put_behind_all : (xs ys : List Kept) (y : Kept) → All (λ (z : Kept). z.time ≤ y.time) xs → put_in_order (xs ++ ys) y ≡ xs ++ put_in_order ys y
put_behind_all [] ys y a = refl
put_behind_all (z ∷ zs) ys y a =
    put_behind z (zs ++ ys) y (le-ltb y.time z.time (All-head (λ (z : Kept). z.time ≤ y.time) z zs a))
    ∙ ap (λ l. z ∷ l) (put_behind_all zs ys y (All-tail (λ (z : Kept). z.time ≤ y.time) z zs a))

module _ (n : ℕ) (kept : List Kept) (few : n ≤ length kept) (y : Kept) (a : All (λ (z : Kept). z.time ≤ y.time) (take n kept)) where
  put_parts : put_in_order kept y ≡ take n kept ++ put_in_order (drop n kept) y
  put_parts = ap (λ l. put_in_order l y) (sym (take-append-drop n kept)) ∙ put_behind_all (take n kept) (drop n kept) y a

  long : length (take n kept) ≡ n
  long = simp (length-take) (omega (arith, few))

  pub drop_put : drop n (put_in_order kept y) ≡ put_in_order (drop n kept) y
  drop_put = ap (λ k. drop k (put_in_order kept y)) (sym long) ∙ ap (drop (length (take n kept))) put_parts ∙ drop-append_seam (take n kept) (put_in_order (drop n kept) y)

  pub take_put : take n (put_in_order kept y) ≡ take n kept
  take_put = ap (λ k. take k (put_in_order kept y)) (sym long) ∙ ap (take (length (take n kept))) put_parts ∙ take-append_seam (take n kept) (put_in_order (drop n kept) y)

-- ---- changes where what has ended stays, and what hasn't is alike
module _ (window : ℕ) (key : List ℕ) (func : Func) (water end : ℕ) where
  parts_so : (is : List Instance) → (parts : is ≡ complete_at end is ++ incomplete end is) → is ≡ complete_at end is ++ (incomplete end is ++ [])
  parts_so is e = e ∙ ap (λ l. complete_at end is ++ l) (sym (append-nil (incomplete end is)))

  module _ (old new : List Instance) (was : RiseByStart old) (now : RiseByStart new) (old_parts : old ≡ complete_at end old ++ incomplete end old) (new_parts : new ≡ complete_at end new ++ incomplete end new) (same : complete_at end new ≡ complete_at end old) where
    new_so : new ≡ complete_at end old ++ (incomplete end new ++ [])
    new_so = parts_so new new_parts ∙ ap (λ l. l ++ (incomplete end new ++ [])) same

    pub open_gone : retractions_between window key func (complete_at water old) (complete_at water new) ≡ retractions_between window key func (complete_at water (incomplete end old)) (complete_at water (incomplete end new))
    open_gone =
        (λ i. retractions_between window key func (complete_at water (parts_so old old_parts i)) (complete_at water (new_so i)))
        ∙ complete_gone window key func water (complete_at end old) (incomplete end old) (incomplete end new) [] (subst RiseByStart (parts_so old old_parts) was) (subst RiseByStart new_so now)

    pub open_come : emissions_between window key func (complete_at water old) (complete_at water new) ≡ emissions_between window key func (complete_at water (incomplete end old)) (complete_at water (incomplete end new))
    open_come =
        (λ i. emissions_between window key func (complete_at water (parts_so old old_parts i)) (complete_at water (new_so i)))
        ∙ complete_come window key func water (complete_at end old) (incomplete end old) (incomplete end new) [] (subst RiseByStart (parts_so old old_parts) was) (subst RiseByStart new_so now)

filter_implied : (p q : Instance → Bool) (xs : List Instance) → ((i : Instance) → q i ≡ true → p i ≡ true) → filter q (filter p xs) ≡ filter q xs
filter_implied p q [] h = refl
filter_implied p q (x ∷ xs) h = by (cases_Bool (p x)) (filter_implied p q xs h)
  where
    out : (b : Bool) → (b ≡ true → p x ≡ true) → p x ≡ false → b ≡ false
    out true f e = absurd (false≢true (sym e ∙ f refl))
    out false f e = refl

    by : (p x ≡ true) ⊎ (p x ≡ false) → filter q (filter p xs) ≡ filter q xs → filter q (cond (p x) (x ∷ filter p xs) (filter p xs)) ≡ cond (q x) (x ∷ filter q xs) (filter q xs)
    by (inl e) later = ap (λ b. filter q (cond b (x ∷ filter p xs) (filter p xs))) e ∙ (λ i. cond (q x) (x ∷ later i) (later i))
    by (inr e) later = ap (λ b. filter q (cond b (x ∷ filter p xs) (filter p xs))) e ∙ later ∙ sym (ap (λ b. cond b (x ∷ filter q xs) (filter q xs)) (out (q x) (h x) e))

-- ---- one window of a key that so many settled tuples may leave
module _ (d : Definitions) (m : Moment) (n : ℕ) (may : MayLeave d m n) (w : Def) (c : Contains d.windows w) (e : is_events w.kind ≡ false) where
  k : IsKindWithin w.kind
  k = All-contains (λ w. IsKindWithin w.kind) d.windows w may.kinds c

  end : ℕ
  end = m.water - d.lateness

  settled_z : (z : Kept) → Contains (take n m.kept) z → is_settled d m z ≡ true
  settled_z z b = All-contains (λ x. is_settled d m x ≡ true) (take n m.kept) z may.are_settled b

  settled_at : (z : Kept) → Contains (take n m.kept) z → IsSettledAt d.lateness w.kind m z.time
  settled_at z b = settled_by_times d.lateness m z w may.kept k e (taken n m.kept z b) (all_member (is_settled_in d.lateness m z) d.windows w (settled_z z b) c)

  ends_by : (z : Kept) → Contains (take n m.kept) z → EndBy w.kind m.kept m.marks (m.water - d.lateness) z.time
  ends_by z b i g l r = omega (arith, settled_at z b i g l r)

  alike : incomplete (m.water - d.lateness) (instances_of w.kind m.kept m.marks) ≡ incomplete (m.water - d.lateness) (instances_of w.kind (drop n m.kept) m.marks)
  alike = firsts_leave w.kind n m.kept m.marks (m.water - d.lateness) k e (may.kept).in_order ends_by

  rest_in_order : TimesDoNotFall (drop n m.kept)
  rest_in_order = IsNonDecreasingBy-drop (λ (z : Kept). z.time) n m.kept (may.kept).in_order

  -- a move of the watermark
  pub same_completions : (window : ℕ) (key : List ℕ) (new : ℕ) → completions key m new (window, w) ≡ completions key (without_first n m) new (window, w)
  same_completions window key new =
      ap (map (λ i. New (row_of window key w.func i)))
      (sym (filter_implied open_ done (instances_of w.kind m.kept m.marks) passes)
      ∙ ap (filter done) alike
      ∙ filter_implied open_ done (instances_of w.kind (drop n m.kept) m.marks) passes)
    where
      open_ : Instance → Bool
      open_ i = nat_lt (m.water - d.lateness) i.bound

      done : Instance → Bool
      done i = becomes_complete m.water new i

      passes : (i : Instance) → becomes_complete m.water new i ≡ true → nat_lt (m.water - d.lateness) i.bound ≡ true
      passes i h = let l : m.water < i.bound = ltb-true m.water i.bound (and_parts (nat_lt m.water i.bound) (nat_le i.bound new) h).0 in lt-ltb (m.water - d.lateness) i.bound (omega arith)

  -- a tuple that isn't late
  module _ (y : Kept) (b : AreKept (put_in_order m.kept y)) (le : m.water ≤ y.time + d.lateness) where
    early : y.time < FINAL
    early = All-contains (λ (z : Kept). z.time < FINAL) (put_in_order m.kept y) y b.early (Contains-insert_new m.kept _ y)

    before_y : All (λ (z : Kept). z.time ≤ y.time) (take n m.kept)
    before_y = All_from_members (λ (z : Kept). z.time ≤ y.time) (take n m.kept) (λ z g. omega (arith, settled_lies_before d m w z may.kinds may.kept c e (taken n m.kept z g) (settled_z z g)))

    alike_after : incomplete (m.water - d.lateness) (instances_of w.kind (put_in_order m.kept y) m.marks) ≡ incomplete (m.water - d.lateness) (instances_of w.kind (put_in_order (drop n m.kept) y) m.marks)
    alike_after =
        firsts_leave w.kind n (put_in_order m.kept y) m.marks (m.water - d.lateness) k e b.in_order
        (λ z g i f l r. let old : Contains (take n m.kept) z = subst (λ ls. Contains ls z) (take_put n m.kept may.few y before_y) g in
        omega (arith, stays_at_put d.lateness m may.kept w.kind y z k e early le (taken n m.kept z old) (settled_at z old) i f l r))
        ∙ ap (λ l. incomplete (m.water - d.lateness) (instances_of w.kind l m.marks)) (drop_put n m.kept may.few y before_y)

    stay : (kept : List Kept) → TimesDoNotFall kept → complete_at (m.water - d.lateness) (instances_of w.kind (put_in_order kept y) m.marks) ≡ complete_at (m.water - d.lateness) (instances_of w.kind kept m.marks)
    stay kept h = tuple_at_stands w.kind kept m.marks (m.water - d.lateness) y k e h early (omega arith)

    split : (kept : List Kept) → TimesDoNotFall kept → instances_of w.kind kept m.marks ≡ complete_at (m.water - d.lateness) (instances_of w.kind kept m.marks) ++ incomplete (m.water - d.lateness) (instances_of w.kind kept m.marks)
    split kept h = split_at_water (m.water - d.lateness) (instances_of w.kind kept m.marks) (bounds_do_not_fall w.kind kept m.marks k h)

    rise : (kept : List Kept) → TimesDoNotFall kept → RiseByStart (instances_of w.kind kept m.marks)
    rise kept h = instances_rise w.kind kept m.marks k h

    one_gone : (window : ℕ) (key : List ℕ) (kept : List Kept) → TimesDoNotFall kept → retractions_between window key w.func (complete_at m.water (instances_of w.kind kept m.marks)) (complete_at m.water (instances_of w.kind (put_in_order kept y) m.marks))
        ≡ retractions_between window key w.func (complete_at m.water (incomplete (m.water - d.lateness) (instances_of w.kind kept m.marks))) (complete_at m.water (incomplete (m.water - d.lateness) (instances_of w.kind (put_in_order kept y) m.marks)))
    one_gone window key kept h = open_gone window key w.func m.water (m.water - d.lateness) (instances_of w.kind kept m.marks) (instances_of w.kind (put_in_order kept y) m.marks) (rise kept h) (rise (put_in_order kept y) (put_times kept y h)) (split kept h) (split (put_in_order kept y) (put_times kept y h)) (stay kept h)

    one_come : (window : ℕ) (key : List ℕ) (kept : List Kept) → TimesDoNotFall kept → emissions_between window key w.func (complete_at m.water (instances_of w.kind kept m.marks)) (complete_at m.water (instances_of w.kind (put_in_order kept y) m.marks))
        ≡ emissions_between window key w.func (complete_at m.water (incomplete (m.water - d.lateness) (instances_of w.kind kept m.marks))) (complete_at m.water (incomplete (m.water - d.lateness) (instances_of w.kind (put_in_order kept y) m.marks)))
    one_come window key kept h = open_come window key w.func m.water (m.water - d.lateness) (instances_of w.kind kept m.marks) (instances_of w.kind (put_in_order kept y) m.marks) (rise kept h) (rise (put_in_order kept y) (put_times kept y h)) (split kept h) (split (put_in_order kept y) (put_times kept y h)) (stay kept h)

    pub same_gone : (window : ℕ) (key : List ℕ) → retractions key m (with_tuple m y) (window, w) ≡ retractions key (without_first n m) (with_tuple (without_first n m) y) (window, w)
    same_gone window key =
        one_gone window key m.kept (may.kept).in_order
        ∙ (λ i. retractions_between window key w.func (complete_at m.water (alike i)) (complete_at m.water (alike_after i)))
        ∙ sym (one_gone window key (drop n m.kept) rest_in_order)

    pub same_come : (window : ℕ) (key : List ℕ) → emissions key m (with_tuple m y) (window, w) ≡ emissions key (without_first n m) (with_tuple (without_first n m) y) (window, w)
    same_come window key =
        one_come window key m.kept (may.kept).in_order
        ∙ (λ i. emissions_between window key w.func (complete_at m.water (alike i)) (complete_at m.water (alike_after i)))
        ∙ sym (one_come window key (drop n m.kept) rest_in_order)

    pub still_leaves : MayLeave d (with_tuple m y) n
    still_leaves = record {
      kinds = may.kinds;
      kept = b;
      few = omega (arith, may.few, longer);
      are_settled = subst (All (λ x. is_settled d (with_tuple m y) x ≡ true)) (sym (take_put n m.kept may.few y before_y)) (All_from_members (λ x. is_settled d (with_tuple m y) x ≡ true) (take n m.kept) (λ z g. tuple_keeps_settled d m y z may.kinds may.kept b le (taken n m.kept z g) (settled_z z g)));
    }
      where
        longer : n ≤ length (put_in_order m.kept y)
        longer = omega (arith, ap length (put_parts n m.kept may.few y before_y), length-append (take n m.kept) (put_in_order (drop n m.kept) y), long n m.kept may.few y before_y)

    pub leaves_alike : with_tuple (without_first n m) y ≡ without_first n (with_tuple m y)
    leaves_alike = let g : put_in_order (drop n m.kept) y ≡ drop n (put_in_order m.kept y) = sym (drop_put n m.kept may.few y before_y) in λ i. record { kept = g i; marks = m.marks; water = m.water }

  -- a mark that isn't late
  module _ (t : ℕ) (f : t < FINAL) (le : m.water ≤ t + d.lateness) where
    -- no tuple that may leave lies in an interval that holds the mark, nor in a part of it
    none_held : (low high a b : ℕ) → t < high → low ≤ a → b ≤ high → ((z : Kept) → Contains m.kept z → low ≤ z.time → z.time < high → Contains (instances_of w.kind m.kept m.marks) (interval low high m.kept)) → within a b m.kept ≡ within a b (drop n m.kept)
    none_held low high a b l la bh held =
        ap (within a b) (sym (take-append-drop n m.kept))
        ∙ filter-append (is_within a b) (take n m.kept) (drop n m.kept)
        ∙ ap (λ l. l ++ within a b (drop n m.kept)) (filter_none (is_within a b) (take n m.kept) (All_from_members (λ z. is_within a b z ≡ false) (take n m.kept)
        (λ z g. not_within a b z (λ u v. let s : high + d.lateness ≤ m.water = settled_at z g (interval low high m.kept) (held z (taken n m.kept z g) (omega arith) (omega arith)) (omega arith) (omega arith) in omega arith))))

    module _ (marks_kind : w.kind ≡ Marks) where
      p : IsMarkedInStretches m.kept t (stretches m.marks m.kept) (stretches (insert_key nat_cmp m.marks t) m.kept)
      p = stretches_after_mark m.marks m.kept t f

      q : IsMarkedInStretches (drop n m.kept) t (stretches m.marks (drop n m.kept)) (stretches (insert_key nat_cmp m.marks t) (drop n m.kept))
      q = stretches_after_mark m.marks (drop n m.kept) t f

      spans_alike : ((stretches_after_mark m.marks m.kept t f).low ≡ (stretches_after_mark m.marks (drop n m.kept) t f).low) × ((stretches_after_mark m.marks m.kept t f).high ≡ (stretches_after_mark m.marks (drop n m.kept) t f).high)
      spans_alike = parted_span m.marks m.kept (drop n m.kept) t f

      whole_is : (p : IsMarkedInStretches m.kept t (stretches m.marks m.kept) (stretches (insert_key nat_cmp m.marks t) m.kept)) (z : Kept) → Contains m.kept z → p.low ≤ z.time → z.time < p.high → Contains (instances_of w.kind m.kept m.marks) (interval p.low p.high m.kept)
      unfolding instances_of
      whole_is p z c l r =
          let g : Contains (stretches m.marks m.kept) (interval p.low p.high m.kept) = subst (λ u. Contains u (interval p.low p.high m.kept)) (sym p.was) (Contains-append_right p.front (if_selecting p.low p.high m.kept ++ p.back) (interval p.low p.high m.kept) (Contains-append_left (if_selecting p.low p.high m.kept) p.back (interval p.low p.high m.kept) (has_interval p.low p.high m.kept z c l r))) in
          subst (λ (kind : Kind). Contains (instances_of kind m.kept m.marks) (interval p.low p.high m.kept)) (sym marks_kind) g

      -- the interval and its parts select the same without the tuples that left
      part_alike : (p : IsMarkedInStretches m.kept t (stretches m.marks m.kept) (stretches (insert_key nat_cmp m.marks t) m.kept)) (a b : ℕ) → p.low ≤ a → b ≤ p.high → if_selecting a b m.kept ≡ if_selecting a b (drop n m.kept)
      part_alike p a b l r =
          let same : within a b m.kept ≡ within a b (drop n m.kept) = none_held p.low p.high a b p.ends l r (whole_is p) in
          λ i. filter is_selecting (record { low = a; high = b; bound = b; chosen = same i } ∷ [])

      marks_changes : {Y : Type 0} (f : List Instance → List Instance → Y) (p : IsMarkedInStretches m.kept t (stretches m.marks m.kept) (stretches (insert_key nat_cmp m.marks t) m.kept)) (q : IsMarkedInStretches (drop n m.kept) t (stretches m.marks (drop n m.kept)) (stretches (insert_key nat_cmp m.marks t) (drop n m.kept))) → p.low ≡ q.low → p.high ≡ q.high
          → f (complete_at m.water (if_selecting p.low p.high m.kept)) (complete_at m.water (if_selecting p.low t m.kept ++ if_selecting t p.high m.kept)) ≡ f (complete_at m.water (if_selecting q.low q.high (drop n m.kept))) (complete_at m.water (if_selecting q.low t (drop n m.kept) ++ if_selecting t q.high (drop n m.kept)))
      marks_changes f p q low high =
          (λ i. f (complete_at m.water (part_alike p p.low p.high (omega arith) (omega arith) i)) (complete_at m.water (part_alike p p.low t (omega arith) (omega (arith, p.ends)) i ++ part_alike p t p.high p.starts (omega arith) i)))
          ∙ (λ i. f (complete_at m.water (if_selecting (low i) (high i) (drop n m.kept))) (complete_at m.water (if_selecting (low i) t (drop n m.kept) ++ if_selecting t (high i) (drop n m.kept))))

      middle_gone : (window : ℕ) (key : List ℕ) (kept : List Kept) → TimesDoNotFall kept → (p : IsMarkedInStretches kept t (stretches m.marks kept) (stretches (insert_key nat_cmp m.marks t) kept))
          → retractions_between window key w.func (complete_at m.water (instances_of w.kind kept m.marks)) (complete_at m.water (instances_of w.kind kept (insert_key nat_cmp m.marks t)))
          ≡ retractions_between window key w.func (complete_at m.water (if_selecting p.low p.high kept)) (complete_at m.water (if_selecting p.low t kept ++ if_selecting t p.high kept))
      unfolding instances_of
      middle_gone window key kept h p =
          (λ i. retractions_between window key w.func (complete_at m.water (instances_of (marks_kind i) kept m.marks)) (complete_at m.water (instances_of (marks_kind i) kept (insert_key nat_cmp m.marks t))))
          ∙ (λ i. retractions_between window key w.func (complete_at m.water (p.was i)) (complete_at m.water (p.is i)))
          ∙ complete_gone window key w.func m.water p.front (if_selecting p.low p.high kept) (if_selecting p.low t kept ++ if_selecting t p.high kept) p.back (subst RiseByStart p.was (instances_rise Marks kept m.marks tt h)) (subst RiseByStart p.is (instances_rise Marks kept (insert_key nat_cmp m.marks t) tt h))

      middle_come : (window : ℕ) (key : List ℕ) (kept : List Kept) → TimesDoNotFall kept → (p : IsMarkedInStretches kept t (stretches m.marks kept) (stretches (insert_key nat_cmp m.marks t) kept))
          → emissions_between window key w.func (complete_at m.water (instances_of w.kind kept m.marks)) (complete_at m.water (instances_of w.kind kept (insert_key nat_cmp m.marks t)))
          ≡ emissions_between window key w.func (complete_at m.water (if_selecting p.low p.high kept)) (complete_at m.water (if_selecting p.low t kept ++ if_selecting t p.high kept))
      unfolding instances_of
      middle_come window key kept h p =
          (λ i. emissions_between window key w.func (complete_at m.water (instances_of (marks_kind i) kept m.marks)) (complete_at m.water (instances_of (marks_kind i) kept (insert_key nat_cmp m.marks t))))
          ∙ (λ i. emissions_between window key w.func (complete_at m.water (p.was i)) (complete_at m.water (p.is i)))
          ∙ complete_come window key w.func m.water p.front (if_selecting p.low p.high kept) (if_selecting p.low t kept ++ if_selecting t p.high kept) p.back (subst RiseByStart p.was (instances_rise Marks kept m.marks tt h)) (subst RiseByStart p.is (instances_rise Marks kept (insert_key nat_cmp m.marks t) tt h))

      marks_gone : (window : ℕ) (key : List ℕ) → retractions key m (with_mark m t) (window, w) ≡ retractions key (without_first n m) (with_mark (without_first n m) t) (window, w)
      marks_gone window key =
          middle_gone window key m.kept (may.kept).in_order (stretches_after_mark m.marks m.kept t f)
          ∙ marks_changes (retractions_between window key w.func) (stretches_after_mark m.marks m.kept t f) (stretches_after_mark m.marks (drop n m.kept) t f) spans_alike.0 spans_alike.1
          ∙ sym (middle_gone window key (drop n m.kept) rest_in_order (stretches_after_mark m.marks (drop n m.kept) t f))

      marks_come : (window : ℕ) (key : List ℕ) → emissions key m (with_mark m t) (window, w) ≡ emissions key (without_first n m) (with_mark (without_first n m) t) (window, w)
      marks_come window key =
          middle_come window key m.kept (may.kept).in_order (stretches_after_mark m.marks m.kept t f)
          ∙ marks_changes (emissions_between window key w.func) (stretches_after_mark m.marks m.kept t f) (stretches_after_mark m.marks (drop n m.kept) t f) spans_alike.0 spans_alike.1
          ∙ sym (middle_come window key (drop n m.kept) rest_in_order (stretches_after_mark m.marks (drop n m.kept) t f))

    -- windows of the other kinds don't see marks
    unmarked : (kind : Kind) (kept : List Kept) → (kind ≡ Marks) ⊎ (instances_of kind kept m.marks ≡ instances_of kind kept (insert_key nat_cmp m.marks t))
    unfolding instances_of
    unmarked Marks kept = inl refl
    unmarked kind kept = inr refl

    none_goes : (window : ℕ) (key : List ℕ) (kept : List Kept) → instances_of w.kind kept m.marks ≡ instances_of w.kind kept (insert_key nat_cmp m.marks t) → retractions_between window key w.func (complete_at m.water (instances_of w.kind kept m.marks)) (complete_at m.water (instances_of w.kind kept (insert_key nat_cmp m.marks t))) ≡ []
    none_goes window key kept same = none_retracted window key w.func (complete_at m.water (instances_of w.kind kept (insert_key nat_cmp m.marks t))) (complete_at m.water (instances_of w.kind kept m.marks)) (ap (complete_at m.water) same)

    none_comes : (window : ℕ) (key : List ℕ) (kept : List Kept) → TimesDoNotFall kept → instances_of w.kind kept m.marks ≡ instances_of w.kind kept (insert_key nat_cmp m.marks t) → emissions_between window key w.func (complete_at m.water (instances_of w.kind kept m.marks)) (complete_at m.water (instances_of w.kind kept (insert_key nat_cmp m.marks t))) ≡ []
    none_comes window key kept h same = none_emitted window key w.func (complete_at m.water (instances_of w.kind kept m.marks)) (complete_at m.water (instances_of w.kind kept (insert_key nat_cmp m.marks t))) (standing_rises w.kind kept m.marks m.water k h) (ap (complete_at m.water) same)

    pub same_mark_gone : (window : ℕ) (key : List ℕ) → retractions key m (with_mark m t) (window, w) ≡ retractions key (without_first n m) (with_mark (without_first n m) t) (window, w)
    same_mark_gone window key = by (unmarked w.kind m.kept) (unmarked w.kind (drop n m.kept))
      where
        by : (w.kind ≡ Marks) ⊎ (instances_of w.kind m.kept m.marks ≡ instances_of w.kind m.kept (insert_key nat_cmp m.marks t)) → (w.kind ≡ Marks) ⊎ (instances_of w.kind (drop n m.kept) m.marks ≡ instances_of w.kind (drop n m.kept) (insert_key nat_cmp m.marks t))
            → retractions key m (with_mark m t) (window, w) ≡ retractions key (without_first n m) (with_mark (without_first n m) t) (window, w)
        by (inl g) r = marks_gone g window key
        by (inr g) (inl r) = marks_gone r window key
        by (inr g) (inr r) = none_goes window key m.kept g ∙ sym (none_goes window key (drop n m.kept) r)

    pub same_mark_come : (window : ℕ) (key : List ℕ) → emissions key m (with_mark m t) (window, w) ≡ emissions key (without_first n m) (with_mark (without_first n m) t) (window, w)
    same_mark_come window key = by (unmarked w.kind m.kept) (unmarked w.kind (drop n m.kept))
      where
        by : (w.kind ≡ Marks) ⊎ (instances_of w.kind m.kept m.marks ≡ instances_of w.kind m.kept (insert_key nat_cmp m.marks t)) → (w.kind ≡ Marks) ⊎ (instances_of w.kind (drop n m.kept) m.marks ≡ instances_of w.kind (drop n m.kept) (insert_key nat_cmp m.marks t))
            → emissions key m (with_mark m t) (window, w) ≡ emissions key (without_first n m) (with_mark (without_first n m) t) (window, w)
        by (inl g) r = marks_come g window key
        by (inr g) (inl r) = marks_come r window key
        by (inr g) (inr r) = none_comes window key m.kept (may.kept).in_order g ∙ sym (none_comes window key (drop n m.kept) rest_in_order r)

-- ---- in the order of the laws
pub leaves_at_move : (d : Definitions) (m : Moment) (n : ℕ) (window : ℕ) (key : List ℕ) (w : Def) (new : ℕ) → MayLeave d m n → Contains d.windows w → is_events w.kind ≡ false → completions key m new (window, w) ≡ completions key (without_first n m) new (window, w)
leaves_at_move d m n window key w new may c e = same_completions d m n may w c e window key new

pub leaves_at_tuple_gone : (d : Definitions) (m : Moment) (n : ℕ) (window : ℕ) (key : List ℕ) (w : Def) (y : Kept) → MayLeave d m n → Contains d.windows w → is_events w.kind ≡ false → AreKept (put_in_order m.kept y) → m.water ≤ y.time + d.lateness
    → retractions key m (with_tuple m y) (window, w) ≡ retractions key (without_first n m) (with_tuple (without_first n m) y) (window, w)
leaves_at_tuple_gone d m n window key w y may c e b le = same_gone d m n may w c e y b le window key

pub leaves_at_tuple_come : (d : Definitions) (m : Moment) (n : ℕ) (window : ℕ) (key : List ℕ) (w : Def) (y : Kept) → MayLeave d m n → Contains d.windows w → is_events w.kind ≡ false → AreKept (put_in_order m.kept y) → m.water ≤ y.time + d.lateness
    → emissions key m (with_tuple m y) (window, w) ≡ emissions key (without_first n m) (with_tuple (without_first n m) y) (window, w)
leaves_at_tuple_come d m n window key w y may c e b le = same_come d m n may w c e y b le window key

pub leaves_at_mark_gone : (d : Definitions) (m : Moment) (n : ℕ) (window : ℕ) (key : List ℕ) (w : Def) (time : ℕ) → MayLeave d m n → Contains d.windows w → is_events w.kind ≡ false → time < FINAL → m.water ≤ time + d.lateness
    → retractions key m (with_mark m time) (window, w) ≡ retractions key (without_first n m) (with_mark (without_first n m) time) (window, w)
leaves_at_mark_gone d m n window key w time may c e f le = same_mark_gone d m n may w c e time f le window key

pub leaves_at_mark_come : (d : Definitions) (m : Moment) (n : ℕ) (window : ℕ) (key : List ℕ) (w : Def) (time : ℕ) → MayLeave d m n → Contains d.windows w → is_events w.kind ≡ false → time < FINAL → m.water ≤ time + d.lateness
    → emissions key m (with_mark m time) (window, w) ≡ emissions key (without_first n m) (with_mark (without_first n m) time) (window, w)
leaves_at_mark_come d m n window key w time may c e f le = same_mark_come d m n may w c e time f le window key

pub may_leave_after_tuple : (d : Definitions) (m : Moment) (n : ℕ) (w : Def) (y : Kept) → MayLeave d m n → Contains d.windows w → is_events w.kind ≡ false → AreKept (put_in_order m.kept y) → m.water ≤ y.time + d.lateness → MayLeave d (with_tuple m y) n
may_leave_after_tuple d m n w y may c e b le = still_leaves d m n may w c e y b le

pub tuple_enters_the_rest : (d : Definitions) (m : Moment) (n : ℕ) (w : Def) (y : Kept) → MayLeave d m n → Contains d.windows w → is_events w.kind ≡ false → AreKept (put_in_order m.kept y) → m.water ≤ y.time + d.lateness → with_tuple (without_first n m) y ≡ without_first n (with_tuple m y)
tuple_enters_the_rest d m n w y may c e b le = leaves_alike d m n may w c e y b le

pub may_leave_after_mark : (d : Definitions) (m : Moment) (n time : ℕ) → MayLeave d m n → time < FINAL → m.water ≤ time + d.lateness → MayLeave d (with_mark m time) n
may_leave_after_mark d m n time may f le = record {
  kinds = may.kinds;
  kept = may.kept;
  few = may.few;
  are_settled = All_from_members (λ x. is_settled d (with_mark m time) x ≡ true) (take n m.kept) (λ z g. mark_keeps_settled d m time z may.kinds may.kept f le (taken n m.kept z g) (All-contains (λ x. is_settled d m x ≡ true) (take n m.kept) z may.are_settled g));
}

pub may_leave_after_move : (d : Definitions) (m : Moment) (n water : ℕ) → MayLeave d m n → m.water ≤ water → MayLeave d (at_water m water) n
may_leave_after_move d m n water may le = record {
  kinds = may.kinds;
  kept = may.kept;
  few = may.few;
  are_settled = All_from_members (λ x. is_settled d (at_water m water) x ≡ true) (take n m.kept) (λ z g. move_keeps_settled d m water z may.kinds may.kept le (taken n m.kept z g) (All-contains (λ x. is_settled d m x ≡ true) (take n m.kept) z may.are_settled g));
}

pub settled_may_leave : (d : Definitions) (m : Moment) → All (λ w. IsKindWithin w.kind) d.windows → AreKept m.kept → MayLeave d m (length (settled d m))
settled_may_leave d m within a = record {
  kinds = within;
  kept = a;
  few = omega (arith, ap length first, length-append (settled d m) (unsettled d m));
  are_settled = subst (All (λ x. is_settled d m x ≡ true)) (sym (ap (take (length (settled d m))) first ∙ take-append_seam (settled d m) (unsettled d m))) (filter_passes (is_settled d m) m.kept);
}
  where
    first : m.kept ≡ settled d m ++ unsettled d m
    first = settled_first d m within a

-- ---- so many tuples leave
