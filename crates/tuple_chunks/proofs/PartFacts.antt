-- Tuples in parts that stand one behind another.
use Rattle.std.proofs.Common.{◌≡◌, ◌∙◌, ℕ, zero, suc, ◌+◌, ◌-◌, ◌<◌, ◌≤◌, true, false, List, [], ◌∷◌, ◌++◌, length, get_or, set, take, drop, ap, sym, refl, subst, arith, append_assoc, inl, inr, length-append, length-take, get_or-take}
use Rattle.std.specs.Prelude.{◌⊎◌, insert, nat_le, remove}
use Rattle.std.specs.List.{All, filter, flat_map}
use Rattle.std.specs.List.Sorted.{IsNonDecreasingBy, IsPartitionPoint}
use Rattle.std.proofs.lemmas.Bool.{cases_lt, leb-false, leb-true}
use Rattle.std.proofs.lemmas.Grind.{flat_map-append}
use Rattle.std.proofs.lemmas.List.{append-nil, drop_all, get_or_default, take-append-drop, take_more}
use Rattle.std.proofs.lemmas.List.Elements.{All-append, All-cons, All-nil, All-head, All-set, All-tail, All-weaker, filter-append}
use Rattle.std.proofs.lemmas.List.Kept.{IsNonDecreasingBy-filter}
use Rattle.stream_base.specs.declared.kept.Kept.{Kept}
use Rattle.stream_base.specs.Laws.{TimesDoNotFall}
use Rattle.stream_base.specs.Model.Journal.{put_in_order}
use Rattle.stream_base.specs.Model.Windows.{last_time}
use Rattle.slice_lists.proofs.Order.{All-split, nd_cons, nd_nil, nd_split}
use Rattle.slice_lists.proofs.SliceOrder.{put_far}
use Rattle.tuple_chunks.specs.Parts.{AreParts, IsEntry}
use Rattle.tuple_chunks.proofs.Putting.{put_times}
use Rattle.tuple_chunks.proofs.TimeFacts.{below_last, behind_last, last_of_append, leave_all, of_last, put_near, some_stay, stay_all}

-- what is left where the first part leaves
pub record IsLeft {P : Type 0} (f : P → List Kept) (time : ℕ) (old new : List P) : Type 0 where
  pub some : 0 < length new
  pub holds : AreParts f new
  pub same : filter (λ (x : Kept). nat_le time x.time) (flat_map f old) ≡ filter (λ (x : Kept). nat_le time x.time) (flat_map f new)
  pub stays : time ≤ last_time (flat_map f new)

module _ {P : Type 0} (f : P → List Kept) where
  -- the tuples before a part, its own, and those behind it
  pub parts_at : (ps : List P) (at : ℕ) (d : P) → at < length ps → flat_map f ps ≡ flat_map f (take at ps) ++ (f (get_or ps at d) ++ flat_map f (drop (suc at) ps))
  parts_at [] at d l = absurd (omega arith)
  parts_at (p ∷ ps) zero d l = refl
  parts_at (p ∷ ps) (suc at) d l =
      ap (λ l. f p ++ l) (parts_at ps at d (omega arith)) ∙ sym (append_assoc (f p) (flat_map f (take at ps)) (f (get_or ps at d) ++ flat_map f (drop (suc at) ps)))

  pub parts_set : (ps : List P) (at : ℕ) (p : P) → at < length ps → flat_map f (set ps at p) ≡ flat_map f (take at ps) ++ (f p ++ flat_map f (drop (suc at) ps))
  parts_set [] at p l = absurd (omega arith)
  parts_set (q ∷ ps) zero p l = refl
  parts_set (q ∷ ps) (suc at) p l =
      ap (λ l. f q ++ l) (parts_set ps at p (omega arith)) ∙ sym (append_assoc (f q) (flat_map f (take at ps)) (f p ++ flat_map f (drop (suc at) ps)))

  -- another part of the same tuples
  pub parts_same : (ps : List P) (at : ℕ) (d p : P) → at < length ps → f p ≡ f (get_or ps at d) → flat_map f (set ps at p) ≡ flat_map f ps
  parts_same ps at d p l e =
      parts_set ps at p l ∙ ap (λ l. flat_map f (take at ps) ++ (l ++ flat_map f (drop (suc at) ps))) e ∙ sym (parts_at ps at d l)

  -- two parts in the place of one
  pub parts_divided : (ps : List P) (at : ℕ) (d p q : P) → at < length ps → f (get_or ps at d) ≡ f p ++ f q → flat_map f (insert (set ps at p) (at + 1) q) ≡ flat_map f ps
  parts_divided [] at d p q l e = absurd (omega arith)
  parts_divided (r ∷ ps) zero d p q l e = sym (append_assoc (f p) (f q) (flat_map f ps)) ∙ ap (λ l. l ++ flat_map f ps) (sym e)
  parts_divided (r ∷ ps) (suc at) d p q l e =
      ap (λ n. flat_map f (insert (r ∷ set ps at p) n q)) (let e : suc at + 1 ≡ suc (at + 1) = omega arith in e)
      ∙ ap (λ l. f r ++ l) (parts_divided ps at d p q (omega arith) e)

  pub first_some : (ps : List P) → AreParts f ps → 0 < length ps → 0 < length (flat_map f ps)
  first_some [] h l = absurd (omega arith)
  first_some (p ∷ ps) h l = omega (arith, All-head (λ p. 0 < length (f p)) p ps h.some, length-append (f p) (flat_map f ps))

  -- ---- what holds of all tuples holds of those of each part, and the other way round
  pub each_part : (Q : Kept → Type 0) (ps : List P) → All Q (flat_map f ps) → All (λ p. All Q (f p)) ps
  each_part Q [] a = All-nil (λ p. All Q (f p))
  each_part Q (p ∷ ps) a =
      let s : All Q (f p) × All Q (flat_map f ps) = All-split Q (f p) (flat_map f ps) a in
      All-cons (λ p. All Q (f p)) p ps s.0 (each_part Q ps s.1)

  pub all_parts : (Q : Kept → Type 0) (ps : List P) → All (λ p. All Q (f p)) ps → All Q (flat_map f ps)
  all_parts Q [] a = All-nil Q
  all_parts Q (p ∷ ps) a =
      All-append Q (f p) (flat_map f ps) (All-head (λ p. All Q (f p)) p ps a) (all_parts Q ps (All-tail (λ p. All Q (f p)) p ps a))

  pub parts_ordered : (ps : List P) → TimesDoNotFall (flat_map f ps) → All (λ p. TimesDoNotFall (f p)) ps
  parts_ordered [] h = All-nil (λ p. TimesDoNotFall (f p))
  parts_ordered (p ∷ ps) h =
      let s = nd_split (λ (x : Kept). x.time) (f p) (flat_map f ps) h in
      All-cons (λ p. TimesDoNotFall (f p)) p ps s.0 (parts_ordered ps s.1)

  pub parts_tail : (p : P) (ps : List P) → AreParts f (p ∷ ps) → AreParts f ps
  parts_tail p ps h = record {
    some = All-tail (λ p. 0 < length (f p)) p ps h.some;
    ordered = (nd_split (λ (x : Kept). x.time) (f p) (flat_map f ps) h.ordered).1;
  }

  -- the last times of the parts don't fall
  pub ends_rise : (ps : List P) → AreParts f ps → IsNonDecreasingBy (λ p. last_time (f p)) ps
  ends_rise [] h = nd_nil (λ p. last_time (f p))
  ends_rise (p ∷ ps) h =
      let some : 0 < length (f p) = All-head (λ p. 0 < length (f p)) p ps h.some in
      let later = each_part (λ y. last_time (f p) ≤ y.time) ps (behind_last (f p) (flat_map f ps) some h.ordered) in
      nd_cons (λ p. last_time (f p)) p ps
      (λ k d l. of_last (λ t. last_time (f p) ≤ t) (f (get_or ps k d)) (All-tail (λ p. 0 < length (f p)) p ps h.some k d l) (later k d l))
      (ends_rise ps (parts_tail p ps h))

  -- ---- where a tuple enters
  pub entry_is : (ps : List P) (time at : ℕ) → AreParts f ps → at < length ps → ((k : ℕ) (d : P) → k < at → last_time (f (get_or ps k d)) ≤ time) → ((d : P) → (time < last_time (f (get_or ps at d))) ⊎ (at + 1 ≡ length ps)) → IsEntry f ps time at
  entry_is ps time at h l early late = record {
    within = l;
    before = all_parts (λ y. y.time ≤ time) (take at ps)
        (λ k d m.
        let below : k < at = omega (arith, length-take at ps) in
        let same : get_or (take at ps) k d ≡ get_or ps k d = get_or-take at ps k d below in
        let last = early k d below in
        let own = parts_ordered ps h.ordered k d (omega arith) in
        subst (λ q. All (λ (y : Kept). y.time ≤ time) (f q)) (sym same)
        (All-weaker (λ (y : Kept). y.time ≤ last_time (f (get_or ps k d))) (λ y. y.time ≤ time) (λ y n. omega (arith, last)) (f (get_or ps k d)) (below_last (f (get_or ps k d)) own)));
    behind = late;
  }

  -- a tuple put into the part that it enters is put in order among all
  pub put_there : (ps : List P) (x : Kept) (at : ℕ) (d p : P) → IsEntry f ps x.time at → f p ≡ put_in_order (f (get_or ps at d)) x → flat_map f (set ps at p) ≡ put_in_order (flat_map f ps) x
  put_there ps x at d p entry is =
      parts_set ps at p entry.within
      ∙ ap (λ l. flat_map f (take at ps) ++ (l ++ flat_map f (drop (suc at) ps))) is
      ∙ sym (ap (λ l. put_in_order l x) (parts_at ps at d entry.within) ∙ put_far (flat_map f (take at ps)) (f (get_or ps at d) ++ flat_map f (drop (suc at) ps)) x entry.before ∙ ap (λ l. flat_map f (take at ps) ++ l) (here (entry.behind d)))
    where
      here : (x.time < last_time (f (get_or ps at d))) ⊎ (at + 1 ≡ length ps) → put_in_order (f (get_or ps at d) ++ flat_map f (drop (suc at) ps)) x ≡ put_in_order (f (get_or ps at d)) x ++ flat_map f (drop (suc at) ps)
      here (inl l) = put_near (f (get_or ps at d)) (flat_map f (drop (suc at) ps)) x l
      here (inr e) =
          let none : drop (suc at) ps ≡ [] = drop_all (suc at) ps (omega arith) in
          ap (λ l. put_in_order (f (get_or ps at d) ++ flat_map f l) x) none
          ∙ ap (λ l. put_in_order l x) (append-nil (f (get_or ps at d)))
          ∙ sym (append-nil (put_in_order (f (get_or ps at d)) x))
          ∙ ap (λ l. put_in_order (f (get_or ps at d)) x ++ flat_map f l) (sym none)

  pub put_parts : (ps : List P) (x : Kept) (at : ℕ) (d p : P) → AreParts f ps → IsEntry f ps x.time at → f p ≡ put_in_order (f (get_or ps at d)) x → 0 < length (f p) → AreParts f (set ps at p)
  put_parts ps x at d p h entry is some = record {
    some = All-set (λ p. 0 < length (f p)) ps at p some h.some;
    ordered = subst TimesDoNotFall (sym (put_there ps x at d p entry is)) (put_times (flat_map f ps) x h.ordered);
  }

  -- the last part, where none is of a later time
  pub entry_last : (ps : List P) (time : ℕ) (o : P) → AreParts f ps → 0 < length ps → o ≡ get_or ps (length ps - 1) o → last_time (f o) ≤ time → IsEntry f ps time (length ps - 1)
  entry_last ps time o h l is last =
      entry_is ps time (length ps - 1) h (omega arith)
      (λ k d m.
      let rise : last_time (f (get_or ps k d)) ≤ last_time (f (get_or ps (length ps - 1) d)) = ends_rise ps h k (length ps - 1) d (omega arith) (omega arith) in
      let same : get_or ps (length ps - 1) d ≡ o = get_or_default ps (length ps - 1) d o (omega arith) ∙ sym is in
      omega (arith, rise, last, ap (λ p. last_time (f p)) same))
      (λ d. inr (omega arith))

  -- or the first one that has a later time
  pub entry_point : (ps : List P) (time at : ℕ) (o : P) → AreParts f ps → 0 < length ps → o ≡ get_or ps (length ps - 1) o → time < last_time (f o) → at ≤ length ps → IsPartitionPoint (λ p. nat_le (last_time (f p)) time ≡ true) (λ p. nat_le (last_time (f p)) time ≡ false) ps at → IsEntry f ps time at
  entry_point ps time at o h l is last le point =
      entry_is ps time at h within early
      (λ d. inl (leb-false (last_time (f (get_or ps at d))) time (point.1 at d (omega arith) within)))
    where
      early : (k : ℕ) (d : P) → k < at → last_time (f (get_or ps k d)) ≤ time
      early k d m = leb-true (last_time (f (get_or ps k d))) time (point.0 k d (omega arith) m)

      by : (at < length ps) ⊎ (length ps ≤ at) → at < length ps
      by (inl m) = m
      by (inr m) =
          let low : last_time (f (get_or ps (length ps - 1) o)) ≤ time = early (length ps - 1) o (omega arith) in
          absurd (omega (arith, low, last, ap (λ p. last_time (f p)) is))

      within : at < length ps
      within = by (cases_lt at (length ps))

  -- ---- the first parts
  pub taken_length : (ps : List P) (i : ℕ) (d : P) → i < length ps → flat_map f (take (i + 1) ps) ≡ flat_map f (take i ps) ++ f (get_or ps i d)
  taken_length ps i d l = ap (flat_map f) (take_more ps i d l) ∙ flat_map-append f (take i ps) (get_or ps i d ∷ []) ∙ ap (λ l. flat_map f (take i ps) ++ l) (append-nil (f (get_or ps i d)))

  pub taken_within : (ps : List P) (n : ℕ) → length (flat_map f (take n ps)) ≤ length (flat_map f ps)
  taken_within ps n =
      let whole : flat_map f (take n ps) ++ flat_map f (drop n ps) ≡ flat_map f ps = sym (flat_map-append f (take n ps) (drop n ps)) ∙ ap (flat_map f) (take-append-drop n ps) in
      omega (arith, ap length whole, length-append (flat_map f (take n ps)) (flat_map f (drop n ps)))

  -- ---- the parts that leave
  pub first_leaves : (ps : List P) (time : ℕ) (o : P) → AreParts f ps → 0 < length ps → o ≡ get_or ps 0 o → last_time (f o) < time → time ≤ last_time (flat_map f ps) → IsLeft f time ps (remove ps 0)
  first_leaves [] time o h l is before stays = absurd (omega arith)
  first_leaves (p ∷ ps) time o h l is before stays = record {
    some = some;
    holds = parts_tail p ps h;
    same =
        filter-append (λ (x : Kept). nat_le time x.time) (f p) (flat_map f ps)
        ∙ ap (λ l. l ++ filter (λ (x : Kept). nat_le time x.time) (flat_map f ps)) (leave_all time (f p) (All-weaker (λ (y : Kept). y.time ≤ last_time (f p)) (λ y. y.time < time) (λ y m. omega (arith, m, early)) (f p) (below_last (f p) own)));
    stays = subst (λ t. time ≤ t) (last_of_append (f p) (flat_map f ps) more) stays;
  }
    where
      early : last_time (f p) < time
      early = subst (λ q. last_time (f q) < time) is before

      own : TimesDoNotFall (f p)
      own = (nd_split (λ (x : Kept). x.time) (f p) (flat_map f ps) h.ordered).0

      by : (qs : List P) → time ≤ last_time (f p ++ flat_map f qs) → 0 < length qs
      by [] m = absurd (omega (arith, early, m, ap last_time (append-nil (f p))))
      by (q ∷ qs) m = omega arith

      some : 0 < length ps
      some = by ps stays

      more : 0 < length (flat_map f ps)
      more = first_some ps (parts_tail p ps h) some

  pub trimmed : (ps : List P) (time : ℕ) (o p : P) → AreParts f ps → 0 < length ps → o ≡ get_or ps 0 o → time ≤ last_time (f o) → f p ≡ filter (λ (x : Kept). nat_le time x.time) (f o) → flat_map f (set ps 0 p) ≡ filter (λ (x : Kept). nat_le time x.time) (flat_map f ps)
  trimmed [] time o p h l is stays e = absurd (omega arith)
  trimmed (q ∷ ps) time o p h l is stays e =
      ap (λ l. l ++ flat_map f ps) (e ∙ ap (λ r. filter (λ (x : Kept). nat_le time x.time) (f r)) is)
      ∙ ap (λ l. filter (λ (x : Kept). nat_le time x.time) (f q) ++ l) (sym (stay_all time (flat_map f ps) (All-weaker (λ (y : Kept). last_time (f q) ≤ y.time) (λ y. time ≤ y.time) (λ y m. omega (arith, m, late)) (flat_map f ps) (behind_last (f q) (flat_map f ps) some h.ordered))))
      ∙ sym (filter-append (λ (x : Kept). nat_le time x.time) (f q) (flat_map f ps))
    where
      late : time ≤ last_time (f q)
      late = subst (λ r. time ≤ last_time (f r)) is stays

      some : 0 < length (f q)
      some = All-head (λ p. 0 < length (f p)) q ps h.some

  pub trimmed_parts : (ps : List P) (time : ℕ) (o p : P) → AreParts f ps → 0 < length ps → o ≡ get_or ps 0 o → time ≤ last_time (f o) → f p ≡ filter (λ (x : Kept). nat_le time x.time) (f o) → AreParts f (set ps 0 p)
  trimmed_parts ps time o p h l is stays e = record {
    some = All-set (λ p. 0 < length (f p)) ps 0 p some h.some;
    ordered = subst TimesDoNotFall (sym (trimmed ps time o p h l is stays e)) (IsNonDecreasingBy-filter (λ (x : Kept). x.time) (λ (x : Kept). nat_le time x.time) (flat_map f ps) h.ordered);
  }
    where
      own : 0 < length (f o)
      own = subst (λ q. 0 < length (f q)) (sym is) (h.some 0 o l)

      some : 0 < length (f p)
      some = subst (λ l. 0 < length l) (sym e) (some_stay time (f o) own stays)
