-- The changes of a window of which the instances change only in the middle.
use Rattle.std.proofs.Common.{◌≡◌, ◌∙◌, ℕ, ◌<◌, Bool, true, false, cond, Option, Some, None, List, [], ◌∷◌, ◌++◌, ap, refl, subst, ⊎_elim, arith}
use Rattle.std.specs.Prelude.{◌||◌, ◌==◌, find}
use Rattle.std.specs.List.{Contains, filter, filter_map, list_any, cons_option}
use Rattle.std.specs.Option.{option_or}
use Rattle.std.proofs.lemmas.Bool.{and_left, ne_eqb}
use Rattle.std.proofs.lemmas.List.{append-nil}
use Rattle.std.proofs.lemmas.List.Elements.{filter-append, filter_map-append, Contains-append_left, Contains-append_right}
use Rattle.std.proofs.lemmas.List.Folds.{find-append, list_any-append}
use Rattle.std.proofs.lemmas.List.Kept.{IsStrictlySortedBy-filter}
use Rattle.std.proofs.lemmas.Map.Keys.{sorted_tail}
use Rattle.stream_base.specs.declared.change.Change.TheVariants.{Gone}
use Rattle.stream_base.specs.declared.func.Func.{Func}
use Rattle.stream_base.specs.Laws.{by_start, RiseByStart}
use Rattle.stream_base.specs.Model.Changes.{emission, emitted, is_same, retraction, row_of}
use Rattle.stream_base.specs.Model.Windows.{Instance, is_complete}
use Rattle.stream_base.proofs.ChangeFacts.{not_emitted, not_retracted}
use Rattle.stream_base.proofs.Distinct.{by_start_total, lt_from_less}
use Rattle.stream_base.proofs.Rising.{none_in_nil, below_tail, Contains-cons_cases, Contains-head, Contains-tail}
use Rattle.window_laws.specs.After.{complete_at, emissions_between, retractions_between}
use Rattle.window_laws.proofs.LateFacts.{filter_map_none, find_none}

-- in a list that rises, the starts of one part lie before those of the next
crossed : (xs ys : List Instance) (i j : Instance) → RiseByStart (xs ++ ys) → Contains xs i → Contains ys j → i.low < j.low
crossed [] ys i j s c d = absurd (none_in_nil i c)
crossed (x ∷ xs) ys i j s c d =
    ⊎_elim
    (λ e. subst (λ (k : Instance). k.low < j.low) e (lt_from_less x.low j.low (below_tail by_start_total x (xs ++ ys) s j (Contains-append_right xs ys j d))))
    (λ f. crossed xs ys i j (sorted_tail by_start x (xs ++ ys) s) f d)
    (Contains-cons_cases x xs i c)

other_start : (i j : Instance) → (i.low ≡ j.low → ⊥) → is_same i j ≡ false
other_start i j n = and_left (i.low == j.low) (i.high == j.high) (ne_eqb i.low j.low n)

none_same : (i : Instance) (xs : List Instance) → ((j : Instance) → Contains xs j → is_same i j ≡ false) → list_any (is_same i) xs ≡ false
none_same i [] h = refl
none_same i (x ∷ xs) h = ap (λ b. b || list_any (is_same i) xs) (h x (Contains-head x xs)) ∙ none_same i xs (λ j c. h j (Contains-tail x xs j c))

filter_map_same : {X Y : Type 0} (f g : X → Option Y) (xs : List X) → ((x : X) → Contains xs x → f x ≡ g x) → filter_map f xs ≡ filter_map g xs
filter_map_same f g [] h = refl
filter_map_same f g (x ∷ xs) h = λ i. cons_option (h x (Contains-head x xs) i) (filter_map_same f g xs (λ y c. h y (Contains-tail x xs y c)) i)

rises_behind : (xs ys : List Instance) → RiseByStart (xs ++ ys) → RiseByStart ys
rises_behind [] ys s = s
rises_behind (x ∷ xs) ys s = rises_behind xs ys (sorted_tail by_start x (xs ++ ys) s)

module _ (front mid back : List Instance) (rises : RiseByStart (front ++ (mid ++ back))) (i : Instance) (before : (j : Instance) → Contains front j → j.low < i.low) (behind : (j : Instance) → Contains back j → i.low < j.low) where
  -- an instance from between is found between alone
  any_between : list_any (is_same i) (front ++ (mid ++ back)) ≡ list_any (is_same i) mid
  any_between =
      list_any-append (is_same i) front (mid ++ back)
      ∙ (λ k. none_same i front (λ j c. other_start i j (λ e. omega (arith, before j c))) k || list_any-append (is_same i) mid back k)
      ∙ ap (λ b. list_any (is_same i) mid || b) (none_same i back (λ j c. other_start i j (λ e. omega (arith, behind j c))))
      ∙ or_false (list_any (is_same i) mid)
    where
      or_false : (b : Bool) → (b || false) ≡ b
      or_false true = refl
      or_false false = refl

  find_between : find (is_same i) (front ++ (mid ++ back)) ≡ find (is_same i) mid
  find_between =
      find-append (is_same i) front (mid ++ back)
      ∙ (λ k. option_or (find_none (is_same i) front (λ j c. other_start i j (λ e. omega (arith, before j c))) k) (find-append (is_same i) mid back k))
      ∙ ap (λ o. option_or (find (is_same i) mid) o) (find_none (is_same i) back (λ j c. other_start i j (λ e. omega (arith, behind j c))))
      ∙ or_none (find (is_same i) mid)
    where
      or_none : (o : Option Instance) → option_or o None ≡ o
      or_none None = refl
      or_none (Some x) = refl

module _ (window : ℕ) (key : List ℕ) (front old new back : List Instance) (was : RiseByStart (front ++ (old ++ back))) (now : RiseByStart (front ++ (new ++ back))) where
  at_front : (mid : List Instance) (j : Instance) → Contains front j → Contains (front ++ (mid ++ back)) j
  at_front mid j c = Contains-append_left front (mid ++ back) j c

  at_back : (mid : List Instance) (j : Instance) → Contains back j → Contains (front ++ (mid ++ back)) j
  at_back mid j c = Contains-append_right front (mid ++ back) j (Contains-append_right mid back j c)

  lower : (mid : List Instance) → RiseByStart (front ++ (mid ++ back)) → (i : Instance) → Contains mid i → (j : Instance) → Contains front j → j.low < i.low
  lower mid s i c j d = crossed front (mid ++ back) j i s d (Contains-append_left mid back i c)

  upper : (mid : List Instance) → RiseByStart (front ++ (mid ++ back)) → (i : Instance) → Contains mid i → (j : Instance) → Contains back j → i.low < j.low
  upper mid s i c j d = crossed mid back i j (rises_behind front (mid ++ back) s) c d

  gone : (func : Func) → filter_map (retraction window key func (front ++ (new ++ back))) (front ++ (old ++ back)) ≡ filter_map (retraction window key func new) old
  gone func =
      let h = retraction window key func (front ++ (new ++ back)) in
      filter_map-append h front (old ++ back)
      ∙ (λ k. filter_map_none h front (λ i c. not_retracted window key func (front ++ (new ++ back)) i (at_front new i c)) k ++ filter_map-append h old back k)
      ∙ ap (λ l. filter_map h old ++ l) (filter_map_none h back (λ i c. not_retracted window key func (front ++ (new ++ back)) i (at_back new i c)))
      ∙ append-nil (filter_map h old)
      ∙ filter_map_same h (retraction window key func new) old (λ i c. ap (λ b. cond b None (Some (Gone (row_of window key func i)))) (any_between front new back now i (lower old was i c) (upper old was i c)))

  come : (func : Func) → filter_map (emission window key func (front ++ (old ++ back))) (front ++ (new ++ back)) ≡ filter_map (emission window key func old) new
  come func =
      let h = emission window key func (front ++ (old ++ back)) in
      filter_map-append h front (new ++ back)
      ∙ (λ k. filter_map_none h front (λ i c. not_emitted window key func (front ++ (old ++ back)) i was (at_front old i c)) k ++ filter_map-append h new back k)
      ∙ ap (λ l. filter_map h new ++ l) (filter_map_none h back (λ i c. not_emitted window key func (front ++ (old ++ back)) i was (at_back old i c)))
      ∙ append-nil (filter_map h new)
      ∙ filter_map_same h (emission window key func old) new (λ i c. ap (emitted window key func i) (find_between front old back was i (lower new now i c) (upper new now i c)))

pub gone_between : (window : ℕ) (key : List ℕ) (func : Func) (front old new back : List Instance) → RiseByStart (front ++ (old ++ back)) → RiseByStart (front ++ (new ++ back)) → filter_map (retraction window key func (front ++ (new ++ back))) (front ++ (old ++ back)) ≡ filter_map (retraction window key func new) old
gone_between window key func front old new back was now = gone window key front old new back was now func

pub come_between : (window : ℕ) (key : List ℕ) (func : Func) (front old new back : List Instance) → RiseByStart (front ++ (old ++ back)) → RiseByStart (front ++ (new ++ back)) → filter_map (emission window key func (front ++ (old ++ back))) (front ++ (new ++ back)) ≡ filter_map (emission window key func old) new
come_between window key func front old new back was now = come window key front old new back was now func

-- the same of what is complete of the instances
module _ (window : ℕ) (key : List ℕ) (func : Func) (water : ℕ) (front old new back : List Instance) (was : RiseByStart (front ++ (old ++ back))) (now : RiseByStart (front ++ (new ++ back))) where
  complete_parts : (mid : List Instance) → filter (is_complete water) (front ++ (mid ++ back)) ≡ filter (is_complete water) front ++ (filter (is_complete water) mid ++ filter (is_complete water) back)
  complete_parts mid = filter-append (is_complete water) front (mid ++ back) ∙ ap (λ l. filter (is_complete water) front ++ l) (filter-append (is_complete water) mid back)

  complete_rise : (mid : List Instance) → RiseByStart (front ++ (mid ++ back)) → RiseByStart (filter (is_complete water) front ++ (filter (is_complete water) mid ++ filter (is_complete water) back))
  complete_rise mid s = subst RiseByStart (complete_parts mid) (IsStrictlySortedBy-filter by_start (is_complete water) (front ++ (mid ++ back)) s)

  pub complete_gone : retractions_between window key func (complete_at water (front ++ (old ++ back))) (complete_at water (front ++ (new ++ back))) ≡ retractions_between window key func (complete_at water old) (complete_at water new)
  complete_gone =
      (λ i. retractions_between window key func (complete_parts old i) (complete_parts new i))
      ∙ gone_between window key func (filter (is_complete water) front) (filter (is_complete water) old) (filter (is_complete water) new) (filter (is_complete water) back) (complete_rise old was) (complete_rise new now)

  pub complete_come : emissions_between window key func (complete_at water (front ++ (old ++ back))) (complete_at water (front ++ (new ++ back))) ≡ emissions_between window key func (complete_at water old) (complete_at water new)
  complete_come =
      (λ i. emissions_between window key func (complete_parts old i) (complete_parts new i))
      ∙ come_between window key func (filter (is_complete water) front) (filter (is_complete water) old) (filter (is_complete water) new) (filter (is_complete water) back) (complete_rise old was) (complete_rise new now)
