-- What the rule of the lock says once a view has the last turn.
use Rattle.std.proofs.Common.{◌≡◌, ◌≢◌, ◌⊎◌, ℕ, zero, suc, ◌%◌, ◌^◌, ◌<◌, ◌≤◌, Bool, true, false, cond, eqb, List, [], ◌∷◌, ◌++◌, map, length, Some, get_or, refl, sym, ap, ◌∙◌, subst, arith, inl, inr, ⊎_elim, eq-eqb, append_assoc}
use Rattle.std.specs.Prelude.{Contains, All}
use Rattle.std.specs.List.{filter, AllPairs}
use Rattle.std.proofs.lemmas.List.{set-get_or, map-append}
use Rattle.std.proofs.lemmas.List.Elements.{All-contains, Contains-append_cases, Contains-append_right, Contains-get_or}
use mathlib.Core.Option.{some, none, some-injective}
use mathlib.Core.Logic.{dite}
use native.Mathlib.Decide.{ℕ_discrete, dec_le}
use lib.ListN.{get_elem?}
use Rattle.atomic_table.specs.Table.{State, Me, step, keeps, Allows, Enters}
use Rattle.atomic_table.proofs.Lists.{at_map}
use Rattle.turnstile.specs.declared.keeps.Keeps.{Ghosts}
use Rattle.turnstile.specs.declared.pass.Pass.{Pass}
use Rattle.turnstile.specs.declared.view.Stage.{Stage}
use Rattle.turnstile.specs.declared.view.Stage.TheVariants.{Idle, Waiting, Reached}
use Rattle.turnstile.specs.declared.view.Part.{Part}
use Rattle.turnstile.specs.declared.view.View.{View}
use Rattle.turnstile.specs.History.{of_number, BeginsWith}
use Rattle.turnstile.specs.Rule.{total, Each, one_if_some, one_if, births_of, parts, times, rights, in_line, Facts, StageOk, PartOk, ViewOk, SlotOk, Rule}
use Rattle.turnstile.specs.Steps.{Fits, at_stage, spent, ReachesAt, reached, Closes}
use Rattle.turnstile.specs.Passes.{number, fixed, seen, made, born, known, numbers, AreAll}
use Rattle.turnstile.proofs.Totals.{total-at, total-two}
use Rattle.turnstile.proofs.Moves.{changed, same_counts, unmoved, my_turn, relined, each-map, if_some-map, if_some-at, one_if-same}
use Rattle.turnstile.proofs.Joins.{added}

module _ {I : Type 0} where
  none_behind : (x : ℕ × I) (ys : List (ℕ × I)) (b : Bool) → map (λ (e : ℕ × I). e.1) (cond b (x ∷ ys) ys) ≡ [] → map (λ (e : ℕ × I). e.1) ys ≡ []
  none_behind x ys true e = absurd (cc)
  none_behind x ys false e = e

  -- an item in the list is among the items of its number
  has_some : (n : ℕ) (list : List (ℕ × I)) (k : ℕ) (e : ℕ × I) → k < length list → get_or list k e ≡ e → e.0 ≡ n → of_number n list ≡ [] → ⊥
  has_some n [] k e lt is num none_there = absurd (omega arith)
  has_some n (x ∷ xs) zero e lt is num none_there =
      let ys : List (ℕ × I) = filter (λ (z : ℕ × I). eqb z.0 n) xs in
      let t : eqb x.0 n ≡ true = eq-eqb x.0 n (ap (λ (z : ℕ × I). z.0) is ∙ num) in
      let q : x.1 ∷ map (λ (z : ℕ × I). z.1) ys ≡ [] = subst (λ b. map (λ (z : ℕ × I). z.1) (cond b (x ∷ ys) ys) ≡ []) t none_there in cc
  has_some n (x ∷ xs) (suc k) e lt is num none_there =
      has_some n xs k e (omega arith) is num (none_behind x (filter (λ (z : ℕ × I). eqb z.0 n) xs) (eqb x.0 n) none_there)

module _ {T I F : Type 0} (items : T → List (ℕ × I)) (fix : T → F) where
  spent_ok : (h : Facts I F) (i : ℕ) → ViewOk h i spent
  spent_ok h i = record {
    stage = tt;
    each = (record { seen = (h.log, refl); own = tt }, tt);
    line = omega arith;
    zero = λ some_zero. absurd (omega arith);
    other = λ _. record { room = refl; pending = refl; born = refl };
  }

  pub enters : (slots : ℕ) → Enters (Rule items fix) slots 0 (λ n w. w ≡ spent)
  enters slots s r deep small = (spent, (r.0, added items fix s r.0 r.1 spent refl refl (λ n. refl) (spent_ok r.0)), refl)

  pub reaches : (slots id : ℕ) (me : Me T (View I F)) (k : ℕ) → me.0.stage ≡ Waiting k → Allows (Rule items fix) slots id me 1 (λ n. n) (reached (step slots 1 0 0 none) me)
  reaches slots id me k wait s r deep at small =
      let h = r.0 in let o = r.1 in let v = me.0 in let found : ℕ = get_or s.words 1 0 in let ok = o.each id v at in
      let mine : StageOk h id (Waiting k) = subst (StageOk h id) wait ok.stage in dite (ℕ_discrete found (k % 2 ^ 64))
      (λ hit. let turn = my_turn items fix s h o id k mine hit in let w : View I F = at_stage (Reached k) v in let has = ap in_line wait in let right = ok.line in (
        w,
        keeps,
        tt,
        (
          h,
          changed items fix s h h o id v w at _ s.homes record {
            words = set-get_or s.words 1 0 ∙ o.words;
            slot = o.slot;
            line = omega arith;
            in_turn = o.in_turn;
            rights_same = refl;
            counts = same_counts items fix h h v w refl (λ n. refl);
            past = o.past;
            mine = relined h h.next h.now h.owner h.busy id v (Reached k) ok (turn.0, mine.1, mine.2, turn.1) (omega arith);
            others = λ j u ne there okay. okay;
          },
        ),
        subst (ReachesAt me found (w, me.1)) (sym wait) ((λ _. refl), λ miss. absurd (miss hit)),
      ))
      (λ miss. (v, keeps, tt, unmoved items fix s 1 id me at r, subst (ReachesAt me found me) (sym wait) ((λ hit. absurd (miss hit)), λ _. refl)))

  pub closes : (s : State T (View I F)) → Rule items fix s → (id : ℕ) (v : View I F) → get_elem? s.views id ≡ some v → (k : ℕ) → v.stage ≡ Reached k
      → (xs : List T) → ((j : ℕ) (y : T) → get_elem? s.homes j ≡ some (some y) → get_elem? xs j ≡ some y) → (x : T) → get_elem? xs 0 ≡ some x → Closes items fix v x
  closes s r id v at k there xs lies x taken =
      let h = r.0 in let o = r.1 in let ok = o.each id v at in let stage : StageOk h id (Reached k) = subst (StageOk h id) there ok.stage in
      let slot : SlotOk items fix h false s.homes = subst (λ b. SlotOk items fix h b s.homes) stage.3 o.slot in let y : T = slot.0 in
      let same : y ≡ x = some-injective y x (sym (lies 0 y (ap (λ hs. get_elem? hs 0) slot.1)) ∙ taken) in
      let list : items y ≡ h.log = slot.2 in let f : fix y ≡ h.fixed = slot.3 in
      subst (Closes items fix v) same record {
        each = each-map (PartOk h) (λ p. Fits items fix p y) (λ p q. record {
          seen = subst (λ l. BeginsWith l p.seen) (sym list) q.seen;
          own = if_some-map _ _ (λ n z. (ap (of_number n) list ∙ z.1, z.2 ∙ ap Some (sym f))) p.number q.own;
        }) (parts v) ok.each;
        apart = λ n. let a = total-at (times n) s.views id v at in let b = o.apart n in omega arith;
        complete = λ some_zero e has. let z = ok.zero some_zero in dite (ℕ_discrete e.0 0) (λ is. inl is) (λ ne. inr (dite (dec_le h.handed e.0)
            (λ le. absurd (has_some e.0 h.log has.0 e (subst (λ l. has.0 < length l) list has.1) (subst (λ l. get_or l has.0 e ≡ e) list has.2) refl (o.past.made e.0 le)))
            (λ less. subst (λ l. Contains l e.0) (sym z.born) (o.past.all_born e.0 (omega arith) (omega arith)))));
      }

module _ {A B : Type 0} where
  -- what holds of the image of each member
  pub each_all : (f : A → B) (P : B → Type 0) (l : List A) → Each P (map f l) → All (λ x. P (f x)) l
  each_all f P [] e k d lt = absurd (omega arith)
  each_all f P (x ∷ xs) e zero d lt = e.0
  each_all f P (x ∷ xs) e (suc k) d lt = each_all f P xs e.1 k d (omega arith)

module _ {A : Type 0} where
  pub at_get : (l : List A) (i : ℕ) (d : A) → i < length l → get_elem? l i ≡ some (get_or l i d)
  at_get [] i d lt = absurd (omega arith)
  at_get (x ∷ xs) zero d lt = refl
  at_get (x ∷ xs) (suc i) d lt = at_get xs i d (omega arith)

module _ {T I F : Type 0} {g : Ghosts T I F} where
  pub numbered : (p : Pass T I F g) → (known p).number ≡ Some (number p)
  numbered p = ap (λ m. m.0.main.number) p.resting

  pub some_right : (l : List (Pass T I F g)) → 0 < length l → 0 < total (λ (q : Part I F). one_if_some q.number) (map known l)
  some_right [] pos = absurd (omega arith)
  some_right (p ∷ ps) pos = let e : one_if_some (known p).number ≡ 1 = ap one_if_some (numbered p) in omega arith

  counted_at : (l : List (Pass T I F g)) (n k : ℕ) → k < length (numbers l) → get_or (numbers l) k n ≡ n → 0 < total (λ (q : Part I F). one_if n q.number) (map known l)
  counted_at [] n k lt is = absurd (omega arith)
  counted_at (p ∷ ps) n zero lt is = let e : one_if n (known p).number ≡ 1 = ap (one_if n) (numbered p ∙ ap Some is) ∙ one_if-same n in omega arith
  counted_at (p ∷ ps) n (suc k) lt is = let ih = counted_at ps n k (omega arith) is in omega arith

  pub counted : (l : List (Pass T I F g)) (n : ℕ) → Contains (numbers l) n → 0 < total (λ (q : Part I F). one_if n q.number) (map known l)
  counted l n has = counted_at l n has.0 has.1 has.2

  -- a birth is one of some pass's
  born_of_some : (l : List (Pass T I F g)) (n : ℕ) → Contains (births_of (map known l)) n → (p : Pass T I F g) × Contains l p × Contains (born p) n
  born_of_some [] n has = let lt : has.0 < 0 = has.1 in absurd (omega arith)
  born_of_some (p ∷ ps) n has = ⊎_elim (λ (t : Contains (born p) n). (p, (0, omega arith, refl), t))
      (λ (t : Contains (births_of (map known ps)) n). let q = born_of_some ps n t in (q.0, Contains-append_right (p ∷ []) ps q.0 q.1, q.2)) (Contains-append_cases (born p) (births_of (map known ps)) n has)

  pub all_given : (l : List (Pass T I F g)) (n : ℕ) → AreAll l → (n ≡ 0) ⊎ Contains (births_of (map known l)) n → Contains (numbers l) n
  all_given l n all has = ⊎_elim (λ is. subst (Contains (numbers l)) (sym is) all.0)
      (λ (t : Contains (births_of (map known l)) n). let q = born_of_some l n t in All-contains (Contains (numbers l)) (born q.0) n (All-contains (λ p. All (Contains (numbers l)) (born p)) l q.0 all.1 q.1) q.2) has

  pub differ : (l : List (Pass T I F g)) → ((n : ℕ) → total (λ (q : Part I F). one_if n q.number) (map known l) ≤ 1) → AllPairs (λ p q. number p ≢ number q) l
  differ l few i j d lt below same =
      let a : Pass T I F g = get_or l i d in let b : Pass T I F g = get_or l j d in let n : ℕ = number a in
      let two = total-two (λ (q : Part I F). one_if n q.number) (map known l) i j (known a) (known b) (λ e. omega arith) (at_map known l i a (at_get l i d (omega arith))) (at_map known l j b (at_get l j d below)) in
      let one_a : one_if n (known a).number ≡ 1 = ap (one_if n) (numbered a) ∙ one_if-same n in
      let one_b : one_if n (known b).number ≡ 1 = ap (one_if n) (numbered b ∙ ap Some (sym same)) ∙ one_if-same n in
      let most = few n in absurd (omega arith)

  -- one more pass was joined
  pub gathered : (old new : List (Pass T I F g)) (p : Pass T I F g) (others all : List (Part I F)) → old ≡ new ++ p ∷ [] → map known old ++ others ≡ all → map known new ++ (known p ∷ others) ≡ all
  gathered old new p others all is before =
      sym (append_assoc (map known new) (known p ∷ []) others) ∙ (ap (λ z. z ++ others) (sym (map-append known new (p ∷ []))) ∙ (ap (λ z. map known z ++ others) (sym is) ∙ before))

  -- a view with no part of its own, and with what these passes knew
  abbrev pub gathering : List (Pass T I F g) → Stage I → ℕ → View I F
  gathering l st room = at_stage st (record spent { others = map known l; room = room })

  pub right_of_some : (l : List (Pass T I F g)) (room : ℕ) → 0 < length l → 0 < rights (gathering l Idle room)
  right_of_some l room pos = let some_one = some_right l pos in omega arith

  module _ (l : List (Pass T I F g)) (v : View I F) (st : Stage I) (room : ℕ) (is : v ≡ gathering l st room) (x : T) (c : Closes g.items g.fixed v x) where
    fits_all : All (λ p. Fits g.items g.fixed (known p) x) l
    fits_all = each_all known (λ q. Fits g.items g.fixed q x) l (subst (λ z. Each (λ q. Fits g.items g.fixed q x) (parts z)) is c.each).1

    own_all : (k : ℕ) (d : Pass T I F g) → k < length l → (of_number (number (get_or l k d)) (g.items x) ≡ made (get_or l k d)) × (fixed (get_or l k d) ≡ Some (g.fixed x))
    own_all k d lt = let p : Pass T I F g = get_or l k d in
        if_some-at (λ n. (of_number n (g.items x) ≡ made p) × (fixed p ≡ Some (g.fixed x))) (known p).number (number p) (numbered p) (fits_all k d lt).own

    pub closing_begins : All (λ p. BeginsWith (g.items x) (seen p)) l
    closing_begins k d lt = (fits_all k d lt).seen

    pub closing_made : All (λ p. of_number (number p) (g.items x) ≡ made p) l
    closing_made k d lt = (own_all k d lt).0

    pub closing_fixed : All (λ p. fixed p ≡ Some (g.fixed x)) l
    closing_fixed k d lt = (own_all k d lt).1

    pub closing_apart : AllPairs (λ p q. number p ≢ number q) l
    closing_apart = differ l (λ n. let few : times n (gathering l st room) ≤ 1 = subst (λ z. times n z ≤ 1) is (c.apart n) in omega arith)

    pub closing_complete : AreAll l → All (λ e. Contains (numbers l) e.0) (g.items x)
    closing_complete all k d lt = let e : ℕ × I = get_or (g.items x) k d in
        let some_zero : 0 < times 0 v = subst (λ z. 0 < times 0 z) (sym is) (let some_one = counted l 0 all.0 in omega arith) in
        all_given l e.0 all (subst (λ z. (e.0 ≡ 0) ⊎ Contains (births_of (parts z)) e.0) is (c.complete some_zero e (Contains-get_or (g.items x) k d lt)))

module _ {T I F : Type 0} where
  -- what a gathering place knows but for its parts and its room
  pub rests_again : (m : Me T (View I F)) (others : List (Part I F)) (room : ℕ) → m ≡ (record spent { others = others; room = room }, []) → m ≡ (record spent { others = m.0.others; room = m.0.room }, [])
  rests_again m others room e = e ∙ (λ k. (record spent { others = sym (ap (λ z. z.0.others) e) k; room = sym (ap (λ z. z.0.room) e) k }, []))
