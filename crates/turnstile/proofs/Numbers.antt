-- Drawing a number and handing it over keep the rule of the lock.
use Rattle.std.proofs.Common.{◌≡◌, ◌≢◌, ℕ, ◌+◌, ◌-◌, ◌%◌, ◌^◌, ◌<◌, ◌≤◌, List, [], ◌∷◌, ◌++◌, append-nil, Option, Some, None, set, get_or, refl, sym, ap, ◌∙◌, subst, arith, ⊎_elim}
use Rattle.std.specs.Prelude.{IfSome, Contains}
use Rattle.std.specs.Option.{unwrap_or}
use Rattle.std.proofs.lemmas.List.Elements.{Contains-append_left, Contains-push, Contains-push_cases}
use mathlib.Core.Option.{some, none}
use mathlib.Core.Logic.{dite}
use native.Mathlib.Decide.{ℕ_discrete}
use lib.ListN.{get_elem?}
use Rattle.atomic_table.specs.Table.{State, Me, step, keeps, Allows, Splits}
use Rattle.atomic_table.proofs.Lists.{at_set, at_snoc}
use Rattle.turnstile.specs.declared.view.Stage.{Stage}
use Rattle.turnstile.specs.declared.view.Stage.TheVariants.{Idle, Waiting, Serving, Reached}
use Rattle.turnstile.specs.declared.view.Part.{Part}
use Rattle.turnstile.specs.declared.view.View.{View}
use Rattle.turnstile.specs.History.{of_number}
use Rattle.turnstile.specs.Rule.{total, Each, one_if_some, one_if, births_of, parts, times, rights, in_line, waits, Facts, StageOk, PartOk, ViewOk, PastOk, Holds, Rule}
use Rattle.turnstile.specs.Steps.{drawn_number, handed_over, child, DrawsNumber, drew_number}
use Rattle.turnstile.proofs.Totals.{total-set, total-push, total-two}
use Rattle.turnstile.proofs.Moves.{if_some-at, if_some-map, one_if-small, one_if-other, each-map, same_parts, changed}

module _ {I F : Type 0} where
  same_stage : (h : Facts I F) (numbers handed : ℕ) (births : List ℕ) (j : ℕ) (st : Stage I) → StageOk h j st → StageOk (record h { numbers = numbers; handed = handed; births = births }) j st
  same_stage h numbers handed births j Idle o = o
  same_stage h numbers handed births j (Waiting k) o = o
  same_stage h numbers handed births j (Serving k list) o = o
  same_stage h numbers handed births j (Reached k) o = o

  grown_own : (h : Facts I F) (o : Option ℕ) (made : List I) (fix : Option F) → IfSome o (λ n. (n < h.handed) × (of_number n h.log ≡ made) × (fix ≡ Some h.fixed))
      → IfSome o (λ n. (n < h.handed + 1) × (of_number n h.log ≡ made) × (fix ≡ Some h.fixed))
  grown_own h None made fix q = tt
  grown_own h (Some n) made fix q = let lt = q.0 in (omega arith, q.1, q.2)

  grown_parts : (h : Facts I F) (l : List (Part I F)) → Each (PartOk h) l → Each (PartOk (record h { handed = h.handed + 1; births = h.births ++ h.handed ∷ [] })) l
  grown_parts h l e = each-map (PartOk h) (PartOk (record h { handed = h.handed + 1; births = h.births ++ h.handed ∷ [] }))
      (λ p q. record { seen = q.seen; own = grown_own h p.number p.made p.fixed q.own }) l e

  -- a view without number 0 stays right where numbers are drawn and handed over
  without_zero : (h : Facts I F) (numbers handed : ℕ) (births : List ℕ) → h.handed ≤ handed → (j : ℕ) (u : View I F) → times 0 u ≡ 0 → ViewOk h j u
      → ViewOk (record h { numbers = numbers; handed = handed; births = births }) j u
  without_zero h numbers handed births more j u no_zero o = let z = o.other no_zero in record {
    stage = same_stage h numbers handed births j u.stage o.stage;
    each = each-map (PartOk h) (PartOk (record h { numbers = numbers; handed = handed; births = births }))
        (λ p q. record { seen = q.seen; own = if_some-map _ _ (λ n w. let lt = w.0 in (omega arith, w.1, w.2)) p.number q.own }) (parts u) o.each;
    line = o.line;
    zero = λ some_zero. absurd (omega arith);
    other = λ _. record { room = z.room; pending = z.pending; born = z.born };
  }

  -- who has number 0 counts it
  has_zero : (v : View I F) → v.main.number ≡ Some 0 → 0 < times 0 v
  has_zero v is = let one : one_if 0 v.main.number ≡ 1 = ap (one_if 0) is in omega arith

module _ {T I F : Type 0} (items : T → List (ℕ × I)) (fixed : T → F) where
  -- where one view has number 0 no other has
  others_lack : (s : State T (View I F)) (h : Facts I F) → Holds items fixed s h → (id j : ℕ) (v u : View I F) → j ≢ id → get_elem? s.views id ≡ some v → get_elem? s.views j ≡ some u → 0 < times 0 v → times 0 u ≡ 0
  others_lack s h o id j v u ne at there pos = let two = total-two (times 0) s.views id j v u ne at there in let one = o.apart 0 in omega arith

  -- the number h.numbers was drawn by v, which becomes w
  drawn_counts : (h h' : Facts I F) (v w : View I F) → h'.numbers ≡ h.numbers + 1 → ((n : ℕ) → times n w ≡ one_if n (Some h.numbers) + times n v)
      → (n S S' : ℕ) → S ≤ 1 → (h.numbers ≤ n → S ≡ 0) → S' + times n v ≡ S + times n w → (S' ≤ 1) × (h'.numbers ≤ n → S' ≡ 0)
  drawn_counts h h' v w more counts n S S' small none_yet e = let t = counts n in dite (ℕ_discrete h.numbers n)
      (λ is. let one = one_if-small n (Some h.numbers) in let none_here = none_yet (omega arith) in (omega arith, λ le. absurd (omega arith)))
      (λ ne. let other : one_if n (Some h.numbers) ≡ 0 = one_if-other n h.numbers ne in (omega arith, λ le. let none_here = none_yet (omega arith) in omega arith))

  pub draws_number : (slots id : ℕ) (me : Me T (View I F)) → 0 < me.0.room → me.0.main.number ≡ Some 0 → me.0.pending ≡ None → me.0.stage ≡ Idle → me.0.others ≡ []
      → Allows (Rule items fixed) slots id me 2 (λ n. (n + 1) % 2 ^ 64) (drew_number (step slots 2 1 0 none) me)
  draws_number slots id me some_room zeroth none_drawn idle alone s r deep at small =
      let h = r.0 in let o = r.1 in let v = me.0 in let ok = o.each id v at in let z = ok.zero (has_zero v zeroth) in let num : ℕ = h.numbers in
      let none_out : one_if_some v.pending ≡ 0 = ap one_if_some none_drawn in let drawn = z.drawn in let left = z.left in
      let one : one_if 0 v.main.number ≡ 1 = ap (one_if 0) zeroth in let idle_line : waits v ≡ 0 = ap in_line idle in
      let found : get_or s.words 2 0 ≡ num = ap (λ ws. get_or ws 2 0) o.words in
      let fits : (num + 1) % 2 ^ 64 ≡ num + 1 = omega arith in
      let w : View I F = record v { room = v.room - 1; pending = Some num } in let h' : Facts I F = record h { numbers = num + 1 } in
      let births : v.main.born ≡ h.births = sym (append-nil v.main.born) ∙ (ap (λ l. v.main.born ++ births_of l) (sym alone) ∙ z.born) in (
        w,
        keeps,
        tt,
        (
          h',
          changed items fixed s h h' o id v w at _ s.homes record {
            words = (λ i. set (o.words i) 2 ((found i + 1) % 2 ^ 64)) ∙ ap (λ a. (h.next % 2 ^ 64) ∷ (h.now % 2 ^ 64) ∷ a ∷ []) fits;
            slot = o.slot;
            line = refl;
            in_turn = o.in_turn;
            rights_same = omega arith;
            counts = drawn_counts h h' v w refl (λ n. let e : one_if n v.pending ≡ 0 = ap (one_if n) none_drawn in omega arith);
            past = record { some_number = o.past.some_number; made = o.past.made; all_born = o.past.all_born; none_else = o.past.none_else };
            mine = record {
              stage = same_stage h (num + 1) h.handed h.births id v.stage ok.stage;
              each = same_parts h h' refl refl refl (parts v) ok.each;
              line = omega arith;
              zero = λ _. record { drawn = omega arith; left = omega arith; pending = omega arith; born = z.born };
              other = λ no_zero. absurd (omega arith);
            };
            others = λ j u ne there okay. without_zero h (num + 1) h.handed h.births (omega arith) j u (others_lack s h o id j v u ne at there (has_zero v zeroth)) okay;
          },
        ),
        subst (λ y. DrawsNumber me y (w, me.1)) (sym found) record {
          now_is = refl;
          with_room = left;
          positive = let p = o.past.some_number in omega arith;
          unborn = λ has. let b = o.past.none_else num (subst (λ l. Contains l num) births has) in let lt = b.1 in omega arith;
        },
      )

  -- the numbers that were handed over, with one more
  grown_past : (h : Facts I F) → PastOk h → PastOk (record h { handed = h.handed + 1; births = h.births ++ h.handed ∷ [] })
  grown_past h p = record {
    some_number = omega arith;
    made = λ m le. p.made m (omega arith);
    all_born = λ m pos lt. dite (ℕ_discrete m h.handed) (λ is. subst (Contains (h.births ++ h.handed ∷ [])) (sym is) (Contains-push h.births h.handed))
        (λ ne. Contains-append_left h.births (h.handed ∷ []) m (p.all_born m pos (omega arith)));
    none_else = λ m has. ⊎_elim (λ t. let b = p.none_else m t in let pos = b.0 in let lt = b.1 in (pos, omega arith)) (λ (is : h.handed ≡ m). let pos = p.some_number in (omega arith, omega arith))
        (Contains-push_cases h.births h.handed m has);
  }

  pub hands_over : (id : ℕ) (v : View I F) (n : ℕ) → v.pending ≡ Some n → v.main.number ≡ Some 0 → v.stage ≡ Idle → v.others ≡ [] → Splits (Rule items fixed) id v (handed_over v) (child v)
  hands_over id v n drawn zeroth idle alone s r at =
      let h = r.0 in let o = r.1 in let ok = o.each id v at in let pos = has_zero v zeroth in let z = ok.zero pos in let d : ℕ = drawn_number v in
      let d_is : d ≡ n = ap (λ (p : Option ℕ). unwrap_or p 0) drawn in let next : n ≡ h.handed = if_some-at (λ m. m ≡ h.handed) v.pending n drawn z.pending in
      let out : v.pending ≡ Some d = drawn ∙ ap Some (sym d_is) in let one_out : one_if_some v.pending ≡ 1 = ap one_if_some drawn in
      let idle_line : waits v ≡ 0 = ap in_line idle in let one : one_if 0 v.main.number ≡ 1 = ap (one_if 0) zeroth in let numbers = z.drawn in let room_left = z.left in
      let left : View I F = handed_over v in let right : View I F = child v in let h' : Facts I F = record h { handed = h.handed + 1; births = h.births ++ h.handed ∷ [] } in
      let own : (0 < h.handed) × (of_number 0 h.log ≡ v.main.made) × (v.main.fixed ≡ Some h.fixed) =
      if_some-at (λ m. (m < h.handed) × (of_number m h.log ≡ v.main.made) × (v.main.fixed ≡ Some h.fixed)) v.main.number 0 zeroth ok.each.0.own in
      let positive = own.0 in
      let births : v.main.born ≡ h.births = sym (append-nil v.main.born) ∙ (ap (λ l. v.main.born ++ births_of l) (sym alone) ∙ z.born) in
      let same_times : (m : ℕ) → total (times m) (set s.views id left ++ right ∷ []) ≡ total (times m) s.views = λ m.
      let p = total-push (times m) (set s.views id left) right in let t = total-set (times m) s.views id v left at in let e : one_if m v.pending ≡ one_if m (Some d) = ap (one_if m) out in omega arith in
      let mine : ViewOk h' id left = record {
        stage = same_stage h h.numbers (h.handed + 1) (h.births ++ h.handed ∷ []) id v.stage ok.stage;
        each = (record { seen = ok.each.0.seen; own = grown_own h v.main.number v.main.made v.main.fixed ok.each.0.own }, grown_parts h v.others ok.each.1);
        line = omega arith;
        zero = λ _. record {
          drawn = omega arith;
          left = room_left;
          pending = tt;
          born = ap (λ l. (v.main.born ++ d ∷ []) ++ births_of l) alone ∙ (append-nil (v.main.born ++ d ∷ []) ∙ (λ i. births i ++ (d_is ∙ next) i ∷ []));
        };
        other = λ no_zero. absurd (omega arith);
      } in
      let fresh : (i : ℕ) → ViewOk h' i right = λ i. record {
        stage = tt;
        each = (record { seen = ok.each.0.seen; own = (let e : d ≡ h.handed = d_is ∙ next in omega arith, o.past.made d (let e : d ≡ h.handed = d_is ∙ next in omega arith), own.2) }, tt);
        line = omega arith;
        zero = λ some_zero. let e : d ≡ h.handed = d_is ∙ next in let other : one_if 0 (Some d) ≡ 0 = one_if-other 0 d (λ is. omega arith) in absurd (omega arith);
        other = λ _. record { room = refl; pending = refl; born = refl };
      } in (
        h',
        record {
          words = o.words;
          slot = o.slot;
          line = let p = total-push waits (set s.views id left) right in let t = total-set waits s.views id v left at in let l = o.line in omega arith;
          in_turn = o.in_turn;
          rights = let p = total-push rights (set s.views id left) right in let t = total-set rights s.views id v left at in let l = o.rights in omega arith;
          apart = λ m. let e = same_times m in let a = o.apart m in omega arith;
          drawn = λ m le. same_times m ∙ o.drawn m le;
          past = grown_past h o.past;
          each = λ i u e. ⊎_elim (λ (t : get_elem? (set s.views id left) i ≡ some u). ⊎_elim (λ (k : (i ≡ id) × (left ≡ u)). subst (λ (x : ℕ × View I F). ViewOk h' x.0 x.1) (λ b. (sym k.0 b, k.1 b)) mine)
              (λ (k : (i ≢ id) × (get_elem? s.views i ≡ some u)). without_zero h h.numbers (h.handed + 1) (h.births ++ h.handed ∷ []) (omega arith) i u (others_lack s h o id i v u k.0 at k.1 pos) (o.each i u k.1))
              (at_set s.views id i left u t)) (λ (t : right ≡ u). subst (ViewOk h' i) t (fresh i)) (at_snoc (set s.views id left) right u i e);
        },
      )
