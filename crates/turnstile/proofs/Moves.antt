-- Each step of a turn keeps the rule of the lock.
use Rattle.std.proofs.Common.{◌≡◌, ◌≢◌, ℕ, zero, suc, ◌+◌, ◌%◌, ◌^◌, ◌<◌, ◌≤◌, Bool, true, false, eqb, List, [], ◌∷◌, ◌++◌, Option, Some, None, set, get_or, refl, sym, ap, ◌∙◌, subst, arith, eq-eqb, ne_eqb, cond, ⊎_elim}
use Rattle.std.specs.Prelude.{IfSome}
use Rattle.std.proofs.lemmas.List.{set-get_or}
use mathlib.Core.Option as maybe
use mathlib.Core.Option.{some, none, some-injective, some-ne-none}
use mathlib.Core.Logic.{dite}
use native.Mathlib.Decide.{ℕ_discrete}
use lib.ListN.{get_elem?}
use Rattle.atomic_table.specs.Table.{State, Me, step, keeps, takes, gives, put_back, rest, stepped, Allows, opening}
use Rattle.atomic_table.proofs.Lists.{at_set, set_again, one_turn}
use Rattle.turnstile.specs.declared.view.Stage.{Stage}
use Rattle.turnstile.specs.declared.view.Stage.TheVariants.{Idle, Waiting, Serving, Reached}
use Rattle.turnstile.specs.declared.view.Part.{Part}
use Rattle.turnstile.specs.declared.view.View.{View}
use Rattle.turnstile.specs.History.{of_number, by_number, BeginsWith}
use Rattle.turnstile.specs.Rule.{total, Each, one_if, parts, times, rights, in_line, waits, Facts, StageOk, PartOk, ViewOk, PastOk, SlotOk, Holds, Rule}
use Rattle.turnstile.specs.Steps.{first_view, made_in, turned_to, at_stage, drew, LooksAt, looked, GivesBack, passed, IsReady}
use Rattle.turnstile.proofs.Totals.{total-set, total-two, total-le}
use Rattle.turnstile.proofs.Histories.{other_after, begins-itself, begins-longer}

next_mod : (n : ℕ) → (n % 2 ^ 64 + 1) % 2 ^ 64 ≡ (n + 1) % 2 ^ 64
next_mod n = omega arith

pub if_some-map : {A : Type 0} (P Q : A → Type 0) → ((a : A) → P a → Q a) → (o : Option A) → IfSome o P → IfSome o Q
if_some-map P Q f None h = tt
if_some-map P Q f (Some a) h = f a h

pub if_some-at : {A : Type 0} (P : A → Type 0) (o : Option A) (a : A) → o ≡ Some a → IfSome o P → P a
if_some-at P o a is h = subst (λ z. IfSome z P) is h

pub one_if-small : (n : ℕ) (o : Option ℕ) → one_if n o ≤ 1
one_if-small n None = omega arith
one_if-small n (Some m) = elim (eqb m n) as (λ b. cond b 1 0 ≤ 1) [ true ↦ omega arith | false ↦ omega arith ]

pub one_if-same : (n : ℕ) → one_if n (Some n) ≡ 1
one_if-same n = rw (eq-eqb n n refl)

pub one_if-other : (n m : ℕ) → m ≢ n → one_if n (Some m) ≡ 0
one_if-other n m ne = rw (ne_eqb m n ne)

-- a number that is counted 0 times is another one
pub is_other : (n m : ℕ) → one_if n (Some m) ≡ 0 → m ≢ n
is_other n m none_here is = let one : one_if n (Some m) ≡ 1 = rw is (one_if-same n) in absurd (omega arith)

module _ {A : Type 0} where
  pub each-map : (P Q : A → Type 0) → ((a : A) → P a → Q a) → (l : List A) → Each P l → Each Q l
  each-map P Q f [] h = tt
  each-map P Q f (x ∷ xs) h = (f x h.0, each-map P Q f xs h.1)

  -- the same, where no member is counted
  pub each-uncounted : (P Q : A → Type 0) (c : A → ℕ) → ((a : A) → c a ≡ 0 → P a → Q a) → (l : List A) → total c l ≡ 0 → Each P l → Each Q l
  each-uncounted P Q c f [] z h = tt
  each-uncounted P Q c f (x ∷ xs) z h = (f x (omega arith) h.0, each-uncounted P Q c f xs (omega arith) h.1)

module _ {I F : Type 0} where
  -- the parts stay right where the list, the fixed part and the numbers stay
  pub same_parts : (h h' : Facts I F) → h'.log ≡ h.log → h'.fixed ≡ h.fixed → h'.handed ≡ h.handed → (l : List (Part I F)) → Each (PartOk h) l → Each (PartOk h') l
  same_parts h h' log fix handed l e = each-map (PartOk h) (PartOk h') (λ p o. record {
    seen = subst (λ z. BeginsWith z p.seen) (sym log) o.seen;
    own = if_some-map _ _ (λ n q. (rw handed q.0, rw log q.1, rw fix q.2)) p.number o.own;
  }) l e

  -- a change in the line of tickets alone
  pub relined : (h : Facts I F) (next now : ℕ) (owner : ℕ → ℕ) (busy : Bool) (j : ℕ) (v : View I F) (st : Stage I) → ViewOk h j v
      → StageOk (record h { next = next; now = now; owner = owner; busy = busy }) j st → in_line st ≤ rights v → ViewOk (record h { next = next; now = now; owner = owner; busy = busy }) j (at_stage st v)
  relined h next now owner busy j v st o stage line = record {
    stage = stage;
    each = same_parts h (record h { next = next; now = now; owner = owner; busy = busy }) refl refl refl (parts v) o.each;
    line = line;
    zero = λ some_zero. let z = o.zero some_zero in record { drawn = z.drawn; left = z.left; pending = z.pending; born = z.born };
    other = λ no_zero. let z = o.other no_zero in record { room = z.room; pending = z.pending; born = z.born };
  }

  pub past_same : (h : Facts I F) (next now : ℕ) (owner : ℕ → ℕ) (busy : Bool) → PastOk h → PastOk (record h { next = next; now = now; owner = owner; busy = busy })
  past_same h next now owner busy p = record { some_number = p.some_number; made = p.made; all_born = p.all_born; none_else = p.none_else }

  -- who has the ticket that is served is the only one
  served_other : (h : Facts I F) (id j k : ℕ) → j ≢ id → h.owner h.now ≡ id → h.owner k ≡ j → k ≢ h.now
  served_other h id j k ne own other is = ne (sym other ∙ (ap h.owner is ∙ own))

  drawn_stage : (h : Facts I F) (id j : ℕ) → j ≢ id → (st : Stage I) → StageOk h j st
      → StageOk (record h { next = h.next + 1; owner = λ k. cond (eqb k h.next) id (h.owner k) }) j st
  drawn_stage h id j ne Idle o = tt
  drawn_stage h id j ne (Waiting k) o = let lt : k < h.next = o.1 in let other : k ≢ h.next = λ e. omega arith in (o.0, omega arith, rw (ne_eqb k h.next other) o.2, o.3)
  drawn_stage h id j ne (Serving k list) o = let lt : k < h.next = o.1 in let other : k ≢ h.next = λ e. omega arith in (o.0, omega arith, rw (ne_eqb k h.next other) o.2, o.3, o.4)
  drawn_stage h id j ne (Reached k) o = let lt : k < h.next = o.1 in let other : k ≢ h.next = λ e. omega arith in (o.0, omega arith, rw (ne_eqb k h.next other) o.2, o.3)

  -- another seat's stage, where the value is taken by the seat id
  taken_stage : (h : Facts I F) (id j : ℕ) → j ≢ id → h.owner h.now ≡ id → (st : Stage I) → StageOk h j st → StageOk (record h { busy = true }) j st
  taken_stage h id j ne own Idle o = tt
  taken_stage h id j ne own (Waiting k) o = (o.0, o.1, o.2, λ is. absurd (served_other h id j k ne own o.2 is))
  taken_stage h id j ne own (Serving k list) o = (o.0, o.1, o.2, refl, o.4)
  taken_stage h id j ne own (Reached k) o = absurd (served_other h id j k ne own o.2 o.0)

  -- another seat's stage, where the turn of the seat id ends
  ended_stage : (h : Facts I F) (id j : ℕ) (log : List (ℕ × I)) → j ≢ id → h.owner h.now ≡ id → (st : Stage I) → StageOk h j st → StageOk (record h { now = h.now + 1; busy = false; log = log }) j st
  ended_stage h id j log ne own Idle o = tt
  ended_stage h id j log ne own (Waiting k) o = let le : h.now ≤ k = o.0 in let other : k ≢ h.now = served_other h id j k ne own o.2 in (omega arith, o.1, o.2, λ _. refl)
  ended_stage h id j log ne own (Serving k list) o = absurd (served_other h id j k ne own o.2 o.0)
  ended_stage h id j log ne own (Reached k) o = absurd (served_other h id j k ne own o.2 o.0)

some_same : {A : Type 0} {a b : A} → ◌≡◌ {A = Option A} (Some a) (Some b) → a ≡ b
some_same e = cc

quiet : (b : Bool) → (b ≡ true → ⊥) → b ≡ false
quiet true h = absurd (h refl)
quiet false h = refl

alone : {A : Type 0} (i : ℕ) (v u : A) → i ≢ 0 → get_elem? (v ∷ []) i ≡ some u → ⊥
alone zero v u ne e = ne refl
alone (suc i) v u ne e = some-ne-none u (sym e)

module _ {T I F : Type 0} (items : T → List (ℕ × I)) (fixed : T → F) where
  -- what a step that changes the view of the seat id from v to w owes
  pub record Change (s : State T (View I F)) (h h' : Facts I F) (id : ℕ) (v w : View I F) (ws : List ℕ) (homes : List (maybe.Option T)) : Type 0 where
    pub words : ws ≡ (h'.next % 2 ^ 64) ∷ (h'.now % 2 ^ 64) ∷ h'.numbers ∷ []
    pub slot : SlotOk items fixed h' h'.busy homes
    pub line : (h'.now + waits w) + h.next ≡ (h.now + waits v) + h'.next
    pub in_turn : h'.busy ≡ true → h'.now < h'.next
    pub rights_same : rights w ≡ rights v
    pub counts : (n S S' : ℕ) → S ≤ 1 → (h.numbers ≤ n → S ≡ 0) → S' + times n v ≡ S + times n w → (S' ≤ 1) × (h'.numbers ≤ n → S' ≡ 0)
    pub past : PastOk h'
    pub mine : ViewOk h' id w
    pub others : (j : ℕ) (u : View I F) → j ≢ id → get_elem? s.views j ≡ some u → ViewOk h j u → ViewOk h' j u

  pub changed : (s : State T (View I F)) (h h' : Facts I F) → Holds items fixed s h → (id : ℕ) (v w : View I F) → get_elem? s.views id ≡ some v → (ws : List ℕ) (homes : List (maybe.Option T))
      → Change s h h' id v w ws homes → Holds items fixed (record { words = ws; homes = homes; views = set s.views id w }) h'
  changed s h h' o id v w at ws homes c = record {
    words = c.words;
    slot = c.slot;
    line = let t = total-set waits s.views id v w at in let a = o.line in let b = c.line in omega arith;
    in_turn = c.in_turn;
    rights = let t = total-set rights s.views id v w at in let a = o.rights in let b = c.rights_same in omega arith;
    apart = λ n. (c.counts n (total (times n) s.views) (total (times n) (set s.views id w)) (o.apart n) (o.drawn n) (total-set (times n) s.views id v w at)).0;
    drawn = λ n le. (c.counts n (total (times n) s.views) (total (times n) (set s.views id w)) (o.apart n) (o.drawn n) (total-set (times n) s.views id v w at)).1 le;
    past = c.past;
    each = λ j u e. ⊎_elim (λ (t : (j ≡ id) × (w ≡ u)). subst (λ (z : ℕ × View I F). ViewOk h' z.0 z.1) (λ i. (sym t.0 i, t.1 i)) c.mine)
        (λ (t : (j ≢ id) × (get_elem? s.views j ≡ some u)). c.others j u t.0 t.1 (o.each j u t.1)) (at_set s.views id j w u e);
  }

  -- where a step changes no count and no number
  pub same_counts : (h h' : Facts I F) (v w : View I F) → h'.numbers ≡ h.numbers → ((n : ℕ) → times n w ≡ times n v)
      → (n S S' : ℕ) → S ≤ 1 → (h.numbers ≤ n → S ≡ 0) → S' + times n v ≡ S + times n w → (S' ≤ 1) × (h'.numbers ≤ n → S' ≡ 0)
  same_counts h h' v w numbers same n S S' small none_yet e = let t = same n in let is : S' ≡ S = omega arith in (omega arith, λ le. is ∙ none_yet (omega arith))

  -- a step that changes nothing
  pub unmoved : (s : State T (View I F)) (i id : ℕ) (me : Me T (View I F)) → get_elem? s.views id ≡ some me.0 → Rule items fixed s → Rule items fixed (stepped s i (get_or s.words i 0) id me.1 me.0 keeps)
  unmoved s i id me at r = subst (Rule items fixed) (λ k. record { words = sym (set-get_or s.words i 0) k; homes = s.homes; views = sym (set_again s.views id me.0 at) k }) r

  pub opens : (x : T) → items x ≡ [] → Rule items fixed (opening (0 ∷ 0 ∷ 1 ∷ []) (x ∷ []) (first_view (fixed x)))
  opens x empty = let v : View I F = first_view (fixed x) in
      let h : Facts I F = record { next = 0; now = 0; numbers = 1; handed = 1; owner = λ _. 0; busy = false; log = []; fixed = fixed x; births = [] } in (
        h,
        record {
          words = refl;
          slot = (x, refl, empty, refl);
          line = refl;
          in_turn = λ e. absurd (cc);
          rights = refl;
          apart = λ n. let a = one_if-small n (Some 0) in omega arith;
          drawn = λ n le. let other : one_if n (Some 0) ≡ 0 = one_if-other n 0 (λ e. omega arith) in omega arith;
          past = record { some_number = omega arith; made = λ _ _. refl; all_born = λ n a b. absurd (omega arith); none_else = λ n c. absurd (let lt : c.0 < 0 = c.1 in omega arith) };
          each = λ i u e. ⊎_elim (λ (t : (i ≡ 0) × (v ≡ u)). subst (λ (z : View I F). ViewOk h i z) t.1 record {
            stage = tt;
            each = (record { seen = begins-itself []; own = (omega arith, refl, refl) }, tt);
            line = omega arith;
            zero = λ _. record { drawn = refl; left = refl; pending = tt; born = refl };
            other = λ none_zero. absurd (omega arith);
          }) (λ (t : (i ≢ 0) × (get_elem? (v ∷ []) i ≡ some u)). absurd (alone i v u t.0 t.1)) (at_set (v ∷ []) 0 i v u e);
        },
      )

  pub draws : (slots id : ℕ) (me : Me T (View I F)) → me.0.stage ≡ Idle → 0 < rights me.0 → Allows (Rule items fixed) slots id me 0 (λ n. (n + 1) % 2 ^ 64) (drew items fixed (step slots 0 1 0 none) me)
  draws slots id me idle some_right s r deep at small =
      let h = r.0 in let o = r.1 in let v = me.0 in let owner : ℕ → ℕ = λ k. cond (eqb k h.next) id (h.owner k) in
      let h' : Facts I F = record h { next = h.next + 1; owner = owner } in let w : View I F = at_stage (Waiting h.next) v in
      let found : get_or s.words 0 0 ≡ h.next % 2 ^ 64 = ap (λ ws. get_or ws 0 0) o.words in
      let line = o.line in let before : h.now ≤ h.next = omega arith in let idle_line : waits v ≡ 0 = ap in_line idle in
      let not_served : h.next ≡ h.now → h.busy ≡ false = λ e. quiet h.busy (λ b. let lt = o.in_turn b in omega arith) in (
        w,
        keeps,
        tt,
        (
          h',
          changed s h h' o id v w at _ s.homes record {
            words = (λ k. set (o.words k) 0 ((found k + 1) % 2 ^ 64)) ∙ ap (λ a. a ∷ (h.now % 2 ^ 64) ∷ h.numbers ∷ []) (next_mod h.next);
            slot = o.slot;
            line = omega arith;
            in_turn = λ b. let lt = o.in_turn b in omega arith;
            rights_same = refl;
            counts = same_counts h h' v w refl (λ n. refl);
            past = past_same h (h.next + 1) h.now owner h.busy o.past;
            mine = relined h (h.next + 1) h.now owner h.busy id v (Waiting h.next) (o.each id v at) (before, omega arith, rw (eq-eqb h.next h.next refl), not_served) some_right;
            others = λ j u ne there ok. relined h (h.next + 1) h.now owner h.busy j u u.stage ok (drawn_stage h id j ne u.stage ok.stage) ok.line;
          },
        ),
        (h.next, found, refl),
      )

  -- at most 2^62 tickets are out
  pub few_wait : (s : State T (View I F)) (h : Facts I F) → Holds items fixed s h → h.next ≤ h.now + 2 ^ 62
  few_wait s h o = let t = total-le waits rights s.views (λ i v at. (o.each i v at).line) in let a = o.line in let b = o.rights in omega arith

  -- who waits and finds its own ticket served has the turn, and the value is at home
  pub my_turn : (s : State T (View I F)) (h : Facts I F) → Holds items fixed s h → (id k : ℕ) → StageOk h id (Waiting k) → get_or s.words 1 0 ≡ k % 2 ^ 64
      → (k ≡ h.now) × (h.busy ≡ false) × SlotOk items fixed h false s.homes
  my_turn s h o id k w found =
      let now : get_or s.words 1 0 ≡ h.now % 2 ^ 64 = ap (λ ws. get_or ws 1 0) o.words in
      let few = few_wait s h o in let lo : h.now ≤ k = w.0 in let hi : k < h.next = w.1 in
      let is : h.now ≡ k = one_turn h.now k (2 ^ 64) lo (omega arith) (sym now ∙ found) in let free = w.3 (sym is) in
      (sym is, free, subst (λ b. SlotOk items fixed h b s.homes) free o.slot)

  pub looks : (slots id : ℕ) (me : Me T (View I F)) (k : ℕ) → me.0.stage ≡ Waiting k → Allows (Rule items fixed) slots id me 1 (λ n. n) (looked items fixed (step slots 1 0 0 none) me)
  looks slots id me k wait s r deep at small =
      let h = r.0 in let o = r.1 in let v = me.0 in let found : ℕ = get_or s.words 1 0 in let ok = o.each id v at in
      let mine : StageOk h id (Waiting k) = subst (StageOk h id) wait ok.stage in dite (ℕ_discrete found (k % 2 ^ 64))
      (λ hit. let turn = my_turn s h o id k mine hit in let is : k ≡ h.now = turn.0 in let x : T = turn.2.0 in let home = turn.2.1 in let list = turn.2.2 in let fix = turn.2.3 in
      let w : View I F = at_stage (Serving k (items x)) v in let h' : Facts I F = record h { busy = true } in
      let own : h.owner h.now ≡ id = ap h.owner (sym is) ∙ mine.2 in let has = ap in_line wait in let lo : k < h.next = mine.1 in
      let right = ok.line in let main_ok = ok.each.0 in (
        w,
        takes 0 x,
        ap (λ hs. get_elem? hs 0) home,
        (
          h',
          changed s h h' o id v w at _ _ record {
            words = set-get_or s.words 1 0 ∙ o.words;
            slot = ap (λ hs. set hs 0 none) home;
            line = omega arith;
            in_turn = λ _. omega arith;
            rights_same = refl;
            counts = same_counts h h' v w refl (λ n. refl);
            past = past_same h h.next h.now h.owner true o.past;
            mine = relined h h.next h.now h.owner true id v (Serving k (items x)) ok (is, mine.1, mine.2, refl, list) (omega arith);
            others = λ j u ne there okay. relined h h.next h.now h.owner true j u u.stage okay (taken_stage h id j ne own u.stage okay.stage) okay.line;
          },
        ),
        subst (LooksAt items fixed me found (w, (0, x) ∷ me.1)) (sym wait) (
          (λ _. (
            x,
            refl,
            record {
              seen = subst (λ l. BeginsWith l v.main.seen) (sym list) main_ok.seen;
              own = if_some-map _ _ (λ n q. (ap (of_number n) list ∙ q.1, q.2 ∙ ap Some (sym fix))) v.main.number main_ok.own;
            },
          )),
          λ miss. absurd (miss hit),
        ),
      ))
      (λ miss. (v, keeps, tt, unmoved s 1 id me at r, subst (LooksAt items fixed me found me) (sym wait) ((λ hit. absurd (miss hit)), λ _. refl)))

  other_own : (h : Facts I F) (n : ℕ) (added : List I) (log : List (ℕ × I)) → log ≡ h.log ++ by_number n added → (made : List I) (fix : Option F) (o : Option ℕ) → one_if n o ≡ 0
      → IfSome o (λ m. (m < h.handed) × (of_number m h.log ≡ made) × (fix ≡ Some h.fixed)) → IfSome o (λ m. (m < h.handed) × (of_number m log ≡ made) × (fix ≡ Some h.fixed))
  other_own h n added log is made fix None none_here q = tt
  other_own h n added log is made fix (Some m) none_here q = (q.0, ap (of_number m) is ∙ other_after m n h.log added made (is_other n m none_here) q.1, q.2)

  -- the items of a number that another view has stay as they are
  others_part : (h : Facts I F) (n : ℕ) (added : List I) (log : List (ℕ × I)) → log ≡ h.log ++ by_number n added → (p : Part I F) → one_if n p.number ≡ 0 → PartOk h p
      → PartOk (record h { now = h.now + 1; busy = false; log = log }) p
  others_part h n added log is p none_here o = record {
    seen = subst (λ l. BeginsWith l p.seen) (sym is) (begins-longer h.log p.seen (by_number n added) o.seen);
    own = other_own h n added log is p.made p.fixed p.number none_here o.own;
  }

  pub passes : (slots id : ℕ) (me : Me T (View I F)) → IsReady items fixed me → Allows (Rule items fixed) slots id me 1 (λ n. (n + 1) % 2 ^ 64) (passed items fixed (step slots 1 1 0 none) me)
  passes slots id me ready s r deep at small =
      let h = r.0 in let o = r.1 in let v = me.0 in let k = ready.ticket in let y = ready.value in let n = ready.number in let added : List I = ready.adds.0 in let ok = o.each id v at in
      let mine : StageOk h id (Serving k ready.list) = subst (StageOk h id) ready.stage_is ok.stage in
      let own : h.owner h.now ≡ id = ap h.owner (sym mine.0) ∙ mine.2 in
      let log : items y ≡ h.log ++ by_number n added = ready.adds.2 ∙ ap (λ l. l ++ by_number n added) mine.4 in
      let main_ok = ok.each.0 in
      let q : (n < h.handed) × (of_number n h.log ≡ v.main.made) × (v.main.fixed ≡ Some h.fixed) = if_some-at (λ m. (m < h.handed) × (of_number m h.log ≡ v.main.made) × (v.main.fixed ≡ Some h.fixed)) v.main.number n ready.number_is main_ok.own in
      let fix : fixed y ≡ h.fixed = some_same (sym ready.fixed_is ∙ q.2) in
      let w : View I F = record v { main = turned_to (items y) v.main; stage = Idle } in let h' : Facts I F = record h { now = h.now + 1; busy = false; log = items y } in
      let out : s.homes ≡ none ∷ [] = subst (λ b. SlotOk items fixed h b s.homes) mine.3 o.slot in
      let found : get_or s.words 1 0 ≡ h.now % 2 ^ 64 = ap (λ ws. get_or ws 1 0) o.words in
      let has = ap in_line ready.stage_is in let below : n < h.handed = q.0 in
      let counted : one_if n v.main.number ≡ 1 = ap (one_if n) ready.number_is ∙ one_if-same n in (
        w,
        gives,
        tt,
        (
          h',
          changed s h h' o id v w at _ _ record {
            words = (λ i. set (o.words i) 1 ((found i + 1) % 2 ^ 64)) ∙ ap (λ a. (h.next % 2 ^ 64) ∷ a ∷ h.numbers ∷ []) (next_mod h.now);
            slot = (y, (λ i. put_back (out i) (ready.held i)), refl, fix);
            line = omega arith;
            in_turn = λ e. absurd (cc);
            rights_same = refl;
            counts = same_counts h h' v w refl (λ m. refl);
            past = record {
              some_number = o.past.some_number;
              made = λ m le. ap (of_number m) log ∙ other_after m n h.log added [] (λ e. omega arith) (o.past.made m le);
              all_born = o.past.all_born;
              none_else = o.past.none_else;
            };
            mine = record {
              stage = tt;
              each = (
                record {
                  seen = begins-itself (items y);
                  own = subst (λ num. IfSome num (λ m. (m < h.handed) × (of_number m (items y) ≡ made_in (items y) num) × (v.main.fixed ≡ Some h.fixed))) (sym ready.number_is) (below, refl, q.2);
                },
                subst (Each (PartOk h')) (sym ready.alone) tt,
              );
              line = omega arith;
              zero = λ some_zero. let z = ok.zero some_zero in record { drawn = z.drawn; left = z.left; pending = z.pending; born = z.born };
              other = λ no_zero. let z = ok.other no_zero in record { room = z.room; pending = z.pending; born = z.born };
            };
            others = λ j u ne there okay. let two = total-two (times n) s.views id j v u ne at there in let one = o.apart n in record {
              stage = ended_stage h id j (items y) ne own u.stage okay.stage;
              each = each-uncounted (PartOk h) (PartOk h') (λ p. one_if n p.number) (λ p. others_part h n added (items y) log p) (parts u) (omega arith) okay.each;
              line = okay.line;
              zero = λ some_zero. let z = okay.zero some_zero in record { drawn = z.drawn; left = z.left; pending = z.pending; born = z.born };
              other = λ no_zero. let z = okay.other no_zero in record { room = z.room; pending = z.pending; born = z.born };
            };
          },
        ),
        subst (λ (c : List (ℕ × T)). GivesBack items fixed v (w, rest c) c) (sym ready.held) refl,
      )
