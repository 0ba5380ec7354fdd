-- The table of keys where a key is added.
use Rattle.std.proofs.Common.{◌≡◌, ◌∙◌, ◌≤◌, ◌<◌, ◌+◌, ℕ, Bool, true, false, cond, List, [], ◌∷◌, ◌++◌, length, map, get_or, get_or-set_other, get_or-set_same, set, ap, sym, refl, subst, arith, None, Some, inl, ⊎_elim, length-append, Result, Ok, Err}
use Rattle.std.specs.Result.{OnErr}
use Rattle.std.specs.BTreeMap.{is_at}
use Rattle.std.specs.List.Sorted.{IsStrictlySortedBy}
use Rattle.std.specs.Map.{lookup}
use Rattle.std.specs.Cmp.Lexicographic.{slice_cmp}
use Rattle.std.specs.Ordering.{nat_cmp}
use Rattle.std.proofs.Math.ListN.{length-set}
use Rattle.std.proofs.lemmas.Bool.Decides.{eqb_tells}
use Rattle.std.proofs.lemmas.List.{get_or_append_left, get_or_push}
use Rattle.std.proofs.lemmas.Map.Text.{is_eq-slice_cmp}
use Rattle.key_windows.specs.Dues.{IsDueNumber}
use Rattle.stream_base.specs.Limits.{Definitions}
use Rattle.stream_base.specs.declared.entry.Entry.{Entry}
use Rattle.stream_base.specs.declared.kept.Kept.{Kept}
use Rattle.stream_base.specs.Model.Journal.{kept_of, marks_of}
use Rattle.stream_base.specs.Model.Moments.{IsWater}
use Rattle.stream_base.specs.Model.Watermark.{water_of}
use Rattle.model_laws.proofs.Absent.{bytes_eq_true}
use Rattle.shard_core.specs.Placed.{AreByKey}
use Rattle.shard_core.specs.declared.keys.KeyTable.{KeyTable}
use Rattle.shard_core.specs.declared.slot.Slot.{Slot}
use Rattle.shard_core.specs.Engines.{AreCurrent, HasLists, IsCurrent, IsSameSlot, place_of_key}

-- a key tells itself from every other
pub same_key : (key other : List ℕ) → is_at (slice_cmp nat_cmp key) other ≡ true → key ≡ other
same_key key other h = bytes_eq_true key other (sym (is_eq-slice_cmp key other) ∙ h)

-- what holds anyway holds after an error
pub on_err : {T E P : Type 0} (r : Result T E) → P → OnErr r P
on_err (Ok x) h = tt
on_err (Err e) h = h

pub some_is : {X : Type 0} (x y : X) → Some x ≡ Some y → x ≡ y
some_is x y h = cc

module _ {K : Type 0} (key_of : K → List ℕ) (fits : Definitions → List Kept → List ℕ → ℕ → K → Type 0) (next_position : K → ℕ) (d : Definitions) (sources : ℕ) (journal : List Entry) where
  -- the same slots under the same keys
  pub unchanged : (old new : KeyTable K)
      → new.index ≡ old.index → new.slots.items ≡ old.slots.items → new.dues.items ≡ old.dues.items
      → AreCurrent key_of fits next_position d sources journal old
      → AreCurrent key_of fits next_position d sources journal new
  unchanged old new index slots dues c = record {
    in_order = subst (λ es. IsStrictlySortedBy (slice_cmp nat_cmp) (map (λ (e : List ℕ × ℕ). e.0) es)) (sym index) c.in_order;
    aligned = ap length dues ∙ c.aligned ∙ sym (ap length slots);
    counted = ap length slots ∙ c.counted ∙ sym (ap length index);
    placed = λ q p at. subst (λ n. p < n) (sym (ap length slots)) (c.placed q p (there q ∙ at));
    current = λ q p x at. rw (slots, dues) (c.current q p x (there q ∙ at));
    nothing_kept = λ q at. c.nothing_kept q (there q ∙ at);
    no_marks = λ q at. c.no_marks q (there q ∙ at);
  }
    where
      there : (q : List ℕ) → place_of_key old q ≡ place_of_key new q
      there q = ap (lookup (is_at (slice_cmp nat_cmp q))) (sym index)

  -- a fresh slot behind the others, at the place of a key that had none
  pub added : (old new : KeyTable K) (key : List ℕ) (slot : Slot K) (due : ℕ)
      → AreCurrent key_of fits next_position d sources journal old
      → place_of_key old key ≡ None
      → ((q : List ℕ) → place_of_key new q ≡ cond (is_at (slice_cmp nat_cmp key) q) (Some (length old.slots.items)) (place_of_key old q))
      → AreByKey new.index
      → length new.index ≡ length old.index + 1
      → new.slots.items ≡ old.slots.items ++ slot ∷ []
      → new.dues.items ≡ old.dues.items ++ due ∷ []
      → key_of slot.state ≡ key
      → next_position slot.state ≡ 0
      → fits d [] [] slot.water slot.state
      → slot.water ≡ water_of sources journal
      → IsWater slot.water
      → IsDueNumber fits d key [] [] slot.water slot.state due
      → AreCurrent key_of fits next_position d sources journal new
  added old new key slot due c absent index ordered len slots dues of_key first empty water is_water number = record {
    in_order = ordered;
    aligned = ap length dues ∙ length-append old.dues.items (due ∷ []) ∙ ap (λ n. n + 1) c.aligned ∙ sym (ap length slots ∙ length-append old.slots.items (slot ∷ []));
    counted = ap length slots ∙ length-append old.slots.items (slot ∷ []) ∙ ap (λ n. n + 1) c.counted ∙ sym len;
    placed = λ q p at. placed q p (is_at (slice_cmp nat_cmp key) q) refl (sym (index q) ∙ at);
    current = λ q p x at. current q p x (is_at (slice_cmp nat_cmp key) q) refl (sym (index q) ∙ at);
    nothing_kept = λ q at. c.nothing_kept q (other q (is_at (slice_cmp nat_cmp key) q) (sym (index q) ∙ at));
    no_marks = λ q at. c.no_marks q (other q (is_at (slice_cmp nat_cmp key) q) (sym (index q) ∙ at));
  }
    where
      longer : length new.slots.items ≡ length old.slots.items + 1
      longer = ap length slots ∙ length-append old.slots.items (slot ∷ [])

      placed : (q : List ℕ) (p : ℕ) (b : Bool) → is_at (slice_cmp nat_cmp key) q ≡ b → cond b (Some (length old.slots.items)) (place_of_key old q) ≡ Some p → p < length new.slots.items
      placed q p true is at = let e : length old.slots.items ≡ p = some_is (length old.slots.items) p at in omega (arith, longer)
      placed q p false is at = omega (arith, longer, c.placed q p at)

      other : (q : List ℕ) (b : Bool) → cond b (Some (length old.slots.items)) (place_of_key old q) ≡ None → place_of_key old q ≡ None
      other q true at = cc
      other q false at = at

      current : (q : List ℕ) (p : ℕ) (x : Slot K) (b : Bool) → is_at (slice_cmp nat_cmp key) q ≡ b → cond b (Some (length old.slots.items)) (place_of_key old q) ≡ Some p → IsCurrent key_of fits next_position d sources journal q (get_or new.slots.items p x) (get_or new.dues.items p 0)
      current q p x true is at =
          let e : length old.slots.items ≡ p = some_is (length old.slots.items) p at in
          let own : key ≡ q = same_key key q is in
          let there : get_or new.slots.items p x ≡ slot = ap (λ l. get_or l p x) slots ∙ get_or_push old.slots.items slot x p e in
          let due_there : get_or new.dues.items p 0 ≡ due = ap (λ l. get_or l p 0) dues ∙ get_or_push old.dues.items due 0 p (c.aligned ∙ e) in
          let kept : kept_of d.lateness sources q journal ≡ [] = c.nothing_kept q (subst (λ k. place_of_key old k ≡ None) own absent) in
          let marks : marks_of d.lateness sources q journal ≡ [] = c.no_marks q (subst (λ k. place_of_key old k ≡ None) own absent) in
          rw (there, due_there) (record {
            of_key = of_key ∙ own;
            stands = rw (kept, marks) empty;
            position = omega (arith, first);
            is_water = is_water;
            past = omega (arith, water);
            not_due = inl water;
            number = rw (kept, marks, ← own) number;
          })
      current q p x false is at =
          let small : p < length old.slots.items = c.placed q p at in
          let same : get_or new.slots.items p x ≡ get_or old.slots.items p x = ap (λ l. get_or l p x) slots ∙ get_or_append_left old.slots.items (slot ∷ []) x p small in
          let due_same : get_or new.dues.items p 0 ≡ get_or old.dues.items p 0 = ap (λ l. get_or l p 0) dues ∙ get_or_append_left old.dues.items (due ∷ []) 0 p (omega (arith, c.aligned)) in
          rw (same, due_same) (c.current q p x at)

-- the state at a place is of one key alone
pub one_key : {K : Type 0} (key_of : K → List ℕ) (fits : Definitions → List Kept → List ℕ → ℕ → K → Type 0) (next_position : K → ℕ) (d : Definitions) (sources : ℕ) (journal : List Entry) (t : KeyTable K) (a b : List ℕ) (p : ℕ) (x : Slot K)
    → AreCurrent key_of fits next_position d sources journal t → place_of_key t a ≡ Some p → place_of_key t b ≡ Some p → a ≡ b
one_key key_of fits next_position d sources journal t a b p x c at_a at_b = sym (c.current a p x at_a).of_key ∙ (c.current b p x at_b).of_key

-- what is kept of a key is as before
pub record IsSameFor (d : Definitions) (sources : ℕ) (old new : List Entry) (key : List ℕ) : Type 0 where
  pub kept : kept_of d.lateness sources key new ≡ kept_of d.lateness sources key old
  pub marks : marks_of d.lateness sources key new ≡ marks_of d.lateness sources key old

pub same_for : (d : Definitions) (sources : ℕ) (journal : List Entry) (key : List ℕ) → IsSameFor d sources journal journal key
same_for d sources journal key = record { kept = refl; marks = refl }

module _ {K : Type 0} (key_of : K → List ℕ) (fits : Definitions → List Kept → List ℕ → ℕ → K → Type 0) (next_position : K → ℕ) (d : Definitions) (sources : ℕ) where
  -- a key of which nothing changes stays current in a longer journal
  pub still_current : (journal longer : List Entry) (key : List ℕ) (slot : Slot K) (due : ℕ)
      → IsSameFor d sources journal longer key → length journal ≤ length longer → water_of sources longer ≡ water_of sources journal
      → IsCurrent key_of fits next_position d sources journal key slot due
      → IsCurrent key_of fits next_position d sources longer key slot due
  still_current journal longer key slot due same long water c = record {
    of_key = c.of_key;
    stands = rw (same.kept, same.marks) c.stands;
    position = omega (arith, c.position);
    is_water = c.is_water;
    past = rw water c.past;
    not_due = rw water c.not_due;
    number = rw (same.kept, same.marks) c.number;
  }

  -- one slot changed, and nothing of any other key
  pub replaced : (journal longer : List Entry) (old new : KeyTable K) (key : List ℕ) (p : ℕ) (slot : Slot K) (due : ℕ)
      → AreCurrent key_of fits next_position d sources journal old
      → place_of_key old key ≡ Some p
      → new.index ≡ old.index
      → new.slots.items ≡ set old.slots.items p slot
      → new.dues.items ≡ set old.dues.items p due
      → ((q : List ℕ) → (q ≡ key → ⊥) → IsSameFor d sources journal longer q)
      → length journal ≤ length longer
      → water_of sources longer ≡ water_of sources journal
      → IsCurrent key_of fits next_position d sources longer key slot due
      → AreCurrent key_of fits next_position d sources longer new
  replaced journal longer old new key p slot due c at index slots dues same long water own = record {
    in_order = subst (λ es. IsStrictlySortedBy (slice_cmp nat_cmp) (map (λ (e : List ℕ × ℕ). e.0) es)) (sym index) c.in_order;
    aligned = ap length dues ∙ length-set old.dues.items p due ∙ c.aligned ∙ sym (ap length slots ∙ length-set old.slots.items p slot);
    counted = ap length slots ∙ length-set old.slots.items p slot ∙ c.counted ∙ sym (ap length index);
    placed = λ q n is. subst (λ k. n < k) (sym (ap length slots ∙ length-set old.slots.items p slot)) (c.placed q n (there q ∙ is));
    current = λ q n x is. ⊎_elim (λ e. here q n x (there q ∙ is) e.1) (λ e. elsewhere q n x (there q ∙ is) e.1) (eqb_tells p n);
    nothing_kept = λ q is. (same q (other q (there q ∙ is))).kept ∙ c.nothing_kept q (there q ∙ is);
    no_marks = λ q is. (same q (other q (there q ∙ is))).marks ∙ c.no_marks q (there q ∙ is);
  }
    where
      there : (q : List ℕ) → place_of_key old q ≡ place_of_key new q
      there q = ap (lookup (is_at (slice_cmp nat_cmp q))) (sym index)

      other : (q : List ℕ) → place_of_key old q ≡ None → q ≡ key → ⊥
      other q none e = let some : place_of_key old q ≡ Some p = ap (place_of_key old) e ∙ at in cc

      here : (q : List ℕ) (n : ℕ) (x : Slot K) → place_of_key old q ≡ Some n → p ≡ n → IsCurrent key_of fits next_position d sources longer q (get_or new.slots.items n x) (get_or new.dues.items n 0)
      here q n x is e =
          let mine : key ≡ q = one_key key_of fits next_position d sources journal old key q n x c (at ∙ ap (λ k. Some k) e) is in
          let small : p < length old.slots.items = c.placed key p at in
          let small_due : p < length old.dues.items = omega (arith, c.aligned, small) in
          let slot_is : get_or new.slots.items n x ≡ slot = (λ i. get_or (slots i) (sym e i) x) ∙ get_or-set_same old.slots.items p slot x small in
          let due_is : get_or new.dues.items n 0 ≡ due = (λ i. get_or (dues i) (sym e i) 0) ∙ get_or-set_same old.dues.items p due 0 small_due in
          rw (slot_is, due_is) (subst (λ k. IsCurrent key_of fits next_position d sources longer k slot due) mine own)

      elsewhere : (q : List ℕ) (n : ℕ) (x : Slot K) → place_of_key old q ≡ Some n → (p ≡ n → ⊥) → IsCurrent key_of fits next_position d sources longer q (get_or new.slots.items n x) (get_or new.dues.items n 0)
      elsewhere q n x is ne =
          let not_mine : q ≡ key → ⊥ = λ e. ne (some_is p n (sym at ∙ ap (place_of_key old) (sym e) ∙ is)) in
          let slot_is : get_or new.slots.items n x ≡ get_or old.slots.items n x = ap (λ l. get_or l n x) slots ∙ get_or-set_other old.slots.items p n slot x (λ e. ne (sym e)) in
          let due_is : get_or new.dues.items n 0 ≡ get_or old.dues.items n 0 = ap (λ l. get_or l n 0) dues ∙ get_or-set_other old.dues.items p n due 0 (λ e. ne (sym e)) in
          rw (slot_is, due_is) (still_current journal longer q (get_or old.slots.items n x) (get_or old.dues.items n 0) (same q not_mine) long water (c.current q n x is))

module _ {K : Type 0} (key_of : K → List ℕ) (fits : Definitions → List Kept → List ℕ → ℕ → K → Type 0) (next_position : K → ℕ) (d : Definitions) (sources : ℕ) (journal : List Entry) where
  -- the slot that a key has
  pub current_at : (t : KeyTable K) (key : List ℕ) (p : ℕ) (slot : Slot K) → AreCurrent key_of fits next_position d sources journal t → place_of_key t key ≡ Some p → slot ≡ get_or t.slots.items p slot
      → IsCurrent key_of fits next_position d sources journal key slot (get_or t.dues.items p 0)
  current_at t key p slot c at is = subst (λ s. IsCurrent key_of fits next_position d sources journal key s (get_or t.dues.items p 0)) (sym is) (c.current key p slot at)

  -- there are lists for which it stands
  pub has_lists : (t : KeyTable K) (key : List ℕ) (p : ℕ) (slot : Slot K) → AreCurrent key_of fits next_position d sources journal t → place_of_key t key ≡ Some p → slot ≡ get_or t.slots.items p slot → HasLists fits d slot
  has_lists t key p slot c at is = (kept_of d.lateness sources key journal, marks_of d.lateness sources key journal, (current_at t key p slot c at is).stands)

  -- a state that can do no more and no less
  pub alike : (key : List ℕ) (old new : Slot K) (due : ℕ) → IsSameSlot key_of fits next_position d old new
      → IsCurrent key_of fits next_position d sources journal key old due
      → IsCurrent key_of fits next_position d sources journal key new due
  alike key old new due same c =
      let kept = kept_of d.lateness sources key journal in
      let marks = marks_of d.lateness sources key journal in
      record {
        of_key = same.same_key ∙ c.of_key;
        stands = rw same.same_water (same.still_fits kept marks old.water c.stands);
        position = omega (arith, same.same_next, c.position);
        is_water = rw same.same_water c.is_water;
        past = omega (arith, same.same_water, c.past);
        not_due = rw same.same_water c.not_due;
        number = rw same.same_water (record {
          quiet = record {
            nothing_changes = c.number.quiet.nothing_changes;
            waits = λ later is further early. same.still_fits kept marks later (c.number.quiet.waits later is further early);
          };
          exact = c.number.exact;
        });
      }
