-- Which places are due, found from a list of due numbers.
use Rattle.std.proofs.Common.{◌≡◌, ◌≢◌, ◌∙◌, ◌≤◌, ◌<◌, ◌+◌, ℕ, Bool, true, false, cond, List, [], ◌∷◌, ◌++◌, length, get_or, ap, sym, refl, subst, arith, Option, None, Some, ⊎_elim, length-append}
use Rattle.std.specs.Prelude.{◌&&◌, map, nat_le, nat_lt}
use Rattle.std.specs.BTreeMap.{is_at}
use Rattle.std.specs.Cmp.{eq_by_cmp_equiv, tied_itself}
use Rattle.std.specs.Cmp.Lexicographic.{slice_cmp}
use Rattle.std.specs.List.{Contains, filter}
use Rattle.std.specs.Ordering.{is_eq, nat_cmp, ordering_reverse}
use Rattle.std.specs.declared.cmp.Ordering.TheVariants.{Less}
use Rattle.std.proofs.lemmas.Bool.{cases_lt, le-leb, lt-leb, lt-ltb}
use Rattle.std.proofs.lemmas.Bool.Decides.{nat_tests}
use Rattle.std.proofs.lemmas.Cmp.{nat_list_cmp_total}
use Rattle.std.proofs.lemmas.List.{get_or_append_left, get_or_default, get_or_push}
use Rattle.std.proofs.lemmas.Map.Entries.{lookup-filter-values, option_filter}
use Rattle.std.proofs.lemmas.Map.Keys.{IsDistinct-from_sorted, sorted_tail}
use Rattle.std.proofs.lemmas.Map.Lookups.{exact_bytes}
use Rattle.std.proofs.lemmas.Map.Views.{Contains-from_lookup, lookup-from_Contains, tells_apart}
use Rattle.stream_base.proofs.Members.{map_has}
use Rattle.stream_base.proofs.Rising.{below_tail, none_in_nil, not_below_itself, Contains-cons_cases, Contains-head, Contains-tail}
use Rattle.shard_core.specs.Placed.{AreByKey, ArePlaced, place_in}
use Rattle.shard_core.specs.Reached.{NoneReached}
use Rattle.shard_core.proofs.Advance.{keys_of_filtered}
use Rattle.shard_core.proofs.Places.{same_key, some_is}

none_is_some : (p : ℕ) → None ≡ Some p → ⊥
none_is_some p e = cc

-- a key is found by itself
pub at_itself : (key : List ℕ) → is_at (slice_cmp nat_cmp key) key ≡ true
at_itself key = ap is_eq (tied_itself nat_list_cmp_total key)

-- ---- a key more
module _ (entries new : List (List ℕ × ℕ)) (keys : List (List ℕ)) (key : List ℕ) (a : ArePlaced entries keys) (absent : place_in entries key ≡ None)
    (place : (q : List ℕ) → place_in new q ≡ cond (is_at (slice_cmp nat_cmp key) q) (Some (length keys)) (place_in entries q)) where
  more : length (keys ++ key ∷ []) ≡ length keys + 1
  more = length-append keys (key ∷ [])

  found_old : (p : ℕ) (x : List ℕ) → p < length keys → place_in new (get_or (keys ++ key ∷ []) p x) ≡ Some p
  found_old p x small =
      ap (place_in new) (get_or_append_left keys (key ∷ []) x p small)
      ∙ place (get_or keys p x)
      ∙ by (is_at (slice_cmp nat_cmp key) (get_or keys p x)) refl
    where
      by : (b : Bool) → is_at (slice_cmp nat_cmp key) (get_or keys p x) ≡ b → cond b (Some (length keys)) (place_in entries (get_or keys p x)) ≡ Some p
      by true e =
          let same : key ≡ get_or keys p x = same_key key (get_or keys p x) e in
          absurd (none_is_some p (sym absent ∙ ap (place_in entries) same ∙ a.found p x small))
      by false e = a.found p x small

  found_new : (p : ℕ) (x : List ℕ) → length keys ≡ p → place_in new (get_or (keys ++ key ∷ []) p x) ≡ Some p
  found_new p x e =
      ap (place_in new) (get_or_push keys key x p e)
      ∙ place key
      ∙ ap (λ b. cond b (Some (length keys)) (place_in entries key)) (at_itself key)
      ∙ ap (λ n. Some n) e

  within_by : (q : List ℕ) (p : ℕ) (b : Bool) → cond b (Some (length keys)) (place_in entries q) ≡ Some p → p < length (keys ++ key ∷ [])
  within_by q p true at = let e : length keys ≡ p = some_is (length keys) p at in omega (arith, more)
  within_by q p false at = let l : p < length keys = a.within q p at in omega (arith, more)

  own_by : (q : List ℕ) (p : ℕ) (b : Bool) → is_at (slice_cmp nat_cmp key) q ≡ b → cond b (Some (length keys)) (place_in entries q) ≡ Some p → get_or (keys ++ key ∷ []) p q ≡ q
  own_by q p true is at = get_or_push keys key q p (some_is (length keys) p at) ∙ same_key key q is
  own_by q p false is at = get_or_append_left keys (key ∷ []) q p (a.within q p at) ∙ a.own q p at

  pub placed_more : AreByKey new → length new ≡ length entries + 1 → ArePlaced new (keys ++ key ∷ [])
  placed_more by_key len = record {
    by_key = by_key;
    as_many = more ∙ ap (λ n. n + 1) a.as_many ∙ sym len;
    found = λ p x l. ⊎_elim (λ small. found_old p x small) (λ late. found_new p x (omega (arith, more, l))) (cases_lt p (length keys));
    within = λ q p at. within_by q p (is_at (slice_cmp nat_cmp key) q) (sym (place q) ∙ at);
    own = λ q p at. own_by q p (is_at (slice_cmp nat_cmp key) q) refl (sym (place q) ∙ at);
  }

-- ---- entries by their keys are the same where each key has the same place
is_member : (es : List (List ℕ × ℕ)) → AreByKey es → (e : List ℕ × ℕ) → Contains es e → place_in es e.0 ≡ Some e.1
is_member es s e c = lookup-from_Contains (eq_by_cmp_equiv nat_list_cmp_total) e.0 e.1 es (IsDistinct-from_sorted (slice_cmp nat_cmp) (map (λ (f : List ℕ × ℕ). f.0) es) s) c

has_member : (es : List (List ℕ × ℕ)) (e : List ℕ × ℕ) → place_in es e.0 ≡ Some e.1 → Contains es e
has_member es e at = Contains-from_lookup (tells_apart exact_bytes) e.0 e.1 es at

behind : (e : List ℕ × ℕ) (es : List (List ℕ × ℕ)) → AreByKey (e ∷ es) → (f : List ℕ × ℕ) → Contains es f → slice_cmp nat_cmp e.0 f.0 ≡ Less
behind e es s f c = below_tail nat_list_cmp_total e.0 (map (λ (g : List ℕ × ℕ). g.0) es) s f.0 (map_has (λ (g : List ℕ × ℕ). g.0) es f c)

not_both : (a b : List ℕ) → slice_cmp nat_cmp a b ≡ Less → slice_cmp nat_cmp b a ≡ Less → ⊥
not_both a b l m = let r = nat_list_cmp_total.antisymm a b ∙ ap ordering_reverse m in cc

same_members : (es fs : List (List ℕ × ℕ)) → AreByKey es → AreByKey fs → ((e : List ℕ × ℕ) → Contains es e → Contains fs e) → ((e : List ℕ × ℕ) → Contains fs e → Contains es e) → es ≡ fs
same_members [] [] s t h k = refl
same_members [] (f ∷ fs) s t h k = absurd (none_in_nil f (k f (Contains-head f fs)))
same_members (e ∷ es) [] s t h k = absurd (none_in_nil e (h e (Contains-head e es)))
same_members (e ∷ es) (f ∷ fs) s t h k =
    let first : e ≡ f = ⊎_elim
    (λ same. sym same)
    (λ later. ⊎_elim (λ same. same) (λ too. absurd (not_both f.0 e.0 (behind f fs t e later) (behind e es s f too))) (Contains-cons_cases e es f (k f (Contains-head f fs))))
    (Contains-cons_cases f fs e (h e (Contains-head e es))) in
    let rest : es ≡ fs = same_members es fs (sorted_tail (slice_cmp nat_cmp) e.0 (map (λ (g : List ℕ × ℕ). g.0) es) s) (sorted_tail (slice_cmp nat_cmp) f.0 (map (λ (g : List ℕ × ℕ). g.0) fs) t)
    (λ g c. ⊎_elim (λ same. absurd (not_below_itself nat_list_cmp_total e.0 (subst (λ (k : List ℕ × ℕ). slice_cmp nat_cmp e.0 k.0 ≡ Less) (sym same ∙ sym first) (behind e es s g c)))) (λ d. d) (Contains-cons_cases f fs g (h g (Contains-tail e es g c))))
    (λ g c. ⊎_elim (λ same. absurd (not_below_itself nat_list_cmp_total f.0 (subst (λ (k : List ℕ × ℕ). slice_cmp nat_cmp f.0 k.0 ≡ Less) (sym same ∙ first) (behind f fs t g c)))) (λ d. d) (Contains-cons_cases e es g (k g (Contains-tail f fs g c)))) in
    λ i. first i ∷ rest i

same_entries : (es fs : List (List ℕ × ℕ)) → AreByKey es → AreByKey fs → ((q : List ℕ) → place_in es q ≡ place_in fs q) → es ≡ fs
same_entries es fs s t h =
    same_members es fs s t
    (λ e c. has_member fs e (sym (h e.0) ∙ is_member es s e c))
    (λ e c. has_member es e (h e.0 ∙ is_member fs t e c))

-- ---- the places that are due
and_false : (b : Bool) → (b && false) ≡ false
and_false true = refl
and_false false = refl

module _ (entries : List (List ℕ × ℕ)) (dues : List ℕ) (water : ℕ) where
  -- one of the first places, whose due number is reached
  abbrev is_due_before : ℕ → ℕ → Bool
  is_due_before upto p = nat_lt p upto && nat_le (get_or dues p 0) water

  -- the entries are those of the first places whose due numbers are reached
  abbrev pub AreDueBefore : ℕ → List (List ℕ × ℕ) → Type 0
  AreDueBefore upto due = (q : List ℕ) → place_in due q ≡ option_filter (is_due_before upto) (place_in entries q)

  pub none_due : (due : List (List ℕ × ℕ)) → due ≡ [] → AreDueBefore 0 due
  none_due due e q = ap (λ l. place_in l q) e ∙ by (place_in entries q)
    where
      by : (o : Option ℕ) → None ≡ option_filter (is_due_before 0) o
      by None = refl
      by (Some p) = let no : nat_lt p 0 ≡ false = grind (arith, nat_tests) in ap (λ b. cond (b && nat_le (get_or dues p 0) water) (Some p) None) (sym no)

  module _ (keys : List (List ℕ)) (a : ArePlaced entries keys) (i : ℕ) (due : List (List ℕ × ℕ)) (so_far : AreDueBefore i due) where
    -- a test of a place that isn't this one is the same further on
    further : (q : List ℕ) (o : Option ℕ) → ((p : ℕ) → o ≡ Some p → p ≢ i) → option_filter (is_due_before i) o ≡ option_filter (is_due_before (i + 1)) o
    further q None ne = refl
    further q (Some p) ne =
        let other : p ≢ i = ne p refl in
        let same : nat_lt p i ≡ nat_lt p (i + 1) = grind (arith, nat_tests) in
        ap (λ b. cond (b && nat_le (get_or dues p 0) water) (Some p) None) same

    -- up to a place before which no more are reached, the same entries are due
    pub due_passed : (upto : ℕ) → i ≤ upto → length keys ≡ length dues → NoneReached dues water i upto → AreDueBefore upto due
    due_passed upto more as_many none q = so_far q ∙ by (place_in entries q) refl
      where
        same : (p : ℕ) → p < length keys → is_due_before i p ≡ is_due_before upto p
        same p l = ⊎_elim
            (λ (early : p < i). let first : nat_lt p i ≡ nat_lt p upto = grind (arith, nat_tests) in ap (λ b. b && nat_le (get_or dues p 0) water) first)
            (λ (late : i ≤ p). ⊎_elim
            (λ (before : p < upto). let no : nat_le (get_or dues p 0) water ≡ false = lt-leb (get_or dues p 0) water (none p late before (omega arith)) in
            (λ j. nat_lt p i && no j) ∙ and_false (nat_lt p i) ∙ sym (and_false (nat_lt p upto)) ∙ sym (λ j. nat_lt p upto && no j))
            (λ (behind : upto ≤ p). let last : nat_lt p i ≡ nat_lt p upto = grind (arith, nat_tests) in ap (λ b. b && nat_le (get_or dues p 0) water) last)
            (cases_lt p upto))
            (cases_lt p i)

        by : (o : Option ℕ) → place_in entries q ≡ o → option_filter (is_due_before i) o ≡ option_filter (is_due_before upto) o
        by None at = refl
        by (Some p) at = ap (λ b. cond b (Some p) None) (same p (a.within q p at))

    pub due_taken : (longer : List (List ℕ × ℕ)) (x : List ℕ) → i < length keys → get_or dues i 0 ≤ water
        → ((q : List ℕ) → place_in longer q ≡ cond (is_at (slice_cmp nat_cmp (get_or keys i x)) q) (Some i) (place_in due q))
        → AreDueBefore (i + 1) longer
    due_taken longer x l reached step q = step q ∙ by (is_at (slice_cmp nat_cmp (get_or keys i x)) q) refl
      where
        by : (b : Bool) → is_at (slice_cmp nat_cmp (get_or keys i x)) q ≡ b → cond b (Some i) (place_in due q) ≡ option_filter (is_due_before (i + 1)) (place_in entries q)
        by true e =
            let at : place_in entries q ≡ Some i = ap (place_in entries) (sym (same_key (get_or keys i x) q e)) ∙ a.found i x l in
            let first : nat_lt i (i + 1) ≡ true = lt-ltb i (i + 1) (omega arith) in
            let second : nat_le (get_or dues i 0) water ≡ true = le-leb (get_or dues i 0) water reached in
            sym (ap (option_filter (is_due_before (i + 1))) at ∙ (λ j. cond (first j && second j) (Some i) None))
        by false e =
            so_far q ∙ further q (place_in entries q)
            (λ p at same.
            let mine : get_or keys i x ≡ q = get_or_default keys i x q l ∙ ap (λ n. get_or keys n q) (sym same) ∙ a.own q p at in
            let yes : is_at (slice_cmp nat_cmp (get_or keys i x)) q ≡ true = subst (λ (k : List ℕ). is_at (slice_cmp nat_cmp k) q ≡ true) (sym mine) (at_itself q) in
            cc)

    pub all_due : length keys ≤ i → AreByKey due → due ≡ filter (λ e. nat_le (get_or dues e.1 0) water) entries
    all_due all by_key =
        same_entries due (filter (λ (e : List ℕ × ℕ). nat_le (get_or dues e.1 0) water) entries) by_key
        (keys_of_filtered (λ (e : List ℕ × ℕ). nat_le (get_or dues e.1 0) water) entries a.by_key)
        (λ q. so_far q ∙ by q (place_in entries q) refl
        ∙ sym (lookup-filter-values (eq_by_cmp_equiv nat_list_cmp_total) (λ p. nat_le (get_or dues p 0) water) q entries (IsDistinct-from_sorted (slice_cmp nat_cmp) (map (λ (f : List ℕ × ℕ). f.0) entries) a.by_key)))
      where
        by : (q : List ℕ) (o : Option ℕ) → place_in entries q ≡ o → option_filter (is_due_before i) o ≡ option_filter (λ p. nat_le (get_or dues p 0) water) o
        by q None at = refl
        by q (Some p) at =
            let early : nat_lt p i ≡ true = lt-ltb p i (let l : p < length keys = a.within q p at in omega arith) in
            ap (λ b. cond (b && nat_le (get_or dues p 0) water) (Some p) None) early
