-- A change of a list with rising keys, and the tree that keeps it.
use Rattle.std.proofs.Common.{◌≡◌, ◌≢◌, ◌≤◌, ◌<◌, ◌==◌, ◌+◌, ◌^◌, ◌++◌, ◌↔◌, ℕ, zero, suc, Bool, true, false, not, List, [], ◌∷◌, Option, None, Some, length, refl, sym, ap, subst, ◌∙◌, arith, append_assoc, length-append, inl, inr}
use Rattle.std.specs.Prelude.{nat_lt, slice_get}
use Rattle.std.specs.List.{All}
use Rattle.std.specs.Option.{option_map}
use Rattle.std.proofs.lemmas.List.Elements.{All-head, All-cons, All-nil, All-weaker}
use Rattle.std.proofs.lemmas.Bool.{cases_lt}
use Rattle.std.proofs.lemmas.Bool.Decides.{nat_tests}
use Rattle.std.proofs.Math.Pow.{pow_mono}
use Rattle.agg_laws.specs.Pairs.{AreRising, has_key, inserted, least_key, replaced, value_at, within, without}
use Rattle.agg_laws.proofs.RisingPairs.{has_key-between, has_key-middle, inserted-parts, replaced-middle, rising-inserted, rising-replaced, rising-without, rising_above, rising_below, rising_first, rising_second, value_at-absent, value_at-middle, within-parts, without-absent, without-middle}
use Rattle.fiba_nodes.specs.declared.slot.Slot.{Slot}
use Rattle.fiba_nodes.specs.declared.item.Item.{Item}
use Rattle.fiba_nodes.specs.declared.root.Root.{Root}
use Rattle.fiba_nodes.specs.declared.bound.Bound.TheVariants.{Key}
use Rattle.fiba_nodes.specs.declared.change.Change.TheVariants.{Insert, Set, Remove}
use Rattle.fiba_nodes.specs.Rows.{Plain}
use Rattle.fiba_nodes.specs.Stores.{Store, look}
use Rattle.fiba_nodes.specs.Trees.{IsAt, KidsAt, Look, Owned, only, pair_of, pairs_at, plain, size, times, vacancy, woven}
use Rattle.fiba_nodes.specs.Places.{BeginsIn, EndsIn, IsFolded}
use Rattle.fiba_nodes.specs.Changes.{Applies, pairs_of}
use Rattle.fiba_nodes.specs.Roots.{IsChanged, IsTree}
use Rattle.fiba_nodes.specs.Arena.{IsArena, pairs_in}
use Rattle.fiba_nodes.proofs.Lists.{append_none}
use Rattle.fiba_nodes.proofs.Opened.{no_pairs, some_pairs}
use Rattle.fiba_nodes.proofs.Linked.{link_low, same_linked}
use Rattle.fiba_nodes.proofs.Planting.{tree_low, weigh_low}
use Rattle.fiba_nodes.proofs.Sound.{node_of}
use Rattle.fiba_nodes.proofs.Sound as sound

-- how many pairs a tree of a height has at least
pow_more : (h : ℕ) → 2 ^ suc h ≡ 2 ^ h + 2 ^ h
pow_more h = grind arith

module _ {M : Type 0} (IsValue : M → Type 0) (empty : M) (op : M → M → M) (look : Look M) where
  row_tall : (h : ℕ) → ((l r : Bool) (at : ℕ) → IsAt IsValue empty op look h l r at → 2 ^ h ≤ length (pairs_at look h at) + 1) → (l r : Bool) (slots : List (Slot M)) (last : ℕ) → KidsAt (λ l r k. IsAt IsValue empty op look h l r k) l r slots last → 2 ^ h ≤ length (woven (pairs_at look h) slots last) + 1
  row_tall h tree l r [] last k = tree l r last k
  row_tall h tree l r (s ∷ ss) last k =
      let rest = row_tall h tree false r ss last k.1 in
      let e = length-append (pairs_at look h s.kid) (pair_of s.item ∷ woven (pairs_at look h) ss last) in
      omega arith

  rows_tall : (h : ℕ) → ((l r : Bool) (at : ℕ) → IsAt IsValue empty op look h l r at → 2 ^ h ≤ length (pairs_at look h at) + 1) → (l r : Bool) (slots : List (Slot M)) (last : ℕ) → 1 ≤ length slots → KidsAt (λ l r k. IsAt IsValue empty op look h l r k) l r slots last → 2 ^ h + 2 ^ h ≤ length (woven (pairs_at look h) slots last) + 1
  rows_tall h tree l r [] last some k = absurd (omega arith)
  rows_tall h tree l r (s ∷ ss) last some k =
      let first = tree l false s.kid k.0 in
      let rest = row_tall h tree false r ss last k.1 in
      let e = length-append (pairs_at look h s.kid) (pair_of s.item ∷ woven (pairs_at look h) ss last) in
      omega arith

  node_tall : (h at : ℕ) → ((l r : Bool) (at : ℕ) → IsAt IsValue empty op look h l r at → 2 ^ h ≤ length (pairs_at look h at) + 1) → (l r : Bool) (o : Option (Plain M)) → look at ≡ o → IsAt IsValue empty op look (suc h) l r at → 2 ^ suc h ≤ length (pairs_at look (suc h) at) + 1
  unfolding pairs_at IsAt
  node_tall h at tree l r None is k = absurd (rw is at k)
  node_tall h at tree l r (Some n) is k =
      let node = node_of IsValue empty op look h l r at n is k in
      let row = rows_tall h tree l r n.slots n.last node.some node.kids in
      let p = pow_more h in
      rw is (omega arith)

  pub tall : (h : ℕ) (l r : Bool) (at : ℕ) → IsAt IsValue empty op look h l r at → 2 ^ h ≤ length (pairs_at look h at) + 1
  unfolding pairs_at IsAt
  tall zero l r at k = omega arith
  tall (suc h) l r at k = node_tall h at (tall h) l r (look at) refl k

-- a height whose power is small
pub low_height : (h n : ℕ) → 2 ^ h ≤ n + 1 → n < 2 ^ 64 → h ≤ 64
low_height h n t lt =
    elim (cases_lt 64 h) [
      | inl more ↦ let p : 2 ^ 65 ≤ 2 ^ h = pow_mono {i = 65} {j = h} (omega arith) in absurd (omega arith)
      | inr le ↦ le
    ]

same_key : (a b : ℕ) → (a == b) ≡ true → a ≡ b
same_key a b e = grind (arith, nat_tests)

module _ {M : Type 0} where
  -- all keys of a rising list that ends below a key are below it
  pub all_under : (key : ℕ) (xs : List (ℕ × M)) → AreRising xs → EndsIn (λ k. nat_lt k key) xs → All (λ p. p.0 < key) xs
  all_under key [] rising e = All-nil (λ p. p.0 < key)
  all_under key (x ∷ []) rising e = All-cons (λ p. p.0 < key) x [] (grind (arith, nat_tests)) (All-nil (λ p. p.0 < key))
  all_under key (x ∷ y ∷ xs) rising e =
      let rest = all_under key (y ∷ xs) (rising_second (x ∷ []) (y ∷ xs) rising) e in
      let lt : x.0 < y.0 = All-head (λ q. x.0 < q.0) y xs (rising_above [] (y ∷ xs) x rising) in
      let next : y.0 < key = All-head (λ p. p.0 < key) y xs rest in
      All-cons (λ p. p.0 < key) x (y ∷ xs) (omega arith) rest

  -- all keys of a rising list that begins from a key on are
  pub all_over : (key : ℕ) (xs : List (ℕ × M)) → AreRising xs → BeginsIn (λ k. not (nat_lt k key)) xs → All (λ p. key ≤ p.0) xs
  all_over key [] rising b = All-nil (λ p. key ≤ p.0)
  all_over key (x ∷ xs) rising b =
      let first : key ≤ x.0 = grind (arith, nat_tests) in
      All-cons (λ p. key ≤ p.0) x xs first (All-weaker (λ q. x.0 < q.0) (λ q. key ≤ q.0) (λ q h. omega arith) xs (rising_above [] xs x rising))

  pub all_behind : (key : ℕ) (xs : List (ℕ × M)) → AreRising xs → BeginsIn (λ k. nat_lt key k) xs → All (λ p. key < p.0) xs
  all_behind key [] rising b = All-nil (λ p. key < p.0)
  all_behind key (x ∷ xs) rising b =
      let first : key < x.0 = grind (arith, nat_tests) in
      All-cons (λ p. key < p.0) x xs first (All-weaker (λ q. x.0 < q.0) (λ q. key < q.0) (λ q h. omega arith) xs (rising_above [] xs x rising))

  -- the pair that goes out has the key; the others are around it
  record Around (key : ℕ) (pairs front back : List (ℕ × M)) (old : M) : Type 0 where
    was : pairs ≡ front ++ (key, old) ∷ back
    lower : All (λ p. p.0 < key) front
    upper : All (λ p. key < p.0) back

  around : (key : ℕ) (x : Item M) (pairs front back : List (ℕ × M)) → AreRising pairs → pairs ≡ front ++ pair_of x ∷ [] ++ back → x.key ≡ key → Around key pairs front back x.value
  around key x pairs front back rising was same =
      let parts : pairs ≡ front ++ (key, x.value) ∷ back = was ∙ append_assoc front (pair_of x ∷ []) back ∙ ap (λ k. front ++ (k, x.value) ∷ back) same in
      let r : AreRising (front ++ (key, x.value) ∷ back) = subst AreRising parts rising in
      record { was = parts; lower = rising_below front back (key, x.value) r; upper = rising_above front back (key, x.value) r }

  -- no pair has the key, and it lies between
  record Between (key : ℕ) (pairs front back : List (ℕ × M)) : Type 0 where
    was : pairs ≡ front ++ back
    lower : All (λ p. p.0 < key) front
    upper : All (λ p. key < p.0) back

  between : (key : ℕ) (pairs front back : List (ℕ × M)) → AreRising pairs → pairs ≡ front ++ [] ++ back → EndsIn (λ k. nat_lt k key) front → BeginsIn (λ k. nat_lt key k) back → Between key pairs front back
  between key pairs front back rising was low high =
      let parts : pairs ≡ front ++ back = was ∙ ap (λ l. l ++ back) (append_none front) in
      let r : AreRising (front ++ back) = subst AreRising parts rising in
      record { was = parts; lower = all_under key front (rising_first front back r) low; upper = all_behind key back (rising_second front back r) high }

  absent : (key : ℕ) (pairs front back : List (ℕ × M)) → Between key pairs front back → has_key key pairs ≡ false
  absent key pairs front back b = ap (has_key key) b.was ∙ has_key-between key front back b.lower b.upper

  present : (key : ℕ) (pairs front back : List (ℕ × M)) (old : M) → Around key pairs front back old → has_key key pairs ≡ true
  present key pairs front back old a = ap (has_key key) a.was ∙ has_key-middle key front back a.lower a.upper old

  at_least : (key : ℕ) (xs : List (ℕ × M)) → All (λ p. key < p.0) xs → All (λ p. key ≤ p.0) xs
  at_least key xs h = All-weaker (λ p. key < p.0) (λ p. key ≤ p.0) (λ p l. omega arith) xs h

  -- an item comes in
  pub is_inserted : (item : Item M) (taken : Option (Item M)) (old new : List (ℕ × M)) → AreRising old → has_key item.key old ≡ false → Applies (Insert item) taken old new → (taken ≡ None) × (new ≡ inserted item.key item.value old)
  is_inserted item None old new rising none a =
      let b = between item.key old a.front a.back rising a.was (a.gap refl).0 (a.gap refl).1 in
      (refl, a.is ∙ append_assoc a.front (pair_of item ∷ []) a.back ∙ sym (ap (inserted item.key item.value) b.was ∙ inserted-parts item.key a.front a.back b.lower item.value (at_least item.key a.back b.upper)))
  is_inserted item (Some x) old new rising none a =
      let r = around item.key x old a.front a.back rising a.was (same_key x.key item.key (a.met x refl)) in
      let p = present item.key old a.front a.back x.value r in
      cc

  -- an item comes in the place of another
  pub is_replaced : (item : Item M) (taken : Option (Item M)) (old new : List (ℕ × M)) → AreRising old → has_key item.key old ≡ true → Applies (Set item) taken old new → (length new ≡ length old) × (new ≡ replaced item.key item.value old)
  is_replaced item None old new rising some a =
      let b = absent item.key old a.front a.back (between item.key old a.front a.back rising a.was (a.gap refl).0 (a.gap refl).1) in
      cc
  is_replaced item (Some x) old new rising some a =
      let r = around item.key x old a.front a.back rising a.was (same_key x.key item.key (a.met x refl)) in
      let p = ap length a.was ∙ length-append (a.front ++ pair_of x ∷ []) a.back in
      let q = ap length a.is ∙ length-append (a.front ++ pair_of item ∷ []) a.back in
      let u = length-append a.front (pair_of x ∷ []) in
      let v = length-append a.front (pair_of item ∷ []) in
      (omega arith, a.is ∙ append_assoc a.front (pair_of item ∷ []) a.back ∙ sym (ap (replaced item.key item.value) r.was ∙ replaced-middle item.key a.front a.back r.lower r.upper x.value item.value))

  -- an item goes out
  pub record IsRemoved (key : ℕ) (taken : Option (Item M)) (old new : List (ℕ × M)) : Type 0 where
    pub value : option_map (λ x. x.value) taken ≡ value_at key old
    pub rest : new ≡ without key old
    pub none : (taken ≡ None) ↔ (has_key key old ≡ false)
    pub fewer : length new + length (pairs_of taken) ≡ length old

  pub is_removed : (key : ℕ) (taken : Option (Item M)) (old new : List (ℕ × M)) → AreRising old → Applies (Remove key) taken old new → IsRemoved key taken old new
  is_removed key None old new rising a =
      let b = absent key old a.front a.back (between key old a.front a.back rising a.was (a.gap refl).0 (a.gap refl).1) in
      let same : new ≡ old = a.is ∙ sym a.was in
      record { value = sym (value_at-absent key old b); rest = same ∙ sym (without-absent key old b); none = (λ e. b, λ e. refl); fewer = let l = ap length same in omega arith }
  is_removed key (Some x) old new rising a =
      let r = around key x old a.front a.back rising a.was (same_key x.key key (a.met x refl)) in
      let p = present key old a.front a.back x.value r in
      let l = ap length a.was ∙ length-append (a.front ++ pair_of x ∷ []) a.back in
      let m = ap length a.is ∙ length-append (a.front ++ []) a.back in
      let u = length-append a.front (pair_of x ∷ []) in
      let v = length-append a.front [] in
      record {
        value = sym (ap (value_at key) r.was ∙ value_at-middle key a.front a.back r.lower r.upper x.value);
        rest = a.is ∙ ap (λ f. f ++ a.back) (append_none a.front) ∙ sym (ap (without key) r.was ∙ without-middle key a.front a.back r.lower r.upper x.value);
        none = (λ e. cc, λ e. cc);
        fewer = omega arith;
      }

  -- what is folded between two keys is the range
  pub is_range : (op : M → M → M) (low high : ℕ) (pairs : List (ℕ × M)) (sum result : M) (steps after : ℕ) → AreRising pairs → (f : IsFolded op (Key low) (Key high) pairs sum result steps after) → f.middle ≡ within low high pairs
  is_range op low high pairs sum result steps after rising f =
      let parts : pairs ≡ f.front ++ (f.middle ++ f.back) = f.was ∙ append_assoc f.front f.middle f.back in
      let r : AreRising (f.front ++ (f.middle ++ f.back)) = subst AreRising parts rising in
      let rest : AreRising (f.middle ++ f.back) = rising_second f.front (f.middle ++ f.back) r in
      let middle : AreRising f.middle = rising_first f.middle f.back rest in
      let from : All (λ p. low ≤ p.0) f.middle = all_over low f.middle middle f.from_low in
      let until : All (λ p. p.0 < high) f.middle = all_under high f.middle middle f.before_high in
      sym (ap (within low high) parts ∙ within-parts low high f.front f.middle f.back (all_under low f.front (rising_first f.front (f.middle ++ f.back) r) f.before_low) (λ k d lt. (from k d lt, until k d lt)) (all_over high f.back (rising_second f.middle f.back rest) f.from_high))

module _ {M : Type 0} (IsValue : M → Type 0) (empty : M) (op : M → M → M) where
  flat_of : (look : Look M) (h : ℕ) (l r : Bool) (at : ℕ) → IsAt IsValue empty op look h l r at → pairs_at look h at ≡ [] → h ≡ 0
  flat_of look zero l r at k e = refl
  flat_of look (suc h) l r at k e = let s = some_pairs IsValue empty op look (suc h) l r at (omega arith) k in let z = ap length e in absurd (omega arith)

module _ {M : Type 0} (IsValue : M → Type 0) (empty : M) (op : M → M → M) (l r : Bool) where
  pub arena_of : (s : Store M) (root : Root) (count limit : ℕ) → IsTree IsValue empty op s root l r → AreRising (pairs_in s root) → count ≡ length (pairs_in s root) → count ≤ limit → limit ≤ s.spare + size (plain s) root.height root.at → limit < 2 ^ 64 → IsArena IsValue empty op s root l r count limit
  arena_of s root count limit tree rising counted within room fits =
      let t = tall IsValue empty op (plain s) root.height l r root.at tree.sound in
      record {
        tree = tree;
        rising = rising;
        counted = counted;
        within = within;
        room = room;
        tall = t;
        low = low_height root.height (length (pairs_in s root)) t (omega arith);
        flat = flat_of IsValue empty op (plain s) root.height l r root.at tree.sound;
      }

  -- nothing yet
  pub arena_fresh : (s : Store M) → ((k : ℕ) → look s k ≡ None) → IsArena IsValue empty op s (record { at = 0; height = 0 }) l r 0 0
  arena_fresh s none =
      let e : pairs_at (plain s) 0 0 ≡ [] = no_pairs (plain s) 0 0 refl in
      arena_of s (record { at = 0; height = 0 }) 0 0
      (record { sound = tree_low IsValue empty op (plain s) 0 l r 0 refl; owned = λ k. let z = weigh_low (only k) (plain s) 0 0 refl in let v : vacancy (look s k) ≡ 1 = ap vacancy (none k) in omega arith; linked = link_low s 0 0 refl })
      (subst AreRising (sym e) (λ i j d lt within. absurd (omega arith)))
      (sym (ap length e)) (omega arith) (omega arith) (omega arith)

  module _ (old new : Store M) (root grown : Root) (count limit : ℕ) (arena : IsArena IsValue empty op old root l r count limit) (fits : limit < 2 ^ 64) where
    pub arena_inserted : (item : Item M) (taken : Option (Item M)) → has_key item.key (pairs_in old root) ≡ false → count < limit → IsChanged IsValue empty op old new root grown l r (Insert item) taken → IsArena IsValue empty op new grown l r (count + 1) limit × (pairs_in new grown ≡ inserted item.key item.value (pairs_in old root))
    arena_inserted item taken none lt c =
        let i = is_inserted item taken (pairs_in old root) (pairs_in new grown) arena.rising none c.applies in
        let a : Applies (Insert item) None (pairs_in old root) (pairs_in new grown) = subst (λ o. Applies (Insert item) o (pairs_in old root) (pairs_in new grown)) i.0 c.applies in
        let p = ap length a.was ∙ length-append (a.front ++ []) a.back in
        let q = ap length a.is ∙ length-append (a.front ++ pair_of item ∷ []) a.back in
        let u = length-append a.front [] in
        let v = length-append a.front (pair_of item ∷ []) in
        let n = arena.counted in
        let m = arena.room in
        let r = c.room in
        (arena_of new grown (count + 1) limit c.tree (subst AreRising (sym i.1) (rising-inserted item.key item.value (pairs_in old root) arena.rising none)) (omega arith) (omega arith) (omega arith) fits, i.1)

    pub arena_replaced : (item : Item M) (taken : Option (Item M)) → has_key item.key (pairs_in old root) ≡ true → IsChanged IsValue empty op old new root grown l r (Set item) taken → IsArena IsValue empty op new grown l r count limit × (pairs_in new grown ≡ replaced item.key item.value (pairs_in old root))
    arena_replaced item taken some c =
        let i = is_replaced item taken (pairs_in old root) (pairs_in new grown) arena.rising some c.applies in
        let n = arena.counted in
        let m = arena.room in
        let r = c.room in
        let w = arena.within in
        (arena_of new grown count limit c.tree (subst AreRising (sym i.1) (rising-replaced item.key item.value (pairs_in old root) arena.rising)) (omega arith) w (omega arith) fits, i.1)

    pub removed_of : (key : ℕ) (taken : Option (Item M)) → IsChanged IsValue empty op old new root grown l r (Remove key) taken → IsRemoved key taken (pairs_in old root) (pairs_in new grown)
    removed_of key taken c = is_removed key taken (pairs_in old root) (pairs_in new grown) arena.rising c.applies

    pub arena_removed : (key : ℕ) (taken : Option (Item M)) (left : ℕ) → left + length (pairs_of taken) ≡ count → IsChanged IsValue empty op old new root grown l r (Remove key) taken → IsArena IsValue empty op new grown l r left limit
    arena_removed key taken left fewer c =
        let i = removed_of key taken c in
        let n = arena.counted in
        let m = arena.room in
        let r = c.room in
        let w = arena.within in
        let f = i.fewer in
        arena_of new grown left limit c.tree (subst AreRising (sym i.rest) (rising-without key (pairs_in old root) arena.rising)) (omega arith) (omega arith) (omega arith) fits

  -- more room
  pub arena_roomier : (old new : Store M) (root : Root) (count limit more : ℕ) → new.cells ≡ old.cells → IsArena IsValue empty op old root l r count limit → count ≤ more → more ≤ new.spare + size (plain new) root.height root.at → more < 2 ^ 64 → IsArena IsValue empty op new root l r count more
  arena_roomier old new root count limit more kept a within room fits =
      let sound : IsAt IsValue empty op (plain new) root.height l r root.at = subst (λ cs. IsAt IsValue empty op (plain (record { cells = cs; spare = new.spare })) root.height l r root.at) (sym kept) a.tree.sound in
      let owned : Owned (look new) (λ k. times k (plain new) root.height root.at) = subst (λ cs. Owned (look (record { cells = cs; spare = new.spare })) (λ k. times k (plain (record { cells = cs; spare = new.spare })) root.height root.at)) (sym kept) a.tree.owned in
      let t : IsTree IsValue empty op new root l r = record { sound = sound; owned = owned; linked = same_linked old new root.height root.at (λ k. let o = a.tree.owned k in omega arith) (λ k. ap (λ cs. look (record { cells = cs; spare = new.spare }) k) kept) a.tree.linked } in
      let e : pairs_in new root ≡ pairs_in old root = ap (λ cs. pairs_in (record { cells = cs; spare = new.spare }) root) kept in
      arena_of new root count more t (subst AreRising (sym e) a.rising) (a.counted ∙ ap length (sym e)) within room fits

  pub size_kept : (old new : Store M) (root : Root) → new.cells ≡ old.cells → size (plain new) root.height root.at ≡ size (plain old) root.height root.at
  size_kept old new root kept = ap (λ cs. size (plain (record { cells = cs; spare = new.spare })) root.height root.at) kept

-- the first pair of a row
module _ {M : Type 0} where
  get_front : (xs ys : List (ℕ × M)) (p : ℕ × M) → slice_get xs 0 ≡ Some p → slice_get (xs ++ ys) 0 ≡ Some p
  get_front [] ys p e = cc
  get_front (x ∷ xs) ys p e = e

  pub least_here : (f : ℕ → List (ℕ × M)) (slots : List (Slot M)) (last : ℕ) (slot : Slot M) → slice_get slots 0 ≡ Some slot → f slot.kid ≡ [] → slice_get (woven f slots last) 0 ≡ Some (pair_of slot.item)
  least_here f [] last slot is none = cc
  least_here f (x ∷ xs) last slot is none =
      let e : x ≡ slot = cc in
      let z : f x.kid ≡ [] = subst (λ y. f y.kid ≡ []) (sym e) none in
      ap (λ ps. slice_get (ps ++ pair_of x.item ∷ woven f xs last) 0) z ∙ ap (λ y. Some (pair_of y.item)) e

  pub least_below : (f : ℕ → List (ℕ × M)) (slots : List (Slot M)) (last : ℕ) (slot : Slot M) (p : ℕ × M) → slice_get slots 0 ≡ Some slot → slice_get (f slot.kid) 0 ≡ Some p → slice_get (woven f slots last) 0 ≡ Some p
  least_below f [] last slot p is first = cc
  least_below f (x ∷ xs) last slot p is first =
      let e : x ≡ slot = cc in
      get_front (f x.kid) (pair_of x.item ∷ woven f xs last) p (subst (λ y. slice_get (f y.kid) 0 ≡ Some p) (sym e) first)

  pub least_kid : (P : Bool → Bool → ℕ → Type 0) (l r : Bool) (slots : List (Slot M)) (last : ℕ) (slot : Slot M) → slice_get slots 0 ≡ Some slot → KidsAt P l r slots last → P l false slot.kid
  least_kid P l r [] last slot is k = cc
  least_kid P l r (x ∷ xs) last slot is k = let e : x ≡ slot = cc in subst (λ y. P l false y.kid) e k.0

  -- the least key is that of the first pair
  pub key_of_first : (pairs : List (ℕ × M)) (item : Item M) → slice_get pairs 0 ≡ Some (pair_of item) → (Some item.key ≡ least_key pairs) × (pairs ≢ [])
  key_of_first pairs item e = (sym (ap (option_map (λ p. p.0)) e), λ z. let n : slice_get pairs 0 ≡ None = ap (λ ps. slice_get ps 0) z in cc)

-- what a row begins with, its tree begins with
pub pairs_eq : {M : Type 0} (IsValue : M → Type 0) (empty : M) (op : M → M → M) (look : Look M) (h at : ℕ) (slots : List (Slot M)) (last : ℕ) (agg : M) (leaf : Bool) {p : ℕ × M} → look at ≡ Some (record { slots = slots; last = last; agg = agg; leaf = leaf }) → slice_get (woven (pairs_at look h) slots last) 0 ≡ Some p → slice_get (pairs_at look (suc h) at) 0 ≡ Some p
pairs_eq IsValue empty op look h at slots last agg leaf is e =
    ap (λ ps. slice_get ps 0) (sound.pairs_of IsValue empty op look h false false at (record { slots = slots; last = last; agg = agg; leaf = leaf }) is) ∙ e
