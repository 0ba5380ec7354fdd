-- What the journal of a closed desk is.
use Rattle.std.proofs.Common.{◌≡◌, ◌≤◌, ◌<◌, ◌+◌, arith, add-one, append_assoc, length-append, ℕ, zero, suc, Bool, true, false, cond, eqb, eq-eqb, ne_eqb, List, [], ◌∷◌, ◌++◌, length, map, get_or, sym, refl, ap, subst, ◌∙◌, Option, Some}
use Rattle.std.specs.Prelude.{All, Contains, Vec, IfSome}
use Rattle.std.specs.List.{filter}
use Rattle.std.specs.declared.alloc.Global.{Global}
use native.Mathlib.Decide.{ℕ_discrete}
use Rattle.std.proofs.lemmas.List.{get_or-map, length-map, map-append}
use Rattle.std.proofs.lemmas.List.Elements.{All-contains, All-nil, All-weaker, Contains-append_right, filter-append}
use Rattle.stream_base.specs.declared.entry.Entry.{Entry}
use Rattle.stream_base.specs.Model.Routes.{entries_from}
use Rattle.shard_core.specs.Shard.{IsJournal}
use Rattle.turnstile.specs.declared.keeps.Keeps.{Ghosts}
use Rattle.turnstile.specs.declared.pass.Pass.{Pass}
use Rattle.turnstile.specs.declared.turnstile.Turnstile.{Turnstile}
use Rattle.turnstile.specs.History.{BeginsWith, of_number}
use Rattle.turnstile.specs.Passes.{born, fixed, made, number, numbers, seen, AreAll, IsPassOf}
use Rattle.fan_in.specs.Closings.{EndAt, IsClosed, IsColumn, IsSettled, SettlesLast, last_of}
use Rattle.fan_in.specs.Desks.{BookedState, fixed_of, items_of}
use Rattle.fan_in.specs.Floors.{IsZero}
use Rattle.fan_in.specs.Gathering.{IsGathered}
use Rattle.fan_in.specs.declared.fixed_part.FixedPart.{FixedPart}
use Rattle.fan_in.proofs.Desks.{entries-items, length-items}
use Rattle.fan_in.proofs.Lists.{some_of}

of_number-append : (n : ℕ) (xs ys : List (ℕ × Entry)) → of_number n (xs ++ ys) ≡ of_number n xs ++ of_number n ys
of_number-append n xs ys = ap (map (λ (e : ℕ × Entry). e.1)) (filter-append (λ (e : ℕ × Entry). eqb e.0 n) xs ys) ∙ map-append (λ (e : ℕ × Entry). e.1) (filter (λ (e : ℕ × Entry). eqb e.0 n) xs) (filter (λ (e : ℕ × Entry). eqb e.0 n) ys)

-- an item among the items of its number
among : (xs rest : List (ℕ × Entry)) (i : ℕ × Entry) → Contains (of_number i.0 (xs ++ i ∷ rest)) i.1
among xs rest i =
    let here : of_number i.0 (i ∷ rest) ≡ i.1 ∷ of_number i.0 rest = rw (eq-eqb i.0 i.0 refl) refl in
    rw (of_number-append i.0 xs (i ∷ rest)) (Contains-append_right (of_number i.0 xs) (of_number i.0 (i ∷ rest)) i.1 (rw here (0, omega arith, refl)))

same_test : (a b s : ℕ) → a + 1 ≡ b → Dec (a ≡ s) → eqb a s ≡ eqb b (s + 1)
same_test a b s e (yes is) = eq-eqb a s is ∙ sym (eq-eqb b (s + 1) (sym e ∙ ap (λ n. n + 1) is))
same_test a b s e (no ne) = ne_eqb a s ne ∙ sym (ne_eqb b (s + 1) (λ k. ne (omega arith)))

module _ {g : Ghosts BookedState Entry FixedPart} (passes : List (Pass BookedState Entry FixedPart g)) (d : Pass BookedState Entry FixedPart g) (items : List (ℕ × Entry))
    (is_made : All (λ p. of_number (number p) items ≡ made p) passes)
    (complete : All (λ e. Contains (numbers passes) e.0) items)
    (own : All (λ p. All (λ e. e.source + 1 ≡ number p) (made p)) passes) where
  numbered : (xs rest : List (ℕ × Entry)) (i : ℕ × Entry) → items ≡ xs ++ i ∷ rest → i.1.source + 1 ≡ i.0
  numbered xs rest i e =
      let inside : Contains items i = rw e (Contains-append_right xs (i ∷ rest) i (0, omega arith, refl)) in
      let of : Contains (numbers passes) i.0 = All-contains (λ x. Contains (numbers passes) x.0) items i complete inside in
      let k = of.0 in
      let below : k < length passes = let b : k < length (map number passes) = of.1 in omega (arith, length-map passes number) in
      let p = get_or passes k d in
      let is : number p ≡ i.0 = sym (get_or-map number passes k d i.0 below) ∙ of.2 in
      let its : Contains (made p) i.1 = subst (λ (l : List Entry). Contains l i.1) (is_made k d below) (rw (is, e) (among xs rest i)) in
      All-contains (λ x. x.source + 1 ≡ number p) (made p) i.1 (own k d below) its ∙ is

  walk : (s : ℕ) (xs rest : List (ℕ × Entry)) → items ≡ xs ++ rest → entries_from s (map (λ i. i.1) rest) ≡ of_number (s + 1) rest
  walk s xs [] e = refl
  walk s xs (i ∷ rest) e =
      let more = walk s (xs ++ i ∷ []) rest (e ∙ sym (append_assoc xs (i ∷ []) rest)) in
      let test : eqb i.1.source s ≡ eqb i.0 (s + 1) = same_test i.1.source i.0 s (numbered xs rest i e) (ℕ_discrete i.1.source s) in
      rw test (both (eqb i.0 (s + 1)) i (entries_from s (map (λ j. j.1) rest)) _ more)
    where
      both : (b : Bool) (j : ℕ × Entry) (l : List Entry) (f : List (ℕ × Entry)) → l ≡ map (λ y. y.1) f → cond b (j.1 ∷ l) l ≡ map (λ y. y.1) (cond b (j ∷ f) f)
      both true j l f h = ap (λ z. j.1 ∷ z) h
      both false j l f h = h

  -- the entries of each source are those that its pass made
  pub lawful : (s : ℕ) → entries_from s (map (λ i. i.1) items) ≡ of_number (s + 1) items
  lawful s = walk s [] items refl

module _ {g : Ghosts BookedState Entry FixedPart} (desk : Turnstile BookedState Entry FixedPart) (f : Option FixedPart) (first : Pass BookedState Entry FixedPart g) (rows : List (Vec (Pass BookedState Entry FixedPart g) Global)) (column : List (Pass BookedState Entry FixedPart g))
    (is_zero : IsZero desk f (length rows) first) (ends : EndAt desk f rows) (is : IsColumn first rows column) where
  -- what holds of pass zero and of each row's last pass holds of the whole column
  of_all : (Q : Pass BookedState Entry FixedPart g → Type 0) → Q first → ((i : ℕ) (row : Vec (Pass BookedState Entry FixedPart g) Global) (p : Pass BookedState Entry FixedPart g) → i < length rows → Q (last_of (get_or rows i row).items p))
      → All Q column
  of_all Q a b zero d l = subst Q (sym (is.first d)) a
  of_all Q a b (suc k) d l =
      let lt : k < length rows = let m = is.many in omega arith in
      let v = some_of rows k lt in
      subst (λ (n : ℕ). Q (get_or column n d)) (add-one k) (subst Q (sym (is.each k v d lt)) (b k v d lt))

  pub of_desk : All (λ p. IsPassOf desk p) column
  of_desk = of_all (λ p. IsPassOf desk p) is_zero.own (λ i row p l. ((ends i row l).seat p).own)

  own_all : All (λ p. All (λ e. e.source + 1 ≡ number p) (made p)) column
  own_all = of_all (λ p. All (λ e. e.source + 1 ≡ number p) (made p))
      (subst (λ (es : List Entry). All (λ e. e.source + 1 ≡ number first) es) (sym is_zero.made_none) (All-nil (λ (e : Entry). e.source + 1 ≡ number first)))
      (λ i row p l. let q = last_of (get_or rows i row).items p in
      All-weaker (λ e. e.source ≡ i) (λ e. e.source + 1 ≡ number q) (λ e h. ap (λ n. n + 1) h ∙ sym ((ends i row l).seat p).number_is) (made q) ((ends i row l).own p))

  number_at : (k : ℕ) (d : Pass BookedState Entry FixedPart g) → k < length column → number (get_or column k d) ≡ k
  number_at zero d l = ap number (is.first d) ∙ is_zero.number_is
  number_at (suc k) d l =
      let lt : k < length rows = let m = is.many in omega arith in
      let v = some_of rows k lt in
      let at : number (get_or column (k + 1) d) ≡ k + 1 = ap number (is.each k v d lt) ∙ ((ends k v lt).seat d).number_is in
      subst (λ (n : ℕ). number (get_or column n d) ≡ n) (add-one k) at

  has_number : (n : ℕ) → n ≤ length rows → Contains (numbers column) n
  has_number n l =
      let lt : n < length column = let m = is.many in omega arith in
      (n, omega (arith, length-map column number), get_or-map number column n first n lt ∙ number_at n first lt)

  pub all_given : AreAll column
  all_given = (
    has_number 0 (omega arith),
    of_all (λ p. All (Contains (numbers column)) (born p))
        (All-weaker (λ n. (0 < n) × (n ≤ length rows)) (Contains (numbers column)) (λ n h. has_number n h.1) (born first) is_zero.born_are)
        (λ i row p l. let q = last_of (get_or rows i row).items p in subst (λ (ns : List ℕ). All (Contains (numbers column)) ns) (sym ((ends i row l).seat p).born_none) (All-nil (Contains (numbers column)))),
  )

  module _ (booked : BookedState) (numbered_all : length booked.numbers ≡ length (booked.shard).journal) where
    pub closed : All (λ p. fixed p ≡ Some (fixed_of booked)) column → IsJournal (booked.shard).sources (booked.shard).journal → IsClosed (fixed first) booked.shard
    closed same journal =
        let at : fixed first ≡ Some (fixed_of booked) = sym (ap fixed (is.first first)) ∙ same 0 first (let m = is.many in omega arith) in
        record {
          gathered = subst (λ (o : Option FixedPart). IfSome o (λ f. IsGathered f.defs f.sources booked.shard)) (sym at) (record { defs = refl; sources_are = refl; journal = journal });
          short = journal.short;
        }

    pub settled : All (λ p. BeginsWith (items_of booked) (seen p)) column → All (λ p. of_number (number p) (items_of booked) ≡ made p) column → All (λ e. Contains (numbers column) e.0) (items_of booked)
        → SettlesLast booked.shard rows
    settled begins is_made complete i row p l =
        let lt : i + 1 < length column = let m = is.many in omega arith in
        let q = get_or column (i + 1) p in
        let same : q ≡ last_of (get_or rows i row).items p = is.each i row p l in
        let begin = begins (i + 1) p lt in
        subst (λ x. IsSettled booked.shard i x) same (record {
          journal = ap (entries_from i) (sym (entries-items booked numbered_all)) ∙ lawful column first (items_of booked) is_made complete own_all i ∙ subst (λ (n : ℕ). of_number n (items_of booked) ≡ made q) (number_at (i + 1) p lt) (is_made (i + 1) p lt);
          seen_of = let b = ap length begin.1 in omega (arith, length-append (seen q) begin.0, length-items booked numbered_all);
        })
