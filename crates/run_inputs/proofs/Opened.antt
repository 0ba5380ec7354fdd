-- Sources that are opened one by one, and given back.
use Rattle.std.proofs.Common.{◌≡◌, ◌≢◌, ◌∙◌, ◌<◌, ◌≤◌, ◌+◌, ◌++◌, ◌⊎◌, ℕ, List, [], ◌∷◌, length, take, get_or, Option, sym, subst, ap, refl, arith, inl, inr, ⊎_elim, append_assoc, length-append}
use Rattle.std.specs.Prelude.{IfSome}
use Rattle.std.proofs.lemmas.Bool.{cases_lt}
use Rattle.std.proofs.lemmas.List.{get_or_append_left, get_or_push, take_more}
use Rattle.stream_base.specs.Limits.{Definitions}
use Rattle.outside.specs.Outside.{Came, KeepsWord, Reads, back}
use Rattle.source_feed.specs.FileFeedState.{FileFeedState}
use Rattle.run_inputs.specs.Opening.{AreUnread, IsUnread}
use Rattle.run_inputs.specs.Outside.{ArePlaced, GivesBack, Telling}

module _ {S : Type 0} (reads : S → Reads) (word : S → Option (List ℕ)) (base : ℕ) (told : Telling) (names : List (List ℕ)) (d : Definitions) where
  -- one feed more
  pub unread_more : (feeds : List (FileFeedState S)) (feed : FileFeedState S) (n : ℕ) (name : List ℕ) → length feeds ≡ n → get_or names n [] ≡ name → AreUnread reads word base told names d feeds → IsUnread reads word (base + n) (told name) n d feed → AreUnread reads word base told names d (feeds ++ feed ∷ [])
  unread_more feeds feed n name many at h unread i f l =
      ⊎_elim (λ (less : i < length feeds). subst (IsUnread reads word (base + i) (told (get_or names i [])) i d) (sym (get_or_append_left feeds (feed ∷ []) f i less)) (h i f less))
      (λ ge.
      let same : n ≡ i = let size = length-append feeds (feed ∷ []) in omega (arith, ge, many, l, size) in
      subst (IsUnread reads word (base + i) (told (get_or names i [])) i d) (sym (get_or_push feeds feed f i (many ∙ same)))
      (subst (λ k. IsUnread reads word (base + k) (told (get_or names k [])) k d feed) same (subst (λ (x : List ℕ). IsUnread reads word (base + n) (told x) n d feed) (sym at) unread)))
      (cases_lt i (length feeds))

  -- such feeds came from opens in a row
  pub are_placed : (feeds : List (FileFeedState S)) → AreUnread reads word base told names d feeds → (i : ℕ) (f : FileFeedState S) → i < length feeds → (reads (get_or feeds i f).from).place ≡ base + i
  are_placed feeds unread i f l = ap (λ (r : Reads). r.place) (unread i f l).fresh

-- one name more was asked for
pub more_in_order : (before files now names : List (List ℕ)) (i : ℕ) (name : List ℕ) → i < length names → get_or names i [] ≡ name → files ≡ before ++ take i names → now ≡ files ++ name ∷ [] → now ≡ before ++ take (i + 1) names
more_in_order before files now names i name inside at in_order more =
    more ∙ ap (λ (a : List (List ℕ)). a ++ name ∷ []) in_order ∙ append_assoc before (take i names) (name ∷ [])
    ∙ ap (λ (x : List ℕ). before ++ (take i names ++ x ∷ [])) (sym at) ∙ ap (λ (t : List (List ℕ)). before ++ t) (sym (take_more names i [] inside))

-- a list that has a place has an element
pub some_of : {X : Type 0} (xs : List X) (k : ℕ) → k < length xs → X
some_of [] k l = absurd (let no : ⊥ = omega (arith, l) in no)
some_of (x ∷ xs) k l = x

-- elements that are taken off from the last one down: what is left stands at its place
pub front_less : {E : Type 0} (initial all left : List E) (x : E) → all ≡ left ++ x ∷ [] → ((i : ℕ) (e : E) → i < length all → get_or all i e ≡ get_or initial i e) → (i : ℕ) (e : E) → i < length left → get_or left i e ≡ get_or initial i e
front_less initial all left x is front i e l =
    let longer : i < length all = let n = ap length is in omega (arith, l, n, length-append left (x ∷ [])) in
    sym (get_or_append_left left (x ∷ []) e i l) ∙ ap (λ xs. get_or xs i e) (sym is) ∙ front i e longer

module _ {F E : Type 0} (asked : F → List (List ℕ)) (came : F → ℕ → Came) (told : F → Telling) (reads : E → Reads) (word : E → Option (List ℕ)) where
  -- the last of these are given back, down to those that are left
  pub record AreGivenDownTo (left all : List E) (old now : F) : Type 0 where
    pub asked_same : asked now ≡ asked old
    pub within : length left ≤ length all
    pub front : (i : ℕ) (e : E) → i < length left → get_or left i e ≡ get_or all i e
    pub back_at : (base : ℕ) → ArePlaced asked came told reads word base all → (i : ℕ) (e : E) → length left ≤ i → i < length all → came now (base + i) ≡ back (reads (get_or all i e))
    pub others : (base : ℕ) → ArePlaced asked came told reads word base all → (i : ℕ) → (i < base + length left) ⊎ (base + length all ≤ i) → came now i ≡ came old i
    pub word_kept : (i : ℕ) (e : E) → length left ≤ i → i < length all → IfSome (word (get_or all i e)) (KeepsWord (reads (get_or all i e)))
    pub same : (which : List ℕ) → told now which ≡ told old which

  pub none_given : (all : List E) (files : F) → AreGivenDownTo all all files files
  none_given all files = record {
    asked_same = refl;
    within = omega arith;
    front = λ i e l. refl;
    back_at = λ base placed i e ge l. absurd (let no : ⊥ = omega (arith, ge, l) in no);
    others = λ base placed i where_. refl;
    word_kept = λ i e ge l. absurd (let no : ⊥ = omega (arith, ge, l) in no);
    same = λ which. refl;
  }

  -- one more is given back
  module _ (fewer left all : List E) (x : E) (old now new : F) (is : left ≡ fewer ++ x ∷ []) (before : AreGivenDownTo left all old now)
      (asked_same : asked new ≡ asked now) (back_there : came new (reads x).place ≡ back (reads x))
      (others : (i : ℕ) → i ≢ (reads x).place → came new i ≡ came now i)
      (kept : IfSome (word x) (KeepsWord (reads x))) (same : (which : List ℕ) → told new which ≡ told now which) where
    size : length left ≡ length fewer + 1
    size = ap length is ∙ length-append fewer (x ∷ [])

    -- it stood at the last place
    stood : (e : E) → get_or all (length fewer) e ≡ x
    stood e = sym (before.front (length fewer) e (omega (arith, size))) ∙ ap (λ xs. get_or xs (length fewer) e) is ∙ get_or_push fewer x e (length fewer) refl

    place : (base : ℕ) → ArePlaced asked came told reads word base all → (reads x).place ≡ base + length fewer
    place base placed = let within = before.within in ap (λ (e : E). (reads e).place) (sym (stood x)) ∙ placed (length fewer) x (omega (arith, size, within))

    pub one_given : AreGivenDownTo fewer all old new
    one_given = record {
      asked_same = asked_same ∙ before.asked_same;
      within = let within = before.within in omega (arith, within, size);
      front = front_less all left fewer x is before.front;
      back_at = λ base placed i e ge l.
          let at = place base placed in
          ⊎_elim
          (λ (less : i < length left).
          let here : length fewer ≡ i = omega (arith, less, ge, size) in
          let there : base + i ≡ (reads x).place = omega (arith, at, here) in
          ap (came new) there ∙ back_there ∙ ap (λ (y : E). back (reads y)) (sym (stood e) ∙ ap (λ k. get_or all k e) here))
          (λ past.
          others (base + i) (λ eq. omega (arith, eq, at, past, size)) ∙ before.back_at base placed i e past l)
          (cases_lt i (length left));
      others = λ base placed i outside.
          let at = place base placed in
          let within = before.within in
          ⊎_elim
          (λ (less : i < base + length fewer). others i (λ eq. omega (arith, eq, at, less)) ∙ before.others base placed i (inl (omega (arith, less, size))))
          (λ past. others i (λ eq. omega (arith, eq, at, past, within, size)) ∙ before.others base placed i (inr past))
          outside;
      word_kept = λ i e ge l.
          ⊎_elim
          (λ (less : i < length left).
          let here : length fewer ≡ i = omega (arith, less, ge, size) in
          subst (λ (y : E). IfSome (word y) (KeepsWord (reads y))) (sym (stood e) ∙ ap (λ k. get_or all k e) here) kept)
          (λ past. before.word_kept i e past l)
          (cases_lt i (length left));
      same = λ which. same which ∙ before.same which;
    }

  -- none is left
  pub all_given : (left all : List E) (old new : F) → length left ≡ 0 → AreGivenDownTo left all old new → GivesBack asked came told reads word all old new
  all_given left all old new none given = record {
    asked_same = given.asked_same;
    back_at = λ base placed i e l. given.back_at base placed i e (omega (arith, none)) l;
    others = λ base placed i outside.
        given.others base placed i (⊎_elim (λ (less : i < base). inl (omega (arith, less, none))) (λ past. inr past) outside);
    word_kept = λ i e l. given.word_kept i e (omega (arith, none)) l;
    same = given.same;
  }
