-- Rows of parts after an edit.
use Rattle.std.proofs.Common.{◌≡◌, ◌∙◌, ℕ, ◌+◌, ◌-◌, ◌<◌, ◌≤◌, ◌^◌, Bool, true, false, cond, List, [], ◌∷◌, ◌++◌, None, length, get_or, take, drop, ap, sym, refl, subst, arith, zero, suc, length-append, length-take, length-drop}
use Rattle.std.specs.Prelude.{nat_le, remove, Option}
use Rattle.std.specs.List.{All, filter, flat_map}
use Rattle.std.proofs.lemmas.Grind.{flat_map-append}
use Rattle.std.proofs.lemmas.List.{append-nil, drop_all, take-append-drop, take_all}
use Rattle.std.proofs.lemmas.List.Elements.{All-drop, All-head, All-take, All-weaker, filter-append}
use Rattle.stream_base.specs.declared.kept.Kept.{Kept}
use Rattle.stream_base.specs.Laws.{TimesDoNotFall}
use Rattle.stream_base.specs.Model.Windows.{first_time, is_within, last_time, within}
use Rattle.aggregates.specs.Bundled.{Bundled}
use Rattle.slice_lists.proofs.Order.{nd_split}
use Rattle.tuple_chunks.specs.Parts.{AreParts, IsReady, IsRow}
use Rattle.tuple_chunks.specs.Sums.{IsSum}
use Rattle.tuple_chunks.proofs.PartFacts.{parts_at, taken_length, taken_within}
use Rattle.tuple_chunks.proofs.SumFacts.{sum_is_kept}
use Rattle.tuple_chunks.proofs.TimeFacts.{above_first, first_of_append, last_of_append, stay_all}

pub filter_shorter : (p : Kept → Bool) (xs : List Kept) → length (filter p xs) ≤ length xs
filter_shorter p [] = omega arith
filter_shorter p (x ∷ xs) = by (filter_shorter p xs) (p x)
  where
    by : length (filter p xs) ≤ length xs → (b : Bool) → length (cond b (x ∷ filter p xs) (filter p xs)) ≤ length (x ∷ xs)
    by h true = omega (arith, h)
    by h false = omega (arith, h)

pub is_ready : (b : Bool) (n : ℕ) → cond b 1 0 ≡ n → 1 ≤ n → b ≡ true
is_ready true n e l = refl
is_ready false n e l = absurd (omega (arith, e))

pub remove_drop : {X : Type 0} (n : ℕ) (xs ys : List X) → ys ≡ drop n xs → n < length xs → remove ys 0 ≡ drop (n + 1) xs
remove_drop {X = X} n xs ys e l = ap (λ l. remove l 0) e ∙ at n xs l
  where
    at : (n : ℕ) (xs : List X) → n < length xs → remove (drop n xs) 0 ≡ drop (n + 1) xs
    at n [] l = absurd (omega arith)
    at zero (x ∷ xs) l = refl
    at (suc n) (x ∷ xs) l = at n xs (omega arith) ∙ ap (λ k. drop k (x ∷ xs)) (let e : suc (n + 1) ≡ suc n + 1 = omega arith in e)

pub same_list : {X : Type 0} (n : ℕ) (xs ys : List X) → ys ≡ xs → n ≡ length xs → take n (ys ++ drop (length ys) xs) ≡ xs
same_list n xs ys e l =
    (λ i. take (l i) (e i ++ drop (length (e i)) xs))
    ∙ ap (λ l. take (length xs) (xs ++ l)) (drop_all (length xs) xs (omega arith))
    ∙ ap (take (length xs)) (append-nil xs)
    ∙ take_all (length xs) xs (omega arith)

module _ {P : Type 0} (f : P → List Kept) (s : P → ℕ) where
  pub first_of_parts : (ps : List P) (o : P) → AreParts f ps → 0 < length ps → o ≡ get_or ps 0 o → first_time (f o) ≡ first_time (flat_map f ps)
  first_of_parts [] o h l is = absurd (omega arith)
  first_of_parts (p ∷ ps) o h l is = ap (λ q. first_time (f q)) is ∙ sym (first_of_append (f p) (flat_map f ps) (All-head (λ p. 0 < length (f p)) p ps h.some))

  pub last_of_parts : (ps : List P) (o : P) → AreParts f ps → 0 < length ps → o ≡ get_or ps (length ps - 1) o → last_time (f o) ≡ last_time (flat_map f ps)
  last_of_parts ps o h l is =
      let m : length ps - 1 < length ps = omega arith in
      let none : drop (suc (length ps - 1)) ps ≡ [] = drop_all (suc (length ps - 1)) ps (omega arith) in
      let own : 0 < length (f (get_or ps (length ps - 1) o)) = h.some (length ps - 1) o m in
      ap (λ q. last_time (f q)) is
      ∙ sym (last_of_append (flat_map f (take (length ps - 1) ps)) (f (get_or ps (length ps - 1) o)) own)
      ∙ ap (λ l. last_time (flat_map f (take (length ps - 1) ps) ++ l)) (sym (append-nil (f (get_or ps (length ps - 1) o))) ∙ ap (λ l. f (get_or ps (length ps - 1) o) ++ flat_map f l) (sym none))
      ∙ ap last_time (sym (parts_at f ps (length ps - 1) o m))

  -- none leaves where the first tuple stays
  pub none_leaves : (ps : List P) (time : ℕ) (o : P) → AreParts f ps → 0 < length ps → o ≡ get_or ps 0 o → time ≤ first_time (f o) → flat_map f ps ≡ filter (λ (x : Kept). nat_le time x.time) (flat_map f ps)
  none_leaves ps time o h l is le =
      let first = first_of_parts ps o h l is in
      sym (stay_all time (flat_map f ps) (All-weaker (λ (y : Kept). first_time (flat_map f ps) ≤ y.time) (λ y. time ≤ y.time) (λ y m. omega (arith, m, first, le)) (flat_map f ps) (above_first (flat_map f ps) h.ordered)))

  -- ---- a row in two
  pub divided : (ps : List P) (at : ℕ) → flat_map f ps ≡ flat_map f (take at ps) ++ flat_map f (drop at ps)
  divided ps at = ap (flat_map f) (sym (take-append-drop at ps)) ∙ flat_map-append f (take at ps) (drop at ps)

  pub front_parts : (ps : List P) (at : ℕ) → AreParts f ps → AreParts f (take at ps)
  front_parts ps at h = record {
    some = All-take (λ p. 0 < length (f p)) at ps h.some;
    ordered = (nd_split (λ (x : Kept). x.time) (flat_map f (take at ps)) (flat_map f (drop at ps)) (subst TimesDoNotFall (divided ps at) h.ordered)).0;
  }

  pub back_parts : (ps : List P) (at : ℕ) → AreParts f ps → AreParts f (drop at ps)
  back_parts ps at h = record {
    some = All-drop (λ p. 0 < length (f p)) at ps h.some;
    ordered = (nd_split (λ (x : Kept). x.time) (flat_map f (take at ps)) (flat_map f (drop at ps)) (subst TimesDoNotFall (divided ps at) h.ordered)).1;
  }

  pub a_row : (ps : List P) (number : ℕ) (ready : Bool) → AreParts f ps → 0 < length ps → All (λ p. 1 ≤ s p) ps → number ≡ length (flat_map f ps) → number + 1 < 2 ^ 64 → IsRow f s ps number 0 ready None
  a_row ps number ready h l r n c = record {
    holds = h;
    some = l;
    counted = n;
    fits = omega (arith, c);
    rooms = λ k d m ne. r k d m;
    roomy = λ e. record { rooms = r; counts = c };
    summed = tt;
  }

  pub front_row : (ps qs : List P) (at number all : ℕ) (ready : Bool) → qs ≡ take at ps → 0 < at → at < length ps → AreParts f ps → IsReady s ps all → all ≡ length (flat_map f ps) → number ≡ length (flat_map f (drop at ps)) → IsRow f s qs (all - number) 0 ready None
  front_row ps qs at number all ready e l m h r n c =
      subst (λ l. IsRow f s l (all - number) 0 ready None) (sym e)
      (a_row (take at ps) (all - number) ready (front_parts ps at h) (omega (arith, length-take at ps)) (All-take (λ p. 1 ≤ s p) at ps r.rooms)
      (omega (arith, n, c, ap length (divided ps at), length-append (flat_map f (take at ps)) (flat_map f (drop at ps))))
      (omega (arith, r.counts)))

  pub back_row : (ps qs : List P) (at number all : ℕ) (ready : Bool) → qs ≡ drop at ps → at < length ps → AreParts f ps → IsReady s ps all → all ≡ length (flat_map f ps) → number ≡ length (flat_map f (drop at ps)) → IsRow f s qs number 0 ready None
  back_row ps qs at number all ready e m h r n c =
      subst (λ l. IsRow f s l number 0 ready None) (sym e)
      (a_row (drop at ps) number ready (back_parts ps at h) (omega (arith, length-drop at ps)) (All-drop (λ p. 1 ≤ s p) at ps r.rooms) c
      (omega (arith, r.counts, n, c, ap length (divided ps at), length-append (flat_map f (take at ps)) (flat_map f (drop at ps)))))

  pub back_number : (ps : List P) (at : ℕ) → length (flat_map f (drop at ps)) ≤ length (flat_map f ps)
  back_number ps at = omega (arith, ap length (divided ps at), length-append (flat_map f (take at ps)) (flat_map f (drop at ps)))

  -- ---- where the first parts left
  pub dropped_row : (old new : List P) (time gone number left entered : ℕ) (ready : Bool) (sum : Option Bundled) → IsRow f s old number entered ready sum → flat_map f new ≡ filter (λ (x : Kept). nat_le time x.time) (flat_map f old) → AreParts f new → length new + gone ≡ length old → 0 < length new → ((k : ℕ) (d : P) → k < length new → s (get_or old (k + gone) d) ≤ s (get_or new k d)) → left ≡ length (flat_map f new) → IsRow f s new left (entered - gone) ready None
  dropped_row old new time gone number left entered ready sum row is h e l keeps c =
      let fewer : left ≤ number = omega (arith, c, row.counted, ap length is, filter_shorter (λ (x : Kept). nat_le time x.time) (flat_map f old)) in
      record {
        holds = h;
        some = omega (arith, row.some);
        counted = c;
        fits = omega (arith, row.fits);
        rooms = λ k d m ne. (let r = row.rooms (k + gone) d (omega arith) (λ q. ne (omega arith)) in omega (arith, r, keeps k d m));
        roomy = λ t. record {
          rooms = λ k d m. (let r = (row.roomy t).rooms (k + gone) d (omega arith) in omega (arith, r, keeps k d m));
          counts = omega (arith, (row.roomy t).counts);
        };
        summed = tt;
      }

  pub dropped_fits : (old new : List P) (time number : ℕ) → number ≡ length (flat_map f old) → number < 2 ^ 64 → flat_map f new ≡ filter (λ (x : Kept). nat_le time x.time) (flat_map f old) → length (flat_map f new) < 2 ^ 64
  dropped_fits old new time number c l is = omega (arith, ap length is, filter_shorter (λ (x : Kept). nat_le time x.time) (flat_map f old))

  -- ---- ranges of the first parts
  pub within_taken : (low high : ℕ) (ps : List P) (i : ℕ) (d : P) → i < length ps → within low high (flat_map f (take (i + 1) ps)) ≡ within low high (flat_map f (take i ps)) ++ within low high (f (get_or ps i d))
  within_taken low high ps i d l = ap (within low high) (taken_length f ps i d l) ∙ filter-append (is_within low high) (flat_map f (take i ps)) (f (get_or ps i d))

  pub ranges_within : (low high : ℕ) (ps : List P) (i : ℕ) (d : P) → i < length ps → length (within low high (flat_map f (take i ps))) + length (within low high (f (get_or ps i d))) ≤ length (flat_map f ps)
  ranges_within low high ps i d l =
      omega (arith, ap length (within_taken low high ps i d l), length-append (within low high (flat_map f (take i ps))) (within low high (f (get_or ps i d))), filter_shorter (is_within low high) (flat_map f (take (i + 1) ps)), taken_within f ps (i + 1))

  pub numbers_within : (ps : List P) (i : ℕ) (d : P) → i < length ps → length (flat_map f (take i ps)) + length (f (get_or ps i d)) ≤ length (flat_map f ps)
  numbers_within ps i d l = omega (arith, ap length (taken_length f ps i d l), length-append (flat_map f (take i ps)) (f (get_or ps i d)), taken_within f ps (i + 1))

  pub row_some : (ps : List P) (number entered : ℕ) (ready : Bool) (sum : Option Bundled) → IsRow f s ps number entered ready sum → 0 < length ps
  row_some ps number entered ready sum row = omega (arith, row.some)

  -- another sum is kept
  pub row_summed : (ps : List P) (number entered : ℕ) (ready : Bool) (sum more : Option Bundled) → IsRow f s ps number entered ready sum → IsSum more (flat_map f ps) → IsRow f s ps number entered ready more
  row_summed ps number entered ready sum more row h = record {
    holds = row.holds;
    some = row.some;
    counted = row.counted;
    fits = row.fits;
    rooms = row.rooms;
    roomy = row.roomy;
    summed = sum_is_kept more (flat_map f ps) h;
  }
