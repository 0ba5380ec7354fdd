-- The messages of one sender among letters, and functions changed at one number.
use Rattle.std.proofs.Common.{◌≡◌, ◌≢◌, ◌<◌, ◌≤◌, ℕ, zero, suc, cond, eqb, eq-eqb, ne_eqb, List, [], ◌∷◌, ◌++◌, length, map, filter, sym, refl, ap, ◌∙◌, append_assoc, length-append, arith}
use Rattle.std.proofs.lemmas.List.{append-nil, map-append, get_or_append_left}
use Rattle.std.proofs.lemmas.List.Elements.{filter-append}
use Rattle.std.proofs.Math.Seq.{get_or-append_seam}
use native.Mathlib.Decide.{ℕ_discrete}
use Rattle.mail_lane.specs.declared.letter.Letter.{Letter}
use Rattle.mail_lane.specs.Lane.{messages_of, sent_by}

module _ {A : Type 0} where
  -- the function with another value at one number
  abbrev pub changed : (ℕ → A) → ℕ → A → ℕ → A
  changed f k a p = cond (eqb p k) a (f p)

  pub changed-same : (f : ℕ → A) (k : ℕ) (a : A) (p : ℕ) → p ≡ k → changed f k a p ≡ a
  changed-same f k a p e = ap (λ b. cond b a (f p)) (eq-eqb p k e)

  pub changed-other : (f : ℕ → A) (k : ℕ) (a : A) (p : ℕ) → p ≢ k → changed f k a p ≡ f p
  changed-other f k a p ne = ap (λ b. cond b a (f p)) (ne_eqb p k ne)

  stays : (f : ℕ → A) (k : ℕ) (a : A) (p : ℕ) → f p ≡ a → Dec (p ≡ k) → changed f k a p ≡ a
  stays f k a p e (yes is) = changed-same f k a p is
  stays f k a p e (no ne) = changed-other f k a p ne ∙ e

  -- where the value was so already, it is so after the change
  pub changed-kept : (f : ℕ → A) (k : ℕ) (a : A) (p : ℕ) → f p ≡ a → changed f k a p ≡ a
  changed-kept f k a p e = stays f k a p e (ℕ_discrete p k)

module _ {M : Type 0} where
  pub messages_of-append : (p : ℕ) (xs ys : List (Letter M)) → messages_of p (xs ++ ys) ≡ messages_of p xs ++ messages_of p ys
  messages_of-append p xs ys =
      ap (map (λ (x : Letter M). x.message)) (filter-append (λ (x : Letter M). eqb x.from p) xs ys)
      ∙ map-append (λ (x : Letter M). x.message) (filter (λ (x : Letter M). eqb x.from p) xs) (filter (λ (x : Letter M). eqb x.from p) ys)

  one_here : (p : ℕ) (x : Letter M) → x.from ≡ p → messages_of p (x ∷ []) ≡ x.message ∷ []
  one_here p x e = rw (eq-eqb x.from p e) refl

  one_there : (p : ℕ) (x : Letter M) → x.from ≢ p → messages_of p (x ∷ []) ≡ []
  one_there p x ne = rw (ne_eqb x.from p ne) refl

  one_more : (sent : ℕ → List M) (x : Letter M) (p : ℕ) → Dec (p ≡ x.from)
      → sent p ++ messages_of p (x ∷ []) ≡ changed sent x.from (sent x.from ++ x.message ∷ []) p
  one_more sent x p (yes e) =
      ap (λ l. sent p ++ l) (one_here p x (sym e))
      ∙ ap (λ q. sent q ++ x.message ∷ []) e
      ∙ sym (changed-same sent x.from (sent x.from ++ x.message ∷ []) p e)
  one_more sent x p (no ne) =
      ap (λ l. sent p ++ l) (one_there p x (λ e. ne (sym e)))
      ∙ append-nil (sent p)
      ∙ sym (changed-other sent x.from (sent x.from ++ x.message ∷ []) p ne)

  -- with one letter more at the end, its sender's messages are one more
  pub messages_of-pushed : (sent : ℕ → List M) (taken items : List (Letter M)) (x : Letter M) → ((p : ℕ) → messages_of p (taken ++ items) ≡ sent p)
      → (p : ℕ) → messages_of p (taken ++ (items ++ x ∷ [])) ≡ changed sent x.from (sent x.from ++ x.message ∷ []) p
  messages_of-pushed sent taken items x all p =
      ap (messages_of p) (sym (append_assoc taken items (x ∷ [])))
      ∙ messages_of-append p (taken ++ items) (x ∷ [])
      ∙ ap (λ l. l ++ messages_of p (x ∷ [])) (all p)
      ∙ one_more sent x p (ℕ_discrete p x.from)

  -- the letter's message is among those of its sender
  pub messages_of-among : (taken items : List (Letter M)) (x : Letter M) → messages_of x.from (taken ++ x ∷ items) ≡ messages_of x.from taken ++ x.message ∷ messages_of x.from items
  messages_of-among taken items x =
      messages_of-append x.from taken (x ∷ items)
      ∙ ap (λ l. messages_of x.from taken ++ l) (messages_of-append x.from (x ∷ []) items ∙ ap (λ l. l ++ messages_of x.from items) (one_here x.from x refl))

  pub never_empty : (xs ys : List M) (y : M) → xs ++ y ∷ ys ≢ []
  never_empty xs ys y e = let n : length (xs ++ y ∷ ys) ≡ 0 = ap length e in absurd (omega (arith, length-append xs (y ∷ ys)))

  -- what stands at the places of a longer list
  pub sent_by-front : (lists : List (List M)) (more : List M) (p : ℕ) → p < length lists → sent_by p (lists ++ more ∷ []) ≡ sent_by p lists
  sent_by-front lists more p h = get_or_append_left lists (more ∷ []) [] p h

  pub sent_by-last : (lists : List (List M)) (more : List M) → sent_by (length lists) (lists ++ more ∷ []) ≡ more
  sent_by-last lists more = get_or-append_seam lists more [] []

  pub sent_by-past : (lists : List (List M)) (p : ℕ) → length lists ≤ p → sent_by p lists ≡ []
  sent_by-past [] p h = refl
  sent_by-past (x ∷ xs) zero h = absurd (omega arith)
  sent_by-past (x ∷ xs) (suc p) h = sent_by-past xs p (omega arith)
