-- What holds for the keys of a list of pairs, and for those of one with a pair more.
use Rattle.std.proofs.Common.{◌≡◌, ◌==◌, ◌||◌, ℕ, Bool, true, false, cond, List, [], ◌∷◌, refl, sym, ◌∙◌, arith, inl, inr, subst}
use Rattle.std.specs.Prelude.{filter, nat_lt, nat_le}
use Rattle.std.proofs.lemmas.Bool.{cases_eq}
use Rattle.std.proofs.lemmas.List.Folds.{list_any-append}
use Rattle.agg_laws.specs.Pairs.{has_key, inserted, pairs_below, pairs_from}

-- each key of these pairs is so
abbrev pub KeysAre : {M : Type 0} → (ℕ → Type 0) → List (ℕ × M) → Type 0
KeysAre IsSo pairs = (key : ℕ) → has_key key pairs ≡ true → IsSo key

or_map : (a b c : Bool) → (b ≡ true → c ≡ true) → (a || b) ≡ true → (a || c) ≡ true
or_map true b c f h = refl
or_map false b c f h = f h

or_right : (a c : Bool) → c ≡ true → (a || c) ≡ true
or_right true c h = refl
or_right false c h = h

or_left : (a b c : Bool) → (a ≡ true → c ≡ true) → (a || b) ≡ true → (b ≡ true → c ≡ true) → c ≡ true
or_left true b c f h g = f refl
or_left false b c f h g = g h

module _ {M : Type 0} where
  kept_first : (b : Bool) (key : ℕ) (p : ℕ × M) (some ps : List (ℕ × M)) → (has_key key some ≡ true → has_key key ps ≡ true) → has_key key (cond b (p ∷ some) some) ≡ true → has_key key (p ∷ ps) ≡ true
  kept_first true key p some ps f h = or_map (p.0 == key) (has_key key some) (has_key key ps) f h
  kept_first false key p some ps f h = or_right (p.0 == key) (has_key key ps) (f h)

  kept_key : (test : ℕ × M → Bool) (key : ℕ) (ps : List (ℕ × M)) → has_key key (filter test ps) ≡ true → has_key key ps ≡ true
  kept_key test key [] h = h
  kept_key test key (p ∷ ps) h = kept_first (test p) key p (filter test ps) ps (kept_key test key ps) h

  pub none_yet : (IsSo : ℕ → Type 0) (key : ℕ) (ps : List (ℕ × M)) → KeysAre IsSo ps → (IsSo key → ⊥) → has_key key ps ≡ false
  none_yet IsSo key ps are isnt = elim (has_key key ps) as (λ b. has_key key ps ≡ b → has_key key ps ≡ false) [ true ↦ λ h. absurd (isnt (are key h)) | false ↦ λ h. h ] refl

  pub one_more : (IsSo : ℕ → Type 0) (key : ℕ) (value : M) (ps : List (ℕ × M)) → KeysAre IsSo ps → IsSo key → KeysAre IsSo (inserted key value ps)
  one_more IsSo key value ps are so k h =
      elim (cases_eq key k) [
        | inl same ↦ subst IsSo same so
        | inr other ↦
            let split = sym (list_any-append (λ p. p.0 == k) (pairs_below key ps) ((key, value) ∷ pairs_from key ps)) ∙ h in
            let had : has_key k ps ≡ true = or_left (has_key k (pairs_below key ps)) (has_key k ((key, value) ∷ pairs_from key ps)) (has_key k ps) (λ b. kept_key (λ p. nat_lt p.0 key) k ps b) split (λ b. or_left (key == k) (has_key k (pairs_from key ps)) (has_key k ps) (λ q. absurd (other (grind arith))) b (λ c. kept_key (λ p. nat_le key p.0) k ps c)) in
            are k had
      ]
