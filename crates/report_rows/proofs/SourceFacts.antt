-- The sources of a journal, one entry more.
use Rattle.std.proofs.Common.{◌≡◌, ◌∙◌, ℕ, Bool, true, false, eqb, List, [], ◌∷◌, ◌++◌, length, ap, ap₂, sym, refl, arith}
use Rattle.std.specs.Prelude.{◌||◌, ◌&&◌, ◌==◌, not}
use Rattle.std.specs.List.{list_any}
use Rattle.std.proofs.lemmas.Bool.{eq-eqb, ne_eqb, eqb-true, false≢true, or_left, or_right}
use Rattle.std.proofs.lemmas.List.Folds.{list_any-append}
use Rattle.stream_base.specs.declared.entry.Entry.{Entry}
use Rattle.stream_base.specs.Model.Watermark.{has_ended}
use Rattle.stream_base.specs.Model.What.{is_end}
use Rattle.row_laws.specs.Told.{has_entry}
use Rattle.report_rows.specs.Closed.{AreSourcesOf, is_closed, with_test}

or_false : (b : Bool) → (b || false) ≡ b
or_false true = refl
or_false false = refl

or_true : (b : Bool) → (b || true) ≡ true
or_true true = refl
or_true false = refl

-- one element more at the end
any_push : {X : Type 0} (p : X → Bool) (xs : List X) (x : X) → list_any p (xs ++ x ∷ []) ≡ (list_any p xs || p x)
any_push p xs x = list_any-append p xs (x ∷ []) ∙ ap (λ b. list_any p xs || b) (or_false (p x))

-- a source is put into a list where it is wanted and isn't there
pub noted : (list new : List ℕ) (source : ℕ) (wanted : Bool) → new ≡ list ++ source ∷ [] → wanted ≡ true → (s : ℕ) → list_any (λ x. x == s) new ≡ (list_any (λ x. x == s) list || with_test wanted source s)
noted list new source wanted is w s =
    ap (list_any (λ x. x == s)) is ∙ any_push (λ x. x == s) list source ∙ ap (λ b. list_any (λ x. x == s) list || (b && (source == s))) (sym w)

there : (list : List ℕ) (source s : ℕ) → list_any (λ x. x == source) list ≡ true → (source == s) ≡ true → list_any (λ x. x == s) list ≡ true
there list source s h e = let same : source ≡ s = eqb-true source s e in ap (λ t. list_any (λ x. x == t) list) (sym same) ∙ h

pub left_as_it_is : (list : List ℕ) (source : ℕ) (wanted : Bool) → (wanted && not (list_any (λ x. x == source) list)) ≡ false → (s : ℕ) → list_any (λ x. x == s) list ≡ (list_any (λ x. x == s) list || with_test wanted source s)
left_as_it_is list source false h s = sym (or_false (list_any (λ x. x == s) list))
left_as_it_is list source true h s = by (source == s) refl
  where
    is_there : (b : Bool) → list_any (λ x. x == source) list ≡ b → not b ≡ false → list_any (λ x. x == source) list ≡ true
    is_there true e g = e
    is_there false e g = absurd (false≢true (sym g))

    by : (b : Bool) → (source == s) ≡ b → list_any (λ x. x == s) list ≡ (list_any (λ x. x == s) list || b)
    by false e = sym (or_false (list_any (λ x. x == s) list))
    by true e = there list source s (is_there (list_any (λ x. x == source) list) refl h) e ∙ sym (or_true (list_any (λ x. x == s) list))

pub no_sources : AreSourcesOf [] [] []
no_sources = record { spoken_are = λ s. refl; ended_are = λ s. refl }

and_turns : (a b : Bool) → (a && b) ≡ (b && a)
and_turns true true = refl
and_turns true false = refl
and_turns false true = refl
and_turns false false = refl

-- an entry more
pub one_more : (journal : List Entry) (spoken ended more done : List ℕ) (e : Entry) (ends : Bool) → ends ≡ is_end e.what → AreSourcesOf journal spoken ended
    → ((s : ℕ) → list_any (λ x. x == s) more ≡ (list_any (λ x. x == s) spoken || with_test true e.source s))
    → ((s : ℕ) → list_any (λ x. x == s) done ≡ (list_any (λ x. x == s) ended || with_test ends e.source s))
    → AreSourcesOf (journal ++ e ∷ []) more done
one_more journal spoken ended more done e ends is h f g = record {
  spoken_are = λ s. f s ∙ ap (λ b. b || (e.source == s)) (h.spoken_are s) ∙ sym (any_push (λ x. x.source == s) journal e);
  ended_are = λ s.
      g s
      ∙ ap₂ (λ b t. b || (t && (e.source == s))) (h.ended_are s) is
      ∙ ap (λ t. has_ended s journal || t) (and_turns (is_end e.what) (e.source == s))
      ∙ sym (any_push (λ x. (x.source == s) && is_end x.what) journal e);
}

-- ---- tests of what was said
pub entry_there : (journal : List Entry) (spoken ended : List ℕ) → AreSourcesOf journal spoken ended → not (length spoken == 0) ≡ has_entry journal
entry_there [] [] ended h = refl
entry_there [] (s ∷ spoken) ended h =
    let e : (eqb s s || list_any (λ x. eqb x s) spoken) ≡ false = h.spoken_are s in
    absurd (false≢true (sym e ∙ or_left (eqb s s) (list_any (λ x. eqb x s) spoken) (eq-eqb s s refl)))
entry_there (e ∷ journal) [] ended h =
    let f : false ≡ (eqb (e.source) (e.source) || list_any (λ (x : Entry). eqb x.source e.source) journal) = h.spoken_are e.source in
    absurd (false≢true (f ∙ or_left (eqb e.source e.source) (list_any (λ (x : Entry). eqb x.source e.source) journal) (eq-eqb e.source e.source refl)))
entry_there (e ∷ journal) (s ∷ spoken) ended h = ap not (ne_eqb (length (s ∷ spoken)) 0 (λ z. omega (arith, z)))

-- a test that a list's element passes
any_in : (p : ℕ → Bool) (xs : List ℕ) (s : ℕ) → list_any (λ x. x == s) xs ≡ true → p s ≡ true → list_any p xs ≡ true
any_in p [] s h g = absurd (false≢true h)
any_in p (x ∷ xs) s h g = by (x == s) refl h (λ i. any_in p xs s i g)
  where
    by : (b : Bool) → (x == s) ≡ b → (b || list_any (λ y. y == s) xs) ≡ true → (list_any (λ y. y == s) xs ≡ true → list_any p xs ≡ true) → (p x || list_any p xs) ≡ true
    by true e i later = or_left (p x) (list_any p xs) (ap p (eqb-true x s e) ∙ g)
    by false e i later = or_right (p x) (list_any p xs) (later i)

any_by : (p : ℕ → Bool) (es : List Entry) (s : ℕ) → list_any (λ (e : Entry). e.source == s) es ≡ true → p s ≡ true → list_any (λ (e : Entry). p e.source) es ≡ true
any_by p [] s h g = absurd (false≢true h)
any_by p (x ∷ es) s h g = by (x.source == s) refl h (λ i. any_by p es s i g)
  where
    by : (b : Bool) → (x.source == s) ≡ b → (b || list_any (λ (e : Entry). e.source == s) es) ≡ true → (list_any (λ (e : Entry). e.source == s) es ≡ true → list_any (λ (e : Entry). p e.source) es ≡ true) → (p x.source || list_any (λ (e : Entry). p e.source) es) ≡ true
    by true e i later = or_left (p x.source) (list_any (λ (y : Entry). p y.source) es) (ap p (eqb-true x.source s e) ∙ g)
    by false e i later = or_right (p x.source) (list_any (λ (y : Entry). p y.source) es) (later i)

to_entries : (p : ℕ → Bool) (xs : List ℕ) (es : List Entry) → ((s : ℕ) → list_any (λ x. x == s) xs ≡ true → list_any (λ (e : Entry). e.source == s) es ≡ true) → list_any p xs ≡ true → list_any (λ (e : Entry). p e.source) es ≡ true
to_entries p [] es same h = absurd (false≢true h)
to_entries p (x ∷ xs) es same h = by (p x) refl h (λ i. to_entries p xs es (λ s g. same s (or_right (eqb x s) (list_any (λ y. eqb y s) xs) g)) i)
  where
    by : (b : Bool) → p x ≡ b → (b || list_any p xs) ≡ true → (list_any p xs ≡ true → list_any (λ (e : Entry). p e.source) es ≡ true) → list_any (λ (e : Entry). p e.source) es ≡ true
    by true e i later = any_by p es x (same x (or_left (eqb x x) (list_any (λ y. eqb y x) xs) (eq-eqb x x refl))) e
    by false e i later = later i

to_sources : (p : ℕ → Bool) (xs : List ℕ) (es : List Entry) → ((s : ℕ) → list_any (λ (e : Entry). e.source == s) es ≡ true → list_any (λ x. x == s) xs ≡ true) → list_any (λ (e : Entry). p e.source) es ≡ true → list_any p xs ≡ true
to_sources p xs [] same h = absurd (false≢true h)
to_sources p xs (x ∷ es) same h = by (p x.source) refl h (λ i. to_sources p xs es (λ s g. same s (or_right (eqb x.source s) (list_any (λ (y : Entry). eqb y.source s) es) g)) i)
  where
    by : (b : Bool) → p x.source ≡ b → (b || list_any (λ (e : Entry). p e.source) es) ≡ true → (list_any (λ (e : Entry). p e.source) es ≡ true → list_any p xs ≡ true) → list_any p xs ≡ true
    by true e i later = any_in p xs x.source (same x.source (or_left (eqb x.source x.source) (list_any (λ (y : Entry). eqb y.source x.source) es) (eq-eqb x.source x.source refl))) e
    by false e i later = later i

alike : (a b : Bool) → (a ≡ true → b ≡ true) → (b ≡ true → a ≡ true) → a ≡ b
alike true b f g = sym (f refl)
alike false false f g = refl
alike false true f g = g refl

same_any : (p q : ℕ → Bool) → ((s : ℕ) → p s ≡ q s) → (xs : List ℕ) → list_any p xs ≡ list_any q xs
same_any p q h [] = refl
same_any p q h (x ∷ xs) = ap₂ (λ a b. a || b) (h x) (same_any p q h xs)

pub closed_by : (journal : List Entry) (spoken ended : List ℕ) → AreSourcesOf journal spoken ended → not (list_any (λ s. not (list_any (λ x. x == s) ended)) spoken) ≡ is_closed journal
closed_by journal spoken ended h =
    ap not
    (same_any (λ s. not (list_any (λ x. x == s) ended)) (λ s. not (has_ended s journal)) (λ s. ap not (h.ended_are s)) spoken
    ∙ alike (list_any (λ s. not (has_ended s journal)) spoken) (list_any (λ (e : Entry). not (has_ended e.source journal)) journal)
    (to_entries (λ s. not (has_ended s journal)) spoken journal (λ s g. sym (h.spoken_are s) ∙ g))
    (to_sources (λ s. not (has_ended s journal)) spoken journal (λ s g. h.spoken_are s ∙ g)))
