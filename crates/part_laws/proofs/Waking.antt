-- Where a source's watermarks are written out, none is made anew, and none wakes it.
use Rattle.std.proofs.Common.{◌≡◌, ◌∙◌, ℕ, Bool, true, false, cond, List, [], ◌∷◌, ◌++◌, fold, filter, ap, sym, refl}
use Rattle.std.specs.Prelude.{◌&&◌, not}
use Rattle.std.proofs.lemmas.Bool.{false≢true}
use Rattle.std.proofs.lemmas.List.Sums.{fold-append}
use Rattle.stream_base.specs.declared.what.What.{What}
use Rattle.stream_base.specs.declared.what.What.TheVariants.{Tuple, Mark, Water, Idle, End}
use Rattle.stream_base.specs.Model.What.{is_idle_word, is_progress}
use Rattle.source_feed.specs.Events.{is_made, is_tuple, made_after, tells_idle, told_of, told_water, tuple_count, waking_before, with_watermarks}
use Rattle.part_laws.specs.Parts.{is_woken}

-- whether a source that was idle or not is idle behind these
abbrev idle_after : Bool → List What → Bool
idle_after idle told = fold (λ was what. cond (is_progress what) (is_idle_word what) was) idle told

idle_more : (told more : List What) → tells_idle (told ++ more) ≡ idle_after (tells_idle told) more
idle_more told more = fold-append (λ was what. cond (is_progress what) (is_idle_word what) was) false told more

woken_append : (idle : Bool) (xs ys : List What) → is_woken idle xs ≡ true → is_woken (idle_after idle xs) ys ≡ true → is_woken idle (xs ++ ys) ≡ true
unfolding is_woken
woken_append idle [] ys h g = g
woken_append idle (x ∷ xs) ys h g = by (is_progress x) h g (λ i. woken_append i xs ys)
  where
    by : (b : Bool) → cond b (is_woken (is_idle_word x) xs) (not idle && is_woken idle xs) ≡ true → is_woken (idle_after (cond b (is_idle_word x) idle) xs) ys ≡ true
        → ((i : Bool) → is_woken i xs ≡ true → is_woken (idle_after i xs) ys ≡ true → is_woken i (xs ++ ys) ≡ true)
        → cond b (is_woken (is_idle_word x) (xs ++ ys)) (not idle && is_woken idle (xs ++ ys)) ≡ true
    by true p q later = later (is_idle_word x) p q
    by false p q later = awake idle p q (later idle)
      where
        awake : (i : Bool) → (not i && is_woken i xs) ≡ true → is_woken (idle_after i xs) ys ≡ true → (is_woken i xs ≡ true → is_woken (idle_after i xs) ys ≡ true → is_woken i (xs ++ ys) ≡ true) → (not i && is_woken i (xs ++ ys)) ≡ true
        awake true r s more = absurd (false≢true r)
        awake false r s more = more r s

-- a watermark that may be made behind an event
made_woken : (made idle : Bool) (time : ℕ) → is_woken idle (cond made (Water time ∷ []) []) ≡ true
unfolding is_woken
made_woken true idle time = refl
made_woken false idle time = refl

one_woken : (idle made : Bool) (water time : ℕ) (what : What) → is_woken idle (cond (idle && not (is_progress what)) (Water water ∷ []) [] ++ what ∷ cond made (Water time ∷ []) []) ≡ true
unfolding is_woken
one_woken true made water time (Tuple key t v) = made_woken made false time
one_woken false made water time (Tuple key t v) = made_woken made false time
one_woken true made water time (Mark key t) = made_woken made false time
one_woken false made water time (Mark key t) = made_woken made false time
one_woken true made water time (Water t) = made_woken made false time
one_woken false made water time (Water t) = made_woken made false time
one_woken true made water time Idle = made_woken made true time
one_woken false made water time Idle = made_woken made true time
one_woken true made water time End = made_woken made false time
one_woken false made water time End = made_woken made false time

told_woken : (every disorder : ℕ) (told : List What) (what : What) → is_woken (tells_idle told) (told_of every disorder told what) ≡ true
told_woken every disorder told what =
    let waking : List What = waking_before told what in
    one_woken (tells_idle told) (is_tuple what && is_made every (tuple_count ((told ++ waking) ++ what ∷ []))) (told_water told) _ what

-- what a source tells wakes it before each tuple or mark
pub all_woken : (every disorder : ℕ) (told events : List What) → is_woken (tells_idle told) (with_watermarks every disorder told events) ≡ true
unfolding with_watermarks is_woken
all_woken every disorder told [] = refl
all_woken every disorder told (what ∷ later) =
    let more : List What = told_of every disorder told what in
    woken_append (tells_idle told) more (with_watermarks every disorder (told ++ more) later) (told_woken every disorder told what)
    (ap (λ i. is_woken i (with_watermarks every disorder (told ++ more) later)) (sym (idle_more told more)) ∙ all_woken every disorder (told ++ more) later)

-- so do those of it that a test lets pass, if it lets pass all words on progress
pub filter_woken : (p : What → Bool) → ((what : What) → is_progress what ≡ true → p what ≡ true) → (idle : Bool) (xs : List What) → is_woken idle xs ≡ true → is_woken idle (filter p xs) ≡ true
unfolding is_woken
filter_woken p passes idle [] h = refl
filter_woken p passes idle (x ∷ xs) h = by (is_progress x) refl (p x) refl h (λ i. filter_woken p passes i xs)
  where
    awake : (i : Bool) → (not i && is_woken i xs) ≡ true → ((j : Bool) → is_woken j xs ≡ true → is_woken j (filter p xs) ≡ true) → (c : Bool) → is_progress x ≡ false → is_woken i (cond c (x ∷ filter p xs) (filter p xs)) ≡ true
    awake true r later c e = absurd (false≢true r)
    awake false r later true e = ap (λ b. cond b (is_woken (is_idle_word x) (filter p xs)) (is_woken false (filter p xs))) e ∙ later false r
    awake false r later false e = later false r

    by : (b : Bool) → is_progress x ≡ b → (c : Bool) → p x ≡ c → cond b (is_woken (is_idle_word x) xs) (not idle && is_woken idle xs) ≡ true → ((j : Bool) → is_woken j xs ≡ true → is_woken j (filter p xs) ≡ true)
        → is_woken idle (cond c (x ∷ filter p xs) (filter p xs)) ≡ true
    by true e true f r later = ap (λ b. cond b (is_woken (is_idle_word x) (filter p xs)) (not idle && is_woken idle (filter p xs))) e ∙ later (is_idle_word x) r
    by true e false f r later = absurd (false≢true (sym f ∙ passes x e))
    by false e c f r later = awake idle r later c e

-- ---- what is told where none is to be made
none_made : (disorder : ℕ) (told : List What) (what : What) → made_after 0 disorder told what ≡ []
none_made disorder told (Tuple key t v) = refl
none_made disorder told (Mark key t) = refl
none_made disorder told (Water t) = refl
none_made disorder told Idle = refl
none_made disorder told End = refl

told_alone : (disorder : ℕ) (told : List What) (what : What) → waking_before told what ≡ [] → told_of 0 disorder told what ≡ what ∷ []
told_alone disorder told what none =
    ap (λ waking. waking ++ what ∷ made_after 0 disorder (told ++ waking) what) none ∙ ap (λ made. what ∷ made) (none_made disorder (told ++ []) what)

pub nothing_added : (disorder : ℕ) (told events : List What) → is_woken (tells_idle told) events ≡ true → with_watermarks 0 disorder told events ≡ events
unfolding with_watermarks is_woken
nothing_added disorder told [] h = refl
nothing_added disorder told (what ∷ later) h =
    ap (λ more. more ++ with_watermarks 0 disorder (told ++ more) later) (told_alone disorder told what (none (tells_idle told) (is_progress what) refl h))
    ∙ ap (λ rest. what ∷ rest) (nothing_added disorder (told ++ what ∷ []) later (ap (λ i. is_woken i later) (idle_more told (what ∷ [])) ∙ next (tells_idle told) (is_progress what) h))
  where
    none : (idle b : Bool) → is_progress what ≡ b → cond b (is_woken (is_idle_word what) later) (not idle && is_woken idle later) ≡ true → cond (idle && not (is_progress what)) (Water (told_water told) ∷ []) [] ≡ []
    none true true e r = ap (λ c. cond (not c) (Water (told_water told) ∷ []) []) e
    none true false e r = absurd (false≢true r)
    none false b e r = refl

    next : (idle b : Bool) → cond b (is_woken (is_idle_word what) later) (not idle && is_woken idle later) ≡ true → is_woken (cond b (is_idle_word what) idle) later ≡ true
    next idle true r = r
    next true false r = absurd (false≢true r)
    next false false r = r
