-- The windows are refused for the first element in trouble.
use Rattle.std.proofs.Common.{◌≡◌, ◌<◌, ℕ, zero, suc, ◌+◌, ◌↔◌, List, [], ◌∷◌, Some, Result, Ok, Err, IsOk, slice_get, refl, ap, subst, arith}
use Rattle.stream_base.specs.declared.def.Def.{Def}
use Rattle.toml.specs.Data.{Data}
use Rattle.window_defs.specs.declared.defs_fault.DefsFault.{DefsFault}
use Rattle.window_defs.specs.Reading.{◌>>=◌, window_at, windows_from}
use Rattle.window_defs.specs.Trouble.{IsOfFirstInTrouble}

-- the same for elements that stand from an index on
abbrev SoundFrom : ℕ → ℕ → List Data → Type 0
SoundFrom from i elements = (k : ℕ) (value : Data) → k < i → slice_get elements k ≡ Some value → IsOk (window_at (from + k) value)

abbrev FirstFrom : ℕ → List Data → DefsFault → Type 0
FirstFrom from elements fault =
    (i : ℕ) × (value : Data) × (slice_get elements i ≡ Some value) × (window_at (from + i) value ≡ Err fault) × SoundFrom from i elements

same_value : (a b : Data) → Some a ≡ Some b → a ≡ b
same_value a b h = grind (arith, h)

-- the first element is sound, and so are those behind it up to an index
sound_behind : (from i : ℕ) (value : Data) (values : List Data) → IsOk (window_at from value) → SoundFrom (from + 1) i values → SoundFrom from (suc i) (value ∷ values)
sound_behind from i value values here behind zero v lt at =
    let same : value ≡ v = same_value value v at in
    let place : from ≡ from + 0 = omega arith in
    let P : ℕ → Type 0 = λ n. IsOk (window_at n v) in
    let Q : Data → Type 0 = λ d. IsOk (window_at from d) in
    subst P place (subst Q same here)
sound_behind from i value values here behind (suc k) v lt at =
    let place : from + 1 + k ≡ from + suc k = omega arith in
    let P : ℕ → Type 0 = λ n. IsOk (window_at n v) in
    subst P place (behind k v (omega arith) at)

first_behind : (from : ℕ) (value : Data) (values : List Data) (fault : DefsFault) → IsOk (window_at from value) → FirstFrom (from + 1) values fault → FirstFrom from (value ∷ values) fault
first_behind from value values fault here (i, v, at, refused, before) =
    let place : from + 1 + i ≡ from + suc i = omega arith in
    let P : ℕ → Type 0 = λ n. window_at n v ≡ Err fault in
    (suc i, v, at, subst P place refused, sound_behind from i value values here before)

-- the first of two steps refuses, or it is sound and the second refuses
step : {A B : Type 0} (read : Result A DefsFault) (f : A → Result B DefsFault) (fault : DefsFault) (P : Type 0) → (read >>= f) ≡ Err fault → (read ≡ Err fault → P) → ((x : A) → read ≡ Ok x → f x ≡ Err fault → P) → P
step (Ok x) f fault P h first second = second x refl h
step (Err e) f fault P h first second = first (ap Err (let same : e ≡ fault = grind (arith, h) in same))

ok_is : {A : Type 0} (read : Result A DefsFault) (x : A) → read ≡ Ok x → IsOk read
ok_is read x h = rw h refl

named : (from : ℕ) (elements : List Data) (fault : DefsFault) → windows_from from elements ≡ Err fault → FirstFrom from elements fault
named from [] fault h = absurd (cc h)
named from (value ∷ values) fault h =
    step (window_at from value) (λ window. windows_from (from + 1) values >>= λ rest. Ok (window ∷ rest)) fault (FirstFrom from (value ∷ values) fault) h
    (λ refused.
    let place : from ≡ from + 0 = omega arith in
    let P : ℕ → Type 0 = λ n. window_at n value ≡ Err fault in
    (0, value, refl, subst P place refused, λ k v lt at. absurd (omega arith)))
    (λ window sound more.
    step (windows_from (from + 1) values) (λ (rest : List Def). Ok (window ∷ rest)) fault (FirstFrom from (value ∷ values) fault) more
    (λ refused. first_behind from value values fault (ok_is (window_at from value) window sound) (named (from + 1) values fault refused))
    (λ rest read done. absurd (cc done)))

-- where the first step is sound, what the second refuses is refused
past : {A B : Type 0} (read : Result A DefsFault) (f : A → Result B DefsFault) (fault : DefsFault) → IsOk read → ((x : A) → f x ≡ Err fault) → (read >>= f) ≡ Err fault
past (Ok x) f fault sound h = h x
past (Err e) f fault sound h = absurd (cc sound)

refused : (from i : ℕ) (elements : List Data) (value : Data) (fault : DefsFault) → slice_get elements i ≡ Some value → window_at (from + i) value ≡ Err fault → SoundFrom from i elements → windows_from from elements ≡ Err fault
refused from i [] value fault at h before = absurd (cc at)
refused from zero (v ∷ vs) value fault at h before =
    let same : v ≡ value = same_value v value at in
    let place : from + 0 ≡ from = omega arith in
    let P : ℕ → Type 0 = λ n. window_at n value ≡ Err fault in
    let here : window_at from v ≡ Err fault = rw same (subst P place h) in
    rw here refl
refused from (suc i) (v ∷ vs) value fault at h before =
    let place : from + suc i ≡ from + 1 + i = omega arith in
    let P : ℕ → Type 0 = λ n. window_at n value ≡ Err fault in
    let first : from + 0 ≡ from = omega arith in
    let S : ℕ → Type 0 = λ n. IsOk (window_at n v) in
    let behind : SoundFrom (from + 1) i vs = λ k w lt there. (let there_is : from + suc k ≡ from + 1 + k = omega arith in let Q : ℕ → Type 0 = λ n. IsOk (window_at n w) in subst Q there_is (before (suc k) w (omega arith) there)) in
    let rest : windows_from (from + 1) vs ≡ Err fault = refused (from + 1) i vs value fault at (subst P place h) behind in
    past (window_at from v) (λ window. windows_from (from + 1) vs >>= λ others. Ok (window ∷ others)) fault (subst S first (before 0 v (omega arith) refl)) (λ window. rw rest refl)

-- told from the first element on
pub first_in_trouble : (elements : List Data) (fault : DefsFault) → (windows_from 0 elements ≡ Err fault) ↔ IsOfFirstInTrouble elements fault
first_in_trouble elements fault = (
  λ h. let (i, value, at, failed, before) = named 0 elements fault h in
      let place : 0 + i ≡ i = omega arith in
      let P : ℕ → Type 0 = λ n. window_at n value ≡ Err fault in
      (i, value, at, subst P place failed, λ k v lt there. (let here : 0 + k ≡ k = omega arith in let Q : ℕ → Type 0 = λ n. IsOk (window_at n v) in subst Q here (before k v lt there))),
  λ (i, value, at, failed, before).
      let place : i ≡ 0 + i = omega arith in
      let P : ℕ → Type 0 = λ n. window_at n value ≡ Err fault in
      refused 0 i elements value fault at (subst P place failed) (λ k v lt there. (let here : k ≡ 0 + k = omega arith in let Q : ℕ → Type 0 = λ n. IsOk (window_at n v) in subst Q here (before k v lt there))),
)
