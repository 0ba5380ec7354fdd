-- What a call answers beside the reading of its bytes, and that no reading is want of memory.
use Rattle.std.proofs.Common.{◌≡◌, ℕ, ◌+◌, Bool, true, false, List, [], ◌∷◌, Option, None, Some, Result, Ok, Err, IfOk, IfErr, not, length, codes, nat_le, refl, arith}
use Rattle.std.specs.Option.{ok_or}
use Rattle.toml.specs.Data.{Data, Members}
use Rattle.stream_base.specs.declared.limits.TheConstants.{TIME_MAX, EVERY_MAX, WINDOWS_MAX}
use Rattle.stream_base.specs.Kinds.{is_from_one_to}
use Rattle.window_defs.specs.declared.read.TheConstants.{BYTES_MAX}
use Rattle.window_defs.specs.declared.defs_fault.DefsFault.{DefsFault}
use Rattle.window_defs.specs.declared.defs_fault.DefsFault.TheVariants.{Long, Toml, Shape, Many, Limit, NoMemory}
use Rattle.window_defs.specs.Document.{document_of}
use Rattle.window_defs.specs.Tables.{integer_or_zero, array_at, has_other}
use Rattle.window_defs.specs.Windows.{raw_window_of, def_of}
use Rattle.window_defs.specs.Reading.{◌>>=◌, must, is_top_key, number_up_to, Refuses, Gives, window_at, windows_from, reading_of_top, reading_of}

pub when_read : {X : Type 0} (answer reading : Result X DefsFault) → Gives (λ x. x) answer reading → IfOk answer (λ x. reading ≡ Ok x)
when_read (Ok x) reading h = h
when_read (Err fault) reading h = tt

refused_by : {X : Type 0} (fault : DefsFault) (reading : Result X DefsFault) → Refuses fault reading → ¬ (fault ≡ NoMemory) → reading ≡ Err fault
refused_by Long reading h other = h
refused_by Toml reading h other = h
refused_by (Shape i) reading h other = h
refused_by Many reading h other = h
refused_by (Limit i) reading h other = h
refused_by NoMemory reading h other = absurd (other refl)

pub when_refused : {X : Type 0} (answer reading : Result X DefsFault) → Gives (λ x. x) answer reading → IfErr answer (λ fault. ¬ (fault ≡ NoMemory) → reading ≡ Err fault)
when_refused (Ok x) reading h = tt
when_refused (Err fault) reading h = refused_by fault reading h

-- a reading that isn't want of memory
abbrev pub Sound : {X : Type 0} → Result X DefsFault → Type 0
Sound reading = ¬ (reading ≡ Err NoMemory)

bind_sound : {A B : Type 0} (reading : Result A DefsFault) (f : A → Result B DefsFault) → Sound reading → ((x : A) → Sound (f x)) → Sound (reading >>= f)
bind_sound (Ok x) f here after = after x
bind_sound (Err fault) f here after = λ h. here (grind (arith, h))

must_sound : (b : Bool) (fault : DefsFault) → ¬ (fault ≡ NoMemory) → Sound (must b fault)
must_sound true fault other = λ h. cc h
must_sound false fault other = λ h. other (grind (arith, h))

ok_or_sound : {A : Type 0} (o : Option A) (fault : DefsFault) → ¬ (fault ≡ NoMemory) → Sound (ok_or o fault)
ok_or_sound (Some x) fault other = λ h. cc h
ok_or_sound None fault other = λ h. other (grind (arith, h))

shape_sound : {A : Type 0} (o : Option A) (i : Option ℕ) → Sound (ok_or o (Shape i))
shape_sound o i = ok_or_sound o (Shape i) (λ h. cc h)

limit_sound : {A : Type 0} (o : Option A) (i : Option ℕ) → Sound (ok_or o (Limit i))
limit_sound o i = ok_or_sound o (Limit i) (λ h. cc h)

window_sound : (i : ℕ) (value : Data) → Sound (window_at i value)
window_sound i value = bind_sound (ok_or (raw_window_of value) (Shape (Some i))) _ (shape_sound (raw_window_of value) (Some i)) (λ raw. limit_sound (def_of raw) (Some i))

windows_sound : (i : ℕ) (values : List Data) → Sound (windows_from i values)
windows_sound i [] = λ h. cc h
windows_sound i (value ∷ values) =
    bind_sound (window_at i value) _ (window_sound i value) (λ window. bind_sound (windows_from (i + 1) values) _ (windows_sound (i + 1) values) (λ rest h. cc h))

shape_first : {A B : Type 0} (o : Option A) (f : A → Result B DefsFault) → ((x : A) → Sound (f x)) → Sound (ok_or o (Shape None) >>= f)
shape_first o f after = bind_sound (ok_or o (Shape None)) f (shape_sound o None) after

limit_first : {A B : Type 0} (o : Option A) (f : A → Result B DefsFault) → ((x : A) → Sound (f x)) → Sound (ok_or o (Limit None) >>= f)
limit_first o f after = bind_sound (ok_or o (Limit None)) f (limit_sound o None) after

must_first : {B : Type 0} (b : Bool) (fault : DefsFault) (f : Unit {0} → Result B DefsFault) → ¬ (fault ≡ NoMemory) → ((x : Unit {0}) → Sound (f x)) → Sound (must b fault >>= f)
must_first b fault f other after = bind_sound (must b fault) f (must_sound b fault other) after

top_sound : (top : Members) → Sound (reading_of_top top)
unfolding reading_of_top
top_sound top =
    shape_first (integer_or_zero (codes "lateness") top) _ (λ lateness.
    shape_first (integer_or_zero (codes "every") top) _ (λ every.
    shape_first (integer_or_zero (codes "disorder") top) _ (λ disorder.
    shape_first (array_at (codes "window") top) _ (λ elements.
    must_first (not (has_other is_top_key top)) (Shape None) _ (λ h. cc h) (λ known.
    must_first (is_from_one_to WINDOWS_MAX (length elements)) Many _ (λ h. cc h) (λ few.
    limit_first (number_up_to TIME_MAX lateness) _ (λ lateness_number.
    limit_first (number_up_to EVERY_MAX every) _ (λ every_number.
    limit_first (number_up_to TIME_MAX disorder) _ (λ disorder_number.
    bind_sound (windows_from 0 elements) _ (windows_sound 0 elements) (λ windows h. cc h))))))))))

pub reading_sound : (bytes : List ℕ) → Sound (reading_of bytes)
unfolding reading_of
reading_sound bytes =
    must_first (nat_le (length bytes) BYTES_MAX) Long _ (λ h. cc h) (λ short.
    bind_sound (ok_or (document_of bytes) Toml) _ (ok_or_sound (document_of bytes) Toml (λ h. cc h)) top_sound)
