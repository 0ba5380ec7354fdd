use Rattle.std.proofs.Common.{◌≡◌, ℕ, true, false, Err, List, length, nat_le, refl}
use Rattle.std.specs.Str.{is_utf8}
use Rattle.window_defs.specs.declared.defs_fault.DefsFault.TheVariants.{Long, Toml}
use Rattle.window_defs.specs.Reading.{reading_of}
use Rattle.source_examples.proofs.refused_definitions.too_many_bytes.Goals as goal

refused_short : (bytes : List ℕ) → length bytes ≡ 1048576 → is_utf8 bytes ≡ false → reading_of bytes ≡ Err Toml
unfolding reading_of
refused_short bytes size no_text =
    let within : nat_le (length bytes) 1048576 ≡ true = rw size refl in
    rw (within, no_text) refl

refused_long : (bytes : List ℕ) → length bytes ≡ 1048577 → reading_of bytes ≡ Err Long
unfolding reading_of
refused_long bytes size =
    let beyond : nat_le (length bytes) 1048576 ≡ false = rw size refl in
    rw beyond refl

pub returns-clause-most : goal.returns-clause-most
returns-clause-most c = refused_short

pub returns-clause-one_more : goal.returns-clause-one_more
returns-clause-one_more c = refused_long
