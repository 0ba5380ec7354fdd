-- What some documents read as, computed.
use Rattle.std.proofs.Common.{◌≡◌, None, Some, Ok, Err, codes, refl, [], ◌∷◌}
use Rattle.std.specs.Str.{is_utf8, chars}
use Rattle.toml.proofs.OnLiterals.{toml_on_literals}
use Rattle.stream_base.specs.declared.kind.Kind.TheVariants.{Sliding, Marks}
use Rattle.stream_base.specs.declared.func.Func.TheVariants.{Count, Last}
use Rattle.stream_base.specs.Limits.{definitions_of}
use Rattle.window_defs.specs.declared.defs_fault.DefsFault.TheVariants.{Toml, Shape, Many, Limit}
use Rattle.window_defs.specs.Windows.{raw_window_of}
use Rattle.window_defs.specs.Reading.{reading_of_top, reading_of}

an_empty_document : reading_of [] ≡ Err (Shape None)
unfolding toml_on_literals is_utf8 chars raw_window_of reading_of_top reading_of
an_empty_document = refl

no_value : reading_of (codes "lateness =") ≡ Err Toml
unfolding toml_on_literals is_utf8 chars raw_window_of reading_of_top reading_of
no_value = refl

no_windows : reading_of (codes "lateness = -1\nwindow = []") ≡ Err Many
unfolding toml_on_literals is_utf8 chars raw_window_of reading_of_top reading_of
no_windows = refl

a_limit_before_a_later_shape : reading_of (codes "window = [{kind = 'session', gap = 0, func = 'sum'}, 1]") ≡ Err (Limit (Some 0))
unfolding toml_on_literals is_utf8 chars raw_window_of reading_of_top reading_of
a_limit_before_a_later_shape = refl

two_windows :
    reading_of (codes "lateness = 5\n[[window]]\nkind = \"sliding\"\nlength = 4\nslide = 2\nfunc = \"count\"\n[[window]]\nkind = \"marks\"\nfunc = \"last\"\n")
    ≡ Ok (definitions_of (record { kind = Sliding 4 2; func = Count } ∷ record { kind = Marks; func = Last } ∷ []) 5 0 0)
unfolding toml_on_literals is_utf8 chars raw_window_of reading_of_top reading_of
two_windows = refl
