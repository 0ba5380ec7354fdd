-- Definitions of windows, written out as TOML.
use Rattle.std.specs.Prelude.{◌≡◌, ◌++◌, ℕ, List, [], ◌∷◌, codes, decimal}
use Rattle.std.specs.List.{flat_map}
use Rattle.stream_base.specs.Limits.{Definitions}
use Rattle.stream_base.specs.declared.def.Def.{Def}
use Rattle.stream_base.specs.declared.kind.Kind.{Kind}
use Rattle.window_defs.specs.Windows.{kind_word, numbers_of, func_word}

-- pieces of text, one behind the other
abbrev pub pieces : List (List ℕ) → List ℕ
pieces texts = flat_map (λ text. text) texts

-- the line of a number, behind its key
abbrev pub number_text : List ℕ × ℕ → List ℕ
number_text (key, number) = pieces (key ∷ codes " = " ∷ decimal number ∷ codes "\n" ∷ [])

-- the lines of a kind
abbrev pub kind_text : Kind → List ℕ
kind_text kind = pieces (codes "kind = \"" ∷ kind_word kind ∷ codes "\"\n" ∷ []) ++ flat_map number_text (numbers_of kind)

-- the lines of a window
abbrev pub window_text : Def → List ℕ
window_text w = codes "\n[[window]]\n" ++ (kind_text w.kind ++ pieces (codes "func = \"" ∷ func_word w.func ∷ codes "\"\n" ∷ []))

-- the lines of the three numbers
abbrev pub numbers_text : ℕ → ℕ → ℕ → List ℕ
numbers_text lateness every disorder =
    pieces (codes "lateness = " ∷ decimal lateness ∷ codes "\nevery = " ∷ decimal every ∷ codes "\ndisorder = " ∷ decimal disorder ∷ codes "\n" ∷ [])

-- definitions as a TOML document
abbrev pub definitions_text : Definitions → List ℕ
definitions_text d = numbers_text d.lateness d.every d.disorder ++ flat_map window_text d.windows

-- definitions have these three numbers
pub record HasNumbers (lateness every disorder : ℕ) (d : Definitions) : Type 0 where
  pub lateness_is : d.lateness ≡ lateness
  pub every_is : d.every ≡ every
  pub disorder_is : d.disorder ≡ disorder
