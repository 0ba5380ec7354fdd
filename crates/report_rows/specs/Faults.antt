-- What a text's fault says.
use Rattle.std.specs.Prelude.{◌≡◌, ◌++◌, ℕ, List}
use Rattle.row_laws.specs.Told.{read_text, refused}
use Rattle.report_rows.specs.declared.text_fault.TextFault.{TextFault}
use Rattle.report_rows.specs.declared.text_fault.TextFault.TheVariants.{Line, NoMemory}

-- the text is refused by this line, whatever stands behind it; or memory ran out
abbrev pub IsRefusedSo : List ℕ → TextFault → Type 0
IsRefusedSo text (Line number) = (more : List ℕ) → read_text (text ++ more) ≡ refused number
IsRefusedSo text NoMemory = Unit {0}

-- the text as it is is refused by this line; or memory ran out
abbrev pub IsRefused : List ℕ → TextFault → Type 0
IsRefused text (Line number) = read_text text ≡ refused number
IsRefused text NoMemory = Unit {0}
