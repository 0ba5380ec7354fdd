-- The tables of the code beside the members that they stand for.
use Rattle.std.proofs.Common.{◌≡◌, ℕ, Bool, true, false, cond, List, [], ◌∷◌, None, refl, ap}
use Rattle.std.specs.Str.{IsUtf8, is_utf8}
use Rattle.std.proofs.lemmas.Str.{IsUtf8-from_is_utf8}
use Rattle.toml.specs.Parse.{parse_document}
use Rattle.window_defs.specs.Document.{document_of}
use Rattle.toml.specs.Data.{Data}
use Rattle.toml.specs.View.{items_of}
use Rattle.window_defs.specs.Tables.{elements_of}

-- the elements of a list as items are the list
pub elements_of_items : (values : List Data) → elements_of (items_of values) ≡ values
elements_of_items [] = refl
elements_of_items (value ∷ values) = ap (λ rest. value ∷ rest) (elements_of_items values)

unread : (b : Bool) (bytes : List ℕ) → is_utf8 bytes ≡ b → (IsUtf8 bytes → parse_document bytes ≡ None) → cond b (parse_document bytes) None ≡ None
unread true bytes spelt h = h (IsUtf8-from_is_utf8 bytes spelt)
unread false bytes spelt h = refl

-- where no text of the bytes is a document, the bytes are none
pub no_document : (bytes : List ℕ) → (IsUtf8 bytes → parse_document bytes ≡ None) → document_of bytes ≡ None
no_document bytes h = unread (is_utf8 bytes) bytes refl h
