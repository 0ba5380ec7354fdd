-- What holds of a number holds of what it is converted to.
use Rattle.std.proofs.Common.{◌≡◌, ◌∙◌, ◌<◌, ℕ, Bool, true, List, IfSome, Result, Ok, Err, Option, Some, None, length, get_or, slice_get, nat_eq, ap, subst, sym}
use Rattle.std.specs.Result.{OkIff, result_ok}
use Rattle.std.specs.Cmp.Lexicographic.{pointwise, bytes_decides}
use Rattle.std.proofs.lemmas.Option.{slice_get-get_or}

-- a number that was converted is the number
pub of_converted : {X E : Type 0} (fits : Type 0) (n : X) (r : Result X E) (o : Option X) → o ≡ result_ok r → OkIff r fits n → IfSome o (λ m. m ≡ n)
of_converted fits n (Ok m) o e is = rw e is.1
of_converted fits n (Err x) o e is = rw e tt

-- keys with the same bytes are the same
pub same_bytes : (is : Bool) (one other : List ℕ) → is ≡ pointwise nat_eq one other → is ≡ true → one ≡ other
same_bytes is one other e t = (bytes_decides one other).0 (sym e ∙ t)

-- a key stands at a number to which the place was converted at which it was found
pub key_stands : (keys : List (List ℕ)) (key there : List ℕ) (place : ℕ) (o : Option ℕ) → IfSome o (λ n. n ≡ place) → there ≡ key → there ≡ get_or keys place there → place < length keys → IfSome o (λ n. slice_get keys n ≡ Some key)
key_stands keys key there place None short e found within = tt
key_stands keys key there place (Some n) short e found within =
    let here : get_or keys place there ≡ key = sym found ∙ e in
    subst (λ (m : ℕ). slice_get keys m ≡ Some key) (sym short) (slice_get-get_or keys place there within ∙ ap (λ k. Some k) here)
