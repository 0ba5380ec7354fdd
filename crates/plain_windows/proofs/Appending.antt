-- What loops append.
use Rattle.std.proofs.Common.{◌≡◌, ◌∙◌, ◌+◌, ◌<◌, ◌++◌, ℕ, List, [], ◌∷◌, length, get_or, drop, map, ap, append_assoc, append-nil, arith, Option, None, Some}
use Rattle.std.proofs.lemmas.List.{drop_more}
use Rattle.std.proofs.Math.ListN.{length-append}
use Rattle.std.specs.List.{cons_option, enumerate_from, filter_map, flat_map}
use Rattle.std.specs.Option.{option_to_list}
use Rattle.stream_base.specs.declared.change.Change.{Change}
use Rattle.stream_base.specs.declared.change.Change.TheVariants.{New}
use Rattle.stream_base.specs.declared.func.Func.{Func}
use Rattle.stream_base.specs.Model.Changes.{row_of}
use Rattle.stream_base.specs.Model.Windows.{Instance}

-- the emissions of instances as new
abbrev pub emitted : ℕ → List ℕ → Func → List Instance → List Change
emitted window key func is = map (λ i. New (row_of window key func i)) is

-- an element appended, and those that are left
pub append_one : {X : Type 0} (before : List X) (x : X) (rest : List X) → (before ++ x ∷ []) ++ rest ≡ before ++ (x ∷ rest)
append_one before x rest = append_assoc before (x ∷ []) rest

-- what is left of a numbered list, one element on
pub numbered_more : {X : Type 0} (xs : List X) (i : ℕ) (d : X) → i < length xs → enumerate_from i (drop i xs) ≡ (i, get_or xs i d) ∷ enumerate_from (i + 1) (drop (i + 1) xs)
numbered_more xs i d h = ap (enumerate_from i) (drop_more xs i d h)

-- a count of what an element gives, and of those that are left
pub count_more : {X Y : Type 0} (f : ℕ × X → List Y) (count n i : ℕ) (xs : List X) (d : X) → i < length xs → n ≡ length (f (i, get_or xs i d))
    → count + n + length (flat_map f (enumerate_from (i + 1) (drop (i + 1) xs))) ≡ count + length (flat_map f (enumerate_from i (drop i xs)))
count_more f count n i xs d h e =
    let more : flat_map f (enumerate_from i (drop i xs)) ≡ f (i, get_or xs i d) ++ flat_map f (enumerate_from (i + 1) (drop (i + 1) xs)) = ap (flat_map f) (numbered_more xs i d h) in
    let long : length (flat_map f (enumerate_from i (drop i xs))) ≡ length (f (i, get_or xs i d)) + length (flat_map f (enumerate_from (i + 1) (drop (i + 1) xs))) = ap length more ∙ length-append (f (i, get_or xs i d)) (flat_map f (enumerate_from (i + 1) (drop (i + 1) xs))) in
    omega arith

-- two lists appended are as long as both
pub both_lengths : {X : Type 0} (xs ys : List X) (m n : ℕ) → m ≡ length xs → n ≡ length ys → m + n ≡ length (xs ++ ys)
both_lengths xs ys m n e f = let all : length (xs ++ ys) ≡ length xs + length ys = length-append xs ys in omega arith

-- what an element gives, if anything, in front of the rest
pub append_option : {X : Type 0} (before : List X) (o : Option X) (rest : List X) → (before ++ option_to_list o) ++ rest ≡ before ++ cons_option o rest
append_option before None rest = ap (λ l. l ++ rest) (append-nil before)
append_option before (Some x) rest = append_assoc before (x ∷ []) rest

pub option_lengths : {X : Type 0} (o : Option X) (rest : List X) → length (cons_option o rest) ≡ length (option_to_list o) + length rest
option_lengths None rest = omega arith
option_lengths (Some x) rest = omega arith

-- a count of what an element gives, if anything, and of those behind it
pub count_one : {X Y : Type 0} (f : X → Option Y) (count n : ℕ) (x : X) (rest left : List X) → left ≡ x ∷ rest → n ≡ length (option_to_list (f x)) → count + n + length (filter_map f rest) ≡ count + length (filter_map f left)
count_one f count n x rest left e is =
    let all : length (filter_map f left) ≡ length (option_to_list (f x)) + length (filter_map f rest) = ap (λ l. length (filter_map f l)) e ∙ option_lengths (f x) (filter_map f rest) in
    omega arith

-- where none is left, the count is whole
pub count_done : {X Y : Type 0} (f : X → Option Y) (count : ℕ) (left : List X) → left ≡ [] → count ≡ count + length (filter_map f left)
count_done f count left e = let none : length (filter_map f left) ≡ 0 = ap (λ l. length (filter_map f l)) e in omega arith
