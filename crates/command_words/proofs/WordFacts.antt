-- What the tests of the words say of a list of words.
use Rattle.std.proofs.Common.{◌≡◌, ℕ, ◌-◌, ◌^◌, ◌<◌, ◌≤◌, ◌↔◌, Bool, true, false, List, [], ◌∷◌, length, map, take, drop, get_or, refl, ap, ◌∙◌, arith, rules, decimal, codes, All, IsTrue, Ok, Err, Result, inl, inr}
use Rattle.std.specs.Bool.{MatchBool}
use Rattle.std.specs.List.{AllWithin, HoldsAt}
use Rattle.std.specs.Str.Parse.{ParsesUnsigned}
use Rattle.std.proofs.Math.ListN.{get_or-map}
use Rattle.std.proofs.lemmas.List.{length-map, length-drop, take_all}
use Rattle.std.proofs.lemmas.List.Elements.{All-map}
use Rattle.std.proofs.lemmas.Fmt.{parse-decimal, decimal_injective}
use Rattle.report_lines.specs.declared.report_form.ReportForm.{ReportForm}
use Rattle.report_lines.specs.declared.report_form.ReportForm.TheVariants.{One, Two}
use Rattle.command_words.specs.declared.way.Way.{Way}
use Rattle.command_words.specs.declared.way.Way.TheVariants.{Turns, Mail}
use Rattle.std.specs.Prelude.{◌⊎◌}
use Rattle.command_words.specs.Words.{Check, Made, Run, Watch, IsCheck, IsCheckOf, IsMade, IsMadeOf, IsName, IsNumberWithin, IsRun, IsRunOf, IsWatch, IsWatchOf, run_word, way_word}

-- a number that is written within the bounds is what `parse` returns
pub reads_within : {E : Type 0} (least most : ℕ) (word : List ℕ) (r : Result ℕ E) → most < 2 ^ 64 → ParsesUnsigned 64 10 word r → IsNumberWithin least most word → (n : ℕ) × (r ≡ Ok n) × (least ≤ n) × (n ≤ most) × (word ≡ decimal n)
reads_within least most word r fits p w =
    let high : w.number ≤ most = w.at_most in
    (w.number, parse-decimal 64 w.number word r (omega arith) (omega arith) w.spelled p, w.at_least, w.at_most, w.spelled)

-- a number that `parse` returned, and that isn't written within the bounds
pub not_within : {E : Type 0} (least most : ℕ) (word : List ℕ) (r : Result ℕ E) (number : ℕ) → most < 2 ^ 64 → ParsesUnsigned 64 10 word r → r ≡ Ok number → (word ≡ decimal number → least ≤ number → number ≤ most → ⊥) → IsNumberWithin least most word → ⊥
not_within {E = E} least most word r number fits p is none w =
    let (n, read, low, high, spelled) = reads_within least most word r fits p w in
    let same : n ≡ number = ok_inj r n number read is in
    none (spelled ∙ ap decimal same) (omega (arith, low, same)) (omega (arith, high, same))
  where
    ok_inj : (x : Result ℕ E) (a b : ℕ) → x ≡ Ok a → x ≡ Ok b → a ≡ b
    ok_inj x a b h k = cc

-- where `parse` returned no number, none is written within the bounds
pub never_within : {E : Type 0} (least most : ℕ) (word : List ℕ) (r : Result ℕ E) (e : E) → most < 2 ^ 64 → ParsesUnsigned 64 10 word r → r ≡ Err e → IsNumberWithin least most word → ⊥
never_within {E = E} least most word r e fits p is w = no r (reads_within least most word r fits p w).0 (reads_within least most word r fits p w).1 is
  where
    no : (x : Result ℕ E) (n : ℕ) → x ≡ Ok n → x ≡ Err e → ⊥
    no x n h k = cc

All-unmap : {X Y : Type 0} (P : Y → Type 0) (f : X → Y) (xs : List X) → All P (map f xs) → All (λ x. P (f x)) xs
All-unmap P f xs a k d l =
    let m : k < length (map f xs) = omega (arith, length-map xs f) in
    rw (get_or-map f xs k d) at (a k (f d) m)

-- what a test of each word says of their texts
pub names_told : {X : Type 0} (f : X → List ℕ) (xs : List X) (r : Bool) → MatchBool r (AllWithin (λ x. IsName (f x)) xs 0 (length xs)) ((k : ℕ) × (k < length xs) × HoldsAt (λ x. length (f x) ≡ 0) xs k) → IsTrue r ↔ All IsName (map f xs)
names_told f xs true h = (λ t. All-map IsName f xs (λ k d l. h k d (omega arith) l), λ a. refl)
names_told f [] false h = (λ t. search rules, λ a. absurd (omega (arith, h.1)))
names_told f (x ∷ xs) false h =
    (λ t. search rules, λ a. let y : 0 < length (f (get_or (x ∷ xs) h.0 x)) = All-unmap IsName f (x ∷ xs) a h.0 x h.1 in let n : length (f (get_or (x ∷ xs) h.0 x)) ≡ 0 = h.2 x in absurd (omega arith))

-- the texts of six items
pub six : {X : Type 0} (f : X → List ℕ) (xs : List X) (a b c d e g : X) → length xs ≡ 6 → a ≡ get_or xs 0 a → b ≡ get_or xs 1 b → c ≡ get_or xs 2 c → d ≡ get_or xs 3 d → e ≡ get_or xs 4 e → g ≡ get_or xs 5 g → map f xs ≡ f a ∷ f b ∷ f c ∷ f d ∷ f e ∷ f g ∷ []
six f (u ∷ v ∷ w ∷ x ∷ y ∷ z ∷ []) a b c d e g l p q r s t o = cc
six f xs a b c d e g l p q r s t o = absurd (omega arith)

-- the texts of four items and of those behind them
pub four_up : {X : Type 0} (f : X → List ℕ) (xs : List X) (a b c d : X) → 4 ≤ length xs → a ≡ get_or xs 0 a → b ≡ get_or xs 1 b → c ≡ get_or xs 2 c → d ≡ get_or xs 3 d → map f xs ≡ f a ∷ f b ∷ f c ∷ f d ∷ map f (drop 4 xs)
four_up f (u ∷ v ∷ w ∷ x ∷ xs) a b c d l p q r s = cc
four_up f xs a b c d l p q r s = absurd (omega arith)

-- what is taken behind the first n items is all of the rest
pub take-all_of : {X : Type 0} (n : ℕ) (xs : List X) → take (length xs - n) (drop n xs) ≡ drop n xs
take-all_of n xs = let e : length (drop n xs) ≡ length xs - n = length-drop n xs in take_all (length xs - n) (drop n xs) (omega arith)

-- the first words of the two forms differ
form_told : (form other : ReportForm) → run_word form ≡ run_word other → form ≡ other
form_told One One h = refl
form_told One Two h = cc
form_told Two One h = cc
form_told Two Two h = refl

-- and so do the words of the two ways
way_told : (way other : Way) → way_word way ≡ way_word other → way ≡ other
way_told Turns Turns h = refl
way_told Turns Mail h = cc
way_told Mail Turns h = cc
way_told Mail Mail h = refl

-- words are those of one run at most
pub one_run : (words : List (List ℕ)) (run other : Run) → IsRunOf words run → IsRunOf words other → run ≡ other
one_run words run other first second =
    let one = first.spelled in
    let two = second.spelled in
    let form : run.form ≡ other.form = form_told run.form other.form cc in
    let few = first.few_shards in
    let many = second.few_shards in
    let shards : run.shards ≡ other.shards = decimal_injective run.shards other.shards (omega arith) (omega arith) cc in
    let way : run.way ≡ other.way = way_told run.way other.way cc in
    let defs : run.defs ≡ other.defs = cc in
    let sources : run.sources ≡ other.sources = cc in
    λ i. record { form = form i; defs = defs i; shards = shards i; way = way i; sources = sources i }

-- words are those of one made run at most
pub one_made : (words : List (List ℕ)) (m other : Made) → IsMadeOf words m → IsMadeOf words other → m ≡ other
one_made words m other first second =
    let one = first.spelled in
    let two = second.spelled in
    let bits = first.seed_fits in
    let more = second.seed_fits in
    let some = first.few_rows in
    let few = second.few_rows in
    let low = first.few_sources in
    let high = second.few_sources in
    let under = first.few_shards in
    let over = second.few_shards in
    let seed : m.seed ≡ other.seed = decimal_injective m.seed other.seed bits more cc in
    let rows : m.rows ≡ other.rows = decimal_injective m.rows other.rows (omega arith) (omega arith) cc in
    let sources : m.sources ≡ other.sources = decimal_injective m.sources other.sources (omega arith) (omega arith) cc in
    let shards : m.shards ≡ other.shards = decimal_injective m.shards other.shards (omega arith) (omega arith) cc in
    let way : m.way ≡ other.way = way_told m.way other.way cc in
    λ i. record { seed = seed i; rows = rows i; sources = sources i; shards = shards i; way = way i }

-- words are those of one check at most
pub one_check : (words : List (List ℕ)) (c other : Check) → IsCheckOf words c → IsCheckOf words other → c ≡ other
one_check words c other first second =
    let one = first.spelled in
    let two = second.spelled in
    let few = first.few_shards in
    let many = second.few_shards in
    let shards : c.shards ≡ other.shards = decimal_injective c.shards other.shards (omega arith) (omega arith) cc in
    let defs : c.defs ≡ other.defs = cc in
    let report : c.report ≡ other.report = cc in
    let sources : c.sources ≡ other.sources = cc in
    λ i. record { defs = defs i; shards = shards i; report = report i; sources = sources i }

-- words are those of one live board at most
pub one_watch : (words : List (List ℕ)) (w other : Watch) → IsWatchOf words w → IsWatchOf words other → w ≡ other
one_watch words w other first second =
    let one = first.spelled in
    let two = second.spelled in
    let few = first.few_readers in
    let many = second.few_readers in
    let low = first.few_reads in
    let high = second.few_reads in
    let readers : w.readers ≡ other.readers = decimal_injective w.readers other.readers (omega arith) (omega arith) cc in
    let reads : w.reads ≡ other.reads = decimal_injective w.reads other.reads (omega arith) (omega arith) cc in
    let defs : w.defs ≡ other.defs = cc in
    let sources : w.sources ≡ other.sources = cc in
    λ i. record { defs = defs i; readers = readers i; reads = reads i; sources = sources i }

-- ---- commands are told apart by the first letter of their first word
unfoldable pub letter_of : List (List ℕ) → ℕ
letter_of words = get_or (get_or words 0 []) 0 0

pub run_letter : (words : List (List ℕ)) → IsRun words → letter_of words ≡ 114
unfolding letter_of
run_letter words (run, is) = ap (λ (ws : List (List ℕ)). get_or (get_or ws 0 []) 0 0) is.spelled ∙ at run.form
  where
    at : (form : ReportForm) → get_or (run_word form) 0 0 ≡ 114
    at One = refl
    at Two = refl

pub made_letter : (words : List (List ℕ)) → IsMade words → letter_of words ≡ 109
unfolding letter_of
made_letter words (m, is) = ap (λ (ws : List (List ℕ)). get_or (get_or ws 0 []) 0 0) is.spelled

pub check_letter : (words : List (List ℕ)) → IsCheck words → letter_of words ≡ 99
unfolding letter_of
check_letter words (c, is) = ap (λ (ws : List (List ℕ)). get_or (get_or ws 0 []) 0 0) is.spelled

pub watch_letter : (words : List (List ℕ)) → IsWatch words → letter_of words ≡ 119
unfolding letter_of
watch_letter words (w, is) = ap (λ (ws : List (List ℕ)). get_or (get_or ws 0 []) 0 0) is.spelled

pub runs_are_not_made : (words : List (List ℕ)) → IsRun words → IsMade words → ⊥
runs_are_not_made words is other = omega (arith, run_letter words is, made_letter words other)

pub checks_are_no_others : (words : List (List ℕ)) → IsCheck words → IsRun words ⊎ IsMade words → ⊥
checks_are_no_others words is (inl other) = omega (arith, check_letter words is, run_letter words other)
checks_are_no_others words is (inr other) = omega (arith, check_letter words is, made_letter words other)

pub watches_are_no_others : (words : List (List ℕ)) → IsWatch words → IsRun words ⊎ IsMade words ⊎ IsCheck words → ⊥
watches_are_no_others words is (inl other) = omega (arith, watch_letter words is, run_letter words other)
watches_are_no_others words is (inr (inl other)) = omega (arith, watch_letter words is, made_letter words other)
watches_are_no_others words is (inr (inr other)) = omega (arith, watch_letter words is, check_letter words other)
