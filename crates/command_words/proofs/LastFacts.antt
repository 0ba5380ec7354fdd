-- Words are those of one run of tails at most, and begin with a letter of their own.
use Rattle.std.proofs.Common.{◌≡◌, ◌∙◌, ℕ, List, [], get_or, Some, refl, ap, sym, inl, inr, arith}
use Rattle.std.specs.Prelude.{◌⊎◌}
use Rattle.std.proofs.lemmas.Fmt.{decimal_injective}
use Rattle.stream_base.specs.declared.func.Func.{Func}
use Rattle.stream_base.specs.declared.func.Func.TheVariants.{Count, Sum, Min, Max, Mean, First, Last, Rises, Trace}
use Rattle.window_defs.specs.Windows.{func_named, func_word}
use Rattle.command_words.specs.LastWords.{IsLast, IsLastOf, LastRun}
use Rattle.command_words.specs.Words.{IsCheck, IsMade, IsRun, IsWatch}
use Rattle.command_words.proofs.WordFacts.{check_letter, letter_of, made_letter, run_letter, watch_letter}

-- the words of functions differ
named : (func : Func) → func_named (func_word func) ≡ Some func
named Count = refl
named Sum = refl
named Min = refl
named Max = refl
named Mean = refl
named First = refl
named Last = refl
named Rises = refl
named Trace = refl

func_told : (func other : Func) → func_word func ≡ func_word other → func ≡ other
func_told func other e = same (sym (named func) ∙ ap func_named e ∙ named other)
  where
    same : Some func ≡ Some other → func ≡ other
    same h = cc

-- words are those of one run of tails at most
pub one_last : (words : List (List ℕ)) (l other : LastRun) → IsLastOf words l → IsLastOf words other → l ≡ other
one_last words l other first second =
    let one = first.spelled in
    let two = second.spelled in
    let mine = first.within in
    let its = second.within in
    let few = (mine.numbers).few_tuples in
    let many = (its.numbers).few_tuples in
    let short = (mine.numbers).short in
    let long = (its.numbers).short in
    let early = (mine.numbers).short_lateness in
    let late = (its.numbers).short_lateness in
    let under = (mine.few).few_shards in
    let over = (its.few).few_shards in
    let count : l.tail.count ≡ other.tail.count = decimal_injective l.tail.count other.tail.count (omega (arith, few)) (omega (arith, many)) cc in
    let period : l.tail.period ≡ other.tail.period = decimal_injective l.tail.period other.tail.period (omega (arith, short)) (omega (arith, long)) cc in
    let func : l.tail.func ≡ other.tail.func = func_told l.tail.func other.tail.func cc in
    let lateness : l.lateness ≡ other.lateness = decimal_injective l.lateness other.lateness (omega (arith, early)) (omega (arith, late)) cc in
    let shards : l.shards ≡ other.shards = decimal_injective l.shards other.shards (omega (arith, under)) (omega (arith, over)) cc in
    let sources : l.sources ≡ other.sources = cc in
    λ i. record { tail = record { count = count i; period = period i; func = func i }; lateness = lateness i; shards = shards i; sources = sources i }

-- their first word begins with a letter of its own
last_letter : (words : List (List ℕ)) → IsLast words → letter_of words ≡ 108
unfolding letter_of
last_letter words (l, is) = ap (λ (ws : List (List ℕ)). get_or (get_or ws 0 []) 0 0) is.spelled

pub tails_are_no_others : (words : List (List ℕ)) → IsLast words → IsRun words ⊎ IsMade words ⊎ IsCheck words ⊎ IsWatch words → ⊥
tails_are_no_others words is (inl other) = omega (arith, last_letter words is, run_letter words other)
tails_are_no_others words is (inr (inl other)) = omega (arith, last_letter words is, made_letter words other)
tails_are_no_others words is (inr (inr (inl other))) = omega (arith, last_letter words is, check_letter words other)
tails_are_no_others words is (inr (inr (inr other))) = omega (arith, last_letter words is, watch_letter words other)
