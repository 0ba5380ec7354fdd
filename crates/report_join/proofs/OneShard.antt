-- Texts that are reports of one shard.
use Rattle.std.proofs.Common.{◌≡◌, ◌∙◌, ◌+◌, ◌-◌, ◌<◌, ◌≤◌, ℕ, List, [], ◌∷◌, length, drop, take, get_or, Option, None, Some, ap, sym, subst, refl, arith}
use Rattle.std.specs.Prelude.{IfNone, IfSome}
use Rattle.std.specs.Fmt.{digits}
use Rattle.stream_base.specs.declared.entry.Entry.{Entry}
use Rattle.stream_base.specs.Model.Text.{Form, report_1, report_2}
use Rattle.report_lines.specs.Lines.{header_line}
use Rattle.part_laws.specs.Joined.{body_of}
use Rattle.report_join.specs.ShardReports.{IsJudged, IsOfOneShard, first_misplaced}
use Rattle.report_join.specs.declared.join_why.JoinWhy.{JoinWhy}
use Rattle.report_join.specs.declared.join_why.JoinWhy.TheVariants.{Entry as MisplacedEntry}

-- a list of one element
pub one_item : {X : Type 0} (xs : List X) (x : X) → 1 ≤ length xs → length xs < 2 → x ≡ get_or xs 0 x → xs ≡ x ∷ []
one_item [] x some few is = absurd (let no : ⊥ = omega (arith, some) in no)
one_item (y ∷ []) x some few is = ap (λ z. z ∷ []) (sym is)
one_item (y ∷ z ∷ ys) x some few is = absurd (let no : ⊥ = omega (arith, few) in no)

-- what is found of the only journal is what is found of the text
pub judged_one : (form : Form) (shards k : ℕ) (text : List ℕ) (journal : List Entry) (why : Option JoinWhy) → IsOfOneShard form text journal
    → IfSome why (λ w. (i : ℕ) × (w ≡ MisplacedEntry (i + 1)) × (first_misplaced shards k journal ≡ Some i)) → IfNone why (first_misplaced shards k journal ≡ None)
    → IsJudged form shards k text why
judged_one form shards k text journal None one some none = (journal, one, none)
judged_one form shards k text journal (Some w) one (i, is, found) none = subst (λ (x : JoinWhy). IsJudged form shards k text (Some x)) (sym is) (journal, one, i, refl, found)

-- how long the front of a report of one shard is
pub first_length : 8 ≡ length report_1.front + length (header_line 0)
unfolding digits
first_length = refl

pub second_length : 17 ≡ length report_2.front + length (header_line 0)
unfolding digits
second_length = refl

-- what stands behind the front, without the last line
pub body_told : (form : Form) (n : ℕ) (text lines body : List ℕ) → n ≡ length form.front + length (header_line 0) → lines ≡ drop n text → body ≡ take (length lines - 4) lines → body ≡ body_of form text
body_told form n text lines body long lines_are body_is = body_is ∙ ap (λ (ls : List ℕ). take (length ls - 4) ls) (lines_are ∙ ap (λ k. drop k text) long)
