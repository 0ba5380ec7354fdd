-- The lines of a shard's journal, position by position.
use Rattle.std.proofs.Common.{◌≡◌, ◌∙◌, ℕ, ◌+◌, ◌<◌, List, [], ◌∷◌, ◌++◌, Some, length, get_or, slice_get, take, drop, ap, sym, subst, append_assoc}
use Rattle.std.specs.List.{flat_map}
use Rattle.std.specs.Option.{option_map_or}
use Rattle.std.proofs.lemmas.List.{at_drop_more, take_more}
use Rattle.std.proofs.lemmas.Option.{get_or_from_slice_get}
use Rattle.stream_base.specs.declared.entry.Entry.{Entry}
use Rattle.stream_base.specs.Model.Changes.{changes_after, changes_at}
use Rattle.stream_base.specs.Model.Text.{Form, change_lines, changes_under, entry_line, journal_lines}
use Rattle.shard_core.specs.Shard.{Sharded}

-- the lines of the entries from a position on
abbrev pub lines_behind : Form → Sharded → ℕ → List ℕ
lines_behind form s position = journal_lines (changes_under form s.defs s.sources) (take position s.journal) (drop position s.journal)

-- with the lines of one entry more, fewer are left
lines_more : (form : Form) (s : Sharded) (position : ℕ) (d : Entry) (out all : List ℕ) → position < length s.journal → out ++ lines_behind form s position ≡ all
    → ((out ++ entry_line (get_or s.journal position d)) ++ changes_under form s.defs s.sources (take position s.journal) (get_or s.journal position d)) ++ lines_behind form s (position + 1) ≡ all
lines_more form s position d out all within told =
    let e = get_or s.journal position d in
    let under = changes_under form s.defs s.sources in
    let before = take position s.journal in
    let rest = lines_behind form s (position + 1) in
    append_assoc (out ++ entry_line e) (under before e) rest
    ∙ append_assoc out (entry_line e) (under before e ++ rest)
    ∙ ap (λ t. out ++ (entry_line e ++ (under before e ++ journal_lines under t (drop (position + 1) s.journal)))) (take_more s.journal position d within)
    ∙ sym (ap (λ text. out ++ text) (at_drop_more (journal_lines under before) s.journal position d within))
    ∙ told

-- the same of the entry that stands there, and of the changes that a shard has under it
pub told_more : (form : Form) (s : Sharded) (position : ℕ) (e : Entry) (out all : List ℕ) → position < length s.journal → slice_get s.journal position ≡ Some e → out ++ lines_behind form s position ≡ all
    → ((out ++ entry_line e) ++ change_lines form (changes_at s.defs s.sources s.journal position)) ++ lines_behind form s (position + 1) ≡ all
told_more form s position e out all within found told =
    let before = take position s.journal in
    let rest = lines_behind form s (position + 1) in
    ap (λ o. ((out ++ entry_line e) ++ change_lines form (option_map_or (changes_after s.defs s.sources before) o [])) ++ rest) found
    ∙ subst (λ x. ((out ++ entry_line x) ++ changes_under form s.defs s.sources before x) ++ rest ≡ all) (get_or_from_slice_get s.journal position e e found) (lines_more form s position e out all within told)

-- of elements told one behind the other, one more is told
pub one_more : {X : Type 0} (f : X → List ℕ) (xs : List X) (at : ℕ) (x : X) (out all : List ℕ) → at < length xs → slice_get xs at ≡ Some x → out ++ flat_map f (drop at xs) ≡ all
    → (out ++ f x) ++ flat_map f (drop (at + 1) xs) ≡ all
one_more f xs at x out all within found told =
    let rest = drop (at + 1) xs in
    append_assoc out (f x) (flat_map f rest)
    ∙ ap (λ y. out ++ flat_map f (y ∷ rest)) (sym (get_or_from_slice_get xs at x x found))
    ∙ sym (ap (λ text. out ++ text) (at_drop_more (flat_map f) xs at x within))
    ∙ told
