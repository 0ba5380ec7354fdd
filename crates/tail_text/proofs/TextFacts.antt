-- Journals with the changes beside them, position by position and shard by shard.
use Rattle.std.proofs.Common.{◌≡◌, ◌∙◌, ◌+◌, ◌<◌, ◌++◌, ℕ, List, [], ◌∷◌, Some, length, map, drop, get_or, min, slice_get, refl, ap, ap₂, sym, subst, append_assoc, append-nil, ◌≤◌, arith}
use Rattle.std.specs.Prelude.{codes, decimal, Vec}
use Rattle.std.specs.List.{flat_map, zip}
use Rattle.std.proofs.Math.ListN.{drop_of_length-le}
use Rattle.std.proofs.lemmas.List.{at_drop_more, get_or-map, length-map}
use Rattle.std.proofs.lemmas.Option.{get_or_from_slice_get}
use Rattle.std.proofs.lemmas.Slice.Zip.{get_or-zip, length-zip}
use Rattle.stream_base.specs.declared.entry.Entry.{Entry}
use Rattle.stream_base.specs.Model.Text.{entry_line, journal_lines, line_of, shard_lines, shown_text}
use Rattle.shard_core.specs.Shard.{Sharded}
use Rattle.emission_text.specs.Sending.{AppendsPrefix}
use Rattle.tail_windows.specs.Report.{tail_fields, tail_report_of, tails_under}
use Rattle.tail_windows.specs.declared.change.TailChange.{TailChange}
use Rattle.tail_windows.specs.declared.row.TailRow.{TailRow}
use Rattle.tail_windows.specs.declared.def.TailDef.{TailDef}
use Rattle.report_lines.specs.Lines.{header_line}
use Rattle.tail_text.specs.Texts.{AreAsLong, ByPosition, in_vectors, journal_with, lines_with, shards_with, tail_changes_behind, tail_changes_in, tails_text}

-- the beginning of a row's line
abbrev pub front : List ℕ → TailRow → List ℕ
front sign row = sign ++ (32 ∷ (decimal row.at ++ (32 ∷ (decimal row.number ++ (32 ∷ [])))))

-- a row's line is its beginning, and then its value and key
pub row-line : (sign : List ℕ) (row : TailRow) → front sign row ++ line_of (shown_text row.shown ∷ row.key ∷ []) ≡ line_of (sign ∷ tail_fields row)
row-line sign row = simp append_assoc

-- a pair of a list beside another is the elements of both
pair_at : {A B : Type 0} (ks : List A) (vs : List B) (i : ℕ) (k : A) (v : B) → i < length ks → i < length vs → get_or ks i k ≡ k → get_or vs i v ≡ v → (k, v) ≡ get_or (zip ks vs) i (k, v)
pair_at ks vs i k v within also is_key is_value = sym (get_or-zip ks vs i (k, v) within also ∙ ap₂ (λ a b. (a, b)) is_key is_value)

zip_within : {A B : Type 0} (ks : List A) (vs : List B) (i : ℕ) → i < length ks → i < length vs → i < length (zip ks vs)
zip_within ks vs i within also = omega (arith, length-zip ks vs, within, also)

-- where nothing more is left, what is pending is left
pub part_end : {K : Type 0} {taken : K → List ℕ} {faults : K → ℕ} {text : List ℕ} {old new : K} (pending rest : List ℕ) → rest ≡ [] → AppendsPrefix taken faults text (pending ++ rest) old new → AppendsPrefix taken faults text pending old new
part_end {taken = taken} {faults = faults} {text = text} {old = old} {new = new} pending rest none some =
    subst (λ left. AppendsPrefix taken faults text left old new) (ap (λ more. pending ++ more) none ∙ append-nil pending) some

-- the lines of what is left of a journal, from a position on
abbrev pub lines_from : List Entry → ByPosition → ℕ → List ℕ
lines_from journal followed position = flat_map (λ p. lines_with p.0 p.1) (drop position (zip journal followed))

-- they are those of the entry there with its changes, and then those behind it
pub lines_from-more : {Z : Type 0} (journal : List Entry) (vectors : List (Vec TailChange Z)) (position : ℕ) (e : Entry) (v : Vec TailChange Z) (changes : List TailChange)
    → position < length journal → position < length vectors → slice_get journal position ≡ Some e → v ≡ get_or vectors position v → changes ≡ v.items
    → lines_from journal (map (λ x. x.items) vectors) position ≡ lines_with e changes ++ lines_from journal (map (λ x. x.items) vectors) (position + 1)
lines_from-more journal vectors position e v changes within also found is own =
    let lists = map (λ (x : Vec TailChange _). x.items) vectors in
    let beside : position < length lists = omega (arith, length-map vectors (λ x. x.items), also) in
    let both : (e, changes) ≡ get_or (zip journal lists) position (e, changes) =
    pair_at journal lists position e changes within beside (get_or_from_slice_get journal position e e found)
    (get_or-map (λ x. x.items) vectors position v changes also ∙ ap (λ x. x.items) (sym is) ∙ sym own) in
    at_drop_more (flat_map (λ (p : Entry × List TailChange). lines_with p.0 p.1)) (zip journal lists) position (e, changes) (zip_within journal lists position within beside)
    ∙ ap (λ (p : Entry × List TailChange). lines_with p.0 p.1 ++ flat_map (λ q. lines_with q.0 q.1) (drop (position + 1) (zip journal lists))) (sym both)

pub lines_from-end : (journal : List Entry) (lists : ByPosition) (position : ℕ) → length journal ≤ position → lines_from journal lists position ≡ []
lines_from-end journal lists position past =
    ap (flat_map (λ (p : Entry × List TailChange). lines_with p.0 p.1)) (drop_of_length-le (zip journal lists) {i = position} (omega (arith, length-zip journal lists, past)))

-- the lines of the shards that are left
abbrev pub shards_from : List (List Entry) → List ByPosition → ℕ → List ℕ
shards_from journals tails k = shards_with k (drop k (zip journals tails))

pub shards_from-more : {Y Z : Type 0} (shards : List Sharded) (tails : List (Vec (Vec TailChange Y) Z)) (k : ℕ) (s : Sharded) (t : Vec (Vec TailChange Y) Z) (vectors : List (Vec TailChange Y))
    → k < length shards → k < length tails → s ≡ get_or shards k s → t ≡ get_or tails k t → vectors ≡ t.items
    → shards_from (map (λ s. s.journal) shards) (in_vectors tails) k ≡ (header_line k ++ journal_with s.journal (map (λ v. v.items) vectors)) ++ shards_from (map (λ s. s.journal) shards) (in_vectors tails) (k + 1)
shards_from-more shards tails k s t vectors within also is its own =
    let journals = map (λ (x : Sharded). x.journal) shards in
    let lists = in_vectors tails in
    let first : k < length journals = omega (arith, length-map shards (λ (x : Sharded). x.journal), within) in
    let second : k < length lists = omega (arith, length-map tails (λ x. map (λ v. v.items) x.items), also) in
    let both : (s.journal, map (λ v. v.items) vectors) ≡ get_or (zip journals lists) k (s.journal, map (λ v. v.items) vectors) =
    pair_at journals lists k s.journal (map (λ v. v.items) vectors) first second
    (get_or-map (λ (x : Sharded). x.journal) shards k s s.journal within ∙ ap (λ (x : Sharded). x.journal) (sym is))
    (get_or-map (λ x. map (λ v. v.items) x.items) tails k t (map (λ v. v.items) vectors) also ∙ ap (λ x. map (λ v. v.items) x.items) (sym its) ∙ ap (map (λ v. v.items)) (sym own)) in
    at_drop_more (shards_with k) (zip journals lists) k (s.journal, map (λ v. v.items) vectors) (zip_within journals lists k first second)
    ∙ ap (λ (p : List Entry × ByPosition). (header_line k ++ journal_with p.0 p.1) ++ shards_with (k + 1) (drop (k + 1) (zip journals lists))) (sym both)

pub shards_from-end : (shards : List Sharded) (tails : List ByPosition) (k : ℕ) → length shards ≤ k → shards_from (map (λ s. s.journal) shards) tails k ≡ []
shards_from-end shards tails k past =
    let journals = map (λ (x : Sharded). x.journal) shards in
    ap (shards_with k) (drop_of_length-le (zip journals tails) {i = k} (omega (arith, length-zip journals tails, length-map shards (λ (x : Sharded). x.journal), past)))

-- as many vectors as shards, and of each shard as many as it has entries
pub as_many : {Y Z : Type 0} (shards : List Sharded) (tails : List (Vec (Vec TailChange Y) Z)) → AreAsLong (map (λ s. s.journal) shards) (in_vectors tails) → length tails ≡ length shards
as_many shards tails h =
    sym (length-map tails (λ x. map (λ v. v.items) x.items)) ∙ sym (length-map (in_vectors tails) length)
    ∙ ap length h
    ∙ length-map (map (λ (s : Sharded). s.journal) shards) length ∙ length-map shards (λ (s : Sharded). s.journal)

pub as_long : {Y Z : Type 0} (shards : List Sharded) (tails : List (Vec (Vec TailChange Y) Z)) (k : ℕ) (s : Sharded) (t : Vec (Vec TailChange Y) Z) (vectors : List (Vec TailChange Y))
    → AreAsLong (map (λ s. s.journal) shards) (in_vectors tails) → k < length shards → s ≡ get_or shards k s → t ≡ get_or tails k t → vectors ≡ t.items
    → length vectors ≡ length s.journal
as_long shards tails k s t vectors h within is its own_items =
    let journals = map (λ (x : Sharded). x.journal) shards in
    let lists = in_vectors tails in
    let also : k < length tails = omega (arith, as_many shards tails h, within) in
    let first : k < length journals = omega (arith, length-map shards (λ (x : Sharded). x.journal), within) in
    let second : k < length lists = omega (arith, length-map tails (λ x. map (λ v. v.items) x.items), also) in
    let own : get_or lists k (map (λ v. v.items) t.items) ≡ map (λ v. v.items) t.items =
    get_or-map (λ x. map (λ v. v.items) x.items) tails k t (map (λ v. v.items) t.items) also ∙ ap (λ x. map (λ v. v.items) x.items) (sym its) in
    let journal : get_or journals k s.journal ≡ s.journal =
    get_or-map (λ (x : Sharded). x.journal) shards k s s.journal within ∙ ap (λ (x : Sharded). x.journal) (sym is) in
    ap length own_items
    ∙ sym (length-map t.items (λ v. v.items))
    ∙ ap length (sym own)
    ∙ sym (get_or-map length lists k (map (λ v. v.items) t.items) 0 second)
    ∙ ap (λ l. get_or l k 0) h
    ∙ get_or-map length journals k s.journal 0 first
    ∙ ap length journal

-- with the changes of the definitions beside them, journals have the text of their report
journal_with-own : (def : TailDef) (lateness sources : ℕ) (before es : List Entry) → journal_with es (tail_changes_behind def lateness sources before es) ≡ journal_lines (tails_under def lateness sources) before es
journal_with-own def lateness sources before [] = refl
journal_with-own def lateness sources before (e ∷ es) =
    append_assoc (entry_line e) (tails_under def lateness sources before e) (journal_with es (tail_changes_behind def lateness sources (before ++ e ∷ []) es))
    ∙ ap (λ (rest : List ℕ). entry_line e ++ (tails_under def lateness sources before e ++ rest)) (journal_with-own def lateness sources (before ++ e ∷ []) es)

shards_with-own : (def : TailDef) (lateness sources k : ℕ) (journals : List (List Entry)) → shards_with k (zip journals (map (tail_changes_in def lateness sources) journals)) ≡ shard_lines (tails_under def lateness sources) k journals
shards_with-own def lateness sources k [] = refl
shards_with-own def lateness sources k (journal ∷ journals) =
    let rest = shards_with (k + 1) (zip journals (map (tail_changes_in def lateness sources) journals)) in
    append_assoc (header_line k) (journal_with journal (tail_changes_in def lateness sources journal)) rest
    ∙ ap₂ (λ (lines others : List ℕ). header_line k ++ (lines ++ others)) (journal_with-own def lateness sources [] journal) (shards_with-own def lateness sources (k + 1) journals)

pub tails_text-is_report : (def : TailDef) (lateness sources : ℕ) (journals : List (List Entry)) → tails_text journals (map (tail_changes_in def lateness sources) journals) ≡ tail_report_of def lateness sources journals
unfolding tails_text tail_report_of
tails_text-is_report def lateness sources journals = ap (λ (lines : List ℕ). lines ++ codes "end\n") (shards_with-own def lateness sources 0 journals)
