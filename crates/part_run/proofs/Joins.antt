-- Reports that are judged and joined, one after another.
use Rattle.std.proofs.Common.{◌≡◌, ◌∙◌, ◌<◌, ◌≤◌, ◌+◌, ◌++◌, ℕ, Bool, List, [], ◌∷◌, length, drop, get_or, Option, None, Some, ap, sym, subst, refl, arith, append_assoc, below_more}
use Rattle.std.specs.Prelude.{Vec}
use Rattle.std.proofs.lemmas.List.{at_drop_more, get_or-map, length-map}
use Rattle.stream_base.specs.Model.Text.{Form}
use Rattle.report_lines.specs.Lines.{header_line}
use Rattle.part_laws.specs.Joined.{body_of, shards_from}
use Rattle.report_check.specs.Findings.{lists_of}
use Rattle.report_join.specs.ShardReports.{IsJudged, form_told}
use Rattle.report_join.specs.declared.join_why.JoinWhy.{JoinWhy}
use Rattle.report_join.specs.declared.join_why.JoinWhy.TheVariants.{Shape, Entry}
use Rattle.emission_text.specs.declared.fault.Fault.{Fault}
use Rattle.emission_text.specs.declared.fault.Fault.TheVariants.{Usage, NoMemory}
use Rattle.run_inputs.specs.Outside.{Opens}
use Rattle.part_run.specs.Joining.{AreShardReports, AreTexts, IsFirstWrong, IsFormOf, IsJoinOf, IsJoinOfFiles, IsWrongAt, StopsAtReports, StopsAtTexts, StopsJoin, WrongAt, report_fault}
use Rattle.part_run.specs.declared.part_fault.PartFault.{PartFault}
use Rattle.part_run.specs.declared.part_fault.PartFault.TheVariants.{Run, LongPart, UnreadDefs, NotReport, Misplaced}

-- the bytes of the vector at a place
pub bytes_at : {Z : Type 0} (texts : List (Vec ℕ Z)) (k : ℕ) (t : Vec ℕ Z) → k < length texts → t ≡ get_or texts k t → get_or (lists_of texts) k [] ≡ t.items
bytes_at {Z = Z} texts k t within is = get_or-map (λ (v : Vec ℕ Z). v.items) texts k t [] within ∙ ap (λ (v : Vec ℕ Z). v.items) (sym is)

-- the lines of shards from a number on are those of the first of them, and then those of the others
pub shards_more : {Z : Type 0} (form : Form) (texts : List (Vec ℕ Z)) (k : ℕ) (t : Vec ℕ Z) → k < length texts → t ≡ get_or texts k t
    → shards_from form k (drop k (lists_of texts)) ≡ (header_line k ++ body_of form t.items) ++ shards_from form (k + 1) (drop (k + 1) (lists_of texts))
shards_more {Z = Z} form texts k t within is =
    let all = lists_of texts in
    let inside : k < length all = omega (arith, within, length-map texts (λ (v : Vec ℕ Z). v.items)) in
    at_drop_more (shards_from form k) all k [] inside
    ∙ ap (λ (report : List ℕ). header_line k ++ (body_of form report ++ shards_from form (k + 1) (drop (k + 1) all))) (bytes_at texts k t within is)
    ∙ sym (append_assoc (header_line k) (body_of form t.items) (shards_from form (k + 1) (drop (k + 1) all)))

-- the same, with the lines that are put
pub shard_put_as : {Z : Type 0} (form : Form) (texts : List (Vec ℕ Z)) (k : ℕ) (t : Vec ℕ Z) (text lines : List ℕ) → k < length texts → t ≡ get_or texts k t → text ≡ t.items → lines ≡ body_of form text
    → shards_from form k (drop k (lists_of texts)) ≡ (header_line k ++ lines) ++ shards_from form (k + 1) (drop (k + 1) (lists_of texts))
shard_put_as form texts k t text lines within is bytes body =
    shards_more form texts k t within is
    ∙ ap (λ (b : List ℕ). (header_line k ++ b) ++ shards_from form (k + 1) (drop (k + 1) (lists_of texts))) (sym (body ∙ ap (body_of form) bytes))

-- what is found of the vector at a place is what is found of its bytes
pub judged_at : {Z : Type 0} (second : Bool) (texts : List (Vec ℕ Z)) (i n : ℕ) (t : Vec ℕ Z) (text : List ℕ) (why : Option JoinWhy) → i < length texts → t ≡ get_or texts i t → text ≡ t.items → n ≡ length texts
    → IsJudged (form_told second) n i text why → IsJudged (form_told second) (length (lists_of texts)) i (get_or (lists_of texts) i []) why
judged_at {Z = Z} second texts i n t text why within is bytes many h =
    subst (λ (m : ℕ). IsJudged (form_told second) m i (get_or (lists_of texts) i []) why) (many ∙ sym (length-map texts (λ (v : Vec ℕ Z). v.items)))
    (subst (λ (b : List ℕ). IsJudged (form_told second) n i b why) (bytes ∙ sym (bytes_at texts i t within is)) h)

-- and why it is wrong
pub wrong_told : (second : Bool) (texts : List (List ℕ)) (i : ℕ) (fault : PartFault) (why : JoinWhy) → fault ≡ report_fault i why → IsJudged (form_told second) (length texts) i (get_or texts i []) (Some why) → IsWrongAt second texts i fault
wrong_told second texts i fault Shape is h = subst (IsWrongAt second texts i) (sym is) (refl, h)
wrong_told second texts i fault (Entry number) is h = subst (IsWrongAt second texts i) (sym is) (refl, h)

-- one report more is such a report
pub reports_more : (second : Bool) (shards : ℕ) (texts : List (List ℕ)) (i : ℕ) → AreShardReports second shards texts i → IsJudged (form_told second) shards i (get_or texts i []) None → AreShardReports second shards texts (i + 1)
reports_more second shards texts i below here = below_more (λ k. IsJudged (form_told second) shards k (get_or texts k []) None) i below here

-- the first that isn't
pub wrong_at : (second : Bool) (texts : List (List ℕ)) (i : ℕ) → i < length texts → AreShardReports second (length texts) texts i → (fault : PartFault) → IsWrongAt second texts i fault → WrongAt second texts fault
wrong_at second texts i inside below (Run fault) h = h
wrong_at second texts i inside below LongPart h = h
wrong_at second texts i inside below UnreadDefs h = h
wrong_at second texts i inside below (NotReport report) h = subst (λ (k : ℕ). WrongAt second texts (NotReport k)) (sym h.0) record { inside = inside; below = below; found = h.1 }
wrong_at second texts i inside below (Misplaced report number) h =
    subst (λ (k : ℕ). WrongAt second texts (Misplaced k number)) (sym h.0) record { inside = inside; below = below; found = h.1 }

-- what is wrong with the texts of files stops a join
pub stops_join : (names : List (List ℕ)) (opens : Opens) (texts : List (List ℕ)) (second : Bool) → IsFormOf second texts → AreTexts names opens texts → (fault : PartFault) → WrongAt second texts fault
    → StopsJoin names opens fault
stops_join names opens texts second form read (Run fault) h = subst (StopsAtReports names opens) (sym h) tt
stops_join names opens texts second form read LongPart h = h
stops_join names opens texts second form read UnreadDefs h = h
stops_join names opens texts second form read (NotReport report) h = record { texts = texts; read = read; second = second; form = form; wrong = h }
stops_join names opens texts second form read (Misplaced report number) h =
    record { texts = texts; read = read; second = second; form = form; wrong = h }

-- a join of texts is one of the files that gave them
pub join_of_files : (names : List (List ℕ)) (opens : Opens) (texts : List (List ℕ)) → AreTexts names opens texts → (text : List ℕ) → IsJoinOf texts text → IsJoinOfFiles names opens text
join_of_files names opens texts read text join = record { texts = texts; read = read; join = join }

pub stops_files : (names : List (List ℕ)) (opens : Opens) (texts : List (List ℕ)) → AreTexts names opens texts → (fault : PartFault) → StopsAtTexts texts fault → StopsJoin names opens fault
stops_files names opens texts read fault h = stops_join names opens texts h.0 h.1 read fault h.2

-- no text says that the words of the command are wrong
pub no_usage_in : (texts : List (List ℕ)) → StopsAtTexts texts (Run Usage) → ⊥
no_usage_in texts h = wrong h.2
  where
    wrong : Usage ≡ NoMemory → ⊥
    wrong e = cc

-- no file says that the words are wrong
pub no_usage : (names : List (List ℕ)) (opens : Opens) → StopsJoin names opens (Run Usage) → ⊥
no_usage names opens h = h
