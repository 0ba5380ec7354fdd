-- A text that is read, one byte more.
use Rattle.std.proofs.Common.{◌≡◌, ◌∙◌, ℕ, ◌+◌, ◌-◌, ◌<◌, suc, Bool, true, false, cond, eqb, List, [], ◌∷◌, ◌++◌, length, drop, get_or, set, ap, sym, refl, subst, arith, append_assoc, append-nil, Option, None, Some, Result, Ok, Err, zero}
use Rattle.std.specs.Prelude.{◌||◌, ◌==◌, codes, decimal}
use Rattle.stream_base.specs.Model.Text.{line_of}
use Rattle.stream_base.specs.declared.no_memory.NoMemory.{NoMemory}
use Rattle.report_rows.specs.Steps.{Steps}
use Rattle.std.specs.List.{list_any}
use Rattle.std.specs.Str.{bytes_eq}
use Rattle.std.specs.Option.{option_map}
use Rattle.std.proofs.lemmas.Bool.{false≢true, ne_eqb, or_from, or_parts}
use Rattle.std.proofs.lemmas.List.{at_drop_more}
use Rattle.std.proofs.lemmas.List.Folds.{list_any-append}
use Rattle.report_laws.proofs.ReadBackLines.{Lacks}
use Rattle.report_lines.proofs.Spelling.{spells_front}
use Rattle.row_laws.specs.Told.{Told, ToldShard, after_line, header, in_last, in_shard, is_behind, or_refused, read_from, read_text, refused, tells, unread}
use Rattle.row_laws.proofs.ToldRows.{read_left, read_line, read_nothing}
use Rattle.report_rows.specs.Reader.{IsReader}
use Rattle.report_rows.specs.Faults.{IsRefusedSo}
use Rattle.report_rows.specs.declared.text_fault.TextFault.{TextFault}
use Rattle.report_rows.specs.declared.text_fault.TextFault.TheVariants.{Line, NoMemory as Exhausted}

-- the header of a shard is spelled by its line without the line feed
pub spells_header : (told line : List ℕ) (number : ℕ) → told ≡ line_of (codes "shard" ∷ decimal number ∷ []) → bytes_eq told (line ++ 10 ∷ []) ≡ bytes_eq line (header number)
spells_header told line number is = ap (λ text. bytes_eq text (line ++ 10 ∷ [])) is ∙ spells_front line (header number)

lacks : (bytes : List ℕ) → list_any (λ byte. byte == 10) bytes ≡ false → Lacks 10 bytes
lacks [] h = tt
lacks (x ∷ xs) h = let both : (eqb x 10 ≡ false) × (list_any (λ byte. eqb byte 10) xs ≡ false) = or_parts (eqb x 10) (list_any (λ byte. eqb byte 10) xs) h in (both.0, lacks xs both.1)

pub starts : IsReader [] 1 unread []
unfolding read_text
starts = record { goes_on = λ more. refl; no_feed = refl }

pub one_byte : (given : List ℕ) (number : ℕ) (told : Told) (pending : List ℕ) (byte : ℕ) → (byte == 10) ≡ false → IsReader given number told pending → IsReader (given ++ byte ∷ []) number told (pending ++ byte ∷ [])
one_byte given number told pending byte other h = record {
  goes_on = λ more.
      ap read_text (append_assoc given (byte ∷ []) more) ∙ h.goes_on (byte ∷ more) ∙ sym (ap (read_from number told) (append_assoc pending (byte ∷ []) more));
  no_feed = list_any-append (λ b. b == 10) pending (byte ∷ []) ∙ or_from (list_any (λ b. b == 10) pending) ((byte == 10) || false) h.no_feed (or_from (byte == 10) false other refl);
}

-- a line feed more
ended : (given : List ℕ) (number : ℕ) (told : Told) (pending more : List ℕ) → IsReader given number told pending → read_text ((given ++ 10 ∷ []) ++ more) ≡ or_refused number (λ next. read_from (number + 1) next more) (after_line told pending)
ended given number told pending more h =
    ap read_text (append_assoc given (10 ∷ []) more) ∙ h.goes_on (10 ∷ more) ∙ read_line number told pending more (lacks pending h.no_feed)

pub one_line : (given : List ℕ) (number : ℕ) (told next : Told) (pending : List ℕ) → after_line told pending ≡ Some next → IsReader given number told pending → IsReader (given ++ 10 ∷ []) (number + 1) next []
one_line given number told next pending step h = record {
  goes_on = λ more. ended given number told pending more h ∙ ap (or_refused number (λ n. read_from (number + 1) n more)) step;
  no_feed = refl;
}

pub line_refused : (given : List ℕ) (number : ℕ) (told : Told) (pending : List ℕ) → after_line told pending ≡ None → IsReader given number told pending → (more : List ℕ) → read_text ((given ++ 10 ∷ []) ++ more) ≡ refused number
line_refused given number told pending step h more = ended given number told pending more h ∙ ap (or_refused number (λ n. read_from (number + 1) n more)) step

-- ---- at the end
whole : (given : List ℕ) (number : ℕ) (told : Told) (pending : List ℕ) → IsReader given number told pending → read_text given ≡ read_from number told pending
whole given number told pending h = ap read_text (sym (append-nil given)) ∙ h.goes_on [] ∙ ap (read_from number told) (append-nil pending)

pub told_whole : (given : List ℕ) (number : ℕ) (told : Told) (pending : List ℕ) → IsReader given number told pending → (length pending == 0) ≡ true → is_behind told.place ≡ true → read_text given ≡ tells told.shards
told_whole given number told [] h empty behind =
    whole given number told [] h ∙ read_nothing number told ∙ ap (λ b. cond b (tells told.shards) (refused number)) behind
told_whole given number told (byte ∷ pending) h empty behind = absurd (false≢true (sym (ne_eqb (length (byte ∷ pending)) 0 (λ z. omega (arith, z))) ∙ empty))

pub cut_off : (given : List ℕ) (number : ℕ) (told : Told) (pending : List ℕ) → IsReader given number told pending → (length pending == 0) ≡ false → read_text given ≡ refused number
cut_off given number told [] h some = absurd (false≢true (sym some))
cut_off given number told (byte ∷ pending) h some = whole given number told (byte ∷ pending) h ∙ read_left number told byte pending (lacks (byte ∷ pending) h.no_feed)

pub lacking : (given : List ℕ) (number : ℕ) (told : Told) (pending : List ℕ) → IsReader given number told pending → (length pending == 0) ≡ true → is_behind told.place ≡ false → read_text given ≡ refused number
lacking given number told [] h empty inside =
    whole given number told [] h ∙ read_nothing number told ∙ ap (λ b. cond b (tells told.shards) (refused number)) inside
lacking given number told (byte ∷ pending) h empty inside = absurd (false≢true (sym (ne_eqb (length (byte ∷ pending)) 0 (λ z. omega (arith, z))) ∙ empty))

-- ---- the last shard
pub at_last : (full : Bool) (line : List ℕ) (shards : List ToldShard) (d : ToldShard) → 0 < length shards
    → in_last full line shards ≡ option_map (λ s. set shards (length shards - 1) s) (in_shard full line (get_or shards (length shards - 1) d))
at_last full line [] d h = absurd (omega arith)
at_last full line (shard ∷ []) d h = refl
at_last full line (shard ∷ next ∷ later) d h =
    let at : length (shard ∷ next ∷ later) - 1 ≡ suc (length (next ∷ later) - 1) = omega arith in
    rw at (ap (option_map (λ l. shard ∷ l)) (at_last full line (next ∷ later) d (omega arith)) ∙ twice (in_shard full line (get_or (next ∷ later) (length (next ∷ later) - 1) d)))
  where
    twice : (o : Option ToldShard) → option_map (λ l. shard ∷ l) (option_map (λ s. set (next ∷ later) (length (next ∷ later) - 1) s) o) ≡ option_map (λ s. shard ∷ set (next ∷ later) (length (next ∷ later) - 1) s) o
    twice None = refl
    twice (Some s) = refl

set_same : (xs : List ToldShard) (k : ℕ) (x : ToldShard) → k < length xs → x ≡ get_or xs k x → set xs k x ≡ xs
set_same [] k x l e = absurd (omega arith)
set_same (y ∷ ys) zero x l e = ap (λ z. z ∷ ys) e
set_same (y ∷ ys) (suc k) x l e = ap (λ zs. y ∷ zs) (set_same ys k x (omega arith) e)

-- a line of the last shard is one of all
pub last_steps : (full : Bool) (line : List ℕ) (shards : List ToldShard) (n : ℕ) (old new : ToldShard) (r : Result Bool NoMemory) → n ≡ length shards → 0 < n
    → old ≡ get_or shards (n - 1) old → Steps (in_shard full line old) old new r → Steps (in_last full line shards) shards (set shards (n - 1) new) r
last_steps full line shards n old new (Ok true) l h was is =
    at_last full line shards old (subst (λ m. 0 < m) l h)
    ∙ ap (λ k. option_map (λ s. set shards (k - 1) s) (in_shard full line (get_or shards (k - 1) old))) (sym l)
    ∙ ap (λ s. option_map (λ t. set shards (n - 1) t) (in_shard full line s)) (sym was)
    ∙ ap (option_map (λ t. set shards (n - 1) t)) is
last_steps full line shards n old new (Ok false) l h was is = (
  at_last full line shards old (subst (λ m. 0 < m) l h)
      ∙ ap (λ k. option_map (λ s. set shards (k - 1) s) (in_shard full line (get_or shards (k - 1) old))) (sym l)
      ∙ ap (λ s. option_map (λ t. set shards (n - 1) t) (in_shard full line s)) (sym was)
      ∙ ap (option_map (λ t. set shards (n - 1) t)) is.0,
  ap (set shards (n - 1)) is.1 ∙ set_same shards (n - 1) old (omega (arith, l, h)) was,
)
last_steps full line shards n old new (Err fault) l h was is = ap (set shards (n - 1)) is ∙ set_same shards (n - 1) old (omega (arith, l, h)) was

-- what a part of the bytes is refused for, all of them are
pub refused_in : (old now bytes : List ℕ) (i : ℕ) (byte d : ℕ) (f : TextFault) → i < length bytes → byte ≡ get_or bytes i d → now ++ drop i bytes ≡ old ++ bytes → IsRefusedSo (now ++ byte ∷ []) f → IsRefusedSo (old ++ bytes) f
refused_in old now bytes i byte d (Line number) l at is h = λ more.
    ap (λ text. read_text (text ++ more)) (sym is ∙ ap (λ bs. now ++ bs) (at_drop_more (λ bs. bs) bytes i d l ∙ ap (λ b. b ∷ drop (i + 1) bytes) (sym at)) ∙ sym (append_assoc now (byte ∷ []) (drop (i + 1) bytes)))
    ∙ ap read_text (append_assoc (now ++ byte ∷ []) (drop (i + 1) bytes) more)
    ∙ h (drop (i + 1) bytes ++ more)
refused_in old now bytes i byte d Exhausted l at is h = tt
