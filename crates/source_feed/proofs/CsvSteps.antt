-- The records of bytes, one after another.
use Rattle.std.proofs.Common.{◌≡◌, ◌≤◌, ◌<◌, ◌+◌, ◌-◌, ℕ, zero, suc, List, [], ◌∷◌, ◌++◌, length, Option, None, Some, Bool, true, false, refl, ap, subst, arith, add-one, ◌∙◌}
use Rattle.std.specs.Prelude.{⊤, if◌then◌else◌, Result, Ok, Err, IfOk, IsErrAnd, MatchResult}
use Rattle.std.proofs.lemmas.Result.{err_from_is_err_and}
use Rattle.csv.specs.Machine.{Read, ends_at_end, field_after, fields_after, is_end, next_record, step, in_field, start_field}
use Rattle.csv.specs.Reading.{NextIs, ReadRecord, ReadsNext, ReadsOn, Ready, default_config, reader_trim, pending_of, records_from, records_next, source_of, strip_bom}
use Rattle.csv.specs.declared.parser.State.{State}
use Rattle.csv.specs.declared.parser.State.TheVariants as st
use Rattle.csv.specs.declared.reader.Reader.{Reader}
use Rattle.csv.specs.declared.reader.Trim.TheVariants as trim
use Rattle.source_feed.specs.RecordsLeft.{IsReadable, TookRecord, records_after, records_left}

-- a record that was read leaves the machine between two records, and at most so many bytes
abbrev pub Leaves : Option Read → ℕ → Type 0
Leaves None n = ⊤
Leaves (Some found) n = (ends_at_end found.1 ≡ false) × (length found.2 ≤ n)

looser : (o : Option Read) (m n : ℕ) → m ≤ n → Leaves o m → Leaves o n
looser None m n l h = tt
looser (Some found) m n l h = (h.0, omega (arith, h.1, l))

field_ends : (c : ℕ) → is_end (in_field default_config c).1 ≡ true → ends_at_end (in_field default_config c).0 ≡ false
field_ends c h = grind arith

start_ends : (c : ℕ) → is_end (start_field default_config c).1 ≡ true → ends_at_end (start_field default_config c).0 ≡ false
start_ends c h = grind arith

-- where a byte ends a record, the machine stands between two
step_ends : (s : State) (c : ℕ) → is_end (step default_config s c).1 ≡ true → ends_at_end (step default_config s c).0 ≡ false
step_ends st.StartRecord c h = grind arith
step_ends st.StartField c h = grind arith
step_ends st.InField c h = grind arith
step_ends st.InQuoted c h = grind arith
step_ends st.InEscape c h = grind arith
step_ends st.AfterQuote c h = grind arith
step_ends st.InComment c h = grind arith
step_ends st.AfterCr c h = grind arith

leaves : (s : State) (fields : List (List ℕ)) (field : List ℕ) (xs : List ℕ) → Leaves (next_record default_config s fields field xs) (length xs - 1)
unfolding next_record
leaves s fields field [] = ended (ends_at_end s)
  where
    ended : (b : Bool) → Leaves (if b then Some (fields ++ (field ∷ []), st.StartRecord, []) else None) 0
    ended true = (refl, omega arith)
    ended false = tt
leaves s fields field (c ∷ rest) =
    let later = leaves (step default_config s c).0 (fields_after (step default_config s c).1 fields field) (field_after (step default_config s c).1 c field) rest in
    stepped (is_end (step default_config s c).1) refl later
  where
    stepped : (b : Bool) → is_end (step default_config s c).1 ≡ b
        → Leaves (next_record default_config (step default_config s c).0 (fields_after (step default_config s c).1 fields field) (field_after (step default_config s c).1 c field) rest) (length rest - 1)
        → Leaves (if b then Some (fields_after (step default_config s c).1 fields field, (step default_config s c).0, rest) else next_record default_config (step default_config s c).0 (fields_after (step default_config s c).1 fields field) (field_after (step default_config s c).1 c field) rest) (length (c ∷ rest) - 1)
    stepped true e later = (step_ends s c e, omega arith)
    stepped false e later = looser _ (length rest - 1) (length (c ∷ rest) - 1) (omega arith) later

-- from a place between two records a record takes at least one byte
shorter : (s : State) (xs : List ℕ) (found : Read) → ends_at_end s ≡ false → next_record default_config s [] [] xs ≡ Some found → (ends_at_end found.1 ≡ false) × (length found.2 < length xs)
unfolding next_record
shorter s [] found fresh e = cc (rw fresh at e)
shorter s (c ∷ xs) found fresh e =
    let P : Option Read → Type 0 = λ o. Leaves o (length (c ∷ xs) - 1) in
    let h = subst P e (leaves s [] [] (c ∷ xs)) in
    (h.0, omega (arith, h.1))

none_left : (s : State) → ends_at_end s ≡ false → next_record default_config s [] [] [] ≡ None
unfolding next_record
none_left s fresh = rw fresh refl

-- more fuel than there are bytes changes nothing
same_fuel : (n m : ℕ) (s : State) (xs : List ℕ) → ends_at_end s ≡ false → length xs < n → length xs < m → records_from default_config n s xs ≡ records_from default_config m s xs
unfolding records_from
same_fuel zero m s xs fresh p q = absurd (omega arith)
same_fuel (suc n) zero s xs fresh p q = absurd (omega arith)
same_fuel (suc n) (suc m) s xs fresh p q = both (next_record default_config s [] [] xs) refl (same_fuel n m)
  where
    both : (o : Option Read) → next_record default_config s [] [] xs ≡ o
        → ((s : State) (xs : List ℕ) → ends_at_end s ≡ false → length xs < n → length xs < m → records_from default_config n s xs ≡ records_from default_config m s xs)
        → records_next (records_from default_config n) o ≡ records_next (records_from default_config m) o
    both None e more = refl
    both (Some found) e more =
        let h = shorter s xs found fresh e in
        ap (λ rest. found.0 ∷ rest) (more found.1 found.2 h.0 (omega (arith, h.1)) (omega (arith, h.1)))

-- the first record, and then those after it
one_step : (s : State) (xs : List ℕ) (found : Read) → ends_at_end s ≡ false → next_record default_config s [] [] xs ≡ Some found → records_after s xs ≡ found.0 ∷ records_after found.1 found.2
unfolding records_from
one_step s xs found fresh e =
    let h = shorter s xs found fresh e in
    rw (add-one, e) (ap (λ rest. found.0 ∷ rest) (same_fuel (length xs) (length found.2 + 1) found.1 found.2 h.0 h.1 (omega arith)))

no_step : (s : State) (xs : List ℕ) → next_record default_config s [] [] xs ≡ None → records_after s xs ≡ []
unfolding records_from
no_step s xs e = rw (add-one, e) refl

few_from : (n : ℕ) (s : State) (xs : List ℕ) → ends_at_end s ≡ false → length (records_from default_config n s xs) ≤ length xs
unfolding records_from
few_from zero s xs fresh = omega arith
few_from (suc n) s xs fresh = each (next_record default_config s [] [] xs) refl (few_from n)
  where
    each : (o : Option Read) → next_record default_config s [] [] xs ≡ o
        → ((s : State) (xs : List ℕ) → ends_at_end s ≡ false → length (records_from default_config n s xs) ≤ length xs)
        → length (records_next (records_from default_config n) o) ≤ length xs
    each None e more = omega arith
    each (Some found) e more =
        let h = shorter s xs found fresh e in
        omega (arith, h.1, more found.1 found.2 h.0)

-- there are at most as many records as bytes
pub few_records : (xs : List ℕ) → length (records_after st.StartRecord xs) ≤ length xs
few_records xs = few_from (length xs + 1) st.StartRecord xs refl

pub strip_bom_short : (xs : List ℕ) → length (strip_bom xs) ≤ length xs
unfolding strip_bom
strip_bom_short [] = omega arith
strip_bom_short (a ∷ []) = omega arith
strip_bom_short (a ∷ b ∷ []) = omega arith
strip_bom_short (a ∷ b ∷ c ∷ rest) = grind arith

-- what a read of a record shows of the records that were left
took : (s s2 : State) (xs : List ℕ) (fields : List (List ℕ)) (after : Option (List ℕ)) → ends_at_end s ≡ false → ReadsNext default_config s (Some xs) after true fields s2
    → (ys : List ℕ) × (after ≡ Some ys) × (ends_at_end s2 ≡ false) × (records_after s xs ≡ fields ∷ records_after s2 ys)
took s s2 xs fields None fresh h = absurd h
took s s2 xs fields (Some ys) fresh h =
    let e : next_record default_config s [] [] xs ≡ Some (fields, s2, ys) = same (next_record default_config s [] [] xs) h in
    let d = shorter s xs (fields, s2, ys) fresh e in
    (ys, refl, d.0, one_step s xs (fields, s2, ys) fresh e)
  where
    same : (o : Option Read) → NextIs o true fields s2 ys → o ≡ Some (fields, s2, ys)
    same None h = cc h
    same (Some found) h = rw (h.1, h.2, h.3) refl

none_took : (s s2 : State) (xs : List ℕ) (fields : List (List ℕ)) (after : Option (List ℕ)) → ReadsNext default_config s (Some xs) after false fields s2 → records_after s xs ≡ []
none_took s s2 xs fields None h = absurd h
none_took s s2 xs fields (Some ys) h = no_step s xs (same (next_record default_config s [] [] xs) h)
  where
    same : (o : Option Read) → NextIs o false fields s2 ys → o ≡ None
    same None h = refl
    same (Some found) h = cc h.0

-- a read that found a record took the first of those that were left
read_one : {R : Type 0} (left : R → Option (List ℕ)) (a b : Reader R) (fields : List (List ℕ))
    → IsReadable left a → ReadsOn a b → ReadRecord left a b true fields → IsReadable left b × (records_left left a ≡ fields ∷ records_left left b)
read_one left a b fields h on r =
    let t = took a.state b.state h.known.0 fields (pending_of (left b.rdr) b) h.between (rw (h.config, h.known.1) at r.0) in
    let known : source_of left b ≡ Some t.0 = rw r.1 t.1 in (
      record { config = on.0 ∙ h.config; trim = on.1 ∙ h.trim; ready = (on.4 h.ready).0; known = (t.0, known); between = t.2 },
      rw (h.known.1, known) t.3,
    )

-- a read that found no record shows that none was left
read_none : {R : Type 0} (left : R → Option (List ℕ)) (a b : Reader R) (fields : List (List ℕ))
    → IsReadable left a → ReadRecord left a b false fields → records_left left a ≡ []
read_none left a b fields h r =
    rw h.known.1 (none_took a.state b.state h.known.0 fields (pending_of (left b.rdr) b) (rw (h.config, h.known.1) at r.0))

-- what the answer of a read says of the records that were left
pub read_shows : {R E : Type 0} (left : R → Option (List ℕ)) (a b : Reader R) (fields : List (List ℕ)) (answer : Result Bool E)
    → IsReadable left a
    → IfOk answer (λ found. reader_trim a ≡ trim.None → Ready a → ReadRecord left a b found fields)
    → IfOk answer (λ found. found ≡ true → ReadsOn a b)
    → IfOk answer (TookRecord left a b fields)
read_shows left a b fields (Ok true) h reads on = read_one left a b fields h (on refl) (reads h.trim h.ready)
read_shows left a b fields (Ok false) h reads on = read_none left a b fields h (reads h.trim h.ready)
read_shows left a b fields (Err e) h reads on = tt

-- an answer with another error
pub with_other_error : {X E D : Type 0} (Q : E → D → Type 0) (answer : Result X E) (other : Result X D) (P : X → Type 0)
    → MatchResult answer (λ x. other ≡ Ok x) (λ e. IsErrAnd other (Q e)) → IfOk answer P → IfOk other P
with_other_error Q (Ok x) other P e h = rw e h
with_other_error Q (Err e) other P e' h = let p = err_from_is_err_and other e' in rw p.1 tt
