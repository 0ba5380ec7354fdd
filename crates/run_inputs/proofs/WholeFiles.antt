-- What a file gave that was opened, read whole, and given back.
use Rattle.std.proofs.Common.{◌≡◌, ◌∙◌, ◌<◌, ◌≤◌, ◌+◌, ◌⊎◌, ℕ, List, [], ◌∷◌, length, Result, Ok, Err, inl, inr, refl, ap, sym, subst, arith, true}
use Rattle.std.specs.Prelude.{IfOk, IfErr, IsErrOf, IsOkAnd, Vec}
use Rattle.std.specs.declared.alloc.Global.{Global}
use Rattle.stream_base.specs.Limits.{Definitions}
use Rattle.outside.specs.Outside.{Reads, Rose, back, nothing_read}
use Rattle.outside.specs.Whole.{all_read}
use Rattle.source_feed.specs.Whole.{PassesLimit, with_given}
use Rattle.source_feed.specs.declared.whole.TheConstants.{SOURCE_MAX}
use Rattle.source_feed.specs.declared.whole_fault.WholeFault.{WholeFault}
use Rattle.source_feed.specs.declared.whole_fault.WholeFault.TheVariants.{Read as WholeRead, TooLong as WholeTooLong, NoMemory as WholeMemory}
use Rattle.window_defs.specs.Reading.{reading_of}
use Rattle.window_defs.specs.declared.read.TheConstants.{BYTES_MAX}
use Rattle.window_defs.specs.declared.defs_fault.DefsFault.{DefsFault}
use Rattle.window_defs.specs.declared.defs_fault.DefsFault.TheVariants.{Long, Toml, Shape, Limit, Many, NoMemory as NoRoom}
use Rattle.emission_text.specs.declared.fault.Fault.{Fault}
use Rattle.run_inputs.specs.Causes.{AreDefinitionsRead, AreRefused, StopsAtBytes, StopsAtDefs, StopsAtReading}
use Rattle.run_inputs.specs.Judging.{IsReportRead, StopsAtReport, report_fault}
use Rattle.run_inputs.specs.Outside.{Asks, Opens, came_at}

-- a fault is in the bytes, or memory ran out
pub in_bytes_or_memory : (bytes : List ℕ) (cause : DefsFault) → (¬ (cause ≡ NoRoom) → reading_of bytes ≡ Err cause) → (reading_of bytes ≡ Err cause) ⊎ (cause ≡ NoRoom)
in_bytes_or_memory bytes Long h = inl (h (λ e. cc))
in_bytes_or_memory bytes Toml h = inl (h (λ e. cc))
in_bytes_or_memory bytes (Shape w) h = inl (h (λ e. cc))
in_bytes_or_memory bytes (Limit w) h = inl (h (λ e. cc))
in_bytes_or_memory bytes Many h = inl (h (λ e. cc))
in_bytes_or_memory bytes NoRoom h = inr refl

none_rose : (n : ℕ) → Rose 0 n → 0 < n
none_rose n (inl more) = more
none_rose n (inr last) = omega (arith, last)

-- what reading a fresh source whole came to
pub record IsReadSo (limit place : ℕ) (read : Result (Vec ℕ Global) WholeFault) (reads : Reads) : Type 0 where
  pub whole : IfOk read (λ b. reads ≡ all_read place b.items)
  pub long : IsErrOf read WholeTooLong → limit < length reads.given
  pub failed : IsErrOf read WholeRead → 0 < reads.faults

pub read_so : (limit place : ℕ) (read : Result (Vec ℕ Global) WholeFault) (old reads : Reads) → old ≡ nothing_read place
    → IfOk read (λ b. reads ≡ with_given b.items true old) → (IsErrOf read WholeTooLong → PassesLimit limit old reads) → (IsErrOf read WholeRead → Rose old.faults reads.faults)
    → IsReadSo limit place read reads
read_so limit place read old reads fresh whole long failed = record {
  whole = subst (λ (r : Reads). IfOk read (λ b. reads ≡ with_given b.items true r)) fresh whole;
  long = λ e.
      let l = subst (λ (r : Reads). PassesLimit limit r reads) fresh (long e) in
      let n = ap (λ (r : Reads). length r.given) l.given in
      let many = l.many in
      omega (arith, n, many);
  failed = λ e. none_rose reads.faults (subst (λ (r : Reads). Rose r.faults reads.faults) fresh (failed e));
}

module _ (name : List ℕ) (opens : Opens) (asked : Asks (name ∷ []) opens) (reads : Reads) (came : came_at opens 0 ≡ back reads) (read : Result (Vec ℕ Global) WholeFault) where
  module _ (so : IsReadSo BYTES_MAX (length opens.before + 0) read reads) where
    -- definitions that were read
    pub defs_read : (r : Result Definitions Fault) → IfOk r (λ d. IsOkAnd read (λ b. reading_of b.items ≡ Ok d)) → IfOk r (AreDefinitionsRead opens)
    defs_read (Err fault) h = tt
    defs_read (Ok d) h = by read so.whole h
      where
        by : (x : Result (Vec ℕ Global) WholeFault) → IfOk x (λ b. reads ≡ all_read (length opens.before + 0) b.items) → IsOkAnd x (λ b. reading_of b.items ≡ Ok d) → AreDefinitionsRead opens d
        by (Ok b) whole h = record { bytes = b.items; whole = came ∙ ap back whole; spelled = h }
        by (Err cause) whole h = absurd h

    -- why a definitions file stops a run
    pub defs_stop : (fault : Fault) → StopsAtReading read fault → StopsAtDefs name opens fault
    defs_stop fault h = by read so.whole so.long so.failed h
      where
        in_bytes : (b : List ℕ) → reads ≡ all_read (length opens.before + 0) b → StopsAtBytes b fault → StopsAtDefs name opens fault
        in_bytes b whole h = subst (StopsAtDefs name opens) (sym h.1) (asked, cause h.2)
          where
            cause : (reading_of b ≡ Err h.0) ⊎ (h.0 ≡ NoRoom) → AreRefused opens h.0
            cause (inl e) = inl (reads, came, (ap (λ (r : Reads). r.ended) whole, ap (λ (r : Reads). reading_of r.given) whole ∙ e))
            cause (inr e) = inr (inr e)

        by : (x : Result (Vec ℕ Global) WholeFault) → IfOk x (λ b. reads ≡ all_read (length opens.before + 0) b.items) → (IsErrOf x WholeTooLong → BYTES_MAX < length reads.given) → (IsErrOf x WholeRead → 0 < reads.faults)
            → StopsAtReading x fault → StopsAtDefs name opens fault
        by (Ok b) whole long failed h = in_bytes b.items whole h
        by (Err WholeRead) whole long failed h = subst (StopsAtDefs name opens) (sym h) (refl, asked, (reads, came, failed refl))
        by (Err WholeTooLong) whole long failed h = subst (StopsAtDefs name opens) (sym h) (asked, inr (inl (refl, (reads, came, long refl))))
        by (Err WholeMemory) whole long failed h = subst (StopsAtDefs name opens) (sym h) tt

  module _ (so : IsReadSo SOURCE_MAX (length opens.before + 0) read reads) where
    -- a report that was read
    pub report_read : (r : Result (Vec ℕ Global) Fault) → IfOk r (λ t. read ≡ Ok t) → IfOk read (λ b. length b.items ≤ SOURCE_MAX) → IfOk r (λ t. IsReportRead opens t.items)
    report_read (Err fault) h short = tt
    report_read (Ok t) h short = record {
      whole = came ∙ ap back (subst (λ (x : Result (Vec ℕ Global) WholeFault). IfOk x (λ b. reads ≡ all_read (length opens.before + 0) b.items)) h so.whole);
      short = subst (λ (x : Result (Vec ℕ Global) WholeFault). IfOk x (λ b. length b.items ≤ SOURCE_MAX)) h short;
    }

    -- why a report stops a check
    pub report_stop : (text : Result (Vec ℕ Global) Fault) → IfErr text (λ fault. (cause : WholeFault) × (read ≡ Err cause) × (fault ≡ report_fault cause)) → IfErr text (StopsAtReport name opens)
    report_stop (Ok t) h = tt
    report_stop (Err fault) h =
        subst (StopsAtReport name opens) (sym h.2)
        (by h.0
        (λ e. so.long (h.1 ∙ ap (λ (x : WholeFault). Err x) e))
        (λ e. so.failed (h.1 ∙ ap (λ (x : WholeFault). Err x) e)))
      where
        by : (cause : WholeFault) → (cause ≡ WholeTooLong → SOURCE_MAX < length reads.given) → (cause ≡ WholeRead → 0 < reads.faults) → StopsAtReport name opens (report_fault cause)
        by WholeRead long failed = (asked, (reads, came, failed refl))
        by WholeTooLong long failed = (asked, (reads, came, long refl))
        by WholeMemory long failed = tt
