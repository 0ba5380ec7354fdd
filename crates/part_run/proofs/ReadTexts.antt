-- Reports that are read one after another.
use Rattle.std.proofs.Common.{◌≡◌, ◌∙◌, ◌<◌, ◌≤◌, ◌+◌, ◌++◌, ◌⊎◌, ℕ, List, [], ◌∷◌, length, take, get_or, Some, None, Result, Ok, Err, ap, sym, subst, refl, arith, ⊎_elim, append-nil, length-append}
use Rattle.std.specs.Prelude.{IfOk, IfErr, Vec}
use Rattle.std.specs.declared.alloc.Global.{Global}
use Rattle.std.proofs.lemmas.Bool.{cases_lt}
use Rattle.std.proofs.lemmas.List.{get_or_append_left, get_or_push, length-take-le, length_push, take_all}
use Rattle.outside.specs.Outside.{Came, Reads, back, refused}
use Rattle.source_feed.specs.declared.whole.TheConstants.{SOURCE_MAX}
use Rattle.source_feed.specs.declared.whole_fault.WholeFault.{WholeFault}
use Rattle.source_feed.specs.declared.whole_fault.WholeFault.TheVariants.{Read as WholeRead, TooLong as WholeTooLong, NoMemory as WholeMemory}
use Rattle.emission_text.specs.declared.fault.Fault.{Fault}
use Rattle.emission_text.specs.declared.fault.Fault.TheVariants as stop
use Rattle.outside.specs.Whole.{all_read}
use Rattle.run_inputs.specs.Causes.{HasFailedRead}
use Rattle.run_inputs.specs.Judging.{IsReportRead}
use Rattle.run_inputs.specs.Outside.{AreOver, Asks, CameBack, IsOver, Opens, OpensInOrder, Telling, WasReadWhole, came_at, opens_of}
use Rattle.run_inputs.proofs.Opened.{more_in_order}
use Rattle.run_inputs.proofs.Results.{if_ok}
use Rattle.run_inputs.proofs.WholeFiles.{IsReadSo, report_read}
use Rattle.part_run.specs.Joining.{AreTexts, IsStuckAt, IsTextRead, StopsAtReports, StopsAtText, text_fault}

-- ---- one report
module _ (name : List ℕ) (opens : Opens) (asked : Asks (name ∷ []) opens) (reads : Reads) (came : came_at opens 0 ≡ back reads) (read : Result (Vec ℕ Global) WholeFault)
    (so : IsReadSo SOURCE_MAX (length opens.before + 0) read reads) where
  pub text_read : (r : Result (Vec ℕ Global) Fault) → IfOk r (λ t. read ≡ Ok t) → IfOk read (λ b. length b.items ≤ SOURCE_MAX) → IfOk r (λ t. IsTextRead opens t.items)
  text_read r h short = if_ok r (λ t. IsReportRead opens t.items) (λ t. IsTextRead opens t.items) (report_read name opens asked reads came read so r h short) (λ t x. x.whole)

  pub text_stop : (report : ℕ) (r : Result (Vec ℕ Global) Fault) → IfErr r (λ fault. (cause : WholeFault) × (read ≡ Err cause) × (fault ≡ text_fault report cause)) → IfErr r (StopsAtText report opens)
  text_stop report (Ok t) h = tt
  text_stop report (Err fault) h =
      subst (StopsAtText report opens) (sym h.2)
      (by h.0
      (λ e. so.long (h.1 ∙ ap (λ (x : WholeFault). Err x) e))
      (λ e. so.failed (h.1 ∙ ap (λ (x : WholeFault). Err x) e)))
    where
      by : (cause : WholeFault) → (cause ≡ WholeTooLong → SOURCE_MAX < length reads.given) → (cause ≡ WholeRead → 0 < reads.faults) → StopsAtText report opens (text_fault report cause)
      by WholeRead long failed = (refl, (reads, came, failed refl))
      by WholeTooLong long failed = (refl, (reads, came, long refl))
      by WholeMemory long failed = tt

-- ---- one after another
module _ {F : Type 0} (asked : F → List (List ℕ)) (came : F → ℕ → Came) (told : F → Telling) (names : List (List ℕ)) where
  -- the first names were opened, and each of these opens is over
  pub record AreOpenedTo (i : ℕ) (old now : F) : Type 0 where
    pub in_order : asked now ≡ asked old ++ take i names
    pub over : AreOver (told old) (opens_of asked came old now)
    pub earlier : (j : ℕ) → j < length (asked old) → came now j ≡ came old j
    pub same : (which : List ℕ) → told now which ≡ told old which

  -- and these are their bytes
  pub record AreReadTo (i : ℕ) (old now : F) (texts : List (List ℕ)) : Type 0 where
    pub opened : AreOpenedTo i old now
    pub many : length texts ≡ i
    pub each : (j : ℕ) → j < i → WasReadWhole (opens_of asked came old now) j (get_or texts j [])

  pub none_opened : (files : F) → AreOpenedTo 0 files files
  none_opened files = record {
    in_order = sym (append-nil (asked files));
    over = λ i least within. absurd (let no : ⊥ = omega (arith, least, within) in no);
    earlier = λ j l. refl;
    same = λ which. refl;
  }

  pub none_read : (files : F) → AreReadTo 0 files files []
  none_read files = record { opened = none_opened files; many = refl; each = λ j l. absurd (let no : ⊥ = omega (arith, l) in no) }

  -- such a call opened the first names in order, and nothing else
  pub in_order_to : (i : ℕ) (old now : F) → AreOpenedTo i old now → OpensInOrder asked came told names old now
  in_order_to i old now h = record { count = i; in_order = h.in_order; over = h.over; earlier = h.earlier; same = h.same }

  module _ (i : ℕ) (name : List ℕ) (inside : i < length names) (at : get_or names i [] ≡ name) (old mid new : F) (before : AreOpenedTo i old mid)
      (opened : Asks (name ∷ []) (opens_of asked came mid new)) (first : OpensInOrder asked came told (name ∷ []) mid new) where
    pub mid_size : length (asked mid) ≡ length (asked old) + i
    mid_size =
        let n = length-take-le i names (omega (arith, inside)) in
        ap length before.in_order ∙ length-append (asked old) (take i names) ∙ ap (λ m. length (asked old) + m) n

    -- one name more
    pub opened_more : AreOpenedTo (i + 1) old new
    opened_more = record {
      in_order = more_in_order (asked old) (asked mid) (asked new) names i name inside at before.in_order opened;
      over = λ k least within. ⊎_elim
          (λ (less : k < length (asked mid)).
          subst (λ (c : Came). IsOver (told old (get_or (asked new) k [])) c) (sym (first.earlier k less))
          (subst (λ (n : List ℕ). IsOver (told old n) (came mid k)) (sym (there k less)) (before.over k least less)))
          (λ past. subst (λ t. IsOver t (came new k)) (before.same (get_or (asked new) k [])) (first.over k past within))
          (cases_lt k (length (asked mid)));
      earlier = λ j l. first.earlier j (omega (arith, l, mid_size)) ∙ before.earlier j l;
      same = λ which. first.same which ∙ before.same which;
    }
      where
        there : (k : ℕ) → k < length (asked mid) → get_or (asked new) k [] ≡ get_or (asked mid) k []
        there k less = ap (λ (a : List (List ℕ)). get_or a k []) opened ∙ get_or_append_left (asked mid) (name ∷ []) [] k less

    -- what became of the open of the name, by its place among all
    pub came_here : came_at (opens_of asked came old new) i ≡ came_at (opens_of asked came mid new) 0
    came_here = ap (came new) (omega (arith, mid_size))

    pub here_size : length (asked mid) + 0 ≡ length (asked old) + i
    here_size = omega (arith, mid_size)

    module _ (texts : List (List ℕ)) (read : AreReadTo i old mid texts) where
      stays : (j : ℕ) → j < i → WasReadWhole (opens_of asked came old new) j (get_or texts j [])
      stays j l = first.earlier (length (asked old) + j) (omega (arith, l, mid_size)) ∙ read.each j l

      -- and its bytes
      pub read_more : (text : List ℕ) → IsTextRead (opens_of asked came mid new) text → AreReadTo (i + 1) old new (texts ++ text ∷ [])
      read_more text whole = record {
        opened = opened_more;
        many = let many = read.many in omega (arith, length_push texts text, many);
        each = λ j l. ⊎_elim
            (λ (less : j < length texts).
            subst (WasReadWhole (opens_of asked came old new) j) (sym (get_or_append_left texts (text ∷ []) [] j less))
            (stays j (let many = read.many in omega (arith, less, many))))
            (λ ge.
            let many = read.many in
            let e : length texts ≡ j = omega (arith, ge, l, many) in
            let here : i ≡ j = omega (arith, e, many) in
            subst (WasReadWhole (opens_of asked came old new) j) (sym (get_or_push texts text [] j e))
            (subst (λ k. WasReadWhole (opens_of asked came old new) k text) here
            (came_here ∙ whole ∙ ap (λ n. back (all_read n text)) here_size)))
            (cases_lt j (length texts));
      }

      stuck : (P : Type 0) → P → IsStuckAt names (opens_of asked came old new) i P
      stuck P p = record {
        inside = inside;
        asked = opened_more.in_order;
        below = λ j l. (get_or texts j [], stays j l);
        cause = p;
      }

      -- or why it can't be read
      pub stuck_here : (fault : Fault) → StopsAtText i (opens_of asked came mid new) fault → StopsAtReports names (opens_of asked came old new) fault
      stuck_here stop.Usage h = h
      stuck_here (stop.Defs cause) h = h
      stuck_here (stop.Unopened None) h = h
      stuck_here (stop.Unopened (Some k)) h =
          subst (λ (n : ℕ). IsStuckAt names (opens_of asked came old new) n (came_at (opens_of asked came old new) n ≡ refused)) (sym h.0) (stuck (came_at (opens_of asked came old new) i ≡ refused) (came_here ∙ h.1))
      stuck_here (stop.Row source number why) h = h
      stuck_here (stop.Read None) h = h
      stuck_here (stop.Read (Some k)) h =
          subst (λ (n : ℕ). IsStuckAt names (opens_of asked came old new) n (CameBack (opens_of asked came old new) n HasFailedRead)) (sym h.0)
          (stuck (CameBack (opens_of asked came old new) i HasFailedRead) (h.1.0, came_here ∙ h.1.1, h.1.2))
      stuck_here (stop.FullSource k) h =
          subst (λ (n : ℕ). IsStuckAt names (opens_of asked came old new) n (CameBack (opens_of asked came old new) n (λ reads. SOURCE_MAX < length reads.given))) (sym h.0)
          (stuck (CameBack (opens_of asked came old new) i (λ reads. SOURCE_MAX < length reads.given)) (h.1.0, came_here ∙ h.1.1, h.1.2))
      stuck_here (stop.FullShard shard) h = h
      stuck_here stop.ReportOpen h = h
      stuck_here stop.ReportRead h = h
      stuck_here stop.ReportFull h = h
      stuck_here stop.NoMemory h = tt

  -- once all are read
  pub all_texts : (i : ℕ) (old now : F) (texts : List (List ℕ)) → i ≡ length names → AreReadTo i old now texts → AreTexts names (opens_of asked came old now) texts
  all_texts i old now texts whole h = record {
    asked = (h.opened).in_order ∙ ap (λ n. asked old ++ take n names) whole ∙ ap (λ ns. asked old ++ ns) (take_all (length names) names (omega arith));
    many = h.many ∙ whole;
    each = λ j l. h.each j (omega (arith, l, whole));
  }
