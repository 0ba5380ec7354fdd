-- Texts that go out in parts.
use Rattle.std.proofs.Common.{◌≡◌, ◌++◌, ℕ, List, [], Result, Ok, Err, length, take, drop, ◌-◌, ◌≤◌, refl, sym, ap, subst, ◌∙◌, append_assoc, append-nil, arith}
use Rattle.std.proofs.lemmas.Grind.{common_steps}
use Rattle.std.proofs.lemmas.List.{take-append-drop}
use Rattle.std.proofs.Math.Seq.{take-append_seam}
use Rattle.outside.specs.Outside.{Rose}
use Rattle.outside.specs.declared.source.Failed.{Failed}
use Rattle.rows_run.specs.Sending.{Appends, AppendsPrefix, Fails, Writes}

module _ {K : Type 0} {written : K → List ℕ} {faults : K → ℕ} where
  -- all of a text is left
  pub appends_nothing : (text : List ℕ) (sink : K) → AppendsPrefix written faults text text sink sink
  appends_nothing text sink = record { prefix = []; splits = refl; appended = sym (append-nil (written sink)); quiet = refl }

  -- nothing of a text is left
  pub appends_whole : {text left : List ℕ} {old new : K} → left ≡ [] → AppendsPrefix written faults text left old new → Appends written faults text old new
  appends_whole {text = text} {old = old} empty some =
      let whole : some.prefix ≡ text = sym (some.splits ∙ ap (λ left. some.prefix ++ left) empty ∙ append-nil some.prefix) in
      record { appended = some.appended ∙ ap (λ bytes. written old ++ bytes) whole; quiet = some.quiet }

  -- a prefix of the text went out, and then a prefix of what was left
  appends_then : {text rest left : List ℕ} {old mid new : K} → AppendsPrefix written faults text rest old mid → AppendsPrefix written faults rest left mid new → AppendsPrefix written faults text left old new
  appends_then {left = left} {old = old} first second = record {
    prefix = first.prefix ++ second.prefix;
    splits = first.splits ∙ ap (λ bytes. first.prefix ++ bytes) second.splits ∙ sym (append_assoc first.prefix second.prefix left);
    appended = second.appended ∙ ap (λ told. told ++ second.prefix) first.appended ∙ append_assoc (written old) first.prefix second.prefix;
    quiet = second.quiet ∙ first.quiet;
  }

  -- what a write took is one part more
  pub appends_taken : {text : List ℕ} {old mid new : K} (rest : List ℕ) (n : ℕ) → n ≤ length rest
      → AppendsPrefix written faults text rest old mid → written new ≡ written mid ++ take n rest → faults new ≡ faults mid
      → AppendsPrefix written faults text (take (length rest - n) (drop n rest)) old new
  appends_taken {mid = mid} {new = new} rest n within first appended quiet =
      let left : take (length rest - n) (drop n rest) ≡ drop n rest = grind (arith, common_steps) in
      let taken : AppendsPrefix written faults rest (drop n rest) mid new = record { prefix = take n rest; splits = sym (take-append-drop n rest); appended = appended; quiet = quiet } in
      rw left (appends_then first taken)

  -- a write failed after a prefix of the text
  fails_at : {text : List ℕ} {old new : K} (prefix left : List ℕ) → text ≡ prefix ++ left → written new ≡ written old ++ prefix → Rose (faults old) (faults new) → Fails written faults text old new
  fails_at {text = text} {old = old} prefix left splits appended failed =
      let first : take (length prefix) text ≡ prefix = ap (λ bytes. take (length prefix) bytes) splits ∙ take-append_seam prefix left in
      record { count = length prefix; appended = appended ∙ ap (λ bytes. written old ++ bytes) (sym first); failed = failed }

  -- the failure of a write that took nothing
  pub fails_at_once : {text rest : List ℕ} {old mid new : K} → AppendsPrefix written faults text rest old mid → written new ≡ written mid → Rose (faults mid) (faults new) → Fails written faults text old new
  fails_at_once {rest = rest} {new = new} first kept failed =
      fails_at first.prefix rest first.splits (kept ∙ first.appended) (subst (λ n. Rose n (faults new)) first.quiet failed)

  -- two texts, one behind the other
  pub both_written : {old mid : K} (a b : List ℕ) (new : K) (answer : Result (Unit {0}) Failed) → Appends written faults a old mid → Writes written faults b mid new answer → Writes written faults (a ++ b) old new answer
  both_written {old = old} a b new (Ok done) first second = record {
    appended = second.appended ∙ ap (λ told. told ++ b) first.appended ∙ append_assoc (written old) a b;
    quiet = second.quiet ∙ first.quiet;
  }
  both_written {old = old} a b new (Err fault) first second =
      fails_at (a ++ take second.count b) (drop second.count b)
      (ap (λ bytes. a ++ bytes) (sym (take-append-drop second.count b)) ∙ sym (append_assoc a (take second.count b) (drop second.count b)))
      (second.appended ∙ ap (λ told. told ++ take second.count b) first.appended ∙ append_assoc (written old) a (take second.count b))
      (subst (λ n. Rose n (faults new)) first.quiet second.failed)

  -- the first of two failed
  pub first_failed : {old new : K} (a b : List ℕ) → Fails written faults a old new → Fails written faults (a ++ b) old new
  first_failed a b failure =
      fails_at (take failure.count a) (drop failure.count a ++ b)
      (ap (λ bytes. bytes ++ b) (sym (take-append-drop failure.count a)) ∙ append_assoc (take failure.count a) (drop failure.count a) b)
      failure.appended failure.failed
