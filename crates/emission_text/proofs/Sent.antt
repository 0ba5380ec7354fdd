-- Texts that go out in parts.
use Rattle.std.proofs.Common.{◌≡◌, ◌++◌, ℕ, List, [], Result, Ok, Err, Option, Some, None, length, take, drop, get_or, ◌+◌, ◌-◌, ◌<◌, ◌≤◌, refl, sym, ap, subst, ◌∙◌, append_assoc, append-nil, arith}
use Rattle.std.specs.List.{flat_map}
use Rattle.std.specs.Result.{IsErr}
use Rattle.std.proofs.lemmas.Bool.{false≢true}
use Rattle.std.proofs.lemmas.Grind.{common_steps}
use Rattle.std.proofs.lemmas.List.{at_drop_more, take-append-drop}
use Rattle.std.proofs.Math.Seq.{take-append_seam}
use Rattle.outside.specs.Outside.{Rose}
use Rattle.emission_text.specs.Sending.{Appends, AppendsPrefix, Fails, Puts, Writes}
use Rattle.emission_text.specs.declared.sink_fault.SinkFault.{SinkFault}

module _ {K : Type 0} {written : K → List ℕ} {faults : K → ℕ} where
  -- all of a text is left
  pub appends_nothing : (text : List ℕ) (sink : K) → AppendsPrefix written faults text text sink sink
  appends_nothing text sink = record { prefix = []; splits = refl; appended = sym (append-nil (written sink)); quiet = refl }

  -- putting no text leaves what is pending
  pub puts_nothing : (pending : List ℕ) (sink : K) → AppendsPrefix written faults (pending ++ []) pending sink sink
  puts_nothing pending sink = subst (λ text. AppendsPrefix written faults text pending sink sink) (sym (append-nil pending)) (appends_nothing pending sink)

  -- all of a text went out
  pub appends_all : {text : List ℕ} {old new : K} → Appends written faults text old new → AppendsPrefix written faults text [] old new
  appends_all {text = text} all = record { prefix = text; splits = sym (append-nil text); appended = all.appended; quiet = all.quiet }

  -- nothing of a text is left
  pub appends_whole : {text left : List ℕ} {old new : K} → left ≡ [] → AppendsPrefix written faults text left old new → Appends written faults text old new
  appends_whole {text = text} {old = old} empty some =
      let whole : some.prefix ≡ text = sym (some.splits ∙ ap (λ left. some.prefix ++ left) empty ∙ append-nil some.prefix) in
      record { appended = some.appended ∙ ap (λ bytes. written old ++ bytes) whole; quiet = some.quiet }

  -- a prefix of the text went out, and then a prefix of what was left
  pub appends_then : {text rest left : List ℕ} {old mid new : K} → AppendsPrefix written faults text rest old mid → AppendsPrefix written faults rest left mid new → AppendsPrefix written faults text left old new
  appends_then {left = left} {old = old} first second = record {
    prefix = first.prefix ++ second.prefix;
    splits = first.splits ∙ ap (λ bytes. first.prefix ++ bytes) second.splits ∙ sym (append_assoc first.prefix second.prefix left);
    appended = second.appended ∙ ap (λ told. told ++ second.prefix) first.appended ∙ append_assoc (written old) first.prefix second.prefix;
    quiet = second.quiet ∙ first.quiet;
  }

  -- what stands behind a text stands behind what is left of it
  pub appends_before : {text left : List ℕ} {old new : K} (more : List ℕ) → AppendsPrefix written faults text left old new → AppendsPrefix written faults (text ++ more) (left ++ more) old new
  appends_before {left = left} more some = record {
    prefix = some.prefix;
    splits = ap (λ bytes. bytes ++ more) some.splits ∙ append_assoc some.prefix left more;
    appended = some.appended;
    quiet = some.quiet;
  }

  -- a write failed after a prefix of the text
  fails_at : {text : List ℕ} {old new : K} (prefix left : List ℕ) → text ≡ prefix ++ left → written new ≡ written old ++ prefix → Rose (faults old) (faults new)
      → Fails written faults text old new
  fails_at {text = text} {old = old} prefix left splits appended failed =
      let first : take (length prefix) text ≡ prefix = ap (λ bytes. take (length prefix) bytes) splits ∙ take-append_seam prefix left in
      record { count = length prefix; appended = appended ∙ ap (λ bytes. written old ++ bytes) (sym first); failed = failed }

  -- the failure of a write that took nothing
  pub fails_at_once : {text rest : List ℕ} {old mid new : K} → AppendsPrefix written faults text rest old mid → written new ≡ written mid → Rose (faults mid) (faults new)
      → Fails written faults text old new
  fails_at_once {rest = rest} {new = new} first kept failed =
      fails_at first.prefix rest first.splits (kept ∙ first.appended) (subst (λ n. Rose n (faults new)) first.quiet failed)

  -- the failure came in what was left
  pub fails_then : {text rest : List ℕ} {old mid new : K} → AppendsPrefix written faults text rest old mid → Fails written faults rest mid new → Fails written faults text old new
  fails_then {rest = rest} {old = old} {new = new} first failure =
      let taken = take failure.count rest in
      let left = drop failure.count rest in
      fails_at (first.prefix ++ taken) left
      (first.splits ∙ ap (λ bytes. first.prefix ++ bytes) (sym (take-append-drop failure.count rest)) ∙ sym (append_assoc first.prefix taken left))
      (failure.appended ∙ ap (λ told. told ++ taken) first.appended ∙ append_assoc (written old) first.prefix taken)
      (subst (λ n. Rose n (faults new)) first.quiet failure.failed)

  -- before more text
  pub fails_before : {text : List ℕ} {old new : K} (more : List ℕ) → Fails written faults text old new → Fails written faults (text ++ more) old new
  fails_before {text = text} more failure =
      let taken = take failure.count text in
      let left = drop failure.count text in
      fails_at taken (left ++ more) (ap (λ bytes. bytes ++ more) (sym (take-append-drop failure.count text)) ∙ append_assoc taken left more) failure.appended failure.failed

  -- a write failed, and so did the call
  pub put_failed : {old : K} (text pending left : List ℕ) (new : K) (answer : Result (Unit {0}) SinkFault) → IsErr answer
      → Fails written faults (pending ++ text) old new → Puts written faults text pending left old new answer
  put_failed text pending left new (Ok done) failed failure = absurd (false≢true failed)
  put_failed text pending left new (Err fault) failed failure = failure

  pub write_failed : {old : K} (text : List ℕ) (new : K) (answer : Result (Unit {0}) SinkFault) → IsErr answer → Fails written faults text old new → Writes written faults text old new answer
  write_failed text new (Ok done) failed failure = absurd (false≢true failed)
  write_failed text new (Err fault) failed failure = failure

  -- of a text of which a part is left, and then more: the part is pending, or went out
  pub part_put : {text rest left : List ℕ} {old mid new : K} (pending part more : List ℕ) → rest ≡ part ++ more
      → AppendsPrefix written faults text (pending ++ rest) old mid → AppendsPrefix written faults (pending ++ part) left mid new
      → AppendsPrefix written faults text (left ++ more) old new
  part_put {text = text} {old = old} {mid = mid} pending part more is first second =
      let behind = subst (λ bytes. AppendsPrefix written faults text bytes old mid) (ap (λ bytes. pending ++ bytes) is ∙ sym (append_assoc pending part more)) first in
      appends_then behind (appends_before more second)

  -- or a write failed
  pub part_failed : {text rest : List ℕ} {old mid new : K} (pending part more : List ℕ) → rest ≡ part ++ more
      → AppendsPrefix written faults text (pending ++ rest) old mid → Fails written faults (pending ++ part) mid new → Fails written faults text old new
  part_failed {text = text} {old = old} {mid = mid} pending part more is first failure =
      let behind = subst (λ bytes. AppendsPrefix written faults text bytes old mid) (ap (λ bytes. pending ++ bytes) is ∙ sym (append_assoc pending part more)) first in
      fails_then behind (fails_before more failure)

  -- two parts, one behind the other
  pub both_put : {left : List ℕ} {old mid : K} (pending part more last : List ℕ) (new : K) (answer : Result (Unit {0}) SinkFault)
      → AppendsPrefix written faults (pending ++ part) left old mid → Puts written faults more left last mid new answer → Puts written faults (part ++ more) pending last old new answer
  both_put {left = left} {old = old} {mid = mid} pending part more last new (Ok done) first second =
      let all = subst (λ bytes. AppendsPrefix written faults bytes (left ++ more) old mid) (append_assoc pending part more) (appends_before more first) in
      appends_then all second
  both_put {left = left} {old = old} {mid = mid} pending part more last new (Err fault) first second =
      let all = subst (λ bytes. AppendsPrefix written faults bytes (left ++ more) old mid) (append_assoc pending part more) (appends_before more first) in
      fails_then all second

  -- the first of two parts failed
  pub first_failed : {old new : K} (pending part more : List ℕ) → Fails written faults (pending ++ part) old new → Fails written faults (pending ++ (part ++ more)) old new
  first_failed {old = old} {new = new} pending part more failure =
      subst (λ bytes. Fails written faults bytes old new) (append_assoc pending part more) (fails_before more failure)

  -- what was pending went out, and then a further part was put
  pub flushed_then : {old mid : K} (pending part left : List ℕ) (new : K) (answer : Result (Unit {0}) SinkFault)
      → Appends written faults pending old mid → Puts written faults part [] left mid new answer → Puts written faults part pending left old new answer
  flushed_then pending part left new (Ok done) flushed second = appends_then (appends_before part (appends_all flushed)) second
  flushed_then pending part left new (Err fault) flushed second = fails_then (appends_before part (appends_all flushed)) second

  -- a text was put, and then what was pending went out
  pub put_then_flushed : {text left : List ℕ} {old mid : K} (new : K) (answer : Result (Unit {0}) SinkFault)
      → AppendsPrefix written faults text left old mid → Writes written faults left mid new answer → Writes written faults text old new answer
  put_then_flushed new (Ok done) first second = appends_whole refl (appends_then first (appends_all second))
  put_then_flushed new (Err fault) first second = fails_then first second

  -- a write took the first bytes of what was left
  pub appends_taken : {text : List ℕ} {old mid new : K} (rest : List ℕ) (n : ℕ) → n ≤ length rest
      → AppendsPrefix written faults text rest old mid → written new ≡ written mid ++ take n rest → faults new ≡ faults mid
      → AppendsPrefix written faults text (take (length rest - n) (drop n rest)) old new
  appends_taken {mid = mid} {new = new} rest n within first appended quiet =
      let left : take (length rest - n) (drop n rest) ≡ drop n rest = grind (arith, common_steps) in
      let taken : AppendsPrefix written faults rest (drop n rest) mid new = record { prefix = take n rest; splits = sym (take-append-drop n rest); appended = appended; quiet = quiet } in
      rw left (appends_then first taken)

  -- the part of one element of a list more
  pub element_put : {X : Type 0} {text left : List ℕ} {old mid new : K} (f : X → List ℕ) (xs : List X) (i : ℕ) (d : X) (pending : List ℕ) → i < length xs
      → AppendsPrefix written faults text (pending ++ flat_map f (drop i xs)) old mid → AppendsPrefix written faults (pending ++ f (get_or xs i d)) left mid new
      → AppendsPrefix written faults text (left ++ flat_map f (drop (i + 1) xs)) old new
  element_put f xs i d pending within =
      part_put pending (f (get_or xs i d)) (flat_map f (drop (i + 1) xs)) (at_drop_more (flat_map f) xs i d within)

  pub element_failed : {X : Type 0} {text : List ℕ} {old mid new : K} (f : X → List ℕ) (xs : List X) (i : ℕ) (d : X) (pending : List ℕ) → i < length xs
      → AppendsPrefix written faults text (pending ++ flat_map f (drop i xs)) old mid → Fails written faults (pending ++ f (get_or xs i d)) mid new → Fails written faults text old new
  element_failed f xs i d pending within =
      part_failed pending (f (get_or xs i d)) (flat_map f (drop (i + 1) xs)) (at_drop_more (flat_map f) xs i d within)

  -- the same, of an element that has a name
  pub item_put : {X : Type 0} {text left : List ℕ} {old mid new : K} (f : X → List ℕ) (xs : List X) (i : ℕ) (x : X) (pending : List ℕ) → i < length xs → x ≡ get_or xs i x
      → AppendsPrefix written faults text (pending ++ flat_map f (drop i xs)) old mid → AppendsPrefix written faults (pending ++ f x) left mid new
      → AppendsPrefix written faults text (left ++ flat_map f (drop (i + 1) xs)) old new
  item_put {left = left} {mid = mid} {new = new} f xs i x pending within is first second =
      element_put f xs i x pending within first (subst (λ item. AppendsPrefix written faults (pending ++ f item) left mid new) is second)

  pub item_failed : {X : Type 0} {text : List ℕ} {old mid new : K} (f : X → List ℕ) (xs : List X) (i : ℕ) (x : X) (pending : List ℕ) → i < length xs → x ≡ get_or xs i x
      → AppendsPrefix written faults text (pending ++ flat_map f (drop i xs)) old mid → Fails written faults (pending ++ f x) mid new → Fails written faults text old new
  item_failed {mid = mid} {new = new} f xs i x pending within is first failure =
      element_failed f xs i x pending within first (subst (λ item. Fails written faults (pending ++ f item) mid new) is failure)
