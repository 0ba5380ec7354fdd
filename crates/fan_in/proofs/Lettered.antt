-- From the letters of a settled lane to the journal of its shard.
use Rattle.std.proofs.Common.{◌≡◌, ◌≢◌, ◌≤◌, ◌<◌, arith, append_assoc, length-append, ℕ, suc, true, false, Bool, cond, eqb, List, [], ◌∷◌, ◌++◌, length, drop, get_or, map, sym, refl, ap, subst, ◌∙◌, ⊎_elim, lt_of_not-le, true≢false, append-nil}
use mathlib.Core.Bool.{◌||◌}
use Rattle.std.proofs.lemmas.Bool.{eqb-true}
use Rattle.std.proofs.lemmas.List.{get_or_append_left}
use Rattle.std.specs.Prelude.{All, Contains}
use native.Mathlib.Decide.{dec_le}
use Rattle.std.proofs.lemmas.List.Elements.{All-cons, All-contains, All-nil, Contains-append_right, filter-append}
use Rattle.stream_base.specs.declared.entry.Entry.{Entry}
use Rattle.stream_base.specs.Model.Routes.{entries_from}
use Rattle.stream_base.specs.Model.Watermark.{has_ended}
use Rattle.stream_base.specs.Model.What.{is_end}
use Rattle.mail_lane.specs.declared.letter.Letter.{Letter}
use Rattle.mail_lane.specs.Lane.{messages_of, sent_by}
use Rattle.mail_lane.proofs.Letters.{messages_of-among, never_empty, sent_by-past}
use Rattle.fan_in.specs.declared.outcome.Outcome.{Outcome}
use Rattle.fan_in.specs.declared.outcome.Outcome.TheVariants.{Done}
use Rattle.fan_in.specs.Owning.{HasNoted, HasStray, entries_in, note_of}
use Rattle.fan_in.specs.Reading.{AreFrom, EndsLast}
use Rattle.fan_in.specs.Settling.{HoldsSent}

-- where no entry but the last is an end, no source has ended before an entry
not_ended : (s : ℕ) (xs ys : List Entry) (e : Entry) → EndsLast (xs ++ e ∷ ys) → has_ended s xs ≡ false
not_ended s [] ys e h = refl
not_ended s (x ∷ xs) ys e h = by_end (is_end x.what) (eqb x.source s) refl refl (not_ended s xs ys e h.1)
  where
    by_end : (b c : Bool) → is_end x.what ≡ b → eqb x.source s ≡ c → has_ended s xs ≡ false → has_ended s (x ∷ xs) ≡ false
    by_end true c t u m = let n = ap length (h.0 t) in absurd (omega (arith, length-append xs (e ∷ ys)))
    by_end false true t u m = rw (t, u, m) refl
    by_end false false t u m = rw (t, u, m) refl

-- a source has ended where its own entries hold its end
ended_from : (s : ℕ) (xs : List Entry) → has_ended s xs ≡ has_ended s (entries_from s xs)
ended_from s [] = refl
ended_from s (x ∷ xs) = by_source (eqb x.source s) refl (ended_from s xs)
  where
    by_source : (c : Bool) → eqb x.source s ≡ c → has_ended s xs ≡ has_ended s (entries_from s xs) → has_ended s (x ∷ xs) ≡ has_ended s (entries_from s (x ∷ xs))
    by_source true u m = with_one xs u ∙ ap (λ b. is_end x.what || b) m ∙ sym (with_one (entries_from s xs) u) ∙ ap (has_ended s) (sym (kept u))
      where
        with_one : (l : List Entry) → eqb x.source s ≡ true → has_ended s (x ∷ l) ≡ (is_end x.what || has_ended s l)
        with_one l v = rw v refl

        kept : eqb x.source s ≡ true → entries_from s (x ∷ xs) ≡ x ∷ entries_from s xs
        kept v = rw v refl
    by_source false u m = rw (u, m) refl

-- a place among the entries of letters is a place among the letters
record IsPlace (letters : List (Letter Entry)) (before : List Entry) (entry : Entry) : Type 0 where
  front : List (Letter Entry)
  here : Letter Entry
  behind : List (Letter Entry)
  parts : letters ≡ front ++ here ∷ behind
  before_is : entries_in front ≡ before
  entry_is : here.message ≡ entry

place_of : (letters : List (Letter Entry)) (before : List Entry) (entry : Entry) (after : List Entry) → entries_in letters ≡ before ++ entry ∷ after → IsPlace letters before entry
place_of [] [] e ys h = let n = ap length h in absurd (omega arith)
place_of [] (b ∷ bs) e ys h = let n = ap length h in absurd (omega arith)
place_of (l ∷ ls) [] e ys h = record { front = []; here = l; behind = ls; parts = refl; before_is = refl; entry_is = ap (λ (es : List Entry). get_or es 0 e) h }
place_of (l ∷ ls) (b ∷ bs) e ys h =
    let more = place_of ls bs e ys (ap (drop 1) h) in
    let first : l.message ≡ b = ap (λ (es : List Entry). get_or es 0 e) h in
    record {
      front = l ∷ more.front;
      here = more.here;
      behind = more.behind;
      parts = ap (λ (x : List (Letter Entry)). l ∷ x) more.parts;
      before_is = ap (λ (x : List Entry). l.message ∷ x) more.before_is ∙ ap (λ (y : Entry). y ∷ bs) first;
      entry_is = more.entry_is;
    }

-- a letter holds an entry of its sender's source
record IsFair (n : ℕ) (x : Letter Entry) : Type 0 where
  own : x.message.source ≡ x.from
  known : x.from < n

from_letters : (n i : ℕ) (xs : List (Letter Entry)) → All (IsFair n) xs → entries_from i (entries_in xs) ≡ messages_of i xs
from_letters n i [] h = refl
from_letters n i (x ∷ xs) h = rw (ap (λ s. eqb s i) (h 0 x (omega arith)).own) (both (eqb x.from i) (entries_from i (entries_in xs)) _ (from_letters n i xs (λ k d l. h (suc k) d (omega arith))))
  where
    both : (b : Bool) (l : List Entry) (f : List (Letter Entry)) → l ≡ map (λ y. y.message) f → cond b (x.message ∷ l) l ≡ map (λ y. y.message) (cond b (x ∷ f) f)
    both true l f m = ap (λ z. x.message ∷ z) m
    both false l f m = m

module _ (n : ℕ) (taken : List (Letter Entry)) (sent : List (List Entry)) (many : length sent ≡ n) (whole : (p : ℕ) → messages_of p taken ≡ sent_by p sent) (from : (p : ℕ) → p < n → AreFrom p (sent_by p sent)) where
  these : (xs rest : List (Letter Entry)) (x : Letter Entry) → taken ≡ xs ++ x ∷ rest → messages_of x.from xs ++ x.message ∷ messages_of x.from rest ≡ sent_by x.from sent
  these xs rest x e = sym (messages_of-among xs rest x) ∙ ap (messages_of x.from) (sym e) ∙ whole x.from

  fair_at : (xs rest : List (Letter Entry)) (x : Letter Entry) → taken ≡ xs ++ x ∷ rest → Dec (n ≤ x.from) → IsFair n x
  fair_at xs rest x e (yes past) = absurd (never_empty _ _ _ (these xs rest x e ∙ sent_by-past sent x.from (omega arith)))
  fair_at xs rest x e (no within) =
      let l : x.from < n = lt_of_not-le within in
      let all = from x.from l in
      let list = messages_of x.from xs ++ x.message ∷ messages_of x.from rest in
      let is : sent_by x.from sent ≡ list = sym (these xs rest x e) in
      let inside : Contains list x.message = Contains-append_right (messages_of x.from xs) (x.message ∷ messages_of x.from rest) x.message (0, omega arith, refl) in
      record {
        own = All-contains (λ y. y.source ≡ x.from) list x.message (subst (λ (w : List Entry). All (λ y. y.source ≡ x.from) w) is all.own) inside;
        known = l;
      }

  walk : (xs rest : List (Letter Entry)) → taken ≡ xs ++ rest → All (IsFair n) rest
  walk xs [] e = All-nil (IsFair n)
  walk xs (x ∷ rest) e = All-cons (IsFair n) x rest (fair_at xs rest x e (dec_le n x.from)) (walk (xs ++ x ∷ []) rest (e ∙ sym (append_assoc xs (x ∷ []) rest)))

  all_fair : All (IsFair n) taken
  all_fair = walk [] taken refl

  -- what the owner got of a source is what was sent of it
  got_of : (i : ℕ) → entries_from i (entries_in taken) ≡ sent_by i sent
  got_of i = from_letters n i taken all_fair ∙ whole i

  front_fair : (xs ys : List (Letter Entry)) → taken ≡ xs ++ ys → All (IsFair n) xs
  front_fair xs ys e k d l =
      subst (IsFair n) (ap (λ (t : List (Letter Entry)). get_or t k d) e ∙ get_or_append_left xs ys d k l) (all_fair k d (let s = ap length e in omega (arith, length-append xs ys)))

  -- no entry came that no feed sends
  pub no_stray : HasStray n (entries_in taken) → ⊥
  no_stray h =
      let at = place_of taken h.before h.entry h.after h.parts in
      let x = at.here in
      let fair = fair_at at.front at.behind x at.parts (dec_le n x.from) in
      let source : h.entry.source ≡ x.from = ap (λ (y : Entry). y.source) (sym at.entry_is) ∙ fair.own in
      let apart : EndsLast (messages_of x.from at.front ++ x.message ∷ messages_of x.from at.behind) = subst EndsLast (sym (these at.front at.behind x at.parts)) (from x.from fair.known).last in
      let open_still : has_ended x.from (messages_of x.from at.front) ≡ false = not_ended x.from _ _ _ apart in
      let front = front_fair at.front (x ∷ at.behind) at.parts in
      let before : has_ended x.from h.before ≡ false =
      ap (has_ended x.from) (sym at.before_is) ∙ ended_from x.from (entries_in at.front) ∙ ap (has_ended x.from) (from_letters n x.from at.front front) ∙ open_still in
      ⊎_elim (λ (past : n ≤ h.entry.source). let k = fair.known in absurd (omega arith))
      (λ (ended : has_ended h.entry.source h.before ≡ true). absurd (true≢false (sym ended ∙ ap (λ s. has_ended s h.before) source ∙ before)))
      h.cause

  -- the journal holds its part of what was sent of a source
  pub holds : (k i : ℕ) (journal : List Entry) (notes : List Outcome) (stopped : Bool) → HasNoted k (entries_in taken) journal notes stopped → HoldsSent k i (sent_by i sent) (note_of i notes) journal
  holds k i journal notes stopped h =
      let parts : sent_by i sent ≡ entries_from i journal ++ entries_from i h.rest = sym (got_of i) ∙ ap (entries_from i) h.parts ∙ filter-append (λ e. eqb e.source i) journal h.rest in
      record {
        prefix = (entries_from i h.rest, parts);
        whole = λ done. sym (parts ∙ ap (λ (l : List Entry). entries_from i journal ++ l) (none_left h.rest h.noted done) ∙ append-nil (entries_from i journal));
        full = λ f. (h.full i f).0;
        lacks = λ f. let some = (h.full i f).1 in omega (arith, ap length parts, length-append (entries_from i journal) (entries_from i h.rest));
      }
    where
      none_left : (rest : List Entry) → All (λ e. note_of e.source notes ≢ Done) rest → note_of i notes ≡ Done → entries_from i rest ≡ []
      none_left [] a done = refl
      none_left (e ∷ es) a done = by_source (eqb e.source i) refl (none_left es (λ k d l. a (suc k) d (omega arith)) done)
        where
          by_source : (c : Bool) → eqb e.source i ≡ c → entries_from i es ≡ [] → entries_from i (e ∷ es) ≡ []
          by_source true u m = absurd (a 0 e (omega arith) (ap (λ s. note_of s notes) (eqb-true e.source i u) ∙ done))
          by_source false u m = rw (u, m) refl
