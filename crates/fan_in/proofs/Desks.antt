-- What an offer comes to.
use Rattle.std.proofs.Common.{◌≡◌, ◌≤◌, ◌+◌, append-nil, arith, length-append, suc, ℕ, Bool, true, false, cond, eqb, eq-eqb, ne_eqb, List, [], ◌∷◌, ◌++◌, length, drop, Option, Ok, Err, sym, refl, ap, subst, ◌∙◌}
use Rattle.std.specs.Prelude.{◌&&◌, ◌||◌, All, IfSome, IfOk, IfErr, OnOk, OnErr}
use Rattle.std.specs.List.{filter, zip}
use native.Mathlib.Decide.{ℕ_discrete}
use Rattle.std.proofs.lemmas.List.{length-map}
use Rattle.std.proofs.lemmas.List.Elements.{All-push}
use Rattle.std.proofs.lemmas.Slice.Zip.{seconds-zip}
use Rattle.std.specs.declared.result.Result.{Result}
use Rattle.stream_base.specs.declared.entry.Entry.{Entry}
use Rattle.stream_base.specs.Model.Changes.{changes_after}
use Rattle.stream_base.specs.Model.Watermark.{has_ended}
use Rattle.stream_base.specs.Model.What.{is_end}
use Rattle.shard_core.specs.declared.applied.Applied.{Applied}
use Rattle.shard_core.specs.declared.applied.ApplyFault.{ApplyFault}
use Rattle.shard_core.specs.declared.applied.ApplyFault.TheVariants.{Ended}
use Rattle.turnstile.specs.declared.pass.Pass.{Pass}
use Rattle.turnstile.specs.History.{by_number, of_number}
use Rattle.turnstile.specs.Passes.{number, seen, made, IsTurn}
use Rattle.fan_in.specs.declared.fixed_part.FixedPart.{FixedPart}
use Rattle.fan_in.specs.Desks.{BookedState, booked_items, booked_with, entries_of, items_of}
use Rattle.fan_in.specs.Offers.{Books, FoundEnded, HoldsCause, IsOffered, IsOpen, IsRefused}

cancel : {A : Type 0} (xs ys zs : List A) → xs ++ ys ≡ xs ++ zs → ys ≡ zs
cancel [] ys zs e = e
cancel (x ∷ xs) ys zs e = cancel xs ys zs (ap (drop 1) e)

unnumbered : (n : ℕ) (xs : List Entry) → entries_of (by_number n xs) ≡ xs
unnumbered n [] = refl
unnumbered n (x ∷ xs) = ap (λ l. x ∷ l) (unnumbered n xs)

zip_push : (ns : List ℕ) (es : List Entry) (n : ℕ) (e : Entry) → length ns ≡ length es → zip (ns ++ n ∷ []) (es ++ e ∷ []) ≡ zip ns es ++ (n, e) ∷ []
zip_push [] [] n e h = refl
zip_push [] (y ∷ ys) n e h = absurd (omega arith)
zip_push (x ∷ xs) [] n e h = absurd (omega arith)
zip_push (x ∷ xs) (y ∷ ys) n e h = ap (λ l. (x, y) ∷ l) (zip_push xs ys n e (let k : suc (length xs) ≡ suc (length ys) = h in omega arith))

-- one entry more is one item more
one_more : (before : BookedState) (n : ℕ) (entry : Entry) → length before.numbers ≡ length (before.shard).journal → items_of (booked_with before n entry) ≡ items_of before ++ (n, entry) ∷ []
one_more before n entry h = zip_push before.numbers (before.shard).journal n entry h

-- a booking adds at most its own item
pub adds : (before after : BookedState) (n : ℕ) (entry : Entry) (reply : Result Applied ApplyFault) → length before.numbers ≡ length (before.shard).journal
    → OnOk reply (after ≡ booked_with before n entry) → OnErr reply (after ≡ before) → (added : List Entry) × (length added ≤ 1) × (items_of after ≡ items_of before ++ by_number n added)
adds before after n entry (Ok r) h s e = (entry ∷ [], omega arith, ap items_of s ∙ one_more before n entry h)
adds before after n entry (Err f) h s e = ([], omega arith, ap items_of e ∙ sym (append-nil (items_of before)))

-- the entries of the items are the journal
pub entries-items : (b : BookedState) → length b.numbers ≡ length (b.shard).journal → entries_of (items_of b) ≡ (b.shard).journal
entries-items b h = seconds-zip b.numbers (b.shard).journal (sym h)

pub length-items : (b : BookedState) → length b.numbers ≡ length (b.shard).journal → length (b.shard).journal ≡ length (items_of b)
length-items b h = ap length (sym (entries-items b h)) ∙ length-map (items_of b) (λ i. i.1)

-- a booking adds one number and one entry
pub one_more_each : (before : BookedState) (n : ℕ) (entry : Entry) → length before.numbers ≡ length (before.shard).journal → length (booked_with before n entry).numbers ≡ length ((booked_with before n entry).shard).journal
one_more_each before n entry h = omega (arith, length-append before.numbers (n ∷ []), length-append (before.shard).journal (entry ∷ []))

-- a booking under a number that the entry may have keeps those of the others
pub still_made : (may : ℕ → Entry → Type 0) (before : BookedState) (n : ℕ) (entry : Entry) → length before.numbers ≡ length (before.shard).journal → may n entry → All (λ item. may item.0 item.1) (items_of before) → All (λ item. may item.0 item.1) (items_of (booked_with before n entry))
still_made may before n entry numbered is h =
    subst (λ (items : List (ℕ × Entry)). All (λ item. may item.0 item.1) items) (sym (one_more before n entry numbered)) (All-push (λ (item : ℕ × Entry). may item.0 item.1) (items_of before) (n, entry) h is)

same_test : (n m s : ℕ) → n ≡ m + 1 → Dec (m ≡ s) → eqb n (s + 1) ≡ eqb m s
same_test n m s e (yes is) = eq-eqb n (s + 1) (e ∙ ap (λ k. k + 1) is) ∙ sym (eq-eqb m s is)
same_test n m s e (no ne) = ne_eqb n (s + 1) (λ k. ne (omega arith)) ∙ sym (ne_eqb m s ne)

-- an item more, with the number of its source's pass
end_more : (s : ℕ) (i : ℕ × Entry) (b : Bool) (entries : List Entry) (own : List (ℕ × Entry)) → eqb i.1.source s ≡ b → has_ended s entries ≡ has_ended s (entries_of own) → has_ended s (i.1 ∷ entries) ≡ has_ended s (entries_of (cond b (i ∷ own) own))
end_more s i true entries own u h = ap (λ (x : Bool). (eqb i.1.source s && is_end i.1.what) || x) h
end_more s i false entries own u h = rw u h

-- a source's end is among the entries under the number of its pass, or nowhere
own_end : (s : ℕ) (items : List (ℕ × Entry)) → All (λ item. item.0 ≡ (item.1).source + 1) items → has_ended s (entries_of items) ≡ has_ended s (of_number (s + 1) items)
own_end s [] h = refl
own_end s (i ∷ is) h =
    let here : i.0 ≡ i.1.source + 1 = h 0 i (omega arith) in
    let test : eqb i.0 (s + 1) ≡ eqb i.1.source s = same_test i.0 i.1.source s here (ℕ_discrete i.1.source s) in
    let more : has_ended s (entries_of is) ≡ has_ended s (of_number (s + 1) is) = own_end s is (λ k d l. h (suc k) d (omega arith)) in
    rw test (end_more s i (eqb i.1.source s) (entries_of is) (filter (λ (e : ℕ × Entry). eqb e.0 (s + 1)) is) refl more)

-- a turn that books under a number that the entry may have
pub booked_of : (may : ℕ → Entry → Type 0) (entry : Entry) (old new : Pass BookedState Entry FixedPart booked_items) (reply : Result Applied ApplyFault)
    → IsTurn {g = booked_items} (λ before after n r. Books entry before after n r × All (λ item. may item.0 item.1) (items_of before)) old new reply → IsTurn {g = booked_items} (λ before after n r. Books entry before after n r) old new reply
booked_of may entry old new reply t = record {
  before = t.before;
  after = t.after;
  added = t.added;
  fixed_before = t.fixed_before;
  fixed_after = t.fixed_after;
  begins = t.begins;
  own = t.own;
  call = t.call.0;
  at_most_one = t.at_most_one;
  adds = t.adds;
  sees = t.sees;
  makes = t.makes;
}

-- where the source has ended, the turn found its end
pub found_ended : (may : ℕ → Entry → Type 0) (entry : Entry) (old new : Pass BookedState Entry FixedPart booked_items) (reply : Result Applied ApplyFault)
    → IsTurn {g = booked_items} (λ before after n r. Books entry before after n r × All (λ item. may item.0 item.1) (items_of before)) old new reply → reply ≡ Err Ended → FoundEnded {g = booked_items} may entry old
found_ended may entry old new reply t e =
    let does : Books entry t.before t.after (number old) (Err Ended) = subst (λ (r : Result Applied ApplyFault). Books entry t.before t.after (number old) r) e t.call.0 in
    record {
      found = items_of t.before;
      made_by = t.call.1;
      own = t.own;
      ended = ap (has_ended entry.source) (entries-items t.before does.numbered) ∙ does.cause;
    }

-- where each entry has the number of its source's pass, that pass made the end
pub ended_of : (entry : Entry) (old : Pass BookedState Entry FixedPart booked_items) → FoundEnded {g = booked_items} (λ n e. n ≡ e.source + 1) entry old → number old ≡ entry.source + 1 → has_ended entry.source (made old) ≡ true
ended_of entry old f n =
    ap (has_ended entry.source) (sym f.own) ∙ ap (λ (m : ℕ). has_ended entry.source (of_number m f.found)) n ∙ sym (own_end entry.source f.found f.made_by) ∙ f.ended

pub offered_of : (entry : Entry) (old new : Pass BookedState Entry FixedPart booked_items) (reply : Result Applied ApplyFault)
    → IsTurn {g = booked_items} (λ before after n r. Books entry before after n r) old new reply → IfOk reply (IsOffered {g = booked_items} entry old new)
offered_of entry old new (Ok r) t =
    let does : Books entry t.before t.after (number old) (Ok r) = t.call in
    let after : items_of t.after ≡ items_of t.before ++ (number old, entry) ∷ [] = ap items_of does.booked ∙ one_more t.before (number old) entry does.numbered in
    let one : by_number (number old) t.added ≡ (number old, entry) ∷ [] = cancel (items_of t.before) _ _ (sym t.adds ∙ after) in
    let added : t.added ≡ entry ∷ [] = sym (unnumbered (number old) t.added) ∙ ap entries_of one in
    let journal = sym (entries-items t.before does.numbered) in
    record {
      before = items_of t.before;
      begins = t.begins;
      sees = t.sees ∙ after;
      takes = subst (IsOpen entry.source) journal does.takes;
      position = does.position ∙ length-items t.before does.numbered;
      changes = subst (λ (o : Option FixedPart). IfSome o (λ f. r.changes ≡ length (changes_after f.defs f.sources (entries_of (items_of t.before)) entry))) (sym t.fixed_before)
          (does.changes ∙ ap (λ l. length (changes_after ((t.before).shard).defs ((t.before).shard).sources l entry)) journal);
      makes = t.makes ∙ ap (λ l. made old ++ l) added;
    }
offered_of entry old new (Err f) t = tt

pub refused_of : (entry : Entry) (old new : Pass BookedState Entry FixedPart booked_items) (reply : Result Applied ApplyFault)
    → IsTurn {g = booked_items} (λ before after n r. Books entry before after n r) old new reply → IfErr reply (IsRefused {g = booked_items} entry old new)
refused_of entry old new (Ok r) t = tt
refused_of entry old new (Err f) t =
    let does : Books entry t.before t.after (number old) (Err f) = t.call in
    let same : items_of t.after ≡ items_of t.before = ap items_of does.refused in
    let none : by_number (number old) t.added ≡ [] = cancel (items_of t.before) _ _ (sym t.adds ∙ same ∙ sym (append-nil (items_of t.before))) in
    let added : t.added ≡ [] = sym (unnumbered (number old) t.added) ∙ ap entries_of none in
    let sees : seen new ≡ items_of t.before = t.sees ∙ same in
    record {
      begins = (t.begins.0, sees ∙ t.begins.1);
      makes_nothing = t.makes ∙ ap (λ l. made old ++ l) added ∙ append-nil (made old);
      cause = subst (λ j. HoldsCause entry.source j f) (sym (entries-items t.before does.numbered) ∙ ap entries_of (sym sees)) does.cause;
    }
