-- One entry more: its tally.
use Rattle.std.proofs.Common.{◌≡◌, ◌∙◌, ℕ, suc, ◌+◌, ◌<◌, ◌≤◌, Bool, true, false, cond, zero-le, List, [], ◌∷◌, ◌++◌, length, take, ap, sym, subst, get_or, arith, append_assoc, append-nil}
use Rattle.std.specs.List.{filter}
use Rattle.std.proofs.Math.Seq.{take-append_seam, take-append-add}
use Rattle.std.proofs.lemmas.Grind.{same_number_lists}
use Rattle.std.proofs.lemmas.List.{length-append}
use Rattle.std.proofs.lemmas.List.FromFn.{get_or-map-range_with_len, length-map-range_with_len}
use Rattle.stream_base.specs.Limits.{AreWithinLimits, Definitions}
use Rattle.stream_base.specs.declared.change.Change.{Change}
use Rattle.stream_base.specs.declared.entry.Entry.{Entry}
use Rattle.stream_base.specs.Model.Changes.{changes_after, changes_at}
use Rattle.model_laws.proofs.Positions.{changes_at_entry}
use Rattle.model_laws.proofs.RowCounts.{rows_are_counted}
use Rattle.model_laws.specs.Counts.{emitted_in, is_new_in, retracted_in, standing_count}
use Rattle.shard_core.specs.Flat.{joined}
use Rattle.shard_core.specs.Shard.{Sharded, changes_behind, sharded_with}
use Rattle.live_board.proofs.Opening.{none_stands}
use Rattle.live_board.specs.Authoring.{CountsAll}
use Rattle.live_board.specs.Tallies.{IsTallyOf, standing_counts}
use Rattle.live_board.specs.declared.tally.Tally.{Tally}

filter_short : {X : Type 0} (p : X → Bool) (xs : List X) → length (filter p xs) ≤ length xs
filter_short p [] = zero-le
filter_short p (x ∷ xs) = by (p x) (filter_short p xs)
  where
    by : (b : Bool) → length (filter p xs) ≤ length xs → length (cond b (x ∷ filter p xs) (filter p xs)) ≤ suc (length xs)
    by true h = omega (arith, h)
    by false h = omega (arith, h)

-- the rows of a window that stand, with those that come next, are no more than the changes since, and the rows then
counts_rise : (d : Definitions) (sources w : ℕ) (before rest : List Entry) (e : Entry) → AreWithinLimits d
    → standing_count d sources (before ++ rest) w + emitted_in w (changes_after d sources (before ++ rest) e) ≤ standing_count d sources before w + length (joined (changes_behind d sources before (rest ++ e ∷ [])))
counts_rise d sources w before [] e limits =
    subst (λ j. standing_count d sources j w + emitted_in w (changes_after d sources j e) ≤ standing_count d sources before w + length (joined (changes_after d sources before e ∷ []))) (sym (append-nil before))
    (omega (arith, filter_short (is_new_in w) (changes_after d sources before e), length-append (changes_after d sources before e) []))
counts_rise d sources w before (x ∷ xs) e limits =
    subst (λ j. standing_count d sources j w + emitted_in w (changes_after d sources j e) ≤ standing_count d sources before w + length (joined (changes_behind d sources before (x ∷ (xs ++ e ∷ []))))) (append_assoc before (x ∷ []) xs)
    (omega (
      arith,
      counts_rise d sources w (before ++ x ∷ []) xs e limits,
      rows_are_counted d sources w before x limits,
      filter_short (is_new_in w) (changes_after d sources before x),
      length-append (changes_after d sources before x) (joined (changes_behind d sources (before ++ x ∷ []) (xs ++ e ∷ []))),
    ))

-- so they are no more than all changes of the longer journal
pub counts_fit : (old : Sharded) (e : Entry) (changes : List Change) (w all before : ℕ) → AreWithinLimits old.defs → changes ≡ changes_after old.defs old.sources old.journal e
    → all ≡ length (joined (changes_behind old.defs old.sources [] (old.journal ++ e ∷ []))) → before ≡ standing_count old.defs old.sources old.journal w → before + emitted_in w changes ≤ all
counts_fit old e changes w all before limits is count was =
    omega (arith, counts_rise old.defs old.sources w [] old.journal e limits, none_stands old.defs old.sources w, ap (emitted_in w) is, count, was)

-- no more rows of a window are retracted than stood or came
pub retractions_fit : (old : Sharded) (e : Entry) (changes : List Change) (w before : ℕ) → AreWithinLimits old.defs → changes ≡ changes_after old.defs old.sources old.journal e
    → before ≡ standing_count old.defs old.sources old.journal w → retracted_in w changes ≤ before + emitted_in w changes
retractions_fit old e changes w before limits is was =
    omega (arith, was, ap (retracted_in w) is, ap (emitted_in w) is, rows_are_counted old.defs old.sources w old.journal e limits)

pub changes_are : (old new : Sharded) (e : Entry) (position : ℕ) (changes : List Change) → new ≡ sharded_with old e → position ≡ length old.journal → changes ≡ changes_at new.defs new.sources new.journal position
    → changes ≡ changes_after old.defs old.sources old.journal e
changes_are old new e position changes is at told =
    told ∙ ap (λ (s : Sharded). changes_at s.defs s.sources s.journal position) is ∙ ap (changes_at old.defs old.sources (old.journal ++ e ∷ [])) at ∙ changes_at_entry old.defs old.sources old.journal e []

pub count_is : (old new : Sharded) (e : Entry) (all : ℕ) → new ≡ sharded_with old e → all ≡ length (joined (changes_behind new.defs new.sources [] new.journal))
    → all ≡ length (joined (changes_behind old.defs old.sources [] (old.journal ++ e ∷ [])))
count_is old new e all is told = told ∙ ap (λ (s : Sharded). length (joined (changes_behind s.defs s.sources [] s.journal))) is

-- the tally of one entry more, by the changes that it causes
pub counted_more : (old : Sharded) (e : Entry) (changes : List Change) (t u : Tally) → AreWithinLimits old.defs → changes ≡ changes_after old.defs old.sources old.journal e
    → CountsAll old.defs old.sources old.journal t → u.entries ≡ t.entries + 1 → length u.counts ≡ 32
    → ((w : ℕ) → w < 32 → get_or u.counts w 0 + retracted_in w changes ≡ get_or t.counts w 0 + emitted_in w changes) → CountsAll old.defs old.sources (old.journal ++ e ∷ []) u
counted_more old e changes t u limits is whole one many sums = record {
  entries = omega (arith, one, whole.entries, length-append old.journal (e ∷ []));
  many = many;
  counts = λ w few. omega (arith, sums w few, whole.counts w few, ap (retracted_in w) is, ap (emitted_in w) is, rows_are_counted old.defs old.sources w old.journal e limits);
}

count_at : (d : Definitions) (sources : ℕ) (journal : List Entry) (w : ℕ) → w < 32 → get_or (standing_counts d sources journal) w 0 ≡ standing_count d sources journal w
count_at d sources journal w few = get_or-map-range_with_len (standing_count d sources journal) 0 32 w w 0 few (omega arith)

-- the tally of a journal's front
pub counts_of_front : (d : Definitions) (sources : ℕ) (whole journal rest : List Entry) (t : Tally) → IsTallyOf d sources whole t → whole ≡ journal ++ rest → t.entries ≡ length journal → CountsAll d sources journal t
counts_of_front d sources whole journal rest t tally is counted =
    let counts : t.counts ≡ standing_counts d sources journal
    = tally.counts ∙ ap (standing_counts d sources) (ap (λ n. take n whole) counted ∙ ap (take (length journal)) is ∙ take-append_seam journal rest) in
    record {
      entries = counted;
      many = ap length counts ∙ length-map-range_with_len (standing_count d sources journal) 0 32;
      counts = λ w few. ap (λ (l : List ℕ). get_or l w 0) counts ∙ count_at d sources journal w few;
    }

-- which is one of the whole journal
pub tally_of_front : (d : Definitions) (sources : ℕ) (whole journal behind : List Entry) (e : Entry) (t : Tally) → whole ≡ journal ++ e ∷ behind → CountsAll d sources (journal ++ e ∷ []) t → IsTallyOf d sources whole t
tally_of_front d sources whole journal behind e t is counts =
    let one : t.entries ≡ length journal + 1 = omega (arith, counts.entries, length-append journal (e ∷ [])) in
    record {
      within = omega (arith, one, ap length is, length-append journal (e ∷ behind));
      counts =
          same_number_lists t.counts (standing_counts d sources (journal ++ e ∷ [])) (counts.many ∙ sym (length-map-range_with_len (standing_count d sources (journal ++ e ∷ [])) 0 32))
          (λ k few. let low : k < 32 = omega (arith, few, counts.many) in counts.counts k low ∙ sym (count_at d sources (journal ++ e ∷ []) k low))
          ∙ ap (standing_counts d sources) (sym (ap (λ n. take n whole) one ∙ ap (take (length journal + 1)) is ∙ take-append-add journal (e ∷ behind) 1));
    }
