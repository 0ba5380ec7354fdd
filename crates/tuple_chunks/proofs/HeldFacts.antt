-- The tuples of a key, few or many, after an edit.
use Rattle.std.proofs.Common.{◌≡◌, ◌∙◌, ℕ, ◌<◌, ◌≤◌, List, [], Option, None, Some, ap, arith, length, refl, subst, sym}
use Rattle.std.specs.Prelude.{IfSome, nat_le}
use Rattle.std.specs.List.{filter}
use Rattle.std.proofs.lemmas.List.Elements.{All-weaker}
use Rattle.std.proofs.lemmas.List.Kept.{IsNonDecreasingBy-filter}
use Rattle.stream_base.specs.declared.kept.Kept.{Kept}
use Rattle.stream_base.specs.Laws.{TimesDoNotFall}
use Rattle.stream_base.specs.Model.Journal.{put_in_order}
use Rattle.stream_base.specs.Model.Windows.{last_time}
use Rattle.slice_lists.proofs.SliceEdits.{put_length}
use Rattle.tuple_chunks.specs.Held.{Held, IsHeld, held_of}
use Rattle.tuple_chunks.proofs.Putting.{put_times}
use Rattle.tuple_chunks.proofs.TimeFacts.{below_last, leave_all, some_stay}

-- rows with a tuple more
pub rows_put : (few : List Kept) (capacity : ℕ) (o : Option Held) (rows new : Held) (x : Kept) → o ≡ Some rows → IsHeld few capacity o → new.tuples ≡ put_in_order rows.tuples x → IsHeld few capacity (Some new)
rows_put few capacity o rows new x e h is =
    let old : IsHeld few capacity (Some rows) = subst (IsHeld few capacity) e h in
    record {
      ordered = old.ordered;
      rows_hold = record {
        some = omega (arith, ap length is, put_length rows.tuples x);
        ordered = subst TimesDoNotFall (sym is) (put_times rows.tuples x old.rows_hold.ordered);
      };
      ample = old.ample;
    }

-- rows without the tuples before a time
pub rows_drop : (few : List Kept) (capacity : ℕ) (o : Option Held) (rows new : Held) (time : ℕ) → o ≡ Some rows → IsHeld few capacity o → time ≤ last_time rows.tuples → new.tuples ≡ filter (λ (x : Kept). nat_le time x.time) rows.tuples → IsHeld few capacity (Some new)
rows_drop few capacity o rows new time e h le is =
    let old : IsHeld few capacity (Some rows) = subst (IsHeld few capacity) e h in
    record {
      ordered = old.ordered;
      rows_hold = record {
        some = subst (λ l. 0 < length l) (sym is) (some_stay time rows.tuples old.rows_hold.some le);
        ordered = subst TimesDoNotFall (sym is) (IsNonDecreasingBy-filter (λ (x : Kept). x.time) (λ (x : Kept). nat_le time x.time) rows.tuples old.rows_hold.ordered);
      };
      ample = old.ample;
    }

-- other tuples in the one list
pub few_held : (few new : List Kept) (capacity more : ℕ) (o : Option Held) → IsHeld few capacity o → TimesDoNotFall new → capacity ≤ more → IsHeld new more o
few_held few new capacity more o h t l = record { ordered = t; rows_hold = h.rows_hold; ample = ample o h.ample }
  where
    ample : (o : Option Held) → IfSome o (λ _. 1 ≤ capacity) → IfSome o (λ _. 1 ≤ more)
    ample None a = tt
    ample (Some rows) a = omega (arith, a, l)

-- the tuples in the one list, where there are no rows
pub few_left : (time : ℕ) (o : Option Held) (few new : List Kept) (room more : ℕ) → ((rows : Held) → o ≡ Some rows → ⊥) → new ≡ filter (λ (x : Kept). nat_le time x.time) few → (held_of new more o).tuples ≡ filter (λ (x : Kept). nat_le time x.time) (held_of few room o).tuples
few_left time None few new room more none e = e
few_left time (Some rows) few new room more none e = absurd (none rows refl)

-- where all tuples of rows are before a time
pub rows_leave : (time : ℕ) (o : Option Held) (rows : Held) (few : List Kept) (room capacity : ℕ) → o ≡ Some rows → IsHeld few capacity o → last_time rows.tuples < time → filter (λ (x : Kept). nat_le time x.time) (held_of few room o).tuples ≡ []
rows_leave time o rows few room capacity e h l =
    let old : IsHeld few capacity (Some rows) = subst (IsHeld few capacity) e h in
    ap (λ o. filter (λ (x : Kept). nat_le time x.time) (held_of few room o).tuples) e
    ∙ leave_all time rows.tuples (All-weaker (λ (y : Kept). y.time ≤ last_time rows.tuples) (λ y. y.time < time) (λ y m. omega (arith, m, l)) rows.tuples (below_last rows.tuples old.rows_hold.ordered))
