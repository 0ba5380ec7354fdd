-- Tuples of whole first instances that have left: what is told by those that stay is what all tell.
use Rattle.std.proofs.Common.{◌≡◌, ◌∙◌, ℕ, zero, suc, ◌+◌, ◌-◌, ◌*◌, ◌/◌, ◌<◌, ◌≤◌, List, [], ◌∷◌, ◌++◌, length, get_or, take, drop, map, ap, sym, subst, refl, arith}
use Rattle.std.specs.Prelude.{slice_get}
use Rattle.std.specs.List.{range_with_len}
use Rattle.std.specs.Option.{option_map_or}
use Rattle.std.proofs.lemmas.List.{get_or-drop, length-drop, length-take-le, drop-append-le, drop-take, drop-drop, take_at}
use Rattle.std.proofs.lemmas.Nat.{div-mul-add}
use Rattle.std.proofs.Math.Nat.{mul-add-div_right, div-mul-le_self, lt-div-mul-add}
use Rattle.stream_base.specs.declared.change.Change.{Change}
use Rattle.stream_base.specs.declared.change.Change.TheVariants.{New, Again}
use Rattle.stream_base.specs.declared.def.Def.{Def}
use Rattle.stream_base.specs.declared.func.Func.{Func}
use Rattle.stream_base.specs.declared.kept.Kept.{Kept}
use Rattle.stream_base.specs.declared.limits.TheConstants.{FINAL}
use Rattle.stream_base.specs.Laws.{TimesDoNotFall, completions}
use Rattle.stream_base.specs.Model.Changes.{row_of, former_of, emissions}
use Rattle.stream_base.specs.Model.Journal.{put_in_order}
use Rattle.stream_base.specs.Model.Moments.{moment}
use Rattle.stream_base.specs.Model.Windows.{last_time, ranks}
use Rattle.count_shift.specs.Counting.{IsEvents, IsNextPosition, again_behind, again_of, count_of, later, move_changes, new_behind, new_of, next_filled, put_changes, ranks_behind, upper, upper_after}
use Rattle.count_shift.specs.Lane.{FollowsTuples, HasMoreRoom, Laned, TakesIn}
use Rattle.count_shift.proofs.Upper.{PartsAt, parts_at_upper, parts_once, put_at_upper, times_behind, times_of_put, upper_put, upper_rises}
use Rattle.count_shift.proofs.Shift.{count_is_within, put_changes_are, move_changes_are}

-- ---- numbers
-- whole instances in front of others
quotient_behind : (count gone a : ℕ) → 1 ≤ count → gone / count * count ≡ gone → (gone + a) / count ≡ gone / count + a / count
quotient_behind count gone a some whole =
    ap (λ g. (g + a) / count) (sym whole) ∙ mul-add-div_right (omega arith) (gone / count) a

-- two numbers of instances are as far apart behind others
as_far : (q a b : ℕ) → q + a - (q + b) ≡ a - b
as_far q a b = omega arith

-- numbers from so many on are those from 0 on, each so many more
map_behind : (f g : ℕ → Change) (q s n : ℕ) → ((i : ℕ) → f (q + i) ≡ g i) → map f (range_with_len (q + s) n) ≡ map g (range_with_len s n)
map_behind f g q s zero same = refl
map_behind f g q s (suc n) same =
    let next : q + s + 1 ≡ q + (s + 1) = omega arith in
    (λ j. same s j ∷ map f (range_with_len (next j) n)) ∙ ap (λ l. g s ∷ l) (map_behind f g q (s + 1) n same)

get_behind : (kept : List Kept) (gone i : ℕ) → slice_get kept (gone + i) ≡ slice_get (drop gone kept) i
get_behind kept zero i = let e : 0 + i ≡ i = omega arith in ap (slice_get kept) e
get_behind [] (suc gone) i = refl
get_behind (x ∷ xs) (suc gone) i = let e : suc gone + i ≡ suc (gone + i) = omega arith in ap (slice_get (x ∷ xs)) e ∙ get_behind xs gone i

-- ---- ranks
-- of all tuples as many lie at or before a time as of those that stay, and those that left
upper_behind : (kept : List Kept) (gone time : ℕ) → TimesDoNotFall kept → gone ≤ upper kept time → upper kept time ≡ gone + upper (drop gone kept) time
upper_behind kept gone time h early =
    let same : upper kept time - gone ≡ upper (drop gone kept) time = parts_once (drop gone kept) time (upper kept time - gone) (upper (drop gone kept) time) parts (parts_at_upper (drop gone kept) time (times_behind kept gone h)) in
    omega arith
  where
    p : PartsAt kept time (upper kept time)
    p = parts_at_upper kept time h

    at : (k : ℕ) (d : Kept) → get_or (drop gone kept) k d ≡ get_or kept (gone + k) d
    at k d = get_or-drop gone kept k d

    parts : PartsAt (drop gone kept) time (upper kept time - gone)
    parts = record {
      within = omega (arith, length-drop gone kept, p.within);
      before = λ k d l. rw (at k d) (p.before (gone + k) d (omega arith));
      behind = λ k d le l. rw (at k d) (p.behind (gone + k) d (omega arith) (omega (arith, length-drop gone kept)));
    }

-- a tuple that is put behind those that left
put_behind : (kept : List Kept) (gone : ℕ) (x : Kept) → TimesDoNotFall kept → gone ≤ upper kept x.time → drop gone (put_in_order kept x) ≡ put_in_order (drop gone kept) x
put_behind kept gone x h early =
    ap (drop gone) (put_at_upper kept x h)
    ∙ drop-append-le gone (take (upper kept x.time) kept) (x ∷ drop (upper kept x.time) kept) (omega (arith, early, length-take-le (upper kept x.time) kept p.within))
    ∙ (λ j. front j ++ x ∷ back j)
    ∙ sym (put_at_upper (drop gone kept) x (times_behind kept gone h))
  where
    p : PartsAt kept x.time (upper kept x.time)
    p = parts_at_upper kept x.time h

    rank : upper kept x.time ≡ gone + upper (drop gone kept) x.time
    rank = upper_behind kept gone x.time h early

    front : drop gone (take (upper kept x.time) kept) ≡ take (upper (drop gone kept) x.time) (drop gone kept)
    front = ap (λ n. drop gone (take n kept)) rank ∙ drop-take gone (upper (drop gone kept) x.time) kept

    back : drop (upper kept x.time) kept ≡ drop (upper (drop gone kept) x.time) (drop gone kept)
    back = let turned : gone + upper (drop gone kept) x.time ≡ upper (drop gone kept) x.time + gone = omega arith in ap (λ n. drop n kept) (rank ∙ turned) ∙ seam (upper (drop gone kept) x.time)
      where
        seam : (r : ℕ) → drop (r + gone) kept ≡ drop r (drop gone kept)
        seam r = let turned : r + gone ≡ gone + r = omega arith in ap (λ n. drop n kept) turned ∙ sym (drop-drop r gone kept)

-- ---- a lane
-- it follows a key at each later time
pub follows_later : (count early late : ℕ) (kept : List Kept) (lane : Laned) → early ≤ late → FollowsTuples count early kept lane → FollowsTuples count late kept lane
follows_later count early late kept lane le f = record {
  ordered = f.ordered;
  stay = f.stay;
  whole = f.whole;
  early = omega (arith, f.early, upper_rises kept early late f.ordered le);
}

-- and with one tuple more that comes behind those that left
pub follows_put : (count from : ℕ) (kept : List Kept) (x : Kept) (old new : Laned) → from ≤ x.time → FollowsTuples count from kept old → TakesIn x old new → FollowsTuples count from (put_in_order kept x) new
follows_put count from kept x old new le f t = record {
  ordered = times_of_put kept x f.ordered;
  stay =
      t.kept
      ∙ ap (λ l. put_in_order l x) f.stay
      ∙ sym (put_behind kept old.gone x f.ordered (omega (arith, f.early, upper_rises kept from x.time f.ordered le)))
      ∙ ap (λ g. drop g (put_in_order kept x)) (sym t.gone);
  whole = subst (λ g. g / count * count ≡ g) (sym t.gone) f.whole;
  early = omega (arith, t.gone, f.early, upper_put kept x from);
}

-- the tuples that it has itself where none has left
pub follows_own : (count time : ℕ) (lane : Laned) → lane.gone ≡ 0 → TimesDoNotFall lane.kept → FollowsTuples count time lane.kept lane
follows_own count time lane none h = record {
  ordered = h;
  stay = ap (λ g. drop g lane.kept) (sym none);
  whole = omega (arith, none, div-mul-le_self lane.gone count);
  early = omega (arith, none);
}

-- and with more room
pub follows_with_room : (count time : ℕ) (kept : List Kept) (old new : Laned) → HasMoreRoom old new → FollowsTuples count time kept old → FollowsTuples count time kept new
follows_with_room count time kept old new same f = record {
  ordered = f.ordered;
  stay = same.kept ∙ f.stay ∙ ap (λ g. drop g kept) (sym same.gone);
  whole = subst (λ g. g / count * count ≡ g) (sym same.gone) f.whole;
  early = omega (arith, same.gone, f.early);
}

module _ (count from : ℕ) (kept : List Kept) (lane : Laned) (f : FollowsTuples count from kept lane) where
  -- how many lie at or before a time
  pub reached : (time : ℕ) → from ≤ time → upper kept time ≡ lane.gone + upper lane.kept time
  reached time le =
      upper_behind kept lane.gone time f.ordered (omega (arith, f.early, upper_rises kept from time f.ordered le))
      ∙ ap (λ l. lane.gone + upper l time) (sym f.stay)

  -- how many instances they fill
  pub filled_by : 1 ≤ count → (time : ℕ) → from ≤ time → upper kept time / count ≡ lane.gone / count + upper lane.kept time / count
  filled_by some time le = ap (λ u. u / count) (reached time le) ∙ quotient_behind count lane.gone (upper lane.kept time) some f.whole

  pub filled_after : 1 ≤ count → (time water : ℕ) → from ≤ water → upper_after kept time water / count ≡ lane.gone / count + upper_after lane.kept time water / count
  filled_after some time water le =
      ap (λ u. u / count) (more (upper_after kept time water - upper kept water) (reached water le))
      ∙ quotient_behind count lane.gone (upper_after lane.kept time water) some f.whole
    where
      more : (n : ℕ) → upper kept water ≡ lane.gone + upper lane.kept water → upper_after kept time water ≡ lane.gone + upper_after lane.kept time water
      more n e = omega (arith, e)

  -- a tuple changes as many instances
  pub same_puts : 1 ≤ count → (time water : ℕ) → from ≤ time → from ≤ water → put_changes count lane.kept time water ≡ put_changes count kept time water
  same_puts some time water early le =
      sym ((λ j. filled_after some time water le j - filled_by some time early j)
      ∙ as_far (lane.gone / count) (upper_after lane.kept time water / count) (upper lane.kept time / count))

  -- and a move completes as many
  pub same_moves : 1 ≤ count → (old new : ℕ) → from ≤ old → from ≤ new → move_changes count lane.kept old new ≡ move_changes count kept old new
  same_moves some old new first then =
      sym ((λ j. filled_by some new then j - filled_by some old first j)
      ∙ as_far (lane.gone / count) (upper lane.kept new / count) (upper lane.kept old / count))

  -- the same tuple fills the next one
  pub same_next : 1 ≤ count → (water : ℕ) → from ≤ water → next_filled count lane.kept water ≡ next_filled count kept water
  same_next some water le =
      let there : lane.gone + (upper lane.kept water / count * count + count - 1) ≡ upper kept water / count * count + count - 1 = place in
      ap (λ o. option_map_or (λ (x : Kept). x.time) o FINAL)
      (ap (λ l. slice_get l (upper lane.kept water / count * count + count - 1)) f.stay
      ∙ sym (get_behind kept lane.gone (upper lane.kept water / count * count + count - 1))
      ∙ ap (slice_get kept) there)
    where
      spread : (a b n : ℕ) → (a + b) * n ≡ a * n + b * n
      spread a b n = grind arith

      place : lane.gone + (upper lane.kept water / count * count + count - 1) ≡ upper kept water / count * count + count - 1
      place = omega (arith, ap (λ q. q * count) (filled_by some water le), spread (lane.gone / count) (upper lane.kept water / count) count, f.whole)

-- ---- what is told
-- an instance of those that stay
run_behind : (count gone i : ℕ) (kept : List Kept) → gone / count * count ≡ gone → ranks count kept (gone / count + i) ≡ ranks_behind gone count (drop gone kept) i
run_behind count gone i kept whole =
    λ j. record { low = low j; high = high j; bound = last_time (run j); chosen = run j }
  where
    spread : (a b n : ℕ) → (a + b) * n ≡ a * n + b * n
    spread a b n = grind arith

    low : (gone / count + i) * count ≡ gone + i * count
    low = omega (arith, spread (gone / count) i count, whole)

    high : (gone / count + i + 1) * count ≡ gone + (i + 1) * count
    high = let next : gone / count + i + 1 ≡ gone / count + (i + 1) = omega arith in ap (λ n. n * count) next ∙ (omega (arith, spread (gone / count) (i + 1) count, whole))

    run : take count (drop ((gone / count + i) * count) kept) ≡ take count (drop (i * count) (drop gone kept))
    run = ap (λ n. take count (drop n kept)) low ∙ ap (take count) (sym (drop-drop (i * count) gone kept))

former_behind : (func : Func) (count gone i : ℕ) (kept : List Kept) → gone / count * count ≡ gone → former_of func (ranks count kept (gone / count + i)) ≡ former_of func (ranks count (drop gone kept) i)
former_behind func count gone i kept whole = ap (former_of func) (run_behind count gone i kept whole)

module _ (window : ℕ) (def : Def) (key : List ℕ) (events : IsEvents def.kind) (from : ℕ) (kept : List Kept) (lane : Laned) (f : FollowsTuples (count_of def.kind) from kept lane) (marks : List ℕ) where
  abbrev count : ℕ
  count = count_of def.kind

  some : 1 ≤ count_of def.kind
  some = (count_is_within def.kind events).0

  -- what a tuple changes
  pub put_told_behind : (x : Kept) (water : ℕ) → from ≤ x.time → from ≤ water → IsNextPosition kept x.position
      → map (again_behind lane.gone window key def.func (count_of def.kind) lane.kept (put_in_order lane.kept x)) (range_with_len (upper lane.kept x.time / count_of def.kind) (upper lane.kept water / count_of def.kind - upper lane.kept x.time / count_of def.kind))
      ++ map (new_behind lane.gone window key def.func (count_of def.kind) (put_in_order lane.kept x)) (range_with_len (upper lane.kept water / count_of def.kind) (upper_after lane.kept x.time water / count_of def.kind - upper lane.kept water / count_of def.kind))
      ≡ emissions key (moment kept marks water) (moment (put_in_order kept x) marks water) (window, def)
  put_told_behind x water early le n =
      sym (put_changes_are window def key kept marks events f.ordered x water n
      ∙ (λ j. map (again_of window key def.func count kept now) (range_with_len (rank j) (stood j - rank j)) ++ map (new_of window key def.func count now) (range_with_len (stood j) (stand j - stood j)))
      ∙ (λ j. map (again_of window key def.func count kept now) (range_with_len (q + r) (as_far q s r j)) ++ map (new_of window key def.func count now) (range_with_len (q + s) (as_far q a s j)))
      ∙ (λ j. map_behind (again_of window key def.func count kept now) (again_behind lane.gone window key def.func count lane.kept (put_in_order lane.kept x)) q r (s - r) again j
      ++ map_behind (new_of window key def.func count now) (new_behind lane.gone window key def.func count (put_in_order lane.kept x)) q s (a - s) new j))
    where
      now : List Kept
      now = put_in_order kept x

      q : ℕ
      q = lane.gone / count_of def.kind

      r : ℕ
      r = upper lane.kept x.time / count_of def.kind

      s : ℕ
      s = upper lane.kept water / count_of def.kind

      a : ℕ
      a = upper_after lane.kept x.time water / count_of def.kind

      rank : upper kept x.time / count_of def.kind ≡ lane.gone / count_of def.kind + upper lane.kept x.time / count_of def.kind
      rank = filled_by (count_of def.kind) from kept lane f some x.time early

      stood : upper kept water / count_of def.kind ≡ lane.gone / count_of def.kind + upper lane.kept water / count_of def.kind
      stood = filled_by (count_of def.kind) from kept lane f some water le

      stand : upper_after kept x.time water / count_of def.kind ≡ lane.gone / count_of def.kind + upper_after lane.kept x.time water / count_of def.kind
      stand = filled_after (count_of def.kind) from kept lane f some x.time water le

      stays : drop lane.gone (put_in_order kept x) ≡ put_in_order lane.kept x
      stays = put_behind kept lane.gone x f.ordered (omega (arith, f.early, upper_rises kept from x.time f.ordered early)) ∙ ap (λ l. put_in_order l x) (sym f.stay)

      is : (i : ℕ) → ranks (count_of def.kind) (put_in_order kept x) (lane.gone / count_of def.kind + i) ≡ ranks_behind lane.gone (count_of def.kind) (put_in_order lane.kept x) i
      is i = run_behind (count_of def.kind) lane.gone i (put_in_order kept x) f.whole ∙ ap (λ l. ranks_behind lane.gone (count_of def.kind) l i) stays

      was : (i : ℕ) → former_of def.func (ranks (count_of def.kind) kept (lane.gone / count_of def.kind + i)) ≡ former_of def.func (ranks (count_of def.kind) lane.kept i)
      was i = former_behind def.func (count_of def.kind) lane.gone i kept f.whole ∙ ap (λ l. former_of def.func (ranks (count_of def.kind) l i)) (sym f.stay)

      again : (i : ℕ) → again_of window key def.func (count_of def.kind) kept (put_in_order kept x) (lane.gone / count_of def.kind + i) ≡ again_behind lane.gone window key def.func (count_of def.kind) lane.kept (put_in_order lane.kept x) i
      again i = λ j. Again (row_of window key def.func (is i j)) (was i j)

      new : (i : ℕ) → new_of window key def.func (count_of def.kind) (put_in_order kept x) (lane.gone / count_of def.kind + i) ≡ new_behind lane.gone window key def.func (count_of def.kind) (put_in_order lane.kept x) i
      new i = λ j. New (row_of window key def.func (is i j))

  -- and what a move completes
  pub move_told_behind : (old new : ℕ) → from ≤ old → from ≤ new
      → map (new_behind lane.gone window key def.func (count_of def.kind) lane.kept) (range_with_len (upper lane.kept old / count_of def.kind) (upper lane.kept new / count_of def.kind - upper lane.kept old / count_of def.kind))
      ≡ completions key (moment kept marks old) new (window, def)
  move_told_behind old new first then =
      sym (move_changes_are window def key kept marks events f.ordered old new
      ∙ (λ j. map (new_of window key def.func count kept) (range_with_len (stood j) (stand j - stood j)))
      ∙ (λ j. map (new_of window key def.func count kept) (range_with_len (q + s) (as_far q a s j)))
      ∙ map_behind (new_of window key def.func count kept) (new_behind lane.gone window key def.func count lane.kept) q s (a - s) told)
    where
      q : ℕ
      q = lane.gone / count_of def.kind

      s : ℕ
      s = upper lane.kept old / count_of def.kind

      a : ℕ
      a = upper lane.kept new / count_of def.kind

      stood : upper kept old / count_of def.kind ≡ lane.gone / count_of def.kind + upper lane.kept old / count_of def.kind
      stood = filled_by (count_of def.kind) from kept lane f some old first

      stand : upper kept new / count_of def.kind ≡ lane.gone / count_of def.kind + upper lane.kept new / count_of def.kind
      stand = filled_by (count_of def.kind) from kept lane f some new then

      told : (i : ℕ) → new_of window key def.func (count_of def.kind) kept (lane.gone / count_of def.kind + i) ≡ new_behind lane.gone window key def.func (count_of def.kind) lane.kept i
      told i = λ j. New (row_of window key def.func ((run_behind (count_of def.kind) lane.gone i kept f.whole ∙ ap (λ l. ranks_behind lane.gone (count_of def.kind) l i) (sym f.stay)) j))

-- ---- first tuples leave
-- those of whole instances at or before a time, of a lane that follows a key
pub follows_without : (count time : ℕ) (kept : List Kept) (old new : Laned) → 1 ≤ count → FollowsTuples count time kept old → new.gone ≡ old.gone + upper old.kept time / count * count → new.kept ≡ drop (upper old.kept time / count * count) old.kept → FollowsTuples count time kept new
follows_without count time kept old new some f goes stays = record {
  ordered = f.ordered;
  stay =
      stays
      ∙ ap (drop (u / count * count)) f.stay
      ∙ drop-drop (u / count * count) old.gone kept
      ∙ ap (λ g. drop g kept) (sym goes);
  whole = subst (λ g. g / count * count ≡ g) (sym goes) full;
  early = omega (arith, goes, reached count time kept old f time (omega arith), div-mul-le_self (upper old.kept time) count);
}
  where
    u : ℕ
    u = upper old.kept time

    spread : (a b n : ℕ) → (a + b) * n ≡ a * n + b * n
    spread a b n = grind arith

    quotient : upper old.kept time / count * count / count ≡ upper old.kept time / count
    quotient = let e : upper old.kept time / count * count + 0 ≡ upper old.kept time / count * count = omega arith in ap (λ n. n / count) (sym e) ∙ div-mul-add (upper old.kept time / count) count 0 (omega arith)

    full : (old.gone + u / count * count) / count * count ≡ old.gone + u / count * count
    full =
        ap (λ n. n * count) (quotient_behind count old.gone (u / count * count) some f.whole)
        ∙ spread (old.gone / count) (u / count * count / count) count
        ∙ (λ j. f.whole j + quotient j * count)

-- what stays where they are moved to the end and cut off
pub rotated : (s : ℕ) (kept : List Kept) → s ≤ length kept → take (length kept - s) (drop s kept ++ take s kept) ≡ drop s kept
rotated s kept le = take_at (drop s kept) (take s kept) (length kept - s) (length-drop s kept)

-- fewer stay than lie behind the time and fill one instance
pub few_without : (count time : ℕ) (kept left : List Kept) → 1 ≤ count → TimesDoNotFall kept → left ≡ drop (upper kept time / count * count) kept → length left < later left time + count
few_without count time kept left some h is =
    omega (arith, ap length is, length-drop s kept, ap (λ l. upper l time) is, upper_behind kept s time h (div-mul-le_self (upper kept time) count), below (upper kept time) count some, (parts_at_upper kept time h).within, (parts_at_upper left time (subst TimesDoNotFall (sym is) (times_behind kept s h))).within)
  where
    s : ℕ
    s = upper kept time / count * count

    below : (u n : ℕ) → 1 ≤ n → u < u / n * n + n
    below u n p = lt-div-mul-add (omega arith)
