-- Each change of an entry finds what it takes for granted.
use Rattle.std.proofs.Common.{◌≡◌, ◌∙◌, ℕ, Bool, true, false, List, [], ◌∷◌, ◌++◌, ap, sym, subst, refl, ⊎_elim, inl, inr, Some}
use Rattle.std.specs.Prelude.{◌||◌, not, slice_get}
use Rattle.std.specs.declared.cmp.Ordering.TheVariants.{Less, Equal}
use Rattle.std.specs.List.{Contains, list_any}
use Rattle.std.specs.List.Sorted.{IsStrictlySortedBy}
use Rattle.std.proofs.lemmas.Bool.{false≢true, and_from}
use Rattle.std.proofs.lemmas.Map.Keys.{sorted_tail}
use Rattle.std.proofs.lemmas.Option.{same_Some}
use Rattle.stream_base.specs.Limits.{AreWithinLimits, Definitions}
use Rattle.stream_base.specs.declared.change.Change.{Change}
use Rattle.stream_base.specs.declared.change.Change.TheVariants.{Gone, New, Again, Dropped}
use Rattle.stream_base.specs.declared.def.Def.{Def}
use Rattle.stream_base.specs.declared.entry.Entry.{Entry}
use Rattle.stream_base.specs.declared.former.Former.{Former}
use Rattle.stream_base.specs.declared.row.Row.{Row}
use Rattle.std.specs.Cmp.Lexicographic.{slice_cmp}
use Rattle.std.specs.Ordering.{nat_cmp}
use Rattle.stream_base.specs.Laws.{HasInstance, IsCausedBy, IsStandingRow, by_place, place_of}
use Rattle.stream_base.specs.Model.Changes.{changes_after, moment_of, row_of, standing_at, standing_rows}
use Rattle.stream_base.specs.Model.Watermark.{water_of}
use Rattle.stream_base.specs.Model.What.{is_late}
use Rattle.stream_base.proofs.ChangeFacts.{any_from_member}
use Rattle.stream_base.proofs.Rising.{below_tail, Contains-head, Contains-tail}
use Rattle.model_laws.proofs.ChangeOrder.{by_place_total, key_tie, same_tie, tie_passes}
use Rattle.model_laws.proofs.ChangesAfter.{caused_are_listed, changes_in_order, late_is_dropped}
use Rattle.model_laws.proofs.StandingRows.{standing_rows_exactly}
use Rattle.model_laws.specs.Rows.{after_change, all_find, finds, is_at_place}
use Rattle.model_laws.proofs.Places.{Puts, SamePlace, after_cases, at_place, same_place, stays, touches}
use Rattle.model_laws.proofs.RowChanges.{standing}

-- ---- rows in a place
there : (row : Row) (rows : List Row) → list_any (is_at_place row) rows ≡ true → (x : Row) × Contains rows x × (is_at_place row x ≡ true)
there row [] h = absurd (false≢true h)
there row (y ∷ rows) h = by (is_at_place row y) refl h (there row rows)
  where
    by : (b : Bool) → is_at_place row y ≡ b → (b || list_any (is_at_place row) rows) ≡ true → (list_any (is_at_place row) rows ≡ true → (x : Row) × Contains rows x × (is_at_place row x ≡ true)) → (x : Row) × Contains (y ∷ rows) x × (is_at_place row x ≡ true)
    by true e g later = (y, Contains-head y rows, e)
    by false e g later = let t = later g in (t.0, Contains-tail y rows t.0 t.1, t.2)

same_any : (row : Row) (rows others : List Row) → ((x : Row) → is_at_place row x ≡ true → Contains rows x → Contains others x) → ((x : Row) → is_at_place row x ≡ true → Contains others x → Contains rows x)
    → list_any (is_at_place row) rows ≡ list_any (is_at_place row) others
same_any row rows others to from = by (list_any (is_at_place row) rows) refl (list_any (is_at_place row) others) refl
  where
    by : (b : Bool) → list_any (is_at_place row) rows ≡ b → (c : Bool) → list_any (is_at_place row) others ≡ c → b ≡ c
    by true e true f = refl
    by false e false f = refl
    by true e false f = let t = there row rows e in absurd (false≢true (sym f ∙ any_from_member (is_at_place row) others t.0 (to t.0 t.2 t.1) t.2))
    by false e true f = let t = there row others f in absurd (false≢true (sym e ∙ any_from_member (is_at_place row) rows t.0 (from t.0 t.2 t.1) t.2))

place_passes : (r s t : Row) → is_at_place r s ≡ true → is_at_place r t ≡ true → is_at_place s t ≡ true
place_passes r s t h g =
    let p : SamePlace r s = same_place r s h in
    let q : SamePlace r t = same_place r t g in
    at_place s t (record { key = sym p.key ∙ q.key; window = sym p.window ∙ q.window; low = sym p.low ∙ q.low; high = sym p.high ∙ q.high })

place_turns : (r s : Row) → is_at_place r s ≡ true → is_at_place s r ≡ true
place_turns r s h = place_passes r s r h (at_place r r (record { key = refl; window = refl; low = refl; high = refl }))

-- a change that touches a row's place touches each row in it
touch_moves : (c : Change) (r s : Row) → touches c r ≡ true → is_at_place r s ≡ true → touches c s ≡ true
touch_moves (Gone row) r s h g = place_passes r row s (place_turns row r h) g
touch_moves (New row) r s h g = place_passes r row s (place_turns row r h) g
touch_moves (Again row former) r s h g = place_passes r row s (place_turns row r h) g
touch_moves Dropped r s h g = absurd (false≢true h)

put_touches : (c : Change) (x : Row) → Puts c x → touches c x ≡ true
put_touches c x (inl e) = subst (λ k. touches k x ≡ true) (sym e) (at_place x x (record { key = refl; window = refl; low = refl; high = refl }))
put_touches c x (inr p) = subst (λ k. touches k x ≡ true) (sym p.1) (at_place x x (record { key = refl; window = refl; low = refl; high = refl }))

untouched : (c : Change) (row x : Row) → touches c row ≡ false → is_at_place row x ≡ true → touches c x ≡ false
untouched c row x h g = by (touches c x) refl
  where
    by : (b : Bool) → touches c x ≡ b → touches c x ≡ false
    by false e = e
    by true e = absurd (false≢true (sym h ∙ touch_moves c x row e (place_turns row x g)))

-- a change in another place leaves whether a row stands in this one
any_stays : (rows : List Row) (c : Change) (row : Row) → touches c row ≡ false → list_any (is_at_place row) (after_change rows c) ≡ list_any (is_at_place row) rows
any_stays rows c row h =
    same_any row (after_change rows c) rows
    (λ x p d. ⊎_elim (λ puts. absurd (false≢true (sym (untouched c row x h p) ∙ put_touches c x puts))) (λ q. q.0) (after_cases rows c x d))
    (λ x p d. stays rows c x d (untouched c row x h p))

-- a change touches the place of another
abbrev hits : Change → Change → Bool
hits c (Gone row) = touches c row
hits c (New row) = touches c row
hits c (Again row former) = touches c row
hits c Dropped = false

finds_still : (rows : List Row) (c k : Change) → hits c k ≡ false → finds rows k ≡ true → finds (after_change rows c) k ≡ true
finds_still rows c (Gone row) h f = any_stays rows c row h ∙ f
finds_still rows c (New row) h f = ap not (any_stays rows c row h) ∙ f
finds_still rows c (Again row former) h f = any_stays rows c row h ∙ f
finds_still rows c Dropped h f = refl

-- no change touches the place of a later one
abbrev AreApart : List Change → Type 0
AreApart [] = Unit {0}
AreApart (c ∷ cs) = ((k : Change) → Contains cs k → hits c k ≡ false) × AreApart cs

all_finds : (rows : List Row) (changes : List Change) → AreApart changes → ((c : Change) → Contains changes c → finds rows c ≡ true) → all_find rows changes ≡ true
all_finds rows [] a h = refl
all_finds rows (c ∷ cs) a h =
    and_from (finds rows c) (all_find (after_change rows c) cs) (h c (Contains-head c cs))
    (all_finds (after_change rows c) cs a.1 (λ k d. finds_still rows c k (a.0 k d) (h k (Contains-tail c cs k d))))

-- ---- the changes of an entry
module _ (d : Definitions) (sources : ℕ) (before : List Entry) (e : Entry) (limits : AreWithinLimits d) (on_time : is_late d.lateness (water_of sources before) e.what ≡ false) where
  abbrev after : List Entry
  after = before ++ e ∷ []

  -- where no instance stands so, no row stands in the place
  no_row : (journal : List Entry) (key : List ℕ) (row x : Row) (def : Def) → row.key ≡ key → slice_get d.windows row.window ≡ Some def
      → (¬ HasInstance (standing_at def (moment_of d sources key journal)) row.low row.high) → IsStandingRow d sources journal x → is_at_place row x ≡ true → ⊥
  no_row journal key row x def own of_window none h p =
      let place : SamePlace row x = same_place row x p in
      let keyed : x.key ≡ key = sym place.key ∙ own in
      let same : h.def ≡ def = same_Some h.def def (sym h.of_window ∙ ap (slice_get d.windows) (sym place.window) ∙ of_window) in
      let stands : Contains (standing_at h.def (moment_of d sources key journal)) h.instance = subst (λ k. Contains (standing_at h.def (moment_of d sources k journal)) h.instance) keyed h.stands in
      none (
        h.instance,
        subst (λ w. Contains (standing_at w (moment_of d sources key journal)) h.instance) same stands,
        sym (ap (λ (s : Row). s.low) h.shows) ∙ sym place.low,
        sym (ap (λ (s : Row). s.high) h.shows) ∙ sym place.high,
      )

  finds_first : (c : Change) → IsCausedBy d sources before e c → finds (standing_rows d sources before) c ≡ true
  finds_first (Gone row) caused =
      let r = caused.1 in
      let c : Contains (standing_rows d sources before) row = (standing_rows_exactly d sources before row).1 (standing d sources before caused.0 row r.def r.before r.of_window r.stood r.showed) in
      any_from_member (is_at_place row) (standing_rows d sources before) row c (at_place row row (record { key = refl; window = refl; low = refl; high = refl }))
  finds_first (New row) caused = by (list_any (is_at_place row) (standing_rows d sources before)) refl
    where
      by : (b : Bool) → list_any (is_at_place row) (standing_rows d sources before) ≡ b → not b ≡ true
      by false f = refl
      by true f =
          let r = caused.1 in
          let t = there row (standing_rows d sources before) f in
          let none : ¬ HasInstance (standing_at r.def (moment_of d sources caused.0 before)) row.low row.high
          = λ h. r.did_not_stand (h.0, h.1, h.2 ∙ ap (λ (s : Row). s.low) r.shows, h.3 ∙ ap (λ (s : Row). s.high) r.shows) in
          absurd (no_row before caused.0 row t.0 r.def (ap (λ (s : Row). s.key) r.shows) r.of_window none ((standing_rows_exactly d sources before t.0).0 t.1) t.2)
  finds_first (Again row former) caused =
      let r = caused.1 in
      let old : Row = row_of row.window caused.0 r.def.func r.before in
      let c : Contains (standing_rows d sources before) old = (standing_rows_exactly d sources before old).1 (standing d sources before caused.0 old r.def r.before r.of_window r.stood refl) in
      any_from_member (is_at_place row) (standing_rows d sources before) old c (at_place row old (record {
        key = ap (λ (s : Row). s.key) r.shows;
        window = refl;
        low = ap (λ (s : Row). s.low) r.shows ∙ sym r.same_start;
        high = ap (λ (s : Row). s.high) r.shows ∙ sym r.same_end;
      }))
  finds_first Dropped caused = absurd caused.1

  -- a retraction's place has no row behind the entry
  gone_place : (row x : Row) → IsCausedBy d sources before e (Gone row) → IsStandingRow d sources after x → is_at_place row x ≡ true → ⊥
  gone_place row x caused h p =
      let r = caused.1 in
      no_row after caused.0 row x r.def (ap (λ (s : Row). s.key) r.showed) r.of_window
      (λ g. r.stands_no_longer (g.0, g.1, g.2 ∙ ap (λ (s : Row). s.low) r.showed, g.3 ∙ ap (λ (s : Row). s.high) r.showed)) h p

  new_stands : (row : Row) → IsCausedBy d sources before e (New row) → IsStandingRow d sources after row
  new_stands row caused = let r = caused.1 in standing d sources after caused.0 row r.def r.now r.of_window r.stands r.shows

  again_stands : (row : Row) (former : Former) → IsCausedBy d sources before e (Again row former) → IsStandingRow d sources after row
  again_stands row former caused = let r = caused.1 in standing d sources after caused.0 row r.def r.now r.of_window r.stands r.shows

  places_tie : (c k : Change) → (place_of c).key ≡ (place_of k).key → (place_of c).comes ≡ (place_of k).comes → (place_of c).window ≡ (place_of k).window → (place_of c).low ≡ (place_of k).low → (place_of c).high ≡ (place_of k).high → by_place c k ≡ Equal
  places_tie c k key comes window low high =
      tie_passes (slice_cmp nat_cmp (place_of c).key (place_of k).key) _ (key_tie (place_of c).key (place_of k).key key)
      ∙ tie_passes (nat_cmp (place_of c).comes (place_of k).comes) _ (same_tie (place_of c).comes (place_of k).comes comes)
      ∙ tie_passes (nat_cmp (place_of c).window (place_of k).window) _ (same_tie (place_of c).window (place_of k).window window)
      ∙ tie_passes (nat_cmp (place_of c).low (place_of k).low) (nat_cmp (place_of c).high (place_of k).high) (same_tie (place_of c).low (place_of k).low low)
      ∙ same_tie (place_of c).high (place_of k).high high

  deny : (b : Bool) → (b ≡ true → ⊥) → b ≡ false
  deny false h = refl
  deny true h = absurd (h refl)

  tied_less : (c k : Change) → by_place c k ≡ Less → by_place c k ≡ Equal → ⊥
  tied_less c k l t = cc

  one_kind : (c k : Change) (r s : Row) → (place_of c).comes ≡ (place_of k).comes → r.key ≡ (place_of c).key → s.key ≡ (place_of k).key → r.window ≡ (place_of c).window → s.window ≡ (place_of k).window
      → r.low ≡ (place_of c).low → s.low ≡ (place_of k).low → r.high ≡ (place_of c).high → s.high ≡ (place_of k).high → by_place c k ≡ Less → is_at_place r s ≡ true → ⊥
  one_kind c k r s comes rk sk rw_ sw rl sl rh sh less p =
      let place : SamePlace r s = same_place r s p in
      tied_less c k less (places_tie c k (sym rk ∙ place.key ∙ sk) comes (sym rw_ ∙ place.window ∙ sw) (sym rl ∙ place.low ∙ sl) (sym rh ∙ place.high ∙ sh))

  apart_pair : (c k : Change) → IsCausedBy d sources before e c → IsCausedBy d sources before e k → by_place c k ≡ Less → hits c k ≡ false
  apart_pair (Gone r) (Gone s) h g less = deny (is_at_place r s) (one_kind (Gone r) (Gone s) r s refl refl refl refl refl refl refl refl refl less)
  apart_pair (Gone r) (New s) h g less = deny (is_at_place r s) (gone_place r s h (new_stands s g))
  apart_pair (Gone r) (Again s former) h g less = deny (is_at_place r s) (gone_place r s h (again_stands s former g))
  apart_pair (New r) (Gone s) h g less = deny (is_at_place r s) (λ p. gone_place s r g (new_stands r h) (place_turns r s p))
  apart_pair (New r) (New s) h g less = deny (is_at_place r s) (one_kind (New r) (New s) r s refl refl refl refl refl refl refl refl refl less)
  apart_pair (New r) (Again s former) h g less = deny (is_at_place r s) (one_kind (New r) (Again s former) r s refl refl refl refl refl refl refl refl refl less)
  apart_pair (Again r was) (Gone s) h g less = deny (is_at_place r s) (λ p. gone_place s r g (again_stands r was h) (place_turns r s p))
  apart_pair (Again r was) (New s) h g less = deny (is_at_place r s) (one_kind (Again r was) (New s) r s refl refl refl refl refl refl refl refl refl less)
  apart_pair (Again r was) (Again s former) h g less = deny (is_at_place r s) (one_kind (Again r was) (Again s former) r s refl refl refl refl refl refl refl refl refl less)
  apart_pair Dropped (Gone s) h g less = refl
  apart_pair Dropped (New s) h g less = refl
  apart_pair Dropped (Again s former) h g less = refl
  apart_pair c Dropped h g less = refl

  apart_all : (changes : List Change) → IsStrictlySortedBy by_place changes → ((c : Change) → Contains changes c → IsCausedBy d sources before e c) → AreApart changes
  apart_all [] s h = tt
  apart_all (c ∷ cs) s h = (
    (λ k g. apart_pair c k (h c (Contains-head c cs)) (h k (Contains-tail c cs k g)) (below_tail by_place_total c cs s k g)),
    apart_all cs (sorted_tail by_place c cs s) (λ k g. h k (Contains-tail c cs k g)),
  )

  on_time_finds : all_find (standing_rows d sources before) (changes_after d sources before e) ≡ true
  on_time_finds =
      let caused : (c : Change) → Contains (changes_after d sources before e) c → IsCausedBy d sources before e c = λ c g. caused_are_listed d sources before e c on_time g in
      all_finds (standing_rows d sources before) (changes_after d sources before e)
      (apart_all (changes_after d sources before e) (changes_in_order d sources before e limits) caused)
      (λ c g. finds_first c (caused c g))

pub changes_find : (d : Definitions) (sources : ℕ) (before : List Entry) (e : Entry) → AreWithinLimits d → all_find (standing_rows d sources before) (changes_after d sources before e) ≡ true
changes_find d sources before e limits = by (is_late d.lateness (water_of sources before) e.what) refl
  where
    by : (b : Bool) → is_late d.lateness (water_of sources before) e.what ≡ b → all_find (standing_rows d sources before) (changes_after d sources before e) ≡ true
    by true late = ap (all_find (standing_rows d sources before)) (late_is_dropped d sources before e late)
    by false on_time = on_time_finds d sources before e limits on_time
