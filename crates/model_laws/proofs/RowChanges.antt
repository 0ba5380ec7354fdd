-- Changes lead to what stands.
use Rattle.std.proofs.Common.{◌≡◌, ◌∙◌, ℕ, Bool, true, false, List, [], ◌∷◌, ◌++◌, ap, sym, subst, refl, ⊎_elim, inl, inr, Some}
use Rattle.std.specs.Prelude.{◌⊎◌, slice_get}
use Rattle.std.specs.List.{Contains}
use Rattle.std.proofs.lemmas.Bool.{false≢true}
use Rattle.std.proofs.lemmas.Option.{same_Some}
use Rattle.stream_base.specs.Limits.{AreWithinLimits, Definitions}
use Rattle.stream_base.specs.declared.change.Change.{Change}
use Rattle.stream_base.specs.declared.change.Change.TheVariants.{Gone, New, Again, Dropped}
use Rattle.stream_base.specs.declared.def.Def.{Def}
use Rattle.stream_base.specs.declared.entry.Entry.{Entry}
use Rattle.stream_base.specs.declared.former.Former.{Former}
use Rattle.stream_base.specs.declared.row.Row.{Row}
use Rattle.stream_base.specs.Laws.{HasInstance, IsCausedBy, IsEmitted, IsRetracted, IsStandingRow, IsUpdated}
use Rattle.stream_base.specs.Model.Changes.{are_same_tuples, changes_after, former_of, moment_of, row_of, standing_at, standing_rows}
use Rattle.stream_base.specs.Model.Journal.{keys_of}
use Rattle.stream_base.specs.Model.Watermark.{water_of}
use Rattle.stream_base.specs.Model.What.{is_late}
use Rattle.stream_base.specs.Model.Windows.{Instance}
use Rattle.stream_base.proofs.Rising.{same_members_same_list}
use Rattle.model_laws.proofs.ChangeList.{positions_same_tuples}
use Rattle.model_laws.proofs.ChangesAfter.{caused_are_all_listed, caused_are_listed, late_is_dropped, moment_of_late}
use Rattle.model_laws.proofs.StandingRows.{by_row_total, standing_rows_exactly, standing_rows_in_order}
use Rattle.model_laws.specs.Rows.{is_at_place, rows_after}
use Rattle.model_laws.proofs.Choosing.{has_or_not, same_chosen, same_row}
use Rattle.model_laws.proofs.Places.{Among, Puts, SamePlace, at_place, one_of_a_place, rows_cases, rows_have, same_place, sorted_rows, touches}

pub nothing_first : (d : Definitions) (sources : ℕ) → standing_rows d sources [] ≡ []
unfolding standing_rows keys_of
nothing_first d sources = refl

-- the row that an instance of its window and key shows stands
pub standing : (d : Definitions) (sources : ℕ) (journal : List Entry) (key : List ℕ) (row : Row) (def : Def) (i : Instance)
    → slice_get d.windows row.window ≡ Some def → Contains (standing_at def (moment_of d sources key journal)) i → row ≡ row_of row.window key def.func i → IsStandingRow d sources journal row
standing d sources journal key row def i of_window stands shows =
    let own : row.key ≡ key = ap (λ (r : Row). r.key) shows in
    record {
      def = def;
      of_window = of_window;
      instance = i;
      stands = subst (λ k. Contains (standing_at def (moment_of d sources k journal)) i) (sym own) stands;
      shows = subst (λ k. row ≡ row_of row.window k def.func i) (sym own) shows;
    }

module _ (d : Definitions) (sources : ℕ) (before : List Entry) (e : Entry) (limits : AreWithinLimits d) where
  abbrev after : List Entry
  after = before ++ e ∷ []

  abbrev Old : Row → Type 0
  Old x = IsStandingRow d sources before x

  abbrev Now : Row → Type 0
  Now x = IsStandingRow d sources after x

  -- ---- an entry that is late
  late_alike : is_late d.lateness (water_of sources before) e.what ≡ true → (x : Row) → Now x → Old x
  late_alike late x h = record {
    def = h.def;
    of_window = h.of_window;
    instance = h.instance;
    stands = subst (λ m. Contains (standing_at h.def m) h.instance) (moment_of_late d sources x.key before e late) h.stands;
    shows = h.shows;
  }

  late_back : is_late d.lateness (water_of sources before) e.what ≡ true → (x : Row) → Old x → Now x
  late_back late x h = record {
    def = h.def;
    of_window = h.of_window;
    instance = h.instance;
    stands = subst (λ m. Contains (standing_at h.def m) h.instance) (sym (moment_of_late d sources x.key before e late)) h.stands;
    shows = h.shows;
  }

  late_follows : is_late d.lateness (water_of sources before) e.what ≡ true → standing_rows d sources after ≡ rows_after (standing_rows d sources before) (changes_after d sources before e)
  late_follows late =
      same_members_same_list by_row_total (standing_rows d sources after) (standing_rows d sources before) (standing_rows_in_order d sources after limits) (standing_rows_in_order d sources before limits)
      (λ x c. (standing_rows_exactly d sources before x).1 (late_alike late x ((standing_rows_exactly d sources after x).0 c)))
      (λ x c. (standing_rows_exactly d sources after x).1 (late_back late x ((standing_rows_exactly d sources before x).0 c)))
      ∙ ap (rows_after (standing_rows d sources before)) (sym (late_is_dropped d sources before e late))

  -- ---- an entry that is not
  module _ (on_time : is_late d.lateness (water_of sources before) e.what ≡ false) where
    listed : (c : Change) → IsCausedBy d sources before e c → Contains (changes_after d sources before e) c
    listed c h = caused_are_all_listed d sources before e c limits on_time h

    emitted_stands : (key : List ℕ) (row : Row) → IsEmitted d.windows key (moment_of d sources key before) (moment_of d sources key after) row → Now row
    emitted_stands key row r = standing d sources after key row r.def r.now r.of_window r.stands r.shows

    updated_stands : (key : List ℕ) (row : Row) (former : Former) → IsUpdated d.windows key (moment_of d sources key before) (moment_of d sources key after) row former → Now row
    updated_stands key row former r = standing d sources after key row r.def r.now r.of_window r.stands r.shows

    -- two rows that stand in one place are one
    one_row : (r s : Row) → Now r → Now s → is_at_place r s ≡ true → r ≡ s
    one_row r s h k p =
        one_of_a_place (standing_rows d sources after) r s (standing_rows_in_order d sources after limits)
        ((standing_rows_exactly d sources after r).1 h) ((standing_rows_exactly d sources after s).1 k) p

    -- no row stands in the place of one that is retracted
    none_stands : (key : List ℕ) (row x : Row) → IsRetracted d.windows key (moment_of d sources key before) (moment_of d sources key after) row → Now x → is_at_place row x ≡ true → ⊥
    none_stands key row x r h p =
        let place : SamePlace row x = same_place row x p in
        let own : x.key ≡ key = sym place.key ∙ ap (λ (s : Row). s.key) r.showed in
        let same : h.def ≡ r.def = same_Some h.def r.def (sym h.of_window ∙ ap (slice_get d.windows) (sym place.window) ∙ r.of_window) in
        let there : Contains (standing_at h.def (moment_of d sources key after)) h.instance = subst (λ k. Contains (standing_at h.def (moment_of d sources k after)) h.instance) own h.stands in
        r.stands_no_longer (
          h.instance,
          subst (λ def. Contains (standing_at def (moment_of d sources key after)) h.instance) same there,
          sym (ap (λ (s : Row). s.low) h.shows) ∙ sym place.low ∙ ap (λ (s : Row). s.low) r.showed,
          sym (ap (λ (s : Row). s.high) h.shows) ∙ sym place.high ∙ ap (λ (s : Row). s.high) r.showed,
        )

    each_puts : (x : Row) → Now x → (c : Change) → IsCausedBy d sources before e c → touches c x ≡ true → Puts c x
    each_puts x h (Gone row) caused t = absurd (none_stands caused.0 row x caused.1 h t)
    each_puts x h (New row) caused t = inl (ap New (one_row row x (emitted_stands caused.0 row caused.1) h t))
    each_puts x h (Again row former) caused t = inr (former, ap (λ r. Again r former) (one_row row x (updated_stands caused.0 row former caused.1) h t))
    each_puts x h Dropped caused t = absurd (false≢true t)

    -- a row that stands was there, or a change puts it
    was_or_is_put : (x : Row) → Now x → Contains (standing_rows d sources before) x ⊎ Among (changes_after d sources before e) x
    was_or_is_put x h = by (has_or_not (standing_at h.def (moment_of d sources x.key before)) h.instance.low h.instance.high)
      where
        same : (old : Instance) → Contains (standing_at h.def (moment_of d sources x.key before)) old → old.low ≡ h.instance.low → old.high ≡ h.instance.high → (b : Bool) → are_same_tuples old.chosen h.instance.chosen ≡ b
            → Contains (standing_rows d sources before) x ⊎ Among (changes_after d sources before e) x
        same old stood l u true alike =
            inl ((standing_rows_exactly d sources before x).1 (record {
              def = h.def;
              of_window = h.of_window;
              instance = old;
              stands = stood;
              shows = h.shows ∙ same_row x.window x.key h.def.func h.instance old (sym l) (sym u) (sym (same_chosen d sources x.key before e h.def old h.instance stood h.stands alike));
            }))
        same old stood l u false differ =
            inr (
              Again x (former_of h.def.func old),
              listed (Again x (former_of h.def.func old)) (
                x.key,
                record {
                  def = h.def;
                  of_window = h.of_window;
                  before = old;
                  stood = stood;
                  now = h.instance;
                  stands = h.stands;
                  same_start = l;
                  same_end = u;
                  selects_others = λ p. false≢true (sym differ ∙ positions_same_tuples old.chosen h.instance.chosen p);
                  shows = h.shows;
                  showed = refl;
                },
              ),
              inr (former_of h.def.func old, refl),
            )

        by : HasInstance (standing_at h.def (moment_of d sources x.key before)) h.instance.low h.instance.high ⊎ (¬ HasInstance (standing_at h.def (moment_of d sources x.key before)) h.instance.low h.instance.high)
            → Contains (standing_rows d sources before) x ⊎ Among (changes_after d sources before e) x
        by (inl o) = same o.0 o.1 o.2 o.3 (are_same_tuples (o.0).chosen h.instance.chosen) refl
        by (inr none) =
            inr (
              New x,
              listed (New x) (x.key, record { def = h.def; of_window = h.of_window; now = h.instance; stands = h.stands; did_not_stand = none; shows = h.shows }),
              inl refl,
            )

    now_follows : (x : Row) → Now x → Contains (rows_after (standing_rows d sources before) (changes_after d sources before e)) x
    now_follows x h =
        rows_have (changes_after d sources before e) (standing_rows d sources before) x
        (λ c among t. each_puts x h c (caused_are_listed d sources before e c on_time among) t)
        (was_or_is_put x h)

    put_stands : (x : Row) → Among (changes_after d sources before e) x → Now x
    put_stands x a = by a.2
      where
        caused : IsCausedBy d sources before e a.0
        caused = caused_are_listed d sources before e a.0 on_time a.1

        by : Puts a.0 x → Now x
        by (inl is) = let own : IsCausedBy d sources before e (New x) = subst (IsCausedBy d sources before e) is caused in emitted_stands own.0 x own.1
        by (inr is) = let own : IsCausedBy d sources before e (Again x is.0) = subst (IsCausedBy d sources before e) is.1 caused in updated_stands own.0 x is.0 own.1

    untouched_stands : (x : Row) → Old x → ((c : Change) → Contains (changes_after d sources before e) c → touches c x ≡ false) → Now x
    untouched_stands x g untouched = by (has_or_not (standing_at g.def (moment_of d sources x.key after)) g.instance.low g.instance.high)
      where
        same : (now : Instance) → Contains (standing_at g.def (moment_of d sources x.key after)) now → now.low ≡ g.instance.low → now.high ≡ g.instance.high → (b : Bool) → are_same_tuples g.instance.chosen now.chosen ≡ b → Now x
        same now stands l u true alike = record {
          def = g.def;
          of_window = g.of_window;
          instance = now;
          stands = stands;
          shows = g.shows ∙ same_row x.window x.key g.def.func g.instance now (sym l) (sym u) (same_chosen d sources x.key before e g.def g.instance now g.stands stands alike);
        }
        same now stands l u false differ =
            let row : Row = row_of x.window x.key g.def.func now in
            let former : Former = former_of g.def.func g.instance in
            let there : Contains (changes_after d sources before e) (Again row former)
            = listed (Again row former) (
              x.key,
              record {
                def = g.def;
                of_window = g.of_window;
                before = g.instance;
                stood = g.stands;
                now = now;
                stands = stands;
                same_start = sym l;
                same_end = sym u;
                selects_others = λ p. false≢true (sym differ ∙ positions_same_tuples g.instance.chosen now.chosen p);
                shows = refl;
                showed = refl;
              },
            ) in
            absurd (false≢true (sym (untouched (Again row former) there) ∙ at_place row x (record {
              key = refl;
              window = refl;
              low = l ∙ sym (ap (λ (s : Row). s.low) g.shows);
              high = u ∙ sym (ap (λ (s : Row). s.high) g.shows);
            })))

        by : HasInstance (standing_at g.def (moment_of d sources x.key after)) g.instance.low g.instance.high ⊎ (¬ HasInstance (standing_at g.def (moment_of d sources x.key after)) g.instance.low g.instance.high) → Now x
        by (inl o) = same o.0 o.1 o.2 o.3 (are_same_tuples g.instance.chosen (o.0).chosen) refl
        by (inr none) =
            let there : Contains (changes_after d sources before e) (Gone x)
            = listed (Gone x) (x.key, record { def = g.def; of_window = g.of_window; before = g.instance; stood = g.stands; stands_no_longer = none; showed = g.shows }) in
            absurd (false≢true (sym (untouched (Gone x) there) ∙ at_place x x (record { key = refl; window = refl; low = refl; high = refl })))

    then_stands : (x : Row) → Contains (rows_after (standing_rows d sources before) (changes_after d sources before e)) x → Now x
    then_stands x c =
        ⊎_elim
        (put_stands x)
        (λ q. untouched_stands x ((standing_rows_exactly d sources before x).0 q.0) q.1)
        (rows_cases (changes_after d sources before e) (standing_rows d sources before) x c)

    on_time_follows : standing_rows d sources after ≡ rows_after (standing_rows d sources before) (changes_after d sources before e)
    on_time_follows =
        same_members_same_list by_row_total (standing_rows d sources after) (rows_after (standing_rows d sources before) (changes_after d sources before e))
        (standing_rows_in_order d sources after limits)
        (sorted_rows (changes_after d sources before e) (standing_rows d sources before) (standing_rows_in_order d sources before limits))
        (λ x c. now_follows x ((standing_rows_exactly d sources after x).0 c))
        (λ x c. (standing_rows_exactly d sources after x).1 (then_stands x c))

pub rows_follow : (d : Definitions) (sources : ℕ) (before : List Entry) (e : Entry) → AreWithinLimits d
    → standing_rows d sources (before ++ e ∷ []) ≡ rows_after (standing_rows d sources before) (changes_after d sources before e)
rows_follow d sources before e limits = by (is_late d.lateness (water_of sources before) e.what) refl
  where
    by : (b : Bool) → is_late d.lateness (water_of sources before) e.what ≡ b → standing_rows d sources (before ++ e ∷ []) ≡ rows_after (standing_rows d sources before) (changes_after d sources before e)
    by true late = late_follows d sources before e limits late
    by false on_time = on_time_follows d sources before e limits on_time
