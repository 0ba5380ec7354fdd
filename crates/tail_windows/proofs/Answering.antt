-- What a follower promises of each kind of entry.
use Rattle.std.proofs.Common.{◌≡◌, ◌∙◌, ℕ, ℤ, ◌<◌, true, false, cond, List, [], ◌∷◌, ◌++◌, length, ap, sym, refl, subst, Some, Ok, Err}
use Rattle.std.proofs.lemmas.List.{append-nil}
use Rattle.std.specs.Prelude.{Result}
use Rattle.std.specs.BTreeMap.{is_at}
use Rattle.std.specs.Cmp.Lexicographic.{slice_cmp}
use Rattle.std.specs.List.{All, Contains, flat_map}
use Rattle.std.specs.List.Sorted.{IsStrictlySortedBy}
use Rattle.std.specs.Ordering.{nat_cmp}
use Rattle.std.specs.Result.{OnErr, OnOk}
use Rattle.stream_base.specs.declared.entry.Entry.{Entry}
use Rattle.stream_base.specs.declared.kept.Kept.{Kept}
use Rattle.stream_base.specs.declared.what.What.TheVariants.{Tuple, Mark}
use Rattle.stream_base.specs.Model.Journal.{kept_of, put_in_order}
use Rattle.stream_base.specs.Model.Watermark.{water_of}
use Rattle.stream_base.specs.Model.What.{is_late, is_progress, key_in}
use Rattle.watermark_table.specs.Watched as table
use Rattle.tail_windows.specs.Following.{Followed, FollowsEntry, IsOfSame, StandsFor, changes_behind, lateness_of, list_of, number_of_sources}
use Rattle.tail_windows.specs.Samples.{put_sample, sample_at, sample_of, samples_of}
use Rattle.tail_windows.specs.Tails.{tail_changes_between}
use Rattle.tail_windows.specs.Walks.{HasAppended, moved_changes}
use Rattle.tail_windows.specs.declared.change.TailChange.{TailChange}
use Rattle.tail_windows.specs.declared.change.TailChange.TheVariants.{Dropped}
use Rattle.tail_windows.specs.declared.sample.Sample.{Sample}
use Rattle.tail_windows.proofs.Walking.{nothing_appended}
use Rattle.tail_windows.proofs.Follow.{late_is_dropped, mark_changes, older_tuples, stands_behind_late, stands_behind_mark, stands_behind_tuple, stands_behind_word, tuple_changes, word_changes}

pub on_ok : {T E : Type 0} (r : Result T E) (P : Type 0) → P → OnOk r P
on_ok (Ok x) P p = p
on_ok (Err e) P p = tt

pub on_err : {T E : Type 0} (r : Result T E) (P : Type 0) → P → OnErr r P
on_err (Ok x) P p = tt
on_err (Err e) P p = p

pub on_ok_to : {T E : Type 0} (r : Result T E) (P Q : Type 0) → (P → Q) → OnOk r P → OnOk r Q
on_ok_to (Ok x) P Q f p = f p
on_ok_to (Err e) P Q f p = tt

pub on_err_to : {T E : Type 0} (r : Result T E) (P Q : Type 0) → (P → Q) → OnErr r P → OnErr r Q
on_err_to (Ok x) P Q f p = tt
on_err_to (Err e) P Q f p = f p

unchanged : (f : Followed) → IsOfSame f f
unchanged f = record { def = refl; lateness = refl; sources = refl }

-- after want of memory nothing is done
pub nothing_follows : {E : Type 0} (f : Followed) (e : Entry) (before : List TailChange) (steps : ℕ) (x : E) → FollowsEntry f e (Err x) f before before steps steps
nothing_follows f e before steps x = record {
  same = unchanged f;
  stands = λ j s. tt;
  changes = λ j s. tt;
  refused = λ j s. s;
  appended = nothing_appended (f.def).count before steps;
}

module _ {E : Type 0} (f : Followed) (e : Entry) (before : List TailChange) (steps : ℕ) where
  -- a late entry is dropped
  pub late_follows : (key : List ℕ) (answer : Result (Unit {0}) E) (after : List TailChange) → key_in e.what ≡ Some key
      → ((journal : List Entry) → StandsFor f journal → is_late (lateness_of f) (water_of (number_of_sources f) journal) e.what ≡ true)
      → OnOk answer (after ≡ before ++ Dropped ∷ []) → HasAppended (f.def).count before after steps steps → FollowsEntry f e answer f before after steps steps
  late_follows key answer after keyed late dropped appended = record {
    same = unchanged f;
    stands = λ j s. on_ok answer (StandsFor f (j ++ e ∷ [])) (stands_behind_late f j e s key keyed (late j s));
    changes = λ j s. on_ok_to answer (after ≡ before ++ Dropped ∷ []) (after ≡ before ++ changes_behind f j e)
        (λ is. is ∙ ap (λ l. before ++ l) (sym (late_is_dropped f.def (lateness_of f) (number_of_sources f) j e (late j s)))) dropped;
    refused = λ j s. on_err answer (StandsFor f j) s;
    appended = appended;
  }

  -- a mark that isn't late changes nothing
  pub mark_follows : (key : List ℕ) (time : ℕ) (answer : Result (Unit {0}) E) → e.what ≡ Mark key time
      → ((journal : List Entry) → StandsFor f journal → is_late (lateness_of f) (water_of (number_of_sources f) journal) e.what ≡ false)
      → HasAppended (f.def).count before before steps steps → FollowsEntry f e answer f before before steps steps
  mark_follows key time answer is on_time appended = record {
    same = unchanged f;
    stands = λ j s. on_ok answer (StandsFor f (j ++ e ∷ [])) (stands_behind_mark f j e s key time is);
    changes = λ j s. on_ok answer (before ≡ before ++ changes_behind f j e)
        (sym (append-nil before) ∙ ap (λ l. before ++ l) (sym (mark_changes f.def (lateness_of f) (number_of_sources f) j e key time is (on_time j s))));
    refused = λ j s. on_err answer (StandsFor f j) s;
    appended = appended;
  }

  module _ (answer : Result (Unit {0}) E) (after : List TailChange) (later : ℕ) (appended : HasAppended (f.def).count before after steps later) where
    -- a tuple that isn't late comes to the samples of its key
    pub tuple_follows : (key : List ℕ) (time : ℕ) (value : ℤ) (water : ℕ) (lists : List (List ℕ × List Sample)) → e.what ≡ Tuple key time value
        → ((journal : List Entry) → StandsFor f journal → is_late (lateness_of f) (water_of (number_of_sources f) journal) e.what ≡ false)
        → ((journal : List Entry) → StandsFor f journal → water ≡ water_of (number_of_sources f) journal)
        → ((other : List ℕ) → OnOk answer (list_of lists other ≡ cond (is_at (slice_cmp nat_cmp key) other) (put_sample (list_of f.lists key) (record { time = time; value = value })) (list_of f.lists other)))
        → ((other : List ℕ) → OnErr answer (list_of lists other ≡ list_of f.lists other))
        → ((kept : List Kept) (x : Kept) → samples_of kept ≡ list_of f.lists key → sample_of x ≡ record { time = time; value = value } → All (λ y. y.position < x.position) kept
        → OnOk answer (after ≡ before ++ tail_changes_between f.def key kept water (put_in_order kept x) water))
        → FollowsEntry f e answer (record { def = f.def; waters = f.waters; lists = lists }) before after steps later
    tuple_follows key time value water lists is on_time at put refused changes = record {
      same = record { def = refl; lateness = refl; sources = refl };
      stands = λ j s. taken answer put j s;
      changes = λ j s.
          let kept : List Kept = kept_of (lateness_of f) (number_of_sources f) key j in
          let x : Kept = record { position = length j; time = time; value = value } in
          on_ok_to answer (after ≡ before ++ tail_changes_between f.def key kept water (put_in_order kept x) water) (after ≡ before ++ changes_behind f j e)
          (λ eq. eq ∙ ap (λ w. before ++ tail_changes_between f.def key kept w (put_in_order kept x) w) (at j s) ∙ ap (λ l. before ++ l) (sym (tuple_changes f.def (lateness_of f) (number_of_sources f) j e key time value is (on_time j s))))
          (changes kept x (sym (s.lists key)) refl (older_tuples (lateness_of f) (number_of_sources f) key j));
      refused = λ j s. left answer refused j s;
      appended = appended;
    }
      where
        taken : (r : Result (Unit {0}) E) → ((other : List ℕ) → OnOk r (list_of lists other ≡ cond (is_at (slice_cmp nat_cmp key) other) (put_sample (list_of f.lists key) (record { time = time; value = value })) (list_of f.lists other)))
            → (j : List Entry) → StandsFor f j → OnOk r (StandsFor (record { def = f.def; waters = f.waters; lists = lists }) (j ++ e ∷ []))
        taken (Ok u) p j s = stands_behind_tuple f j e s key time value lists is (on_time j s) p
        taken (Err u) p j s = tt

        left : (r : Result (Unit {0}) E) → ((other : List ℕ) → OnErr r (list_of lists other ≡ list_of f.lists other)) → (j : List Entry) → StandsFor f j → OnErr r (StandsFor (record { def = f.def; waters = f.waters; lists = lists }) j)
        left (Ok u) p j s = tt
        left (Err u) p j s = record { waters = s.waters; lists = λ other. p other ∙ s.lists other }

    -- told by its sample
    pub sample_follows : (s : Sample) (key : List ℕ) (time : ℕ) (value : ℤ) (water : ℕ) (lists : List (List ℕ × List Sample)) → s ≡ sample_at time value → e.what ≡ Tuple key time value
        → ((journal : List Entry) → StandsFor f journal → is_late (lateness_of f) (water_of (number_of_sources f) journal) e.what ≡ false)
        → ((journal : List Entry) → StandsFor f journal → water ≡ water_of (number_of_sources f) journal)
        → ((other : List ℕ) → OnOk answer (list_of lists other ≡ cond (is_at (slice_cmp nat_cmp key) other) (put_sample (list_of f.lists key) s) (list_of f.lists other)))
        → ((other : List ℕ) → OnErr answer (list_of lists other ≡ list_of f.lists other))
        → ((kept : List Kept) (x : Kept) → samples_of kept ≡ list_of f.lists key → sample_of x ≡ s → All (λ y. y.position < x.position) kept
        → OnOk answer (after ≡ before ++ tail_changes_between f.def key kept water (put_in_order kept x) water))
        → FollowsEntry f e answer (record { def = f.def; waters = f.waters; lists = lists }) before after steps later
    sample_follows s key time value water lists same is on_time at put refused changes =
        tuple_follows key time value water lists is on_time at
        (λ other. subst (λ (t : Sample). OnOk answer (list_of lists other ≡ cond (is_at (slice_cmp nat_cmp key) other) (put_sample (list_of f.lists key) t) (list_of f.lists other))) same (put other))
        refused (λ kept x a b older. changes kept x a (b ∙ sym same) older)

  -- a word on progress is taken in
  word_taken : (after : List TailChange) (later : ℕ) (new : table.Watched) (water : ℕ) → is_progress e.what ≡ true → table.HasTaken f.waters e new water → HasAppended (f.def).count before after steps later
      → ((journal : List Entry) → StandsFor f journal → StandsFor f journal → after ≡ before ++ changes_behind f journal e)
      → FollowsEntry {E = E} f e (Ok tt) (record { def = f.def; waters = new; lists = f.lists }) before after steps later
  word_taken after later new water word takes appended changes = record {
    same = record { def = refl; lateness = (takes.same).lateness; sources = (takes.same).sources };
    stands = λ j s. stands_behind_word f j e s new word takes.same (takes.stands j s.waters);
    changes = λ j s. changes j s s;
    refused = λ j s. tt;
    appended = appended;
  }

-- so is it for a follower that is told in another way
pub word_follows : {E : Type 0} (f h : Followed) → f ≡ h → (e : Entry) (before : List TailChange) (steps : ℕ) (after : List TailChange) (later : ℕ) (new : table.Watched) (water : ℕ) → HasAppended (h.def).count before after steps later → is_progress e.what ≡ true → table.HasTaken f.waters e new water
    → ((journal : List Entry) → StandsFor f journal → StandsFor h journal → after ≡ before ++ changes_behind h journal e)
    → FollowsEntry {E = E} h e (Ok tt) (record { def = f.def; waters = new; lists = f.lists }) before after steps later
word_follows {E} f h same e before steps after later new water appended word takes changes =
    subst (λ (k : Followed). HasAppended (k.def).count before after steps later → ((journal : List Entry) → StandsFor f journal → StandsFor k journal → after ≡ before ++ changes_behind k journal e)
    → FollowsEntry {E = E} k e (Ok tt) (record { def = f.def; waters = new; lists = f.lists }) before after steps later) same
    (word_taken f e before steps after later new water word takes) appended changes

-- what a move of the watermark brings of the keys that are due is what a word on progress does
pub move_changes : {E : Type 0} (f h : Followed) → f ≡ h → (j : List Entry) (e : Entry) (answer : Result (Unit {0}) E) (before after : List TailChange) (new old : ℕ) (due : List (List ℕ)) → StandsFor f j → is_progress e.what ≡ true → new ≡ water_of (number_of_sources h) (j ++ e ∷ [])
    → IsStrictlySortedBy (slice_cmp nat_cmp) due → ((key : List ℕ) → ¬ Contains due key → moved_changes f.def key old new (list_of f.lists key) ≡ []) → old ≡ water_of (number_of_sources f) j
    → OnOk answer (after ≡ before ++ flat_map (λ key. moved_changes f.def key old new (list_of f.lists key)) due) → OnOk answer (after ≡ before ++ changes_behind h j e)
move_changes f h same j e answer before after new old due stands word is sorted others at given =
    subst (λ (k : Followed). new ≡ water_of (number_of_sources k) (j ++ e ∷ []) → OnOk answer (after ≡ before ++ changes_behind k j e)) same
    (λ here. on_ok_to answer (after ≡ before ++ flat_map (λ key. moved_changes f.def key old new (list_of f.lists key)) due) (after ≡ before ++ changes_behind f j e)
    (λ eq. eq ∙ ap (λ w. before ++ flat_map (λ key. moved_changes f.def key w new (list_of f.lists key)) due) at
    ∙ ap (λ l. before ++ l) (sym (word_changes f j e stands new due word sorted here
    (subst (λ w. (key : List ℕ) → ¬ Contains due key → moved_changes f.def key w new (list_of f.lists key) ≡ []) at others))))
    given) is
