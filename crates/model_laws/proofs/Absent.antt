-- A key that no tuple or mark of a journal has: nothing is kept of it, and nothing of it stands.
use Rattle.std.proofs.Common.{◌≡◌, ◌∙◌, ℕ, Bool, true, false, cond, List, [], ◌∷◌, ◌++◌, length, ap, sym, refl, subst, Option, None, Some, inl, inr, ⊎_elim}
use Rattle.std.specs.Str.{bytes_eq}
use Rattle.std.specs.List.{list_any, Contains}
use Rattle.std.proofs.lemmas.Bool.{false≢true, or_cases}
use Rattle.std.proofs.lemmas.Slice.Eq.{bytes_eq-Decides}
use Rattle.stream_base.specs.declared.what.What.{What}
use Rattle.stream_base.specs.declared.what.What.TheVariants.{Tuple, Mark, Water, Idle, End}
use Rattle.stream_base.specs.declared.def.Def.{Def}
use Rattle.stream_base.specs.declared.change.Change.{Change}
use Rattle.stream_base.specs.declared.change.Change.TheVariants.{Gone, New, Again, Dropped}
use Rattle.stream_base.specs.Model.Changes.{Moment, standing_at}
use Rattle.stream_base.specs.Laws.{IsChangeOf}
use Rattle.std.specs.BTreeSet.{insert_key}
use Rattle.std.specs.Cmp.Lexicographic.{slice_cmp}
use Rattle.std.specs.Prelude.{◌⊎◌}
use Rattle.std.specs.Option.{option_map_or}
use Rattle.std.specs.Ordering.{nat_cmp}
use Rattle.std.proofs.lemmas.Map.Lookups.{exact_bytes}
use Rattle.stream_base.specs.declared.entry.Entry.{Entry}
use Rattle.stream_base.specs.declared.kept.Kept.{Kept}
use Rattle.stream_base.specs.Model.Journal.{keys_of, kept_of}
use Rattle.stream_base.specs.Model.What.{key_in, tuple_in}
use Rattle.stream_base.specs.Model.Windows.{Instance, standing_of}
use Rattle.stream_base.proofs.Rising.{none_in_nil, Contains-at_head, Contains-tail, Contains-insert_key, Contains-insert_key_self}
use Rattle.stream_base.proofs.Growing.{keys_of_push, kept_of_nil, kept_of_other}
use Rattle.stream_base.proofs.EventOrder.{from_the_front}
use Rattle.stream_base.proofs.ChangeFacts.{any_from_member}
use Rattle.stream_base.proofs.KindFacts.{nothing_stands}

pub bytes_eq_true : (a b : List ℕ) → bytes_eq a b ≡ true → a ≡ b
bytes_eq_true a b h = (bytes_eq-Decides a b).0 h

pub tuple_is_keyed : (key : List ℕ) (position : ℕ) (what : What) (x : Kept) → tuple_in key position what ≡ Some x → key_in what ≡ Some key
tuple_is_keyed key position (Tuple k time value) x h = by (bytes_eq k key) refl h
  where
    by : (b : Bool) → bytes_eq k key ≡ b → cond b (Some (record { position = position; time = time; value = value })) None ≡ Some x → Some k ≡ Some key
    by true e g = ap Some (bytes_eq_true k key e)
    by false e g = cc
tuple_is_keyed key position (Mark k time) x h = cc
tuple_is_keyed key position (Water time) x h = cc
tuple_is_keyed key position Idle x h = cc
tuple_is_keyed key position End x h = cc

-- the keys of a longer journal: those before, and the entry's own
pub keys_stay : (journal : List Entry) (e : Entry) (key : List ℕ) → Contains (keys_of journal) key → Contains (keys_of (journal ++ e ∷ [])) key
keys_stay journal e key c = subst (λ ks. Contains ks key) (sym (keys_of_push journal e)) (by (key_in e.what))
  where
    by : (o : Option (List ℕ)) → Contains (option_map_or (insert_key (slice_cmp nat_cmp) (keys_of journal)) o (keys_of journal)) key
    by None = c
    by (Some k) = Contains-insert_key (slice_cmp nat_cmp) k (keys_of journal) key c

pub key_comes : (journal : List Entry) (e : Entry) (key : List ℕ) → key_in e.what ≡ Some key → Contains (keys_of (journal ++ e ∷ [])) key
key_comes journal e key h = subst (λ ks. Contains ks key) (sym (keys_of_push journal e ∙ ap (λ o. option_map_or (insert_key (slice_cmp nat_cmp) (keys_of journal)) o (keys_of journal)) h)) (Contains-insert_key_self (slice_cmp nat_cmp) exact_bytes key (keys_of journal))

pub nothing_kept : (lateness sources : ℕ) (key : List ℕ) (journal : List Entry) → ¬ Contains (keys_of journal) key → kept_of lateness sources key journal ≡ []
nothing_kept lateness sources key journal =
    from_the_front (λ j. ¬ Contains (keys_of j) key → kept_of lateness sources key j ≡ []) (λ absent. kept_of_nil lateness sources key)
    (λ j e before absent. kept_of_other lateness sources key j e (no_tuple j e absent (tuple_in key (length j) e.what) refl) ∙ before (λ c. absent (keys_stay j e key c)))
    journal
  where
    no_tuple : (j : List Entry) (e : Entry) → ¬ Contains (keys_of (j ++ e ∷ [])) key → (o : Option Kept) → tuple_in key (length j) e.what ≡ o → tuple_in key (length j) e.what ≡ None
    no_tuple j e absent None h = h
    no_tuple j e absent (Some x) h = absurd (absent (key_comes j e key (tuple_is_keyed key (length j) e.what x h)))

-- a key is in a list or isn't
key_found : (key : List ℕ) (keys : List (List ℕ)) → list_any (bytes_eq key) keys ≡ true → Contains keys key
key_found key [] h = absurd (false≢true h)
key_found key (k ∷ keys) h =
    ⊎_elim
    (λ e. Contains-at_head k keys key (sym (bytes_eq_true key k e)))
    (λ f. Contains-tail k keys key (key_found key keys f))
    (or_cases (bytes_eq key k) (list_any (bytes_eq key) keys) h)

pub is_key_or_not : (key : List ℕ) (keys : List (List ℕ)) → Contains keys key ⊎ (¬ Contains keys key)
is_key_or_not key keys = by (list_any (bytes_eq key) keys) refl
  where
    by : (b : Bool) → list_any (bytes_eq key) keys ≡ b → Contains keys key ⊎ (¬ Contains keys key)
    by true e = inl (key_found key keys e)
    by false e = inr (λ c. false≢true (sym e ∙ any_from_member (bytes_eq key) keys key c ((bytes_eq-Decides key key).1 refl)))

pub stands_of_none : (def : Def) (m : Moment) (i : Instance) → m.kept ≡ [] → Contains (standing_at def m) i → ⊥
stands_of_none def m i e c = none_in_nil i (subst (λ l. Contains l i) (ap (λ kept. standing_of def.kind kept m.marks m.water) e ∙ nothing_stands def.kind m.marks m.water) c)

-- nothing kept before and after, no change
pub no_change_of_none : (windows : List Def) (key : List ℕ) (old new : Moment) (c : Change) → old.kept ≡ [] → new.kept ≡ [] → ¬ IsChangeOf windows key old new c
no_change_of_none windows key old new (Gone row) e f h = stands_of_none h.def old h.before e h.stood
no_change_of_none windows key old new (New row) e f h = stands_of_none h.def new h.now f h.stands
no_change_of_none windows key old new (Again row former) e f h = stands_of_none h.def new h.now f h.stands
no_change_of_none windows key old new Dropped e f h = h
