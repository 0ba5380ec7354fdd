-- The journal of one shard has exactly the entries that go there.
use Rattle.std.proofs.Common.{◌≡◌, ◌∙◌, ℕ, ◌<◌, ◌≤◌, true, List, [], ◌∷◌, length, get_or, ap, sym, refl, subst, inl, inr, arith, Some}
use Rattle.std.specs.Prelude.{◌==◌, ◌&&◌}
use Rattle.std.specs.List.{All, AllPairs, Contains, filter, filter_map, list_any}
use Rattle.std.specs.Option.{option_map_or}
use Rattle.std.specs.Ordering.{nat_cmp}
use Rattle.std.specs.Cmp.Lexicographic.{slice_cmp}
use Rattle.std.proofs.lemmas.Bool.{cases_order, eq-eqb, false≢true, leb-true, or_cases}
use Rattle.std.proofs.lemmas.Cmp.{nat_list_cmp_total}
use Rattle.std.proofs.lemmas.List.{get_or_default}
use Rattle.std.proofs.lemmas.List.Elements.{All-contains, Contains-get_or}
use Rattle.std.proofs.lemmas.List.Kept.{AllPairs-filter, IsStrictlySortedBy-filter}
use Rattle.stream_base.specs.declared.entry.Entry.{Entry}
use Rattle.stream_base.specs.declared.limits.TheConstants.{FINAL, TIME_MAX}
use Rattle.stream_base.specs.declared.what.What.{What}
use Rattle.stream_base.specs.declared.what.What.TheVariants.{Tuple, Mark, Water, Idle, End}
use Rattle.stream_base.specs.Model.Final.{all_entries}
use Rattle.stream_base.specs.Model.Journal.{keys_of}
use Rattle.stream_base.specs.Model.Routes.{IsLawful, entries_from, goes_to, routed, shard_of}
use Rattle.stream_base.specs.Model.Watermark.{has_ended, water_of}
use Rattle.stream_base.specs.Model.What.{is_end, is_what_within, key_in, water_time}
use Rattle.stream_base.proofs.ChangeFacts.{any_from_member}
use Rattle.model_laws.proofs.ChangeList.{filter_map_has, filter_map_members}
use Rattle.model_laws.proofs.ChangesAfter.{keys_in_order}
use Rattle.stream_base.proofs.Distinct.{All_from_members}
use Rattle.stream_base.proofs.Members.{filter_has, filter_members, flat_map_has, flat_map_members}
use Rattle.stream_base.proofs.Rising.{Contains-head, Contains-tail, key_rising_members, same_members_same_list}
use Rattle.model_laws.proofs.WatermarkBounds.{final_once_all_ended}
use Rattle.final_rows.specs.AtEnd.{AreTied, AreUntied, HasNoTies}
use Rattle.final_rows.proofs.Moments.{AreEarly}
use Rattle.final_rows.proofs.Pairs.{across_sources, by_source, of_source}
use Rattle.final_rows.proofs.SameTuples.{HaveSame}

-- ---- keys of entries
keyed : (entries : List Entry) (key : List ℕ) → Contains (keys_of entries) key → (e : Entry) × Contains entries e × (key_in e.what ≡ Some key)
unfolding keys_of
keyed entries key c = filter_map_members (λ (e : Entry). key_in e.what) entries key ((key_rising_members (filter_map (λ (e : Entry). key_in e.what) entries) key).0 c)

has_key : (entries : List Entry) (e : Entry) (key : List ℕ) → Contains entries e → key_in e.what ≡ Some key → Contains (keys_of entries) key
unfolding keys_of
has_key entries e key c h = (key_rising_members (filter_map (λ (e : Entry). key_in e.what) entries) key).1 (filter_map_has (λ (e : Entry). key_in e.what) entries e key c h)

-- ---- ends and limits
goes_everywhere : (shards k : ℕ) (what : What) → is_end what ≡ true → goes_to shards k what ≡ true
goes_everywhere shards k (Tuple key time value) h = absurd (false≢true h)
goes_everywhere shards k (Mark key time) h = absurd (false≢true h)
goes_everywhere shards k (Water time) h = absurd (false≢true h)
goes_everywhere shards k Idle h = absurd (false≢true h)
goes_everywhere shards k End h = refl

pub water_is_early : (what : What) → is_what_within what ≡ true → water_time what < FINAL
water_is_early (Tuple key time value) h = omega arith
water_is_early (Mark key time) h = omega arith
water_is_early (Water time) h = let early : time ≤ TIME_MAX = leb-true time TIME_MAX h in omega arith
water_is_early Idle h = omega arith
water_is_early End h = omega arith

an_end : (entries : List Entry) → list_any (λ e. is_end e.what) entries ≡ true → (e : Entry) × Contains entries e × (is_end e.what ≡ true)
an_end [] h = absurd (false≢true h)
an_end (x ∷ xs) h = elim (or_cases (is_end x.what) (list_any (λ (e : Entry). is_end e.what) xs) h) [
  | inl e ↦ (x, Contains-head x xs, e)
  | inr r ↦ (let m : (e : Entry) × Contains xs e × (is_end e.what ≡ true) = an_end xs r in (m.0, Contains-tail x xs m.0 m.1, m.2))
]

pub tied_back : (a b : What) → AreTied a b → AreTied b a
tied_back (Tuple key time value) (Tuple other at number) t = (sym t.0, sym t.1)
tied_back (Tuple key time value) (Mark other at) t = absurd t
tied_back (Tuple key time value) (Water at) t = absurd t
tied_back (Tuple key time value) Idle t = absurd t
tied_back (Tuple key time value) End t = absurd t
tied_back (Mark key time) b t = absurd t
tied_back (Water time) b t = absurd t
tied_back Idle b t = absurd t
tied_back End b t = absurd t

module _ (shards : ℕ) (sources journals : List (List Entry)) (lawful : IsLawful shards sources journals) (k : ℕ) (l : k < shards) where
  there : k < length journals
  there = omega (arith, lawful.count)

  -- an entry of the journal is one of its source's that go there
  pub from_source : (e : Entry) → Contains (get_or journals k []) e → (e.source < length sources) × Contains (routed shards k (get_or sources e.source [])) e
  from_source e c =
      let known : e.source < length sources = subst (λ (x : Entry). x.source < length sources) c.2 (lawful.known k c.0 e there c.1) in
      let own : Contains (entries_from e.source (get_or journals k [])) e = filter_has (λ (x : Entry). x.source == e.source) (get_or journals k []) e c (eq-eqb e.source e.source refl) in
      (known, subst (λ (xs : List Entry). Contains xs e) (lawful.held k e.source there known) own)

  of_its_source : (e : Entry) → Contains (get_or journals k []) e → Contains (get_or sources e.source []) e
  of_its_source e c = (filter_members (λ (x : Entry). goes_to shards k x.what) (get_or sources e.source []) e (from_source e c).1).0

  goes_there : (e : Entry) → Contains (get_or journals k []) e → goes_to shards k e.what ≡ true
  goes_there e c = (filter_members (λ (x : Entry). goes_to shards k x.what) (get_or sources e.source []) e (from_source e c).1).1

  pub in_all : (e : Entry) → Contains (get_or journals k []) e → Contains (all_entries sources) e
  in_all e c = flat_map_has (λ (xs : List Entry). xs) sources (get_or sources e.source []) e (Contains-get_or sources e.source [] (from_source e c).0) (of_its_source e c)

  -- an entry of a source that goes there is one of the journal
  to_journal : (s : ℕ) (e : Entry) → s < length sources → Contains (get_or sources s []) e → goes_to shards k e.what ≡ true → Contains (get_or journals k []) e × ((e.source == s) ≡ true)
  to_journal s e m c g =
      let routed_there : Contains (routed shards k (get_or sources s [])) e = filter_has (λ (x : Entry). goes_to shards k x.what) (get_or sources s []) e c g in
      filter_members (λ (x : Entry). x.source == s) (get_or journals k []) e (subst (λ (xs : List Entry). Contains xs e) (sym (lawful.held k s there m)) routed_there)

  from_all : (e : Entry) → Contains (all_entries sources) e → goes_to shards k e.what ≡ true → Contains (get_or journals k []) e
  from_all e c g =
      let (xs, s, d) = flat_map_members (λ (xs : List Entry). xs) sources e c in
      let is : xs ≡ get_or sources s.0 [] = sym s.2 ∙ get_or_default sources s.0 xs [] s.1 in
      (to_journal s.0 e s.1 (subst (λ (ys : List Entry). Contains ys e) is d) g).0

  -- of a key that goes there it has the tuples and marks of all sources
  pub same_there : (key : List ℕ) → HaveSame key (get_or journals k []) (all_entries sources)
  same_there key e h c = in_all e c

  pub same_back : (key : List ℕ) → (shard_of key shards == k) ≡ true → HaveSame key (all_entries sources) (get_or journals k [])
  same_back key own e h c = from_all e c (ap (λ o. option_map_or (λ (key : List ℕ). shard_of key shards == k) o true) h ∙ own)

  -- its keys are those that go there
  pub keys_there : keys_of (get_or journals k []) ≡ filter (λ key. shard_of key shards == k) (keys_of (all_entries sources))
  keys_there =
      same_members_same_list nat_list_cmp_total (keys_of (get_or journals k [])) (filter (λ key. shard_of key shards == k) (keys_of (all_entries sources)))
      (keys_in_order (get_or journals k [])) (IsStrictlySortedBy-filter (slice_cmp nat_cmp) (λ key. shard_of key shards == k) (keys_of (all_entries sources)) (keys_in_order (all_entries sources)))
      (λ key c.
      let (e, d, h) = keyed (get_or journals k []) key c in
      filter_has (λ key. shard_of key shards == k) (keys_of (all_entries sources)) key (has_key (all_entries sources) e key (in_all e d) h) (sym (ap (λ o. option_map_or (λ (key : List ℕ). shard_of key shards == k) o true) h) ∙ goes_there e d))
      (λ key c.
      let m = filter_members (λ key. shard_of key shards == k) (keys_of (all_entries sources)) key c in
      let (e, d, h) = keyed (all_entries sources) key m.0 in
      has_key (get_or journals k []) e key (same_back key m.1 e h d) h)

  -- no two of its entries are tied, where none of all sources are
  pub no_ties_there : HasNoTies (all_entries sources) → HasNoTies (get_or journals k [])
  no_ties_there untied =
      by_source apart (get_or journals k [])
      (λ z c. subst (AllPairs apart) (sym (lawful.held k z.source there (from_source z c).0)) (AllPairs-filter apart (λ (x : Entry). goes_to shards k x.what) (get_or sources z.source []) (of_source apart sources untied z.source (from_source z c).0)))
      (λ x y c d ne. elim (cases_order x.source y.source) [
        | inl e ↦ absurd (ne e)
        | inr (inl less) ↦ across_sources apart sources untied x.source y.source less (from_source y d).0 x y (of_its_source x c) (of_its_source y d)
        | inr (inr more) ↦ (λ t. across_sources apart sources untied y.source x.source more (from_source x c).0 y x (of_its_source y d) (of_its_source x c) (tied_back x.what y.what t))
      ])
    where
      apart : Entry → Entry → Type 0
      apart a b = ¬ AreTied a.what b.what

  -- its watermark is final, where each source has its end
  ended_there : All (λ entries. list_any (λ e. is_end e.what) entries ≡ true) sources → (s : ℕ) → s < length sources → has_ended s (get_or journals k []) ≡ true
  ended_there ended s m =
      let (e, c, h) = an_end (get_or sources s []) (ended s [] m) in
      let t = to_journal s e m c (goes_everywhere shards k e.what h) in
      any_from_member (λ (x : Entry). x.source == s && is_end x.what) (get_or journals k []) e t.0 (λ i. t.1 i && h i)

  pub final_there : AreUntied sources → water_of (length sources) (get_or journals k []) ≡ FINAL
  final_there u =
      (final_once_all_ended (length sources) (get_or journals k [])
      (All_from_members (λ (e : Entry). water_time e.what < FINAL) (get_or journals k []) (λ e c. water_is_early e.what (All-contains (λ (x : Entry). is_what_within x.what ≡ true) (all_entries sources) e u.within (in_all e c))))).1
      (ended_there u.ended)

  pub early_there : AreUntied sources → AreEarly (get_or journals k [])
  early_there u = All_from_members (λ (e : Entry). water_time e.what ≤ FINAL) (get_or journals k []) (λ e c. let below = water_is_early e.what (All-contains (λ (x : Entry). is_what_within x.what ≡ true) (all_entries sources) e u.within (in_all e c)) in omega (arith, below))
