-- The rows that stand in a shard are the final rows of its keys.
use Rattle.std.proofs.Common.{◌≡◌, ◌∙◌, ℕ, ◌<◌, ◌≤◌, Bool, true, false, cond, List, [], ◌∷◌, ◌++◌, length, get_or, map, ap, sym, refl, arith}
use Rattle.std.specs.Prelude.{◌==◌}
use Rattle.std.specs.List.{Contains, enumerate_from, filter, flat_map}
use Rattle.std.proofs.lemmas.List.Elements.{All-contains, filter-append}
use Rattle.stream_base.specs.declared.def.Def.{Def}
use Rattle.stream_base.specs.declared.entry.Entry.{Entry}
use Rattle.stream_base.specs.declared.limits.TheConstants.{FINAL}
use Rattle.stream_base.specs.declared.row.Row.{Row}
use Rattle.stream_base.specs.Limits.{Definitions}
use Rattle.stream_base.specs.Model.Changes.{Moment, moment_of, row_of, rows_at, standing_at, standing_rows}
use Rattle.stream_base.specs.Model.Final.{all_entries, final_moment, final_rows}
use Rattle.stream_base.specs.Model.Journal.{keys_of}
use Rattle.stream_base.specs.Model.Routes.{shard_of}
use Rattle.stream_base.specs.Model.What.{is_what_within, water_time}
use Rattle.stream_base.proofs.Distinct.{All_from_members}
use Rattle.stream_base.proofs.Members.{filter_members, flat_map_members, map_members}
use Rattle.stream_base.proofs.Rising.{Contains-head, Contains-tail}
use Rattle.stream_base.proofs.Filters.{filter_all, filter_none}
use Rattle.final_rows.specs.AtEnd.{AreUntied, KeepAll, rows_of_shard}
use Rattle.final_rows.proofs.Moments.{AreEarly, kept_whole, marks_whole}
use Rattle.final_rows.proofs.SameTuples.{same_rows}
use Rattle.final_rows.proofs.Shards.{early_there, final_there, keys_there, no_ties_there, same_back, same_there, water_is_early}

-- ---- lists of lists
flat_map_same : {X Y : Type 0} (f g : X → List Y) (xs : List X) → ((x : X) → Contains xs x → f x ≡ g x) → flat_map f xs ≡ flat_map g xs
flat_map_same f g [] h = refl
flat_map_same f g (x ∷ xs) h =
    let first : f x ≡ g x = h x (Contains-head x xs) in
    let later : flat_map f xs ≡ flat_map g xs = flat_map_same f g xs (λ y c. h y (Contains-tail x xs y c)) in
    λ i. first i ++ later i

-- a test that is one for all elements of a part keeps the part whole or drops it
filter_parts : {X Y : Type 0} (q : Y → Bool) (p : X → Bool) (f : X → List Y) → ((x : X) (y : Y) → Contains (f x) y → q y ≡ p x) → (xs : List X) → filter q (flat_map f xs) ≡ flat_map f (filter p xs)
filter_parts q p f h [] = refl
filter_parts {X} {Y} q p f h (x ∷ xs) = filter-append q (f x) (flat_map f xs) ∙ by (p x) refl (filter_parts q p f h xs)
  where
    by : (b : Bool) → p x ≡ b → filter q (flat_map f xs) ≡ flat_map f (filter p xs) → filter q (f x) ++ filter q (flat_map f xs) ≡ flat_map f (cond b (x ∷ filter p xs) (filter p xs))
    by true e later =
        let all : filter q (f x) ≡ f x = filter_all q (f x) (All_from_members (λ y. q y ≡ true) (f x) (λ y c. h x y c ∙ e)) in
        λ i. all i ++ later i
    by false e later =
        let none : filter q (f x) ≡ [] = filter_none q (f x) (All_from_members (λ y. q y ≡ false) (f x) (λ y c. h x y c ∙ e)) in
        λ i. none i ++ later i

-- the rows of a key have that key
pub own_key : (windows : List Def) (key : List ℕ) (m : Moment) (row : Row) → Contains (rows_at windows key m) row → row.key ≡ key
own_key windows key m row c =
    let (w, a, d) = flat_map_members (λ (w : ℕ × Def). map (row_of w.0 key (w.1).func) (standing_at w.1 m)) (enumerate_from 0 windows) row c in
    let (i, s, is) = map_members (row_of w.0 key (w.1).func) (standing_at w.1 m) row d in
    sym (ap (λ (r : Row). r.key) is)

pub early_all : (sources : List (List Entry)) → AreUntied sources → AreEarly (all_entries sources)
early_all sources u = All_from_members (λ (e : Entry). water_time e.what ≤ FINAL) (all_entries sources) (λ e c. let below = water_is_early e.what (All-contains (λ (x : Entry). is_what_within x.what ≡ true) (all_entries sources) e u.within c) in omega (arith, below))

module _ (d : Definitions) (shards : ℕ) (sources journals : List (List Entry)) (k : ℕ) (u : AreUntied sources) (keep : KeepAll d.lateness shards sources journals) (l : k < shards) where
  -- what is known of a key at the end
  final_known : (key : List ℕ) → moment_of d (length sources) key (get_or journals k []) ≡ final_moment (get_or journals k []) key
  final_known key =
      let kept = kept_whole d.lateness (length sources) key (get_or journals k []) (keep.kept k l) in
      let marks = marks_whole d.lateness (length sources) key (get_or journals k []) (keep.kept k l) in
      let water = final_there shards sources journals keep.lawful k l u in
      λ i. record { kept = kept i; marks = marks i; water = water i }

  rows_of_key : (key : List ℕ) → (shard_of key shards == k) ≡ true → rows_at d.windows key (moment_of d (length sources) key (get_or journals k [])) ≡ rows_at d.windows key (final_moment (all_entries sources) key)
  rows_of_key key own =
      ap (rows_at d.windows key) (final_known key)
      ∙ same_rows d.windows key (get_or journals k []) (all_entries sources) (early_there shards sources journals keep.lawful k l u) (early_all sources u) (no_ties_there shards sources journals keep.lawful k l u.untied) u.untied
      (same_there shards sources journals keep.lawful k l key) (same_back shards sources journals keep.lawful k l key own)

  pub rows_of_a_shard : standing_rows d (length sources) (get_or journals k []) ≡ rows_of_shard shards k (final_rows d sources)
  unfolding standing_rows final_rows
  rows_of_a_shard =
      let rows : List ℕ → List Row = λ key. rows_at d.windows key (final_moment (all_entries sources) key) in
      ap (flat_map (λ key. rows_at d.windows key (moment_of d (length sources) key (get_or journals k [])))) (keys_there shards sources journals keep.lawful k l)
      ∙ flat_map_same (λ key. rows_at d.windows key (moment_of d (length sources) key (get_or journals k []))) rows (filter (λ (key : List ℕ). shard_of key shards == k) (keys_of (all_entries sources)))
      (λ key c. rows_of_key key (filter_members (λ (key : List ℕ). shard_of key shards == k) (keys_of (all_entries sources)) key c).1)
      ∙ sym (filter_parts (λ (row : Row). shard_of row.key shards == k) (λ (key : List ℕ). shard_of key shards == k) rows
      (λ key row c. ap (λ (key : List ℕ). shard_of key shards == k) (own_key d.windows key (final_moment (all_entries sources) key) row c)) (keys_of (all_entries sources)))
