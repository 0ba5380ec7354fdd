-- What the instances of each kind select: some of what is kept, and at least one tuple.
use Rattle.std.proofs.Common.{get_or, ap, map, subst, ◌≡◌, ℕ, ◌+◌, ◌-◌, ◌*◌, ◌/◌, ◌<◌, ◌≤◌, true, List, [], ◌∷◌, ◌++◌, length, take, drop, arith, zero, suc, sym, refl, ⊎_elim}
use Rattle.std.specs.Prelude.{nat_le, nat_lt}
use Rattle.std.specs.List.{All, Contains, range_with_len, filter}
use Rattle.std.specs.Ordering.{nat_cmp}
use Rattle.std.proofs.lemmas.Bool.{ltb-true, le-leb, lt-ltb, and_from}
use Rattle.std.proofs.lemmas.List.{length-take, length-drop}
use Rattle.std.proofs.lemmas.List.Elements.{All-map}
use Rattle.std.proofs.lemmas.Nat.{div-add-mod'}
use Rattle.stream_base.specs.declared.limits.TheConstants.{FINAL}
use Rattle.stream_base.specs.declared.kept.Kept.{Kept}
use Rattle.stream_base.specs.Model.Journal.{rising}
use Rattle.stream_base.specs.Model.Windows.{Instance, is_within, within, interval, starts_of, spans, pieces_of, session, sessions, is_selecting, between_times, stretches, ranks, counted}
use Rattle.stream_base.proofs.Members.{flat_map_has, range_members, map_members, filter_members, filter_has}
use Rattle.stream_base.proofs.Spans.{starts_of_members}
use Rattle.stream_base.proofs.Distinct.{All_from_members}
use native.Mathlib.Nat.{zero-div}
use Rattle.stream_base.proofs.Pieces.{sessions_joined, pieces_full}
use Rattle.stream_base.proofs.Rising.{none_in_nil, Contains-cons_cases, Contains-at_head, Contains-tail}

pub not_empty : {X : Type 0} (xs : List X) (x : X) → Contains xs x → 1 ≤ length xs
not_empty xs x c = omega (arith, c.1)

pub spans_select : (length' slide : ℕ) (kept : List Kept) → 1 ≤ slide → slide ≤ length' → All (λ i. 1 ≤ length i.chosen) (spans length' slide kept)
spans_select length' slide kept moves overlaps = All_from_members (λ i. 1 ≤ length i.chosen) (spans length' slide kept) each
  where
    each : (i : Instance) → Contains (spans length' slide kept) i → 1 ≤ length i.chosen
    each i c =
        let m : (low : ℕ) × Contains (starts_of length' slide kept) low × (interval low (low + length') kept ≡ i) = map_members (λ low. interval low (low + length') kept) (starts_of length' slide kept) i c in
        let s : (k : ℕ) × (x : Kept) × Contains kept x × (m.0 ≡ k * slide) × (m.0 ≤ x.time) × (x.time < m.0 + length') = starts_of_members length' slide moves overlaps kept m.0 m.1 in
        let inside : is_within m.0 (m.0 + length') s.1 ≡ true = and_from (nat_le m.0 (s.1).time) (nat_lt (s.1).time (m.0 + length')) (le-leb m.0 (s.1).time s.4) (lt-ltb (s.1).time (m.0 + length') s.5) in
        subst (λ (j : Instance). 1 ≤ length j.chosen) m.2 (not_empty (within m.0 (m.0 + length') kept) s.1 (filter_has (is_within m.0 (m.0 + length')) kept s.1 s.2 inside))

pub sessions_select : (gap : ℕ) (kept : List Kept) → All (λ i. 1 ≤ length i.chosen) (sessions gap kept)
sessions_select gap kept = All-map (λ i. 1 ≤ length i.chosen) (session gap) (pieces_of (λ x y. nat_le gap (y.time - x.time)) kept) (pieces_full (λ x y. nat_le gap (y.time - x.time)) kept)

pub stretches_select : (marks : List ℕ) (kept : List Kept) → All (λ i. 1 ≤ length i.chosen) (stretches marks kept)
stretches_select marks kept =
    All_from_members (λ i. 1 ≤ length i.chosen) (stretches marks kept)
    (λ i c. ltb-true 0 (length i.chosen) (filter_members is_selecting (between_times (rising nat_cmp (0 ∷ marks ++ FINAL ∷ [])) kept) i c).1)

-- the runs of so many tuples that are all there have so many
pub room_for : (i count n : ℕ) → i < n / count → (i + 1) * count ≤ n
room_for i count n h =
    let le : (i + 1) * count ≤ n / count * count = mono (i + 1) (n / count) count (omega arith) in
    omega (arith, div-add-mod' n count)
  where
    mono : (a b c : ℕ) → a ≤ b → a * c ≤ b * c
    mono a b c h = grind arith

pub counted_length : (count : ℕ) (kept : List Kept) → All (λ i. length i.chosen ≡ count) (counted count kept)
counted_length count kept = All_from_members (λ i. length i.chosen ≡ count) (counted count kept) each
  where
    each : (i : Instance) → Contains (counted count kept) i → length i.chosen ≡ count
    each i c =
        let m : (k : ℕ) × Contains (range_with_len 0 (length kept / count)) k × (ranks count kept k ≡ i) = map_members (ranks count kept) (range_with_len 0 (length kept / count)) i c in
        let in_range : (0 ≤ m.0) × (m.0 < 0 + length kept / count) = range_members 0 (length kept / count) m.0 m.1 in
        let room : (m.0 + 1) * count ≤ length kept = room_for m.0 count (length kept) (omega arith) in
        let l : length (take count (drop (m.0 * count) kept)) ≡ count = simp (length-take, length-drop) (omega arith) in
        subst (λ (j : Instance). length j.chosen ≡ count) m.2 l

-- ---- what instances choose is kept
pub from_drop : {X : Type 0} (n : ℕ) (xs : List X) (x : X) → Contains (drop n xs) x → Contains xs x
from_drop zero xs x c = c
from_drop (suc n) [] x c = c
from_drop (suc n) (y ∷ xs) x c = Contains-tail y xs x (from_drop n xs x c)

pub from_take : {X : Type 0} (n : ℕ) (xs : List X) (x : X) → Contains (take n xs) x → Contains xs x
from_take zero xs x c = absurd (none_in_nil x c)
from_take (suc n) [] x c = c
from_take (suc n) (y ∷ xs) x c = ⊎_elim (λ e. Contains-at_head y xs x e) (λ d. Contains-tail y xs x (from_take n xs x d)) (Contains-cons_cases y (take n xs) x c)

-- all that an instance chooses is among these
abbrev pub Chooses : List Kept → Instance → Type 0
Chooses kept i = (x : Kept) → Contains i.chosen x → Contains kept x

pub from_within : (low high : ℕ) (kept : List Kept) → Chooses kept (interval low high kept)
from_within low high kept x c = (filter_members (is_within low high) kept x c).0

pub between_choose : (times : List ℕ) (kept : List Kept) (i : Instance) → Contains (between_times times kept) i → Chooses kept i
between_choose [] kept i c = absurd (none_in_nil i c)
between_choose (a ∷ []) kept i c = absurd (none_in_nil i c)
between_choose (a ∷ b ∷ times) kept i c =
    ⊎_elim
    (λ e. subst (Chooses kept) e (from_within a b kept))
    (λ d. between_choose (b ∷ times) kept i d)
    (Contains-cons_cases (interval a b kept) (between_times (b ∷ times) kept) i c)

pub spans_choose : (len slide : ℕ) (kept : List Kept) (starts : List ℕ) (i : Instance) → Contains (map (λ low. interval low (low + len) kept) starts) i → Chooses kept i
spans_choose len slide kept starts i c =
    let (low, among, is) = map_members (λ low. interval low (low + len) kept) starts i c in
    subst (Chooses kept) is (from_within low (low + len) kept)

pub ranks_choose : (count : ℕ) (kept : List Kept) (numbers : List ℕ) (i : Instance) → Contains (map (ranks count kept) numbers) i → Chooses kept i
ranks_choose count kept numbers i c x d =
    let (n, among, is) = map_members (ranks count kept) numbers i c in
    let own : Contains (take count (drop (n * count) kept)) x = subst (λ (j : Instance). Contains j.chosen x) (sym is) d in
    from_drop (n * count) kept x (from_take count (drop (n * count) kept) x own)

pub no_stretch : (times : List ℕ) → filter is_selecting (between_times times []) ≡ []
no_stretch [] = refl
no_stretch (a ∷ []) = refl
no_stretch (a ∷ b ∷ times) = no_stretch (b ∷ times)

pub no_counted : (count : ℕ) → counted count [] ≡ []
no_counted count = ap (λ n. map (ranks count []) (range_with_len 0 n)) (zero-div count)

pub sessions_choose : (gap : ℕ) (kept : List Kept) (i : Instance) → Contains (sessions gap kept) i → Chooses kept i
sessions_choose gap kept i c x d = subst (λ l. Contains l x) (sessions_joined gap kept) (flat_map_has (λ (j : Instance). j.chosen) (sessions gap kept) i x c d)

pub stretches_choose : (marks : List ℕ) (kept : List Kept) (i : Instance) → Contains (stretches marks kept) i → Chooses kept i
stretches_choose marks kept i c =
    between_choose (rising nat_cmp (0 ∷ marks ++ FINAL ∷ [])) kept i
    (filter_members is_selecting (between_times (rising nat_cmp (0 ∷ marks ++ FINAL ∷ [])) kept) i c).0

pub counted_select : (count : ℕ) (kept : List Kept) → 1 ≤ count → All (λ i. 1 ≤ length i.chosen) (counted count kept)
counted_select count kept some n d l = let is : length (get_or (counted count kept) n d).chosen ≡ count = counted_length count kept n d l in omega (arith, some)
