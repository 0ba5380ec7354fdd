-- What a late tuple changes of the complete intervals that hold it.
use Rattle.std.proofs.Common.{◌≡◌, ◌∙◌, ℕ, ℤ, zero, suc, ◌+◌, ◌^◌, ◌<◌, ◌≤◌, Bool, true, false, cond, Option, None, Some, List, [], ◌∷◌, ◌++◌, length, get_or, map, ap, sym, refl, arith, inl, inr}
use Rattle.std.specs.Prelude.{◌⊎◌, ◌&&◌, nat_le, nat_lt}
use Rattle.std.specs.List.{All, Contains}
use Rattle.std.proofs.lemmas.Bool.{cases_lt, le-leb, le-ltb, lt-ltb}
use Rattle.std.proofs.lemmas.List.{length-map}
use Rattle.std.proofs.lemmas.List.Elements.{All-contains, All-filter, filter-append}
use Rattle.stream_base.specs.declared.change.Change.{Change}
use Rattle.stream_base.specs.declared.change.Change.TheVariants.{Again, New}
use Rattle.stream_base.specs.declared.def.Def.{Def}
use Rattle.stream_base.specs.declared.former.Former.{Former}
use Rattle.stream_base.specs.declared.kept.Kept.{Kept}
use Rattle.stream_base.specs.declared.kind.Kind.{Kind}
use Rattle.stream_base.specs.Laws.{TimesDoNotFall}
use Rattle.stream_base.specs.Kinds.{IsKindWithin, is_timed, length_of, slide_of}
use Rattle.stream_base.specs.Model.Changes.{emissions, former_of, row_of}
use Rattle.stream_base.specs.Model.Journal.{put_in_order}
use Rattle.stream_base.specs.Model.Windows.{interval, is_selecting, is_within, starts_holding, within}
use Rattle.stream_base.proofs.Members.{filter_members, map_same}
use Rattle.stream_base.proofs.Spans.{starts_holding_members}
use Rattle.stream_base.specs.Model.Moments.{moment}
use Rattle.window_laws.specs.After.{with_tuple}
use Rattle.window_laws.specs.Late.{late_change}
use Rattle.window_laws.proofs.LateFacts.{timed_late_emissions}
use Rattle.slice_lists.proofs.Order.{nd_split}
use Rattle.slice_lists.proofs.RunFacts.{put_behind, put_first}
use Rattle.agg_store.specs.Stored.{Stored, tuples_of}
use Rattle.time_lanes.specs.Joined.{is_order_free, joined_at}
use Rattle.time_lanes.specs.Told.{again_or_new, complete_starts, former_at, former_if, starts_from, told_at, told_late}
use Rattle.time_lanes.specs.Late.{AreApartAt, IsLate, complete_holding, formers_of}
use Rattle.time_lanes.specs.Spans.{IsSpan}
use Rattle.time_lanes.proofs.JoinedFacts.{joined_is_told}

told_of_map : (told : ℕ → Option Former → Change) (g : ℕ → Option Former) (lows : List ℕ) → told_late told lows (map g lows) ≡ map (λ low. told low (g low)) lows
told_of_map told g [] = refl
told_of_map told g (low ∷ lows) = ap (λ q. told low (g low) ∷ q) (told_of_map told g lows)

-- ---- what the store dropped
pub nothing_dropped : (low high : ℕ) (gone kept : List Kept) → within low high gone ≡ [] → within low high (gone ++ kept) ≡ within low high kept
nothing_dropped low high gone kept h = filter-append (is_within low high) gone kept ∙ ap (λ l. l ++ within low high kept) h

apart_at : (kind : Kind) (time water low : ℕ) (gone : List Kept) → AreApartAt kind time gone → Contains (complete_holding kind time water) low → within low (low + length_of kind) gone ≡ []
apart_at kind time water low gone a c =
    All-contains (λ low. within low (low + length_of kind) gone ≡ []) (starts_holding (length_of kind) (slide_of kind) time) low a
    (filter_members (λ low. nat_le (low + length_of kind) water) (starts_holding (length_of kind) (slide_of kind) time) low c).0

pub over : (low high : ℕ) (kept others : List Kept) → within low high kept ≡ within low high others → interval low high kept ≡ interval low high others
over low high kept others h = ap (λ chosen. record { low = low; high = high; bound = high; chosen = chosen }) h

pub formers_with : (def : Def) (time water : ℕ) (gone kept : List Kept) → AreApartAt def.kind time gone → formers_of def time water (gone ++ kept) ≡ formers_of def time water kept
formers_with def time water gone kept a =
    map_same (former_at def.func (length_of def.kind) (gone ++ kept)) (former_at def.func (length_of def.kind) kept) (complete_holding def.kind time water)
    (λ low c. ap (former_if def.func) (over low (low + length_of def.kind) (gone ++ kept) kept (nothing_dropped low (low + length_of def.kind) gone kept (apart_at def.kind time water low gone a c))))

-- ---- a tuple put in its place, in an interval that holds it
head_first : (y : Kept) (ys : List Kept) → TimesDoNotFall (y ∷ ys) → All (λ z. y.time ≤ z.time) ys
head_first y ys h k d l = h zero (suc k) d (omega arith) (omega arith)

tail_falls : (y : Kept) (ys : List Kept) → TimesDoNotFall (y ∷ ys) → TimesDoNotFall ys
tail_falls y ys h i j d l m = h (suc i) (suc j) d (omega arith) (omega arith)

goes_first : (zs : List Kept) (x : Kept) → All (λ z. x.time < z.time) zs → put_in_order zs x ≡ x ∷ zs
goes_first [] x a = refl
goes_first (z ∷ zs) x a = put_first z zs x (lt-ltb x.time z.time (a zero z (omega arith)))

put_within : (low high : ℕ) (kept : List Kept) (x : Kept) → TimesDoNotFall kept → is_within low high x ≡ true → within low high (put_in_order kept x) ≡ put_in_order (within low high kept) x
put_within low high [] x h t = ap (λ b. cond b (x ∷ []) []) t
put_within low high (y ∷ ys) x h t = by (put_within low high ys x (tail_falls y ys h) t) (cases_lt x.time y.time)
  where
    later : x.time < y.time → All (λ z. x.time < z.time) (y ∷ ys)
    later l zero d m = l
    later l (suc k) d m = let g : y.time ≤ (get_or ys k d).time = head_first y ys h k d (omega arith) in omega arith

    by : within low high (put_in_order ys x) ≡ put_in_order (within low high ys) x → (x.time < y.time) ⊎ (y.time ≤ x.time) → within low high (put_in_order (y ∷ ys) x) ≡ put_in_order (within low high (y ∷ ys)) x
    by rest (inl l) =
        ap (within low high) (put_first y ys x (lt-ltb x.time y.time l))
        ∙ ap (λ b. cond b (x ∷ within low high (y ∷ ys)) (within low high (y ∷ ys))) t
        ∙ sym (goes_first (within low high (y ∷ ys)) x (All-filter (is_within low high) (λ z. x.time < z.time) (y ∷ ys) (later l)))
    by rest (inr l) = ap (within low high) (put_behind y ys x (le-ltb x.time y.time l)) ∙ own (is_within low high y)
      where
        own : (b : Bool) → cond b (y ∷ within low high (put_in_order ys x)) (within low high (put_in_order ys x)) ≡ put_in_order (cond b (y ∷ within low high ys) (within low high ys)) x
        own true = ap (λ q. y ∷ q) rest ∙ sym (put_behind y (within low high ys) x (le-ltb x.time y.time l))
        own false = rest

fewer_within : (low high : ℕ) (kept : List Kept) → length (within low high kept) ≤ length kept
fewer_within low high [] = omega arith
fewer_within low high (y ∷ ys) = by (is_within low high y) (fewer_within low high ys)
  where
    by : (b : Bool) → length (within low high ys) ≤ length ys → length (cond b (y ∷ within low high ys) (within low high ys)) ≤ length (y ∷ ys)
    by true h = omega arith
    by false h = omega arith

-- ---- what a late tuple changes
module _ (window : ℕ) (key : List ℕ) (def : Def) (time water : ℕ) (gone before : List Kept) (marks : List ℕ) (x : Kept) (formers : List (Option Former)) (s : Stored) (timed : is_timed def.kind ≡ true) (kind : IsKindWithin def.kind) (span : IsSpan (length_of def.kind) (slide_of def.kind)) (h : IsLate def time water gone before x formers s) where
  abbrev len : ℕ
  len = length_of def.kind

  holds_it : (low : ℕ) → Contains (complete_holding def.kind time water) low → is_within low (low + length_of def.kind) x ≡ true
  holds_it low c =
      let m = starts_holding_members (length_of def.kind) (slide_of def.kind) span.moves span.overlaps time low (filter_members (λ low. nat_le (low + length_of def.kind) water) (starts_holding (length_of def.kind) (slide_of def.kind) time) low c).0 in
      (λ i. nat_le low (h.at i) && nat_lt (h.at i) (low + length_of def.kind)) ∙ (λ i. le-leb low time m.2 i && lt-ltb time (low + length_of def.kind) m.3 i)

  -- the tuple has been put among those that the interval held
  held_with : (low : ℕ) → Contains (complete_holding def.kind time water) low → within low (low + length_of def.kind) (tuples_of s) ≡ put_in_order (within low (low + length_of def.kind) (gone ++ before)) x
  held_with low c =
      ap (within low (low + length_of def.kind)) h.put
      ∙ put_within low (low + length_of def.kind) before x (nd_split (λ (x : Kept). x.time) gone before h.ordered).1 (holds_it low c)
      ∙ ap (λ l. put_in_order l x) (sym (nothing_dropped low (low + length_of def.kind) gone before (apart_at def.kind time water low gone h.apart c)))

  same_held : (low : ℕ) → Contains (complete_holding def.kind time water) low → within low (low + length_of def.kind) (tuples_of s) ≡ within low (low + length_of def.kind) (put_in_order (gone ++ before) x)
  same_held low c = held_with low c ∙ sym (put_within low (low + length_of def.kind) (gone ++ before) x h.ordered (holds_it low c))

  again : (b : Bool) (row : _) (former : Former) → again_or_new (cond b (Some former) None) row ≡ cond b (Again row former) (New row)
  again true row former = refl
  again false row former = refl

  one_change : (low : ℕ) → Contains (complete_holding def.kind time water) low → told_at window key def.func (length_of def.kind) (tuples_of s) low (former_at def.func (length_of def.kind) (gone ++ before) low) ≡ late_change window key def.func (length_of def.kind) (gone ++ before) x low
  one_change low c =
      ap (λ i. again_or_new (former_at def.func (length_of def.kind) (gone ++ before) low) (row_of window key def.func i)) (over low (low + length_of def.kind) (tuples_of s) (put_in_order (gone ++ before) x) (same_held low c))
      ∙ again (is_selecting (interval low (low + length_of def.kind) (gone ++ before))) (row_of window key def.func (interval low (low + length_of def.kind) (put_in_order (gone ++ before) x))) (former_of def.func (interval low (low + length_of def.kind) (gone ++ before)))

  pub late_told : told_late (told_at window key def.func (length_of def.kind) (tuples_of s)) (complete_holding def.kind time water) formers ≡ emissions key (moment (gone ++ before) marks water) (with_tuple (moment (gone ++ before) marks water) x) (window, def)
  late_told =
      ap (told_late (told_at window key def.func (length_of def.kind) (tuples_of s)) (complete_holding def.kind time water)) h.stood
      ∙ told_of_map (told_at window key def.func (length_of def.kind) (tuples_of s)) (former_at def.func (length_of def.kind) (gone ++ before)) (complete_holding def.kind time water)
      ∙ map_same (λ low. told_at window key def.func (length_of def.kind) (tuples_of s) low (former_at def.func (length_of def.kind) (gone ++ before) low)) (late_change window key def.func (length_of def.kind) (gone ++ before) x) (complete_holding def.kind time water) one_change
      ∙ ap (λ t. map (late_change window key def.func (length_of def.kind) (gone ++ before) x) (complete_holding def.kind t water)) (sym h.at)
      ∙ sym (timed_late_emissions window key def (moment (gone ++ before) marks water) x timed kind)

  -- where the order of values makes no difference, each is told by what stood of it
  pub joined_told : is_order_free def.func ≡ true → length (tuples_of s) < 2 ^ 64 → told_late (joined_at window key def.func (length_of def.kind) x.value) (complete_holding def.kind time water) formers ≡ told_late (told_at window key def.func (length_of def.kind) (tuples_of s)) (complete_holding def.kind time water) formers
  joined_told free few =
      ap (told_late (joined_at window key def.func (length_of def.kind) x.value) (complete_holding def.kind time water)) h.stood
      ∙ told_of_map (joined_at window key def.func (length_of def.kind) x.value) (former_at def.func (length_of def.kind) (gone ++ before)) (complete_holding def.kind time water)
      ∙ map_same (λ low. joined_at window key def.func (length_of def.kind) x.value low (former_at def.func (length_of def.kind) (gone ++ before) low)) (λ low. told_at window key def.func (length_of def.kind) (tuples_of s) low (former_at def.func (length_of def.kind) (gone ++ before) low)) (complete_holding def.kind time water) one_joined
      ∙ sym (told_of_map (told_at window key def.func (length_of def.kind) (tuples_of s)) (former_at def.func (length_of def.kind) (gone ++ before)) (complete_holding def.kind time water))
      ∙ sym (ap (told_late (told_at window key def.func (length_of def.kind) (tuples_of s)) (complete_holding def.kind time water)) h.stood)
    where
      one_joined : (low : ℕ) → Contains (complete_holding def.kind time water) low → joined_at window key def.func (length_of def.kind) x.value low (former_at def.func (length_of def.kind) (gone ++ before) low) ≡ told_at window key def.func (length_of def.kind) (tuples_of s) low (former_at def.func (length_of def.kind) (gone ++ before) low)
      one_joined low c =
          joined_is_told window key def.func low (low + length_of def.kind) (within low (low + length_of def.kind) (gone ++ before)) (within low (low + length_of def.kind) (tuples_of s)) x free (held_with low c)
          (omega (arith, few, fewer_within low (low + length_of def.kind) (tuples_of s)))

pub late_number : (window : ℕ) (key : List ℕ) (def : Def) (time water : ℕ) (kept : List Kept) (marks : List ℕ) (x : Kept) → is_timed def.kind ≡ true → IsKindWithin def.kind → x.time ≡ time → length (complete_holding def.kind time water) ≡ length (emissions key (moment kept marks water) (with_tuple (moment kept marks water) x) (window, def))
late_number window key def time water kept marks x timed kind at =
    ap (λ t. length (complete_holding def.kind t water)) (sym at)
    ∙ sym (length-map (complete_holding def.kind x.time water) (late_change window key def.func (length_of def.kind) kept x))
    ∙ ap length (sym (timed_late_emissions window key def (moment kept marks water) x timed kind))

-- ---- the same, as a lane has it
pub formers_told : (def : Def) (time water : ℕ) (gone : List Kept) (s : Stored) (length_is slide_is first count : ℕ) (before after : List (Option Former)) → length_is ≡ length_of def.kind → slide_is ≡ slide_of def.kind → complete_starts length_is slide_is time water ≡ starts_from slide_is first count → AreApartAt def.kind time gone → after ≡ before ++ map (former_at def.func length_is (tuples_of s)) (starts_from slide_is first count) → after ≡ before ++ formers_of def time water (gone ++ tuples_of s)
formers_told def time water gone s length_is slide_is first count before after l m starts a h =
    h
    ∙ ap (λ q. before ++ map (former_at def.func length_is (tuples_of s)) q) (sym starts)
    ∙ (λ i. before ++ map (former_at def.func (l i) (tuples_of s)) (complete_starts (l i) (m i) time water))
    ∙ ap (λ q. before ++ q) (sym (formers_with def time water gone (tuples_of s) a))

pub lane_late : (window : ℕ) (key : List ℕ) (def : Def) (time water : ℕ) (gone before : List Kept) (marks : List ℕ) (x : Kept) (formers : List (Option Former)) (s : Stored) → is_timed def.kind ≡ true → IsKindWithin def.kind → IsSpan (length_of def.kind) (slide_of def.kind) → IsLate def time water gone before x formers s
    → (length_is slide_is first count : ℕ) (old after : List Change) → length_is ≡ length_of def.kind → slide_is ≡ slide_of def.kind → complete_starts length_is slide_is time water ≡ starts_from slide_is first count → after ≡ old ++ told_late (told_at window key def.func length_is (tuples_of s)) (starts_from slide_is first count) formers
    → after ≡ old ++ emissions key (moment (gone ++ before) marks water) (with_tuple (moment (gone ++ before) marks water) x) (window, def)
lane_late window key def time water gone before marks x formers s timed kind span h length_is slide_is first count old after l m starts e =
    e
    ∙ ap (λ q. old ++ told_late (told_at window key def.func length_is (tuples_of s)) q formers) (sym starts)
    ∙ (λ i. old ++ told_late (told_at window key def.func (l i) (tuples_of s)) (complete_starts (l i) (m i) time water) formers)
    ∙ ap (λ q. old ++ q) (late_told window key def time water gone before marks x formers s timed kind span h)

-- the same, where each is told by what stood of it
pub lane_joined : (window : ℕ) (key : List ℕ) (def : Def) (time water : ℕ) (gone before : List Kept) (marks : List ℕ) (x : Kept) (formers : List (Option Former)) (s : Stored) → is_timed def.kind ≡ true → IsKindWithin def.kind → IsSpan (length_of def.kind) (slide_of def.kind) → IsLate def time water gone before x formers s → is_order_free def.func ≡ true → length (tuples_of s) < 2 ^ 64
    → (length_is slide_is first count : ℕ) (value : ℤ) (old after : List Change) → length_is ≡ length_of def.kind → slide_is ≡ slide_of def.kind → complete_starts length_is slide_is time water ≡ starts_from slide_is first count → value ≡ x.value → after ≡ old ++ told_late (joined_at window key def.func length_is value) (starts_from slide_is first count) formers
    → after ≡ old ++ emissions key (moment (gone ++ before) marks water) (with_tuple (moment (gone ++ before) marks water) x) (window, def)
lane_joined window key def time water gone before marks x formers s timed kind span h free few length_is slide_is first count value old after l m starts v e =
    e
    ∙ ap (λ q. old ++ told_late (joined_at window key def.func length_is value) q formers) (sym starts)
    ∙ (λ i. old ++ told_late (joined_at window key def.func (l i) (v i)) (complete_starts (l i) (m i) time water) formers)
    ∙ ap (λ q. old ++ q) (joined_told window key def time water gone before marks x formers s timed kind span h free few ∙ late_told window key def time water gone before marks x formers s timed kind span h)
