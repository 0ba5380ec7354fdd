-- The rows that stand after a journal: which they are, and their order.
use Rattle.std.proofs.Common.{◌≡◌, ◌∙◌, ℕ, ◌<◌, List, map, ap, sym, refl, subst, subst₂, ⊎_elim, arith, Some}
use Rattle.std.specs.Prelude.{◌↔◌, slice_get}
use Rattle.std.specs.declared.cmp.Ordering.TheVariants.{Less}
use Rattle.std.specs.Cmp.{IsTotalOrder}
use Rattle.std.specs.Cmp.Lexicographic.{slice_cmp}
use Rattle.std.specs.List.{Contains, enumerate_from}
use Rattle.std.specs.List.Sorted.{IsStrictlySortedBy}
use Rattle.std.specs.Ordering.{nat_cmp}
use Rattle.std.proofs.lemmas.Cmp.{nat_cmp_total, nat_list_cmp_total, on_total, then_total}
use Rattle.stream_base.specs.declared.def.Def.{Def}
use Rattle.stream_base.specs.declared.entry.Entry.{Entry}
use Rattle.stream_base.specs.declared.row.Row.{Row}
use Rattle.stream_base.specs.Limits.{AreWithinLimits, Definitions}
use Rattle.stream_base.specs.Model.Changes.{Moment, moment_of, row_of, rows_at, standing_at, standing_rows}
use Rattle.stream_base.specs.Model.Journal.{keys_of}
use Rattle.stream_base.specs.Model.Windows.{Instance}
use Rattle.stream_base.specs.Laws.{IsStandingRow, RiseByStart, by_row, by_start}
use Rattle.model_laws.proofs.Absent.{is_key_or_not, nothing_kept, stands_of_none}
use Rattle.stream_base.proofs.ChangeFacts.{enumerate_members}
use Rattle.model_laws.proofs.ChangeList.{numbered_at, numbered_has}
use Rattle.model_laws.proofs.ChangeOrder.{by_index, by_index_total, first_decides, key_tie, numbered_in_order, same_tie, sorted_flat_map, tie_passes}
use Rattle.model_laws.proofs.ChangesAfter.{keys_in_order, rises_after}
use Rattle.stream_base.proofs.Distinct.{less_from_lt, lt_from_less, sorted_map}
use Rattle.stream_base.proofs.Members.{flat_map_has, flat_map_members, map_has, map_members}

-- ---- one key
-- a row of a key is that of an instance of its window that stands
record IsRowAt (windows : List Def) (key : List ℕ) (m : Moment) (row : Row) : Type 0 where
  own : row.key ≡ key
  def : Def
  of_window : slice_get windows row.window ≡ Some def
  instance : Instance
  stands : Contains (standing_at def m) instance
  shows : row ≡ row_of row.window key def.func instance

row_is_at : (windows : List Def) (key : List ℕ) (m : Moment) (row : Row) → Contains (rows_at windows key m) row → IsRowAt windows key m row
row_is_at windows key m row c =
    let (w, among, d) = flat_map_members (λ (w : ℕ × Def). map (row_of w.0 key (w.1).func) (standing_at w.1 m)) (enumerate_from 0 windows) row c in
    let (i, stands, is) = map_members (row_of w.0 key (w.1).func) (standing_at w.1 m) row d in
    subst (IsRowAt windows key m) is (record { own = refl; def = w.1; of_window = numbered_at windows w among; instance = i; stands = stands; shows = refl })

at_is_row : (windows : List Def) (key : List ℕ) (m : Moment) (row : Row) (def : Def) (i : Instance) → slice_get windows row.window ≡ Some def → Contains (standing_at def m) i → row ≡ row_of row.window key def.func i → Contains (rows_at windows key m) row
at_is_row windows key m row def i of_window stands shows =
    let own : Contains (map (row_of row.window key def.func) (standing_at def m)) row = subst (Contains (map (row_of row.window key def.func) (standing_at def m))) (sym shows) (map_has (row_of row.window key def.func) (standing_at def m) i stands) in
    flat_map_has (λ (w : ℕ × Def). map (row_of w.0 key (w.1).func) (standing_at w.1 m)) (enumerate_from 0 windows) (row.window, def) row (numbered_has windows row.window def of_window) own

-- ---- all keys
rows_stand : (d : Definitions) (sources : ℕ) (journal : List Entry) (row : Row) → Contains (standing_rows d sources journal) row → IsStandingRow d sources journal row
unfolding standing_rows
rows_stand d sources journal row c =
    let (key, among, e) = flat_map_members (λ key. rows_at d.windows key (moment_of d sources key journal)) (keys_of journal) row c in
    let h : IsRowAt d.windows key (moment_of d sources key journal) row = row_is_at d.windows key (moment_of d sources key journal) row e in
    record {
      def = h.def;
      of_window = h.of_window;
      instance = h.instance;
      stands = subst (λ k. Contains (standing_at h.def (moment_of d sources k journal)) h.instance) (sym h.own) h.stands;
      shows = subst (λ k. row ≡ row_of row.window k (h.def).func h.instance) (sym h.own) h.shows;
    }

stand_in_rows : (d : Definitions) (sources : ℕ) (journal : List Entry) (row : Row) → IsStandingRow d sources journal row → Contains (standing_rows d sources journal) row
unfolding standing_rows
stand_in_rows d sources journal row h =
    flat_map_has (λ key. rows_at d.windows key (moment_of d sources key journal)) (keys_of journal) row.key row is_a_key
    (at_is_row d.windows row.key (moment_of d sources row.key journal) row h.def h.instance h.of_window h.stands h.shows)
  where
    is_a_key : Contains (keys_of journal) row.key
    is_a_key =
        ⊎_elim
        (λ k. k)
        (λ absent. absurd (stands_of_none h.def (moment_of d sources row.key journal) h.instance (nothing_kept d.lateness sources row.key journal absent) h.stands))
        (is_key_or_not row.key (keys_of journal))

-- the rows that stand are those of all instances that do
pub standing_rows_exactly : (d : Definitions) (sources : ℕ) (journal : List Entry) (row : Row) → Contains (standing_rows d sources journal) row ↔ IsStandingRow d sources journal row
standing_rows_exactly d sources journal row = (rows_stand d sources journal row, stand_in_rows d sources journal row)

-- ---- their order
pub by_row_total : IsTotalOrder by_row
by_row_total =
    then_total (on_total (λ (r : Row). r.key) nat_list_cmp_total)
    (then_total (on_total (λ (r : Row). r.window) nat_cmp_total)
    (then_total (on_total (λ (r : Row). r.low) nat_cmp_total) (on_total (λ (r : Row). r.high) nat_cmp_total)))

pub less_by_key : (r s : Row) → slice_cmp nat_cmp r.key s.key ≡ Less → by_row r s ≡ Less
less_by_key r s less = first_decides (slice_cmp nat_cmp r.key s.key) _ less

less_by_window : (r s : Row) → r.key ≡ s.key → r.window < s.window → by_row r s ≡ Less
less_by_window r s k l =
    tie_passes (slice_cmp nat_cmp r.key s.key) _ (key_tie r.key s.key k)
    ∙ first_decides (nat_cmp r.window s.window) _ (less_from_lt r.window s.window l)

less_by_start : (r s : Row) → r.key ≡ s.key → r.window ≡ s.window → r.low < s.low → by_row r s ≡ Less
less_by_start r s k w l =
    tie_passes (slice_cmp nat_cmp r.key s.key) _ (key_tie r.key s.key k)
    ∙ tie_passes (nat_cmp r.window s.window) _ (same_tie r.window s.window w)
    ∙ first_decides (nat_cmp r.low s.low) _ (less_from_lt r.low s.low l)

row_window : (key : List ℕ) (m : Moment) (w : ℕ × Def) (row : Row) → Contains (map (row_of w.0 key (w.1).func) (standing_at w.1 m)) row → (row.key ≡ key) × (row.window ≡ w.0)
row_window key m w row c =
    let (i, stands, is) = map_members (row_of w.0 key (w.1).func) (standing_at w.1 m) row c in
    (sym (ap (λ (r : Row). r.key) is), sym (ap (λ (r : Row). r.window) is))

pub rows_at_in_order : (windows : List Def) (key : List ℕ) (m : Moment) → ((def : Def) → Contains windows def → RiseByStart (standing_at def m)) → IsStrictlySortedBy by_row (rows_at windows key m)
unfolding by_index
rows_at_in_order windows key m rise =
    sorted_flat_map by_row_total by_index_total (λ (w : ℕ × Def). map (row_of w.0 key (w.1).func) (standing_at w.1 m))
    (λ v w a b less c d.
    let p : (a.key ≡ key) × (a.window ≡ v.0) = row_window key m v a c in
    let q : (b.key ≡ key) × (b.window ≡ w.0) = row_window key m w b d in
    less_by_window a b (p.0 ∙ sym q.0) (omega (arith, p.1, q.1, lt_from_less v.0 w.0 less)))
    (enumerate_from 0 windows) (numbered_in_order 0 windows)
    (λ w c. sorted_map {cmp = by_start} by_row_total (row_of w.0 key (w.1).func) (λ i j less. less_by_start (row_of w.0 key (w.1).func i) (row_of w.0 key (w.1).func j) refl refl (lt_from_less i.low j.low less)) (standing_at w.1 m) (rise w.1 (enumerate_members 0 windows w c)))

pub standing_rows_in_order : (d : Definitions) (sources : ℕ) (journal : List Entry) → AreWithinLimits d → IsStrictlySortedBy by_row (standing_rows d sources journal)
unfolding standing_rows
standing_rows_in_order d sources journal limits =
    sorted_flat_map by_row_total nat_list_cmp_total (λ key. rows_at d.windows key (moment_of d sources key journal))
    (λ k l a b less c e.
    let p : IsRowAt d.windows k (moment_of d sources k journal) a = row_is_at d.windows k (moment_of d sources k journal) a c in
    let q : IsRowAt d.windows l (moment_of d sources l journal) b = row_is_at d.windows l (moment_of d sources l journal) b e in
    less_by_key a b (subst₂ (λ x y. slice_cmp nat_cmp x y ≡ Less) (sym p.own) (sym q.own) less))
    (keys_of journal) (keys_in_order journal)
    (λ key c. rows_at_in_order d.windows key (moment_of d sources key journal) (rises_after d sources key journal limits))
