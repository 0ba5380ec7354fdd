-- A step after which the board counts no less keeps the rule.
use Rattle.std.proofs.Common.{◌≡◌, ◌∙◌, ℕ, ◌≤◌, ◌≢◌, List, [], ◌∷◌, set, Option, Some, None, ap, sym, refl, subst, ⊎_elim, le_refl, le_trans}
use mathlib.Core.Option.{some}
use lib.ListN.{get_elem?}
use Rattle.left_right.specs.Register.{Admits, TurnsAt, Forks, Merges}
use Rattle.atomic_table.proofs.Lists.{at_set, at_snoc}
use Rattle.live_board.specs.declared.board.Board.{Board}
use Rattle.live_board.specs.declared.tally.Tally.{Tally}
use Rattle.live_board.specs.Rule.{IsLater, IsSeen, IsShown, IsTallyIn, with_tally}

some_same : {X : Type 0} (x y : X) → Some x ≡ Some y → x ≡ y
some_same x y e = cc

nothing_seen : (u : Board) → None ≡ Some u → ⊥
nothing_seen u e = cc

later_same : (b : Board) → IsLater b b
later_same b = record { same = refl; no_less = le_refl _ }

later_than : (a b c : Board) → IsLater a b → IsLater b c → IsLater a c
later_than a b c l m = record { same = m.same ∙ l.same; no_less = le_trans l.no_less m.no_less }

pub publishes : (seat : ℕ) (v : Option Board) (x y : Board) → IsLater x y → IsTallyIn y.course y.tally → TurnsAt IsShown seat v x y IsSeen
publishes seat v x y l tally views h at = (
  Some y,
  record {
    tally = tally;
    seen = λ j u e. ⊎_elim
        (λ (t : (j ≡ seat) × (Some y ≡ Some u)). subst (λ b. IsLater b y) (some_same y u t.1) (later_same y))
        (λ (t : (j ≢ seat) × (get_elem? views j ≡ some (Some u))). later_than u x y (h.seen j u t.1) l)
        (at_set views seat j (Some y) (Some u) e);
  },
  record { tally = tally; seen = refl; later = λ b is. later_than b x y (h.seen seat b (at ∙ ap some is)) l },
)

pub takes : (seat : ℕ) (v : Option Board) (x : Board) → TurnsAt IsShown seat v x x IsSeen
takes seat v x views h at = publishes seat v x x (later_same x) h.tally views h at

-- a new seat has seen nothing
pub admits : Admits IsShown None
admits x views h = record {
  tally = h.tally;
  seen = λ j u e. ⊎_elim (λ (t : get_elem? views j ≡ some (Some u)). h.seen j u t) (λ (same : None ≡ Some u). absurd (nothing_seen u same)) (at_snoc views None (Some u) j e);
}

with_seen : (x : Board) (views : List (Option Board)) (seat : ℕ) (v : Option Board) → IsShown x views → ((u : Board) → v ≡ Some u → IsLater u x) → IsShown x (set views seat v)
with_seen x views seat v h low = record {
  tally = h.tally;
  seen = λ j u e. ⊎_elim (λ (t : (j ≡ seat) × (v ≡ Some u)). low u t.1) (λ (t : (j ≢ seat) × (get_elem? views j ≡ some (Some u))). h.seen j u t.1) (at_set views seat j v (Some u) e);
}

pub forks : (seat : ℕ) (v : Option Board) → Forks IsShown seat v v v
forks seat v x views h at =
    let low : (u : Board) → v ≡ Some u → IsLater u x = λ u is. h.seen seat u (at ∙ ap some is) in
    let k : IsShown x (set views seat v) = with_seen x views seat v h low in
    record {
      tally = h.tally;
      seen = λ j u e. ⊎_elim (λ (t : get_elem? (set views seat v) j ≡ some (Some u)). k.seen j u t) (λ (same : v ≡ Some u). low u same) (at_snoc (set views seat v) v (Some u) j e);
    }

-- what was told is seen by the seat that learns it
pub merges : (seat : ℕ) (v : Option Board) (other : ℕ) (w : Option Board) → Merges IsShown seat v other w w None
merges seat v other w x views h at apart there =
    let low : (u : Board) → w ≡ Some u → IsLater u x = λ u is. ⊎_elim (λ (t : (other ≡ seat) × (w ≡ w)). absurd (apart t.0)) (λ (t : (other ≢ seat) × (get_elem? views other ≡ some w)). h.seen other u (t.1 ∙ ap some is)) (at_set views seat other w w there) in
    with_seen x (set views seat w) other None (with_seen x views seat w h low) (λ u is. absurd (nothing_seen u is))

pub publishes_same : (seat : ℕ) (v : Option Board) (x y : Board) → y ≡ x → TurnsAt IsShown seat v x y IsSeen
publishes_same seat v x y e = subst (λ y. TurnsAt IsShown seat v x y IsSeen) (sym e) (takes seat v x)

pub publishes_tally : (seat : ℕ) (v : Option Board) (x y : Board) (t : Tally) → y ≡ with_tally x t → (x.tally).entries ≤ t.entries → IsTallyIn x.course t → TurnsAt IsShown seat v x y IsSeen
publishes_tally seat v x y t e low tally = subst (λ y. TurnsAt IsShown seat v x y IsSeen) (sym e) (publishes seat v x (with_tally x t) (record { same = refl; no_less = low }) tally)

-- before anything is seen
pub begins : (b : Board) → IsTallyIn b.course b.tally → IsShown b (None ∷ [])
begins b tally = record {
  tally = tally;
  seen = λ j u e. ⊎_elim (λ (t : get_elem? [] j ≡ some (Some u)). absurd (nowhere j u t)) (λ (same : None ≡ Some u). absurd (nothing_seen u same)) (at_snoc [] None (Some u) j e);
}
  where
    nowhere : (j : ℕ) (u : Board) → get_elem? [] j ≡ some (Some u) → ⊥
    nowhere j u t = cc
