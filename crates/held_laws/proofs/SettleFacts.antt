-- Up to which time tuples are settled in all windows.
use Rattle.std.proofs.Common.{◌≡◌, ◌∙◌, ℕ, ◌-◌, ◌<◌, ◌≤◌, true, false, length, sym, subst, arith, inl, inr}
use Rattle.std.specs.Prelude.{◌⊎◌}
use Rattle.std.specs.List.{All, Contains, list_all}
use Rattle.std.proofs.lemmas.Bool.{cases_lt, false≢true, false_from_ne_true}
use Rattle.std.proofs.lemmas.List.{get_or_default}
use Rattle.std.proofs.lemmas.List.Elements.{Contains-get_or}
use Rattle.stream_base.specs.declared.def.Def.{Def}
use Rattle.stream_base.specs.declared.func.Func.TheVariants.{Count}
use Rattle.stream_base.specs.declared.kept.Kept.{Kept}
use Rattle.stream_base.specs.declared.kind.Kind.TheVariants.{Marks}
use Rattle.stream_base.specs.Limits.{Definitions}
use Rattle.stream_base.specs.Kinds.{IsKindWithin, is_events}
use Rattle.stream_base.specs.Model.Changes.{Moment}
use Rattle.stream_base.specs.Model.Slices.{is_settled, is_settled_in}
use Rattle.window_laws.specs.After.{at_water}
use Rattle.window_laws.specs.Positions.{AreKept}
use Rattle.window_laws.specs.Settled.{MayLeave, without_first}
use Rattle.window_laws.proofs.SettledFacts.{all_from, all_member, not_all}
use Rattle.window_laws.proofs.SettledMoves.{settled_lies_before}
use Rattle.key_parts.specs.Calls.{window_at}
use Rattle.held_laws.specs.Settling.{EachSettlesUpTo, IsLeast, IsSettledUpTo}
use Rattle.held_laws.proofs.AlikeFacts.{left_kept}

-- a window of the definitions stands at a place, and at each place stands one
window_place : (d : Definitions) (w : Def) → Contains d.windows w → (i : ℕ) × (i < length d.windows) × (window_at d i ≡ w)
window_place d w (i, l, e) = (i, l, get_or_default d.windows i (record { kind = Marks; func = Count }) w l ∙ e)

place_window : (d : Definitions) (i : ℕ) → i < length d.windows → Contains d.windows (window_at d i)
place_window d i l = Contains-get_or d.windows i (record { kind = Marks; func = Count }) l

module _ (d : Definitions) (m : Moment) (times : ℕ → ℕ) (time : ℕ) (kinds : All (λ w. IsKindWithin w.kind) d.windows) (a : AreKept m.kept) (some : list_all (λ w. is_events w.kind) d.windows ≡ false) (each : EachSettlesUpTo d m times) (least : IsLeast d m.water times time) where
  settled_before : (x : Kept) → Contains m.kept x → x.time < time → is_settled d m x ≡ true
  settled_before x c l = all_from (is_settled_in d.lateness m x) d.windows (λ w b.
      let p = window_place d w b in
      subst (λ w. is_settled_in d.lateness m x w ≡ true) p.2 ((each p.0 p.1).before x c (omega (arith, least.by_each p.0 p.1))))

  settled_lies : (x : Kept) → Contains m.kept x → is_settled d m x ≡ true → x.time < time
  settled_lies x c s = by least.is_one
    where
      by : (time ≡ m.water - d.lateness) ⊎ ((i : ℕ) × (i < length d.windows) × (time ≡ times i)) → x.time < time
      by (inl e) =
          let w = not_all (λ (w : Def). is_events w.kind) d.windows some in
          omega (arith, e, settled_lies_before d m w.0 x kinds a w.1 w.2 c s)
      by (inr (i, l, e)) = elim (cases_lt x.time time) [
        | inl g ↦ g
        | inr g ↦ absurd (false≢true (sym ((each i l).behind x c (omega (arith, e))) ∙ all_member (is_settled_in d.lateness m x) d.windows (window_at d i) s (place_window d i l)))
      ]

  up_to : IsSettledUpTo d m time
  up_to = record {
    before = settled_before;
    behind = λ x c l. false_from_ne_true (is_settled d m x) (λ s. let g : x.time < time = settled_lies x c s in not_both g l);
  }
    where
      not_both : {a b : ℕ} → a < b → b ≤ a → ⊥
      not_both l r = omega arith

pub settled_up_to_least : (d : Definitions) (m : Moment) (n water : ℕ) (times : ℕ → ℕ) (time : ℕ) → MayLeave d m n → list_all (λ w. is_events w.kind) d.windows ≡ false → EachSettlesUpTo d (at_water (without_first n m) water) times → IsLeast d water times time → IsSettledUpTo d (at_water (without_first n m) water) time
settled_up_to_least d m n water times time may some each least = up_to d (at_water (without_first n m) water) times time may.kinds (left_kept n m.kept may.kept) some each least
