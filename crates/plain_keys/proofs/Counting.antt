-- How many changes a tuple causes depends on its time alone.
use Rattle.std.proofs.Common.{◌≡◌, ◌≢◌, ◌∙◌, ℕ, ◌+◌, ◌-◌, Bool, true, false, cond, eqb, List, [], ◌∷◌, ◌++◌, length, map, ap, sym, refl}
use Rattle.std.specs.Prelude.{nat_lt}
use Rattle.std.specs.List.{Contains, enumerate_from, filter_map, flat_map}
use Rattle.std.proofs.lemmas.Bool.{eq-eqb, eqb-true, ne_eqb}
use Rattle.std.proofs.Math.ListN.{length-append}
use Rattle.stream_base.specs.declared.def.Def.{Def}
use Rattle.stream_base.specs.declared.kept.Kept.{Kept}
use Rattle.stream_base.specs.Model.Changes.{Moment, changes_between, emission, emissions, retraction, retractions, standing_at}
use Rattle.stream_base.specs.Model.Journal.{put_in_order}
use Rattle.stream_base.specs.Model.Windows.{instances_of, is_complete, standing_of}
use Rattle.stream_base.proofs.EventOrder.{put_in_order_cons}
use Rattle.stream_base.proofs.Members.{filter_members}
use Rattle.stream_base.proofs.Rising.{Contains-head, Contains-tail}
use Rattle.stream_base.specs.Model.Moments.{moment}
use Rattle.window_laws.specs.Instances.{with_each}
use Rattle.plain_keys.proofs.Standins.{come_mapped, gone_mapped, standing_mapped}
use Rattle.stream_base.proofs.KindFacts.{chosen_kept}

-- ---- a tuple in another's place
put_mapped : (r : Kept → Kept) (times : (y : Kept) → (r y).time ≡ y.time) (ks : List Kept) (x : Kept) → put_in_order (map r ks) (r x) ≡ map r (put_in_order ks x)
put_mapped r times [] x = refl
put_mapped r times (y ∷ ys) x =
    put_in_order_cons (r y) (map r ys) (r x)
    ∙ (λ i. cond (nat_lt (times x i) (times y i)) (r x ∷ r y ∷ map r ys) (r y ∷ put_mapped r times ys x i))
    ∙ by (nat_lt x.time y.time)
    ∙ ap (map r) (sym (put_in_order_cons y ys x))
  where
    by : (b : Bool) → cond b (r x ∷ r y ∷ map r ys) (r y ∷ map r (put_in_order ys x)) ≡ map r (cond b (x ∷ y ∷ ys) (y ∷ put_in_order ys x))
    by true = refl
    by false = refl

-- no kept tuple has the position
abbrev pub IsNew : List Kept → ℕ → Type 0
IsNew kept position = (z : Kept) → Contains kept z → z.position ≢ position

module _ (windows : List Def) (key : List ℕ) (kept : List Kept) (marks : List ℕ) (water : ℕ) (x y : Kept) (same_time : x.time ≡ y.time) (x_new : IsNew kept x.position) (y_new : IsNew kept y.position) where
  -- the one for the other
  swapped : Kept → Kept
  swapped z = cond (eqb z.position x.position) (record { position = y.position; time = z.time; value = y.value }) z

  times : (z : Kept) → (swapped z).time ≡ z.time
  unfolding swapped
  times z = by (eqb z.position x.position)
    where
      by : (b : Bool) → (cond b (record { position = y.position; time = z.time; value = y.value }) z).time ≡ z.time
      by true = refl
      by false = refl

  swapped_old : (z : Kept) → z.position ≢ x.position → swapped z ≡ z
  unfolding swapped
  swapped_old z ne = ap (λ b. cond b (record { position = y.position; time = z.time; value = y.value }) z) (ne_eqb z.position x.position ne)

  swapped_new : swapped x ≡ y
  unfolding swapped
  swapped_new =
      ap (λ b. cond b (record { position = y.position; time = x.time; value = y.value }) x) (eq-eqb x.position x.position refl)
      ∙ (λ i. record { position = y.position; time = same_time i; value = y.value })

  kept_stay : (ks : List Kept) → ((z : Kept) → Contains ks z → z.position ≢ x.position) → map swapped ks ≡ ks
  kept_stay [] h = refl
  kept_stay (z ∷ zs) h = λ i. swapped_old z (h z (Contains-head z zs)) i ∷ kept_stay zs (λ w c. h w (Contains-tail z zs w c)) i

  both_put : put_in_order kept y ≡ map swapped (put_in_order kept x)
  both_put = (λ i. put_in_order (sym (kept_stay kept x_new) i) (sym swapped_new i)) ∙ put_mapped swapped times kept x

  untold : (z w : Kept) → Contains kept z → eqb z.position (swapped w).position ≡ eqb z.position w.position
  unfolding swapped
  untold z w c = by (eqb w.position x.position) refl
    where
      by : (b : Bool) → eqb w.position x.position ≡ b → eqb z.position (cond b (record { position = y.position; time = w.time; value = y.value }) w).position ≡ eqb z.position w.position
      by true e =
          let is : w.position ≡ x.position = eqb-true w.position x.position e in
          ne_eqb z.position y.position (y_new z c) ∙ sym (ne_eqb z.position w.position (λ f. x_new z c (f ∙ is)))
      by false e = refl

  abbrev before : Moment
  before = moment kept marks water

  abbrev with : Kept → Moment
  with k = moment (put_in_order kept k) marks water

  stands : (def : Def) → standing_at def (with y) ≡ map (with_each swapped) (standing_at def (with x))
  stands def = ap (λ ks. standing_of def.kind ks marks water) both_put ∙ standing_mapped swapped times def.kind (put_in_order kept x) marks water

  gone_alike : (w : ℕ × Def) → retractions key before (with y) w ≡ retractions key before (with x) w
  gone_alike (window, def) =
      ap (λ now. filter_map (retraction window key def.func now) (standing_at def before)) (stands def)
      ∙ gone_mapped swapped times window key def.func (standing_at def (with x)) (standing_at def before)

  come_alike : (w : ℕ × Def) → length (emissions key before (with y) w) ≡ length (emissions key before (with x) w)
  come_alike (window, def) =
      ap (λ now. length (filter_map (emission window key def.func (standing_at def before)) now)) (stands def)
      ∙ come_mapped swapped times window key def.func (standing_at def before) (standing_at def (with x))
      (λ old c z d w. untold z w (chosen_kept def.kind kept marks old (filter_members (is_complete water) (instances_of def.kind kept marks) old c).0 z d))

  all_gone : (ws : List (ℕ × Def)) → flat_map (retractions key before (with y)) ws ≡ flat_map (retractions key before (with x)) ws
  all_gone [] = refl
  all_gone (w ∷ ws) = λ i. gone_alike w i ++ all_gone ws i

  all_come : (ws : List (ℕ × Def)) → length (flat_map (emissions key before (with y)) ws) ≡ length (flat_map (emissions key before (with x)) ws)
  all_come [] = refl
  all_come (w ∷ ws) =
      length-append (emissions key before (with y) w) (flat_map (emissions key before (with y)) ws)
      ∙ (λ i. come_alike w i + all_come ws i)
      ∙ sym (length-append (emissions key before (with x) w) (flat_map (emissions key before (with x)) ws))

  -- tuples of one time, in one place, cause as many changes
  pub as_many : length (changes_between windows key before (with y)) ≡ length (changes_between windows key before (with x))
  unfolding changes_between
  as_many =
      length-append (flat_map (retractions key before (with y)) (enumerate_from 0 windows)) (flat_map (emissions key before (with y)) (enumerate_from 0 windows))
      ∙ (λ i. length (all_gone (enumerate_from 0 windows) i) + all_come (enumerate_from 0 windows) i)
      ∙ sym (length-append (flat_map (retractions key before (with x)) (enumerate_from 0 windows)) (flat_map (emissions key before (with x)) (enumerate_from 0 windows)))
