-- No window completes anything before and no tuple is settled, and one or the other is so then.
use Rattle.std.proofs.Common.{◌≡◌, ◌∙◌, ◌≤◌, ◌<◌, [], arith, inl, inr, refl, subst, sym, ⊎_elim}
use Rattle.std.specs.Prelude.{◌≢◌}
use Rattle.std.proofs.lemmas.Bool.{cases_lt}
use Rattle.stream_base.specs.Model.Slices.{unsettled}
use Rattle.stream_base.proofs.ChangeFacts.{changes_at_water}
use Rattle.stream_base.specs.Model.Moments.{moment}
use Rattle.plain_windows.proofs.Ahead.{completes_across}
use Rattle.key_windows.specs.Calls.{changes_by_move}
use Rattle.key_slicer.proofs.SettleFacts.{at_most_final}
use Rattle.key_slicer.proofs.StateFacts.{all_stand, fits_waiting, move_is}
use Rattle.key_slicer.proofs.engine.KeyStateKeyWindows.next_due.Goals as goal

pub returns-clause-none_before : goal.returns-clause-none_before
returns-clause-none_before g c = λ kept marks new fits rises below.
    let s = c.args.self.now in
    let d = c.args.defs.now in
    let m = moment kept marks c.args.water in
    move_is d s.key kept marks c.args.water new s.next fits.known.held.may_leave.kinds fits.known.lists rises
    ∙ c.next_due.ensures.none_before s.key m fits.known.without new (all_stand g.P.KeyPart.stands d m c.args.water s.next s.store s.parts.list.items refl fits.known) rises (omega (arith, below, c.min.ensures))

pub returns-clause-waits : goal.returns-clause-waits
returns-clause-waits g c = λ kept marks new fits rises below is.
    let s = c.args.self.now in
    let d = c.args.defs.now in
    let m = moment kept marks c.args.water in
    let f = fits.known in
    fits_waiting g.P.KeyPart.stands d g.met.P.KeyPart.waits s.key kept marks c.args.water new s.next s.store s.parts.list.items rises is
    (c.next_due.ensures.none_before s.key m f.without new (all_stand g.P.KeyPart.stands d m c.args.water s.next s.store s.parts.list.items refl f) rises (omega (arith, below, c.min.ensures)))
    (c.next_settled-settled.ensures.none_before kept marks new fits rises (omega (arith, below, c.min.ensures)) is) f

pub returns-clause-some_at : goal.returns-clause-some_at
returns-clause-some_at g c = λ kept marks fits final.
    let s = c.args.self.now in
    let d = c.args.defs.now in
    let m = moment kept marks c.args.water in
    let due = c.next_due.result in
    let settled = c.next_settled-settled.result in
    let first = c.min.result in
    ⊎_elim
    (λ (lt : due < settled).
    let same : due ≡ first = omega (arith, c.min.ensures) in
    let at = c.next_due.ensures.some_at s.key m fits.known.without (all_stand g.P.KeyPart.stands d m c.args.water s.next s.store s.parts.list.items refl fits.known) (omega (arith, same, final)) in (
      omega (arith, same, at.0),
      inl (subst (λ w. changes_by_move d s.key kept marks c.args.water w ≢ []) same (λ none. at.1 (sym (move_is d s.key kept marks c.args.water due s.next fits.known.held.may_leave.kinds fits.known.lists (omega (arith, at.0))) ∙ none))),
    ))
    (λ (le : settled ≤ due).
    let same : settled ≡ first = omega (arith, c.min.ensures) in
    let at = c.next_settled-settled.ensures.some_at kept marks fits (omega (arith, same, final)) in
    (omega (arith, same, at.0), inr (subst (λ w. unsettled d (moment kept marks w) ≢ unsettled d m) same at.1)))
    (cases_lt due settled)

-- what becomes complete or settled first does so from each watermark before it
pub returns-clause-exact : goal.returns-clause-exact
returns-clause-exact g c = λ kept marks fits. record {
  above = λ final. (returns-clause-some_at g c kept marks fits final).0;
  brings = λ old new is_old is_new rises early late.
      let s = c.args.self.now in
      let d = c.args.defs.now in
      let m = moment kept marks c.args.water in
      let f = fits.known in
      let due = c.next_due.result in
      let settled = c.next_settled-settled.result in
      let first = c.min.result in
      let stand = all_stand g.P.KeyPart.stands d m c.args.water s.next s.store s.parts.list.items refl f in
      let final = at_most_final new is_new in
      ⊎_elim
      (λ (lt : due < settled).
      let same : due ≡ first = omega (arith, c.min.ensures) in
      inl (λ none.
      completes_across d.windows s.key kept marks c.args.water old due new (omega (arith, same, late))
      (c.next_due.ensures.none_before s.key m f.without old stand rises (omega (arith, same, early)))
      (c.next_due.ensures.some_at s.key m f.without stand (omega (arith, same, late, final))).1
      (sym (changes_at_water d.windows s.key kept marks old new f.held.may_leave.kinds f.lists.kept.in_order (omega (arith, early, late))) ∙ none)))
      (λ (le : settled ≤ due).
      let same : settled ≡ first = omega (arith, c.min.ensures) in
      inr (c.next_settled-settled.ensures.across kept marks old new fits is_old is_new rises (omega (arith, same, early)) (omega (arith, same, late))))
      (cases_lt due settled);
}
