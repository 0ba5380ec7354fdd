-- A late entry is dropped, and another changes what it changes of each key.
use Rattle.std.proofs.Common.{◌≡◌, ◌∙◌, ◌++◌, ◌∷◌, [], true, false, ap, sym, rules}
use Rattle.std.specs.List.{flat_map}
use Rattle.stream_base.specs.declared.change.Change.TheVariants.{Dropped}
use Rattle.stream_base.specs.Model.Changes.{changes_of_key}
use Rattle.stream_base.specs.Model.Watermark.{water_of}
use Rattle.stream_base.specs.Model.What.{is_late}
use Rattle.model_laws.proofs.ChangesAfter.{late_is_dropped, on_time_changes}
use Rattle.report_check.proofs.Following.{ledger_by_late}
use Rattle.report_check.proofs.ledger.Ledger.take_in.Goals as goal

pub returns-then-is_late-clause-ledger : goal.returns-then-is_late-clause-ledger
returns-then-is_late-clause-ledger g c =
    let d = c.args.defs.now in
    let e = c.args.entry.now in
    let past = c.args.past.now in
    let ready = c.in_ok-add.ensures.ready in
    let late : is_late d.lateness (water_of c.args.self.now.sources past) e.what ≡ true =
    (λ i. is_late (sym c.lateness.ensures.value i) (sym ready.water_is i) e.what) ∙ sym c.is_late.ensures ∙ c.if-is_late.true in
    ledger_by_late d c.args.self.now.sources past c.args.upto.now e c.add.new.self ready late c.requires.upto

pub returns-then-is_late-clause-changes : goal.returns-then-is_late-clause-changes
returns-then-is_late-clause-changes g c =
    let d = c.args.defs.now in
    let e = c.args.entry.now in
    let past = c.args.past.now in
    let ready = c.in_ok-add.ensures.ready in
    let late : is_late d.lateness (water_of c.args.self.now.sources past) e.what ≡ true =
    (λ i. is_late (sym c.lateness.ensures.value i) (sym ready.water_is i) e.what) ∙ sym c.is_late.ensures ∙ c.if-is_late.true in
    let put : c.push.new.self.items ≡ c.args.out.now.items ++ Dropped ∷ [] = search rules in
    put ∙ ap (λ cs. c.args.out.now.items ++ cs) (sym (late_is_dropped d c.args.self.now.sources past e late))

pub returns-clause-changes : goal.returns-clause-changes
returns-clause-changes g c =
    let d = c.args.defs.now in
    let e = c.args.entry.now in
    let past = c.args.past.now in
    let ready = c.in_ok-add.ensures.ready in
    let on_time : is_late d.lateness (water_of c.args.self.now.sources past) e.what ≡ false =
    (λ i. is_late (sym c.lateness.ensures.value i) (sym ready.water_is i) e.what) ∙ sym c.is_late.ensures ∙ c.if-is_late.false in
    c.in_ok-follow.ensures.changes
    ∙ ap (λ cs. c.args.out.now.items ++ cs)
    ((λ i. flat_map (changes_of_key d (ready.of_sources i) past e) (ready.keys_are i)) ∙ sym (on_time_changes d c.args.self.now.sources past e on_time))
